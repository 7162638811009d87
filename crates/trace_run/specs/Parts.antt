-- What the line that is under way takes of a piece of the text.
use Rattle.std.specs.Prelude.{◌≡◌, ℕ, ◌<◌, ◌≤◌, List, [], ◌++◌, length, take, slice_index, Option, Some, None, Result, Ok, Err}
use Rattle.trace_words.specs.declared.fault.TraceFault.TheVariants.{TooLong}
use Rattle.trace_progress.specs.declared.fault.PlayFault.{PlayFault}
use Rattle.trace_progress.specs.declared.fault.PlayFault.TheVariants.{Trace, Read, Write, NoMemory}
use Rattle.trace_progress.specs.Text.{breaks}

-- the line has gone on by a part without an LF, and isn't too long
abbrev pub GoesOnBy : List ℕ → List ℕ → List ℕ → Type 0
GoesOnBy part old new = (breaks part ≡ 0) × (new ≡ old ++ part) × (length new ≤ 40000)

-- of the line with that number: it has the piece, or what stands before the piece's first LF; or it would be too long by some front
-- of the piece without an LF, or finds no memory, and stays as it was
abbrev pub TakesPart : ℕ → List ℕ → List ℕ → Result (Option ℕ) PlayFault → List ℕ → Type 0
TakesPart number old piece (Ok None) new = GoesOnBy piece old new
TakesPart number old piece (Ok (Some end)) new =
    (end < length piece) × (slice_index piece end ≡ 10) × GoesOnBy (take end piece) old new
TakesPart number old piece (Err (Trace line fault)) new =
    (line ≡ number) × (fault ≡ TooLong)
    × ((count : ℕ) × (breaks (take count piece) ≡ 0) × (40000 < length (old ++ take count piece))) × (new ≡ old)
TakesPart number old piece (Err NoMemory) new = new ≡ old
TakesPart number old piece (Err Read) new = ⊥
TakesPart number old piece (Err Write) new = ⊥

-- of the line that is under way nothing has come, and the piece has all of it, up to an LF
abbrev pub LiesWhole : List ℕ → List ℕ → ℕ → Type 0
LiesWhole line piece end = (line ≡ []) × (end < length piece) × (slice_index piece end ≡ 10) × (breaks (take end piece) ≡ 0)
