-- What is played of the lines of a text, one after another, as `plays` says it of each, what is left then, and what a run over them
-- reads and writes.
use Rattle.std.specs.Prelude.{◌≡◌, ℕ, ◌+◌, ◌<◌, ◌≤◌, ◌⊎◌, ⊤, Bool, true, List, [], ◌∷◌, ◌++◌, length, take, Option, Result, Ok, Err}
use Rattle.std.specs.Io.KnownBytes.{Appends, Consumes}
use Rattle.trace_words.specs.declared.fault.TraceFault.TheVariants.{TooLong}
use Rattle.trace_progress.specs.declared.fault.PlayFault.{PlayFault}
use Rattle.trace_progress.specs.declared.fault.PlayFault.TheVariants.{Trace, Read, Write, NoMemory}
use Rattle.trace_progress.specs.Text.{breaks, lines_of}
use Rattle.trace_run.specs.declared.under_way.LineUnderWay.{LineUnderWay}
use Rattle.trace_run.specs.OneLine.{LineRelation}

-- ---- whole lines, of which the first has that number

-- all of them are played, one after another
abbrev pub PlaysAll : {S : Type 0} → LineRelation S → S → ℕ → List (List ℕ) → S → List ℕ → Type 0
PlaysAll plays old number [] new written = (new ≡ old) × (written ≡ [])
PlaysAll {S} plays old number (text ∷ texts) new written =
    (mid : S) × (first : List ℕ) × (others : List ℕ) × plays old number text (Ok tt) mid first
    × PlaysAll plays mid (number + 1) texts new others × (written ≡ first ++ others)

-- the first of them is answered with that fault, and leaves what a line with that fault does
abbrev pub HasFault : {S : Type 0} → LineRelation S → S → ℕ → List (List ℕ) → PlayFault → S → List ℕ → Type 0
HasFault plays old number lines fault new written =
    (text : List ℕ) × (others : List (List ℕ)) × (lines ≡ text ∷ others) × plays old number text (Err fault) new written

-- the first of them is longer than a line may be
abbrev pub IsTooLong : List (List ℕ) → Type 0
IsTooLong lines = (text : List ℕ) × (others : List (List ℕ)) × (lines ≡ text ∷ others) × (40000 < length text)

-- none of them is played
abbrev pub IsUnplayed : {S : Type 0} → S → S → List ℕ → Type 0
IsUnplayed old new written = (new ≡ old) × (written ≡ [])

-- none of them is played, or the first has some fault
abbrev pub IsCutShort : {S : Type 0} → LineRelation S → S → ℕ → List (List ℕ) → S → List ℕ → Type 0
IsCutShort plays old number lines new written =
    IsUnplayed old new written ⊎ ((fault : PlayFault) × HasFault plays old number lines fault new written)

-- the first of them isn't done: it has that fault or is too long, or else playing is cut short there, by a read before it is played
abbrev pub StopsAt : {S : Type 0} → LineRelation S → S → ℕ → List (List ℕ) → PlayFault → S → List ℕ → Type 0
StopsAt plays old number lines (Trace line fault) new written =
    (line ≡ number)
    × (HasFault plays old number lines (Trace line fault) new written
    ⊎ ((fault ≡ TooLong) × IsTooLong lines × IsUnplayed old new written))
StopsAt plays old number lines NoMemory new written =
    IsUnplayed old new written ⊎ HasFault plays old number lines NoMemory new written
StopsAt plays old number lines Write new written = IsCutShort plays old number lines new written
StopsAt plays old number lines Read new written = IsUnplayed old new written

-- some of them are played, and the next one isn't done
pub record StopsIn {S : Type 0} (plays : LineRelation S) (old : S) (number : ℕ) (lines : List (List ℕ))
    (fault : PlayFault) (new : S) (written : List ℕ) : Type 0 where
  pub texts : List (List ℕ)
  pub rest : List (List ℕ)
  pub mid : S
  pub before : List ℕ
  pub after : List ℕ
  pub parted : lines ≡ texts ++ rest
  pub played : PlaysAll plays old number texts mid before
  pub stops : StopsAt plays mid (number + length texts) rest fault new after
  pub joined : written ≡ before ++ after

-- they are played to their end, or up to where a fault stops it
abbrev pub PlaysEach : {S : Type 0} → LineRelation S → S → ℕ → List (List ℕ) → Result (Unit {0}) PlayFault → S → List ℕ → Type 0
PlaysEach plays old number lines (Ok _) new written = PlaysAll plays old number lines new written
PlaysEach plays old number lines (Err fault) new written = StopsIn plays old number lines fault new written

-- ---- a piece of a text

-- less than a line stands there
abbrev pub IsReady : List ℕ → Type 0
IsReady octets = (breaks octets ≡ 0) × (length octets ≤ 40000)

-- with these octets before it, a piece ends these lines, and leaves those octets of the next one
abbrev pub EndsLines : List ℕ → List ℕ → List (List ℕ) → List ℕ → Type 0
EndsLines octets piece texts left =
    ((more : List ℕ) → lines_of (octets ++ (piece ++ more)) ≡ texts ++ lines_of (left ++ more)) × (length texts ≡ breaks piece)

-- a fault is of a line before that number, or of one that is too long already; a piece is no read
abbrev pub IsSeen : ℕ → PlayFault → Type 0
IsSeen next (Trace line fault) = (fault ≡ TooLong) ⊎ (line < next)
IsSeen next NoMemory = ⊤
IsSeen next Write = ⊤
IsSeen next Read = ⊥

-- what is played of a piece that the line under way goes on with: the lines that end in it, or up to where a fault stops it,
-- whatever comes after the piece
abbrev pub Feeds : {S : Type 0} → LineRelation S → S → LineUnderWay → List ℕ → Result (Unit {0}) PlayFault → S → LineUnderWay
    → List ℕ → Type 0
Feeds plays old line piece (Ok _) new next written =
    (texts : List (List ℕ)) × PlaysAll plays old line.number texts new written
    × EndsLines line.octets.items piece texts next.octets.items
    × IsReady next.octets.items × (next.number ≡ line.number + length texts)
Feeds plays old line piece (Err fault) new next written =
    ((more : List ℕ) → StopsIn plays old line.number (lines_of (line.octets.items ++ (piece ++ more))) fault new written)
    × IsSeen (line.number + breaks piece) fault

-- the same of the first octets of a piece, up to the end of the line: how many they are
abbrev pub FeedsFront : {S : Type 0} → LineRelation S → S → LineUnderWay → List ℕ → Result ℕ PlayFault → S → LineUnderWay → List ℕ
    → Type 0
FeedsFront plays old line piece (Ok count) new next written =
    (0 < count) × (count ≤ length piece) × Feeds plays old line (take count piece) (Ok tt) new next written
FeedsFront plays old line piece (Err fault) new next written = Feeds plays old line piece (Err fault) new next written

-- ---- a whole text

-- the end was met, or the line was whole, or it was too long already
abbrev pub ReadsFarEnough : List ℕ → Bool → Result (Unit {0}) PlayFault → Type 0
ReadsFarEnough read ended (Ok _) = ended ≡ true
ReadsFarEnough read ended (Err (Trace line fault)) = (ended ≡ true) ⊎ (line ≤ breaks read) ⊎ (fault ≡ TooLong)
ReadsFarEnough read ended (Err Read) = ⊤
ReadsFarEnough read ended (Err Write) = ⊤
ReadsFarEnough read ended (Err NoMemory) = ⊤

-- what a run left, read, and wrote of the lines of that text, in the known octets of its reader and its writer
abbrev pub PlaysRead : {S : Type 0} → LineRelation S → S → S → Option (List ℕ) → Option (List ℕ) → Option (List ℕ) → Option (List ℕ)
    → Bool → Result (Unit {0}) PlayFault → Type 0
PlaysRead plays old new left_old left_new held_old held_new ended result =
    (read : List ℕ) × (written : List ℕ) × Consumes left_old left_new read × Appends held_old held_new written
    × PlaysEach plays old 1 (lines_of read) result new written × ReadsFarEnough read ended result
