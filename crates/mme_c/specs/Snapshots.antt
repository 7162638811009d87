-- What the calls that save and restore make of a handle, and what they write.
use Rattle.std.specs.Prelude.{◌≡◌, ◌⊎◌, ℕ, ◌<◌, ◌≤◌, nat_lt, Bool, true, List, [], ◌++◌, length, drop, Option, Some, None, Result, Ok, Err, if◌then◌else◌}
use Rattle.mme_core.specs.World.{World}
use Rattle.mme_snapshot.specs.declared.fault.RestoreFault.{RestoreFault}
use Rattle.mme_snapshot.specs.declared.fault.RestoreFault.TheVariants as restore
use Rattle.mme_snapshot.specs.declared.fault.SaveFault.{SaveFault}
use Rattle.mme_snapshot.specs.declared.fault.SaveFault.TheVariants as save
use Rattle.mme_snapshot.specs.declared.part.Part.{Part}
use Rattle.mme_snapshot.specs.declared.part.Part.TheVariants.{First, Stranger, Subscriber}
use Rattle.mme_snapshot.specs.declared.saving.SavedPart.{SavedPart}
use Rattle.mme_snapshot.specs.Restored.{restored, restored_within}
use Rattle.mme_snapshot.specs.Saved.{IsSavedPart}
use Rattle.trace_progress.specs.declared.progress.Progress.TheVariants.{Running}
use Rattle.c_session.specs.declared.refusal.Refusal.{Refusal}
use Rattle.c_session.specs.declared.refusal.Refusal.TheVariants.{BadNumber, NoMemory, NotSaved, OtherVersion, NoSnapshot, TooMuchWork}
use Rattle.c_session.specs.declared.session.Session.{Session}
use Rattle.c_session.specs.Refusals.{◌>>=◌, number_of}
use Rattle.c_session.specs.Sessions.{world_in}
use Rattle.mme_c.specs.declared.snapshots.SnapshotFault.{SnapshotFault}
use Rattle.mme_c.specs.Calls.{IsKept}
use Rattle.mme_c.specs.Places.{part_at, place_after, place_in}

-- ---- a part that is saved

-- whether an MME has such a part: that of a slot, where a subscriber has the slot
abbrev pub has_part : World → Part → Bool
has_part w First = true
has_part w (Stranger least) = true
has_part w (Subscriber slot) = nat_lt slot (length w.sight.profiles)

abbrev pub part_in : World → Part → Result (World × Part) Refusal
part_in w part = if has_part w part then Ok (w, part) else Err BadNumber

-- the MME whose part has this place, and the part
abbrev pub part_wanted : Session → ℕ → Result (World × Part) Refusal
part_wanted s place = part_at place >>= (λ part. world_in s.progress >>= (λ w. part_in w part))

-- it is saved; or memory ran out, or it has a state that a snapshot can't have
abbrev pub Saves : Result (World × Part) Refusal → Result SavedPart Refusal → Type 0
Saves (Ok x) (Ok p) = IsSavedPart x.0 x.1 p.octets p.next
Saves (Ok x) (Err refusal) = (refusal ≡ NoMemory) ⊎ (refusal ≡ NotSaved)
Saves (Err fault) (Ok p) = ⊥
Saves (Err fault) (Err refusal) = refusal ≡ fault

-- the refusal of a part of a snapshot
abbrev pub of_save : SaveFault → Refusal
of_save save.First = NotSaved
of_save (save.Stranger id) = NotSaved
of_save (save.Subscriber slot) = NotSaved
of_save save.NoMemory = NoMemory

-- its length is told. Its octets are at the start of the buffer, and the place is that of the next part; or there is no room for
-- them (24)
abbrev pub IsPart : List ℕ → Option Part → ℕ → List ℕ → ℕ → ℕ → List ℕ → ℕ → Type 0
IsPart octets next place buffer answer place' buffer' long' =
    (long' ≡ length octets)
    × (((answer ≡ 0) × (length octets ≤ length buffer) × (buffer' ≡ octets ++ drop (length octets) buffer)
    × (place' ≡ place_after next))
    ⊎ ((answer ≡ 24) × (length buffer < length octets) × (buffer' ≡ buffer) × (place' ≡ place)))

-- a call that is refused writes nothing
abbrev pub IsUnwritten : ℕ → List ℕ → ℕ → ℕ → List ℕ → ℕ → Type 0
IsUnwritten place buffer long place' buffer' long' = (place' ≡ place) × (buffer' ≡ buffer) × (long' ≡ long)

abbrev pub IsSaved : Result SavedPart Refusal → ℕ → List ℕ → ℕ → ℕ → ℕ → List ℕ → ℕ → Type 0
IsSaved (Ok p) place buffer long answer place' buffer' long' = IsPart p.octets p.next place buffer answer place' buffer' long'
IsSaved (Err refusal) place buffer long answer place' buffer' long' =
    (answer ≡ number_of refusal) × IsUnwritten place buffer long place' buffer' long'

-- the part at a place of the MME that a handle holds; an empty one has none (21)
abbrev pub IsSave : Option Session → ℕ → List ℕ → ℕ → ℕ → ℕ → List ℕ → ℕ → Type 0
IsSave None place buffer long answer place' buffer' long' =
    (answer ≡ 21) × IsUnwritten place buffer long place' buffer' long'
IsSave (Some s) place buffer long answer place' buffer' long' =
    (saved : Result SavedPart Refusal) × Saves (part_wanted s place) saved
    × IsSaved saved place buffer long answer place' buffer' long'

-- ---- a snapshot that is restored

-- the refusal of octets that were to be a snapshot
abbrev pub of_restore : RestoreFault → Refusal
of_restore (restore.Version version) = OtherVersion
of_restore restore.Octets = NoSnapshot
of_restore restore.More = NoSnapshot
of_restore restore.Network = NoSnapshot
of_restore (restore.Profile slot fault) = NoSnapshot
of_restore (restore.Subscriber slot) = NoSnapshot
of_restore (restore.Stranger id) = NoSnapshot
of_restore (restore.Id slot) = NoSnapshot
of_restore restore.Work = TooMuchWork
of_restore restore.NoMemory = NoMemory

abbrev pub fault_of : RestoreFault → SnapshotFault
fault_of fault = record { refusal = of_restore fault; place = place_in fault }

-- the MME runs, and no event has happened to it here
abbrev pub resumed : Result World RestoreFault → Result Session SnapshotFault
resumed (Ok w) = Ok (record { progress = Running w; replies = [] })
resumed (Err fault) = Err (fault_of fault)

-- octets make the MME that they restore to, for so many next hops at most; or they are refused for their first fault, for the work
-- that they would take, or because memory ran out
abbrev pub IsResumed : List ℕ → ℕ → Result Session SnapshotFault → Type 0
IsResumed octets work (Ok s) = (resumed (restored octets) ≡ Ok s) × (restored_within (Some work) octets ≡ restored octets)
IsResumed octets work (Err fault) =
    (resumed (restored octets) ≡ Err fault)
    ⊎ ((fault ≡ fault_of restore.Work) × (restored_within (Some work) octets ≡ Err restore.Work))
    ⊎ (fault ≡ fault_of restore.NoMemory)

abbrev pub place_or : Option ℕ → ℕ → ℕ
place_or None before = before
place_or (Some place) before = place

-- an empty handle holds the MME, or there is no memory for what the handle keeps (4); or it stays empty, with the number why
abbrev pub IsHeld : Result Session SnapshotFault → ℕ → ℕ → Option Session → ℕ → Type 0
IsHeld (Ok s) place answer after place' = IsKept s None answer after × (place' ≡ place)
IsHeld (Err fault) place answer after place' =
    (answer ≡ number_of fault.refusal) × (after ≡ None) × (place' ≡ place_or fault.place place)

-- an empty handle holds the MME of a snapshot, or stays empty. One that isn't empty keeps what it holds (22)
abbrev pub IsRestore : Option Session → List ℕ → ℕ → ℕ → ℕ → Option Session → ℕ → Type 0
IsRestore None octets work place answer after place' =
    (made : Result Session SnapshotFault) × IsResumed octets work made × IsHeld made place answer after place'
IsRestore (Some s) octets work place answer after place' = (answer ≡ 22) × (after ≡ Some s) × (place' ≡ place)
