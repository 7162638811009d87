-- What saving and restoring make of a handle, by what a session answers.
use Rattle.std.proofs.Common.{◌≡◌, ◌≢◌, inl, inr, ℕ, List, length, Option, Some, None, Ok, Err, refl, sym, ◌∙◌, arith}
use Rattle.mme_snapshot.specs.declared.part.Part.{Part}
use Rattle.mme_snapshot.specs.declared.saving.SavedPart.{SavedPart}
use Rattle.c_session.specs.declared.refusal.Refusal.{Refusal}
use Rattle.c_session.specs.declared.session.Session.{Session}
use Rattle.c_session.specs.Refusals.{number_of}
use Rattle.mme_c.specs.declared.snapshots.SnapshotFault.{SnapshotFault}
use Rattle.mme_c.specs.Asked.{IsCopied}
use Rattle.mme_c.specs.Calls.{IsKept}
use Rattle.mme_c.specs.Places.{place_after}
use Rattle.mme_c.specs.Snapshots.{IsPart, IsRestore, IsResumed, IsSave, Saves, part_wanted, place_or}

-- a part is copied, or there is no room for it
pub part_written : (octets : List ℕ) (next : Option Part) (place : ℕ) (buffer : List ℕ) (answer : ℕ) (buffer' : List ℕ)
    → IsCopied octets buffer answer buffer' → answer ≡ 0
    → IsPart octets next place buffer answer (place_after next) buffer' (length octets)
part_written octets next place buffer answer buffer' (inl c) e = (refl, inl (c.0, c.1, c.2, refl))
part_written octets next place buffer answer buffer' (inr c) e = absurd (let never : 24 ≡ 0 = sym c.0 ∙ e in omega arith)

pub part_unwritten : (octets : List ℕ) (next : Option Part) (place : ℕ) (buffer : List ℕ) (answer : ℕ) (buffer' : List ℕ)
    → IsCopied octets buffer answer buffer' → answer ≢ 0 → IsPart octets next place buffer answer place buffer' (length octets)
part_unwritten octets next place buffer answer buffer' (inl c) ne = absurd (ne c.0)
part_unwritten octets next place buffer answer buffer' (inr c) ne = (refl, inr (c.0, c.1, c.2, refl))

pub part_saved : (s : Session) (place : ℕ) (buffer : List ℕ) (long answer place' : ℕ) (buffer' : List ℕ) (long' : ℕ) (p : SavedPart)
    → Saves (part_wanted s place) (Ok p) → IsPart p.octets p.next place buffer answer place' buffer' long'
    → IsSave (Some s) place buffer long answer place' buffer' long'
part_saved s place buffer long answer place' buffer' long' p saves is = (Ok p, saves, is)

pub part_refused : (s : Session) (place : ℕ) (buffer : List ℕ) (long : ℕ) (refusal : Refusal)
    → Saves (part_wanted s place) (Err refusal) → IsSave (Some s) place buffer long (number_of refusal) place buffer long
part_refused s place buffer long refusal saves = (Err refusal, saves, (refl, (refl, refl, refl)))

pub restored_kept : (octets : List ℕ) (work place answer : ℕ) (s : Session) (after : Option Session)
    → IsResumed octets work (Ok s) → IsKept s None answer after → IsRestore None octets work place answer after place
restored_kept octets work place answer s after resumed kept = (Ok s, resumed, (kept, refl))

pub restored_refused : (octets : List ℕ) (work place : ℕ) (fault : SnapshotFault) → IsResumed octets work (Err fault)
    → IsRestore None octets work place (number_of fault.refusal) None (place_or fault.place place)
restored_refused octets work place fault resumed = (Err fault, resumed, (refl, refl, refl))
