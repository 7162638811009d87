-- The places of the parts of a snapshot, which are numbers.
use Rattle.std.specs.Prelude.{ℕ, ◌+◌, ◌-◌, ◌==◌, nat_le, nat_lt, Option, Some, None, Result, Ok, Err, if◌then◌else◌}
use Rattle.identity_slots.specs.Ids.{slots}
use Rattle.mme_snapshot.specs.declared.fault.RestoreFault.{RestoreFault}
use Rattle.mme_snapshot.specs.declared.fault.RestoreFault.TheVariants as restore
use Rattle.mme_snapshot.specs.declared.part.Part.{Part}
use Rattle.mme_snapshot.specs.declared.part.Part.TheVariants.{First, Stranger, Subscriber}
use Rattle.c_session.specs.declared.refusal.Refusal.{Refusal}
use Rattle.c_session.specs.declared.refusal.Refusal.TheVariants.{BadNumber}

-- what stands first is at 0, a stranger at 2^33 and its id, a subscriber at 2^34 and its slot

abbrev pub of_strangers : ℕ
of_strangers = 8589934592

abbrev pub of_subscribers : ℕ
of_subscribers = 17179869184

-- no id is as great as this, so from here on there is no stranger
abbrev pub no_id : ℕ
no_id = 4294967296

-- and after the last part there is 2^64 - 1
abbrev pub after_all : ℕ
after_all = 18446744073709551615

abbrev pub place_of : Part → ℕ
place_of First = 0
place_of (Stranger least) = of_strangers + (if nat_le least no_id then least else no_id)
place_of (Subscriber slot) = of_subscribers + slot

abbrev pub place_after : Option Part → ℕ
place_after None = after_all
place_after (Some part) = place_of part

-- the part as it is told by a place
abbrev pub told_part : Part → Part
told_part First = First
told_part (Stranger least) = Stranger (if nat_le least no_id then least else no_id)
told_part (Subscriber slot) = Subscriber slot

-- the part that has a place
abbrev pub part_at : ℕ → Result Part Refusal
part_at place =
    if place == 0 then Ok First
    else if nat_lt place of_strangers then Err BadNumber
    else if nat_le place (of_strangers + no_id) then Ok (Stranger (place - of_strangers))
    else if nat_lt place of_subscribers then Err BadNumber
    else if nat_lt place (of_subscribers + slots) then Ok (Subscriber (place - of_subscribers))
    else Err BadNumber

-- where a fault is: of octets that are no snapshot the place of the part, if it is known which, and of another version the version
abbrev pub place_in : RestoreFault → Option ℕ
place_in (restore.Version version) = Some version
place_in restore.Octets = Some after_all
place_in restore.More = Some after_all
place_in restore.Network = Some (place_of First)
place_in (restore.Profile slot fault) = Some (place_of (Subscriber slot))
place_in (restore.Subscriber slot) = Some (place_of (Subscriber slot))
place_in (restore.Stranger id) = Some (place_of (Stranger id))
place_in (restore.Id slot) = Some (place_of (Subscriber slot))
place_in restore.Work = None
place_in restore.NoMemory = None
