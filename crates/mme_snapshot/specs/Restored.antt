-- The MME that octets are a snapshot of.
use Rattle.std.specs.Prelude.{ℕ, zero, suc, ◌+◌, ◌==◌, Bool, false, not, nat_lt, if◌then◌else◌, List, length, map, Option, Some, None, Result, Ok, Err}
use Rattle.std.specs.Option.{option_map_or}
use Rattle.per_streams.specs.declared.fault.PerFault.{PerFault}
use Rattle.per_streams.specs.Bits.{Place, ◌>>=◌, align_at, end_at, start}
use Rattle.per_streams.specs.Each.{times}
use Rattle.per_bits.specs.Formats.{Format, Value, number}
use Rattle.per_bits.specs.Reading.{read_at}
use Rattle.nas_elements.specs.Digits.{imsi_of}
use Rattle.identity_slots.specs.declared.profile.Profile.{Profile}
use Rattle.identity_slots.specs.declared.provision.ProvisionFault.{ProvisionFault}
use Rattle.identity_slots.specs.Provisioned.{add_fault}
use Rattle.stranger_machine.specs.declared.table.Known.{Known}
use Rattle.mme_types.specs.declared.stations.StationState.{StationState}
use Rattle.mme_core.specs.World.{World}
use Rattle.snapshot_formats.specs.Formats.{saved_head, saved_station, saved_stranger, saved_subscriber}
use Rattle.mme_snapshot.specs.declared.fault.RestoreFault.{RestoreFault}
use Rattle.mme_snapshot.specs.declared.fault.RestoreFault.TheVariants as faults
use Rattle.mme_snapshot.specs.declared.parts.Head.{Head}
use Rattle.mme_snapshot.specs.Images.{empty_world, fits_stranger, fits_subscriber, hops_of, is_label, is_placed, named_head, named_profile, named_station, solo_of, with_known, with_subscriber}

-- A snapshot is a row of parts: the version, what stands first, 128 stations; how many strangers there are, and each of them; how
-- many subscribers, and each of them. What is read of each is looked at before the next is read.

-- the version that is read and written
abbrev pub version : ℕ
version = 1

-- an MME so far, and how many next hops were derived for it (TS 33.401 clause A.4)
pub record Built : Type 0 where
  pub world : World
  pub hops : ℕ

infixl 10 ◌>=>◌
abbrev pub ◌>=>◌ : {A B : Type 0} → Result A RestoreFault → (A → Result B RestoreFault) → Result B RestoreFault
(Ok x) >=> f = f x
(Err e) >=> f = Err e

-- octets that spell no part at their place
abbrev pub as_octets : {A : Type 0} → Result A PerFault → Result A RestoreFault
as_octets (Ok x) = Ok x
as_octets (Err e) = Err faults.Octets

-- octets after the last part
abbrev pub as_more : {A : Type 0} → Result A PerFault → Result A RestoreFault
as_more (Ok x) = Ok x
as_more (Err e) = Err faults.More

-- a part, and zeros up to the next octet
unfoldable pub part_at : (f : Format) → Place → Result (Value f × Place) PerFault
part_at f s = read_at f s >>= λ v. align_at v.1 >>= λ a. Ok (v.0, a.1)

-- a step, made a number of times
unfoldable pub repeated : {S : Type 0} → (S → Result S RestoreFault) → ℕ → S → Result S RestoreFault
repeated step zero s = Ok s
repeated step (suc n) s = step s >=> repeated step n

-- ---- what stands first

abbrev pub head_at : Place → Result (Head × Place) RestoreFault
head_at s = as_octets (part_at saved_head s) >=> λ h. if is_label h.0.0.1.1.1.0 then Ok (named_head h.0, h.1) else Err faults.Network

abbrev pub stations_at : Place → Result (List StationState × Place) RestoreFault
stations_at s = as_octets (times (part_at saved_station) 128 s) >=> λ t. Ok (map named_station t.0, t.1)

-- ---- strangers

abbrev pub stranger_added : Built → Value saved_stranger → Result Built RestoreFault
stranger_added b v =
    if fits_stranger b.world.strangers v then Ok (record { world = with_known b.world v; hops = b.hops })
    else Err (faults.Stranger v.0)

abbrev pub stranger_at_place : Built × Place → Result (Built × Place) RestoreFault
stranger_at_place s = as_octets (part_at saved_stranger s.1) >=> λ v. stranger_added s.0 v.0 >=> λ b. Ok (b, v.1)

-- how many they are, and each of them
abbrev pub strangers_at : Built → Place → Result (Built × Place) RestoreFault
strangers_at b s = as_octets (part_at (number 0 4294967295) s) >=> λ n. repeated stranger_at_place n.0 (b, n.1)

-- ---- subscribers

abbrev pub known_or : Option ProvisionFault → ℕ → Profile → Result Profile RestoreFault
known_or None slot p = Ok p
known_or (Some fault) slot p = Err (faults.Profile slot fault)

-- an IMSI of 14 or 15 digits, which no other subscriber has, and an address that no other has
abbrev pub profile_in : World → Value saved_subscriber → Result Profile RestoreFault
profile_in w v =
    option_map_or (λ imsi. known_or (add_fault (named_profile imsi v) w.sight.profiles) (length w.subscribers) (named_profile imsi v))
    (imsi_of v.0) (Err (faults.Subscriber (length w.subscribers)))

abbrev pub is_over : Option ℕ → ℕ → Bool
is_over None hops = false
is_over (Some most) hops = nat_lt most hops

-- a state that can be; a connection that nobody else has
abbrev pub refusal_of : List Known → ℕ → Value saved_subscriber → Option RestoreFault
refusal_of ks slot v =
    if not (fits_subscriber v) then Some (faults.Subscriber slot)
    else if not (is_placed ks slot (solo_of v).connection) then Some (faults.Id slot)
    else None

abbrev pub unless_refused : Option RestoreFault → Built → Result Built RestoreFault
unless_refused None b = Ok b
unless_refused (Some fault) b = Err fault

-- and next hops within the limit, if there is one
abbrev pub profiled_added : Option ℕ → Built → Value saved_subscriber → Profile → Result Built RestoreFault
profiled_added most b v p =
    if is_over most (b.hops + hops_of v) then Err faults.Work
    else unless_refused (refusal_of b.world.strangers (length b.world.subscribers) v)
    (record { world = with_subscriber b.world p v; hops = b.hops + hops_of v })

abbrev pub subscriber_added : Option ℕ → Built → Value saved_subscriber → Result Built RestoreFault
subscriber_added most b v = profile_in b.world v >=> profiled_added most b v

abbrev pub subscriber_at_place : Option ℕ → Built × Place → Result (Built × Place) RestoreFault
subscriber_at_place most s = as_octets (part_at saved_subscriber s.1) >=> λ v. subscriber_added most s.0 v.0 >=> λ b. Ok (b, v.1)

abbrev pub subscribers_at : Option ℕ → Built → Place → Result (Built × Place) RestoreFault
subscribers_at most b s = as_octets (part_at (number 0 32768) s) >=> λ n. repeated (subscriber_at_place most) n.0 (b, n.1)

-- ---- the whole

abbrev pub begun : Head → List StationState → Built
begun h stations = record { world = empty_world h stations; hops = 0 }

-- all that comes after the version
abbrev pub body_at : Option ℕ → Place → Result World RestoreFault
body_at most s =
    head_at s >=> λ h. stations_at h.1 >=> λ t. strangers_at (begun h.0 t.0) t.1 >=> λ k. subscribers_at most k.0 k.1 >=> λ m.
    as_more (end_at m.1) >=> λ e. Ok m.0.world

-- octets that restore to an MME for so many next hops at most, or their first fault from the left
unfoldable pub restored_within : Option ℕ → List ℕ → Result World RestoreFault
restored_within most octets =
    as_octets (part_at (number 0 255) (start octets)) >=> λ v. if v.0 == version then body_at most v.1 else Err (faults.Version v.0)

-- whatever it takes
abbrev pub restored : List ℕ → Result World RestoreFault
restored octets = restored_within None octets
