-- The parts of a snapshot, and what each says of an MME.
use Rattle.std.specs.Prelude.{◌≡◌, ◌≤◌, ℕ, ◌+◌, true, not, nat_lt, if◌then◌else◌, List, [], ◌∷◌, ◌++◌, length, Option, Some, None, Ok, slice_get}
use Rattle.std.specs.List.{concat}
use Rattle.sorted_list.specs.Sorted.{lowest_from}
use Rattle.per_bits.specs.Formats.{Value, number}
use Rattle.per_bits.specs.Spelling.{SpellsWhole}
use Rattle.nas_elements.specs.Digits.{imsi_of}
use Rattle.identity_slots.specs.Ids.{is_of_slot, slots}
use Rattle.identity_slots.specs.declared.profile.Profile.{Profile}
use Rattle.identity_slots.specs.Provisioned.{AreDistinct, address_key, imsi_key}
use Rattle.mme_types.specs.declared.stations.StationState.{StationState}
use Rattle.emm_machine.specs.SubscriberView.{SubscriberView}
use Rattle.stranger_machine.specs.declared.table.Known.{Known}
use Rattle.stranger_machine.specs.Table.{known_id}
use Rattle.mme_core.specs.Kept.{IsKept}
use Rattle.mme_core.specs.Remembered.{remembered, remembered_view}
use Rattle.mme_core.specs.World.{World}
use Rattle.snapshot_formats.specs.Formats.{saved_head, saved_station, saved_stranger, saved_subscriber}
use Rattle.mme_snapshot.specs.declared.parts.Head.{Head}
use Rattle.mme_snapshot.specs.declared.part.Part.{Part}
use Rattle.mme_snapshot.specs.declared.part.Part.TheVariants as part
use Rattle.mme_snapshot.specs.Images.{fits_subscriber, is_label, is_placed, is_timed, known_of, named_head, named_profile, named_station, subscriber_of}
use Rattle.mme_snapshot.specs.Restored.{restored, version}

-- ---- what stands first

abbrev pub head_of : World → Head
head_of w = record { config = w.sight.config; clock = w.sight.clock }

-- octets that spell the states of stations, each up to the next octet
abbrev pub AreStations : List StationState → List ℕ → Type 0
AreStations [] os = os ≡ []
AreStations (s ∷ ss) os =
    (v : Value saved_station) × (first : List ℕ) × (more : List ℕ) × (os ≡ first ++ more)
    × (named_station v ≡ s) × SpellsWhole saved_station v first × AreStations ss more

-- the version, the head, the stations, and how many strangers there are
pub record IsFirst (w : World) (os : List ℕ) : Type 0 where
  pub version_octets : List ℕ
  pub head_octets : List ℕ
  pub station_octets : List ℕ
  pub count_octets : List ℕ
  pub parts : os ≡ version_octets ++ (head_octets ++ (station_octets ++ count_octets))
  pub versioned : SpellsWhole (number 0 255) version version_octets
  pub head : Value saved_head
  pub is_head : named_head head ≡ head_of w
  pub label : is_label head.0.1.1.1.0 ≡ true
  pub headed : SpellsWhole saved_head head head_octets
  pub stations : AreStations w.sight.stations station_octets
  pub counted : SpellsWhole (number 0 4294967295) (length w.strangers) count_octets

-- ---- strangers

-- a stranger, whose id is a stranger's and whose T3470 has ticks left
pub record IsStranger (k : Known) (os : List ℕ) : Type 0 where
  pub stored : Value saved_stranger
  pub is : known_of stored ≡ k
  pub nobodys : not (is_of_slot stored.0) ≡ true
  pub timed : is_timed k.stranger ≡ true
  pub spelled : SpellsWhole saved_stranger stored os

-- ---- subscribers

-- what is remembered of the subscriber of a slot, in a state that a restore takes
pub record IsSubscriber (w : World) (slot : ℕ) (x : SubscriberView) (os : List ℕ) : Type 0 where
  pub stored : Value saved_subscriber
  pub imsi : imsi_of stored.0 ≡ Some x.setting.profile.imsi
  pub profile : named_profile x.setting.profile.imsi stored ≡ x.setting.profile
  pub is : subscriber_of w.sight.config.network slot x.setting.profile stored ≡ remembered_view x
  pub fits : fits_subscriber stored ≡ true
  pub placed : is_placed w.strangers slot x.solo.connection ≡ true
  pub spelled : SpellsWhole saved_subscriber stored os

-- ---- the parts, each with the one that comes next

-- the subscriber of a slot, if there is one
abbrev pub subscriber_from : World → ℕ → Option Part
subscriber_from w slot = if nat_lt slot (length w.subscribers) then Some (part.Subscriber slot) else None

-- a stranger; or, where there is none, how many subscribers there are
abbrev pub IsNextStranger : World → Option Known → List ℕ → Option Part → Type 0
IsNextStranger w None os next = SpellsWhole (number 0 32768) (length w.subscribers) os × (next ≡ subscriber_from w 0)
IsNextStranger w (Some k) os next = IsStranger k os × (next ≡ Some (part.Stranger (k.id + 1)))

abbrev pub IsSubscriberAt : World → ℕ → Option SubscriberView → List ℕ → Option Part → Type 0
IsSubscriberAt w slot None os next = ⊥
IsSubscriberAt w slot (Some x) os next = IsSubscriber w slot x os × (next ≡ subscriber_from w (slot + 1))

abbrev pub IsSavedPart : World → Part → List ℕ → Option Part → Type 0
IsSavedPart w part.First os next = IsFirst w os × (next ≡ Some (part.Stranger 0))
IsSavedPart w (part.Stranger least) os next = IsNextStranger w (lowest_from known_id least w.strangers) os next
IsSavedPart w (part.Subscriber slot) os next = IsSubscriberAt w slot (slice_get w.subscribers slot) os next

-- parts from one on, each the next, up to the last
abbrev pub AreParts : World → Option Part → List (List ℕ) → Type 0
AreParts w at [] = at ≡ None
AreParts w None (os ∷ more) = ⊥
AreParts w (Some p) (os ∷ more) = (next : Option Part) × IsSavedPart w p os next × AreParts w next more

-- ---- what they restore to

-- nobody has an IMSI or an address of another, and there is a slot for each
pub record AreProvisioned (ps : List Profile) : Type 0 where
  pub imsis : AreDistinct imsi_key ps
  pub addresses : AreDistinct address_key ps
  pub few : length ps ≤ slots

-- parts in their order, one after another, restore to what is remembered
abbrev pub PartsRestore : Type 0
PartsRestore =
    (w : World) (parts : List (List ℕ)) → IsKept w → AreProvisioned w.sight.profiles → AreParts w (Some part.First) parts
    → restored (concat parts) ≡ Ok (remembered w)
