-- The slab and its three lists.
use Rattle.std.specs.Prelude.{◌≡◌, ℕ, ◌^◌, ◌<◌, List, [], ◌∷◌, map, Option, Some, None, IsSome, ◌==◌, nat_le, if◌then◌else◌}
use Rattle.slab.specs.Slab.{Slab, get}
use Rattle.association_table.specs.declared.association.AssociationOwner.TheVariants.{Stranger}
use Rattle.association_table.specs.declared.association.Association.{Association}
use Rattle.association_table.specs.declared.places.Held.{Held}
use Rattle.association_table.specs.declared.places.SlabPlace.{SlabPlace}
use Rattle.association_table.specs.declared.places.IndexEntry.{IndexEntry}
use Rattle.sorted_list.specs.Ordered.{ordered, Rising, Every, Distinct}
use Rattle.sorted_list.specs.Paired.{paired, paired_short}

abbrev pub place_id : SlabPlace → ℕ
place_id p = p.id

abbrev pub place_key : SlabPlace → ℕ
place_key p = p.key

abbrev pub or_blank : Option Held → Held
or_blank None = record { owner = Stranger; station = 0; enb_ue_id = 0 }
or_blank (Some h) = h

-- the association at a place
abbrev pub with_id : ℕ → Held → Association
with_id id h = record { id = id; owner = h.owner; station = h.station; enb_ue_id = h.enb_ue_id }

abbrev pub entry_at : Slab Held → SlabPlace → Association
entry_at s p = with_id p.id (or_blank (get s p.key))

abbrev pub entries_of : Slab Held → List SlabPlace → List Association
entries_of s ps = map (entry_at s) ps

-- the groups of an association: its station, and its eNB UE id there
abbrev pub station_group : Association → ℕ
station_group a = a.station

abbrev pub group_at : ℕ → ℕ → ℕ
group_at e n = paired_short e n

abbrev pub number_group : Association → ℕ
number_group a = group_at a.station a.enb_ue_id

abbrev pub index_entry : (Association → ℕ) → Association → IndexEntry
index_entry group a = record { group = group a; id = a.id }

abbrev pub index_rank : IndexEntry → ℕ
index_rank s = paired s.group s.id

abbrev pub indexing : (Association → ℕ) → Association → ℕ
indexing group a = index_rank (index_entry group a)

abbrev pub index_of : (Association → ℕ) → List Association → List IndexEntry
index_of group es = map (index_entry group) (ordered (indexing group) es)

abbrev pub IsId : Association → Type 0
IsId a = (a.id < 2 ^ 32) × (a.enb_ue_id < 2 ^ 32)

pub record IsTable (s : Slab Held) (by_id : List SlabPlace) (by_station by_number : List IndexEntry) : Type 0 where
  pub rising : Rising place_id by_id
  pub keys : Distinct place_key by_id
  pub held : Every (λ p. IsSome (get s p.key)) by_id
  pub ids : Every IsId (entries_of s by_id)
  pub index : by_station ≡ index_of station_group (entries_of s by_id)
  pub numbers : by_number ≡ index_of number_group (entries_of s by_id)

abbrev pub IsIndexEntry : IndexEntry → Type 0
IsIndexEntry s = s.id < 2 ^ 32

-- the id of the first entry of a group whose id is at least the number
abbrev pub first_indexed : ℕ → ℕ → List IndexEntry → Option ℕ
first_indexed b n [] = None
first_indexed b n (s ∷ ss) =
    if s.group == b then (if nat_le n s.id then Some s.id else first_indexed b n ss) else first_indexed b n ss

-- the first entry of a group whose id is at least the number
abbrev pub first_from : (Association → ℕ) → ℕ → ℕ → List Association → Option Association
first_from group b n [] = None
first_from group b n (a ∷ es) =
    if group a == b then (if nat_le n a.id then Some a else first_from group b n es) else first_from group b n es
