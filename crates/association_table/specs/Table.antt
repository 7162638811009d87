-- What a caller sees of the associations: the entries by id.
use Rattle.std.specs.Prelude.{ℕ, List, [], ◌∷◌, Option, ◌==◌, if◌then◌else◌}
use Rattle.association_table.specs.declared.association.Association.{Association}
use Rattle.sorted_list.specs.Ordered.{at, add, without}

pub record Table : Type 0 where
  pub entries : List Association  -- by rising id
  pub room : ℕ  -- how many more can be opened with no allocation

abbrev pub association_id : Association → ℕ
association_id a = a.id

abbrev pub found : ℕ → List Association → Option Association
found id es = at association_id id es

abbrev pub opened : Association → List Association → List Association
opened a es = add association_id a es

abbrev pub closed : ℕ → List Association → List Association
closed id es = without association_id id es

-- the entry with the id has another station and eNB UE id
abbrev pub moved : ℕ → ℕ → ℕ → List Association → List Association
moved id station enb_ue_id [] = []
moved id station enb_ue_id (a ∷ es) =
    if a.id == id then record { id = id; owner = a.owner; station = station; enb_ue_id = enb_ue_id } ∷ es
    else a ∷ moved id station enb_ue_id es

-- the entries of a station, and the others
abbrev pub at_station : ℕ → List Association → List Association
at_station e [] = []
at_station e (a ∷ es) = if a.station == e then a ∷ at_station e es else at_station e es

abbrev pub elsewhere : ℕ → List Association → List Association
elsewhere e [] = []
elsewhere e (a ∷ es) = if a.station == e then elsewhere e es else a ∷ elsewhere e es
