-- How those that a list means are gathered, and then closed.
use Rattle.std.specs.Prelude.{◌≡◌, ℕ, List, [], ◌∷◌, Option, Some, None, Bool, is_some, not, filter, ◌==◌, ◌&&◌, ◌||◌, nat_le, if◌then◌else◌}
use Rattle.association_table.specs.declared.association.Association.{Association}
use Rattle.association_table.specs.declared.association.Listed.{Listed}
use Rattle.sorted_list.specs.Ordered.{at, add}
use Rattle.association_table.specs.Table.{association_id, closed}
use Rattle.association_table.specs.Listing.{agrees, matches, is_listed}

-- an association of the station that the item matches
abbrev pub is_matched : ℕ → Listed → Association → Bool
is_matched e item a = a.station == e && matches a item

-- an association of the station with the eNB UE id
abbrev pub is_numbered : ℕ → ℕ → Association → Bool
is_numbered e n a = a.station == e && a.enb_ue_id == n

-- the first of them whose id is at least the number
abbrev pub first_numbered : ℕ → ℕ → ℕ → List Association → Option Association
first_numbered e n m [] = None
first_numbered e n m (a ∷ es) =
    if is_numbered e n a then (if nat_le m a.id then Some a else first_numbered e n m es) else first_numbered e n m es

-- with the association, if it isn't there
abbrev pub put_once : Association → List Association → List Association
put_once a gs = if is_some (at association_id a.id gs) then gs else add association_id a gs

-- where those that pass a test were gathered, those that pass the other test are now, too
abbrev pub Gathers : (Association → Bool) → List Association → List Association → List Association → Type 0
Gathers test es old new = (before : Association → Bool) → old ≡ filter before es → new ≡ filter (λ a. before a || test a) es

-- where those that items mean were gathered, those that a next item means are now, too
abbrev pub GathersNext : ℕ → List Listed → Listed → List Association → List Association → List Association → Type 0
GathersNext e items item es old new =
    old ≡ filter (is_listed e items) es → new ≡ filter (λ a. is_listed e items a || is_matched e item a) es

-- an item that gives this eNB UE id alone
abbrev pub gives_alone : ℕ → Listed → Bool
gives_alone n item = not (is_some item.id) && (is_some item.enb_ue_id && agrees item.enb_ue_id n)

-- the entries without those
abbrev pub closed_all : List Association → List Association → List Association
closed_all [] es = es
closed_all (a ∷ gs) es = closed_all gs (closed a.id es)
