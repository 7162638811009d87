-- Which associations of a station a list means (TS 36.413 clause 8.7.1.2.2).
use Rattle.std.specs.Prelude.{ℕ, List, Option, Some, None, Bool, true, is_some, not, filter, ◌==◌, ◌&&◌, ◌||◌}
use Rattle.std.specs.List.{list_any}
use Rattle.association_table.specs.declared.association.Association.{Association}
use Rattle.association_table.specs.declared.association.Listed.{Listed}

-- an id that is given has to be the association's
abbrev pub agrees : Option ℕ → ℕ → Bool
agrees None id = true
agrees (Some given) id = id == given

-- an item that gives an id, and whose ids are the association's
abbrev pub matches : Association → Listed → Bool
matches a item = (is_some item.id || is_some item.enb_ue_id) && (agrees item.id a.id && agrees item.enb_ue_id a.enb_ue_id)

-- an association of the station that some item matches
abbrev pub is_listed : ℕ → List Listed → Association → Bool
is_listed e items a = a.station == e && list_any (matches a) items

-- the entries of a station that some item matches, and the others
abbrev pub listed_at : ℕ → List Listed → List Association → List Association
listed_at e items es = filter (is_listed e items) es

abbrev pub unlisted : ℕ → List Listed → List Association → List Association
unlisted e items es = filter (λ a. not (is_listed e items a)) es
