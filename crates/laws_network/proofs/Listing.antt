-- RESET ACKNOWLEDGE of a list in range is short, by induction on the list: an item has at most 48 octets, and 256 items some
-- 12,000.
use Rattle.std.proofs.Common.{◌≡◌, ℕ, ◌*◌, ◌^◌, ◌≤◌, ◌&&◌, Bool, true, [], ◌∷◌, length, Option, Some, None, refl, ◌∙◌, arith}
use Rattle.std.specs.List.{AllByRecursion}
use Rattle.std.proofs.lemmas.Bool.{and_from}
use Rattle.std.proofs.lemmas.List.{length-map}
use Rattle.per_bits.specs.Formats.{Value}
use Rattle.per_bits.specs.Written.{each_fits, number_fits, optional_fits}
use Rattle.s1ap_elements.specs.declared.reset.ListedAssociation.{ListedAssociation}
use Rattle.s1ap_elements.specs.Ids as ids
use Rattle.s1ap_elements.specs.Formats.{ignore, item, associations_reset, enb_ue_id, listed_association, mme_ue_id}
use Rattle.s1ap_elements.specs.Resets.{typed_associations_reset, typed_listed_association}
use Rattle.mme_types.specs.Listed.{ToReset}
use Rattle.mme_routing.specs.Resets.{items_reset, part_acknowledge}
use Rattle.laws_network.specs.SizeLaws.{number_allowed}
use Rattle.laws_network.specs.Sizes.{IsShortMessage, in_range, most_octets, most_of_each, most_of_optional}
use Rattle.laws_network.specs.ListRanges.{AssociationInRange, IsBelow, ListInRange}

-- the items as they are written
abbrev written_items : ToReset → Value associations_reset
written_items items = typed_associations_reset (items_reset items)

then_done : (b : Bool) → b ≡ true → (b && true) ≡ true
then_done b e = and_from b true e refl

-- ---- an id, and an item

mme_fits : (o : Option ℕ) → IsBelow (2 ^ 32) o → optional_fits (in_range mme_ue_id) o ≡ true
mme_fits None h = refl
mme_fits (Some id) h = number_allowed 0 4294967295 id (omega arith) (omega arith) (omega arith)

enb_fits : (o : Option ℕ) → IsBelow (2 ^ 24) o → optional_fits (in_range enb_ue_id) o ≡ true
enb_fits None h = refl
enb_fits (Some id) h = number_allowed 0 16777215 id (omega arith) (omega arith) (omega arith)

mme_few : (o : Option ℕ) → most_of_optional (most_octets mme_ue_id) o ≤ 10
mme_few None = omega arith
mme_few (Some id) = omega arith

enb_few : (o : Option ℕ) → most_of_optional (most_octets enb_ue_id) o ≤ 10
enb_few None = omega arith
enb_few (Some id) = omega arith

item_fits : (a : ListedAssociation) → AssociationInRange a
    → in_range (item ids.ue_associated_logical_s1_connection_item ignore listed_association) (typed_listed_association a, tt) ≡ true
item_fits a h = then_done _ (and_from _ _ (mme_fits a.mme_ue_id h.mme_ue_id) (then_done _ (enb_fits a.enb_ue_id h.enb_ue_id)))

item_few : (a : ListedAssociation) → most_octets (item ids.ue_associated_logical_s1_connection_item ignore listed_association) (typed_listed_association a, tt) ≤ 48
item_few a =
    let mme : most_of_optional (most_octets mme_ue_id) a.mme_ue_id ≤ 10 = mme_few a.mme_ue_id in
    let enb : most_of_optional (most_octets enb_ue_id) a.enb_ue_id ≤ 10 = enb_few a.enb_ue_id in
    omega (arith, mme, enb)

-- ---- all items

each_item_fits : (items : ToReset) → AllByRecursion (λ i. AssociationInRange i.value) items → each_fits (in_range (item ids.ue_associated_logical_s1_connection_item ignore listed_association)) (written_items items) ≡ true
each_item_fits [] h = refl
each_item_fits (i ∷ more) h = and_from _ _ (item_fits i.value h.0) (each_item_fits more h.1)

all_few : (items : ToReset) → most_of_each (most_octets (item ids.ue_associated_logical_s1_connection_item ignore listed_association)) (written_items items) ≤ 48 * length items
all_few [] = omega arith
all_few (i ∷ more) =
    let one : most_octets (item ids.ue_associated_logical_s1_connection_item ignore listed_association) (typed_listed_association i.value, tt) ≤ 48 = item_few i.value in
    let rest : most_of_each (most_octets (item ids.ue_associated_logical_s1_connection_item ignore listed_association)) (written_items more) ≤ 48 * length more = all_few more in
    omega (arith, one, rest)

as_many : (items : ToReset) → length (written_items items) ≡ length items
as_many items = length-map (items_reset items) _ ∙ length-map items _

count_fits : (items : ToReset) → ListInRange items → number_fits 1 256 (length (written_items items)) ≡ true
count_fits items h =
    let long : length (written_items items) ≡ length items = as_many items in
    let some : 1 ≤ length items = h.some in
    let few : length items ≤ 256 = h.few in
    number_allowed 1 256 (length (written_items items)) (omega (arith, long, some)) (omega (arith, long, few)) (omega arith)

pub short_part_acknowledge : (items : ToReset) → ListInRange items → IsShortMessage (part_acknowledge items)
short_part_acknowledge items h =
    let few : length items ≤ 256 = h.few in
    let size : most_of_each (most_octets (item ids.ue_associated_logical_s1_connection_item ignore listed_association)) (written_items items) ≤ 48 * length items = all_few items in
    record { ranges = then_done _ (and_from _ _ (count_fits items h) (each_item_fits items h.each)); size = omega (arith, few, size) }
