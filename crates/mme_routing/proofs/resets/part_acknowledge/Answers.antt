use Rattle.std.proofs.Common.{◌≡◌, ℕ, ◌+◌, ◌<◌, ◌≤◌, List, [], ◌∷◌, ◌++◌, length, get_or, take, Option, Some, None, ap, sym, ◌∙◌, arith}
use Rattle.std.specs.Prelude.{IfSome, IsSome, ◌↔◌}
use Rattle.std.proofs.lemmas.List.{length-map, map_more, take_all}
use Rattle.s1ap_elements.specs.Resets.{AssociationReset, AssociationToReset}
use Rattle.mme_types.specs.Listed.{ToReset}
use Rattle.mme_routing.specs.Resets.{acknowledged, items_reset, part_acknowledge}
use Rattle.mme_routing.proofs.resets.part_acknowledge.Goals as goal

abbrev one_reset : AssociationToReset → AssociationReset
one_reset i = record { value = i.value }

one_more : (xs : ToReset) (i : ℕ) (x : AssociationToReset) (vs : List AssociationReset) → i < length xs → x ≡ get_or xs i x
    → vs ≡ items_reset (take i xs)
    → vs ++ one_reset x ∷ [] ≡ items_reset (take (i + 1) xs)
one_more xs i x vs lt is was =
    ap (λ (ws : List AssociationReset). ws ++ one_reset x ∷ []) was
    ∙ ap (λ (y : AssociationToReset). items_reset (take i xs) ++ one_reset y ∷ []) is
    ∙ sym (map_more one_reset xs i x lt)

pub loop-item-preserved : goal.loop-item-preserved
loop-item-preserved c =
    c.in_ok-push.ensures.items ∙ one_more c.as_slice-listed.result.now c.loop-item.item-index c.item-item.result c.loop-item.values.items c.loop-item-test.true c.item-item.is c.loop-item.invariant

-- where there are values, they are these
made : {A : Type 0} (o : Option A) (x : A) → IsSome o → IfSome o (λ v. v ≡ x) → o ≡ Some x
made None x some is = absurd (cc some)
made (Some a) x some is = ap (λ y. Some y) is

all_reset : (o : Option (List AssociationReset)) (vs : List AssociationReset) (xs items : ToReset) (i n : ℕ)
    → (IsSome o ↔ ((1 ≤ length vs) × (length vs ≤ 256))) → IfSome o (λ v. v ≡ vs) → vs ≡ items_reset (take i xs) → length xs ≤ i
    → xs ≡ items → n ≡ length items → 1 ≤ n → (1 ≤ 256 → n ≤ 256)
    → acknowledged o ≡ part_acknowledge items
all_reset o vs xs items i n some value was over same count low high =
    let e : vs ≡ items_reset items = was ∙ ap (λ (ys : ToReset). items_reset ys) (take_all i xs over ∙ same) in
    let long : length vs ≡ length items = ap (λ (ws : List AssociationReset). length ws) e ∙ length-map items one_reset in
    let most : n ≤ 256 = high (omega arith) in
    ap (λ (a : Option (List AssociationReset)). acknowledged a) (made o vs (some.1 (omega (arith, long, count, low), omega (arith, long, count, most))) value ∙ ap (λ (ws : List AssociationReset). Some ws) e)

pub returns : goal.returns
returns c =
    let made_of = c.try_new-associations.ensures in
    let count = c.len.ensures in
    all_reset c.try_new-associations.result c.loop-item.values.items c.as_slice-listed.result.now c.args.items.now c.loop-item.item-index c.len.result made_of.some made_of.value c.loop-item.invariant
    c.loop-item-test.false c.as_slice-listed.ensures count.value count.low count.high
