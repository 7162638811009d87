-- How slots are gathered, and what a list of all who pass a test is.
use Rattle.std.proofs.Common.{◌≡◌, ℕ, suc, ◌+◌, ◌-◌, ◌<◌, ◌≤◌, List, [], ◌∷◌, ◌++◌, length, take, map, get_or, refl, sym, ◌∙◌, ap, subst, arith}
use Rattle.std.specs.Prelude.{◌==◌, ◌&&◌, ◌||◌, nat_lt, Option, Some, None, is_some, Bool, true, false, cond, if◌then◌else◌}
use Rattle.std.specs.List.{list_any}
use Rattle.std.proofs.lemmas.Bool.Decides.{nat_tests}
use Rattle.std.proofs.lemmas.Bool.{eqb-true, lt-ltb}
use Rattle.identity_slots.specs.Ids.{slots}
use Rattle.association_table.specs.declared.association.AssociationOwner.TheVariants.{Subscriber}
use Rattle.std.proofs.lemmas.List.{take_more}
use Rattle.sorted_list.specs.Ordered.{at, add, without, AllOver, Rising}
use Rattle.sorted_list.specs.Laws.{at_over, over_more, rising-without, at-without}
use Rattle.sorted_list.specs.Indexed.{at-add, rising-add}
use Rattle.association_table.specs.declared.association.Association.{Association}
use Rattle.mme_tables.specs.declared.slots.OrderedSlot.{OrderedSlot}
use Rattle.mme_tables.specs.Whereabouts.{slots_where}
use Rattle.mme_tables.specs.KeptPlaces.{slot_rank, is_held, is_held_by, Gathers, Holds}

or_false : (b : Bool) → (b || false) ≡ b
or_false true = refl
or_false false = refl

or_or : (a b c : Bool) → ((a || b) || c) ≡ (a || (b || c))
or_or true b c = refl
or_or false b c = refl

pub holds_same : (f g : ℕ → Bool) (ss : List OrderedSlot) → ((i : ℕ) → f i ≡ g i) → Holds f ss → Holds g ss
holds_same f g ss same h = record { rising = h.rising; each = λ i. h.each i ∙ same i }

pub gathers_same : (f g : ℕ → Bool) (old new : List OrderedSlot) → ((i : ℕ) → f i ≡ g i) → Gathers f old new → Gathers g old new
gathers_same f g old new same so before h =
    holds_same (λ i. before i || f i) (λ i. before i || g i) new (λ i. ap (λ b. before i || b) (same i)) (so before h)

pub gathers_none : (f : ℕ → Bool) (old : List OrderedSlot) → ((i : ℕ) → f i ≡ false) → Gathers f old old
gathers_none f old isnt before h =
    holds_same before (λ i. before i || f i) old (λ i. sym (ap (λ b. before i || b) (isnt i) ∙ or_false (before i))) h

pub gathers_both : (f g : ℕ → Bool) (old new last : List OrderedSlot) → Gathers f old new → Gathers g new last
    → Gathers (λ i. f i || g i) old last
gathers_both f g old new last so more before h =
    holds_same (λ i. (before i || f i) || g i) (λ i. before i || (f i || g i)) last (λ i. or_or (before i) (f i) (g i))
    (more (λ i. before i || f i) (so before h))

-- ---- one slot

again_by : (before : ℕ → Bool) (slot i : ℕ) (b : Bool) → (slot == i) ≡ b → before slot ≡ true → before i ≡ (before i || b)
again_by before slot i true e h =
    let t : before i ≡ true = subst (λ j. before j ≡ true) (eqb-true slot i e) h in grind (arith, nat_tests)
again_by before slot i false e h = sym (or_false (before i))

pub gathered_again : (slot : ℕ) (ss : List OrderedSlot) → is_some (at slot_rank slot ss) ≡ true
    → Gathers (λ i. slot == i) ss ss
gathered_again slot ss there before h =
    holds_same before (λ i. before i || (slot == i)) ss (λ i. again_by before slot i (slot == i) refl (sym (h.each slot) ∙ there)) h

put_by : (ss : List OrderedSlot) (slot i : ℕ) (b c : Bool) → is_some (at slot_rank i ss) ≡ c
    → is_some (cond b (Some (record { slot = slot })) (at slot_rank i ss)) ≡ (c || b)
put_by ss slot i true true e = refl
put_by ss slot i true false e = refl
put_by ss slot i false c e = e ∙ sym (or_false c)

pub gathered_put : (slot : ℕ) (old new : List OrderedSlot) → at slot_rank slot old ≡ None
    → new ≡ add slot_rank (record { slot = slot }) old → Gathers (λ i. slot == i) old new
gathered_put slot old new none is before h =
    let one : OrderedSlot = record { slot = slot } in
    record {
      rising = subst (Rising slot_rank) (sym is) (rising-add slot_rank one old none h.rising);
      each = λ i. ap (λ (xs : List OrderedSlot). is_some (at slot_rank i xs)) is ∙ ap (λ (o : Option OrderedSlot). is_some o) (at-add slot_rank i one old none slot_rank)
          ∙ put_by old slot i (slot == i) (before i) (h.each i);
    }

-- the slot of an owner
held_by_number : (number i : ℕ) (b : Bool) → (number == i) ≡ b → number < slots → b ≡ (b && nat_lt i slots)
held_by_number number i true e lt =
    let same : number ≡ i = eqb-true number i e in
    sym (lt-ltb i slots (subst (λ (n : ℕ). n < slots) same lt))
held_by_number number i false e lt = refl

pub gathered_owner : (number slot : ℕ) (old new : List OrderedSlot) → (number < slots) × (slot ≡ number)
    → Gathers (λ i. slot == i) old new → Gathers (λ i. is_held_by i (Subscriber number)) old new
gathered_owner number slot old new is so =
    gathers_same (λ i. slot == i) (λ i. is_held_by i (Subscriber number)) old new
    (λ i. ap (λ (n : ℕ). n == i) is.1 ∙ held_by_number number i (number == i) refl is.0) so

-- ---- a slot that is listed, or no longer

-- one association more
pub any_push : (i : ℕ) (bs : List Association) (a : Association) → (list_any (is_held i) bs || is_held i a) ≡ list_any (is_held i) (bs ++ a ∷ [])
any_push i [] a = sym (or_false (is_held i a))
any_push i (b ∷ bs) a = or_or (is_held i b) (list_any (is_held i) bs) (is_held i a) ∙ ap (λ t. is_held i b || t) (any_push i bs a)

pub gathered_more : (xs : List Association) (n : ℕ) (d : Association) (old mid last : List OrderedSlot) → n < length xs
    → Gathers (λ i. list_any (is_held i) (take n xs)) old mid → Gathers (λ i. is_held i (get_or xs n d)) mid last
    → Gathers (λ i. list_any (is_held i) (take (n + 1) xs)) old last
gathered_more xs n d old mid last lt so one =
    gathers_same (λ i. list_any (is_held i) (take n xs) || is_held i (get_or xs n d)) (λ i. list_any (is_held i) (take (n + 1) xs)) old last
    (λ i. any_push i (take n xs) (get_or xs n d) ∙ ap (λ (ys : List Association). list_any (is_held i) ys) (sym (take_more xs n d lt)))
    (gathers_both (λ i. list_any (is_held i) (take n xs)) (λ i. is_held i (get_or xs n d)) old mid last so one)

pub none_is : {X : Type 0} (o : Option X) → is_some o ≡ false → o ≡ None
none_is None e = refl
none_is (Some x) e = absurd (cc)

listed_by : (ss : List OrderedSlot) (slot i : ℕ) (b c : Bool) → is_some (at slot_rank i ss) ≡ c
    → is_some (cond b (Some (record { slot = slot })) (at slot_rank i ss)) ≡ cond b true c
listed_by ss slot i true c e = refl
listed_by ss slot i false c e = e

pub slot_listed : (before : ℕ → Bool) (slot : ℕ) (old new : List OrderedSlot) → at slot_rank slot old ≡ None
    → new ≡ add slot_rank (record { slot = slot }) old → Holds before old
    → Holds (λ i. if slot == i then true else before i) new
slot_listed before slot old new none is h =
    let one : OrderedSlot = record { slot = slot } in
    record {
      rising = subst (Rising slot_rank) (sym is) (rising-add slot_rank one old none h.rising);
      each = λ i. ap (λ (xs : List OrderedSlot). is_some (at slot_rank i xs)) is ∙ ap (λ (o : Option OrderedSlot). is_some o) (at-add slot_rank i one old none slot_rank)
          ∙ listed_by old slot i (slot == i) (before i) (h.each i);
    }

gone_by : (ss : List OrderedSlot) (i : ℕ) (b c : Bool) → is_some (at slot_rank i ss) ≡ c
    → is_some (cond b None (at slot_rank i ss)) ≡ cond b false c
gone_by ss i true c e = refl
gone_by ss i false c e = e

pub slot_gone : (before : ℕ → Bool) (slot : ℕ) (old new : List OrderedSlot) → new ≡ without slot_rank slot old → Holds before old
    → Holds (λ i. if slot == i then false else before i) new
slot_gone before slot old new is h = record {
  rising = subst (Rising slot_rank) (sym is) (rising-without slot_rank slot old h.rising);
  each = λ i. ap (λ (xs : List OrderedSlot). is_some (at slot_rank i xs)) is ∙ ap (λ (o : Option OrderedSlot). is_some o) (at-without slot_rank slot i old h.rising)
      ∙ gone_by old i (slot == i) (before i) (h.each i);
}

same_by : (before : ℕ → Bool) (slot i : ℕ) (b c : Bool) → (slot == i) ≡ c → before slot ≡ b → before i ≡ cond c b (before i)
same_by before slot i b true e is = subst (λ (j : ℕ). before j ≡ b) (eqb-true slot i e) is
same_by before slot i b false e is = refl

pub slot_same : (before : ℕ → Bool) (slot : ℕ) (b : Bool) (ss : List OrderedSlot) → is_some (at slot_rank slot ss) ≡ b
    → Holds before ss → Holds (λ i. if slot == i then b else before i) ss
slot_same before slot b ss there h =
    holds_same before (λ i. if slot == i then b else before i) ss
    (λ i. same_by before slot i b (slot == i) refl (sym (h.each slot) ∙ there)) h

-- ---- the slots that are held

-- a list that holds who passes from a place on
abbrev HoldsFrom : {X : Type 0} → (X → Bool) → X → ℕ → List X → List OrderedSlot → Type 0
HoldsFrom p d n xs ss =
    Rising slot_rank ss × ((i : ℕ) → i < n → is_some (at slot_rank i ss) ≡ false)
    × ((i : ℕ) → is_some (at slot_rank (n + i) ss) ≡ p (get_or xs i d))

head_there : (g : OrderedSlot) (ss : List OrderedSlot) → is_some (at slot_rank g.slot (g ∷ ss)) ≡ true
head_there g ss = grind (arith, nat_tests)

none_below : (g : OrderedSlot) (ss : List OrderedSlot) (n : ℕ) → ((i : ℕ) → i < n → is_some (at slot_rank i (g ∷ ss)) ≡ false)
    → n ≤ g.slot
none_below g ss n h =
    let there = head_there g ss in
    let out : g.slot < n → ⊥ = λ lt. (let isnt = h g.slot lt in cc) in
    omega arith

held_none : {X : Type 0} (p : X → Bool) (d : X) (n : ℕ) (ss : List OrderedSlot) → p d ≡ false → HoldsFrom p d n [] ss → ss ≡ []
held_none p d n [] q h = refl
held_none p d n (g ∷ ss) q h =
    let le = none_below g ss n h.1 in
    let at_n : n + (g.slot - n) ≡ g.slot = omega arith in
    let isnt : is_some (at slot_rank g.slot (g ∷ ss)) ≡ false =
    subst (λ m. is_some (at slot_rank m (g ∷ ss)) ≡ false) at_n (h.2 (g.slot - n) ∙ q) in
    let there = head_there g ss in
    absurd (cc)

over_absent : (n i : ℕ) (ss : List OrderedSlot) → AllOver slot_rank n ss → i < n + 1 → is_some (at slot_rank i ss) ≡ false
over_absent n i ss h lt =
    ap (λ (o : Option OrderedSlot). is_some o) (at_over slot_rank i ss (over_more slot_rank i n ss (omega arith) h))

head_is : (n : ℕ) (g : OrderedSlot) (ss : List OrderedSlot) → Rising slot_rank (g ∷ ss) → n ≤ g.slot
    → is_some (at slot_rank n (g ∷ ss)) ≡ true → g.slot ≡ n
head_is n g ss h le there =
    let out : n < g.slot → ⊥ = λ lt. (let isnt = ap (λ (o : Option OrderedSlot). is_some o) (at_over slot_rank n (g ∷ ss) (lt, over_more slot_rank n g.slot ss le h.0)) in cc) in
    omega arith

tail_at : (n i : ℕ) (g : OrderedSlot) (ss : List OrderedSlot) → g.slot ≡ n
    → at slot_rank (n + 1 + i) ss ≡ at slot_rank (n + suc i) (g ∷ ss)
tail_at n i g ss same =
    let next : n + 1 + i ≡ n + suc i = omega arith in
    let other : (g.slot == n + suc i) ≡ false = grind (arith, nat_tests) in
    ap (λ m. at slot_rank m ss) next ∙ sym (ap (λ b. cond b (Some g) (at slot_rank (n + suc i) ss)) other)

below_next : (ss : List OrderedSlot) (n i : ℕ) (b : Bool) → (i == n) ≡ b → i < n + 1
    → ((j : ℕ) → j < n → is_some (at slot_rank j ss) ≡ false) → is_some (at slot_rank n ss) ≡ false
    → is_some (at slot_rank i ss) ≡ false
below_next ss n i true s lt h isnt = subst (λ m. is_some (at slot_rank m ss) ≡ false) (sym (eqb-true i n s)) isnt
below_next ss n i false s lt h isnt = let under : i < n = grind (arith, nat_tests) in h i under

held_by : {X : Type 0} (p : X → Bool) (d x : X) (n : ℕ) (xs : List X) (ss : List OrderedSlot) (b : Bool) → p x ≡ b → p d ≡ false
    → HoldsFrom p d n (x ∷ xs) ss
    → ((hs : List OrderedSlot) → HoldsFrom p d (n + 1) xs hs → map slot_rank hs ≡ slots_where p (n + 1) xs)
    → map slot_rank ss ≡ cond b (n ∷ slots_where p (n + 1) xs) (slots_where p (n + 1) xs)
held_by p d x n xs [] true e q h ih = let isnt : false ≡ p x = h.2 0 in absurd (cc)
held_by p d x n xs (g ∷ ss) true e q h ih =
    let le = none_below g ss n h.1 in
    let first : n + 0 ≡ n = omega arith in
    let there : is_some (at slot_rank n (g ∷ ss)) ≡ true =
    subst (λ m. is_some (at slot_rank m (g ∷ ss)) ≡ true) first (h.2 0 ∙ e) in
    let same = head_is n g ss h.0 le there in
    let over = subst (λ m. AllOver slot_rank m ss) same h.0.0 in
    let rest : HoldsFrom p d (n + 1) xs ss = (h.0.1, (λ i lt. over_absent n i ss over lt), (λ i. ap (λ (o : Option OrderedSlot). is_some o) (tail_at n i g ss same) ∙ h.2 (suc i))) in
    ap (λ ns. g.slot ∷ ns) (ih ss rest) ∙ ap (λ m. m ∷ slots_where p (n + 1) xs) same
held_by p d x n xs ss false e q h ih =
    let first : n + 0 ≡ n = omega arith in
    let isnt : is_some (at slot_rank n ss) ≡ false = subst (λ m. is_some (at slot_rank m ss) ≡ false) first (h.2 0 ∙ e) in
    let none : (i : ℕ) → i < n + 1 → is_some (at slot_rank i ss) ≡ false =
    λ i lt. below_next ss n i (i == n) refl lt h.1 isnt in
    let next : (i : ℕ) → n + 1 + i ≡ n + suc i = λ i. omega arith in
    ih ss (h.0, none, (λ i. ap (λ m. is_some (at slot_rank m ss)) (next i) ∙ h.2 (suc i)))

held_from : {X : Type 0} (p : X → Bool) (d : X) (n : ℕ) (xs : List X) (ss : List OrderedSlot) → p d ≡ false → HoldsFrom p d n xs ss
    → map slot_rank ss ≡ slots_where p n xs
held_from p d n [] ss q h = ap (λ hs. map slot_rank hs) (held_none p d n ss q h)
held_from p d n (x ∷ xs) ss q h = held_by p d x n xs ss (p x) refl q h (λ hs r. held_from p d (n + 1) xs hs q r)

pub held_slots : {X : Type 0} (p : X → Bool) (d : X) (xs : List X) (ss : List OrderedSlot) → p d ≡ false
    → Holds (λ i. p (get_or xs i d)) ss → map slot_rank ss ≡ slots_where p 0 xs
held_slots p d xs ss q h =
    let first : (i : ℕ) → 0 + i ≡ i = λ i. omega arith in
    held_from p d 0 xs ss q
    (h.rising, (λ i lt. absurd (omega arith)), (λ i. ap (λ m. is_some (at slot_rank m ss)) (first i) ∙ h.each i))
