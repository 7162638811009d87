-- Strangers, counted one after another by rising id.
use Rattle.std.proofs.Common.{◌≡◌, ◌≤◌, ◌+◌, ℕ, List, [], ◌∷◌, ◌++◌, length, Option, Some, None, refl, sym, ◌∙◌, ap, subst, arith, append_assoc}
use Rattle.std.specs.Prelude.{option_map}
use Rattle.std.proofs.lemmas.List.{append-nil, length_push}
use Rattle.std.proofs.lemmas.Option.{same_Some}
use Rattle.sorted_list.specs.Ordered.{AllOver, Every, Rising}
use Rattle.sorted_list.specs.Sorted.{lowest_from}
use Rattle.stranger_machine.specs.declared.table.Known.{Known}
use Rattle.stranger_machine.specs.Table.{known_id}
use Rattle.mme_snapshot.proofs.Known.{IsBelow}
use Rattle.mme_snapshot.proofs.PartsRead.{all_below, all_from, all_from_zero, first_after, none_from, still_below}

-- so many have an id below this one
pub record Counted (ks : List Known) (least count : ℕ) : Type 0 where
  pub front : List Known
  pub back : List Known
  pub parts : ks ≡ front ++ back
  pub below : Every (IsBelow least) front
  pub over : Every (λ (k : Known). least ≤ k.id) back
  pub many : length front ≡ count
  pub few : count ≤ least

pub none_counted : (ks : List Known) → Counted ks 0 0
none_counted ks =
    record { front = []; back = ks; parts = refl; below = tt; over = all_from_zero ks; many = refl; few = omega arith }

rising_back : (fs bs : List Known) → Rising known_id (fs ++ bs) → Rising known_id bs
rising_back [] bs h = h
rising_back (a ∷ fs) bs h = rising_back fs bs h.1

pub record NextCounted (ks : List Known) (least count id : ℕ) : Type 0 where
  pub counted : Counted ks (id + 1) (count + 1)
  pub up : least ≤ id

next_by : (ks : List Known) (least count id : ℕ) (front back : List Known) → ks ≡ front ++ back → Every (IsBelow least) front
    → Every (λ (k : Known). least ≤ k.id) back → length front ≡ count → count ≤ least → Rising known_id ks
    → Some id ≡ option_map known_id (lowest_from known_id least ks) → NextCounted ks least count id
next_by ks least count id front [] parts below over many few rising found =
    let none : lowest_from known_id least ks ≡ None =
    ap (lowest_from known_id least) (parts ∙ append-nil front) ∙ none_from least front below in
    absurd (cc (found ∙ ap (λ (o : Option Known). option_map known_id o) none))
next_by ks least count id front (q ∷ qs) parts below over many few rising found =
    let there : lowest_from known_id least ks ≡ Some q =
    ap (lowest_from known_id least) parts ∙ first_after least front q qs below over.0 in
    let is : q.id ≡ id = same_Some q.id id (sym (found ∙ ap (λ (o : Option Known). option_map known_id o) there)) in
    let le = over.0 in
    let lower : Every (IsBelow id) front = still_below least id front (omega (arith, le, is)) below in
    let rise = rising_back front (q ∷ qs) (subst (Rising known_id) parts rising) in
    record {
      counted = record {
        front = front ++ q ∷ [];
        back = qs;
        parts = parts ∙ sym (append_assoc front (q ∷ []) qs);
        below = all_below id q front is lower;
        over = all_from id qs (subst (λ n. AllOver known_id n qs) is rise.0);
        many = length_push front q ∙ ap (λ n. n + 1) many;
        few = omega (arith, few, le, is);
      };
      up = omega (arith, le, is);
    }

pub next_counted : (ks : List Known) (least count id : ℕ) → Counted ks least count → Rising known_id ks
    → Some id ≡ option_map known_id (lowest_from known_id least ks) → NextCounted ks least count id
next_counted ks least count id h rising found =
    next_by ks least count id h.front h.back h.parts h.below h.over h.many h.few rising found

all_by : (ks : List Known) (least count : ℕ) (front back : List Known) → ks ≡ front ++ back → Every (IsBelow least) front
    → Every (λ (k : Known). least ≤ k.id) back → length front ≡ count
    → None ≡ option_map known_id (lowest_from known_id least ks) → count ≡ length ks
all_by ks least count front [] parts below over many none = sym many ∙ ap length (sym (parts ∙ append-nil front))
all_by ks least count front (q ∷ qs) parts below over many none =
    let there : lowest_from known_id least ks ≡ Some q =
    ap (lowest_from known_id least) parts ∙ first_after least front q qs below over.0 in
    absurd (cc (none ∙ ap (λ (o : Option Known). option_map known_id o) there))

pub all_counted : (ks : List Known) (least count : ℕ) → Counted ks least count
    → None ≡ option_map known_id (lowest_from known_id least ks) → count ≡ length ks
all_counted ks least count h none = all_by ks least count h.front h.back h.parts h.below h.over h.many none
