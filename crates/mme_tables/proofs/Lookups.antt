-- What is found by an id after a change of the associations.
use Rattle.std.proofs.Common.{◌≡◌, ℕ, List, [], ◌∷◌, Bool, true, false, cond, Some, None, refl, sym, ◌∙◌, ap, subst, arith}
use Rattle.std.specs.Prelude.{◌==◌, ◌||◌, ◌&&◌, if◌then◌else◌, option_map, filter}
use Rattle.std.specs.List.{list_any}
use Rattle.std.proofs.lemmas.Bool.Decides.{nat_tests}
use Rattle.std.proofs.lemmas.Bool.{eq-eqb, eqb-true}
use Rattle.std.proofs.lemmas.Option.{none-some, same_Some}
use Rattle.sorted_list.specs.Ordered.{AllOver, Rising, at, without}
use Rattle.sorted_list.specs.Laws.{at_over}
use Rattle.association_table.specs.declared.association.Association.{Association}
use Rattle.association_table.specs.Table.{association_id, closed, found, moved}

module _ {X : Type 0} (key : X → ℕ) where
  -- where another was taken out
  pub at_left : (j k : ℕ) (xs : List X) → (j == k) ≡ false → at key k (without key j xs) ≡ at key k xs
  at_left j k [] ne = refl
  at_left j k (y ∷ ys) ne = let ih = at_left j k ys ne in grind (arith, nat_tests)

-- where one was moved
abbrev pub placed : ℕ → ℕ → ℕ → Association → Association
placed id e n a = record { id = id; owner = a.owner; station = e; enb_ue_id = n }

pub found_moved : (id e n k : ℕ) (es : List Association)
    → found k (moved id e n es) ≡ (if id == k then option_map (placed id e n) (found id es) else found k es)
found_moved id e n k [] = elim (id == k) as (λ b. None ≡ cond b (option_map (placed id e n) None) None) [ true ↦ refl | false ↦ refl ]
found_moved id e n k (a ∷ es) = let ih = found_moved id e n k es in grind (arith, nat_tests)

-- ---- some association passes a test

pub any_kept : (p r : Association → Bool) (es : List Association) → list_any p (filter r es) ≡ list_any (λ a. r a && p a) es
any_kept p r [] = refl
any_kept p r (a ∷ es) =
    elim (r a) as (λ b. list_any p (cond b (a ∷ filter r es) (filter r es)) ≡ ((b && p a) || list_any (λ x. r x && p x) es))
    [ true ↦ ap (λ b. p a || b) (any_kept p r es) | false ↦ any_kept p r es ]

or_true : (t : Bool) {u : Bool} → u ≡ true → (t || u) ≡ true
or_true true h = refl
or_true false h = h

any_by : (p : Association → Bool) (k : ℕ) (a b : Association) (es : List Association) (t : Bool) → p a ≡ true
    → (found k es ≡ Some a → list_any p es ≡ true)
    → cond t (Some b) (found k es) ≡ Some a → (p b || list_any p es) ≡ true
any_by p k a b es true passes ih is =
    ap (λ t. t || list_any p es) (ap p (same_Some b a is) ∙ passes)
any_by p k a b es false passes ih is = or_true (p b) (ih is)

-- one that is found does
pub any_found : (p : Association → Bool) (k : ℕ) (a : Association) (es : List Association) → found k es ≡ Some a → p a ≡ true
    → list_any p es ≡ true
any_found p k a [] is passes = absurd (none-some a is)
any_found p k a (b ∷ es) is passes = any_by p k a b es (association_id b == k) passes (λ later. any_found p k a es later passes) is

-- and where one does, it is found
later_by : (a b : Association) (es : List Association) (t : Bool) → (b.id == a.id) ≡ t → AllOver association_id b.id es
    → found a.id es ≡ Some a → cond t (Some b) (found a.id es) ≡ Some a
later_by a b es true same over is =
    let none : found a.id es ≡ None = at_over association_id a.id es (subst (λ n. AllOver association_id n es) (eqb-true b.id a.id same) over) in
    absurd (none-some a (sym none ∙ is))
later_by a b es false other over is = is

abbrev IsFoundFor : (Association → Bool) → List Association → Type 0
IsFoundFor p es = (a : Association) × (found a.id es ≡ Some a) × (p a ≡ true)

found_first : (p : Association → Bool) (b : Association) (es : List Association) (t : Bool) → p b ≡ t
    → AllOver association_id b.id es → (list_any p es ≡ true → IsFoundFor p es) → (t || list_any p es) ≡ true
    → IsFoundFor p (b ∷ es)
found_first p b es true is over rest passes =
    (b, ap (λ (t : Bool). cond t (Some b) (found b.id es)) (eq-eqb b.id b.id refl), is)
found_first p b es false is over rest passes =
    let one = rest passes in
    (one.0, later_by one.0 b es (b.id == one.0.id) refl over one.1, one.2)

pub found_any : (p : Association → Bool) (es : List Association) → Rising association_id es → list_any p es ≡ true
    → IsFoundFor p es
found_any p [] h passes = absurd (cc passes)
found_any p (b ∷ es) h passes = found_first p b es (p b) refl h.0 (λ later. found_any p es h.1 later) passes

-- ---- the same, of the table's own changes

pub closed_others : (id k : ℕ) (es fs : List Association) → fs ≡ closed id es → found id fs ≡ None
    → found k fs ≡ (if id == k then None else found k es)
closed_others id k es fs is gone = by (id == k) refl
  where
    by : (t : Bool) → (id == k) ≡ t → found k fs ≡ cond t None (found k es)
    by true same = subst (λ (n : ℕ). found n fs ≡ None) (eqb-true id k same) gone
    by false other = ap (found k) is ∙ at_left association_id id k es other
