-- A component alone: a result is a fault exactly where it is that of the component.
use Rattle.std.proofs.Common.{◌≡◌, ℕ, ◌+◌, ◌<◌, ◌≤◌, Bool, true, false, cond, List, length, take, drop, Result, Ok, Err, refl, sym, ap, subst, ◌∙◌, ◌⊎◌, inl, inr, arith}
use Rattle.std.proofs.lemmas.Bool.{cases_lt, le-ltb}
use Rattle.per_streams.specs.declared.fault.PerFault.{PerFault}
use Rattle.per_streams.specs.declared.fault.PerFault.TheVariants.{Truncated, Padding, Range, NotFewest, Fragmented, Trailing, Alternative}
use Rattle.per_streams.specs.Bits.{Place, ◌>>=◌, take_at}
use Rattle.per_streams.specs.PartLaws.{short as take_cut}
use Rattle.laws_codecs.specs.Components.{Component, component_width, fault_number, IsBroken, IsFaultOf, IsWrong}
use Rattle.laws_codecs.specs.PerFaults.{Alone}
use Rattle.laws_codecs.proofs.Outcomes.{bad, bad_same, fails_first, goes_on, good, never_both}
use Rattle.laws_codecs.proofs.Telling.{Tells, among}

pub record Judges {A : Type 0} (k : Component) (s : Place) (r : Result A PerFault) : Type 0 where
  pub named : (fault : PerFault) → r ≡ Err fault → IsFaultOf k s fault
  pub answered : (fault : PerFault) → IsFaultOf k s fault → r ≡ Err fault

pub tells_alone : {A : Type 0} (k : Component) (s : Place) (r : Result A PerFault) → Judges k s r → Tells (Alone k s) r
tells_alone k s r h = record {
  named = λ fault e. among (Alone k s) k s fault (refl, refl) (h.named fault e);
  answered = λ fault p. h.answered fault (moved p.component p.place fault p.stands p.wrong);
  alone = λ x y p q. (p.stands.0 ∙ sym q.stands.0, p.stands.1 ∙ sym q.stands.1);
}
  where
    moved : (c : Component) (here : Place) (fault : PerFault) → Alone k s c here → IsFaultOf c here fault → IsFaultOf k s fault
    moved c here fault m w =
        subst (λ (d : Component). IsFaultOf d s fault) m.0 (subst (λ (t : Place). IsFaultOf c t fault) m.1 w)

-- ---- fewer bits are left than it has

pub least : (fault : PerFault) → 1 ≤ fault_number fault
least Truncated = omega arith
least Padding = omega arith
least Range = omega arith
least NotFewest = omega arith
least Fragmented = omega arith
least Trailing = omega arith
least Alternative = omega arith

first_of_all : (fault : PerFault) → fault_number fault ≤ 1 → fault ≡ Truncated
first_of_all Truncated le = refl
first_of_all Padding le = absurd (omega (arith, le))
first_of_all Range le = absurd (omega (arith, le))
first_of_all NotFewest le = absurd (omega (arith, le))
first_of_all Fragmented le = absurd (omega (arith, le))
first_of_all Trailing le = absurd (omega (arith, le))
first_of_all Alternative le = absurd (omega (arith, le))

pub judges_cut : {A : Type 0} (k : Component) (s : Place) (r : Result A PerFault) → length s.rest < component_width k s.at
    → r ≡ Err Truncated → Judges k s r
judges_cut {A} k s r cut e = record {
  named = λ fault h. subst (λ (f : PerFault). IsFaultOf k s f) (bad_same {A = A} Truncated fault (sym e ∙ h))
      (inl (refl, cut), λ other w. least other);
  answered = λ fault w. e ∙ ap (λ (f : PerFault). bad {A = A} f) (sym (first_of_all fault (w.1 Truncated (inl (refl, cut)))));
}

-- ---- its bits are left

abbrev pub Broken : Component → Place → PerFault → Type 0
Broken k s fault = IsBroken k (take (component_width k s.at) s.rest) (drop (component_width k s.at) s.rest) fault

abbrev pub HasRoom : Component → Place → Type 0
HasRoom k s = component_width k s.at ≤ length s.rest

pub broken : (k : Component) (s : Place) (fault : PerFault) → HasRoom k s → IsWrong k s fault → Broken k s fault
broken k s fault room (inl m) = absurd (let short = m.1 in omega (arith, room, short))
broken k s fault room (inr m) = m

-- one thing may be wrong with its bits, and nothing is
pub judges_good : {A : Type 0} (k : Component) (s : Place) (r : Result A PerFault) (y : A) → HasRoom k s
    → ((fault : PerFault) → Broken k s fault → ⊥) → r ≡ Ok y → Judges k s r
judges_good k s r y room none e = record {
  named = λ fault h. absurd (never_both r y fault e h);
  answered = λ fault w. absurd (none fault (broken k s fault room w.0));
}

-- one or more things are, and one has the lowest number
pub judges_lowest : {A : Type 0} (k : Component) (s : Place) (r : Result A PerFault) (x : PerFault) → HasRoom k s → Broken k s x
    → ((fault : PerFault) → Broken k s fault → fault_number x ≤ fault_number fault)
    → ((fault : PerFault) → Broken k s fault → fault_number fault ≤ fault_number x → fault ≡ x)
    → r ≡ Err x → Judges k s r
judges_lowest {A} k s r x room b low only e = record {
  named = λ fault h. subst (λ (f : PerFault). IsFaultOf k s f) (bad_same {A = A} x fault (sym e ∙ h))
      (inr b, λ other w. low other (broken k s other room w));
  answered = λ fault w.
      e ∙ ap (λ (f : PerFault). bad {A = A} f) (sym (only fault (broken k s fault room w.0) (w.1 x (inr b))));
}

pub same_number_of : (x other : PerFault) → other ≡ x → fault_number x ≤ fault_number other
same_number_of x other p = let n = ap fault_number p in omega (arith, n)

pub judges_bad : {A : Type 0} (k : Component) (s : Place) (r : Result A PerFault) (x : PerFault) → HasRoom k s
    → ((fault : PerFault) → Broken k s fault → fault ≡ x) → Broken k s x → r ≡ Err x → Judges k s r
judges_bad k s r x room only b e =
    judges_lowest k s r x room b (λ fault m. same_number_of x fault (only fault m)) (λ fault m le. only fault m) e

-- a result with one fault, by what makes it due
abbrev pub Verdict : {A : Type 0} → PerFault → Type 0 → Result A PerFault → Type 0
Verdict {A} x C r = (C × (r ≡ Err x)) ⊎ ((C → ⊥) × ((y : A) × (r ≡ Ok y)))

pub verdict_if : {A : Type 0} (b : Bool) (x : PerFault) (C : Type 0) (y : A) → (b ≡ true → C) → (b ≡ false → C → ⊥)
    → Verdict x C (cond b (Err x) (good y))
verdict_if true x C y to none = inl (to refl, refl)
verdict_if false x C y to none = inr (none refl, (y, refl))

pub verdict_unless : {A : Type 0} (b : Bool) (x : PerFault) (C : Type 0) (y : A) → (b ≡ false → C) → (b ≡ true → C → ⊥)
    → Verdict x C (cond b (good y) (Err x))
verdict_unless true x C y to none = inr (none refl, (y, refl))
verdict_unless false x C y to none = inl (to refl, refl)

pub judges_one : {A : Type 0} (k : Component) (s : Place) (r : Result A PerFault) (x : PerFault) (C : Type 0) → HasRoom k s
    → ((fault : PerFault) → Broken k s fault → (fault ≡ x) × C) → (C → Broken k s x) → Verdict x C r → Judges k s r
judges_one k s r x C room to from (inl m) = judges_bad k s r x room (λ fault b. (to fault b).0) (from m.0) m.1
judges_one k s r x C room to from (inr m) = judges_good k s r m.1.0 room (λ fault b. m.0 (to fault b).1) m.1.1

-- ---- bits that were taken

abbrev pub left_at : ℕ → Place → Place
left_at n s = record { at = s.at + n; rest = drop n s.rest }

pub take_room : (n : ℕ) (s : Place) → n ≤ length s.rest → take_at n s ≡ Ok (take n s.rest, left_at n s)
unfolding take_at
take_room n s room = rw (le-ltb (length s.rest) n room) refl

pub judges_taken : {A : Type 0} (k : Component) (s : Place) (n : ℕ) (g : List Bool × Place → Result A PerFault)
    → component_width k s.at ≡ n → (HasRoom k s → Judges k s (g (take n s.rest, left_at n s)))
    → Judges k s (take_at n s >>= g)
judges_taken {A} k s n g width h = by (cases_lt (length s.rest) n)
  where
    by : (length s.rest < n) ⊎ (n ≤ length s.rest) → Judges k s (take_at n s >>= g)
    by (inl cut) =
        judges_cut k s (take_at n s >>= g) (omega (arith, cut, width))
        (fails_first (take_at n s) g Truncated (take_cut n s cut))
    by (inr room) =
        let e = goes_on (take_at n s) g (take n s.rest, left_at n s) (take_room n s room) in
        let j = h (omega (arith, room, width)) in
        record { named = λ fault k. j.named fault (sym e ∙ k); answered = λ fault w. e ∙ j.answered fault w }
