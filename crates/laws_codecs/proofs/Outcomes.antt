-- Results that are a value or a fault.
use Rattle.std.proofs.Common.{◌≡◌, ℕ, ◌+◌, Bool, List, ◌++◌, length, Result, Ok, Err, refl, sym, ap, ◌∙◌}
use Rattle.per_streams.specs.declared.fault.PerFault.{PerFault}
use Rattle.per_streams.specs.Bits.{Place, ◌>>=◌}
use Rattle.per_streams.specs.Exact.{Exact, Takes}

abbrev pub good : {A : Type 0} → A → Result A PerFault
good x = Ok x

abbrev pub bad : {A : Type 0} → PerFault → Result A PerFault
bad d = Err d

pub bad_same : {A : Type 0} (x y : PerFault) → bad {A = A} x ≡ bad y → x ≡ y
bad_same x y e = cc

pub bad_also : {A B : Type 0} (x y : PerFault) → bad {A = A} x ≡ bad y → bad {A = B} x ≡ bad y
bad_also {A} {B} x y e = ap (λ (z : PerFault). bad {A = B} z) (bad_same {A = A} x y e)

pub never_both : {A : Type 0} (r : Result A PerFault) (x : A) (d : PerFault) → r ≡ Ok x → r ≡ Err d → ⊥
never_both r x d p q = absurd cc

pub fails_first : {A B : Type 0} (r : Result A PerFault) (g : A → Result B PerFault) (d : PerFault) → r ≡ Err d
    → (r >>= g) ≡ Err d
fails_first r g d h = rw h refl

pub goes_on : {A B : Type 0} (r : Result A PerFault) (g : A → Result B PerFault) (x : A) → r ≡ Ok x → (r >>= g) ≡ g x
goes_on r g x h = rw h refl

-- where the last step can't fail
pub mapped_fails : {A B : Type 0} (r : Result A PerFault) (g : A → B) (d : PerFault) → (r >>= λ a. good (g a)) ≡ Err d → r ≡ Err d
mapped_fails (Ok a) g d h = absurd cc
mapped_fails {A} {B} (Err e) g d h = bad_also {A = B} {B = A} e d h

-- what bits spell is read, whatever follows
pub reads : {A : Type 0} (S : A → ℕ → List Bool → Type 0) (r : Place → Result (A × Place) PerFault) → Exact S r
    → (s t : Place) (a : A) → Takes S s a t → r s ≡ Ok (a, t)
reads {A} S r h s t a k =
    let from : r s ≡ r (record { at = s.at; rest = k.taken ++ t.rest }) =
    ap (λ (l : List Bool). r (record { at = s.at; rest = l })) k.parts in
    let to : good {A = A × Place} (a, record { at = s.at + length k.taken; rest = t.rest }) ≡ good (a, t) =
    ap (λ (n : ℕ). good {A = A × Place} (a, record { at = n; rest = t.rest })) (sym k.at) in
    from ∙ h.again a s.at k.taken t.rest k.spelled ∙ to
