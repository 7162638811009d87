-- Steps that failed.
use Rattle.std.proofs.Common.{◌≡◌, Bool, true, false, Result, Ok, Err, refl, ap, ◌⊎◌, inl, inr}
use Rattle.per_streams.specs.declared.fault.PerFault.{PerFault}
use Rattle.s1ap_rows.specs.declared.fault.S1apFault.{S1apFault}
use Rattle.s1ap_rows.specs.declared.fault.S1apFault.TheVariants.{Syntax}
use Rattle.s1ap_rows.specs.Reading.{◌>>>◌, syntax_of}

abbrev pub okay : {A : Type 0} → A → Result A S1apFault
okay x = Ok x

abbrev pub failed : {A : Type 0} → S1apFault → Result A S1apFault
failed x = Err x

pub ok_same : {A : Type 0} (x y : A) → okay x ≡ okay y → x ≡ y
ok_same x y e = cc

pub err_same : {A : Type 0} (x y : S1apFault) → failed {A = A} x ≡ failed y → x ≡ y
err_same x y e = cc

pub never_both : {A F : Type 0} (r : Result A F) (x : A) (f : F) → r ≡ Ok x → r ≡ Err f → ⊥
never_both r x f p q = absurd cc

pub true_false : (b : Bool) → b ≡ true → b ≡ false → ⊥
true_false b p q = absurd cc

-- a step failed, or the next
abbrev pub FailsOr : {A B : Type 0} → Result A S1apFault → (A → Result B S1apFault) → S1apFault → Type 0
FailsOr {A} r g x = (r ≡ Err x) ⊎ ((a : A) × (r ≡ Ok a) × (g a ≡ Err x))

-- reading failed, or the next step
abbrev pub SyntaxOr : {A B : Type 0} → Result A PerFault → (A → Result B S1apFault) → S1apFault → Type 0
SyntaxOr {A} r g x = ((d : PerFault) × (r ≡ Err d) × (Syntax d ≡ x)) ⊎ ((a : A) × (r ≡ Ok a) × (g a ≡ Err x))

pub bind_fails : {A B : Type 0} (r : Result A S1apFault) (g : A → Result B S1apFault) (x : S1apFault) → (r >>> g) ≡ Err x
    → FailsOr r g x
bind_fails (Ok a) g x h = inr (a, refl, h)
bind_fails {A} {B} (Err e) g x h = inl (ap (λ (y : S1apFault). failed {A = A} y) (err_same {A = B} e x h))

pub syntax_fails : {A B : Type 0} (r : Result A PerFault) (g : A → Result B S1apFault) (x : S1apFault) → (syntax_of r >>> g) ≡ Err x
    → SyntaxOr r g x
syntax_fails (Ok a) g x h = inr (a, refl, h)
syntax_fails {A} {B} (Err f) g x h = inl (f, refl, err_same {A = B} (Syntax f) x h)

-- where the last step can't fail
pub mapped_fails : {A B : Type 0} (r : Result A S1apFault) (g : A → B) (x : S1apFault) → (r >>> λ a. okay (g a)) ≡ Err x → r ≡ Err x
mapped_fails (Ok a) g x h = absurd cc
mapped_fails {A} {B} (Err e) g x h = ap (λ (y : S1apFault). failed {A = A} y) (err_same {A = B} e x h)

pub fails_first : {A B : Type 0} (r : Result A S1apFault) (g : A → Result B S1apFault) (x : S1apFault) → r ≡ Err x
    → (r >>> g) ≡ Err x
fails_first r g x h = rw h refl
