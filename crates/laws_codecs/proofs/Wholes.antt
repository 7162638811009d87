-- Complete encodings, fields that may stand, and numbers that must.
use Rattle.std.proofs.Common.{◌≡◌, ℕ, Bool, true, false, cond, eqb, List, Some, None, Result, Err, refl, arith}
use Rattle.std.proofs.lemmas.Bool.{eq-eqb, eqb-true}
use Rattle.per_streams.specs.declared.fault.PerFault.{PerFault}
use Rattle.per_streams.specs.declared.fault.PerFault.TheVariants.{Range}
use Rattle.per_streams.specs.Bits.{Place, ◌>>=◌, start, end_at, open_at}
use Rattle.per_streams.specs.Exact.{Cond, Exact, Never, Nothing, exact_cond, exact_err, exact_ok, exact_same}
use Rattle.per_bits.specs.FormatLaws.{exact_string}
use Rattle.per_bits.specs.Reading.{inside_at, optional_at, skipped_at, whole_at}
use Rattle.per_bits.specs.Spelling.{SpellsString}
use Rattle.laws_codecs.specs.Components.{Component, same_number}
use Rattle.laws_codecs.specs.PerFaults.{Alone, EndComponents, InOrder, IsSame, Nowhere, StringComponents, Whether, WholeComponents}
use Rattle.laws_codecs.proofs.Outcomes.{good}
use Rattle.laws_codecs.proofs.Telling.{Tells, tells_bind, tells_map, tells_never, tells_same}
use Rattle.laws_codecs.proofs.Judging.{HasRoom, judges_one, tells_alone, verdict_unless}
use Rattle.laws_codecs.proofs.Bits.{tells_end}
use Rattle.laws_codecs.proofs.Strings.{tells_string}

-- ---- complete encodings

pub tells_whole : {A : Type 0} (S : A → ℕ → List Bool → Type 0) (P : Place → Component → Place → Type 0)
    (r : Place → Result (A × Place) PerFault)
    → Exact S r → ((t : Place) → Tells (P t) (r t)) → (os : List ℕ) → Tells (WholeComponents S P os) (whole_at r os)
unfolding whole_at
tells_whole {A} S P r exact h os =
    tells_bind S P (λ v. EndComponents) r (λ v t. end_at t >>= λ u. good v) (start os) exact (h (start os))
    (λ v t k. tells_map (EndComponents t) (end_at t) (λ u. v) (tells_end t))

pub tells_inside : {A : Type 0} (S : A → ℕ → List Bool → Type 0) (P : Place → Component → Place → Type 0)
    (r : Place → Result (A × Place) PerFault)
    → Exact S r → ((t : Place) → Tells (P t) (r t)) → (s : Place)
    → Tells (InOrder SpellsString StringComponents (λ os t. WholeComponents S P os) s) (inside_at r s)
tells_inside {A} S P r exact h s =
    tells_bind SpellsString StringComponents (λ os t. WholeComponents S P os) open_at
    (λ os t. whole_at r os >>= λ v. good {A = A × Place} (v, t)) s exact_string (tells_string s)
    (λ os t k. tells_map (WholeComponents S P os) (whole_at r os) (λ v. (v, t)) (tells_whole S P r exact h os))

-- ---- fields that may be absent

pub tells_optional : {A : Type 0} (b : Bool) (P : Place → Component → Place → Type 0) (r : Place → Result (A × Place) PerFault)
    → ((t : Place) → Tells (P t) (r t)) → (s : Place) → Tells (Whether b P Nowhere s) (optional_at b r s)
tells_optional {A} false P r h s =
    tells_never (Nowhere s) (optional_at false r s) (None, s) (λ c here m. m) refl
tells_optional true P r h s = tells_map (P s) (r s) (λ x. (Some x.0, x.1)) (h s)

-- ---- what is not kept

pub tells_skipped : {A : Type 0} (b : Bool) (P : Place → Component → Place → Type 0) (r : Place → Result (A × Place) PerFault)
    → ((t : Place) → Tells (P t) (r t)) → (s : Place) → Tells (Whether b P Nowhere s) (skipped_at b r s)
tells_skipped {A} false P r h s = tells_never (Nowhere s) (skipped_at false r s) (tt, s) (λ c here m. m) refl
tells_skipped true P r h s = tells_map (P s) (r s) (λ x. (tt, x.1)) (h s)

-- ---- a number that must be the one named

abbrev same_at : ℕ → ℕ → Place → Result (Unit {0} × Place) PerFault
same_at m n s = cond (eqb m n) (good {A = Unit {0} × Place} (tt, s)) (Err Range)

same_to : (m n : ℕ) (b : Bool) → eqb m n ≡ b → (u : Unit {0}) (at : ℕ) (bs : List Bool) → Cond b (Nothing tt) Never u at bs
    → IsSame m n u at bs
same_to m n true e u at bs h = (eqb-true m n e, h.1)
same_to m n false e u at bs h = absurd h

same_from : (m n : ℕ) (b : Bool) → eqb m n ≡ b → (u : Unit {0}) (at : ℕ) (bs : List Bool) → IsSame m n u at bs
    → Cond b (Nothing tt) Never u at bs
same_from m n true e u at bs h = (refl, h.1)
same_from m n false e u at bs h = let k = eq-eqb m n h.0 in absurd (cc (e, k))

exact_same_number : (m n : ℕ) → Exact (IsSame m n) (same_at m n)
exact_same_number m n =
    exact_same (Cond (eqb m n) (Nothing tt) Never) (IsSame m n) (same_at m n) (same_at m n) (same_to m n (eqb m n) refl)
    (same_from m n (eqb m n) refl) (λ s. refl)
    (exact_cond (eqb m n) (Nothing tt) Never (λ s. good {A = Unit {0} × Place} (tt, s)) (λ s. Err Range) (λ e. exact_ok tt)
    (λ e. exact_err Range))

another : (m n : ℕ) → eqb m n ≡ false → m ≡ n → ⊥
another m n e same = let k = eq-eqb m n same in absurd (cc (e, k))

no_width : (m n : ℕ) (s : Place) → HasRoom (same_number m n) s
no_width m n s = omega arith

tells_named : (m n : ℕ) (s : Place) → Tells (Alone (same_number m n) s) (same_at m n s)
tells_named m n s =
    tells_alone (same_number m n) s (same_at m n s)
    (judges_one (same_number m n) s (same_at m n s) Range (m ≡ n → ⊥) (no_width m n s) (λ fault b. b) (λ c. (refl, c))
    (verdict_unless (eqb m n) Range (m ≡ n → ⊥) (tt, s) (another m n) (λ e c. c (eqb-true m n e))))

same_is : {B : Type 0} (b : Bool) (q : Place → Result B PerFault) (s : Place)
    → (cond b (good {A = Unit {0} × Place} (tt, s)) (Err Range) >>= λ x. q x.1) ≡ cond b (q s) (Err Range)
same_is true q s = refl
same_is false q s = refl

pub tells_same_number : {B : Type 0} (m n : ℕ) (P : Place → Component → Place → Type 0) (q : Place → Result B PerFault) (s : Place)
    → ((t : Place) → Tells (P t) (q t))
    → Tells (InOrder (IsSame m n) (Alone (same_number m n)) (λ u. P) s) (cond (eqb m n) (q s) (Err Range))
tells_same_number m n P q s h =
    tells_same (InOrder (IsSame m n) (Alone (same_number m n)) (λ u. P) s) (same_at m n s >>= λ x. q x.1)
    (cond (eqb m n) (q s) (Err Range)) (same_is (eqb m n) q s)
    (tells_bind (IsSame m n) (Alone (same_number m n)) (λ u. P) (same_at m n) (λ u t. q t) s (exact_same_number m n)
    (tells_named m n s) (λ u t k. h t))
