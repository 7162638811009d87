-- Vectors, the first of which have no secrets any more.
use Rattle.std.proofs.Common.{◌≡◌, ℕ, zero, suc, ◌+◌, ◌<◌, ◌≤◌, List, [], ◌∷◌, length, get_or, refl, ◌∙◌, ap, subst, arith}
use Rattle.std.specs.Prelude.{min, max, slice_get, slice_set}
use Rattle.identity_slots.specs.declared.profile.Vector.{Vector}
use Rattle.identity_slots.specs.Forgetting.{first_forgotten, forgotten}
use Rattle.identity_slots.specs.Spending.{KeptView, spent_before}

pub first_length : (n : ℕ) (vs : List Vector) → length (first_forgotten n vs) ≡ length vs
first_length zero vs = refl
first_length (suc n) [] = refl
first_length (suc n) (v ∷ vs) = ap suc (first_length n vs)

-- those after them are as they were
pub first_get : (n k : ℕ) (vs : List Vector) → n ≤ k → slice_get (first_forgotten n vs) k ≡ slice_get vs k
first_get zero k vs le = refl
first_get (suc n) k [] le = refl
first_get (suc n) zero (v ∷ vs) le = absurd (omega arith)
first_get (suc n) (suc k) (v ∷ vs) le = first_get n k vs (omega arith)

pub suc_is : (n : ℕ) → suc n ≡ n + 1
suc_is n = omega arith

pub one_next : (n : ℕ) (vs : List Vector) (v d : Vector) → n < length vs → v ≡ get_or (first_forgotten n vs) n d
    → slice_set (first_forgotten n vs) n (forgotten v) ≡ first_forgotten (suc n) vs
one_next zero [] v d lt is = absurd (omega arith)
one_next zero (w ∷ vs) v d lt is = ap (λ u. forgotten u ∷ vs) is
one_next (suc n) [] v d lt is = absurd (omega arith)
one_next (suc n) (w ∷ vs) v d lt is = ap (λ us. forgotten w ∷ us) (one_next n vs v d (omega arith) is)

-- one more
pub first_next : (n : ℕ) (vs ws : List Vector) (v d : Vector) → ws ≡ first_forgotten n vs → n < length ws → v ≡ forgotten (get_or ws n d)
    → slice_set ws n v ≡ first_forgotten (n + 1) vs
first_next n vs ws v d is lt next =
    let long : n < length vs = subst (λ m. n < m) (ap length is ∙ first_length n vs) lt in
    ap (λ u. slice_set ws n u) next
    ∙ ap (λ us. slice_set us n (forgotten (get_or us n d))) is
    ∙ one_next n vs (get_or (first_forgotten n vs) n d) d long refl
    ∙ ap (λ m. first_forgotten m vs) (suc_is n)

most_is : (m n end : ℕ) → m ≤ n → n ≤ max m end → end ≤ n → n ≡ max m end
most_is m n end more most past = omega arith

-- all that are to be spent are
pub spent_are : (place end spent : ℕ) (given : List Vector) (v : KeptView) → given ≡ v.given → end ≡ min place (length v.given)
    → v.spent ≤ spent → spent ≤ max v.spent end → end ≤ spent
    → ◌≡◌ {A = KeptView} (record { given = given; spent = spent }) (spent_before place v)
spent_are place end spent given v same ends more most past =
    rw (same, most_is v.spent spent end more most past ∙ ap (max v.spent) ends) refl
