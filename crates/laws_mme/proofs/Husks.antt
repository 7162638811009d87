-- Lists, the first of which are husks.
use Rattle.std.proofs.Common.{◌≡◌, ℕ, zero, suc, ◌-◌, ◌<◌, ◌≤◌, List, [], ◌∷◌, ◌++◌, length, Some, refl, ap, arith, le_refl}
use Rattle.std.specs.Prelude.{slice_get}
use Rattle.identity_slots.specs.declared.profile.Vector.{Vector}
use Rattle.emm_state.specs.declared.solo.Phase.{Phase}
use Rattle.emm_state.specs.declared.solo.Phase.TheVariants.{Authenticating}
use Rattle.emm_state.specs.Taking.{next_place}
use Rattle.mme_core.specs.Remembered.{husked}

pub get_past : (h : Vector) (k n : ℕ) (vs : List Vector) → k ≤ n → slice_get (husked h k vs) n ≡ slice_get vs n
get_past h zero n vs le = refl
get_past h (suc k) n [] le = refl
get_past h (suc k) zero (v ∷ vs) le = absurd (omega (arith, le))
get_past h (suc k) (suc n) (v ∷ vs) le = get_past h k n vs (omega (arith, le))

pub get_within : (h : Vector) (k n : ℕ) (vs : List Vector) (v : Vector) → n < k → slice_get vs n ≡ Some v
    → slice_get (husked h k vs) n ≡ Some h
get_within h zero n vs v lt at = absurd (omega (arith, lt))
get_within h (suc k) n [] v lt at = absurd (cc at)
get_within h (suc k) zero (w ∷ vs) v lt at = refl
get_within h (suc k) (suc n) (w ∷ vs) v lt at = get_within h k n vs v (omega (arith, lt)) at

pub husked_again : (g h : Vector) (k m : ℕ) (vs : List Vector) → k ≤ m → husked g m (husked h k vs) ≡ husked g m vs
husked_again g h zero m vs le = refl
husked_again g h (suc k) m [] le = refl
husked_again g h (suc k) zero (v ∷ vs) le = absurd (omega (arith, le))
husked_again g h (suc k) (suc m) (v ∷ vs) le = ap (λ us. g ∷ us) (husked_again g h k m vs (omega (arith, le)))

pub pushed_again : (h : Vector) (k : ℕ) (vs : List Vector) (v : Vector)
    → husked h k (husked h k vs ++ v ∷ []) ≡ husked h k (vs ++ v ∷ [])
pushed_again h zero vs v = refl
pushed_again h (suc k) [] v = refl
pushed_again h (suc k) (w ∷ vs) v = ap (λ us. h ∷ us) (pushed_again h k vs v)

pub as_many_husked : (h : Vector) (k : ℕ) (vs : List Vector) → length (husked h k vs) ≡ length vs
as_many_husked h zero vs = refl
as_many_husked h (suc k) [] = refl
as_many_husked h (suc k) (v ∷ vs) = ap suc (as_many_husked h k vs)

pub next_within : (p : Phase) (next : ℕ) → next_place p next ≤ next
next_within Authenticating next = omega arith
next_within _ next = le_refl next
