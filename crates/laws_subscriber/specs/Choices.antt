-- Choices in what a step does: by a test, by what may be there, and where a count may be spent.
use Rattle.std.proofs.Common.{◌≡◌, Bool, true, false, cond, Option, Some, None, unwrap_or, refl, subst}
use Rattle.std.specs.Option.{option_map_or}
use Rattle.std.proofs.lemmas.Option.{same_Some}
use Rattle.emm_state.specs.Does.{◌>>=◌}

-- it holds of what is there
pub record Whenever {A : Type 0} (P : A → Type 0) (o : Option A) : Type 0 where
  pub at : (x : A) → o ≡ Some x → P x

pub some : {A : Type 0} {P : A → Type 0} {x : A} → P x → Whenever P (Some x)
some {A} {P} {x} h = record { at = λ y is. subst P (same_Some x y is) h }

pub nothing : {A : Type 0} {P : A → Type 0} → Whenever P None
nothing = record { at = λ y is. absurd (cc is) }

pub then : {A B : Type 0} {P : A → Type 0} {R : B → Type 0} {o : Option A} (f : A → B) → Whenever P o → ((x : A) → P x → R (f x))
    → Whenever R (o >>= λ x. Some (f x))
then {o = None} f h each = nothing
then {o = Some x} f h each = some (each x (h.at x refl))

pub unless : {A : Type 0} {P : A → Type 0} (o : Option A) (d : A) → Whenever P o → P d → P (unwrap_or o d)
unless None d w h = h
unless (Some x) d w h = w.at x refl

pub at_some : {K D : Type 0} (Q : D → Type 0) {f : K → D} {d : D} (o : Option K) → ((k : K) → o ≡ Some k → Q (f k))
    → (o ≡ None → Q d) → Q (option_map_or f o d)
at_some Q None each none = none refl
at_some Q (Some k) each none = each k refl

pub either : {D : Type 0} (Q : D → Type 0) {x y : D} (t : Bool) → Q x → Q y → Q (cond t x y)
either Q true f g = f
either Q false f g = g

pub either_by : {D : Type 0} (Q : D → Type 0) {x y : D} (t : Bool) → (t ≡ true → Q x) → (t ≡ false → Q y) → Q (cond t x y)
either_by Q true f g = f refl
either_by Q false f g = g refl
