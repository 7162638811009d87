-- A longer list of vectors: what stands at a place stays there, and what is sound stays so.
use Rattle.std.proofs.Common.{◌≡◌, ℕ, zero, suc, List, [], ◌∷◌, ◌++◌, Option, Some}
use Rattle.std.specs.Prelude.{slice_get}
use Rattle.identity_slots.specs.declared.profile.Vector.{Vector}
use Rattle.emm_state.specs.declared.setting.Setting.{Setting}
use Rattle.emm_state.specs.declared.solo.Context.{Context}
use Rattle.emm_state.specs.declared.solo.Phase.{Phase}
use Rattle.emm_state.specs.declared.solo.Phase.TheVariants.{Deregistered, Authenticating, SecurityMode}
use Rattle.emm_state.specs.declared.solo.Solo.{Solo}
use Rattle.emm_machine.specs.Given.{having}
use Rattle.laws_subscriber.specs.Sound.{HasChallenge, HasContext, IsOfVector, IsSound}

-- what one list has the other has at the same place
pub record IsLonger (vs us : List Vector) : Type 0 where
  pub found : (place : ℕ) (v : Vector) → slice_get vs place ≡ Some v → slice_get us place ≡ Some v

found_in : (vs more : List Vector) (place : ℕ) (v : Vector) → slice_get vs place ≡ Some v → slice_get (vs ++ more) place ≡ Some v
found_in [] more place v at = absurd (cc at)
found_in (w ∷ vs) more zero v at = at
found_in (w ∷ vs) more (suc place) v at = found_in vs more place v at

pub longer : (vs more : List Vector) → IsLonger vs (vs ++ more)
longer vs more = record { found = found_in vs more }

-- ---- what is sound

of_longer : {vs us : List Vector} (x : Context) (v : Vector) → IsLonger vs us → IsOfVector vs x v → IsOfVector us x v
of_longer x v more of =
    record { there = more.found x.place v of.there; integrity = of.integrity; kasme = of.kasme; ksi = of.ksi }

has_longer : {vs us : List Vector} (context : Option Context) (phase : Phase) → IsLonger vs us → HasContext phase vs context
    → HasContext phase us context
has_longer context Deregistered more h = h
has_longer context Authenticating more h = h
has_longer context SecurityMode more h = (h.0, h.1, h.2, of_longer h.0 h.1 more h.3)
has_longer context _ more h = (h.0, h.1, h.2, of_longer h.0 h.1 more h.3, h.4)

challenged_longer : {vs us : List Vector} (next : ℕ) (phase : Phase) → IsLonger vs us → HasChallenge phase vs next
    → HasChallenge phase us next
challenged_longer next Authenticating more h = (h.0, h.1, h.2, more.found h.0 h.1 h.3)
challenged_longer next _ more h = tt

pub sound_longer : (more : List Vector) (s : Setting) (solo : Solo) → IsSound s solo → IsSound (having (s.vectors ++ more) s) solo
sound_longer more s solo h =
    let far = longer s.vectors more in
    record {
      context = has_longer solo.context solo.phase far h.context;
      connection = h.connection;
      challenge = challenged_longer solo.next_vector solo.phase far h.challenge;
      reachable = h.reachable;
      repeat = h.repeat;
    }
