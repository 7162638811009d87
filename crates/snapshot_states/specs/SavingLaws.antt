-- Which states can be stored.
use Rattle.std.proofs.Common.{◌≡◌, List, Option, Some, None}
use Rattle.eps_keys.specs.Hmac.{nas_integrity_key}
use Rattle.identity_slots.specs.declared.profile.Vector.{Vector}
use Rattle.emm_state.specs.declared.setting.Setting.{Setting}
use Rattle.emm_state.specs.declared.solo.Context.{Context}
use Rattle.emm_state.specs.declared.solo.Phase.{Phase}
use Rattle.emm_state.specs.declared.solo.Phase.TheVariants.{Deregistered, Authenticating, SecurityMode, EsmInformation, Accepting, Updating, Registered, Detaching}
use Rattle.emm_state.specs.declared.solo.Solo.{Solo}
use Rattle.laws_subscriber.specs.Sound.{HasContext, IsOfVector, IsSound}
use Rattle.snapshot_states.specs.Saving.{HasOwnKey}

of_vector : (vectors : List Vector) (x y : Context) (v : Vector) → Some x ≡ Some y → IsOfVector vectors y v
    → x.security.integrity ≡ nas_integrity_key x.kasme
of_vector vectors x y v e h = cc

in_phase : (phase : Phase) (vectors : List Vector) (o : Option Context) → HasContext phase vectors o → HasOwnKey o
in_phase phase vectors None h = tt
in_phase Deregistered vectors (Some x) h = cc
in_phase Authenticating vectors (Some x) h = cc
in_phase SecurityMode vectors (Some x) h = of_vector vectors x h.0 h.1 h.2 h.3
in_phase EsmInformation vectors (Some x) h = of_vector vectors x h.0 h.1 h.2 h.3
in_phase Accepting vectors (Some x) h = of_vector vectors x h.0 h.1 h.2 h.3
in_phase Updating vectors (Some x) h = of_vector vectors x h.0 h.1 h.2 h.3
in_phase Registered vectors (Some x) h = of_vector vectors x h.0 h.1 h.2 h.3
in_phase Detaching vectors (Some x) h = of_vector vectors x h.0 h.1 h.2 h.3

-- a sound state's context has its own key
pub sound_has_own_key : (s : Setting) (solo : Solo) → IsSound s solo → HasOwnKey solo.context
sound_has_own_key s solo h = in_phase solo.phase s.vectors solo.context h.context
