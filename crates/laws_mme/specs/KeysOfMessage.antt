-- Of which count KeNB is: of the message that is answered (TS 33.401 clause A.3).
use Rattle.std.specs.Prelude.{◌≡◌, ◌⊎◌, ℕ, List, All, slice_get, Option, Some, None, Ok}
use Rattle.s1ap_pdus.specs.declared.pdu.Pdu.{Pdu}
use Rattle.s1ap_pdus.specs.declared.pdu.Pdu.TheVariants as pdu
use Rattle.s1ap_pdus.specs.Pdus.{decoded}
use Rattle.eps_keys.specs.Hmac.{kenb}
use Rattle.identity_slots.specs.declared.profile.Vector.{Vector}
use Rattle.mme_types.specs.declared.octets.Mark.{Mark}
use Rattle.mme_types.specs.Events.{Item}
use Rattle.emm_state.specs.declared.setting.Setting.{Setting}
use Rattle.emm_state.specs.declared.solo.Context.{Context}
use Rattle.emm_state.specs.declared.solo.Phase.TheVariants.{EsmInformation}
use Rattle.emm_state.specs.declared.solo.Solo.{Solo}
use Rattle.emm_machine.specs.Steps.{solo_after, solo_step}
use Rattle.emm_machine.specs.Words.{fresh_solo}

-- KeNB in a message
abbrev pub kenb_in : Pdu (List ℕ) → Option (List ℕ)
kenb_in (pdu.InitialContextSetupRequest m) = Some m.key
kenb_in _ = None

-- it is of the vector and of the count that the step accepted a message under
pub record IsOfAccepted (vectors : List Vector) (accepted : Option Mark) (key : List ℕ) : Type 0 where
  pub mark : Mark
  pub is_accepted : accepted ≡ Some mark
  pub vector : Vector
  pub there : slice_get vectors mark.place ≡ Some vector
  pub is_kenb : key ≡ kenb vector.kasme mark.count

-- or it was kept while ESM information was asked for: that of the context before the step
pub record IsKept (before : Solo) (key : List ℕ) : Type 0 where
  pub asked : before.phase ≡ EsmInformation
  pub context : Context
  pub stands : before.context ≡ Some context
  pub is_kenb : key ≡ context.radio.kenb

-- each KeNB that is sent, at every step of every run of a subscriber who was never seen
abbrev pub KenbsAreOfTheirMessages : Type 0
KenbsAreOfTheirMessages =
    (s : Setting) (items : List Item) (item : Item)
    → All
    (λ a. (m : Pdu (List ℕ)) (key : List ℕ) → decoded a.octets ≡ Ok m → kenb_in m ≡ Some key
    → IsOfAccepted s.vectors (solo_step s (solo_after s fresh_solo items) item).accepted key
    ⊎ IsKept (solo_after s fresh_solo items) key)
    (solo_step s (solo_after s fresh_solo items) item).sent
