-- Of what kind the NAS messages are that are sent for a phone (TS 24.301 clauses 8.2, 8.3, 9.1).
use Rattle.std.specs.Prelude.{◌≡◌, ℕ, List, [], All, Ok}
use Rattle.s1ap_pdus.specs.declared.pdu.Pdu.{Pdu}
use Rattle.s1ap_pdus.specs.Pdus.{decoded}
use Rattle.nas_messages.specs.declared.protection.SecurityHeader.{SecurityHeader}
use Rattle.nas_security.specs.Context.{Mac}
use Rattle.nas_security.specs.Protecting.{protected_by}
use Rattle.mme_types.specs.declared.octets.Answer.{Answer}
use Rattle.mme_types.specs.Events.{Item}
use Rattle.emm_state.specs.declared.setting.Setting.{Setting}
use Rattle.emm_machine.specs.Steps.{solo_after, solo_step}
use Rattle.emm_machine.specs.Words.{fresh_solo}
use Rattle.laws_subscriber.specs.Marked.{nas_within}
use Rattle.laws_mme.specs.Network.{IsOfNetwork}

-- the written form of a message that a network sends, plain or protected; or an empty octet string, which is no message
pub data IsNasOfNetwork (nas : List ℕ) : Type 0 where
  SaidPlain : IsOfNetwork nas → IsNasOfNetwork nas
  SaidProtected : (mac : Mac) (count : ℕ) (header : SecurityHeader) (inner : List ℕ) → IsOfNetwork inner
      → nas ≡ protected_by mac count header inner → IsNasOfNetwork nas
  NothingSaid : nas ≡ [] → IsNasOfNetwork nas

-- each NAS message in what is sent, at every step of every run of a subscriber who was never seen
abbrev pub SaysOfNetwork : Type 0
SaysOfNetwork =
    (s : Setting) (items : List Item) (item : Item)
    → All (λ (a : Answer). (m : Pdu (List ℕ)) → decoded a.octets ≡ Ok m → All IsNasOfNetwork (nas_within m))
    (solo_step s (solo_after s fresh_solo items) item).sent
