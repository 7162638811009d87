-- Keys only to the proved: a message with a radio key goes only to the station and number of the phone's connection, and only where
-- the phone has proved itself; the key is that of its context (TS 33.401 clauses 6.2, 7.2.8).
use Rattle.std.specs.Prelude.{◌≡◌, ℕ, Bool, true, false, List, [], ◌∷◌, ◌++◌, All, Some, Ok}
use Rattle.s1ap_pdus.specs.declared.pdu.Pdu.{Pdu}
use Rattle.s1ap_pdus.specs.declared.pdu.Pdu.TheVariants as pdu
use Rattle.s1ap_pdus.specs.Pdus.{decoded}
use Rattle.mme_types.specs.declared.connection.Connection.{Connection}
use Rattle.mme_types.specs.declared.octets.Answer.{Answer}
use Rattle.mme_types.specs.Events.{Item}
use Rattle.emm_state.specs.declared.setting.Setting.{Setting}
use Rattle.emm_state.specs.declared.solo.Context.{Context}
use Rattle.emm_state.specs.declared.solo.Phase.TheVariants.{Deregistered}
use Rattle.emm_state.specs.declared.solo.Solo.{Solo}
use Rattle.emm_machine.specs.Steps.{solo_after, solo_step}
use Rattle.laws_subscriber.specs.Proof.{IsProved}
use Rattle.laws_subscriber.specs.Sound.{IsDerived, IsSound, is_past_proof}

-- INITIAL CONTEXT SETUP REQUEST and PATH SWITCH REQUEST ACKNOWLEDGE
abbrev pub has_radio_key : Pdu (List ℕ) → Bool
has_radio_key (pdu.InitialContextSetupRequest m) = true
has_radio_key (pdu.PathSwitchRequestAcknowledge m) = true
has_radio_key _ = false

-- the message is for this connection
abbrev pub IsForConnection : Connection → Pdu (List ℕ) → Type 0
IsForConnection k (pdu.InitialContextSetupRequest m) = (m.mme_ue_id ≡ k.id) × (m.enb_ue_id ≡ k.enb_ue_id)
IsForConnection k (pdu.PathSwitchRequestAcknowledge m) = (m.mme_ue_id ≡ k.id) × (m.enb_ue_id ≡ k.enb_ue_id)
IsForConnection k _ = Unit {0}

-- KeNB of the context, or its next hop with its place in the chain
abbrev pub HasKeyOf : Context → Pdu (List ℕ) → Type 0
HasKeyOf x (pdu.InitialContextSetupRequest m) = m.key ≡ x.radio.kenb
HasKeyOf x (pdu.PathSwitchRequestAcknowledge m) =
    (x.radio.next_hop ≡ Some m.context.next_hop) × (m.context.chaining_count ≡ x.radio.chaining_count)
HasKeyOf x _ = Unit {0}

-- by the state after the step that sent it
pub record GoesToTheProved (solo : Solo) (a : Answer) (m : Pdu (List ℕ)) : Type 0 where
  pub proved : is_past_proof solo.phase ≡ true
  pub connection : Connection
  pub stands : solo.connection ≡ Some connection
  pub station : a.station ≡ connection.station
  pub ids : IsForConnection connection m
  pub context : Context
  pub kept : solo.context ≡ Some context
  pub key : HasKeyOf context m
  pub derived : IsDerived context

abbrev pub KeysToTheProved : Type 0
KeysToTheProved =
    (s : Setting) (solo : Solo) (item : Item) → IsSound s solo
    → All
    (λ a. (m : Pdu (List ℕ)) → decoded a.octets ≡ Ok m → has_radio_key m ≡ true → GoesToTheProved (solo_step s solo item).solo a m)
    (solo_step s solo item).sent

-- and over a run from where it was deregistered, the phone has proved by then that it has the key of that context
abbrev pub KeysByProof : Type 0
KeysByProof =
    (s : Setting) (solo : Solo) (items : List Item) (item : Item) → IsSound s solo → solo.phase ≡ Deregistered
    → All (λ a. (m : Pdu (List ℕ)) → decoded a.octets ≡ Ok m → has_radio_key m ≡ true
    → (x : Context) × ((solo_after s solo (items ++ item ∷ [])).context ≡ Some x) × HasKeyOf x m
    × IsProved s solo (items ++ item ∷ []) x.place)
    (solo_step s (solo_after s solo items) item).sent
