-- No bidding down: what the network replays in SECURITY MODE COMMAND is the capability of the ATTACH REQUEST that began the
-- procedure, and the integrity algorithm that it chooses is in it (TS 24.301 clauses 5.4.3.2, 8.2.20; TS 33.401 clause 7.2.4.4).
use Rattle.std.specs.Prelude.{◌≡◌, ℕ, ◌+◌, ◌*◌, ◌==◌, Bool, true, false, List, [], ◌∷◌, ◌++◌, All, slice_index, None, Ok}
use Rattle.s1ap_pdus.specs.declared.pdu.Pdu.{Pdu}
use Rattle.s1ap_pdus.specs.Pdus.{decoded}
use Rattle.nas_messages.specs.declared.protection.SecurityHeader.TheVariants.{NewContext}
use Rattle.nas_elements.specs.Codes.{emm_discriminator}
use Rattle.nas_messages.specs.Protection.{header_code, protected_form}
use Rattle.mme_types.specs.declared.octets.Answer.{Answer}
use Rattle.mme_types.specs.Events.{Item}
use Rattle.mme_signalling.specs.Messages.{security_mode_command}
use Rattle.emm_state.specs.declared.setting.Setting.{Setting}
use Rattle.emm_state.specs.declared.solo.Phase.TheVariants.{Deregistered}
use Rattle.emm_state.specs.declared.solo.Solo.{Solo}
use Rattle.emm_machine.specs.Steps.{solo_after, solo_step}
use Rattle.laws_subscriber.specs.Marked.{nas_within}
use Rattle.laws_subscriber.specs.Sound.{IsSound}
use Rattle.laws_subscriber.specs.Unproved.{begins_attach}
use Rattle.laws_mme.specs.Premises.{AsksToAttach}

-- the last ATTACH REQUEST of a list of items has this capability, and EIA2 is in it
pub record IsAskedWith (items : List Item) (capability : List ℕ) : Type 0 where
  pub front : List Item
  pub request : Item
  pub since : List Item
  pub whole : items ≡ front ++ request ∷ since
  pub asks : AsksToAttach request capability
  pub last : All (λ item. begins_attach item ≡ false) since

-- an octet string with the security header of a new context, integrity protected, as SECURITY MODE COMMAND alone has
-- (TS 24.301 clause 9.3.1)
abbrev pub has_new_context_header : List ℕ → Bool
has_new_context_header nas = slice_index nas 0 == header_code NewContext * 16 + emm_discriminator

-- it is the protected form of SECURITY MODE COMMAND with the capability that the phone last asked to attach with, as it is replayed
pub record Replays (items : List Item) (nas : List ℕ) : Type 0 where
  pub capability : List ℕ
  pub asked : IsAskedWith items capability
  pub ksi : ℕ
  pub mac : List ℕ
  pub sequence : ℕ
  pub form : nas
      ≡ protected_form (record {
        header = NewContext;
        mac = mac;
        sequence = sequence;
        message = security_mode_command ksi capability;
      })

-- each message that has that header
abbrev pub ReplaysIfCommand : List Item → Answer → Type 0
ReplaysIfCommand items a =
    (m : Pdu (List ℕ)) → decoded a.octets ≡ Ok m
    → All (λ nas. has_new_context_header nas ≡ true → Replays items nas) (nas_within m)

-- over a run from where the phone was deregistered, whatever was heard
abbrev pub CommandsReplay : Type 0
CommandsReplay =
    (s : Setting) (solo : Solo) (items : List Item) (item : Item) → IsSound s solo → solo.phase ≡ Deregistered → solo.repeat ≡ None
    → All (ReplaysIfCommand (items ++ item ∷ [])) (solo_step s (solo_after s solo items) item).sent
