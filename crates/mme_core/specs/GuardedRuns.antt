-- What it takes to be let in, of a subscriber over a list of items.
use Rattle.std.specs.Prelude.{◌≡◌, ℕ, true, false, List, [], ◌∷◌, ◌++◌, All, flat_map, Some, Ok}
use Rattle.std.specs.List.{AllZip}
use Rattle.s1ap_pdus.specs.declared.pdu.Pdu.{Pdu}
use Rattle.s1ap_pdus.specs.Pdus.{decoded}
use Rattle.mme_types.specs.Events.{Item}
use Rattle.emm_state.specs.declared.solo.Context.{Context}
use Rattle.emm_state.specs.declared.solo.Phase.TheVariants.{Deregistered}
use Rattle.emm_state.specs.declared.solo.Solo.{Solo}
use Rattle.emm_state.specs.Actions.{is_registered}
use Rattle.emm_machine.specs.Freshness.{sent_marks}
use Rattle.emm_machine.specs.Steps.{solo_after, solo_answers, solo_step}
use Rattle.emm_machine.specs.SubscriberView.{SubscriberView}
use Rattle.laws_subscriber.specs.Keys.{GoesToTheProved, HasKeyOf, has_radio_key}
use Rattle.laws_subscriber.specs.Marked.{IsFormUnder, IsMarked, protected_among}
use Rattle.laws_subscriber.specs.Proof.{IsProved}
use Rattle.laws_subscriber.specs.Sound.{is_past_proof}
use Rattle.laws_subscriber.specs.Unproved.{MayMoveOn, StaysRegistered, begins_attach, is_no_message, is_path_switch, is_proved_message}

-- the machine's state after a list of items
abbrev pub state_after : SubscriberView → List Item → Solo
state_after w items = solo_after w.setting w.solo items

-- who is past the proof has given it, with the key of the context that stands
abbrev pub IsProvedRun : SubscriberView → List Item → Type 0
IsProvedRun w items = (x : Context) × ((state_after w items).context ≡ Some x) × IsProved w.setting w.solo items x.place

-- at one item: a radio key goes to the proved
abbrev pub GivesKeysToTheProved : SubscriberView → List Item → Item → Type 0
GivesKeysToTheProved w seen item =
    All (λ a. (m : Pdu (List ℕ)) → decoded a.octets ≡ Ok m → has_radio_key m ≡ true
    → GoesToTheProved (solo_step w.setting (state_after w seen) item).solo a m)
    (solo_step w.setting (state_after w seen) item).sent

-- and, where the phone was deregistered before, only after its proof that it has the key of that context
abbrev pub GivesKeysByProof : SubscriberView → List Item → Item → Type 0
GivesKeysByProof w seen item =
    All (λ a. (m : Pdu (List ℕ)) → decoded a.octets ≡ Ok m → has_radio_key m ≡ true
    → (x : Context) × ((state_after w (seen ++ item ∷ [])).context ≡ Some x) × HasKeyOf x m
    × IsProved w.setting w.solo (seen ++ item ∷ []) x.place)
    (solo_step w.setting (state_after w seen) item).sent

-- and what isn't proved leaves a phone that is registered
abbrev pub LeavesTheRegistered : SubscriberView → List Item → Item → Type 0
LeavesTheRegistered w seen item =
    (x : Context) → is_registered (state_after w seen).phase ≡ true → (state_after w seen).context ≡ Some x
    → is_proved_message x item ≡ false → begins_attach item ≡ false → is_no_message item ≡ false
    → StaysRegistered (state_after w seen) (solo_step w.setting (state_after w seen) item).solo
    × MayMoveOn x (solo_step w.setting (state_after w seen) item).solo.context
    × (is_path_switch item ≡ false → (solo_step w.setting (state_after w seen) item).solo.context ≡ Some x)

pub record IsGuardedRun (w : SubscriberView) (items : List Item) : Type 0 where
  -- every message that is sent decodes, and its NAS with a security header is the protected form under its mark
  pub marked : All (IsMarked w.setting.vectors) (flat_map (λ sent. sent) (solo_answers w.setting w.solo items))
  -- those are, one for one and in order, the protected forms under the marks that are sent
  pub in_order : AllZip (IsFormUnder w.setting.vectors) (sent_marks w.setting w.solo items)
      (flat_map protected_among (solo_answers w.setting w.solo items))
  -- at each place of the list
  pub proved : (seen unseen : List Item) → items ≡ seen ++ unseen → w.solo.phase ≡ Deregistered
      → is_past_proof (state_after w seen).phase ≡ true → IsProvedRun w seen
  pub keys : (seen unseen : List Item) (item : Item) → items ≡ seen ++ item ∷ unseen → GivesKeysToTheProved w seen item
  pub keys_by_proof : (seen unseen : List Item) (item : Item) → items ≡ seen ++ item ∷ unseen → w.solo.phase ≡ Deregistered
      → GivesKeysByProof w seen item
  pub unproved : (seen unseen : List Item) (item : Item) → items ≡ seen ++ item ∷ unseen → LeavesTheRegistered w seen item
