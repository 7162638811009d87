-- What a message without a right MAC can do to a phone that is registered. It leaves the context, the bearer and the M-TMSI as they
-- are, and the phone registered, but for these: an ATTACH REQUEST begins anew, whoever sends it (TS 24.301 clause 5.5.1.2.7 (f)),
-- and a PATH SWITCH REQUEST on the phone's association takes the next hop of its radio keys (TS 36.413 clause 8.4.4).
use Rattle.std.specs.Prelude.{◌≡◌, ℕ, Bool, true, false, List, Option, Some, is_ok, ◌⊎◌}
use Rattle.nas_security.specs.Accepting.{short_accepted}
use Rattle.mme_types.specs.declared.event.UeBody.{UeBody}
use Rattle.mme_types.specs.declared.event.UeBody.TheVariants.{PathSwitch, Uplink}
use Rattle.mme_types.specs.Events.{Item, Initial, Claim, Message, Tick, Cancel}
use Rattle.mme_signalling.specs.declared.heard.Heard.{Heard}
use Rattle.mme_signalling.specs.declared.heard.Heard.TheVariants as heards
use Rattle.mme_signalling.specs.Hearing.{heard, initial_octets}
use Rattle.emm_state.specs.declared.setting.Setting.{Setting}
use Rattle.emm_state.specs.declared.solo.Context.{Context}
use Rattle.emm_state.specs.declared.solo.Solo.{Solo}
use Rattle.emm_state.specs.Actions.{is_registered, mac_of}
use Rattle.emm_machine.specs.Connected.{hopped}
use Rattle.emm_machine.specs.Serving.{accepted_by_context}
use Rattle.emm_machine.specs.Steps.{solo_step}

-- ---- messages that carry a right MAC

-- an INITIAL UE MESSAGE that the context accepts (TS 24.301 clause 4.4.4.3)
abbrev pub is_proved_entry : Context → List ℕ → Heard (List ℕ) → Bool
is_proved_entry x nas (heards.ServiceRequest octets) = is_ok (short_accepted (mac_of x) x.security.up_last x.security.ksi octets)
is_proved_entry x nas (heards.TrackingAreaUpdateRequest combined) = is_ok (accepted_by_context x nas)
is_proved_entry x nas (heards.DetachRequest switch_off) = is_ok (accepted_by_context x nas)
is_proved_entry x nas _ = false

abbrev pub is_proved_body : Context → UeBody (List ℕ) → Bool
is_proved_body x (Uplink nas tai) = is_ok (accepted_by_context x nas)
is_proved_body x _ = false

abbrev pub is_proved_message : Context → Item → Bool
is_proved_message x (Initial m) = is_proved_entry x m.nas (heard (initial_octets m.nas))
is_proved_message x (Message m) = is_proved_body x m.body
is_proved_message x _ = false

-- ---- the exceptions

abbrev pub is_attach_request : Heard (List ℕ) → Bool
is_attach_request (heards.AttachRequest combined capability esm) = true
is_attach_request _ = false

-- an ATTACH REQUEST, by the phone itself or as a stranger who says that it has this IMSI
abbrev pub begins_attach : Item → Bool
begins_attach (Initial m) = is_attach_request (heard (initial_octets m.nas))
begins_attach (Claim id m) = is_attach_request (heard (initial_octets m.nas))
begins_attach _ = false

-- the clock, and the operator's word: no messages
abbrev pub is_no_message : Item → Bool
is_no_message Tick = true
is_no_message Cancel = true
is_no_message _ = false

abbrev pub is_path_switch_body : UeBody (List ℕ) → Bool
is_path_switch_body PathSwitch = true
is_path_switch_body _ = false

abbrev pub is_path_switch : Item → Bool
is_path_switch (Message m) = is_path_switch_body m.body
is_path_switch _ = false

-- ---- what stays

-- all of the registration but the radio keys
pub record StaysRegistered (before after : Solo) : Type 0 where
  pub registered : is_registered after.phase ≡ true
  pub bearer : after.bearer ≡ before.bearer
  pub tmsi : after.tmsi ≡ before.tmsi
  pub next_vector : after.next_vector ≡ before.next_vector
  pub tai : after.tai ≡ before.tai

-- the radio keys are those of the next hop, or as they were
abbrev pub MayMoveOn : Context → Option Context → Type 0
MayMoveOn x after = (after ≡ Some x) ⊎ (after ≡ Some (record x { radio = hopped x }))

abbrev pub UnprovedLeaves : Type 0
UnprovedLeaves =
    (s : Setting) (solo : Solo) (x : Context) (item : Item) → is_registered solo.phase ≡ true → solo.context ≡ Some x
    → is_proved_message x item ≡ false → begins_attach item ≡ false → is_no_message item ≡ false
    → StaysRegistered solo (solo_step s solo item).solo
    × MayMoveOn x (solo_step s solo item).solo.context
    × (is_path_switch item ≡ false → (solo_step s solo item).solo.context ≡ Some x)
