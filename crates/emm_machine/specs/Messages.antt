-- The rows of messages with the subscriber's id (TS 36.413 clause 8).
use Rattle.std.specs.Prelude.{not, if◌then◌else◌, List, ℕ, Option, Some}
use Rattle.s1ap_causes.specs.declared.cause.Cause.TheVariants as causes
use Rattle.s1ap_causes.specs.declared.cause.RadioNetworkCause.TheVariants as radio
use Rattle.mme_types.specs.declared.event.UeBody.{UeBody}
use Rattle.mme_types.specs.declared.event.UeBody.TheVariants.{Uplink, UeContextReleaseRequest, UeContextReleaseComplete, InitialContextSetupFailure, PathSwitch, Notice}
use Rattle.mme_types.specs.declared.event.UeMessage.{UeMessage}
use Rattle.mme_signalling.specs.Pdus.{cause_of_request}
use Rattle.emm_state.specs.declared.draft.Draft.{Draft}
use Rattle.emm_state.specs.declared.setting.Setting.{Setting}
use Rattle.emm_state.specs.Actions.{fall}
use Rattle.emm_network.specs.Connected.{has_connection_id, has_pair, indicate, path_switch}
use Rattle.emm_uplink.specs.Serving.{uplink}

-- on the connection
unfoldable pub on_connection : UeBody (List ℕ) → Setting → Draft → Option Draft
on_connection (Uplink nas tai) s d = uplink d.solo.phase s tai nas d
on_connection (UeContextReleaseRequest cause) s d = Some (fall (cause_of_request cause) d)
on_connection UeContextReleaseComplete s d = Some d
on_connection InitialContextSetupFailure s d = Some (fall (causes.RadioNetwork radio.Unspecified) d)
on_connection PathSwitch s d = Some d
on_connection Notice s d = Some d

unfoldable pub checked : Setting → UeMessage (List ℕ) → Draft → Option Draft
checked s m d =
    if not (has_connection_id m d) then Some (indicate (causes.RadioNetwork radio.UnknownMmeUeS1apId) m d)
    else if has_pair m d then on_connection m.body s d
    else Some (indicate (causes.RadioNetwork radio.UnknownPairUeS1apId) m d)

-- UE CONTEXT RELEASE COMPLETE is never answered; a path switch comes from elsewhere
unfoldable pub message_of : UeBody (List ℕ) → Setting → UeMessage (List ℕ) → Draft → Option Draft
message_of UeContextReleaseComplete s m d = Some d
message_of PathSwitch s m d = Some (path_switch m d)
message_of (Uplink nas tai) s m d = checked s m d
message_of (UeContextReleaseRequest cause) s m d = checked s m d
message_of InitialContextSetupFailure s m d = checked s m d
message_of Notice s m d = checked s m d
