-- The messages, one row each: the parts of the mandatory part, and which elements of the optional part are kept.
use Rattle.std.specs.Prelude.{List, [], ◌∷◌}
use Rattle.nas_elements.specs.declared.rule.Domain.TheVariants.{Emm, Esm}
use Rattle.nas_elements.specs.Identifiers.{emm_cause_iei, esm_cause_iei, esm_information_flag_iei, esm_message_container_iei, guti_iei, t3412_value_iei, tai_list_iei}
use Rattle.nas_elements.specs.Parts.{Part, constant, octet, halves, fixed, lv, long, spare, three, flagged, four, exactly, between, identity, guti, tai_list, label}
use Rattle.nas_elements.specs.Rows.{Row, Keep, element, flag}
use Rattle.nas_elements.specs.Timers.{t3412_octet}
use Rattle.nas_messages.specs.declared.emm_types.EmmType.{EmmType}
use Rattle.nas_messages.specs.declared.emm_types.EmmType.TheVariants.{AttachRequest, AttachAccept, AttachComplete, AttachReject, DetachRequest, NetworkDetach, DetachAccept, TrackingAreaUpdateRequest, TrackingAreaUpdateAccept, TrackingAreaUpdateComplete, TrackingAreaUpdateReject, ServiceReject, AuthenticationRequest, AuthenticationResponse, AuthenticationReject, IdentityRequest, IdentityResponse, AuthenticationFailure, SecurityModeCommand, SecurityModeComplete, SecurityModeReject, EmmStatus}
use Rattle.nas_messages.specs.declared.esm_types.EsmType.{EsmType}
use Rattle.nas_messages.specs.declared.esm_types.EsmType.TheVariants.{ActivateRequest, ActivateAccept, ActivateReject, ConnectivityRequest, ConnectivityReject, DisconnectRequest, DisconnectReject, InformationRequest, InformationResponse, EsmStatus}

-- ---- EPS mobility management (TS 24.301 clause 8.2), after discriminator and type

abbrev pub parts_of : EmmType → List Part
parts_of AttachRequest = halves three three ∷ lv identity ∷ lv (between 2 13) ∷ long ∷ []
parts_of AttachAccept = halves (exactly 1) spare ∷ constant t3412_octet ∷ lv tai_list ∷ long ∷ []
parts_of AttachComplete = long ∷ []
parts_of AttachReject = octet ∷ []
parts_of DetachRequest = halves flagged three ∷ lv identity ∷ []
parts_of NetworkDetach = halves (exactly 2) spare ∷ []
parts_of DetachAccept = []
parts_of TrackingAreaUpdateRequest = halves flagged three ∷ lv guti ∷ []
parts_of TrackingAreaUpdateAccept = halves (exactly 0) spare ∷ []
parts_of TrackingAreaUpdateComplete = []
parts_of TrackingAreaUpdateReject = octet ∷ []
parts_of ServiceReject = octet ∷ []
parts_of AuthenticationRequest = halves three spare ∷ fixed 16 ∷ lv (between 16 16) ∷ []
parts_of AuthenticationResponse = lv (between 4 16) ∷ []
parts_of AuthenticationReject = []
parts_of IdentityRequest = halves (exactly 1) spare ∷ []
parts_of IdentityResponse = lv identity ∷ []
parts_of AuthenticationFailure = octet ∷ []
parts_of SecurityModeCommand = constant 2 ∷ halves three spare ∷ lv (between 2 13) ∷ []
parts_of SecurityModeComplete = []
parts_of SecurityModeReject = octet ∷ []
parts_of EmmStatus = octet ∷ []

abbrev pub kept_of : EmmType → List Keep
kept_of AttachRequest = []
kept_of AttachAccept = element guti_iei ∷ element emm_cause_iei ∷ []
kept_of AttachComplete = []
kept_of AttachReject = element esm_message_container_iei ∷ []
kept_of DetachRequest = []
kept_of NetworkDetach = []
kept_of DetachAccept = []
kept_of TrackingAreaUpdateRequest = []
kept_of TrackingAreaUpdateAccept = element t3412_value_iei ∷ element guti_iei ∷ element tai_list_iei ∷ element emm_cause_iei ∷ []
kept_of TrackingAreaUpdateComplete = []
kept_of TrackingAreaUpdateReject = []
kept_of ServiceReject = []
kept_of AuthenticationRequest = []
kept_of AuthenticationResponse = []
kept_of AuthenticationReject = []
kept_of IdentityRequest = []
kept_of IdentityResponse = []
kept_of AuthenticationFailure = []
kept_of SecurityModeCommand = []
kept_of SecurityModeComplete = []
kept_of SecurityModeReject = []
kept_of EmmStatus = []

abbrev pub row_of : EmmType → Row
row_of t = record { parts = parts_of t; domain = Emm; kept = kept_of t }

-- ---- EPS session management (TS 24.301 clause 8.3), after discriminator, transaction and type

abbrev pub esm_parts_of : EsmType → List Part
esm_parts_of ActivateRequest = constant 1 ∷ constant 9 ∷ lv label ∷ constant 5 ∷ constant 1 ∷ fixed 4 ∷ []
esm_parts_of ActivateAccept = []
esm_parts_of ActivateReject = octet ∷ []
esm_parts_of ConnectivityRequest = halves three three ∷ []
esm_parts_of ConnectivityReject = octet ∷ []
esm_parts_of DisconnectRequest = halves four spare ∷ []
esm_parts_of DisconnectReject = octet ∷ []
esm_parts_of InformationRequest = []
esm_parts_of InformationResponse = []
esm_parts_of EsmStatus = octet ∷ []

abbrev pub esm_kept_of : EsmType → List Keep
esm_kept_of ActivateRequest = element esm_cause_iei ∷ []
esm_kept_of ActivateAccept = []
esm_kept_of ActivateReject = []
esm_kept_of ConnectivityRequest = flag esm_information_flag_iei ∷ []
esm_kept_of ConnectivityReject = []
esm_kept_of DisconnectRequest = []
esm_kept_of DisconnectReject = []
esm_kept_of InformationRequest = []
esm_kept_of InformationResponse = []
esm_kept_of EsmStatus = []

abbrev pub esm_row_of : EsmType → Row
esm_row_of t = record { parts = esm_parts_of t; domain = Esm; kept = esm_kept_of t }
