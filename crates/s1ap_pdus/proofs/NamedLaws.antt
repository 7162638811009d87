-- Messages keep their names.
use Rattle.std.proofs.Common.{◌≡◌, ℕ, List, Option, Some, None, Result, Ok, Err, refl, sym, ap, subst, ◌∙◌, option_map}
use Rattle.per_streams.specs.declared.fault.PerFault.{PerFault}
use Rattle.per_bits.specs.Formats.{Value}
use Rattle.s1ap_elements.specs.s1ap_causes.Causes.{cause, typed_cause, named_cause}
use Rattle.s1ap_elements.specs.Phones.{typed_s_tmsi, named_s_tmsi}
use Rattle.s1ap_elements.specs.Resets.{typed_associations_reset, named_associations_reset}
use Rattle.s1ap_elements.specs.ListLaws.{option_back}
use Rattle.s1ap_elements.specs.s1ap_causes.CauseLaws.{cause_again, cause_spelled}
use Rattle.s1ap_elements.specs.StationLaws.{global_enb_id_again, global_enb_id_spelled, paging_drx_again, paging_drx_spelled, served_gummeis_again, served_gummeis_spelled, supported_tas_again, supported_tas_spelled}
use Rattle.s1ap_elements.specs.PhoneLaws.{cn_domain_again, cn_domain_spelled, rrc_cause_again, rrc_cause_spelled, tai_list_again, tai_list_spelled, ue_paging_id_again, ue_paging_id_spelled, ue_s1ap_ids_again, ue_s1ap_ids_spelled}
use Rattle.s1ap_elements.specs.ResetLaws.{associations_reset_again, associations_reset_spelled, reset_type_again, reset_type_spelled}
use Rattle.s1ap_elements.specs.BearerLaws.{erabs_setup_again, erabs_setup_spelled, erabs_to_be_setup_again, erabs_to_be_setup_spelled, erabs_to_be_switched_again, erabs_to_be_switched_spelled}
use Rattle.s1ap_rows.specs.declared.fault.S1apFault.{S1apFault}
use Rattle.s1ap_pdus.specs.declared.message_type.MessageType.{MessageType}
use Rattle.s1ap_pdus.specs.declared.message_type.MessageType.TheVariants as message
use Rattle.s1ap_pdus.specs.declared.pdu.S1SetupRequest.{S1SetupRequest}
use Rattle.s1ap_pdus.specs.declared.pdu.S1SetupResponse.{S1SetupResponse}
use Rattle.s1ap_pdus.specs.declared.pdu.S1SetupFailure.{S1SetupFailure}
use Rattle.s1ap_pdus.specs.declared.pdu.InitialUeMessage.{InitialUeMessage}
use Rattle.s1ap_pdus.specs.declared.pdu.NasNonDeliveryIndication.{NasNonDeliveryIndication}
use Rattle.s1ap_pdus.specs.declared.pdu.InitialContextSetupRequest.{InitialContextSetupRequest}
use Rattle.s1ap_pdus.specs.declared.pdu.InitialContextSetupResponse.{InitialContextSetupResponse}
use Rattle.s1ap_pdus.specs.declared.pdu.InitialContextSetupFailure.{InitialContextSetupFailure}
use Rattle.s1ap_pdus.specs.declared.pdu.UeContextReleaseRequest.{UeContextReleaseRequest}
use Rattle.s1ap_pdus.specs.declared.pdu.UeContextReleaseCommand.{UeContextReleaseCommand}
use Rattle.s1ap_pdus.specs.declared.pdu.Paging.{Paging}
use Rattle.s1ap_pdus.specs.declared.pdu.PathSwitchRequest.{PathSwitchRequest}
use Rattle.s1ap_pdus.specs.declared.pdu.PathSwitchRequestFailure.{PathSwitchRequestFailure}
use Rattle.s1ap_pdus.specs.declared.pdu.Reset.{Reset}
use Rattle.s1ap_pdus.specs.declared.pdu.ResetAcknowledge.{ResetAcknowledge}
use Rattle.s1ap_pdus.specs.declared.pdu.ErrorIndication.{ErrorIndication}
use Rattle.s1ap_pdus.specs.declared.pdu.Pdu.{Pdu}
use Rattle.s1ap_pdus.specs.declared.pdu.Pdu.TheVariants as pdu
use Rattle.s1ap_rows.specs.Rows.{Kept}
use Rattle.s1ap_pdus.specs.Profile.{rows_of, setup_request, setup_response, setup_failure, initial_ue_message, nas_non_delivery, context_setup_request, context_setup_response, context_setup_failure, release_request, release_command, paging, path_switch_request, path_switch_failure, reset, reset_acknowledge, error_indication}
use Rattle.s1ap_pdus.specs.Typed.{Typed, typed_of, decode_typed, SpellsTyped, encode_typed}
use Rattle.s1ap_pdus.specs.Pdus.{typed, named, decoded, encoded, ok_of, SpellsMessage, typed_setup_request, named_setup_request, typed_setup_response, named_setup_response, typed_setup_failure, named_setup_failure, typed_initial_ue_message, named_initial_ue_message, typed_nas_non_delivery, named_nas_non_delivery, typed_context_setup_request, named_context_setup_request, typed_context_setup_response, named_context_setup_response, typed_context_setup_failure, named_context_setup_failure, typed_release_request, named_release_request, typed_release_command, named_release_command, typed_paging, named_paging, typed_path_switch_request, named_path_switch_request, typed_path_switch_failure, named_path_switch_failure, typed_reset, named_reset, typed_reset_acknowledge, named_reset_acknowledge, typed_error_indication, named_error_indication}
use Rattle.s1ap_rows.specs.Reading.{◌>>>◌}
use Rattle.s1ap_rows.specs.MessageLaws.{bind_some}
use Rattle.s1ap_pdus.proofs.PduLaws.{decode_to, decode_from}
use Rattle.s1ap_pdus.proofs.WrittenLaws.{typed_written}
use Rattle.s1ap_pdus.proofs.SpelledLaws.{SpelledOption, AreSpelled, typed_spelled}

setup_request_again : (m : S1SetupRequest (List ℕ)) → named_setup_request (typed_setup_request m) ≡ m
setup_request_again m = rw (global_enb_id_again m.station, supported_tas_again m.supported_tas, paging_drx_again m.paging_drx) refl

setup_response_again : (m : S1SetupResponse) → named_setup_response (typed_setup_response m) ≡ m
setup_response_again m = rw (served_gummeis_again m.served_gummeis) refl

setup_failure_again : (m : S1SetupFailure) → named_setup_failure (typed_setup_failure m) ≡ m
setup_failure_again m = rw (cause_again m.cause) refl

initial_ue_message_again : (m : InitialUeMessage (List ℕ)) → named_initial_ue_message (typed_initial_ue_message m) ≡ m
initial_ue_message_again m = rw (rrc_cause_again m.rrc_cause, option_back typed_s_tmsi named_s_tmsi (λ x. refl) m.s_tmsi) refl

nas_non_delivery_again : (m : NasNonDeliveryIndication (List ℕ)) → named_nas_non_delivery (typed_nas_non_delivery m) ≡ m
nas_non_delivery_again m = rw (cause_again m.cause) refl

context_setup_request_again : (m : InitialContextSetupRequest (List ℕ))
    → named_context_setup_request (typed_context_setup_request m) ≡ m
context_setup_request_again m = rw (erabs_to_be_setup_again m.erabs) refl

context_setup_response_again : (m : InitialContextSetupResponse) → named_context_setup_response (typed_context_setup_response m) ≡ m
context_setup_response_again m = rw (erabs_setup_again m.erabs) refl

context_setup_failure_again : (m : InitialContextSetupFailure) → named_context_setup_failure (typed_context_setup_failure m) ≡ m
context_setup_failure_again m = rw (cause_again m.cause) refl

release_request_again : (m : UeContextReleaseRequest) → named_release_request (typed_release_request m) ≡ m
release_request_again m = rw (cause_again m.cause) refl

release_command_again : (m : UeContextReleaseCommand) → named_release_command (typed_release_command m) ≡ m
release_command_again m = rw (ue_s1ap_ids_again m.ids, cause_again m.cause) refl

paging_again : (m : Paging (List ℕ)) → named_paging (typed_paging m) ≡ m
paging_again m = rw (ue_paging_id_again m.paging_id, cn_domain_again m.domain, tai_list_again m.tai_list) refl

path_switch_request_again : (m : PathSwitchRequest) → named_path_switch_request (typed_path_switch_request m) ≡ m
path_switch_request_again m = rw (erabs_to_be_switched_again m.erabs) refl

path_switch_failure_again : (m : PathSwitchRequestFailure) → named_path_switch_failure (typed_path_switch_failure m) ≡ m
path_switch_failure_again m = rw (cause_again m.cause) refl

reset_again : (m : Reset) → named_reset (typed_reset m) ≡ m
reset_again m = rw (cause_again m.cause, reset_type_again m.reset_type) refl

reset_acknowledge_again : (m : ResetAcknowledge) → named_reset_acknowledge (typed_reset_acknowledge m) ≡ m
reset_acknowledge_again m =
    rw (option_back typed_associations_reset named_associations_reset associations_reset_again m.associations) refl

error_indication_again : (m : ErrorIndication) → named_error_indication (typed_error_indication m) ≡ m
error_indication_again m = rw (option_back typed_cause named_cause cause_again m.cause) refl

pub named_of_typed : (m : Pdu (List ℕ)) → named (typed m).0 (typed m).1 ≡ m
named_of_typed (pdu.S1SetupRequest m) = ap (λ x. pdu.S1SetupRequest x) (setup_request_again m)
named_of_typed (pdu.S1SetupResponse m) = ap (λ x. pdu.S1SetupResponse x) (setup_response_again m)
named_of_typed (pdu.S1SetupFailure m) = ap (λ x. pdu.S1SetupFailure x) (setup_failure_again m)
named_of_typed (pdu.InitialUeMessage m) = ap (λ x. pdu.InitialUeMessage x) (initial_ue_message_again m)
named_of_typed (pdu.DownlinkNasTransport m) = refl
named_of_typed (pdu.UplinkNasTransport m) = refl
named_of_typed (pdu.NasNonDeliveryIndication m) = ap (λ x. pdu.NasNonDeliveryIndication x) (nas_non_delivery_again m)
named_of_typed (pdu.UeCapabilityInfoIndication m) = refl
named_of_typed (pdu.InitialContextSetupRequest m) = ap (λ x. pdu.InitialContextSetupRequest x) (context_setup_request_again m)
named_of_typed (pdu.InitialContextSetupResponse m) = ap (λ x. pdu.InitialContextSetupResponse x) (context_setup_response_again m)
named_of_typed (pdu.InitialContextSetupFailure m) = ap (λ x. pdu.InitialContextSetupFailure x) (context_setup_failure_again m)
named_of_typed (pdu.UeContextReleaseRequest m) = ap (λ x. pdu.UeContextReleaseRequest x) (release_request_again m)
named_of_typed (pdu.UeContextReleaseCommand m) = ap (λ x. pdu.UeContextReleaseCommand x) (release_command_again m)
named_of_typed (pdu.UeContextReleaseComplete m) = refl
named_of_typed (pdu.Paging m) = ap (λ x. pdu.Paging x) (paging_again m)
named_of_typed (pdu.PathSwitchRequest m) = ap (λ x. pdu.PathSwitchRequest x) (path_switch_request_again m)
named_of_typed (pdu.PathSwitchRequestAcknowledge m) = refl
named_of_typed (pdu.PathSwitchRequestFailure m) = ap (λ x. pdu.PathSwitchRequestFailure x) (path_switch_failure_again m)
named_of_typed (pdu.Reset m) = ap (λ x. pdu.Reset x) (reset_again m)
named_of_typed (pdu.ResetAcknowledge m) = ap (λ x. pdu.ResetAcknowledge x) (reset_acknowledge_again m)
named_of_typed (pdu.ErrorIndication m) = ap (λ x. pdu.ErrorIndication x) (error_indication_again m)

-- ---- and what is spelled is what its rows have

option_cause_spelled : (o : Option (Value cause)) → SpelledOption cause o → option_map typed_cause (option_map named_cause o) ≡ o
option_cause_spelled None s = refl
option_cause_spelled (Some v) s = ap (λ x. Some x) (cause_spelled v s)

setup_request_spelled : (v : Kept setup_request) → AreSpelled setup_request v → typed_setup_request (named_setup_request v) ≡ v
setup_request_spelled v s =
    rw (global_enb_id_spelled v.0, supported_tas_spelled v.1.1.0, paging_drx_spelled v.1.1.1.0 s.1.1.1.0) refl

setup_response_spelled : (v : Kept setup_response) → typed_setup_response (named_setup_response v) ≡ v
setup_response_spelled v = rw (served_gummeis_spelled v.0) refl

setup_failure_spelled : (v : Kept setup_failure) → AreSpelled setup_failure v → typed_setup_failure (named_setup_failure v) ≡ v
setup_failure_spelled v s = rw (cause_spelled v.0 s.0) refl

initial_ue_message_spelled : (v : Kept initial_ue_message) → AreSpelled initial_ue_message v
    → typed_initial_ue_message (named_initial_ue_message v) ≡ v
initial_ue_message_spelled v s =
    rw (rrc_cause_spelled v.1.1.1.1.0 s.1.1.1.1.0, option_back named_s_tmsi typed_s_tmsi (λ x. refl) v.1.1.1.1.1.0) refl

nas_non_delivery_spelled : (v : Kept nas_non_delivery) → AreSpelled nas_non_delivery v
    → typed_nas_non_delivery (named_nas_non_delivery v) ≡ v
nas_non_delivery_spelled v s = rw (cause_spelled v.1.1.1.0 s.1.1.1.0) refl

context_setup_request_spelled : (v : Kept context_setup_request) → typed_context_setup_request (named_context_setup_request v) ≡ v
context_setup_request_spelled v = rw (erabs_to_be_setup_spelled v.1.1.1.0) refl

context_setup_response_spelled : (v : Kept context_setup_response)
    → typed_context_setup_response (named_context_setup_response v) ≡ v
context_setup_response_spelled v = rw (erabs_setup_spelled v.1.1.0) refl

context_setup_failure_spelled : (v : Kept context_setup_failure) → AreSpelled context_setup_failure v
    → typed_context_setup_failure (named_context_setup_failure v) ≡ v
context_setup_failure_spelled v s = rw (cause_spelled v.1.1.0 s.1.1.0) refl

release_request_spelled : (v : Kept release_request) → AreSpelled release_request v
    → typed_release_request (named_release_request v) ≡ v
release_request_spelled v s = rw (cause_spelled v.1.1.0 s.1.1.0) refl

release_command_spelled : (v : Kept release_command) → AreSpelled release_command v
    → typed_release_command (named_release_command v) ≡ v
release_command_spelled v s = rw (ue_s1ap_ids_spelled v.0, cause_spelled v.1.0 s.1.0) refl

paging_spelled : (v : Kept paging) → AreSpelled paging v → typed_paging (named_paging v) ≡ v
paging_spelled v s = rw (ue_paging_id_spelled v.1.0, cn_domain_spelled v.1.1.0 s.1.1.0, tai_list_spelled v.1.1.1.0) refl

path_switch_request_spelled : (v : Kept path_switch_request) → typed_path_switch_request (named_path_switch_request v) ≡ v
path_switch_request_spelled v = rw (erabs_to_be_switched_spelled v.1.0) refl

path_switch_failure_spelled : (v : Kept path_switch_failure) → AreSpelled path_switch_failure v
    → typed_path_switch_failure (named_path_switch_failure v) ≡ v
path_switch_failure_spelled v s = rw (cause_spelled v.1.1.0 s.1.1.0) refl

reset_spelled : (v : Kept reset) → AreSpelled reset v → typed_reset (named_reset v) ≡ v
reset_spelled v s = rw (cause_spelled v.0 s.0, reset_type_spelled v.1.0 s.1.0) refl

reset_acknowledge_spelled : (v : Kept reset_acknowledge) → typed_reset_acknowledge (named_reset_acknowledge v) ≡ v
reset_acknowledge_spelled v = rw (option_back named_associations_reset typed_associations_reset associations_reset_spelled v.0) refl

error_indication_spelled : (v : Kept error_indication) → AreSpelled error_indication v
    → typed_error_indication (named_error_indication v) ≡ v
error_indication_spelled v s = rw (option_cause_spelled v.1.1.0 s.1.1.0) refl

typed_of_named : (t : MessageType) (v : Kept (rows_of t)) → AreSpelled (rows_of t) v → typed (named t v) ≡ typed_of t v
typed_of_named message.S1SetupRequest v s =
    ap (λ (x : Kept setup_request). typed_of message.S1SetupRequest x) (setup_request_spelled v s)
typed_of_named message.S1SetupResponse v s =
    ap (λ (x : Kept setup_response). typed_of message.S1SetupResponse x) (setup_response_spelled v)
typed_of_named message.S1SetupFailure v s =
    ap (λ (x : Kept setup_failure). typed_of message.S1SetupFailure x) (setup_failure_spelled v s)
typed_of_named message.InitialUeMessage v s =
    ap (λ (x : Kept initial_ue_message). typed_of message.InitialUeMessage x) (initial_ue_message_spelled v s)
typed_of_named message.DownlinkNasTransport v s = refl
typed_of_named message.UplinkNasTransport v s = refl
typed_of_named message.NasNonDeliveryIndication v s =
    ap (λ (x : Kept nas_non_delivery). typed_of message.NasNonDeliveryIndication x) (nas_non_delivery_spelled v s)
typed_of_named message.UeCapabilityInfoIndication v s = refl
typed_of_named message.InitialContextSetupRequest v s =
    ap (λ (x : Kept context_setup_request). typed_of message.InitialContextSetupRequest x) (context_setup_request_spelled v)
typed_of_named message.InitialContextSetupResponse v s =
    ap (λ (x : Kept context_setup_response). typed_of message.InitialContextSetupResponse x) (context_setup_response_spelled v)
typed_of_named message.InitialContextSetupFailure v s =
    ap (λ (x : Kept context_setup_failure). typed_of message.InitialContextSetupFailure x) (context_setup_failure_spelled v s)
typed_of_named message.UeContextReleaseRequest v s =
    ap (λ (x : Kept release_request). typed_of message.UeContextReleaseRequest x) (release_request_spelled v s)
typed_of_named message.UeContextReleaseCommand v s =
    ap (λ (x : Kept release_command). typed_of message.UeContextReleaseCommand x) (release_command_spelled v s)
typed_of_named message.UeContextReleaseComplete v s = refl
typed_of_named message.Paging v s = ap (λ (x : Kept paging). typed_of message.Paging x) (paging_spelled v s)
typed_of_named message.PathSwitchRequest v s =
    ap (λ (x : Kept path_switch_request). typed_of message.PathSwitchRequest x) (path_switch_request_spelled v)
typed_of_named message.PathSwitchRequestAcknowledge v s = refl
typed_of_named message.PathSwitchRequestFailure v s =
    ap (λ (x : Kept path_switch_failure). typed_of message.PathSwitchRequestFailure x) (path_switch_failure_spelled v s)
typed_of_named message.Reset v s = ap (λ (x : Kept reset). typed_of message.Reset x) (reset_spelled v s)
typed_of_named message.ResetAcknowledge v s =
    ap (λ (x : Kept reset_acknowledge). typed_of message.ResetAcknowledge x) (reset_acknowledge_spelled v)
typed_of_named message.ErrorIndication v s =
    ap (λ (x : Kept error_indication). typed_of message.ErrorIndication x) (error_indication_spelled v s)

-- ---- decoding

abbrev okay : {A : Type 0} → A → Result A S1apFault
okay x = Ok x

okay_same : {A : Type 0} (x y : A) → okay x ≡ okay y → x ≡ y
okay_same x y e = cc

abbrev named_of : Result Typed S1apFault → Result (Pdu (List ℕ)) S1apFault
named_of r = r >>> λ m. Ok (named m.0 m.1)

pub decoded_takes : (m : Pdu (List ℕ)) (os : List ℕ) → decoded os ≡ Ok m → SpellsMessage m os
unfolding decoded
decoded_takes m os h =
    let a = bind_some (decode_typed os) (λ t. okay {A = Pdu (List ℕ)} (named t.0 t.1)) m h in
    let s = decode_to a.0 os a.1 in
    let same : named a.0.0 a.0.1 ≡ m = okay_same (named a.0.0 a.0.1) m a.2 in
    let again : typed m ≡ a.0 = ap typed (sym same) ∙ typed_of_named a.0.0 a.0.1 (typed_spelled a.0 os s) in
    subst (λ (v : Typed). SpellsTyped v os) (sym again) s

pub decoded_again : (m : Pdu (List ℕ)) (os : List ℕ) → SpellsMessage m os → decoded os ≡ Ok m
unfolding decoded
decoded_again m os s = ap named_of (decode_from (typed m) os s) ∙ ap (λ x. Ok x) (named_of_typed m)

pub one_message : (m n : Pdu (List ℕ)) (os : List ℕ) → SpellsMessage m os → SpellsMessage n os → m ≡ n
one_message m n os p q = okay_same m n (sym (decoded_again m os p) ∙ decoded_again n os q)

-- ---- encoding

ok_some : (r : Result (List ℕ) PerFault) (os : List ℕ) → ok_of r ≡ Some os → r ≡ Ok os
ok_some (Ok x) os h = let same : x ≡ os = cc in ap (λ (l : List ℕ). Ok l) same
ok_some (Err f) os h = absurd cc

pub encoded_takes : (m : Pdu (List ℕ)) (os : List ℕ) → encoded m ≡ Some os → SpellsMessage m os
unfolding encoded
encoded_takes m os h = typed_written (typed m) os (ok_some (encode_typed (typed m)) os h)

pub encoded_again : (m : Pdu (List ℕ)) (os : List ℕ) → encoded m ≡ Some os → decoded os ≡ Ok m
encoded_again m os h = decoded_again m os (encoded_takes m os h)
