-- Messages by their names, and as their rows have them.
use Rattle.std.specs.Prelude.{◌≡◌, true, ℕ, List, Option, Some, None, option_map, Result, Ok, Err}
use Rattle.std.specs.Borrow.{Bor}
use Rattle.per_streams.specs.declared.fault.PerFault.{PerFault}
use Rattle.s1ap_elements.specs.s1ap_causes.Causes.{typed_cause, named_cause}
use Rattle.s1ap_elements.specs.Stations.{typed_global_enb_id, named_global_enb_id, typed_supported_tas, named_supported_tas, typed_paging_drx, named_paging_drx, typed_served_gummeis, named_served_gummeis}
use Rattle.s1ap_elements.specs.Phones.{typed_tai, named_tai, typed_eutran_cgi, named_eutran_cgi, typed_rrc_cause, named_rrc_cause, typed_s_tmsi, named_s_tmsi, typed_security_capabilities, named_security_capabilities, typed_ue_s1ap_ids, named_ue_s1ap_ids, typed_ue_paging_id, named_ue_paging_id, ue_paging_id_lists, typed_cn_domain, named_cn_domain, typed_tai_list, named_tai_list, typed_security_context, named_security_context}
use Rattle.s1ap_elements.specs.Resets.{typed_reset_type, named_reset_type, typed_associations_reset, named_associations_reset}
use Rattle.s1ap_elements.specs.Bearers.{typed_ambr, named_ambr, typed_erabs_to_be_setup, named_erabs_to_be_setup, erabs_to_be_setup_lists, typed_erabs_setup, named_erabs_setup, typed_erabs_to_be_switched, named_erabs_to_be_switched}
use Rattle.s1ap_rows.specs.declared.fault.S1apFault.{S1apFault}
use Rattle.s1ap_pdus.specs.declared.message_type.MessageType.{MessageType}
use Rattle.s1ap_pdus.specs.declared.message_type.MessageType.TheVariants as message
use Rattle.s1ap_pdus.specs.declared.pdu.S1SetupRequest.{S1SetupRequest}
use Rattle.s1ap_pdus.specs.declared.pdu.S1SetupResponse.{S1SetupResponse}
use Rattle.s1ap_pdus.specs.declared.pdu.S1SetupFailure.{S1SetupFailure}
use Rattle.s1ap_pdus.specs.declared.pdu.InitialUeMessage.{InitialUeMessage}
use Rattle.s1ap_pdus.specs.declared.pdu.DownlinkNasTransport.{DownlinkNasTransport}
use Rattle.s1ap_pdus.specs.declared.pdu.UplinkNasTransport.{UplinkNasTransport}
use Rattle.s1ap_pdus.specs.declared.pdu.NasNonDeliveryIndication.{NasNonDeliveryIndication}
use Rattle.s1ap_pdus.specs.declared.pdu.UeCapabilityInfoIndication.{UeCapabilityInfoIndication}
use Rattle.s1ap_pdus.specs.declared.pdu.InitialContextSetupRequest.{InitialContextSetupRequest}
use Rattle.s1ap_pdus.specs.declared.pdu.InitialContextSetupResponse.{InitialContextSetupResponse}
use Rattle.s1ap_pdus.specs.declared.pdu.InitialContextSetupFailure.{InitialContextSetupFailure}
use Rattle.s1ap_pdus.specs.declared.pdu.UeContextReleaseRequest.{UeContextReleaseRequest}
use Rattle.s1ap_pdus.specs.declared.pdu.UeContextReleaseCommand.{UeContextReleaseCommand}
use Rattle.s1ap_pdus.specs.declared.pdu.UeContextReleaseComplete.{UeContextReleaseComplete}
use Rattle.s1ap_pdus.specs.declared.pdu.Paging.{Paging}
use Rattle.s1ap_pdus.specs.declared.pdu.PathSwitchRequest.{PathSwitchRequest}
use Rattle.s1ap_pdus.specs.declared.pdu.PathSwitchRequestAcknowledge.{PathSwitchRequestAcknowledge}
use Rattle.s1ap_pdus.specs.declared.pdu.PathSwitchRequestFailure.{PathSwitchRequestFailure}
use Rattle.s1ap_pdus.specs.declared.pdu.Reset.{Reset}
use Rattle.s1ap_pdus.specs.declared.pdu.ResetAcknowledge.{ResetAcknowledge}
use Rattle.s1ap_pdus.specs.declared.pdu.ErrorIndication.{ErrorIndication}
use Rattle.s1ap_pdus.specs.declared.pdu.Pdu.{Pdu}
use Rattle.s1ap_pdus.specs.declared.pdu.Pdu.TheVariants as pdu
use Rattle.s1ap_rows.specs.Rows.{Kept}
use Rattle.s1ap_pdus.specs.Profile.{rows_of, setup_request, setup_response, setup_failure, initial_ue_message, downlink_nas_transport, uplink_nas_transport, nas_non_delivery, capability_info, context_setup_request, context_setup_response, context_setup_failure, release_request, release_command, release_complete, paging, path_switch_request, path_switch_acknowledge, path_switch_failure, reset, reset_acknowledge, error_indication}
use Rattle.s1ap_rows.specs.Reading.{◌>>>◌}
use Rattle.s1ap_rows.specs.Writable.{message_fits}
use Rattle.s1ap_pdus.specs.Typed.{Typed, decode_typed, SpellsTyped, encode_typed}

-- ---- a message without where its octets lie in memory

abbrev pub listed : Option (Bor (List ℕ)) → Option (List ℕ)
listed o = option_map (λ s. s.now) o

abbrev pub setup_request_lists : S1SetupRequest (Bor (List ℕ)) → S1SetupRequest (List ℕ)
setup_request_lists m =
    record { station = m.station; name = listed m.name; supported_tas = m.supported_tas; paging_drx = m.paging_drx }

abbrev pub initial_ue_message_lists : InitialUeMessage (Bor (List ℕ)) → InitialUeMessage (List ℕ)
initial_ue_message_lists m = record {
  enb_ue_id = m.enb_ue_id;
  nas = m.nas.now;
  tai = m.tai;
  cell = m.cell;
  rrc_cause = m.rrc_cause;
  s_tmsi = m.s_tmsi;
}

abbrev pub downlink_nas_transport_lists : DownlinkNasTransport (Bor (List ℕ)) → DownlinkNasTransport (List ℕ)
downlink_nas_transport_lists m = record { mme_ue_id = m.mme_ue_id; enb_ue_id = m.enb_ue_id; nas = m.nas.now }

abbrev pub uplink_nas_transport_lists : UplinkNasTransport (Bor (List ℕ)) → UplinkNasTransport (List ℕ)
uplink_nas_transport_lists m =
    record { mme_ue_id = m.mme_ue_id; enb_ue_id = m.enb_ue_id; nas = m.nas.now; cell = m.cell; tai = m.tai }

abbrev pub nas_non_delivery_lists : NasNonDeliveryIndication (Bor (List ℕ)) → NasNonDeliveryIndication (List ℕ)
nas_non_delivery_lists m = record { mme_ue_id = m.mme_ue_id; enb_ue_id = m.enb_ue_id; nas = m.nas.now; cause = m.cause }

abbrev pub capability_info_lists : UeCapabilityInfoIndication (Bor (List ℕ)) → UeCapabilityInfoIndication (List ℕ)
capability_info_lists m = record { mme_ue_id = m.mme_ue_id; enb_ue_id = m.enb_ue_id; radio_capability = m.radio_capability.now }

abbrev pub context_setup_request_lists : InitialContextSetupRequest (Bor (List ℕ)) → InitialContextSetupRequest (List ℕ)
context_setup_request_lists m = record {
  mme_ue_id = m.mme_ue_id;
  enb_ue_id = m.enb_ue_id;
  ambr = m.ambr;
  erabs = erabs_to_be_setup_lists m.erabs;
  capabilities = m.capabilities;
  key = m.key;
}

abbrev pub paging_lists : Paging (Bor (List ℕ)) → Paging (List ℕ)
paging_lists m =
    record { ue_index = m.ue_index; paging_id = ue_paging_id_lists m.paging_id; domain = m.domain; tai_list = m.tai_list }

abbrev pub lists : Pdu (Bor (List ℕ)) → Pdu (List ℕ)
lists (pdu.S1SetupRequest m) = pdu.S1SetupRequest (setup_request_lists m)
lists (pdu.S1SetupResponse m) = pdu.S1SetupResponse m
lists (pdu.S1SetupFailure m) = pdu.S1SetupFailure m
lists (pdu.InitialUeMessage m) = pdu.InitialUeMessage (initial_ue_message_lists m)
lists (pdu.DownlinkNasTransport m) = pdu.DownlinkNasTransport (downlink_nas_transport_lists m)
lists (pdu.UplinkNasTransport m) = pdu.UplinkNasTransport (uplink_nas_transport_lists m)
lists (pdu.NasNonDeliveryIndication m) = pdu.NasNonDeliveryIndication (nas_non_delivery_lists m)
lists (pdu.UeCapabilityInfoIndication m) = pdu.UeCapabilityInfoIndication (capability_info_lists m)
lists (pdu.InitialContextSetupRequest m) = pdu.InitialContextSetupRequest (context_setup_request_lists m)
lists (pdu.InitialContextSetupResponse m) = pdu.InitialContextSetupResponse m
lists (pdu.InitialContextSetupFailure m) = pdu.InitialContextSetupFailure m
lists (pdu.UeContextReleaseRequest m) = pdu.UeContextReleaseRequest m
lists (pdu.UeContextReleaseCommand m) = pdu.UeContextReleaseCommand m
lists (pdu.UeContextReleaseComplete m) = pdu.UeContextReleaseComplete m
lists (pdu.Paging m) = pdu.Paging (paging_lists m)
lists (pdu.PathSwitchRequest m) = pdu.PathSwitchRequest m
lists (pdu.PathSwitchRequestAcknowledge m) = pdu.PathSwitchRequestAcknowledge m
lists (pdu.PathSwitchRequestFailure m) = pdu.PathSwitchRequestFailure m
lists (pdu.Reset m) = pdu.Reset m
lists (pdu.ResetAcknowledge m) = pdu.ResetAcknowledge m
lists (pdu.ErrorIndication m) = pdu.ErrorIndication m

-- ---- a message as its rows have it, and back

abbrev pub typed_setup_request : S1SetupRequest (List ℕ) → Kept setup_request
typed_setup_request m =
    (typed_global_enb_id m.station, (m.name, (typed_supported_tas m.supported_tas, (typed_paging_drx m.paging_drx, tt))))

abbrev pub named_setup_request : Kept setup_request → S1SetupRequest (List ℕ)
named_setup_request (station, (name, (supported_tas, (paging_drx, _)))) = record {
  station = named_global_enb_id station;
  name = name;
  supported_tas = named_supported_tas supported_tas;
  paging_drx = named_paging_drx paging_drx;
}

abbrev pub typed_setup_response : S1SetupResponse → Kept setup_response
typed_setup_response m = (typed_served_gummeis m.served_gummeis, (m.capacity, tt))

abbrev pub named_setup_response : Kept setup_response → S1SetupResponse
named_setup_response (served_gummeis, (capacity, _)) =
    record { served_gummeis = named_served_gummeis served_gummeis; capacity = capacity }

abbrev pub typed_setup_failure : S1SetupFailure → Kept setup_failure
typed_setup_failure m = (typed_cause m.cause, tt)

abbrev pub named_setup_failure : Kept setup_failure → S1SetupFailure
named_setup_failure (cause, _) = record { cause = named_cause cause }

abbrev pub typed_initial_ue_message : InitialUeMessage (List ℕ) → Kept initial_ue_message
typed_initial_ue_message m = (
  m.enb_ue_id,
  (m.nas, (typed_tai m.tai, (typed_eutran_cgi m.cell, (typed_rrc_cause m.rrc_cause, (option_map typed_s_tmsi m.s_tmsi, tt))))),
)

abbrev pub named_initial_ue_message : Kept initial_ue_message → InitialUeMessage (List ℕ)
named_initial_ue_message (enb_ue_id, (nas, (tai, (cell, (rrc_cause, (s_tmsi, _)))))) = record {
  enb_ue_id = enb_ue_id;
  nas = nas;
  tai = named_tai tai;
  cell = named_eutran_cgi cell;
  rrc_cause = named_rrc_cause rrc_cause;
  s_tmsi = option_map named_s_tmsi s_tmsi;
}

abbrev pub typed_downlink_nas_transport : DownlinkNasTransport (List ℕ) → Kept downlink_nas_transport
typed_downlink_nas_transport m = (m.mme_ue_id, (m.enb_ue_id, (m.nas, tt)))

abbrev pub named_downlink_nas_transport : Kept downlink_nas_transport → DownlinkNasTransport (List ℕ)
named_downlink_nas_transport (mme_ue_id, (enb_ue_id, (nas, _))) = record { mme_ue_id = mme_ue_id; enb_ue_id = enb_ue_id; nas = nas }

abbrev pub typed_uplink_nas_transport : UplinkNasTransport (List ℕ) → Kept uplink_nas_transport
typed_uplink_nas_transport m = (m.mme_ue_id, (m.enb_ue_id, (m.nas, (typed_eutran_cgi m.cell, (typed_tai m.tai, tt)))))

abbrev pub named_uplink_nas_transport : Kept uplink_nas_transport → UplinkNasTransport (List ℕ)
named_uplink_nas_transport (mme_ue_id, (enb_ue_id, (nas, (cell, (tai, _))))) =
    record { mme_ue_id = mme_ue_id; enb_ue_id = enb_ue_id; nas = nas; cell = named_eutran_cgi cell; tai = named_tai tai }

abbrev pub typed_nas_non_delivery : NasNonDeliveryIndication (List ℕ) → Kept nas_non_delivery
typed_nas_non_delivery m = (m.mme_ue_id, (m.enb_ue_id, (m.nas, (typed_cause m.cause, tt))))

abbrev pub named_nas_non_delivery : Kept nas_non_delivery → NasNonDeliveryIndication (List ℕ)
named_nas_non_delivery (mme_ue_id, (enb_ue_id, (nas, (cause, _)))) =
    record { mme_ue_id = mme_ue_id; enb_ue_id = enb_ue_id; nas = nas; cause = named_cause cause }

abbrev pub typed_capability_info : UeCapabilityInfoIndication (List ℕ) → Kept capability_info
typed_capability_info m = (m.mme_ue_id, (m.enb_ue_id, (m.radio_capability, tt)))

abbrev pub named_capability_info : Kept capability_info → UeCapabilityInfoIndication (List ℕ)
named_capability_info (mme_ue_id, (enb_ue_id, (radio_capability, _))) =
    record { mme_ue_id = mme_ue_id; enb_ue_id = enb_ue_id; radio_capability = radio_capability }

abbrev pub typed_context_setup_request : InitialContextSetupRequest (List ℕ) → Kept context_setup_request
typed_context_setup_request m = (
  m.mme_ue_id,
  (
    m.enb_ue_id,
    (typed_ambr m.ambr, (typed_erabs_to_be_setup m.erabs, (typed_security_capabilities m.capabilities, (m.key, tt)))),
  ),
)

abbrev pub named_context_setup_request : Kept context_setup_request → InitialContextSetupRequest (List ℕ)
named_context_setup_request (mme_ue_id, (enb_ue_id, (ambr, (erabs, (capabilities, (key, _)))))) = record {
  mme_ue_id = mme_ue_id;
  enb_ue_id = enb_ue_id;
  ambr = named_ambr ambr;
  erabs = named_erabs_to_be_setup erabs;
  capabilities = named_security_capabilities capabilities;
  key = key;
}

abbrev pub typed_context_setup_response : InitialContextSetupResponse → Kept context_setup_response
typed_context_setup_response m = (m.mme_ue_id, (m.enb_ue_id, (typed_erabs_setup m.erabs, tt)))

abbrev pub named_context_setup_response : Kept context_setup_response → InitialContextSetupResponse
named_context_setup_response (mme_ue_id, (enb_ue_id, (erabs, _))) =
    record { mme_ue_id = mme_ue_id; enb_ue_id = enb_ue_id; erabs = named_erabs_setup erabs }

abbrev pub typed_context_setup_failure : InitialContextSetupFailure → Kept context_setup_failure
typed_context_setup_failure m = (m.mme_ue_id, (m.enb_ue_id, (typed_cause m.cause, tt)))

abbrev pub named_context_setup_failure : Kept context_setup_failure → InitialContextSetupFailure
named_context_setup_failure (mme_ue_id, (enb_ue_id, (cause, _))) =
    record { mme_ue_id = mme_ue_id; enb_ue_id = enb_ue_id; cause = named_cause cause }

abbrev pub typed_release_request : UeContextReleaseRequest → Kept release_request
typed_release_request m = (m.mme_ue_id, (m.enb_ue_id, (typed_cause m.cause, tt)))

abbrev pub named_release_request : Kept release_request → UeContextReleaseRequest
named_release_request (mme_ue_id, (enb_ue_id, (cause, _))) =
    record { mme_ue_id = mme_ue_id; enb_ue_id = enb_ue_id; cause = named_cause cause }

abbrev pub typed_release_command : UeContextReleaseCommand → Kept release_command
typed_release_command m = (typed_ue_s1ap_ids m.ids, (typed_cause m.cause, tt))

abbrev pub named_release_command : Kept release_command → UeContextReleaseCommand
named_release_command (ids, (cause, _)) = record { ids = named_ue_s1ap_ids ids; cause = named_cause cause }

abbrev pub typed_release_complete : UeContextReleaseComplete → Kept release_complete
typed_release_complete m = (m.mme_ue_id, (m.enb_ue_id, tt))

abbrev pub named_release_complete : Kept release_complete → UeContextReleaseComplete
named_release_complete (mme_ue_id, (enb_ue_id, _)) = record { mme_ue_id = mme_ue_id; enb_ue_id = enb_ue_id }

abbrev pub typed_paging : Paging (List ℕ) → Kept paging
typed_paging m = (m.ue_index, (typed_ue_paging_id m.paging_id, (typed_cn_domain m.domain, (typed_tai_list m.tai_list, tt))))

abbrev pub named_paging : Kept paging → Paging (List ℕ)
named_paging (ue_index, (paging_id, (domain, (tai_list, _)))) = record {
  ue_index = ue_index;
  paging_id = named_ue_paging_id paging_id;
  domain = named_cn_domain domain;
  tai_list = named_tai_list tai_list;
}

abbrev pub typed_path_switch_request : PathSwitchRequest → Kept path_switch_request
typed_path_switch_request m =
    let capabilities = typed_security_capabilities m.capabilities in (
      m.enb_ue_id,
      (typed_erabs_to_be_switched m.erabs, (m.source_mme_ue_id, (typed_eutran_cgi m.cell, (typed_tai m.tai, (capabilities, tt))))),
    )

abbrev pub named_path_switch_request : Kept path_switch_request → PathSwitchRequest
named_path_switch_request (enb_ue_id, (erabs, (source_mme_ue_id, (cell, (tai, (capabilities, _)))))) = record {
  enb_ue_id = enb_ue_id;
  erabs = named_erabs_to_be_switched erabs;
  source_mme_ue_id = source_mme_ue_id;
  cell = named_eutran_cgi cell;
  tai = named_tai tai;
  capabilities = named_security_capabilities capabilities;
}

abbrev pub typed_path_switch_acknowledge : PathSwitchRequestAcknowledge → Kept path_switch_acknowledge
typed_path_switch_acknowledge m = (m.mme_ue_id, (m.enb_ue_id, (typed_security_context m.context, tt)))

abbrev pub named_path_switch_acknowledge : Kept path_switch_acknowledge → PathSwitchRequestAcknowledge
named_path_switch_acknowledge (mme_ue_id, (enb_ue_id, (context, _))) =
    record { mme_ue_id = mme_ue_id; enb_ue_id = enb_ue_id; context = named_security_context context }

abbrev pub typed_path_switch_failure : PathSwitchRequestFailure → Kept path_switch_failure
typed_path_switch_failure m = (m.mme_ue_id, (m.enb_ue_id, (typed_cause m.cause, tt)))

abbrev pub named_path_switch_failure : Kept path_switch_failure → PathSwitchRequestFailure
named_path_switch_failure (mme_ue_id, (enb_ue_id, (cause, _))) =
    record { mme_ue_id = mme_ue_id; enb_ue_id = enb_ue_id; cause = named_cause cause }

abbrev pub typed_reset : Reset → Kept reset
typed_reset m = (typed_cause m.cause, (typed_reset_type m.reset_type, tt))

abbrev pub named_reset : Kept reset → Reset
named_reset (cause, (reset_type, _)) = record { cause = named_cause cause; reset_type = named_reset_type reset_type }

abbrev pub typed_reset_acknowledge : ResetAcknowledge → Kept reset_acknowledge
typed_reset_acknowledge m = (option_map typed_associations_reset m.associations, tt)

abbrev pub named_reset_acknowledge : Kept reset_acknowledge → ResetAcknowledge
named_reset_acknowledge (associations, _) = record { associations = option_map named_associations_reset associations }

abbrev pub typed_error_indication : ErrorIndication → Kept error_indication
typed_error_indication m = (m.mme_ue_id, (m.enb_ue_id, (option_map typed_cause m.cause, tt)))

abbrev pub named_error_indication : Kept error_indication → ErrorIndication
named_error_indication (mme_ue_id, (enb_ue_id, (cause, _))) =
    record { mme_ue_id = mme_ue_id; enb_ue_id = enb_ue_id; cause = option_map named_cause cause }

abbrev pub typed : Pdu (List ℕ) → Typed
typed (pdu.S1SetupRequest m) = (message.S1SetupRequest, typed_setup_request m)
typed (pdu.S1SetupResponse m) = (message.S1SetupResponse, typed_setup_response m)
typed (pdu.S1SetupFailure m) = (message.S1SetupFailure, typed_setup_failure m)
typed (pdu.InitialUeMessage m) = (message.InitialUeMessage, typed_initial_ue_message m)
typed (pdu.DownlinkNasTransport m) = (message.DownlinkNasTransport, typed_downlink_nas_transport m)
typed (pdu.UplinkNasTransport m) = (message.UplinkNasTransport, typed_uplink_nas_transport m)
typed (pdu.NasNonDeliveryIndication m) = (message.NasNonDeliveryIndication, typed_nas_non_delivery m)
typed (pdu.UeCapabilityInfoIndication m) = (message.UeCapabilityInfoIndication, typed_capability_info m)
typed (pdu.InitialContextSetupRequest m) = (message.InitialContextSetupRequest, typed_context_setup_request m)
typed (pdu.InitialContextSetupResponse m) = (message.InitialContextSetupResponse, typed_context_setup_response m)
typed (pdu.InitialContextSetupFailure m) = (message.InitialContextSetupFailure, typed_context_setup_failure m)
typed (pdu.UeContextReleaseRequest m) = (message.UeContextReleaseRequest, typed_release_request m)
typed (pdu.UeContextReleaseCommand m) = (message.UeContextReleaseCommand, typed_release_command m)
typed (pdu.UeContextReleaseComplete m) = (message.UeContextReleaseComplete, typed_release_complete m)
typed (pdu.Paging m) = (message.Paging, typed_paging m)
typed (pdu.PathSwitchRequest m) = (message.PathSwitchRequest, typed_path_switch_request m)
typed (pdu.PathSwitchRequestAcknowledge m) = (message.PathSwitchRequestAcknowledge, typed_path_switch_acknowledge m)
typed (pdu.PathSwitchRequestFailure m) = (message.PathSwitchRequestFailure, typed_path_switch_failure m)
typed (pdu.Reset m) = (message.Reset, typed_reset m)
typed (pdu.ResetAcknowledge m) = (message.ResetAcknowledge, typed_reset_acknowledge m)
typed (pdu.ErrorIndication m) = (message.ErrorIndication, typed_error_indication m)

abbrev pub named : (t : MessageType) → Kept (rows_of t) → Pdu (List ℕ)
named message.S1SetupRequest v = pdu.S1SetupRequest (named_setup_request v)
named message.S1SetupResponse v = pdu.S1SetupResponse (named_setup_response v)
named message.S1SetupFailure v = pdu.S1SetupFailure (named_setup_failure v)
named message.InitialUeMessage v = pdu.InitialUeMessage (named_initial_ue_message v)
named message.DownlinkNasTransport v = pdu.DownlinkNasTransport (named_downlink_nas_transport v)
named message.UplinkNasTransport v = pdu.UplinkNasTransport (named_uplink_nas_transport v)
named message.NasNonDeliveryIndication v = pdu.NasNonDeliveryIndication (named_nas_non_delivery v)
named message.UeCapabilityInfoIndication v = pdu.UeCapabilityInfoIndication (named_capability_info v)
named message.InitialContextSetupRequest v = pdu.InitialContextSetupRequest (named_context_setup_request v)
named message.InitialContextSetupResponse v = pdu.InitialContextSetupResponse (named_context_setup_response v)
named message.InitialContextSetupFailure v = pdu.InitialContextSetupFailure (named_context_setup_failure v)
named message.UeContextReleaseRequest v = pdu.UeContextReleaseRequest (named_release_request v)
named message.UeContextReleaseCommand v = pdu.UeContextReleaseCommand (named_release_command v)
named message.UeContextReleaseComplete v = pdu.UeContextReleaseComplete (named_release_complete v)
named message.Paging v = pdu.Paging (named_paging v)
named message.PathSwitchRequest v = pdu.PathSwitchRequest (named_path_switch_request v)
named message.PathSwitchRequestAcknowledge v = pdu.PathSwitchRequestAcknowledge (named_path_switch_acknowledge v)
named message.PathSwitchRequestFailure v = pdu.PathSwitchRequestFailure (named_path_switch_failure v)
named message.Reset v = pdu.Reset (named_reset v)
named message.ResetAcknowledge v = pdu.ResetAcknowledge (named_reset_acknowledge v)
named message.ErrorIndication v = pdu.ErrorIndication (named_error_indication v)

-- ---- what octets spell, what is read of them, and what is written

-- the octets spell the message, whatever the order of its elements
abbrev pub SpellsMessage : Pdu (List ℕ) → List ℕ → Type 0
SpellsMessage m os = SpellsTyped (typed m) os

-- the message that the octets spell, or their first fault
unfoldable pub decoded : List ℕ → Result (Pdu (List ℕ)) S1apFault
decoded os = decode_typed os >>> λ m. Ok (named m.0 m.1)

abbrev pub ok_of : {A : Type 0} → Result A PerFault → Option A
ok_of (Ok x) = Some x
ok_of (Err f) = None

-- the octets of a message, or None where it is not writable
unfoldable pub encoded : Pdu (List ℕ) → Option (List ℕ)
encoded m = ok_of (encode_typed (typed m))

-- a message that has a written spelling: each value is writable in its open type, there are at most 65535 elements, and the
-- whole is writable in the frame's open type
abbrev pub IsWritableMessage : Pdu (List ℕ) → Type 0
IsWritableMessage m = message_fits (rows_of (typed m).0) (typed m).1 ≡ true

-- no message has more octets: an open type of at most 16383 (X.691 clause 11.9), and before it the choice, the code, the
-- criticality and a length of two octets
abbrev pub longest : ℕ
longest = 16388
