-- The rows of each message, and its kind, code and criticality (TS 36.413 clauses 9.1 and 9.3.3).
use Rattle.std.specs.Prelude.{ℕ, ◌==◌, if◌then◌else◌, Option, Some, None}
use Rattle.per_bits.specs.Formats.{octet_string}
use Rattle.s1ap_elements.specs.Ids as id
use Rattle.s1ap_elements.specs.s1ap_causes.Causes.{cause}
use Rattle.s1ap_elements.specs.Formats.{ambr, associations_reset, cn_domain, enb_ue_id, erabs_setup, erabs_to_be_setup, erabs_to_be_switched, eutran_cgi, global_enb_id, mme_ue_id, paging_drx, relative_capacity, reset_type, rrc_cause, s_tmsi, security_capabilities, security_context, security_key, served_gummeis, supported_tas, tai, tai_list, text, ue_index, ue_paging_id, ue_s1ap_ids}
use Rattle.s1ap_rows.specs.Rows.{Rows, ie, end, needed, optional, unkept}
use Rattle.s1ap_rows.specs.declared.criticality.Criticality.{Criticality}
use Rattle.s1ap_rows.specs.declared.criticality.Criticality.TheVariants.{Reject, Ignore}
use Rattle.s1ap_pdus.specs.declared.message_type.MessageType.{MessageType}
use Rattle.s1ap_pdus.specs.declared.message_type.MessageType.TheVariants.{S1SetupRequest, S1SetupResponse, S1SetupFailure, InitialUeMessage, DownlinkNasTransport, UplinkNasTransport, NasNonDeliveryIndication, UeCapabilityInfoIndication, InitialContextSetupRequest, InitialContextSetupResponse, InitialContextSetupFailure, UeContextReleaseRequest, UeContextReleaseCommand, UeContextReleaseComplete, Paging, PathSwitchRequest, PathSwitchRequestAcknowledge, PathSwitchRequestFailure, Reset, ResetAcknowledge, ErrorIndication}

-- id, criticality, presence and format of each row

abbrev pub setup_request : Rows
setup_request =
    ie id.global_enb_id Reject needed global_enb_id
    (ie id.enb_name Ignore optional text
    (ie id.supported_tas Reject needed supported_tas
    (ie id.default_paging_drx Ignore needed paging_drx end)))

abbrev pub setup_response : Rows
setup_response =
    ie id.mme_name Ignore unkept text
    (ie id.served_gummeis Reject needed served_gummeis
    (ie id.relative_mme_capacity Ignore needed relative_capacity end))

abbrev pub setup_failure : Rows
setup_failure = ie id.cause Ignore needed cause end

abbrev pub initial_ue_message : Rows
initial_ue_message =
    ie id.enb_ue_s1ap_id Reject needed enb_ue_id
    (ie id.nas_pdu Reject needed octet_string
    (ie id.tai Reject needed tai
    (ie id.eutran_cgi Ignore needed eutran_cgi
    (ie id.rrc_establishment_cause Ignore needed rrc_cause
    (ie id.s_tmsi Reject optional s_tmsi end)))))

abbrev pub downlink_nas_transport : Rows
downlink_nas_transport =
    ie id.mme_ue_s1ap_id Reject needed mme_ue_id
    (ie id.enb_ue_s1ap_id Reject needed enb_ue_id
    (ie id.nas_pdu Reject needed octet_string end))

abbrev pub uplink_nas_transport : Rows
uplink_nas_transport =
    ie id.mme_ue_s1ap_id Reject needed mme_ue_id
    (ie id.enb_ue_s1ap_id Reject needed enb_ue_id
    (ie id.nas_pdu Reject needed octet_string
    (ie id.eutran_cgi Ignore needed eutran_cgi
    (ie id.tai Ignore needed tai end))))

abbrev pub nas_non_delivery : Rows
nas_non_delivery =
    ie id.mme_ue_s1ap_id Reject needed mme_ue_id
    (ie id.enb_ue_s1ap_id Reject needed enb_ue_id
    (ie id.nas_pdu Ignore needed octet_string
    (ie id.cause Ignore needed cause end)))

abbrev pub capability_info : Rows
capability_info =
    ie id.mme_ue_s1ap_id Reject needed mme_ue_id
    (ie id.enb_ue_s1ap_id Reject needed enb_ue_id
    (ie id.ue_radio_capability Ignore needed octet_string end))

abbrev pub context_setup_request : Rows
context_setup_request =
    ie id.mme_ue_s1ap_id Reject needed mme_ue_id
    (ie id.enb_ue_s1ap_id Reject needed enb_ue_id
    (ie id.ue_aggregate_maximum_bitrate Reject needed ambr
    (ie id.erab_to_be_setup_list_ctxt_su_req Reject needed erabs_to_be_setup
    (ie id.ue_security_capabilities Reject needed security_capabilities
    (ie id.security_key Reject needed security_key end)))))

abbrev pub context_setup_response : Rows
context_setup_response =
    ie id.mme_ue_s1ap_id Ignore needed mme_ue_id
    (ie id.enb_ue_s1ap_id Ignore needed enb_ue_id
    (ie id.erab_setup_list_ctxt_su_res Ignore needed erabs_setup end))

abbrev pub context_setup_failure : Rows
context_setup_failure =
    ie id.mme_ue_s1ap_id Ignore needed mme_ue_id
    (ie id.enb_ue_s1ap_id Ignore needed enb_ue_id
    (ie id.cause Ignore needed cause end))

abbrev pub release_request : Rows
release_request =
    ie id.mme_ue_s1ap_id Reject needed mme_ue_id
    (ie id.enb_ue_s1ap_id Reject needed enb_ue_id
    (ie id.cause Ignore needed cause end))

abbrev pub release_command : Rows
release_command = ie id.ue_s1ap_ids Reject needed ue_s1ap_ids (ie id.cause Ignore needed cause end)

abbrev pub release_complete : Rows
release_complete = ie id.mme_ue_s1ap_id Ignore needed mme_ue_id (ie id.enb_ue_s1ap_id Ignore needed enb_ue_id end)

abbrev pub paging : Rows
paging =
    ie id.ue_identity_index_value Ignore needed ue_index
    (ie id.ue_paging_id Ignore needed ue_paging_id
    (ie id.cn_domain Ignore needed cn_domain
    (ie id.tai_list Ignore needed tai_list end)))

abbrev pub path_switch_request : Rows
path_switch_request =
    ie id.enb_ue_s1ap_id Reject needed enb_ue_id
    (ie id.erab_to_be_switched_dl_list Reject needed erabs_to_be_switched
    (ie id.source_mme_ue_s1ap_id Reject needed mme_ue_id
    (ie id.eutran_cgi Ignore needed eutran_cgi
    (ie id.tai Ignore needed tai
    (ie id.ue_security_capabilities Ignore needed security_capabilities end)))))

abbrev pub path_switch_acknowledge : Rows
path_switch_acknowledge =
    ie id.mme_ue_s1ap_id Ignore needed mme_ue_id
    (ie id.enb_ue_s1ap_id Ignore needed enb_ue_id
    (ie id.security_context Reject needed security_context end))

abbrev pub path_switch_failure : Rows
path_switch_failure =
    ie id.mme_ue_s1ap_id Ignore needed mme_ue_id
    (ie id.enb_ue_s1ap_id Ignore needed enb_ue_id
    (ie id.cause Ignore needed cause end))

abbrev pub reset : Rows
reset = ie id.cause Ignore needed cause (ie id.reset_type Reject needed reset_type end)

abbrev pub reset_acknowledge : Rows
reset_acknowledge = ie id.ue_associated_logical_s1_connection_list_res_ack Ignore optional associations_reset end

abbrev pub error_indication : Rows
error_indication =
    ie id.mme_ue_s1ap_id Ignore optional mme_ue_id
    (ie id.enb_ue_s1ap_id Ignore optional enb_ue_id
    (ie id.cause Ignore optional cause end))

-- ---- messages by their types

abbrev pub rows_of : MessageType → Rows
rows_of S1SetupRequest = setup_request
rows_of S1SetupResponse = setup_response
rows_of S1SetupFailure = setup_failure
rows_of InitialUeMessage = initial_ue_message
rows_of DownlinkNasTransport = downlink_nas_transport
rows_of UplinkNasTransport = uplink_nas_transport
rows_of NasNonDeliveryIndication = nas_non_delivery
rows_of UeCapabilityInfoIndication = capability_info
rows_of InitialContextSetupRequest = context_setup_request
rows_of InitialContextSetupResponse = context_setup_response
rows_of InitialContextSetupFailure = context_setup_failure
rows_of UeContextReleaseRequest = release_request
rows_of UeContextReleaseCommand = release_command
rows_of UeContextReleaseComplete = release_complete
rows_of Paging = paging
rows_of PathSwitchRequest = path_switch_request
rows_of PathSwitchRequestAcknowledge = path_switch_acknowledge
rows_of PathSwitchRequestFailure = path_switch_failure
rows_of Reset = reset
rows_of ResetAcknowledge = reset_acknowledge
rows_of ErrorIndication = error_indication

-- 0 initiating, 1 successful outcome, 2 unsuccessful outcome
abbrev pub kind_of : MessageType → ℕ
kind_of S1SetupRequest = 0
kind_of S1SetupResponse = 1
kind_of S1SetupFailure = 2
kind_of InitialUeMessage = 0
kind_of DownlinkNasTransport = 0
kind_of UplinkNasTransport = 0
kind_of NasNonDeliveryIndication = 0
kind_of UeCapabilityInfoIndication = 0
kind_of InitialContextSetupRequest = 0
kind_of InitialContextSetupResponse = 1
kind_of InitialContextSetupFailure = 2
kind_of UeContextReleaseRequest = 0
kind_of UeContextReleaseCommand = 0
kind_of UeContextReleaseComplete = 1
kind_of Paging = 0
kind_of PathSwitchRequest = 0
kind_of PathSwitchRequestAcknowledge = 1
kind_of PathSwitchRequestFailure = 2
kind_of Reset = 0
kind_of ResetAcknowledge = 1
kind_of ErrorIndication = 0

-- of the procedure
abbrev pub code_of : MessageType → ℕ
code_of S1SetupRequest = 17
code_of S1SetupResponse = 17
code_of S1SetupFailure = 17
code_of InitialUeMessage = 12
code_of DownlinkNasTransport = 11
code_of UplinkNasTransport = 13
code_of NasNonDeliveryIndication = 16
code_of UeCapabilityInfoIndication = 22
code_of InitialContextSetupRequest = 9
code_of InitialContextSetupResponse = 9
code_of InitialContextSetupFailure = 9
code_of UeContextReleaseRequest = 18
code_of UeContextReleaseCommand = 23
code_of UeContextReleaseComplete = 23
code_of Paging = 10
code_of PathSwitchRequest = 3
code_of PathSwitchRequestAcknowledge = 3
code_of PathSwitchRequestFailure = 3
code_of Reset = 14
code_of ResetAcknowledge = 14
code_of ErrorIndication = 15

-- 0 reject, 1 ignore
abbrev pub criticality_of : MessageType → Criticality
criticality_of S1SetupRequest = Reject
criticality_of S1SetupResponse = Reject
criticality_of S1SetupFailure = Reject
criticality_of InitialUeMessage = Ignore
criticality_of DownlinkNasTransport = Ignore
criticality_of UplinkNasTransport = Ignore
criticality_of NasNonDeliveryIndication = Ignore
criticality_of UeCapabilityInfoIndication = Ignore
criticality_of InitialContextSetupRequest = Reject
criticality_of InitialContextSetupResponse = Reject
criticality_of InitialContextSetupFailure = Reject
criticality_of UeContextReleaseRequest = Ignore
criticality_of UeContextReleaseCommand = Reject
criticality_of UeContextReleaseComplete = Reject
criticality_of Paging = Ignore
criticality_of PathSwitchRequest = Reject
criticality_of PathSwitchRequestAcknowledge = Reject
criticality_of PathSwitchRequestFailure = Reject
criticality_of Reset = Reject
criticality_of ResetAcknowledge = Reject
criticality_of ErrorIndication = Ignore

unfoldable pub initiating : ℕ → Option MessageType
initiating code =
    if code == 3 then Some PathSwitchRequest else
    if code == 9 then Some InitialContextSetupRequest else
    if code == 10 then Some Paging else
    if code == 11 then Some DownlinkNasTransport else
    if code == 12 then Some InitialUeMessage else
    if code == 13 then Some UplinkNasTransport else
    if code == 14 then Some Reset else
    if code == 15 then Some ErrorIndication else
    if code == 16 then Some NasNonDeliveryIndication else
    if code == 17 then Some S1SetupRequest else
    if code == 18 then Some UeContextReleaseRequest else
    if code == 22 then Some UeCapabilityInfoIndication else
    if code == 23 then Some UeContextReleaseCommand else
    None

unfoldable pub successful : ℕ → Option MessageType
successful code =
    if code == 3 then Some PathSwitchRequestAcknowledge else
    if code == 9 then Some InitialContextSetupResponse else
    if code == 14 then Some ResetAcknowledge else
    if code == 17 then Some S1SetupResponse else
    if code == 23 then Some UeContextReleaseComplete else
    None

unfoldable pub unsuccessful : ℕ → Option MessageType
unsuccessful code =
    if code == 3 then Some PathSwitchRequestFailure else
    if code == 9 then Some InitialContextSetupFailure else
    if code == 17 then Some S1SetupFailure else
    None

-- the message of a kind and a procedure's code
unfoldable pub type_of : ℕ → ℕ → Option MessageType
type_of kind code =
    if kind == 0 then initiating code
    else if kind == 1 then successful code
    else unsuccessful code
