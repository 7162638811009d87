-- Ids of the elements of messages and of the items of lists (TS 36.413 clause 9.3.6).
use Rattle.std.specs.Prelude.{ℕ}

abbrev pub mme_ue_s1ap_id : ℕ
mme_ue_s1ap_id = 0

abbrev pub cause : ℕ
cause = 2

abbrev pub enb_ue_s1ap_id : ℕ
enb_ue_s1ap_id = 8

abbrev pub erab_to_be_switched_dl_list : ℕ
erab_to_be_switched_dl_list = 22

abbrev pub erab_to_be_switched_dl_item : ℕ
erab_to_be_switched_dl_item = 23

abbrev pub erab_to_be_setup_list_ctxt_su_req : ℕ
erab_to_be_setup_list_ctxt_su_req = 24

abbrev pub nas_pdu : ℕ
nas_pdu = 26

abbrev pub security_context : ℕ
security_context = 40

abbrev pub ue_paging_id : ℕ
ue_paging_id = 43

abbrev pub tai_list : ℕ
tai_list = 46

abbrev pub tai_item : ℕ
tai_item = 47

abbrev pub erab_setup_item_ctxt_su_res : ℕ
erab_setup_item_ctxt_su_res = 50

abbrev pub erab_setup_list_ctxt_su_res : ℕ
erab_setup_list_ctxt_su_res = 51

abbrev pub erab_to_be_setup_item_ctxt_su_req : ℕ
erab_to_be_setup_item_ctxt_su_req = 52

abbrev pub global_enb_id : ℕ
global_enb_id = 59

abbrev pub enb_name : ℕ
enb_name = 60

abbrev pub mme_name : ℕ
mme_name = 61

abbrev pub supported_tas : ℕ
supported_tas = 64

abbrev pub ue_aggregate_maximum_bitrate : ℕ
ue_aggregate_maximum_bitrate = 66

abbrev pub tai : ℕ
tai = 67

abbrev pub security_key : ℕ
security_key = 73

abbrev pub ue_radio_capability : ℕ
ue_radio_capability = 74

abbrev pub ue_identity_index_value : ℕ
ue_identity_index_value = 80

abbrev pub relative_mme_capacity : ℕ
relative_mme_capacity = 87

abbrev pub source_mme_ue_s1ap_id : ℕ
source_mme_ue_s1ap_id = 88

abbrev pub ue_associated_logical_s1_connection_item : ℕ
ue_associated_logical_s1_connection_item = 91

abbrev pub reset_type : ℕ
reset_type = 92

abbrev pub ue_associated_logical_s1_connection_list_res_ack : ℕ
ue_associated_logical_s1_connection_list_res_ack = 93

abbrev pub s_tmsi : ℕ
s_tmsi = 96

abbrev pub ue_s1ap_ids : ℕ
ue_s1ap_ids = 99

abbrev pub eutran_cgi : ℕ
eutran_cgi = 100

abbrev pub served_gummeis : ℕ
served_gummeis = 105

abbrev pub ue_security_capabilities : ℕ
ue_security_capabilities = 107

abbrev pub cn_domain : ℕ
cn_domain = 109

abbrev pub rrc_establishment_cause : ℕ
rrc_establishment_cause = 134

abbrev pub default_paging_drx : ℕ
default_paging_drx = 137
