-- Formats of elements (TS 36.413 clause 9.3.4).
use Rattle.std.specs.Prelude.{ℕ}
use Rattle.per_bits.specs.Formats.{Format, Fields, number, octets, octets_between, octet_string, bit_string, bits_between, enumerated, closed, items, open_type, plain, sequence, choice, done, must, may, skip, fixed, marked, last, either, extensions}
use Rattle.s1ap_elements.specs.Ids as id

-- ---- elements of lists

-- the criticality of what is refused where it isn't understood
abbrev pub reject : ℕ
reject = 0

-- the criticality of what is passed over where it isn't understood
abbrev pub ignore : ℕ
ignore = 1

-- an element of a list, with its one id
abbrev pub item : ℕ → ℕ → Format → Format
item named criticality f = plain (fixed 0 65535 named (marked 0 2 criticality (must (open_type f) done)))

-- ---- numbers

abbrev pub mme_ue_id : Format
mme_ue_id = number 0 4294967295

abbrev pub enb_ue_id : Format
enb_ue_id = number 0 16777215

abbrev pub relative_capacity : Format
relative_capacity = number 0 255

abbrev pub bit_rate : Format
bit_rate = number 0 10000000000

abbrev pub erab_id : Format
erab_id = closed (number 0 15)

-- ---- stations and MMEs

-- a name: any octets
abbrev pub text : Format
text = closed (octets_between 1 150)

abbrev pub enb_id : Format
enb_id = choice (either (bit_string 20) (last (bit_string 28)))

abbrev pub global_enb_id : Format
global_enb_id = sequence (must (octets 3) (must enb_id (skip extensions done)))

abbrev pub supported_ta : Format
supported_ta = sequence (must (octets 2) (must (items 1 6 (octets 3)) (skip extensions done)))

abbrev pub supported_tas : Format
supported_tas = items 1 256 supported_ta

abbrev pub served_gummei : Format
served_gummei =
    sequence (must (items 1 32 (octets 3)) (must (items 1 65535 (octets 2)) (must (items 1 256 (octets 1)) (skip extensions done))))

abbrev pub served_gummeis : Format
served_gummeis = items 1 8 served_gummei

abbrev pub paging_drx : Format
paging_drx = enumerated 3

-- ---- phones

abbrev pub tai : Format
tai = sequence (must (octets 3) (must (octets 2) (skip extensions done)))

abbrev pub tai_item : Format
tai_item = sequence (must tai (skip extensions done))

abbrev pub tai_list : Format
tai_list = items 1 256 (item id.tai_item ignore tai_item)

abbrev pub eutran_cgi : Format
eutran_cgi = sequence (must (octets 3) (must (bit_string 28) (skip extensions done)))

abbrev pub s_tmsi : Format
s_tmsi = sequence (must (octets 1) (must (octets 4) (skip extensions done)))

abbrev pub ue_paging_id : Format
ue_paging_id = choice (either s_tmsi (last (octets_between 3 8)))

abbrev pub ue_index : Format
ue_index = bit_string 10

abbrev pub rrc_cause : Format
rrc_cause = enumerated 4

abbrev pub cn_domain : Format
cn_domain = number 0 1

abbrev pub ue_id_pair : Format
ue_id_pair = sequence (must mme_ue_id (must enb_ue_id (skip extensions done)))

abbrev pub ue_s1ap_ids : Format
ue_s1ap_ids = choice (either ue_id_pair (last mme_ue_id))

abbrev pub security_capabilities : Format
security_capabilities = sequence (must (closed (bit_string 16)) (must (closed (bit_string 16)) (skip extensions done)))

-- 256 bits are spelled as 32 octets
abbrev pub security_key : Format
security_key = octets 32

abbrev pub security_context : Format
security_context = sequence (must (number 0 7) (must security_key (skip extensions done)))

-- ---- resets

abbrev pub listed_association : Format
listed_association = sequence (may mme_ue_id (may enb_ue_id (skip extensions done)))

abbrev pub associations_to_reset : Format
associations_to_reset = items 1 256 (item id.ue_associated_logical_s1_connection_item reject listed_association)

abbrev pub associations_reset : Format
associations_reset = items 1 256 (item id.ue_associated_logical_s1_connection_item ignore listed_association)

-- the whole interface, or a part of it
abbrev pub reset_type : Format
reset_type = choice (either (enumerated 0) (last associations_to_reset))

-- ---- bearers

abbrev pub address : Format
address = closed (bits_between 1 160)

abbrev pub ambr : Format
ambr = sequence (must bit_rate (must bit_rate (skip extensions done)))

abbrev pub arp : Format
arp = sequence (must (number 0 15) (must (number 0 1) (must (number 0 1) (skip extensions done))))

abbrev pub gbr : Format
gbr = sequence (must bit_rate (must bit_rate (must bit_rate (must bit_rate (skip extensions done)))))

-- the assured bit rates are not kept
abbrev pub qos : Format
qos = sequence (must (number 0 255) (must arp (skip gbr (skip extensions done))))

abbrev pub erab_to_be_setup : Format
erab_to_be_setup = sequence (must erab_id (must qos (must address (must (octets 4) (may octet_string (skip extensions done))))))

-- what stands after the quality of service of a bearer that is to be set up
abbrev pub erab_ends : Fields
erab_ends = must address (must (octets 4) (may octet_string (skip extensions done)))

abbrev pub erab_tunnel : Format
erab_tunnel = sequence (must erab_id (must address (must (octets 4) (skip extensions done))))

abbrev pub erabs_to_be_setup : Format
erabs_to_be_setup = items 1 256 (item id.erab_to_be_setup_item_ctxt_su_req reject erab_to_be_setup)

abbrev pub erabs_setup : Format
erabs_setup = items 1 256 (item id.erab_setup_item_ctxt_su_res ignore erab_tunnel)

abbrev pub erabs_to_be_switched : Format
erabs_to_be_switched = items 1 256 (item id.erab_to_be_switched_dl_item reject erab_tunnel)
