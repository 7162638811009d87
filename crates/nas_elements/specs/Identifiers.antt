-- Identifiers of optional elements (TS 24.301 clauses 8.2 and 8.3).
use Rattle.std.specs.Prelude.{ℕ}

abbrev pub old_location_area_iei : ℕ
old_location_area_iei = 0x13

abbrev pub old_p_tmsi_signature_iei : ℕ
old_p_tmsi_signature_iei = 0x19

abbrev pub guti_iei : ℕ
guti_iei = 0x50

abbrev pub last_visited_tai_iei : ℕ
last_visited_tai_iei = 0x52

abbrev pub emm_cause_iei : ℕ
emm_cause_iei = 0x53

abbrev pub tai_list_iei : ℕ
tai_list_iei = 0x54

abbrev pub nonce_iei : ℕ
nonce_iei = 0x55

-- in messages of mobility management the phone's algorithms
abbrev pub esm_cause_iei : ℕ
esm_cause_iei = 0x58

abbrev pub t3412_value_iei : ℕ
t3412_value_iei = 0x5a

abbrev pub drx_parameter_iei : ℕ
drx_parameter_iei = 0x5c

-- the first of eight with a length of two octets
abbrev pub esm_message_container_iei : ℕ
esm_message_container_iei = 0x78

-- half an octet, in which the flag stands too
abbrev pub esm_information_flag_iei : ℕ
esm_information_flag_iei = 0xd0
