-- Messages that may carry a key to a station.
use Rattle.std.specs.Prelude.{ℕ, ◌==◌, ◌||◌, Bool, false, List, length, replicate, slice_get, if◌then◌else◌}
use Rattle.std.specs.Option.{option_map_or}
use Rattle.s1ap_pdus.specs.declared.message_type.MessageType.TheVariants.{InitialContextSetupRequest, PathSwitchRequestAcknowledge}
use Rattle.s1ap_pdus.specs.Profile.{code_of}

-- INITIAL CONTEXT SETUP REQUEST has KeNB, PATH SWITCH REQUEST ACKNOWLEDGE has NH
abbrev pub has_key : ℕ → Bool
has_key code = (code == code_of InitialContextSetupRequest) || (code == code_of PathSwitchRequestAcknowledge)

-- whether the octets may be those of a message with a key: the second one is the code of the procedure (TS 36.413 clause 9.3.3)
abbrev pub may_carry_key : List ℕ → Bool
may_carry_key octets = option_map_or has_key (slice_get octets 1) false

-- zeros in place of the octets, if they may carry a key
abbrev pub without_key : List ℕ → List ℕ
without_key octets = if may_carry_key octets then replicate (length octets) 0 else octets
