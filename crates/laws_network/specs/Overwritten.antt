-- Messages with a key, in place of which zeros stand once they are forgotten.
use Rattle.std.specs.Prelude.{◌≡◌, ◌||◌, ℕ, Bool, true, List, length, replicate, Some}
use Rattle.s1ap_elements.specs.Ids as id
use Rattle.s1ap_rows.specs.Rows.{has_row}
use Rattle.s1ap_pdus.specs.declared.message_type.MessageType.{MessageType}
use Rattle.s1ap_pdus.specs.declared.pdu.Pdu.{Pdu}
use Rattle.s1ap_pdus.specs.Pdus.{encoded, typed}
use Rattle.s1ap_pdus.specs.Profile.{rows_of}
use Rattle.mme_types.specs.Carrying.{without_key}

-- whether a message of that type has an element with a key: KeNB, or NH in the security context
abbrev pub carries_key : MessageType → Bool
carries_key t = has_row id.security_key (rows_of t) || has_row id.security_context (rows_of t)

-- of what is written of a message with a key nothing is left where it is forgotten
abbrev pub KeysAreOverwritten : Type 0
KeysAreOverwritten =
    (m : Pdu (List ℕ)) (octets : List ℕ) → encoded m ≡ Some octets → carries_key (typed m).0 ≡ true
    → without_key octets ≡ replicate (length octets) 0
