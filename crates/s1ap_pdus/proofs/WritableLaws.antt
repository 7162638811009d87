-- A message is written exactly where it is writable.
use Rattle.std.proofs.Common.{◌≡◌, ℕ, Bool, true, false, List, Some, None, Result, refl, ap}
use Rattle.per_streams.specs.declared.fault.PerFault.{PerFault}
use Rattle.per_bits.specs.Written.{number_fits}
use Rattle.s1ap_rows.specs.Criticalities.{criticality_number}
use Rattle.s1ap_rows.specs.Writable.{message_fits}
use Rattle.s1ap_rows.proofs.WritableLaws.{WrittenIf, pdu_if}
use Rattle.s1ap_pdus.specs.declared.message_type.MessageType.{MessageType}
use Rattle.s1ap_pdus.specs.declared.message_type.MessageType.TheVariants.{S1SetupRequest, S1SetupResponse, S1SetupFailure, InitialUeMessage, DownlinkNasTransport, UplinkNasTransport, NasNonDeliveryIndication, UeCapabilityInfoIndication, InitialContextSetupRequest, InitialContextSetupResponse, InitialContextSetupFailure, UeContextReleaseRequest, UeContextReleaseCommand, UeContextReleaseComplete, Paging, PathSwitchRequest, PathSwitchRequestAcknowledge, PathSwitchRequestFailure, Reset, ResetAcknowledge, ErrorIndication}
use Rattle.s1ap_pdus.specs.declared.pdu.Pdu.{Pdu}
use Rattle.s1ap_pdus.specs.Profile.{rows_of, kind_of, code_of, criticality_of}
use Rattle.s1ap_pdus.specs.Typed.{Typed, encode_typed}
use Rattle.s1ap_pdus.specs.Pdus.{typed, encoded, ok_of, IsWritableMessage}

-- kind, code and criticality of each message have their places in a frame
record InFrame (t : MessageType) : Type 0 where
  kind : number_fits 0 2 (kind_of t) ≡ true
  code : number_fits 0 255 (code_of t) ≡ true
  criticality : number_fits 0 2 (criticality_number (criticality_of t)) ≡ true

in_frame : (t : MessageType) → InFrame t
in_frame S1SetupRequest = record { kind = refl; code = refl; criticality = refl }
in_frame S1SetupResponse = record { kind = refl; code = refl; criticality = refl }
in_frame S1SetupFailure = record { kind = refl; code = refl; criticality = refl }
in_frame InitialUeMessage = record { kind = refl; code = refl; criticality = refl }
in_frame DownlinkNasTransport = record { kind = refl; code = refl; criticality = refl }
in_frame UplinkNasTransport = record { kind = refl; code = refl; criticality = refl }
in_frame NasNonDeliveryIndication = record { kind = refl; code = refl; criticality = refl }
in_frame UeCapabilityInfoIndication = record { kind = refl; code = refl; criticality = refl }
in_frame InitialContextSetupRequest = record { kind = refl; code = refl; criticality = refl }
in_frame InitialContextSetupResponse = record { kind = refl; code = refl; criticality = refl }
in_frame InitialContextSetupFailure = record { kind = refl; code = refl; criticality = refl }
in_frame UeContextReleaseRequest = record { kind = refl; code = refl; criticality = refl }
in_frame UeContextReleaseCommand = record { kind = refl; code = refl; criticality = refl }
in_frame UeContextReleaseComplete = record { kind = refl; code = refl; criticality = refl }
in_frame Paging = record { kind = refl; code = refl; criticality = refl }
in_frame PathSwitchRequest = record { kind = refl; code = refl; criticality = refl }
in_frame PathSwitchRequestAcknowledge = record { kind = refl; code = refl; criticality = refl }
in_frame PathSwitchRequestFailure = record { kind = refl; code = refl; criticality = refl }
in_frame Reset = record { kind = refl; code = refl; criticality = refl }
in_frame ResetAcknowledge = record { kind = refl; code = refl; criticality = refl }
in_frame ErrorIndication = record { kind = refl; code = refl; criticality = refl }

written_if : (m : Typed) → WrittenIf (message_fits (rows_of m.0) m.1) (encode_typed m)
unfolding encode_typed
written_if m =
    let f = in_frame m.0 in
    pdu_if (kind_of m.0) (code_of m.0) (criticality_number (criticality_of m.0)) (rows_of m.0) m.1 f.kind f.code f.criticality

some_of : (b : Bool) (r : Result (List ℕ) PerFault) → b ≡ true → WrittenIf b r → (os : List ℕ) × (ok_of r ≡ Some os)
some_of true r e w = (w.0, ap ok_of w.1)
some_of false r e w = absurd cc

none_of : (b : Bool) (r : Result (List ℕ) PerFault) → (b ≡ true → ⊥) → WrittenIf b r → ok_of r ≡ None
none_of true r n w = absurd (n refl)
none_of false r n w = ap ok_of w

pub encoded_where : (m : Pdu (List ℕ)) → IsWritableMessage m → (os : List ℕ) × (encoded m ≡ Some os)
unfolding encoded
encoded_where m h = some_of (message_fits (rows_of (typed m).0) (typed m).1) (encode_typed (typed m)) h (written_if (typed m))

pub refused_elsewhere : (m : Pdu (List ℕ)) → (IsWritableMessage m → ⊥) → encoded m ≡ None
unfolding encoded
refused_elsewhere m n = none_of (message_fits (rows_of (typed m).0) (typed m).1) (encode_typed (typed m)) n (written_if (typed m))
