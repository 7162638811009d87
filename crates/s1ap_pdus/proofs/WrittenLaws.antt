-- What is written of a message of a type spells it.
use Rattle.std.proofs.Common.{◌≡◌, ℕ, true, List, Some, Ok, refl}
use Rattle.per_bits.specs.Writing.{write_whole}
use Rattle.per_streams.specs.BitLaws.{bind_ok}
use Rattle.s1ap_rows.specs.Criticalities.{criticality_number}
use Rattle.s1ap_rows.specs.Rows.{are_distinct}
use Rattle.s1ap_rows.specs.Writing.{write_message, write_frame}
use Rattle.s1ap_rows.specs.FrameLaws.{frame_written}
use Rattle.s1ap_rows.specs.WrittenLaws.{message_written}
use Rattle.s1ap_pdus.specs.declared.message_type.MessageType.{MessageType}
use Rattle.s1ap_pdus.specs.declared.message_type.MessageType.TheVariants.{S1SetupRequest, S1SetupResponse, S1SetupFailure, InitialUeMessage, DownlinkNasTransport, UplinkNasTransport, NasNonDeliveryIndication, UeCapabilityInfoIndication, InitialContextSetupRequest, InitialContextSetupResponse, InitialContextSetupFailure, UeContextReleaseRequest, UeContextReleaseCommand, UeContextReleaseComplete, Paging, PathSwitchRequest, PathSwitchRequestAcknowledge, PathSwitchRequestFailure, Reset, ResetAcknowledge, ErrorIndication}
use Rattle.s1ap_pdus.specs.Profile.{rows_of, kind_of, code_of, criticality_of, initiating, successful, unsuccessful, type_of}
use Rattle.s1ap_pdus.specs.Typed.{Typed, SpellsTyped, encode_typed}

distinct : (t : MessageType) → are_distinct (rows_of t) ≡ true
distinct S1SetupRequest = refl
distinct S1SetupResponse = refl
distinct S1SetupFailure = refl
distinct InitialUeMessage = refl
distinct DownlinkNasTransport = refl
distinct UplinkNasTransport = refl
distinct NasNonDeliveryIndication = refl
distinct UeCapabilityInfoIndication = refl
distinct InitialContextSetupRequest = refl
distinct InitialContextSetupResponse = refl
distinct InitialContextSetupFailure = refl
distinct UeContextReleaseRequest = refl
distinct UeContextReleaseCommand = refl
distinct UeContextReleaseComplete = refl
distinct Paging = refl
distinct PathSwitchRequest = refl
distinct PathSwitchRequestAcknowledge = refl
distinct PathSwitchRequestFailure = refl
distinct Reset = refl
distinct ResetAcknowledge = refl
distinct ErrorIndication = refl

own_type : (t : MessageType) → type_of (kind_of t) (code_of t) ≡ Some t
unfolding type_of initiating successful unsuccessful
own_type S1SetupRequest = refl
own_type S1SetupResponse = refl
own_type S1SetupFailure = refl
own_type InitialUeMessage = refl
own_type DownlinkNasTransport = refl
own_type UplinkNasTransport = refl
own_type NasNonDeliveryIndication = refl
own_type UeCapabilityInfoIndication = refl
own_type InitialContextSetupRequest = refl
own_type InitialContextSetupResponse = refl
own_type InitialContextSetupFailure = refl
own_type UeContextReleaseRequest = refl
own_type UeContextReleaseCommand = refl
own_type UeContextReleaseComplete = refl
own_type Paging = refl
own_type PathSwitchRequest = refl
own_type PathSwitchRequestAcknowledge = refl
own_type PathSwitchRequestFailure = refl
own_type Reset = refl
own_type ResetAcknowledge = refl
own_type ErrorIndication = refl

pub typed_written : (m : Typed) (os : List ℕ) → encode_typed m ≡ Ok os → SpellsTyped m os
unfolding encode_typed
typed_written m os h =
    let i =
    bind_ok (write_whole (write_message (rows_of m.0)) m.1)
    (λ inner. write_whole (write_frame (kind_of m.0) (code_of m.0) (criticality_number (criticality_of m.0))) inner) os h in (
      (kind_of m.0, (code_of m.0, (criticality_number (criticality_of m.0), (i.0, tt)))),
      frame_written _ os i.2,
      own_type m.0,
      message_written (rows_of m.0) m.1 i.0 (distinct m.0) i.1,
    )
