use Rattle.s1ap_pdus.proofs.codec.message_octets.Goals as goal

pub returns-in-S1SetupRequest : goal.returns-in-S1SetupRequest
returns-in-S1SetupRequest c = rw c.in-S1SetupRequest.is c.write_setup_request.ensures

pub returns-in-InitialUeMessage : goal.returns-in-InitialUeMessage
returns-in-InitialUeMessage c = rw c.in-InitialUeMessage.is c.write_initial_ue_message.ensures

pub returns-in-ErrorIndication : goal.returns-in-ErrorIndication
returns-in-ErrorIndication c = rw c.in-ErrorIndication.is c.write_error_indication.ensures

pub returns-in-ResetAcknowledge : goal.returns-in-ResetAcknowledge
returns-in-ResetAcknowledge c = rw c.in-ResetAcknowledge.is c.write_reset_acknowledge.ensures
