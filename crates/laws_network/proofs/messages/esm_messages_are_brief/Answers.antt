use Rattle.laws_network.specs.NasLaws.{brief_activation, brief_connectivity_reject, brief_disconnect_reject, brief_esm_status, brief_information_request}
use Rattle.laws_network.proofs.messages.esm_messages_are_brief.Goals as goal

pub returns : goal.returns
returns c = record {
  asked = brief_information_request;
  activated = brief_activation;
  connection_rejected = brief_connectivity_reject;
  disconnection_rejected = brief_disconnect_reject;
  told = brief_esm_status;
}
