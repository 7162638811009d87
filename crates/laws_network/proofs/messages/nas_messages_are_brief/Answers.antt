use Rattle.laws_network.specs.NasLaws.{brief_attach_accept, brief_attach_reject, brief_authentication_reject, brief_authentication_request, brief_detach_accept, brief_emm_status, brief_network_detach, brief_security_mode_command, brief_service_reject, brief_update_accept, brief_update_reject}
use Rattle.laws_network.proofs.messages.nas_messages_are_brief.Goals as goal

pub returns : goal.returns
returns c = record {
  attach_rejected = brief_attach_reject;
  challenge = λ ksi v low fits. brief_authentication_request ksi v.rand v.autn low fits.rand fits.autn;
  not_authenticated = brief_authentication_reject;
  secure = brief_security_mode_command;
  attached = brief_attach_accept;
  updated = brief_update_accept;
  update_rejected = brief_update_reject;
  service_rejected = brief_service_reject;
  detached = (brief_detach_accept, brief_network_detach);
  told = brief_emm_status;
}
