use Rattle.enb_sim.specs.Sending.{setup_pdu}
use Rattle.enb_sim.proofs.setup.is_read.Goals as goal

pub returns : goal.returns
returns c = c.what_is_encoded.ensures.decoded (setup_pdu c.args.profile) c.args.octets.now c.requires
