use Rattle.enb_sim.specs.Sending.{setup_pdu}
use Rattle.enb_sim.proofs.Fitting.{has_octets, setup_fits}
use Rattle.enb_sim.proofs.writable.setup_is_writable.Goals as goal

pub returns : goal.returns
returns c =
    let profile = c.args.profile.now in
    has_octets (record { written = c.encoded_exactly.ensures.written; refused = c.encoded_exactly.ensures.refused })
    (setup_pdu profile) (setup_fits profile c.site_is_in_range.ensures)
