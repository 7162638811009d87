use Rattle.std.proofs.Common.{◌≤◌, rules}
use Rattle.enb_sim.specs.Sending.{release_pdu}
use Rattle.enb_sim.proofs.Fitting.{has_octets, release_fits}
use Rattle.enb_sim.proofs.writable.release_is_writable.Goals as goal

pub returns : goal.returns
returns c =
    let pair = c.args.pair.now in
    let high : pair.mme_ue_id ≤ 4294967295 = search rules in
    let low : pair.enb_ue_id ≤ 16777215 = search rules in
    has_octets (record { written = c.encoded_exactly.ensures.written; refused = c.encoded_exactly.ensures.refused })
    (release_pdu pair) (release_fits pair high low)
