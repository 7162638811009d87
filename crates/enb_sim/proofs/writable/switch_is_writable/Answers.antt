use Rattle.std.proofs.Common.{◌≤◌, rules}
use Rattle.std.specs.Int.{w32, to_be_bytes}
use Rattle.per_streams.specs.Octet.{AreBytes}
use Rattle.enb_sim.specs.Sending.{switch_pdu}
use Rattle.enb_sim.proofs.Fitting.{has_octets, switch_fits}
use Rattle.enb_sim.proofs.writable.switch_is_writable.Goals as goal

pub returns : goal.returns
returns c =
    let profile = c.args.profile.now in
    let pair = c.args.pair.now in
    let high : pair.mme_ue_id ≤ 4294967295 = search rules in
    let low : pair.enb_ue_id ≤ 16777215 = search rules in
    let teid : AreBytes 4 (to_be_bytes w32 pair.enb_ue_id) = search rules in
    has_octets (record { written = c.encoded_exactly.ensures.written; refused = c.encoded_exactly.ensures.refused })
    (switch_pdu profile pair) (switch_fits profile pair c.site_is_in_range.ensures high low teid)
