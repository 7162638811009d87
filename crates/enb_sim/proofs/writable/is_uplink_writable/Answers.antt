use Rattle.std.proofs.Common.{◌≤◌, ◌+◌, length, rules, arith, ap, ◌∙◌}
use Rattle.per_bits.specs.Numbers.{octets_for}
use Rattle.enb_sim.specs.Sending.{uplink_pdu}
use Rattle.enb_sim.proofs.Fitting.{uplink_where, with_room, without_room}
use Rattle.enb_sim.proofs.writable.is_uplink_writable.Goals as goal

pub returns-clause-written : goal.returns-clause-written
returns-clause-written c =
    let s = c.args.profile.now in
    let pair = c.args.pair.now in
    let nas = c.args.nas.now in
    let high : pair.mme_ue_id ≤ 4294967295 = search rules in
    let low : pair.enb_ue_id ≤ 16777215 = search rules in
    let fits = uplink_where s pair nas c.site_is_in_range.ensures high low c.octets_are_below.ensures in
    let first = c.octets_of.ensures.exact ∙ ap octets_for c.get.ensures.value in
    let second = c.octets_of-2.ensures.exact ∙ ap octets_for c.get-2.ensures.value in
    with_room (record { written = c.encoded_exactly.ensures.written; refused = c.encoded_exactly.ensures.refused })
    (uplink_pdu s pair nas) _ (length nas + (octets_for pair.mme_ue_id + octets_for pair.enb_ue_id)) _ fits
    (omega (arith, first, second)) (omega arith)

pub returns-clause-refused : goal.returns-clause-refused
returns-clause-refused c =
    let s = c.args.profile.now in
    let pair = c.args.pair.now in
    let nas = c.args.nas.now in
    let high : pair.mme_ue_id ≤ 4294967295 = search rules in
    let low : pair.enb_ue_id ≤ 16777215 = search rules in
    let fits = uplink_where s pair nas c.site_is_in_range.ensures high low c.octets_are_below.ensures in
    let first = c.octets_of.ensures.exact ∙ ap octets_for c.get.ensures.value in
    let second = c.octets_of-2.ensures.exact ∙ ap octets_for c.get-2.ensures.value in
    without_room (record { written = c.encoded_exactly.ensures.written; refused = c.encoded_exactly.ensures.refused })
    (uplink_pdu s pair nas) _ (length nas + (octets_for pair.mme_ue_id + octets_for pair.enb_ue_id)) _ fits
    (omega (arith, first, second)) (omega arith)
