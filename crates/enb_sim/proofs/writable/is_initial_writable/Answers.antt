use Rattle.std.proofs.Common.{◌≡◌, ◌+◌, ◌≤◌, length, rules, arith, ap, ◌∙◌}
use Rattle.per_bits.specs.Numbers.{octets_for}
use Rattle.enb_sim.specs.Sending.{initial_pdu}
use Rattle.enb_sim.proofs.Fitting.{identity_size, initial_where, with_room, without_room}
use Rattle.enb_sim.proofs.writable.is_initial_writable.Goals as goal

pub returns-in-None-clause-written : goal.returns-in-None-clause-written
returns-in-None-clause-written c =
    let s = c.args.profile.now in
    let b = c.args.enb_ue_id in
    let nas = c.args.nas.now in
    let t = c.args.s_tmsi.now in
    let low : b ≤ 16777215 = search rules in
    let fits = initial_where s b nas t c.site_is_in_range.ensures low c.octets_are_below.ensures c.s_tmsi_is_in_range.ensures in
    let number = c.octets_of.ensures.exact ∙ ap octets_for c.get.ensures.value in
    let identity : identity_size t ≡ 0 = ap identity_size c.in-None.is in
    with_room (record { written = c.encoded_exactly.ensures.written; refused = c.encoded_exactly.ensures.refused })
    (initial_pdu s b nas t) _ (length nas + (octets_for b + identity_size t)) _ fits
    (omega (arith, number, identity)) (omega arith)

pub returns-in-None-clause-refused : goal.returns-in-None-clause-refused
returns-in-None-clause-refused c =
    let s = c.args.profile.now in
    let b = c.args.enb_ue_id in
    let nas = c.args.nas.now in
    let t = c.args.s_tmsi.now in
    let low : b ≤ 16777215 = search rules in
    let fits = initial_where s b nas t c.site_is_in_range.ensures low c.octets_are_below.ensures c.s_tmsi_is_in_range.ensures in
    let number = c.octets_of.ensures.exact ∙ ap octets_for c.get.ensures.value in
    let identity : identity_size t ≡ 0 = ap identity_size c.in-None.is in
    without_room (record { written = c.encoded_exactly.ensures.written; refused = c.encoded_exactly.ensures.refused })
    (initial_pdu s b nas t) _ (length nas + (octets_for b + identity_size t)) _ fits
    (omega (arith, number, identity)) (omega arith)

pub returns-in-Some-clause-written : goal.returns-in-Some-clause-written
returns-in-Some-clause-written c =
    let s = c.args.profile.now in
    let b = c.args.enb_ue_id in
    let nas = c.args.nas.now in
    let t = c.args.s_tmsi.now in
    let low : b ≤ 16777215 = search rules in
    let fits = initial_where s b nas t c.site_is_in_range.ensures low c.octets_are_below.ensures c.s_tmsi_is_in_range.ensures in
    let number = c.octets_of.ensures.exact ∙ ap octets_for c.get.ensures.value in
    let identity : identity_size t ≡ 10 = ap identity_size c.in-Some.is in
    with_room (record { written = c.encoded_exactly.ensures.written; refused = c.encoded_exactly.ensures.refused })
    (initial_pdu s b nas t) _ (length nas + (octets_for b + identity_size t)) _ fits
    (omega (arith, number, identity)) (omega arith)

pub returns-in-Some-clause-refused : goal.returns-in-Some-clause-refused
returns-in-Some-clause-refused c =
    let s = c.args.profile.now in
    let b = c.args.enb_ue_id in
    let nas = c.args.nas.now in
    let t = c.args.s_tmsi.now in
    let low : b ≤ 16777215 = search rules in
    let fits = initial_where s b nas t c.site_is_in_range.ensures low c.octets_are_below.ensures c.s_tmsi_is_in_range.ensures in
    let number = c.octets_of.ensures.exact ∙ ap octets_for c.get.ensures.value in
    let identity : identity_size t ≡ 10 = ap identity_size c.in-Some.is in
    without_room (record { written = c.encoded_exactly.ensures.written; refused = c.encoded_exactly.ensures.refused })
    (initial_pdu s b nas t) _ (length nas + (octets_for b + identity_size t)) _ fits
    (omega (arith, number, identity)) (omega arith)
