use Rattle.trace_progress.specs.Effects.{in_event}
use Rattle.sim_lines.proofs.Printing.{PrintsOn-none}
use Rattle.sim_lines.proofs.Further.{played_in, stays, stopped}
use Rattle.sim_lines.proofs.Playing.{message_sending-is, scene, set_up_sending-is}
use Rattle.sim_lines.specs.Plays.{acted_sending}
use Rattle.sim_lines.specs.Turns.{message_sending, no_sending, scene_of, sending_as, uplink_of}
use Rattle.sim_crowd.specs.declared.acted.Acted.{Acted}
use Rattle.sim_crowd.specs.Uplinks.{UplinkView}
use Rattle.std.proofs.Common.{◌≡◌, ℕ, List, inl, inr, ap, sym, ◌∙◌}
use Rattle.sim_lines.proofs.acts.play_set_up.Goals as goal

pub returns-in_err-uplink-clause-goes : goal.returns-in_err-uplink-clause-goes
returns-in_err-uplink-clause-goes c = stays

pub returns-in_err-sent-in-Sends-clause-goes : goal.returns-in_err-sent-in-Sends-clause-goes
returns-in_err-sent-in-Sends-clause-goes c =
    stopped (in_event c.uplink.inside.station c.as_slice-octets.result.now) c.in_err-sent-in-Sends.ensures.stops
    c.in_err-sent-in-Sends.ensures.err

pub returns-in_ok-sent-in-Sends-clause-goes : goal.returns-in_ok-sent-in-Sends-clause-goes
returns-in_ok-sent-in-Sends-clause-goes c =
    played_in c.uplink.inside.station c.as_slice-octets.result.now c.requires c.in_ok-sent-in-Sends.ensures.printed
    c.in_ok-sent-in-Sends.ensures.after c.in_ok-sent-in-Sends.ensures.unsent

pub returns-in-Skipped-clause-printed : goal.returns-in-Skipped-clause-printed
returns-in-Skipped-clause-printed c = PrintsOn-none c.args.script.now.progress c.args.out.now.items c.requires

pub returns-in-Skipped-clause-goes : goal.returns-in-Skipped-clause-goes
returns-in-Skipped-clause-goes c = stays

pub returns-in_ok-sent-in-Sends-clause-sends : goal.returns-in_ok-sent-in-Sends-clause-sends
returns-in_ok-sent-in-Sends-clause-sends c =
    let n = c.uplink.inside.station in
    let octets = c.as_slice-octets.result.now in
    let old = scene_of c.args.script.now c.args.out.now.items in
    let crowd = c.set_up.new.self in
    let asked = scene old.progress crowd old.page in
    let progress = c.play_in.new.progress in
    let page = c.play_in.new.out.items in
    let sent = c.in_ok-sent-in-Sends.sent in
    let same = ap (λ (v : List ℕ). uplink_of n v) c.as_slice-octets.ensures.value ∙ c.uplink.view_is in
    set_up_sending-is c.args.station c.in_ok-uplink.field-0 old crowd (sending_as sent (scene progress crowd page)) c.in_ok-uplink.ensures.ok
    (ap (λ (a : Acted). acted_sending a asked) c.in-Sends.is ∙ ap (λ (u : UplinkView). message_sending u asked) (sym same)
    ∙ message_sending-is n octets old.progress progress crowd old.page page sent c.requires c.in_ok-sent-in-Sends.ensures.sent
    c.in_ok-sent-in-Sends.ensures.long c.in_ok-sent-in-Sends.ensures.unsent c.in_ok-sent-in-Sends.ensures.after
    c.in_ok-sent-in-Sends.ensures.shown)

pub returns-in-Skipped-clause-sends : goal.returns-in-Skipped-clause-sends
returns-in-Skipped-clause-sends c =
    let old = scene_of c.args.script.now c.args.out.now.items in
    let crowd = c.set_up.new.self in
    let asked = scene old.progress crowd old.page in
    let sends = λ (a : Acted). acted_sending a asked in
    let none : sends c.in_ok-uplink.field-0 ≡ no_sending asked =
    elim c.in-Skipped.is [ inl skipped ↦ ap sends skipped | inr silent ↦ ap sends silent ] in
    set_up_sending-is c.args.station c.in_ok-uplink.field-0 old crowd (no_sending asked) c.in_ok-uplink.ensures.ok none
