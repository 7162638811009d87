use Rattle.std.proofs.Common.{◌≡◌, ℕ, ◌<◌, ◌≤◌, ◌-◌, List, [], length, get_or, ap, subst, ◌∙◌, arith}
use Rattle.trace_progress.specs.Effects.{in_event}
use Rattle.sim_lines.proofs.Printing.{PrintsOn-then, PrintsOn-none, PrintsOn-remark}
use Rattle.sim_lines.proofs.Further.{played_in, remarked, stays, stopped, then_on, unprinted}
use Rattle.sim_crowd.specs.Uplinks.{UplinkView}
use Rattle.sim_lines.specs.Turns.{delivering_sent, scene_of, uplink_of}
use Rattle.sim_lines.proofs.Playing.{PlaysQueue-all, PlaysQueue-most, QueueStands, QueueStands-more, QueueStands-none, message_sending-is, scene, turn-is}
use Rattle.sim_lines.proofs.turns.play_queue.Goals as goal

pub loop-turn-init : goal.loop-turn-init
loop-turn-init c = record {
  printed = PrintsOn-none c.args.script.now.progress c.args.out.now.items c.requires;
  goes = stays;
  stands = QueueStands-none c.args.queue.items (scene_of c.args.script.now c.args.out.now.items);
}

pub loop-turn-preserved : goal.loop-turn-preserved
loop-turn-preserved c = record {
  printed =
      PrintsOn-then c.args.script.now.progress c.loop-turn.script.progress c.play_in.new.progress
      c.args.out.now.items c.loop-turn.out.items c.play_in.new.out.items [] c.loop-turn.invariant.printed c.in_ok-sent.ensures.printed;
  goes =
      then_on c.loop-turn.invariant.goes (played_in c.uplink.inside.station c.as_slice-octets.result.now c.loop-turn.invariant.printed.0
      c.in_ok-sent.ensures.printed c.in_ok-sent.ensures.after c.in_ok-sent.ensures.unsent);
  stands =
      let n = c.uplink.inside.station in
      let octets = c.as_slice-octets.result.now in
      let u = uplink_of n octets in
      let turn = c.loop-turn.turn in
      let queue = c.loop-turn.queue.items in
      let mid = c.loop-turn.script in
      let before = c.loop-turn.out.items in
      let after = c.play_in.new.out.items in
      let progress = c.play_in.new.progress in
      let sent = c.in_ok-sent.sent in
      let there : turn < length queue = omega (arith, c.in-Some.ensures.lookup.3.0) in
      let is =
      ap (λ (v : List ℕ). uplink_of n v) c.as_slice-octets.ensures.value ∙ c.uplink.view_is ∙ c.in-Some.ensures.lookup.3.1 u
      ∙ ap (λ (v : List UplinkView). get_or v turn u) c.deref.ensures.value in
      QueueStands-more c.args.queue.items queue (delivering_sent sent mid.crowd).sent c.deliver.new.queue.items
      (scene_of c.args.script.now c.args.out.now.items) (scene_of mid before) (scene progress c.deliver.new.crowd after) turn u
      c.loop-turn.invariant.stands there is
      (turn-is u (scene_of mid before) sent progress mid.crowd c.deliver.new.crowd after
      (message_sending-is n octets mid.progress progress mid.crowd before after sent c.loop-turn.invariant.printed.0
      c.in_ok-sent.ensures.sent c.in_ok-sent.ensures.long c.in_ok-sent.ensures.unsent c.in_ok-sent.ensures.after
      c.in_ok-sent.ensures.shown)
      c.in_ok-deliver.ensures.crowd)
      c.in_ok-deliver.ensures.queue;
}

pub returns-in_err-sent-clause-goes : goal.returns-in_err-sent-clause-goes
returns-in_err-sent-clause-goes c =
    then_on c.loop-turn.invariant.goes
    (stopped (in_event c.uplink.inside.station c.as_slice-octets.result.now) c.in_err-sent.ensures.stops c.in_err-sent.ensures.err)

pub returns-in_err-deliver-clause-goes : goal.returns-in_err-deliver-clause-goes
returns-in_err-deliver-clause-goes c =
    then_on c.loop-turn.invariant.goes (played_in c.uplink.inside.station c.as_slice-octets.result.now c.loop-turn.invariant.printed.0
    c.in_ok-sent.ensures.printed c.in_ok-sent.ensures.after c.in_ok-sent.ensures.unsent)

pub returns-in_err-push_dropped-clause-goes : goal.returns-in_err-push_dropped-clause-goes
returns-in_err-push_dropped-clause-goes c = then_on c.loop-turn.invariant.goes (unprinted c.in_err-push_dropped.ensures.err)

pub returns-clause-printed : goal.returns-clause-printed
returns-clause-printed c =
    let progress = c.loop-turn.script.progress in
    let mid = c.loop-turn.out.items in
    let last = c.push_dropped.new.out.items in
    PrintsOn-then c.args.script.now.progress progress progress c.args.out.now.items mid last [] c.loop-turn.invariant.printed
    (PrintsOn-remark progress mid last c.loop-turn.invariant.printed.0 c.in_ok-push_dropped.ensures.added)

pub returns-clause-goes : goal.returns-clause-goes
returns-clause-goes c = then_on c.loop-turn.invariant.goes (remarked [] c.in_ok-push_dropped.ensures.added)

pub returns-in_default-clause-plays : goal.returns-in_default-clause-plays
returns-in_default-clause-plays c =
    let queue = c.loop-turn.queue.items in
    let done : length queue ≤ c.loop-turn.turn = omega (arith, c.in_default.ensures.lookup.3) in
    PlaysQueue-all c.args.queue.items queue (scene_of c.args.script.now c.args.out.now.items)
    (scene_of c.loop-turn.script c.loop-turn.out.items) c.loop-turn.turn c.loop-turn.invariant.stands done (omega arith)

pub returns-then-len-le-MOST_ANSWERS-clause-plays : goal.returns-then-len-le-MOST_ANSWERS-clause-plays
returns-then-len-le-MOST_ANSWERS-clause-plays c =
    let queue = c.loop-turn.queue.items in
    let done : length queue ≤ c.loop-turn.turn = omega arith in
    PlaysQueue-all c.args.queue.items queue (scene_of c.args.script.now c.args.out.now.items)
    (scene_of c.loop-turn.script c.loop-turn.out.items) c.loop-turn.turn c.loop-turn.invariant.stands done (omega arith)

pub returns-clause-plays : goal.returns-clause-plays
returns-clause-plays c =
    let queue = c.loop-turn.queue.items in
    let last = c.loop-turn.script in
    let first = scene_of c.args.script.now c.args.out.now.items in
    let scene_is = scene_of last c.loop-turn.out.items in
    let most : c.loop-turn.turn ≡ 64 = omega arith in
    let more : 64 < length queue = omega arith in
    let left : c.len-2.result - 64 ≡ length queue - 64 = omega arith in
    PlaysQueue-most c.args.queue.items queue first last.progress last.crowd c.loop-turn.out.items c.push_dropped.new.out.items
    (c.len-2.result - 64) (subst (λ (n : ℕ). QueueStands c.args.queue.items first n queue scene_is) most c.loop-turn.invariant.stands)
    more left c.in_ok-push_dropped.ensures.text
