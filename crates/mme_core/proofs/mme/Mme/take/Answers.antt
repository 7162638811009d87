use Rattle.std.proofs.Common.{Result, Ok, Err, sym, ◌∙◌, ap, subst, arith}
use Rattle.std.specs.Prelude.{OnErr}
use Rattle.mme_answering.specs.Settled.{settled_strangers, settled_subscribers}
use Rattle.mme_core.specs.Ready.{LeadsTo, ready_world}
use Rattle.mme_core.specs.Sight.{Sight}
use Rattle.mme_core.specs.World.{World, world_of}
use Rattle.mme_core.proofs.Placing.{are_apart, is_waiting}
use Rattle.mme_core.proofs.Quiet.{apart_once, kept_once}
use Rattle.mme_core.proofs.Steps.{not_past, passes}
use Rattle.mme_core.proofs.Taken.{left, same_world, taken, taken_world}
use Rattle.mme_core.proofs.mme.Mme.take.Goals as goal

on_err : {T E P : Type 0} (r : Result T E) → P → OnErr r P
on_err (Ok x) p = tt
on_err (Err e) p = p

pub settle-requires-clause-fits : goal.settle-requires-clause-fits
settle-requires-clause-fits c =
    (subst (λ (v : World). LeadsTo v c.requires.0 c.args.ready) (sym c.self.view_is) c.requires.1).fits

pub settle-requires-clause-clock : goal.settle-requires-clause-clock
settle-requires-clause-clock c =
    let led = subst (λ (v : World). LeadsTo v c.requires.0 c.args.ready) (sym c.self.view_is) c.requires.1 in
    passes c.args.ready.prepared c.self.inside.owners.clock c.self.inside.surroundings.clock c.args.ready.moves.clock c.self.invariant.0 led.in_time

pub settle-requires-clause-apart : goal.settle-requires-clause-apart
settle-requires-clause-apart c =
    let r = c.args.ready in
    let w = world_of c.self.inside.surroundings c.self.inside.owners in
    let led = subst (λ (v : World). LeadsTo v c.requires.0 r) (sym c.self.view_is) c.requires.1 in
    are_apart (settled_strangers r.prepared w.strangers) (settled_subscribers r.prepared w.subscribers)
    c.no_two_share_an_id.ensures.two c.no_two_share_an_id.ensures.waiting
    (apart_once w (ready_world r w) c.requires.0 c.ids_are_apart.ensures.stays led.after c.self.invariant.2)

pub settle-requires-clause-waiting : goal.settle-requires-clause-waiting
settle-requires-clause-waiting c =
    let r = c.args.ready in
    let w = world_of c.self.inside.surroundings c.self.inside.owners in
    let led = subst (λ (v : World). LeadsTo v c.requires.0 r) (sym c.self.view_is) c.requires.1 in
    is_waiting r.prepared w.strangers w.subscribers
    (kept_once w (ready_world r w) c.requires.0 c.worlds_are_kept.ensures.stays led.after c.self.invariant.1).timed
    (apart_once w (ready_world r w) c.requires.0 c.ids_are_apart.ensures.stays led.after c.self.invariant.2)

pub invariant_of-self : goal.invariant_of-self
invariant_of-self c =
    let same = c.in_err-settle.ensures in
    left c.self.inside.surroundings c.self.inside.owners c.settle.new.owners same.same_strangers same.same_subscribers same.same_clock c.self.invariant

pub invariant_of-self-2 : goal.invariant_of-self-2
invariant_of-self-2 c =
    let r = c.args.ready in
    let s = c.self.inside.surroundings in
    let o = c.self.inside.owners in
    let t = c.move_on.new.self in
    let p = c.settle.new.owners in
    let done = c.in_ok-settle.ensures in
    let w = world_of s o in
    let led = subst (λ (v : World). LeadsTo v c.requires.0 r) (sym c.self.view_is) c.requires.1 in
    let past = not_past r.prepared o.clock s.clock r.moves.clock c.self.invariant.0 led.in_time in
    let moved = ap (λ (x : Sight). x.clock) c.move_on.ensures in
    taken r s t o p (taken_world r s t o p c.move_on.ensures done.strangers done.subscribers) (omega (arith, past, moved, done.clock))
    (kept_once w (ready_world r w) c.requires.0 c.worlds_are_kept.ensures.stays led.after c.self.invariant.1)
    (apart_once w (ready_world r w) c.requires.0 c.ids_are_apart.ensures.stays led.after c.self.invariant.2)

pub returns-in_err-settle-clause-err : goal.returns-in_err-settle-clause-err
returns-in_err-settle-clause-err c =
    let same = c.in_err-settle.ensures in
    on_err c.from_residual.result (same_world c.self.inside.surroundings c.self.inside.owners c.settle.new.owners same.same_strangers same.same_subscribers ∙ c.self.view_is)

pub returns-clause-after : goal.returns-clause-after
returns-clause-after c =
    let r = c.args.ready in
    let done = c.in_ok-settle.ensures in
    taken_world r c.self.inside.surroundings c.move_on.new.self c.self.inside.owners c.settle.new.owners c.move_on.ensures done.strangers done.subscribers
    ∙ ap (λ (v : World). ready_world r v) c.self.view_is
