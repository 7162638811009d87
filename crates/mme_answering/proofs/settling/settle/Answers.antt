use Rattle.std.proofs.Common.{◌≤◌, arith, subst}
use Rattle.identity_slots.specs.Ids.{slots}
use Rattle.mme_answering.specs.Settled.{IsWaiting, steps_of}
use Rattle.mme_answering.proofs.Places.{apart_there, for_there}
use Rattle.mme_answering.proofs.Room.{steps_few}
use Rattle.mme_answering.proofs.settling.settle.Goals as goal

pub reserve-requires-clause-steps : goal.reserve-requires-clause-steps
reserve-requires-clause-steps c =
    let few : steps_of c.args.prepared ≤ slots =
    steps_few c.args.prepared c.args.owners.now.strangers c.args.owners.now.subscribers slots c.requires.fits c.len.ensures.few (omega arith) in
    omega (arith, few, c.steps_of.ensures)

pub settle-requires-clause-slot : goal.settle-requires-clause-slot
settle-requires-clause-slot c =
    (for_there c.in-Subscriber.is c.reserve.ensures.strangers c.reserve.ensures.subscribers c.requires.fits).0

pub settle-requires-clause-counting : goal.settle-requires-clause-counting
settle-requires-clause-counting c =
    (for_there c.in-Subscriber.is c.reserve.ensures.strangers c.reserve.ensures.subscribers c.requires.fits).1

pub settle-requires-clause-onward : goal.settle-requires-clause-onward
settle-requires-clause-onward c =
    (for_there c.in-Subscriber.is c.reserve.ensures.strangers c.reserve.ensures.subscribers c.requires.fits).2

pub settle-requires-clause-apart : goal.settle-requires-clause-apart
settle-requires-clause-apart c = apart_there c.in-Subscriber.is c.reserve.ensures.strangers c.reserve.ensures.subscribers c.requires.apart

pub settle_turn-requires-clause-wait : goal.settle_turn-requires-clause-wait
settle_turn-requires-clause-wait c = subst IsWaiting c.in-Stranger.is c.requires.waiting

pub settle_turn-requires-clause-fits : goal.settle_turn-requires-clause-fits
settle_turn-requires-clause-fits c =
    for_there c.in-Stranger.is c.reserve.ensures.strangers c.reserve.ensures.subscribers c.requires.fits

pub settle_turn-requires-clause-apart : goal.settle_turn-requires-clause-apart
settle_turn-requires-clause-apart c =
    apart_there c.in-Stranger.is c.reserve.ensures.strangers c.reserve.ensures.subscribers c.requires.apart

pub settle_noticed-requires-clause-counting : goal.settle_noticed-requires-clause-counting
settle_noticed-requires-clause-counting c =
    (for_there c.in-Everyone.is c.reserve.ensures.strangers c.reserve.ensures.subscribers c.requires.fits).0.1

pub settle_noticed-requires-clause-onward : goal.settle_noticed-requires-clause-onward
settle_noticed-requires-clause-onward c =
    (for_there c.in-Everyone.is c.reserve.ensures.strangers c.reserve.ensures.subscribers c.requires.fits).0.2

pub tick-requires-clause-onward : goal.tick-requires-clause-onward
tick-requires-clause-onward c =
    (for_there c.in-Tick.is c.reserve.ensures.strangers c.reserve.ensures.subscribers c.requires.fits).4
