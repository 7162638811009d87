use Rattle.std.proofs.Common.{sym, subst, ◌∙◌}
use Rattle.mme_routing.specs.Seen.{destination_of}
use Rattle.mme_answering.specs.Prepares.{Prepares}
use Rattle.mme_core.specs.Sight.{Sight}
use Rattle.mme_core.proofs.Leading.{leads, nothing_sent, unsaid, unsaid_comes}
use Rattle.mme_core.proofs.mme.Surroundings.ready_without_message.Goals as goal

pub returns-clause-leads : goal.returns-clause-leads
returns-clause-leads c =
    let s = c.args.self.now in
    let e = c.args.event.now in
    let d = destination_of s.stations c.destination-destination.result in
    let after = c.clock_after in
    let o = c.args.owners.now in
    let there = subst (λ (v : Sight). Prepares v.profiles (destination_of v.stations c.destination-destination.result) o.strangers o.subscribers
    c.args.outs c.prepare.new.outs c.in_ok-prepared.prepared) c.self.view_is c.in_ok-prepared.ensures.prepares in
    leads s c.args.owners.now e (unsaid c.state.result d) c.in_ok-prepared.prepared _ c.prepare.new.outs after.result c.station.result
    (sym c.in_default.ensures)
    (unsaid_comes s e c.state.result d c.requires.other (c.state.ensures s c.requires.other)
    (c.destination-destination.ensures s c.requires.other c.slot_named-named.ensures))
    c.station.ensures (c.requires.none ∙ sym (nothing_sent c.station.result)) there
    after.ensures.value after.ensures.least c.requires.rising
