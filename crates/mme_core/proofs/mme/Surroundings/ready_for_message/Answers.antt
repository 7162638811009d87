use Rattle.std.proofs.Common.{sym, subst, ◌∙◌, ap}
use Rattle.mme_routing.specs.Seen.{destination_of, seen_outcome}
use Rattle.mme_answering.specs.Prepares.{Prepares}
use Rattle.mme_core.specs.Sight.{Sight}
use Rattle.mme_core.specs.declared.event.Event.{Event}
use Rattle.mme_core.specs.World.{happens, station_of}
use Rattle.mme_core.proofs.Leading.{leads}
use Rattle.mme_core.proofs.mme.Surroundings.ready_for_message.Goals as goal

pub returns-clause-leads : goal.returns-clause-leads
unfolding happens
returns-clause-leads c =
    let s = c.args.self.now in
    let after = c.clock_after-clock in
    let said = sym c.in-In.is in
    let o = c.args.owners.now in
    let there = subst (λ (v : Sight). Prepares v.profiles (destination_of v.stations c.in_ok-state.field-0.destination) o.strangers o.subscribers
    c.in_ok-outs.outs c.prepare.new.outs c.in_ok-prepared.prepared) c.self.view_is c.in_ok-prepared.ensures.prepares in
    leads s c.args.owners.now c.args.event.now (seen_outcome s.stations c.in_ok-state.field-0) c.in_ok-prepared.prepared _ c.prepare.new.outs after.result _
    (sym c.in_default-fault_of.ensures) (c.in_ok-state.ensures ∙ ap (λ (e : Event). happens s e) said) (ap (λ (e : Event). station_of e) said)
    c.in_ok-outs.ensures there after.ensures.value after.ensures.least c.requires.rising
