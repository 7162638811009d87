use Rattle.std.proofs.Common.{◌≡◌, ◌↔◌, ◌<◌, length, true, Err, sym, subst}
use Rattle.std.specs.Prelude.{OnErr, OnOk}
use Rattle.identity_slots.specs.declared.provision.ProvisionFault.TheVariants.{Full}
use Rattle.mme_owners.specs.Given.{is_stocked_at}
use Rattle.mme_core.specs.Provisioning.{world_given}
use Rattle.mme_core.specs.World.{World, world_of}
use Rattle.mme_core.proofs.Further.{full_is_fault, given_mme, given_on_ok, same_on_err}
use Rattle.mme_core.proofs.mme.Mme.give.Goals as goal

pub give-requires : goal.give-requires
give-requires c =
    let lt = subst (λ (w : World). c.args.slot < length w.sight.profiles) (sym c.self.view_is) c.requires in
    subst (λ n. c.args.slot < n) (sym c.self.invariant.1.provisioned) lt

pub invariant_of-self : goal.invariant_of-self
invariant_of-self c =
    given_mme c.give.result c.args.slot c.args.vector c.self.inside.surroundings c.self.inside.owners c.give.new.owners
    c.give.ensures.rest c.give.ensures.takes c.self.invariant

pub returns-clause-full : goal.returns-clause-full
returns-clause-full c =
    full_is_fault c.give.result c.args.slot c.args.self.now
    (subst (λ (w : World). (c.give.result ≡ Err Full) ↔ (is_stocked_at c.args.slot w.subscribers ≡ true)) c.self.view_is
    c.give.ensures.takes.full)

pub returns-clause-fault : goal.returns-clause-fault
returns-clause-fault c = c.give.ensures.takes.fault

pub returns-clause-given : goal.returns-clause-given
returns-clause-given c =
    let s = c.self.inside.surroundings in
    let q = c.give.new.owners in
    subst (λ (w : World). OnOk c.give.result (world_of s q ≡ world_given c.args.slot c.args.vector w)) c.self.view_is
    (given_on_ok c.give.result c.args.slot c.args.vector s c.self.inside.owners q c.give.ensures.rest c.give.ensures.takes)

pub returns-clause-err : goal.returns-clause-err
returns-clause-err c =
    let s = c.self.inside.surroundings in
    let q = c.give.new.owners in
    subst (λ (w : World). OnErr c.give.result (world_of s q ≡ w)) c.self.view_is
    (same_on_err c.give.result c.args.slot c.args.vector s c.self.inside.owners q c.give.ensures.rest c.give.ensures.takes)
