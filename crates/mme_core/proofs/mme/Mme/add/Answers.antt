use Rattle.std.proofs.Common.{◌≡◌, sym, subst}
use Rattle.std.specs.Prelude.{IfErr, IfNone, IfOk, IfSome, OnErr, OnOk, Err, length}
use Rattle.identity_slots.specs.declared.provision.ProvisionFault.TheVariants.{NoMemory}
use Rattle.identity_slots.specs.Provisioned.{add_fault}
use Rattle.mme_core.specs.Provisioning.{world_added}
use Rattle.mme_core.specs.World.{World, world_of}
use Rattle.mme_core.proofs.Further.{added_mme}
use Rattle.mme_core.proofs.mme.Mme.add.Goals as goal

pub add-requires : goal.add-requires
add-requires c = c.self.invariant.1.provisioned

pub invariant_of-self : goal.invariant_of-self
invariant_of-self c =
    let done = c.add.ensures in
    added_mme c.add.result c.args.profile c.self.inside.surroundings c.add.new.self c.self.inside.owners c.add.new.owners
    c.in_use_is_kept.ensures.fresh c.soundness_is_kept.ensures.fresh c.clocks_are_kept.ensures.fresh done.few done.added done.clock done.err
    c.self.invariant

pub returns-clause-refused : goal.returns-clause-refused
returns-clause-refused c =
    subst (λ (w : World). IfSome (add_fault c.args.profile w.sight.profiles) (λ fault. c.add.result ≡ Err fault)) c.self.view_is
    c.add.ensures.refused

pub returns-clause-not_refused : goal.returns-clause-not_refused
returns-clause-not_refused c =
    subst (λ (w : World). IfNone (add_fault c.args.profile w.sight.profiles) (IfErr c.add.result (λ fault. fault ≡ NoMemory))) c.self.view_is
    c.add.ensures.not_refused

pub returns-clause-slot : goal.returns-clause-slot
returns-clause-slot c =
    subst (λ (w : World). IfOk c.add.result (λ slot. slot ≡ length w.sight.profiles)) c.self.view_is c.add.ensures.slot

pub returns-clause-added : goal.returns-clause-added
returns-clause-added c =
    subst (λ (w : World). OnOk c.add.result (world_of c.add.new.self c.add.new.owners ≡ world_added c.args.profile w)) c.self.view_is
    c.add.ensures.added

pub returns-clause-err : goal.returns-clause-err
returns-clause-err c =
    subst (λ (w : World). OnErr c.add.result (world_of c.add.new.self c.add.new.owners ≡ w)) c.self.view_is c.add.ensures.err
