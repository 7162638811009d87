use Rattle.std.proofs.Common.{◌≡◌, ◌≢◌, ◌+◌, ◌<◌, ◌≤◌, ◌^◌, Err, Some, ap, arith, refl, subst, sym, ◌∙◌}
use Rattle.identity_slots.specs.Provisioned.{Provisioned, add_fault}
use Rattle.identity_slots.specs.declared.provision.ProvisionFault.TheVariants.{NoMemory}
use Rattle.snapshot_formats.specs.Subscribers.{typed_saved_subscriber}
use Rattle.mme_snapshot.specs.declared.fault.RestoreFault.{RestoreFault}
use Rattle.mme_snapshot.specs.Images.{hops_of}
use Rattle.mme_snapshot.specs.Restored.{subscriber_added}
use Rattle.mme_snapshot.proofs.Joining.{IsJoined, fault_told, joined_building, joined_so, no_imsi_at, none_told, over_at, over_fit, over_sum, refused_at, repeated_at}
use Rattle.mme_snapshot.proofs.building.Building.subscriber.Goals as goal
use Rattle.mme_snapshot.proofs.building.Building.subscriber.Goals.{In-Ok-add_subscriber, in_default-checked_add-via-in-Some-checked_add+else-hops-most, in_default-checked_add-via-in_default-checked_add}

pub returns-in_default-clause-refused : goal.returns-in_default-clause-refused
returns-in_default-clause-refused c = λ known.
    let was = c.self.inside in
    no_imsi_at c.args.most (record { config = was.config; clock = was.clock; stations = was.stations; profiles = was.provision.profiles })
    was.owners was.hops c.args.self (typed_saved_subscriber c.args.saved.now) c.self.view_is c.new-slot.result
    (c.new-slot.ensures ∙ c.len.ensures.value) c.in_default.ensures

pub returns-in-Err : goal.returns-in-Err
returns-in-Err c =
    let was = c.self.inside in
    let v = typed_saved_subscriber c.args.saved.now in
    record {
      ok = tt;
      refused = λ known.
          let other : c.in-Err.fault ≢ NoMemory = λ is. known (c.profile_fault.ensures.memory is) in
          let why : add_fault c.in-Some.profile was.provision.profiles ≡ Some c.in-Err.fault =
          fault_told (add_fault c.in-Some.profile was.provision.profiles) (Err c.in-Err.fault) c.in-Err.fault refl
          c.in-Err.ensures.refused c.in-Err.ensures.not_refused other in
          subst (λ (f : RestoreFault). subscriber_added (Some c.args.most) c.args.self v ≡ Err f)
          (sym (c.profile_fault.ensures.profile other))
          (repeated_at c.args.most
          (record { config = was.config; clock = was.clock; stations = was.stations; profiles = was.provision.profiles })
          was.owners was.hops c.args.self v c.self.view_is c.in-Some.profile c.in-Some.ensures c.new-slot.result c.in-Err.fault
          (c.new-slot.ensures ∙ c.len.ensures.value) why);
      count = tt;
    }

pub returns-in_default-checked_add-clause-refused : goal.returns-in_default-checked_add-clause-refused
returns-in_default-checked_add-clause-refused c = λ known.
    let was = c.self.inside in
    let v = typed_saved_subscriber c.args.saved.now in
    let fits : c.args.most < 2 ^ 64 = omega arith in
    let over : c.args.most < was.hops + hops_of v = elim c.in_default-checked_add.branch [
      | in_default-checked_add-via-in-Some-checked_add+else-hops-most w ↦ over_sum c.args.most was.hops c.hops_of.result (hops_of v)
          w.in-Some-checked_add.hops w.if-hops-most.false w.in-Some-checked_add.ensures.1 c.hops_of.ensures
      | in_default-checked_add-via-in_default-checked_add w ↦ over_fit c.args.most was.hops c.hops_of.result (hops_of v)
          w.in_default-checked_add.ensures fits c.hops_of.ensures
    ] in
    over_at c.args.most (record { config = was.config; clock = was.clock; stations = was.stations; profiles = was.provision.profiles })
    was.owners was.hops c.args.self v c.self.view_is c.in-Some.profile c.in-Some.ensures
    (none_told (add_fault c.in-Some.profile was.provision.profiles) _ c.in-Ok.field-0 refl c.in-Ok.ensures.refused) over

joined : (c : In-Ok-add_subscriber) → IsJoined
    (record { config = c.self.inside.config; clock = c.self.inside.clock; stations = c.self.inside.stations; profiles = c.self.inside.provision.profiles })
    c.add.new.self.profiles c.self.inside.owners c.add_subscriber.new.owners c.self.inside.shared c.new-slot.result c.in-Some.profile
    (typed_saved_subscriber c.args.saved.now)
joined c = record {
  next = c.new-slot.ensures ∙ c.len.ensures.value;
  profiles = ap (λ (p : Provisioned). p.profiles) c.in-Ok.ensures.added;
  clock = c.add_subscriber.ensures.clock;
  strangers = c.add_subscriber.ensures.strangers;
  subscribers = c.in-Ok-add_subscriber.ensures.subscribers;
  fits = c.in-Ok-add_subscriber.ensures.fits;
  placed = c.in-Ok-add_subscriber.ensures.placed;
  numbered = c.in-Ok-add_subscriber.ensures.numbered;
  apart = c.in-Ok-add_subscriber.ensures.apart;
}

pub invariant_of-result : goal.invariant_of-result
invariant_of-result c =
    let was = c.self.inside in
    let fit = c.states_that_fit.ensures in
    joined_building (record { config = was.config; clock = was.clock; stations = was.stations; profiles = was.provision.profiles })
    c.add.new.self.profiles was.owners c.add_subscriber.new.owners was.shared c.new-slot.result c.in-Some.profile
    (typed_saved_subscriber c.args.saved.now) (joined (goal.at.invariant_of-result c).In-Ok-add_subscriber) c.self.invariant fit.sound
    fit.clocked fit.in_use

pub returns-in-Ok-add_subscriber-clause-ok : goal.returns-in-Ok-add_subscriber-clause-ok
returns-in-Ok-add_subscriber-clause-ok c =
    let was = c.self.inside in
    let v = typed_saved_subscriber c.args.saved.now in
    joined_so (record { config = was.config; clock = was.clock; stations = was.stations; profiles = was.provision.profiles })
    c.add.new.self.profiles was.owners c.add_subscriber.new.owners was.shared c.new-slot.result c.in-Some.profile v
    (joined (goal.at.returns-in-Ok-add_subscriber-clause-ok c).In-Ok-add_subscriber) c.args.most was.hops c.in-Some-checked_add.hops
    c.args.self c.self.view_is c.self.invariant.network c.in-Some.ensures
    (none_told (add_fault c.in-Some.profile was.provision.profiles) _ c.in-Ok.field-0 refl c.in-Ok.ensures.refused)
    (c.in-Some-checked_add.ensures.1 ∙ ap (λ n. was.hops + n) c.hops_of.ensures) c.if-hops-most.true

pub returns-in-Err-add_subscriber-clause-refused : goal.returns-in-Err-add_subscriber-clause-refused
returns-in-Err-add_subscriber-clause-refused c = λ known.
    let was = c.self.inside in
    let v = typed_saved_subscriber c.args.saved.now in
    let sum : c.in-Some-checked_add.hops ≡ was.hops + hops_of v =
    c.in-Some-checked_add.ensures.1 ∙ ap (λ n. was.hops + n) c.hops_of.ensures in
    let few : was.hops + hops_of v ≤ c.args.most = omega (arith, sum, c.if-hops-most.true) in
    refused_at c.args.most (record { config = was.config; clock = was.clock; stations = was.stations; profiles = was.provision.profiles })
    was.owners was.hops c.args.self v c.self.view_is c.in-Some.profile c.in-Some.ensures
    (none_told (add_fault c.in-Some.profile was.provision.profiles) _ c.in-Ok.field-0 refl c.in-Ok.ensures.refused)
    c.new-slot.result c.in-Err-add_subscriber.fault (c.new-slot.ensures ∙ c.len.ensures.value) few
    (c.in-Err-add_subscriber.ensures.refused known)
