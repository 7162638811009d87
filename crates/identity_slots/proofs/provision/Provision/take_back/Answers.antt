use Rattle.std.proofs.Common.{◌-◌, ◌∙◌, ap, arith, length, length-take}
use Rattle.identity_slots.specs.Provisioned.{imsi_key, address_key}
use Rattle.identity_slots.proofs.Places.{distinct_popped, index_popped, longer}
use Rattle.identity_slots.proofs.provision.Provision.take_back.Goals as goal

pub invariant_of-self-2 : goal.invariant_of-self-2
invariant_of-self-2 c =
    let p = c.in-Some.profile in
    let ps = c.self.inside.profiles.items in
    let qs = c.pop.new.self.items in
    let vs = c.self.inside.vectors in
    let popped = c.in-Some.ensures.items in
    let profiles = longer p qs ps popped in
    let vectors = ap length c.pop-2.ensures.rest ∙ length-take (vs.len - 1) vs.items in
    let same = c.self.invariant.vectors in
    let ok = vs.ok.0 in
    let few = c.self.invariant.few in
    record {
      few = omega (arith, profiles, few);
      vectors = omega (arith, profiles, vectors, same, ok);
      imsis = distinct_popped imsi_key p ps qs popped c.self.invariant.imsis;
      addresses = distinct_popped address_key p ps qs popped c.self.invariant.addresses;
      imsi_index = index_popped imsi_key c.imsi_number.result p ps qs c.self.inside.by_imsi c.remove.new.self c.imsi_number.ensures popped
          c.self.invariant.imsi_index c.self.invariant.imsis c.remove.ensures.updates.0;
      address_index = index_popped address_key c.address_number.result p ps qs c.self.inside.by_address c.remove-2.new.self c.address_number.ensures popped
          c.self.invariant.address_index c.self.invariant.addresses c.remove-2.ensures.updates.0;
    }
