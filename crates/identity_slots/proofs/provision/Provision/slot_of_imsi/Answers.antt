use Rattle.std.proofs.Common.{ap, ◌∙◌}
use Rattle.std.specs.Prelude.{nat_eq}
use Rattle.std.specs.HashMap.{get}
use Rattle.identity_slots.specs.Provisioned.{Provisioned, slot_of_imsi}
use Rattle.identity_slots.proofs.Places.{imsi_slot}
use Rattle.identity_slots.proofs.provision.Provision.slot_of_imsi.Goals as goal

pub returns : goal.returns
returns c =
    c.copied.ensures ∙ c.get.ensures.value ∙ ap (get nat_eq c.self.inside.by_imsi) c.imsi_number.ensures
    ∙ imsi_slot c.args.imsi c.self.inside.by_imsi c.self.inside.profiles.items c.self.invariant.imsi_index
    ∙ ap (λ (v : Provisioned). slot_of_imsi c.args.imsi v.profiles) c.self.view_is
