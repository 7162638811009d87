use Rattle.std.proofs.Common.{◌<◌, Option, sym, subst, ap, ◌∙◌}
use Rattle.mme_snapshot.specs.declared.part.Part.{Part}
use Rattle.mme_snapshot.specs.Saved.{AreProvisioned}
use Rattle.mme_snapshot.specs.Restored.{restored}
use Rattle.mme_snapshot.proofs.Progress.{SavedSoFar, all_saved, fewer_left, left_from, none_saved, one_saved}
use Rattle.mme_snapshot.proofs.saving.save_each.Goals as goal

pub loop-next-init : goal.loop-next-init
loop-next-init c = none_saved c.args.mme.now c.args.octets.now c.requires

pub loop-next-preserved : goal.loop-next-preserved
loop-next-preserved c =
    let w = c.args.mme.now in
    one_saved w c.loop-next.octets c.add_part.new.octets c.in_ok-saved.field-0.octets c.in-Some.part c.in_ok-saved.field-0.next
    (subst (λ (o : Option Part). SavedSoFar w c.loop-next.octets o) c.in-Some.is c.loop-next.invariant)
    c.in_ok-saved.ensures c.in_ok-add_part.ensures

pub loop-next-smaller : goal.loop-next-smaller
loop-next-smaller c =
    let w = c.args.mme.now in
    subst (λ (o : Option Part). left_from w c.in_ok-saved.field-0.next < left_from w o) (sym c.in-Some.is)
    (fewer_left w c.in-Some.part c.in_ok-saved.field-0.octets c.in_ok-saved.field-0.next c.in_ok-saved.ensures)

pub returns : goal.returns
returns c =
    let w = c.args.mme.now in
    let so_far = subst (λ (o : Option Part). SavedSoFar w c.loop-next.octets o) c.in_default.is c.loop-next.invariant in
    let done = all_saved w c.loop-next.octets so_far in
    let own : AreProvisioned c.parts.result.provision.now.profiles =
    record { imsis = c.len.ensures.imsis; addresses = c.len.ensures.addresses; few = c.len.ensures.few } in
    ap restored done.1
    ∙ c.parts_restore.ensures w done.0 c.parts.ensures.kept (subst AreProvisioned c.parts.ensures.profiles own) done.2
