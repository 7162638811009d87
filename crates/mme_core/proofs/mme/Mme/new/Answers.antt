use Rattle.std.proofs.Common.{arith, sym, subst}
use Rattle.mme_core.specs.Apart.{AreApart}
use Rattle.mme_core.specs.Kept.{IsKept}
use Rattle.mme_core.proofs.Fresh.{begun_world}
use Rattle.mme_core.proofs.mme.Mme.new.Goals as goal

pub invariant_of-result : goal.invariant_of-result
invariant_of-result c =
    let made = c.in-Ok.ensures in
    let begun = c.in-Ok.begun in
    let is = begun_world c.args.config c.args.provision begun.stations c.begin.new.provision.profiles begun.owners made.stations made.profiles made.strangers made.value in (
      omega (arith, made.clock),
      subst IsKept (sym is) (c.worlds_are_kept.ensures.begins c.args.config c.args.provision),
      subst AreApart (sym is) (c.ids_are_apart.ensures.begins _ _ _ made.few),
    )

pub returns-in-Ok : goal.returns-in-Ok
returns-in-Ok c =
    let made = c.in-Ok.ensures in
    let begun = c.in-Ok.begun in
    begun_world c.args.config c.args.provision begun.stations c.begin.new.provision.profiles begun.owners made.stations made.profiles made.strangers made.value
