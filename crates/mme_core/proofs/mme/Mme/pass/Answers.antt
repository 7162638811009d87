use Rattle.std.proofs.Common.{◌≡◌, [], Ok, sym, ◌∙◌, ap, subst, arith}
use Rattle.mme_core.specs.declared.event.Event.TheVariants.{Tick}
use Rattle.mme_core.specs.Quiet.{IsQuiet}
use Rattle.mme_core.specs.Sight.{Sight}
use Rattle.mme_core.specs.World.{World, reply, world_after, world_of}
use Rattle.mme_core.proofs.Quiet.{apart_once, kept_once, quiet_reply, quiet_world}
use Rattle.mme_core.proofs.mme.Mme.pass.Goals as goal

pub pass-requires-clause-clock : goal.pass-requires-clause-clock
pass-requires-clause-clock c =
    let before = (subst (λ (v : World). IsQuiet v Tick) (sym c.self.view_is) c.requires).before in
    let le = c.self.invariant.0 in
    omega arith

pub pass-requires-clause-nobody : goal.pass-requires-clause-nobody
pass-requires-clause-nobody c = (subst (λ (v : World). IsQuiet v Tick) (sym c.self.view_is) c.requires).nobody

pub pass_silently-requires : goal.pass_silently-requires
pass_silently-requires c = (subst (λ (v : World). IsQuiet v Tick) (sym c.self.view_is) c.requires).before

pub invariant_of-self : goal.invariant_of-self
invariant_of-self c =
    let s = c.self.inside.surroundings in
    let o = c.self.inside.owners in
    let t = c.pass_silently.new.self in
    let p = c.pass.new.owners in
    let quiet = subst (λ (v : World). IsQuiet v Tick) (sym c.self.view_is) c.requires in
    let after =
    quiet_world s t o p quiet.before c.pass_silently.ensures.moved c.pass.ensures.strangers c.pass.ensures.subscribers in
    let le = c.self.invariant.0 in
    let own = c.pass.ensures.clock in
    let next = ap (λ (x : Sight). x.clock) c.pass_silently.ensures.moved in (
      omega (arith, le, own, next),
      kept_once (world_of s o) (world_of t p) Tick c.worlds_are_kept.ensures.stays after c.self.invariant.1,
      apart_once (world_of s o) (world_of t p) Tick c.ids_are_apart.ensures.stays after c.self.invariant.2,
    )

pub returns-clause-silent : goal.returns-clause-silent
returns-clause-silent c =
    let quiet = subst (λ (v : World). IsQuiet v Tick) (sym c.self.view_is) c.requires in
    subst (λ (v : World). reply v Tick ≡ Ok []) c.self.view_is
    (quiet_reply c.self.inside.surroundings c.self.inside.owners quiet.before c.pass.ensures.silent)

pub returns-clause-after : goal.returns-clause-after
returns-clause-after c =
    let s = c.self.inside.surroundings in
    let o = c.self.inside.owners in
    let quiet = subst (λ (v : World). IsQuiet v Tick) (sym c.self.view_is) c.requires in
    quiet_world s c.pass_silently.new.self o c.pass.new.owners quiet.before c.pass_silently.ensures.moved c.pass.ensures.strangers c.pass.ensures.subscribers
    ∙ ap (λ (v : World). world_after v Tick) c.self.view_is
