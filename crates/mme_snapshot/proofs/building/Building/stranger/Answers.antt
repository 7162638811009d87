use Rattle.std.proofs.Common.{◌≡◌, [], ◌∙◌, ap}
use Rattle.mme_snapshot.specs.Restored.{Built}
use Rattle.snapshot_formats.specs.Heads.{typed_saved_stranger}
use Rattle.mme_snapshot.proofs.Strangers.{added_so, refused_so, still_building}
use Rattle.mme_snapshot.proofs.building.Building.stranger.Goals as goal

pub invariant_of-result : goal.invariant_of-result
invariant_of-result c =
    let was = c.self.inside in
    let none : was.owners.subscribers ≡ [] = ap (λ (b : Built). b.world.subscribers) c.self.view_is ∙ c.requires in
    still_building _ was.owners c.add_stranger.new.owners (typed_saved_stranger c.args.saved.now) was.shared c.self.invariant
    c.in-Ok.ensures.fits none c.in-Ok.ensures.clock c.in-Ok.ensures.strangers c.in-Ok.ensures.subscribers

pub returns-in-Ok-clause-ok : goal.returns-in-Ok-clause-ok
returns-in-Ok-clause-ok c =
    let was = c.self.inside in
    added_so _ was.owners c.add_stranger.new.owners (typed_saved_stranger c.args.saved.now) c.args.self was.hops c.self.view_is
    c.in-Ok.ensures.fits c.in-Ok.ensures.strangers c.in-Ok.ensures.subscribers

pub returns-in-Err-clause-refused : goal.returns-in-Err-clause-refused
returns-in-Err-clause-refused c = λ known.
    let was = c.self.inside in
    let why = c.in-Err.ensures.unfit known in
    refused_so _ was.owners c.add_stranger.new.owners (typed_saved_stranger c.args.saved.now) c.args.self was.hops c.in-Err.fault
    c.self.view_is why.0 why.1
