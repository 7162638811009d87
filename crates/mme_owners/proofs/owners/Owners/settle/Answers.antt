use Rattle.std.proofs.Common.{Some, sym, ◌∙◌, ap, subst}
use Rattle.mme_owners.specs.Owners.{IsFit, OwnersView}
use Rattle.mme_owners.specs.Placed.{place_at, AreApart}
use Rattle.mme_owners.specs.Subscribers.{with_solo}
use Rattle.mme_owners.proofs.Apart.{alone_one, free_one}
use Rattle.mme_owners.proofs.owners.Owners.settle.Goals as goal

pub settle_called-requires-clause-fits : goal.settle_called-requires-clause-fits
settle_called-requires-clause-fits c =
    subst (λ (v : OwnersView). IsFit v.subscribers c.args.stepped) (sym c.self.view_is)
    (c.requires.slot, c.requires.counting, c.requires.onward)

pub settle_called-requires-clause-free : goal.settle_called-requires-clause-free
settle_called-requires-clause-free c =
    let x = c.args.stepped in
    let fit =
    subst (λ (v : OwnersView). IsFit v.subscribers x) (sym c.self.view_is) (c.requires.slot, c.requires.counting, c.requires.onward) in
    let apart = subst (λ (v : OwnersView). AreApart v.strangers (with_solo x.slot x.solo v.subscribers)) (sym c.self.view_is) c.requires.apart in
    free_one c.self.inside.records.strangers c.self.inside.records.subscribers (Some x) apart fit

pub settle_called-requires-clause-alone : goal.settle_called-requires-clause-alone
settle_called-requires-clause-alone c =
    let x = c.args.stepped in
    let fit =
    subst (λ (v : OwnersView). IsFit v.subscribers x) (sym c.self.view_is) (c.requires.slot, c.requires.counting, c.requires.onward) in
    let apart = subst (λ (v : OwnersView). AreApart v.strangers (with_solo x.slot x.solo v.subscribers)) (sym c.self.view_is) c.requires.apart in
    alone_one c.self.inside.records.strangers c.self.inside.records.subscribers c.self.inside.connections.associations (Some x)
    c.self.invariant.strangers apart fit

pub invariant_of-self : goal.invariant_of-self
invariant_of-self c = record {
  phones = c.settle_called.ensures.phones;
  strangers = λ id. c.settle_called.ensures.waits id ∙ c.self.invariant.strangers id ∙ ap (place_at id) (sym c.settle_called.ensures.strangers);
}
