use Rattle.std.proofs.Common.{List, Option, sym, ◌∙◌, ap, subst}
use Rattle.std.specs.Prelude.{◌==◌, if◌then◌else◌, IsSome, Some}
use Rattle.mme_tables.specs.Whereabouts.{waits_at}
use Rattle.emm_machine.specs.SubscriberView.{SubscriberView}
use Rattle.mme_types.specs.declared.connection.Connection.{Connection}
use Rattle.stranger_machine.specs.declared.table.Known.{Known}
use Rattle.stranger_machine.specs.declared.turn.After.{After}
use Rattle.stranger_machine.specs.Table.{stranger_at, with_stranger}
use Rattle.stranger_machine.specs.Turns.{after_of}
use Rattle.mme_owners.specs.Owners.{with_one, IsFitIf, OwnersView}
use Rattle.mme_owners.specs.Placed.{place_at, place_in_state, AreApart}
use Rattle.mme_owners.proofs.Apart.{alone_left, alone_one, free_one, place_again, unconnected, waits_left}
use Rattle.mme_owners.proofs.Unchanged.{with_there}
use Rattle.mme_owners.proofs.owners.Owners.settle_turn.Goals as goal

-- ---- the stranger stays as it was

pub settle_called-requires-clause-free : goal.settle_called-requires-clause-free
settle_called-requires-clause-free c =
    let id = c.args.id in
    let called = c.args.called in
    let ks = c.self.inside.records.strangers in
    let fits = subst (λ (v : OwnersView). IsFitIf v.subscribers called) (sym c.self.view_is) c.requires.fits in
    let apart =
    subst (λ (v : OwnersView). AreApart (with_stranger id (after_of c.args.after (stranger_at id v.strangers)) v.strangers) (with_one called v.subscribers)) (sym c.self.view_is) c.requires.apart in
    free_one (with_stranger id (after_of c.args.after (stranger_at id ks)) ks) c.self.inside.records.subscribers called apart fits

pub settle_called-requires-clause-alone : goal.settle_called-requires-clause-alone
settle_called-requires-clause-alone c =
    let id = c.args.id in
    let called = c.args.called in
    let ks = c.self.inside.records.strangers in
    let ws = c.self.inside.records.subscribers in
    let fits = subst (λ (v : OwnersView). IsFitIf v.subscribers called) (sym c.self.view_is) c.requires.fits in
    let apart =
    subst (λ (v : OwnersView). AreApart (with_stranger id (after_of c.args.after (stranger_at id v.strangers)) v.strangers) (with_one called v.subscribers)) (sym c.self.view_is) c.requires.apart in
    let same =
    ap (λ (a : After). with_stranger id (after_of a (stranger_at id ks)) ks) c.in-Stays.is ∙ with_there id ks c.ids_rise.ensures in
    alone_one ks ws c.self.inside.connections.associations called c.self.invariant.strangers
    (subst (λ (ls : List Known). AreApart ls (with_one called ws)) same apart) fits

pub returns-in-Stays-clause-strangers : goal.returns-in-Stays-clause-strangers
returns-in-Stays-clause-strangers c =
    let id = c.args.id in
    let ks = c.self.inside.records.strangers in
    let same =
    ap (λ (a : After). with_stranger id (after_of a (stranger_at id ks)) ks) c.in-Stays.is ∙ with_there id ks c.ids_rise.ensures in
    c.settle_called.ensures.strangers ∙ sym same
    ∙ ap (λ (v : OwnersView). with_stranger id (after_of c.args.after (stranger_at id v.strangers)) v.strangers) c.self.view_is

-- ---- it is closed

pub settle_called-requires-in-Closed-clause-free : goal.settle_called-requires-in-Closed-clause-free
settle_called-requires-in-Closed-clause-free c =
    let id = c.args.id in
    let called = c.args.called in
    let ks = c.self-in-Closed.inside.records.strangers in
    let ws = c.self-in-Closed.inside.records.subscribers in
    let left = ap (λ (v : OwnersView). v.strangers) c.self-in-Closed.view_is ∙ c.close.ensures.strangers in
    let same = ap (λ (v : OwnersView). v.subscribers) c.self-in-Closed.view_is ∙ c.close.ensures.subscribers in
    let fits = subst (λ (vs : List SubscriberView). IsFitIf vs called) (sym same) c.requires.fits in
    let after = ap (λ (a : After). with_stranger id (after_of a (stranger_at id c.args.self.now.strangers)) c.args.self.now.strangers) c.in-Closed.is in
    let apart =
    subst (λ (vs : List SubscriberView). AreApart ks (with_one called vs)) (sym same)
    (subst (λ (ls : List Known). AreApart ls (with_one called c.args.self.now.subscribers)) (after ∙ sym left) c.requires.apart) in
    free_one ks ws called apart fits

pub settle_called-requires-in-Closed-clause-alone : goal.settle_called-requires-in-Closed-clause-alone
settle_called-requires-in-Closed-clause-alone c =
    let id = c.args.id in
    let called = c.args.called in
    let ks = c.self-in-Closed.inside.records.strangers in
    let ws = c.self-in-Closed.inside.records.subscribers in
    let left = ap (λ (v : OwnersView). v.strangers) c.self-in-Closed.view_is ∙ c.close.ensures.strangers in
    let same = ap (λ (v : OwnersView). v.subscribers) c.self-in-Closed.view_is ∙ c.close.ensures.subscribers in
    let fits = subst (λ (vs : List SubscriberView). IsFitIf vs called) (sym same) c.requires.fits in
    let after = ap (λ (a : After). with_stranger id (after_of a (stranger_at id c.args.self.now.strangers)) c.args.self.now.strangers) c.in-Closed.is in
    let apart =
    subst (λ (vs : List SubscriberView). AreApart ks (with_one called vs)) (sym same)
    (subst (λ (ls : List Known). AreApart ls (with_one called c.args.self.now.subscribers)) (after ∙ sym left) c.requires.apart) in
    alone_one ks ws c.self-in-Closed.inside.connections.associations called c.self-in-Closed.invariant.strangers apart fits

-- ---- it is another

pub settle_called-requires-in-Is-clause-free : goal.settle_called-requires-in-Is-clause-free
settle_called-requires-in-Is-clause-free c =
    let id = c.args.id in
    let called = c.args.called in
    let ks = c.args.self.now.strangers in
    let same = c.in_ok-put-in-Is.ensures.subscribers ∙ ap (λ (v : OwnersView). v.subscribers) c.self.view_is in
    let fits = subst (λ (vs : List SubscriberView). IsFitIf vs called) (sym same) c.requires.fits in
    let apart =
    subst (λ (vs : List SubscriberView). AreApart (with_stranger id (after_of c.args.after (stranger_at id ks)) ks) (with_one called vs)) (sym same) c.requires.apart in
    free_one (with_stranger id (after_of c.args.after (stranger_at id ks)) ks) c.put.new.self.subscribers called apart fits

pub settle_called-requires-in-Is-clause-alone : goal.settle_called-requires-in-Is-clause-alone
settle_called-requires-in-Is-clause-alone c =
    let id = c.args.id in
    let called = c.args.called in
    let s = c.in-Is.stranger in
    let ks = c.self.inside.records.strangers in
    let ws = c.self.inside.records.subscribers in
    let fits = subst (λ (v : OwnersView). IsFitIf v.subscribers called) (sym c.self.view_is) c.requires.fits in
    let apart =
    subst (λ (a : After). AreApart (with_stranger id (after_of a (stranger_at id ks)) ks) (with_one called ws)) c.in-Is.is
    (subst (λ (v : OwnersView). AreApart (with_stranger id (after_of c.args.after (stranger_at id v.strangers)) v.strangers) (with_one called v.subscribers)) (sym c.self.view_is) c.requires.apart) in
    alone_left id (Some s) ks ws c.self.inside.connections.associations c.end_wait.new.self.associations called c.ids_rise.ensures
    c.self.invariant.strangers c.end_wait.ensures.strangers apart fits

pub begin_wait-requires-clause-free : goal.begin_wait-requires-clause-free
begin_wait-requires-clause-free c = λ some.
    let id = c.args.id in
    let called = c.args.called in
    let s = c.in-Is.stranger in
    let ks = c.self.inside.records.strangers in
    let ws = c.self.inside.records.subscribers in
    let after = c.settle_called-in-Is.new.records.subscribers in
    let same = c.settle_called-in-Is.ensures.subscribers ∙ ap (with_one called) c.in_ok-put-in-Is.ensures.subscribers in
    let apart =
    subst (λ (a : After). AreApart (with_stranger id (after_of a (stranger_at id ks)) ks) (with_one called ws)) c.in-Is.is
    (subst (λ (v : OwnersView). AreApart (with_stranger id (after_of c.args.after (stranger_at id v.strangers)) v.strangers) (with_one called v.subscribers)) (sym c.self.view_is) c.requires.apart) in
    unconnected id s ks after c.settle_called-in-Is.new.connections.whereabouts c.settle_called-in-Is.ensures.phones c.ids_rise.ensures
    (subst (λ (vs : List SubscriberView). AreApart (with_stranger id (Some s) ks) vs) (sym same) apart)
    (subst IsSome c.place_of-place.ensures some)

pub invariant_of-self-in-Is : goal.invariant_of-self-in-Is
invariant_of-self-in-Is c =
    let id = c.args.id in
    let s = c.in-Is.stranger in
    let ks = c.self.inside.records.strangers in
    let es = c.self.inside.connections.associations in
    let fs = c.begin_wait.new.connections.associations in
    record {
      phones = c.begin_wait.ensures.phones ∙ c.settle_called-in-Is.ensures.phones;
      strangers = λ other.
          let lost = c.settle_called-in-Is.ensures.waits other ∙ c.end_wait.ensures.strangers other in
          let has =
          c.begin_wait.ensures.waits other
          ∙ ap (λ (o : Option Connection). if id == other then o else waits_at other c.settle_called-in-Is.new.connections.associations) c.place_of-place.ensures in
          waits_left id other (Some s) ks es fs c.ids_rise.ensures (c.self.invariant.strangers other)
          (place_again (id == other) (place_in_state id s) (waits_at other es) (waits_at other c.settle_called-in-Is.new.connections.associations) (waits_at other fs) lost has)
          ∙ ap (place_at other) (sym c.in_ok-put-in-Is.ensures.ok ∙ sym c.settle_called-in-Is.ensures.strangers);
    }
