use Rattle.std.proofs.Common.{◌≡◌, ◌<◌, Option, length, sym, ◌∙◌, ap, subst}
use Rattle.std.specs.Prelude.{slice_set}
use Rattle.mme_tables.specs.Whereabouts.{IsFree, NoneWaits}
use Rattle.emm_state.specs.declared.solo.Solo.{Solo}
use Rattle.mme_owners.specs.SteppedView.{SteppedView}
use Rattle.mme_owners.specs.Touched.{all_whereabouts, whereabouts, IsFreeFor}
use Rattle.mme_owners.specs.Owners.{with_one, IsFit, IsFitIf, IsFreeIf}
use Rattle.mme_owners.specs.Placed.{NoneWaitsIf}
use Rattle.mme_owners.proofs.Touching.{free_there, settled_there, there_length}
use Rattle.mme_owners.proofs.owners.settle_called.Goals as goal

pub place-requires-clause-within : goal.place-requires-clause-within
place-requires-clause-within c =
    let ws = c.args.records.now.subscribers in
    let cs = c.args.connections.now.whereabouts in
    let fit : IsFit ws c.in-Some.stepped = subst (IsFitIf ws) c.in-Some.is c.requires.fits in
    let many : length ws ≡ length cs = sym (ap length c.requires.many ∙ there_length ws) in
    subst (λ m. m < length cs) (sym c.slot.ensures) (subst (λ n. c.in-Some.stepped.slot < n) many fit.0)

pub place-requires-clause-free : goal.place-requires-clause-free
place-requires-clause-free c =
    let x = c.in-Some.stepped in
    let ws = c.args.records.now.subscribers in
    let cs = c.args.connections.now.whereabouts in
    let free : IsFreeFor ws x = subst (IsFreeIf ws) c.in-Some.is c.requires.free in
    subst (λ n. IsFree n c.solo.result.now.connection cs) (sym c.slot.ensures)
    (subst (λ (s : Solo). IsFree x.slot s.connection cs) (sym c.solo.ensures) (free_there ws cs x c.requires.many free))

pub place-requires-clause-alone : goal.place-requires-clause-alone
place-requires-clause-alone c =
    let es = c.args.connections.now.associations in
    let alone : NoneWaits c.in-Some.stepped.solo.connection es =
    subst (λ (o : Option SteppedView). NoneWaitsIf o es) c.in-Some.is c.requires.alone in
    subst (λ (s : Solo). NoneWaits s.connection es) (sym c.solo.ensures) alone

pub settle-requires-clause-slot : goal.settle-requires-clause-slot
settle-requires-clause-slot c =
    let ws = c.args.records.now.subscribers in
    let fit : IsFit ws c.in-Some.stepped = subst (IsFitIf ws) c.in-Some.is c.requires.fits in
    fit.0

pub settle-requires-clause-counting : goal.settle-requires-clause-counting
settle-requires-clause-counting c =
    let ws = c.args.records.now.subscribers in
    let fit : IsFit ws c.in-Some.stepped = subst (IsFitIf ws) c.in-Some.is c.requires.fits in
    fit.1

pub settle-requires-clause-onward : goal.settle-requires-clause-onward
settle-requires-clause-onward c =
    let ws = c.args.records.now.subscribers in
    let fit : IsFit ws c.in-Some.stepped = subst (IsFitIf ws) c.in-Some.is c.requires.fits in
    fit.2

pub returns-in-Some-clause-subscribers : goal.returns-in-Some-clause-subscribers
returns-in-Some-clause-subscribers c =
    c.settle.ensures.subscribers ∙ ap (λ (o : Option SteppedView). with_one o c.args.records.now.subscribers) (sym c.in-Some.is)

pub returns-in-Some-clause-phones : goal.returns-in-Some-clause-phones
returns-in-Some-clause-phones c =
    let x = c.in-Some.stepped in
    let ws = c.args.records.now.subscribers in
    let cs = c.args.connections.now.whereabouts in
    c.place.ensures.whereabouts ∙ ap (λ n. slice_set cs n (whereabouts c.solo.result.now)) c.slot.ensures
    ∙ ap (λ s. slice_set cs x.slot (whereabouts s)) c.solo.ensures
    ∙ ap (λ ds. slice_set ds x.slot (whereabouts x.solo)) c.requires.many
    ∙ sym (settled_there x.slot x.solo ws) ∙ ap all_whereabouts (sym c.settle.ensures.subscribers)
