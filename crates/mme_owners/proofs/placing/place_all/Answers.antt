use Rattle.std.proofs.Common.{◌≡◌, ◌<◌, ◌+◌, ◌∷◌, length, drop, sym, ◌∙◌, ap, subst, arith}
use Rattle.std.specs.Prelude.{slice_set}
use Rattle.std.proofs.lemmas.List.{drop_more, length-set}
use Rattle.mme_tables.specs.Whereabouts.{IsFree, NoneWaits}
use Rattle.emm_state.specs.declared.solo.Solo.{Solo}
use Rattle.sorted_list.specs.Ordered.{Every}
use Rattle.mme_owners.specs.SteppedView.{SteppedView}
use Rattle.mme_owners.specs.Touched.{whereabouts, with_whereabouts, KeepsConnection}
use Rattle.mme_owners.proofs.Touching.{AreKept, free_kept, kept_set}
use Rattle.mme_owners.proofs.placing.place_all.Goals as goal

pub place-requires-clause-free : goal.place-requires-clause-free
place-requires-clause-free c =
    let xs = c.args.stepped.now in
    let n = c.loop-one.one-index in
    let one = c.one-item.result in
    let inv = c.loop-one.invariant in
    let cut : drop n xs ≡ one ∷ drop (n + 1) xs =
    drop_more xs n one c.loop-one-test.true ∙ ap (λ (x : SteppedView). x ∷ drop (n + 1) xs) (sym c.one-item.is) in
    let keeps = subst (Every (KeepsConnection c.args.connections.now.whereabouts)) cut inv.places in
    subst (λ m. IsFree m c.solo.result.now.connection c.loop-one.connections.whereabouts) (sym c.slot.ensures)
    (subst (λ (s : Solo). IsFree one.slot s.connection c.loop-one.connections.whereabouts) (sym c.solo.ensures)
    (free_kept c.args.connections.now.whereabouts c.loop-one.connections.whereabouts one.slot one.solo.connection inv.apart.slots inv.kept keeps.0))

pub place-requires-clause-alone : goal.place-requires-clause-alone
place-requires-clause-alone c =
    let xs = c.args.stepped.now in
    let n = c.loop-one.one-index in
    let one = c.one-item.result in
    let inv = c.loop-one.invariant in
    let cut : drop n xs ≡ one ∷ drop (n + 1) xs =
    drop_more xs n one c.loop-one-test.true ∙ ap (λ (x : SteppedView). x ∷ drop (n + 1) xs) (sym c.one-item.is) in
    let keeps = subst (Every (KeepsConnection c.args.connections.now.whereabouts)) cut inv.places in
    subst (λ (s : Solo). NoneWaits s.connection c.loop-one.connections.associations) (sym c.solo.ensures)
    (λ k is. inv.strangers k.id ∙ inv.apart.strangers one.slot k (keeps.0 k is))

pub loop-one-preserved : goal.loop-one-preserved
loop-one-preserved c =
    let xs = c.args.stepped.now in
    let n = c.loop-one.one-index in
    let one = c.one-item.result in
    let rest = drop (n + 1) xs in
    let old = c.args.connections.now.whereabouts in
    let before = c.loop-one.connections.whereabouts in
    let inv = c.loop-one.invariant in
    let cut : drop n xs ≡ one ∷ rest =
    drop_more xs n one c.loop-one-test.true ∙ ap (λ (x : SteppedView). x ∷ rest) (sym c.one-item.is) in
    let below : Every (λ (x : SteppedView). x.slot < length before) (one ∷ rest) = subst (Every (λ (x : SteppedView). x.slot < length before)) cut inv.below in
    let keeps = subst (Every (KeepsConnection old)) cut inv.places in
    let placed = c.place.ensures.whereabouts ∙ ap (λ m. slice_set before m (whereabouts c.solo.result.now)) c.slot.ensures ∙ ap (λ s. slice_set before one.slot (whereabouts s)) c.solo.ensures in
    let longer : length c.place.new.connections.whereabouts ≡ length before =
    ap length placed ∙ length-set before one.slot (whereabouts one.solo) in
    let left : length (drop n xs) ≡ length rest + 1 = ap length cut ∙ omega arith in
    let room = c.place.ensures.room in
    record {
      below = subst (λ m. Every (λ (x : SteppedView). x.slot < m) rest) (sym longer) below.1;
      places = keeps.1;
      apart = inv.apart;
      strangers = λ id. c.place.ensures.strangers id ∙ inv.strangers id;
      kept = subst (AreKept old) (sym placed) (kept_set old before one.slot (whereabouts one.solo) below.0 inv.kept keeps.0);
      all = ap (with_whereabouts rest) placed ∙ ap (λ ys. with_whereabouts ys before) (sym cut) ∙ inv.all;
      room = let has = inv.room in omega (arith, room, left, has);
      spent = let has = inv.spent in omega (arith, room, left, has);
    }
