-- Which vectors are spent, of a record as it was when it was last touched, and as it is now.
use Rattle.std.proofs.Common.{◌≡◌, ℕ, zero, suc, ◌-◌, ◌<◌, ◌≤◌, List, [], ◌∷◌, length, refl, sym, ◌∙◌, ap, subst}
use Rattle.std.specs.Prelude.{slice_get, Some, map, option_map, get_or}
use Rattle.std.proofs.lemmas.Option.{slice_get-map, slice_get_read}
use Rattle.emm_state.specs.declared.solo.Solo.{Solo}
use Rattle.emm_state.specs.Taking.{IsOnward, vectors_spent}
use Rattle.emm_machine.specs.SubscriberView.{SubscriberView}
use Rattle.emm_machine.specs.TickLaws.{spent_aged, ticks_are_aged}
use Rattle.mme_owners.specs.declared.record.Record.{Record}
use Rattle.mme_owners.specs.SteppedView.{SteppedView}
use Rattle.mme_owners.specs.Changed.{changed_at}
use Rattle.mme_owners.specs.SubscriberLaws.{with_solo_is}
use Rattle.mme_owners.specs.Records.{AreFresh, renewed, touched_views, views}
use Rattle.mme_owners.specs.Subscribers.{AreOnward, in_state, with_solo}

-- how many vectors of each are spent
abbrev all_spent : List SubscriberView → List ℕ
all_spent ws = map (λ (w : SubscriberView). vectors_spent w.solo) ws

-- ---- where as many are spent, the same is asked for

onward_at : (k : ℕ) (s : Solo) (ws vs : List SubscriberView) → all_spent ws ≡ all_spent vs
    → ((w : SubscriberView) → slice_get ws k ≡ Some w → IsOnward w.solo s) → (v : SubscriberView)
    → slice_get vs k ≡ Some v → IsOnward v.solo s
onward_at k s ws [] e h v at = absurd (cc)
onward_at k s [] (u ∷ vs) e h v at = absurd (cc)
onward_at zero s (w ∷ ws) (u ∷ vs) e h v at =
    let own : IsOnward w.solo s = h w refl in
    let spent : vectors_spent w.solo ≡ vectors_spent u.solo = cc in
    let same : u ≡ v = cc in
    subst (λ (x : SubscriberView). IsOnward x.solo s) same (subst (λ n. n ≤ vectors_spent s) spent own)
onward_at (suc k) s (w ∷ ws) (u ∷ vs) e h v at = onward_at k s ws vs (cc) h v at

spent_changed : (k : ℕ) (s : Solo) (ws : List SubscriberView)
    → all_spent (changed_at k (in_state s) ws) ≡ changed_at k (λ _. vectors_spent s) (all_spent ws)
spent_changed k s [] = refl
spent_changed zero s (w ∷ ws) = refl
spent_changed (suc k) s (w ∷ ws) = ap (λ ns. vectors_spent w.solo ∷ ns) (spent_changed k s ws)

spent_after : (k : ℕ) (s : Solo) (ws : List SubscriberView)
    → all_spent (with_solo k s ws) ≡ changed_at k (λ _. vectors_spent s) (all_spent ws)
spent_after k s ws = ap all_spent (with_solo_is k s ws) ∙ spent_changed k s ws

onward_same : (ws vs : List SubscriberView) (xs : List SteppedView) → all_spent ws ≡ all_spent vs → AreOnward ws xs → AreOnward vs xs
onward_same ws vs [] e h = tt
onward_same ws vs (x ∷ xs) e h =
    let next : all_spent (with_solo x.slot x.solo ws) ≡ all_spent (with_solo x.slot x.solo vs) =
    spent_after x.slot x.solo ws ∙ ap (changed_at x.slot (λ _. vectors_spent x.solo)) e ∙ sym (spent_after x.slot x.solo vs) in (
      onward_at x.slot x.solo ws vs e h.0,
      onward_same (with_solo x.slot x.solo ws) (with_solo x.slot x.solo vs) xs next h.1,
    )

-- ---- ticks that end no countdown spend none

views_spent : (c : ℕ) (rs : List Record) → AreFresh c rs → all_spent (views c rs) ≡ all_spent (touched_views rs)
views_spent c [] f = refl
views_spent c (r ∷ rs) f =
    let n = c - r.touched in
    let own = ap vectors_spent (ticks_are_aged r.subscriber.setting n r.subscriber.solo f.0.above) ∙ spent_aged n r.subscriber.solo in
    ap (λ m. m ∷ all_spent (views c rs)) own ∙ ap (λ ns. vectors_spent r.subscriber.solo ∷ ns) (views_spent c rs f.1)

pub onward_touched : (c : ℕ) (rs : List Record) (xs : List SteppedView) → AreFresh c rs → AreOnward (views c rs) xs
    → AreOnward (touched_views rs) xs
onward_touched c rs xs f h = onward_same (views c rs) (touched_views rs) xs (views_spent c rs f) h

-- ---- one record

-- a slot's record, as it was
pub touched_slot : (k : ℕ) (rs : List Record) (r : Record) → k < length rs → r ≡ get_or rs k r
    → slice_get (touched_views rs) k ≡ Some r.subscriber
touched_slot k rs r lt e =
    slice_get-map (λ (q : Record). q.subscriber) rs k
    ∙ ap (option_map (λ (q : Record). q.subscriber)) (slice_get_read rs (length rs) k r refl lt e)

touched_changed : (c k : ℕ) (s : Solo) (rs : List Record)
    → touched_views (changed_at k (renewed c s) rs) ≡ changed_at k (in_state s) (touched_views rs)
touched_changed c k s [] = refl
touched_changed c zero s (r ∷ rs) = refl
touched_changed c (suc k) s (r ∷ rs) = ap (λ ws. r.subscriber ∷ ws) (touched_changed c k s rs)

-- once it is in another state
pub touched_renewed : (c k : ℕ) (s : Solo) (rs : List Record)
    → touched_views (changed_at k (renewed c s) rs) ≡ with_solo k s (touched_views rs)
touched_renewed c k s rs = touched_changed c k s rs ∙ sym (with_solo_is k s (touched_views rs))
