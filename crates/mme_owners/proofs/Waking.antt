-- Records and what is seen of them: a record that is woken, one that has a new state, and a tick that touches the due ones alone.
use Rattle.std.proofs.Common.{◌≡◌, ℕ, zero, suc, ◌+◌, ◌-◌, ◌<◌, ◌≤◌, List, [], ◌∷◌, ◌++◌, length, refl, sym, ◌∙◌, ap, subst, arith, Box, Global}
use Rattle.std.specs.Prelude.{slice_get, Option, Some, None, Bool, true, false, map, option_map}
use Rattle.std.proofs.lemmas.List.{length_push, map-append}
use Rattle.std.proofs.lemmas.Option.{slice_get-map, slice_get_past, slice_get_read}
use Rattle.std.specs.Prelude.{IfOk, Result, Ok, Err, get_or, set}
use Rattle.identity_slots.specs.Ids.{slots}
use Rattle.mme_types.specs.Events.{Item}
use Rattle.emm_state.specs.declared.setting.Setting.{Setting}
use Rattle.emm_state.specs.declared.solo.Solo.{Solo}
use Rattle.emm_machine.specs.SubscriberView.{SubscriberView}
use Rattle.emm_machine.specs.Words.{states_of}
use Rattle.emm_machine.specs.Ticks.{AreAbove, IsAbove, both_less, countdowns, less, solo_aged, ticks_after}
use Rattle.emm_machine.specs.TickLaws.{countdowns_aged, quiet_tick, ticks_are_aged, ticks_more}
use Rattle.sorted_list.specs.Ordered.{Every}
use Rattle.mme_tables.specs.Running.{AreInRange, IsInRange, is_due}
use Rattle.mme_tables.specs.SlotLaws.{changed_length}
use Rattle.mme_owners.specs.declared.record.Record.{Record}
use Rattle.mme_owners.specs.SteppedView.{SteppedView}
use Rattle.mme_owners.specs.Changed.{changed_at, cleared}
use Rattle.mme_owners.specs.SubscriberLaws.{due_below, due_no, with_solo_is}
use Rattle.mme_owners.specs.Matching.{AreOff, Match, cleared_all, match_changed, off_changed}
use Rattle.mme_owners.specs.Records.{AreFresh, IsFresh, IsSubscriberTable, renewed, view_at, views, with_records, woken}
use Rattle.mme_owners.specs.Subscribers.{AreCounting, IsCounting, all_countdowns, due_slots, in_state, one_less, slots_stepped, step_at, subscriber_step, tick_settled, with_solo, with_stepped}

-- ---- one record

none_passed : (s : Setting) (solo : Solo) → ticks_after s 0 solo ≡ solo
unfolding ticks_after
none_passed s solo = refl

-- a record that is touched now is seen as it is
pub seen_now : (c : ℕ) (w : SubscriberView) → view_at c (record { subscriber = w; touched = c }) ≡ w
seen_now c w =
    let none : c - c ≡ 0 = omega arith in
    ap (λ n. record { setting = w.setting; solo = ticks_after w.setting n w.solo }) none ∙ ap (λ (s : Solo). record { setting = w.setting; solo = s }) (none_passed w.setting w.solo)

in_range_above : (o : Option ℕ) → IsInRange o → IsAbove 0 o
in_range_above None h = tt
in_range_above (Some n) h = omega (arith, h.0)

above_zero : (p : Option ℕ × Option ℕ) → AreInRange p → AreAbove 0 p
above_zero p h = (in_range_above p.0 h.0, in_range_above p.1 h.1)

pub fresh_now : (c : ℕ) (w : SubscriberView) → IsCounting w.solo → IsFresh c (record { subscriber = w; touched = c })
fresh_now c w h =
    let none : 0 ≡ c - c = omega arith in
    record { past = omega arith; above = subst (λ n. AreAbove n (countdowns w.solo)) none (above_zero (countdowns w.solo) h) }

-- a record and what is seen of it
pub record IsSeen (c : ℕ) (r : Record) (w : SubscriberView) : Type 0 where
  pub fresh : IsFresh c r
  pub same : view_at c r ≡ w
  pub counting : IsCounting w.solo

-- or the record is still to be changed
abbrev pub IsKept : ℕ → Bool → Record → SubscriberView → Type 0
IsKept c true r w = r.subscriber.setting ≡ w.setting
IsKept c false r w = IsSeen c r w

own_setting : (c : ℕ) (b : Bool) (r : Record) (w : SubscriberView) → IsKept c b r w → r.subscriber.setting ≡ w.setting
own_setting c true r w h = h
own_setting c false r w h = ap (λ (v : SubscriberView). v.setting) h.same

renewed_is : (c : ℕ) (b : Bool) (solo : Solo) (r : Record) (w : SubscriberView) → IsCounting solo → IsKept c b r w
    → IsSeen c (renewed c solo r) (in_state solo w)
renewed_is c b solo r w k h = record {
  fresh = fresh_now c (in_state solo r.subscriber) k;
  same = seen_now c (in_state solo r.subscriber) ∙ ap (λ (s : Setting). record { setting = s; solo = solo }) (own_setting c b r w h);
  counting = k;
}

woken_is : (c : ℕ) (r : Record) (w : SubscriberView) → IsSeen c r w → IsSeen c (woken c r) w
woken_is c r w h =
    let k : IsCounting (view_at c r).solo = subst (λ (v : SubscriberView). IsCounting v.solo) (sym h.same) h.counting in
    record { fresh = fresh_now c (view_at c r) k; same = seen_now c (view_at c r) ∙ h.same; counting = h.counting }

-- ---- one tick of one record

less_in_range : (o : Option ℕ) → IsAbove 1 o → IsInRange o → IsInRange (less 1 o)
less_in_range None a h = tt
less_in_range (Some n) a h = (omega arith, omega (arith, h.1))

above_more : (n : ℕ) (o : Option ℕ) → IsAbove n o → IsAbove 1 (less n o) → IsAbove (n + 1) o
above_more n None h k = tt
above_more n (Some m) h k = omega arith

-- a countdown that is above the ticks slept, and isn't due, is above one more
above_next : (s : Setting) (n : ℕ) (solo : Solo) → AreAbove n (countdowns solo) → AreAbove 1 (countdowns (ticks_after s n solo))
    → AreAbove (n + 1) (countdowns solo)
above_next s n solo h k =
    let e = ap countdowns (ticks_are_aged s n solo h) ∙ countdowns_aged n solo in
    let l = subst (AreAbove 1) e k in
    (above_more n (countdowns solo).0 h.0 l.0, above_more n (countdowns solo).1 h.1 l.1)

-- who isn't due has one tick less
pub quiet_is : (c : ℕ) (r : Record) (w : SubscriberView) → IsSeen c r w → is_due (countdowns w.solo) ≡ false
    → IsSeen (c + 1) r (one_less w)
quiet_is c r w h e =
    let s = r.subscriber.setting in
    let n = c - r.touched in
    let solo = r.subscriber.solo in
    let le : r.touched ≤ c = h.fresh.past in
    let later : (c + 1) - r.touched ≡ n + 1 = omega arith in
    let own : ticks_after s n solo ≡ w.solo = ap (λ (v : SubscriberView). v.solo) h.same in
    let above : AreAbove 1 (countdowns w.solo) = due_no (countdowns w.solo) e in
    let here : AreAbove 1 (countdowns (ticks_after s n solo)) = subst (λ (x : Solo). AreAbove 1 (countdowns x)) (sym own) above in
    let next = above_next s n solo h.fresh.above here in
    let solo_next = ticks_more s n solo ∙ ap (λ d. d.solo) (quiet_tick s (ticks_after s n solo) here) ∙ ap (solo_aged 1) own in
    let r_range : AreInRange (both_less 1 (countdowns w.solo)) =
    (less_in_range (countdowns w.solo).0 above.0 h.counting.0, less_in_range (countdowns w.solo).1 above.1 h.counting.1) in
    record {
      fresh = record { past = omega (arith, le); above = subst (λ m. AreAbove m (countdowns solo)) (sym later) next };
      same =
          ap (λ m. record { setting = s; solo = ticks_after s m solo }) later
          ∙ ap (λ (x : Solo). record { setting = s; solo = x }) solo_next
          ∙ ap (λ (t : Setting). record { setting = t; solo = solo_aged 1 w.solo }) (ap (λ (v : SubscriberView). v.setting) h.same);
      counting = subst AreInRange (sym (countdowns_aged 1 w.solo)) r_range;
    }

-- ---- all records

seen_all : (c : ℕ) (rs : List Record) → AreFresh c rs → AreCounting (views c rs)
    → Match (IsKept c) (map (λ _. false) rs) rs (views c rs)
seen_all c [] f k = tt
seen_all c (r ∷ rs) f k = (record { fresh = f.0; same = refl; counting = k.0 }, seen_all c rs f.1 k.1)

off_all : {X : Type 0} (xs : List X) → AreOff (map (λ _. false) xs)
off_all [] = tt
off_all (x ∷ xs) = (refl, off_all xs)

seen_of : (c : ℕ) (b : Bool) (r : Record) (w : SubscriberView) → b ≡ false → IsKept c b r w → IsSeen c r w
seen_of c true r w e h = absurd (cc)
seen_of c false r w e h = h

fresh_of : (c : ℕ) (bs : List Bool) (rs : List Record) (ws : List SubscriberView) → AreOff bs → Match (IsKept c) bs rs ws
    → AreFresh c rs
fresh_of c [] [] [] off m = tt
fresh_of c [] [] (w ∷ ws) off m = absurd m
fresh_of c [] (r ∷ rs) ws off m = absurd m
fresh_of c (b ∷ bs) [] ws off m = absurd m
fresh_of c (b ∷ bs) (r ∷ rs) [] off m = absurd m
fresh_of c (b ∷ bs) (r ∷ rs) (w ∷ ws) off m = let s = seen_of c b r w off.0 m.0 in (s.fresh, fresh_of c bs rs ws off.1 m.1)

views_of : (c : ℕ) (bs : List Bool) (rs : List Record) (ws : List SubscriberView) → AreOff bs → Match (IsKept c) bs rs ws
    → views c rs ≡ ws
views_of c [] [] [] off m = refl
views_of c [] [] (w ∷ ws) off m = absurd m
views_of c [] (r ∷ rs) ws off m = absurd m
views_of c (b ∷ bs) [] ws off m = absurd m
views_of c (b ∷ bs) (r ∷ rs) [] off m = absurd m
views_of c (b ∷ bs) (r ∷ rs) (w ∷ ws) off m =
    let s = seen_of c b r w off.0 m.0 in
    ap (λ v. v ∷ views c rs) s.same ∙ ap (λ vs. w ∷ vs) (views_of c bs rs ws off.1 m.1)

counting_of : (c : ℕ) (bs : List Bool) (rs : List Record) (ws : List SubscriberView) → AreOff bs → Match (IsKept c) bs rs ws
    → AreCounting ws
counting_of c [] [] [] off m = tt
counting_of c [] [] (w ∷ ws) off m = absurd m
counting_of c [] (r ∷ rs) ws off m = absurd m
counting_of c (b ∷ bs) [] ws off m = absurd m
counting_of c (b ∷ bs) (r ∷ rs) [] off m = absurd m
counting_of c (b ∷ bs) (r ∷ rs) (w ∷ ws) off m = let s = seen_of c b r w off.0 m.0 in (s.counting, counting_of c bs rs ws off.1 m.1)

-- ---- one has a new state

-- a table after a change, and what is seen of it
pub record IsSubscriberTableOf (c : ℕ) (rs : List Record) (ws : List SubscriberView) : Type 0 where
  pub table : IsSubscriberTable c rs
  pub seen : views c rs ≡ ws

pub views_length : (c : ℕ) (rs : List Record) → length (views c rs) ≡ length rs
views_length c [] = refl
views_length c (r ∷ rs) = ap suc (views_length c rs)

pub settled : (c slot : ℕ) (solo : Solo) (rs new : List Record) → IsSubscriberTable c rs → IsCounting solo
    → new ≡ changed_at slot (renewed c solo) rs → IsSubscriberTableOf c new (with_solo slot solo (views c rs))
settled c slot solo rs new t k e =
    let ws = views c rs in
    let m =
    match_changed (IsKept c) slot (renewed c solo) (in_state solo) (map (λ _. false) rs) rs ws
    (λ b r w at h. renewed_is c b solo r w k h) (seen_all c rs t.fresh t.counting) in
    let off = off_changed slot (map (λ _. false) rs) (off_all rs) in
    let done = changed_at slot (renewed c solo) rs in
    let target = changed_at slot (in_state solo) ws in
    let seen : views c done ≡ target = views_of c _ done target off m in
    let few = t.few in
    let longer = changed_length slot (renewed c solo) rs in
    let table : IsSubscriberTable c done = record {
      few = omega arith;
      fresh = fresh_of c _ done target off m;
      counting = subst AreCounting (sym seen) (counting_of c _ done target off m);
    } in
    record { table = subst (IsSubscriberTable c) (sym e) table; seen = ap (views c) e ∙ seen ∙ sym (with_solo_is slot solo ws) }

-- ---- one is woken

woken_views : (c k : ℕ) (rs : List Record) → views c (changed_at k (woken c) rs) ≡ views c rs
woken_views c k [] = refl
woken_views c zero (r ∷ rs) = ap (λ w. w ∷ views c rs) (seen_now c (view_at c r))
woken_views c (suc k) (r ∷ rs) = ap (λ ws. view_at c r ∷ ws) (woken_views c k rs)

woken_fresh : (c k : ℕ) (rs : List Record) → AreFresh c rs → AreCounting (views c rs) → AreFresh c (changed_at k (woken c) rs)
woken_fresh c k [] f h = tt
woken_fresh c zero (r ∷ rs) f h = (fresh_now c (view_at c r) h.0, f.1)
woken_fresh c (suc k) (r ∷ rs) f h = (f.0, woken_fresh c k rs f.1 h.1)

pub awake : (c k : ℕ) (rs new : List Record) → IsSubscriberTable c rs → new ≡ changed_at k (woken c) rs
    → IsSubscriberTableOf c new (views c rs)
awake c k rs new t e =
    let seen = woken_views c k rs in
    let few = t.few in
    let longer = changed_length k (woken c) rs in
    let table : IsSubscriberTable c (changed_at k (woken c) rs) = record {
      few = omega arith;
      fresh = woken_fresh c k rs t.fresh t.counting;
      counting = subst AreCounting (sym seen) t.counting;
    } in
    record { table = subst (IsSubscriberTable c) (sym e) table; seen = ap (views c) e ∙ seen }

-- ---- one more

every_push : {X : Type 0} (P : X → Type 0) (xs : List X) (x : X) → Every P xs → P x → Every P (xs ++ x ∷ [])
every_push P [] x h p = (p, tt)
every_push P (y ∷ ys) x h p = (h.0, every_push P ys x h.1 p)

pub pushed : (c : ℕ) (w : SubscriberView) (rs new : List Record) → IsSubscriberTable c rs
    → length rs < slots → countdowns w.solo ≡ (None, None)
    → new ≡ rs ++ record { subscriber = w; touched = c } ∷ [] → IsSubscriberTableOf c new (views c rs ++ w ∷ [])
pushed c w rs new t lt off e =
    let r : Record = record { subscriber = w; touched = c } in
    let k : IsCounting w.solo = subst AreInRange (sym off) (tt, tt) in
    let seen : views c (rs ++ r ∷ []) ≡ views c rs ++ w ∷ [] =
    map-append (view_at c) rs (r ∷ []) ∙ ap (λ v. views c rs ++ v ∷ []) (seen_now c w) in
    let longer = length_push rs r in
    let table : IsSubscriberTable c (rs ++ r ∷ []) = record {
      few = omega arith;
      fresh = every_push (IsFresh c) rs r t.fresh (fresh_now c w k);
      counting = subst AreCounting (sym seen) (every_push (λ (v : SubscriberView). IsCounting v.solo) (views c rs) w t.counting k);
    } in
    record { table = subst (IsSubscriberTable c) (sym e) table; seen = ap (views c) e ∙ seen }

-- ---- a tick

setting_kept : (c : ℕ) (r : Record) (w : SubscriberView) (b : Bool) → is_due (countdowns w.solo) ≡ b → IsSeen c r w
    → IsKept (c + 1) b r (one_less w)
setting_kept c r w true e h = ap (λ (v : SubscriberView). v.setting) h.same
setting_kept c r w false e h = quiet_is c r w h e

quiet_all : (c : ℕ) (rs : List Record) → AreFresh c rs → AreCounting (views c rs)
    → Match (IsKept (c + 1)) (map is_due (all_countdowns (views c rs))) rs (map one_less (views c rs))
quiet_all c [] f k = tt
quiet_all c (r ∷ rs) f k =
    (setting_kept c r (view_at c r) (is_due (countdowns (view_at c r).solo)) refl (record { fresh = f.0; same = refl; counting = k.0 }), quiet_all c rs f.1 k.1)

-- those who were prepared are changed one by one
kept_along : (c : ℕ) (xs : List SteppedView) (bs : List Bool) (rs : List Record) (ws : List SubscriberView)
    → Every (λ (x : SteppedView). IsCounting x.solo) xs
    → Match (IsKept c) bs rs ws → Match (IsKept c) (cleared (slots_stepped xs) bs) (with_records c xs rs) (with_stepped xs ws)
kept_along c [] bs rs ws k m = m
kept_along c (x ∷ xs) bs rs ws k m =
    let own =
    match_changed (IsKept c) x.slot (renewed c x.solo) (in_state x.solo) bs rs ws
    (λ b r w at h. renewed_is c b x.solo r w k.0 h) m in
    kept_along c xs (changed_at x.slot (λ _. false) bs) (changed_at x.slot (renewed c x.solo) rs) (with_solo x.slot x.solo ws) k.1
    (subst (Match (IsKept c) (changed_at x.slot (λ _. false) bs) (changed_at x.slot (renewed c x.solo) rs)) (sym (with_solo_is x.slot x.solo ws)) own)

every_slot : (P : ℕ → Type 0) (xs : List SteppedView) → Every P (slots_stepped xs) → Every (λ (x : SteppedView). P x.slot) xs
every_slot P [] h = tt
every_slot P (x ∷ xs) h = (h.0, every_slot P xs h.1)

-- the slots that are due are those of subscribers
pub slots_below : (c : ℕ) (xs : List SteppedView) (rs : List Record) → slots_stepped xs ≡ due_slots (views c rs)
    → Every (λ (x : SteppedView). x.slot < length rs) xs
slots_below c xs rs e =
    every_slot (λ k. k < length rs) xs (subst (λ n. Every (λ k. k < n) (slots_stepped xs)) (views_length c rs) (subst (Every (λ k. k < length (views c rs))) (sym e) (due_below (views c rs))))

with_records_length : (c : ℕ) (xs : List SteppedView) (rs : List Record) → length (with_records c xs rs) ≡ length rs
with_records_length c [] rs = refl
with_records_length c (x ∷ xs) rs =
    with_records_length c xs (changed_at x.slot (renewed c x.solo) rs) ∙ changed_length x.slot (renewed c x.solo) rs

pub all_ticked : (c : ℕ) (xs : List SteppedView) (rs new : List Record)
    → IsSubscriberTable c rs → slots_stepped xs ≡ due_slots (views c rs) → Every (λ (x : SteppedView). IsCounting x.solo) xs
    → new ≡ with_records (c + 1) xs rs → IsSubscriberTableOf (c + 1) new (tick_settled xs (views c rs))
all_ticked c xs rs new t due k e =
    let ws = views c rs in
    let ps = all_countdowns ws in
    let bs = map is_due ps in
    let target = tick_settled xs ws in
    let done = with_records (c + 1) xs rs in
    let off : AreOff (cleared (slots_stepped xs) bs) = subst (λ ks. AreOff (cleared ks bs)) (sym due) (cleared_all is_due ps) in
    let m = kept_along (c + 1) xs bs rs (map one_less ws) k (quiet_all c rs t.fresh t.counting) in
    let seen : views (c + 1) done ≡ target = views_of (c + 1) _ done target off m in
    let few = t.few in
    let longer = with_records_length (c + 1) xs rs in
    let table : IsSubscriberTable (c + 1) done = record {
      few = omega arith;
      fresh = fresh_of (c + 1) _ done target off m;
      counting = subst AreCounting (sym seen) (counting_of (c + 1) _ done target off m);
    } in
    record { table = subst (IsSubscriberTable (c + 1)) (sym e) table; seen = ap (views (c + 1)) e ∙ seen }

-- ---- looks

-- a slot's record, and what is seen of it
pub view_slot : (c k : ℕ) (rs : List Record) (r : Record) → k < length rs → r ≡ get_or rs k r
    → slice_get (views c rs) k ≡ Some (view_at c r)
view_slot c k rs r lt e = slice_get-map (view_at c) rs k ∙ ap (option_map (view_at c)) (slice_get_read rs (length rs) k r refl lt e)

pub fresh_at : (c k : ℕ) (rs : List Record) (r : Record) → AreFresh c rs → slice_get rs k ≡ Some r → IsFresh c r
fresh_at c k [] r f e = absurd (cc)
fresh_at c zero (x ∷ rs) r f e = let same : x ≡ r = cc in subst (IsFresh c) same f.0
fresh_at c (suc k) (x ∷ rs) r f e = fresh_at c k rs r f.1 e

fresh_slot : (c k : ℕ) (rs : List Record) (r : Record) → AreFresh c rs → k < length rs → r ≡ get_or rs k r → IsFresh c r
fresh_slot c k rs r f lt e = fresh_at c k rs r f (slice_get_read rs (length rs) k r refl lt e)

seen_aged : (c : ℕ) (r : Record) → IsFresh c r → (view_at c r).solo ≡ solo_aged (c - r.touched) r.subscriber.solo
seen_aged c r f = ticks_are_aged r.subscriber.setting (c - r.touched) r.subscriber.solo f.above

states_aged : (n : ℕ) (solo : Solo) → states_of (solo_aged n solo) ≡ states_of solo
unfolding solo_aged
states_aged n solo = refl

pub states_seen : (c k : ℕ) (rs : List Record) (r : Record) → IsSubscriberTable c rs
    → k < length rs → r ≡ get_or rs k r
    → option_map (λ (w : SubscriberView). states_of w.solo) (slice_get (views c rs) k) ≡ Some (states_of r.subscriber.solo)
states_seen c k rs r t lt e =
    let f = fresh_slot c k rs r t.fresh lt e in
    ap (option_map (λ (w : SubscriberView). states_of w.solo)) (view_slot c k rs r lt e)
    ∙ ap (λ s. Some (states_of s)) (seen_aged c r f) ∙ ap Some (states_aged (c - r.touched) r.subscriber.solo)

pub lent_seen : (c k : ℕ) (rs : List Record) (r : Record) → IsSubscriberTable c rs → k < length rs → r ≡ get_or rs k r
    → slice_get (views c rs) k
    ≡ Some (record { setting = r.subscriber.setting; solo = solo_aged (c - r.touched) r.subscriber.solo })
lent_seen c k rs r t lt e =
    let f = fresh_slot c k rs r t.fresh lt e in
    view_slot c k rs r lt e ∙ ap (λ (s : Solo). Some (record { setting = r.subscriber.setting; solo = s })) (seen_aged c r f)

pub states_past : (c k : ℕ) (rs : List Record) → length rs ≤ k
    → option_map (λ (w : SubscriberView). states_of w.solo) (slice_get (views c rs) k) ≡ None
states_past c k rs le =
    let many = views_length c rs in
    ap (option_map (λ (w : SubscriberView). states_of w.solo)) (slice_get_past (views c rs) k (omega arith))

pub fresh_read : (c k : ℕ) (rs : List Record) (r : Record) → IsSubscriberTable c rs
    → k < length rs → r ≡ get_or rs k r → IsFresh c r
fresh_read c k rs r t lt e = fresh_slot c k rs r t.fresh lt e

-- the step of what is seen
pub step_seen : (c k : ℕ) (rs : List Record) (r : Record) (item : Item) → k < length rs → r ≡ get_or rs k r
    → step_at k item (views c rs) ≡ Some (subscriber_step (view_at c r) item)
step_seen c k rs r item lt e = ap (option_map (λ w. subscriber_step w item)) (view_slot c k rs r lt e)

pub boxed_some : {T E : Type 0} (res : Result (Box T Global) E) (x : T) (o : Option T) → IfOk res (λ b. b.value ≡ x) → o ≡ Some x
    → IfOk res (λ b. o ≡ Some b.value)
boxed_some (Ok b) x o h e = e ∙ ap Some (sym h)
boxed_some (Err f) x o h e = tt

-- a write of what is made of the record that was read
pub set_changed : {X : Type 0} (f : X → X) (xs : List X) (k : ℕ) (x z : X) → k < length xs → x ≡ get_or xs k x → z ≡ f x
    → set xs k z ≡ changed_at k f xs
set_changed f [] k x z lt e g = absurd (omega arith)
set_changed f (y ∷ ys) zero x z lt e g = ap (λ u. u ∷ ys) (g ∙ ap f e)
set_changed f (y ∷ ys) (suc k) x z lt e g = ap (λ us. y ∷ us) (set_changed f ys k x z (omega arith) e g)

-- one that was read is woken where it stands
pub woken_at : (c k : ℕ) (rs : List Record) (r new : Record) → IsSubscriberTable c rs → k < length (views c rs) → r ≡ get_or rs k r
    → new ≡ woken c r → IsSubscriberTableOf c (set rs k new) (views c rs)
woken_at c k rs r new t lt e g =
    let many = views_length c rs in
    awake c k rs (set rs k new) t (set_changed (woken c) rs k r new (omega arith) e g)
