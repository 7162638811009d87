-- The countdowns of all after a tick.
use Rattle.std.proofs.Common.{◌≡◌, ℕ, suc, ◌-◌, ◌^◌, ◌<◌, ◌≤◌, List, [], ◌∷◌, ◌++◌, length, refl, sym, ◌∙◌, ap, subst, arith}
use Rattle.std.specs.Prelude.{nat_le, map, Option, Some, None, Bool, true, false}
use Rattle.std.proofs.lemmas.Bool.Decides.{nat_tests}
use Rattle.identity_slots.specs.Ids.{slots}
use Rattle.emm_machine.specs.SubscriberView.{SubscriberView}
use Rattle.emm_machine.specs.Ticks.{AreAbove, IsAbove, both_less, countdowns, less}
use Rattle.emm_machine.specs.TickLaws.{countdowns_aged}
use Rattle.sorted_list.specs.Ordered.{AllOver, Every, Rising}
use Rattle.stranger_machine.specs.declared.table.Known.{Known}
use Rattle.stranger_machine.specs.declared.turn.Notice.TheVariants.{Tick}
use Rattle.stranger_machine.specs.Table.{known_id, noted}
use Rattle.timer_queue.specs.Countdowns.{Countdown, aged, countdown_rank}
use Rattle.mme_tables.specs.Changed.{changed_at}
use Rattle.mme_tables.specs.Joined.{aged_joined}
use Rattle.mme_tables.specs.Running.{both_left_by_tick, is_due, left_by_tick, running_from}
use Rattle.mme_tables.specs.SlotLaws.{aged_is, both_retimed_is, changed_length, over_from}
use Rattle.mme_tables.specs.WaitLaws.{are_waits_ticked, restarted_joined, waits_before, waits_ticked}
use Rattle.mme_tables.specs.Waiting.{AreWaits, due_ids, restarted, waits_of}
use Rattle.mme_owners.specs.SteppedView.{SteppedView}
use Rattle.mme_owners.specs.Changed.{cleared}
use Rattle.mme_owners.specs.SubscriberLaws.{due_below, due_no, with_solo_is}
use Rattle.mme_owners.specs.Matching.{AreOff, Match, cleared_all, match_changed}
use Rattle.mme_owners.specs.Subscribers.{all_countdowns, due_slots, in_state, one_less, slots_stepped, tick_settled, with_solo, with_stepped}
use Rattle.mme_owners.specs.Owners.{all_retimed, countdowns_of}
use Rattle.mme_owners.proofs.Owned.{countdowns_length, retimed_joined}

-- ---- those of subscribers

counted_less : (o : Option ℕ) → IsAbove 1 o → left_by_tick o ≡ less 1 o
counted_less None h = refl
counted_less (Some n) h = let t : nat_le n 1 ≡ false = grind (arith, nat_tests) in rw t refl

both_less_is : (p : Option ℕ × Option ℕ) → AreAbove 1 p → both_left_by_tick p ≡ both_less 1 p
both_less_is p h =
    ap (λ (o : Option ℕ). (o, left_by_tick p.1)) (counted_less p.0 h.0)
    ∙ ap (λ (o : Option ℕ). (less 1 p.0, o)) (counted_less p.1 h.1)

-- what the tick leaves of those of one, or they are still to be changed
abbrev IsTimed : Bool → Option ℕ × Option ℕ → SubscriberView → Type 0
IsTimed true p w = Unit {0}
IsTimed false p w = p ≡ countdowns w.solo

timed_of : (bs : List Bool) (ps : List (Option ℕ × Option ℕ)) (ws : List SubscriberView) → AreOff bs → Match IsTimed bs ps ws
    → ps ≡ all_countdowns ws
timed_of [] [] [] off m = refl
timed_of [] [] (w ∷ ws) off m = absurd m
timed_of [] (p ∷ ps) ws off m = absurd m
timed_of (b ∷ bs) [] ws off m = absurd m
timed_of (b ∷ bs) (p ∷ ps) [] off m = absurd m
timed_of (b ∷ bs) (p ∷ ps) (w ∷ ws) off m =
    let own : p ≡ countdowns w.solo = subst (λ f. IsTimed f p w) off.0 m.0 in
    ap (λ q. q ∷ ps) own ∙ ap (λ qs. countdowns w.solo ∷ qs) (timed_of bs ps ws off.1 m.1)

timed_later : (w : SubscriberView) (b : Bool) → is_due (countdowns w.solo) ≡ b
    → IsTimed b (both_left_by_tick (countdowns w.solo)) (one_less w)
timed_later w true e = tt
timed_later w false e = both_less_is (countdowns w.solo) (due_no (countdowns w.solo) e) ∙ sym (countdowns_aged 1 w.solo)

timed_all : (ws : List SubscriberView)
    → Match IsTimed (map is_due (all_countdowns ws)) (map both_left_by_tick (all_countdowns ws)) (map one_less ws)
timed_all [] = tt
timed_all (w ∷ ws) = (timed_later w (is_due (countdowns w.solo)) refl, timed_all ws)

abbrev replaced : List SteppedView → List (Option ℕ × Option ℕ) → List (Option ℕ × Option ℕ)
replaced [] ps = ps
replaced (x ∷ xs) ps = replaced xs (changed_at x.slot (λ _. countdowns x.solo) ps)

timed_along : (xs : List SteppedView) (bs : List Bool) (ps : List (Option ℕ × Option ℕ)) (ws : List SubscriberView)
    → Match IsTimed bs ps ws → Match IsTimed (cleared (slots_stepped xs) bs) (replaced xs ps) (with_stepped xs ws)
timed_along [] bs ps ws m = m
timed_along (x ∷ xs) bs ps ws m =
    let own = match_changed IsTimed x.slot (λ _. countdowns x.solo) (in_state x.solo) bs ps ws (λ b p w at h. refl) m in
    timed_along xs (changed_at x.slot (λ _. false) bs) (changed_at x.slot (λ _. countdowns x.solo) ps) (with_solo x.slot x.solo ws)
    (subst (Match IsTimed (changed_at x.slot (λ _. false) bs) (changed_at x.slot (λ _. countdowns x.solo) ps)) (sym (with_solo_is x.slot x.solo ws)) own)

queued_along : (n : ℕ) (xs : List SteppedView) (ps : List (Option ℕ × Option ℕ)) → Every (λ (x : SteppedView). x.slot < n) xs
    → length ps ≡ n → n ≤ 2 ^ 32 → all_retimed xs (running_from 0 ps) ≡ running_from 0 (replaced xs ps)
queued_along n [] ps h e small = refl
queued_along n (x ∷ xs) ps h e small =
    let lt : x.slot < n = h.0 in
    let longer = changed_length x.slot (λ _. countdowns x.solo) ps in
    ap (all_retimed xs) (both_retimed_is x.slot (countdowns x.solo) ps (omega arith) (omega arith))
    ∙ queued_along n xs (changed_at x.slot (λ _. countdowns x.solo) ps) h.1 (omega arith) small

counted_length : (ps : List (Option ℕ × Option ℕ)) → length (map both_left_by_tick ps) ≡ length ps
counted_length [] = refl
counted_length (p ∷ ps) = ap suc (counted_length ps)

every_slot : (P : ℕ → Type 0) (xs : List SteppedView) → Every P (slots_stepped xs) → Every (λ (x : SteppedView). P x.slot) xs
every_slot P [] h = tt
every_slot P (x ∷ xs) h = (h.0, every_slot P xs h.1)

below : (xs : List SteppedView) (ws : List SubscriberView) → slots_stepped xs ≡ due_slots ws
    → Every (λ (x : SteppedView). x.slot < length ws) xs
below xs ws due = every_slot (λ k. k < length ws) xs (subst (Every (λ k. k < length ws)) (sym due) (due_below ws))

slots_ticked : (xs : List SteppedView) (ws : List SubscriberView) → length ws ≤ slots → slots_stepped xs ≡ due_slots ws
    → all_retimed xs (running_from 0 (map both_left_by_tick (all_countdowns ws))) ≡ running_from 0 (all_countdowns (tick_settled xs ws))
slots_ticked xs ws few due =
    let ps = all_countdowns ws in
    let bs = map is_due ps in
    let many = countdowns_length ws in
    let most = counted_length ps in
    let off : AreOff (cleared (slots_stepped xs) bs) = subst (λ ks. AreOff (cleared ks bs)) (sym due) (cleared_all is_due ps) in
    let q = timed_along xs bs (map both_left_by_tick ps) (map one_less ws) (timed_all ws) in
    queued_along (length ws) xs (map both_left_by_tick ps) (below xs ws due) (omega arith) (omega arith)
    ∙ ap (running_from 0) (timed_of _ _ (tick_settled xs ws) off q)

-- ---- those of all

pub ticked : (xs : List SteppedView) (ks : List Known) (ws : List SubscriberView) (cs new : List Countdown) → Rising known_id ks
    → AreWaits ks → length ws ≤ slots → slots_stepped xs ≡ due_slots ws → cs ≡ countdowns_of ks ws
    → new ≡ all_retimed xs (restarted (due_ids ks) (noted Tick ks) (aged cs))
    → new ≡ countdowns_of (noted Tick ks) (tick_settled xs ws)
ticked xs ks ws cs new r h few due e g =
    let ps = all_countdowns ws in
    let qs = map both_left_by_tick ps in
    let ids = due_ids ks in
    let after = noted Tick ks in
    let left = are_waits_ticked ks h in
    let many = countdowns_length ws in
    let most = counted_length ps in
    let over : AllOver countdown_rank (2 ^ 41 - 1) (running_from 0 qs) = over_from (2 ^ 41 - 1) 0 qs (omega arith) (omega arith) in
    g ∙ ap (λ ds. all_retimed xs (restarted ids after (aged ds))) e
    ∙ ap (λ ds. all_retimed xs (restarted ids after ds)) (aged_joined (waits_of ks) (running_from 0 ps) ∙ ap (λ ds. aged (waits_of ks) ++ ds) (aged_is 0 ps))
    ∙ ap (all_retimed xs) (restarted_joined ids after (aged (waits_of ks)) (running_from 0 qs) left over ∙ ap (λ ds. ds ++ running_from 0 qs) (sym (waits_ticked ks r h)))
    ∙ retimed_joined (length ws) xs (waits_of after) (running_from 0 qs) (below xs ws due) few (waits_before after left)
    ∙ ap (λ ds. waits_of after ++ ds) (slots_ticked xs ws few due)
