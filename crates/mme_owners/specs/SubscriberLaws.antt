-- What follows of the definitions, for those who call: whom an item doesn't touch, and that what is prepared for the others is a
-- step of all.
use Rattle.std.proofs.Common.{◌≡◌, ℕ, zero, suc, ◌+◌, ◌<◌, ◌≤◌, List, [], ◌∷◌, ◌++◌, length, refl, sym, ◌∙◌, ap, subst, arith, append_assoc}
use Rattle.std.specs.Prelude.{◌||◌, not, slice_get, slice_set, Option, Some, None, Bool, true, false, cond, map, option_map}
use Rattle.std.specs.Option.{option_map_or}
use Rattle.std.proofs.lemmas.Bool.Decides.{nat_tests}
use Rattle.std.proofs.lemmas.List.{length_push}
use Rattle.mme_types.specs.Events.{Item, Tick}
use Rattle.emm_state.specs.Actions.{untouched}
use Rattle.emm_state.specs.declared.draft.Draft.{Draft}
use Rattle.emm_state.specs.declared.setting.Setting.{Setting}
use Rattle.emm_state.specs.declared.solo.Solo.{Solo}
use Rattle.emm_machine.specs.Laws.{still_stays}
use Rattle.emm_machine.specs.Still.{still}
use Rattle.emm_machine.specs.SubscriberView.{SubscriberView}
use Rattle.emm_machine.specs.Ticks.{AreAbove, AreTimed, IsAbove, IsTimed, countdowns, solo_aged}
use Rattle.emm_machine.specs.TickLaws.{quiet_tick}
use Rattle.sorted_list.specs.Ordered.{Every}
use Rattle.mme_tables.specs.Whereabouts.{slots_where}
use Rattle.mme_owners.specs.SteppedView.{SteppedView}
use Rattle.mme_owners.specs.Changed.{changed_at, cleared}
use Rattle.mme_owners.specs.Matching.{AreOff, Match, changed_by_none, cleared_all, match_changed}
use Rattle.mme_tables.specs.Running.{AreInRange, IsInRange, is_due, is_last}
use Rattle.mme_owners.specs.Subscribers.{AreOnward, IsOnwardAt, IsStepped, all_countdowns, due_slots, each_after, in_state, one_less, slots_stepped, subscriber_after, subscriber_step, tick_settled, with_solo, with_stepped}
use Rattle.mme_owners.specs.Touched.{touched_slots}

-- ---- countdowns that run in time

timed_one : (o : Option ℕ) → IsTimed o → IsInRange o
timed_one None h = tt
timed_one (Some left) h = let least = h.0 in (omega arith, h.1)

-- a machine's countdowns can be kept
pub timed_in_range : (p : Option ℕ × Option ℕ) → AreTimed p → AreInRange p
timed_in_range p h = (timed_one p.0 h.0, timed_one p.1 h.1)

-- ---- who isn't due

last_no : (o : Option ℕ) → is_last o ≡ false → IsAbove 1 o
last_no None h = tt
last_no (Some n) h = grind (arith, nat_tests)

or_no : (a b : Bool) → (a || b) ≡ false → (a ≡ false) × (b ≡ false)
or_no true b h = cc
or_no false b h = (refl, h)

-- a countdown that the next tick doesn't meet has more than one tick left
pub due_no : (p : Option ℕ × Option ℕ) → is_due p ≡ false → AreAbove 1 p
due_no p h = let q = or_no (is_last p.0) (is_last p.1) h in (last_no p.0 q.0, last_no p.1 q.1)

-- who isn't due sends and accepts nothing at a tick, and counts down
pub quiet_step : (w : SubscriberView) → is_due (countdowns w.solo) ≡ false → subscriber_step w Tick ≡ untouched (solo_aged 1 w.solo)
quiet_step w e = quiet_tick w.setting w.solo (due_no (countdowns w.solo) e)

pub quiet_after : (w : SubscriberView) → is_due (countdowns w.solo) ≡ false → subscriber_after w Tick ≡ one_less w
quiet_after w e = ap (λ (d : Draft). record { setting = w.setting; solo = d.solo }) (quiet_step w e)

pub quiet_sent : (w : SubscriberView) → is_due (countdowns w.solo) ≡ false → (subscriber_step w Tick).sent ≡ []
quiet_sent w e = ap (λ (d : Draft). d.sent) (quiet_step w e)

-- ---- whom an item leaves as they are

not_no : (b : Bool) → not b ≡ false → b ≡ true
not_no true h = refl
not_no false h = cc

still_after : (w : SubscriberView) (item : Item) → still w.solo item ≡ true → subscriber_after w item ≡ w
still_after w item h = ap (λ (d : Draft). record { setting = w.setting; solo = d.solo }) (still_stays w.setting w.solo item h)

-- ---- who is due, and who is touched

countdowns_length : (ws : List SubscriberView) → length (all_countdowns ws) ≡ length ws
countdowns_length [] = refl
countdowns_length (w ∷ ws) = ap suc (countdowns_length ws)

below_from : {X : Type 0} (p : X → Bool) (m n : ℕ) (xs : List X) → n + length xs ≤ m → Every (λ k. k < m) (slots_where p n xs)
below_from p m n [] le = tt
below_from p m n (x ∷ xs) le =
    let rest = below_from p m (n + 1) xs (omega arith) in
    elim (p x) as (λ b. Every (λ k. k < m) (cond b (n ∷ slots_where p (n + 1) xs) (slots_where p (n + 1) xs)))
    [ true ↦ (omega arith, rest) | false ↦ rest ]

-- each is a subscriber's slot
pub due_below : (ws : List SubscriberView) → Every (λ k. k < length ws) (due_slots ws)
due_below ws = let many = countdowns_length ws in below_from is_due (length ws) 0 (all_countdowns ws) (omega arith)

pub touched_below : (item : Item) (ws : List SubscriberView) → Every (λ k. k < length ws) (touched_slots item ws)
touched_below item ws = below_from (λ (w : SubscriberView). not (still w.solo item)) (length ws) 0 ws (omega arith)

few_from : {X : Type 0} (p : X → Bool) (n : ℕ) (xs : List X) → length (slots_where p n xs) ≤ length xs
few_from p n [] = omega arith
few_from p n (x ∷ xs) =
    let rest = few_from p (n + 1) xs in
    elim (p x) as (λ b. length (cond b (n ∷ slots_where p (n + 1) xs) (slots_where p (n + 1) xs)) ≤ length (x ∷ xs))
    [ true ↦ omega arith | false ↦ omega arith ]

-- and there are no more of them than subscribers
pub due_few : (ws : List SubscriberView) → length (due_slots ws) ≤ length ws
due_few ws = let many = countdowns_length ws in let few = few_from is_due 0 (all_countdowns ws) in omega arith

pub touched_few : (item : Item) (ws : List SubscriberView) → length (touched_slots item ws) ≤ length ws
touched_few item ws = few_from (λ (w : SubscriberView). not (still w.solo item)) 0 ws

-- ---- a new state is a change at a place

solo_set : (k : ℕ) (s : Solo) (w : SubscriberView) (ws : List SubscriberView) (o : Option SubscriberView)
    → option_map_or (λ v. slice_set (w ∷ ws) (suc k) (in_state s v)) o (w ∷ ws)
    ≡ w ∷ option_map_or (λ v. slice_set ws k (in_state s v)) o ws
solo_set k s w ws None = refl
solo_set k s w ws (Some v) = refl

pub with_solo_is : (k : ℕ) (s : Solo) (ws : List SubscriberView) → with_solo k s ws ≡ changed_at k (in_state s) ws
with_solo_is k s [] = refl
with_solo_is zero s (w ∷ ws) = refl
with_solo_is (suc k) s (w ∷ ws) = solo_set k s w ws (slice_get ws k) ∙ ap (λ vs. w ∷ vs) (with_solo_is k s ws)

-- ---- states that ask for no vector that was spent, where the slots rise

-- each is above the one before, and the first at least n
abbrev AreRisingFrom : ℕ → List ℕ → Type 0
AreRisingFrom n [] = Unit {0}
AreRisingFrom n (k ∷ ks) = (n ≤ k) × AreRisingFrom (k + 1) ks

rising_lower : (n : ℕ) (ks : List ℕ) → AreRisingFrom (n + 1) ks → AreRisingFrom n ks
rising_lower n [] h = tt
rising_lower n (k ∷ ks) h = let above = h.0 in (omega arith, h.1)

rising_where : {X : Type 0} (p : X → Bool) (n : ℕ) (xs : List X) → AreRisingFrom n (slots_where p n xs)
rising_where p n [] = tt
rising_where p n (x ∷ xs) =
    let rest = rising_where p (n + 1) xs in
    elim (p x) as (λ b. AreRisingFrom n (cond b (n ∷ slots_where p (n + 1) xs) (slots_where p (n + 1) xs)))
    [ true ↦ (omega arith, rest) | false ↦ rising_lower n (slots_where p (n + 1) xs) rest ]

changed_before : {X : Type 0} (n k : ℕ) (f : X → X) (xs : List X) → n < k → slice_get (changed_at n f xs) k ≡ slice_get xs k
changed_before n k f [] lt = refl
changed_before n zero f (x ∷ xs) lt = absurd (omega arith)
changed_before zero (suc k) f (x ∷ xs) lt = refl
changed_before (suc n) (suc k) f (x ∷ xs) lt = changed_before n k f xs (omega arith)

-- those from a slot on are still as they were
onward_from : (n : ℕ) (ws vs : List SubscriberView) (xs : List SteppedView) → ((k : ℕ) → n ≤ k → slice_get vs k ≡ slice_get ws k)
    → AreRisingFrom n (slots_stepped xs) → Every (IsOnwardAt ws) xs → AreOnward vs xs
onward_from n ws vs [] same rising each = tt
onward_from n ws vs (x ∷ xs) same rising each =
    let least : n ≤ x.slot = rising.0 in (
      λ w at. each.0 w (sym (same x.slot least) ∙ at),
      onward_from (x.slot + 1) ws (with_solo x.slot x.solo vs) xs
          (λ k above. ap (λ (us : List SubscriberView). slice_get us k) (with_solo_is x.slot x.solo vs)
          ∙ changed_before x.slot k (in_state x.solo) vs (omega arith) ∙ same k (omega arith)) rising.1 each.1,
    )

-- of those who are due
pub due_onward : (xs : List SteppedView) (ws : List SubscriberView) → slots_stepped xs ≡ due_slots ws → Every (IsOnwardAt ws) xs
    → AreOnward ws xs
due_onward xs ws due each =
    onward_from 0 ws ws xs (λ k least. refl) (subst (AreRisingFrom 0) (sym due) (rising_where is_due 0 (all_countdowns ws))) each

-- and of those whom an item touches
pub touched_onward : (item : Item) (xs : List SteppedView) (ws : List SubscriberView) → slots_stepped xs ≡ touched_slots item ws
    → Every (IsOnwardAt ws) xs → AreOnward ws xs
touched_onward item xs ws touched each =
    onward_from 0 ws ws xs (λ k least. refl)
    (subst (AreRisingFrom 0) (sym touched) (rising_where (λ (w : SubscriberView). not (still w.solo item)) 0 ws)) each

-- ---- a step of those whom an item touches is a step of all

-- the same, or still to be changed
abbrev IsDone : Bool → SubscriberView → SubscriberView → Type 0
IsDone true z t = z.setting ≡ t.setting
IsDone false z t = z ≡ t

abbrev all_after : Item → ℕ → List SubscriberView → List SubscriberView
all_after item n ws = each_after (λ _. item) n ws

due_by : (w : SubscriberView) (b : Bool) → is_due (countdowns w.solo) ≡ b → IsDone b (one_less w) (subscriber_after w Tick)
due_by w true e = refl
due_by w false e = sym (quiet_after w e)

done_quiet : (n : ℕ) (ws : List SubscriberView)
    → Match IsDone (map is_due (all_countdowns ws)) (map one_less ws) (all_after Tick n ws)
done_quiet n [] = tt
done_quiet n (w ∷ ws) = (due_by w (is_due (countdowns w.solo)) refl, done_quiet (n + 1) ws)

touched_by : (item : Item) (w : SubscriberView) (b : Bool) → not (still w.solo item) ≡ b → IsDone b w (subscriber_after w item)
touched_by item w true e = refl
touched_by item w false e = sym (still_after w item (not_no (still w.solo item) e))

done_still : (item : Item) (n : ℕ) (ws : List SubscriberView)
    → Match IsDone (map (λ (w : SubscriberView). not (still w.solo item)) ws) ws (all_after item n ws)
done_still item n [] = tt
done_still item n (w ∷ ws) = (touched_by item w (not (still w.solo item)) refl, done_still item (n + 1) ws)

after_at : (item : Item) (n k : ℕ) (ws : List SubscriberView)
    → slice_get (all_after item n ws) k ≡ option_map (λ w. subscriber_after w item) (slice_get ws k)
after_at item n k [] = refl
after_at item n zero (w ∷ ws) = refl
after_at item n (suc k) (w ∷ ws) = after_at item (n + 1) k ws

same_state : (item : Item) (s : Solo) (t : SubscriberView) (o : Option SubscriberView)
    → option_map (λ (d : Draft). d.solo) (option_map (λ w. subscriber_step w item) o) ≡ Some s
    → option_map (λ w. subscriber_after w item) o ≡ Some t → s ≡ t.solo
same_state item s t None h g = absurd (cc)
same_state item s t (Some w) h g =
    let a : (subscriber_step w item).solo ≡ s = cc in
    let b : subscriber_after w item ≡ t = cc in
    sym a ∙ ap (λ (v : SubscriberView). v.solo) b

own_setting : (b : Bool) (z t : SubscriberView) → IsDone b z t → z.setting ≡ t.setting
own_setting true z t h = h
own_setting false z t h = ap (λ (v : SubscriberView). v.setting) h

done_along : (item : Item) (ws : List SubscriberView) (xs : List SteppedView) (bs : List Bool) (zs : List SubscriberView)
    → Every (IsStepped item ws) xs
    → Match IsDone bs zs (all_after item 0 ws)
    → Match IsDone (cleared (slots_stepped xs) bs) (with_stepped xs zs) (all_after item 0 ws)
done_along item ws [] bs zs h m = m
done_along item ws (x ∷ xs) bs zs h m =
    let own = match_changed IsDone x.slot (in_state x.solo) (λ t. t) bs zs (all_after item 0 ws)
    (λ b z t at k. ap (λ (s : Setting). record { setting = s; solo = x.solo }) (own_setting b z t k)
    ∙ ap (λ (s : Solo). record { setting = t.setting; solo = s })
    (same_state item x.solo t (slice_get ws x.slot) h.0 (sym (after_at item 0 x.slot ws) ∙ at))) m in
    let same =
    subst (λ ts. Match IsDone (changed_at x.slot (λ _. false) bs) (changed_at x.slot (in_state x.solo) zs) ts)
    (changed_by_none x.slot (all_after item 0 ws)) own in
    done_along item ws xs (changed_at x.slot (λ _. false) bs) (with_solo x.slot x.solo zs) h.1
    (subst (λ vs. Match IsDone (changed_at x.slot (λ _. false) bs) vs (all_after item 0 ws))
    (sym (with_solo_is x.slot x.solo zs)) same)

done_all : (bs : List Bool) (zs ts : List SubscriberView) → AreOff bs → Match IsDone bs zs ts → zs ≡ ts
done_all [] [] [] off m = refl
done_all [] [] (t ∷ ts) off m = absurd m
done_all [] (z ∷ zs) ts off m = absurd m
done_all (b ∷ bs) [] ts off m = absurd m
done_all (b ∷ bs) (z ∷ zs) [] off m = absurd m
done_all (b ∷ bs) (z ∷ zs) (t ∷ ts) off m =
    let own : z ≡ t = subst (λ f. IsDone f z t) off.0 m.0 in
    ap (λ v. v ∷ zs) own ∙ ap (λ vs. t ∷ vs) (done_all bs zs ts off.1 m.1)

-- where those who are due were prepared for the tick, each is as after it
pub tick_is_of_all : (xs : List SteppedView) (ws : List SubscriberView) → slots_stepped xs ≡ due_slots ws
    → Every (IsStepped Tick ws) xs → tick_settled xs ws ≡ each_after (λ _. Tick) 0 ws
tick_is_of_all xs ws due h =
    let bs = map is_due (all_countdowns ws) in
    let off : AreOff (cleared (slots_stepped xs) bs) =
    subst (λ ks. AreOff (cleared ks bs)) (sym due) (cleared_all is_due (all_countdowns ws)) in
    done_all (cleared (slots_stepped xs) bs) (tick_settled xs ws) (all_after Tick 0 ws) off
    (done_along Tick ws xs bs (map one_less ws) h (done_quiet 0 ws))

-- where those whom an item touches were prepared for it, each is as after it
pub touched_is_of_all : (item : Item) (xs : List SteppedView) (ws : List SubscriberView) → slots_stepped xs ≡ touched_slots item ws
    → Every (IsStepped item ws) xs → with_stepped xs ws ≡ each_after (λ _. item) 0 ws
touched_is_of_all item xs ws touched h =
    let bs = map (λ (w : SubscriberView). not (still w.solo item)) ws in
    let off : AreOff (cleared (slots_stepped xs) bs) =
    subst (λ ks. AreOff (cleared ks bs)) (sym touched) (cleared_all (λ (w : SubscriberView). not (still w.solo item)) ws) in
    done_all (cleared (slots_stepped xs) bs) (with_stepped xs ws) (all_after item 0 ws) off
    (done_along item ws xs bs ws h (done_still item 0 ws))

-- ---- what all give is what those give whom an item touches

-- what each gives, from slot n on
abbrev pub each_gives : {X : Type 0} → (ℕ → SubscriberView → List X) → ℕ → List SubscriberView → List X
each_gives g n [] = []
each_gives g n (w ∷ ws) = g n w ++ each_gives g (n + 1) ws

-- and what those of some slots give
abbrev pub some_give : {X : Type 0} → (ℕ → SubscriberView → List X) → List ℕ → List SubscriberView → List X
some_give g [] ws = []
some_give g (k ∷ ks) ws = option_map_or (g k) (slice_get ws k) [] ++ some_give g ks ws

get_here : (n : ℕ) (old ws : List SubscriberView) (w : SubscriberView) → length old ≡ n → slice_get (old ++ w ∷ ws) n ≡ Some w
get_here zero [] ws w e = refl
get_here zero (v ∷ old) ws w e = absurd (omega arith)
get_here (suc n) [] ws w e = absurd (omega arith)
get_here (suc n) (v ∷ old) ws w e = get_here n old ws w (omega arith)

give_by : {X : Type 0} (g : ℕ → SubscriberView → List X) (n : ℕ) (old ws : List SubscriberView) (w : SubscriberView) (b : Bool)
    (ks : List ℕ) → length old ≡ n
    → (b ≡ false → g n w ≡ []) → some_give g ks (old ++ w ∷ ws) ≡ each_gives g (n + 1) ws
    → some_give g (cond b (n ∷ ks) ks) (old ++ w ∷ ws) ≡ g n w ++ each_gives g (n + 1) ws
give_by g n old ws w true ks len quiet rest =
    ap (λ o. option_map_or (g n) o [] ++ some_give g ks (old ++ w ∷ ws)) (get_here n old ws w len) ∙ ap (λ xs. g n w ++ xs) rest
give_by g n old ws w false ks len quiet rest = rest ∙ ap (λ xs. xs ++ each_gives g (n + 1) ws) (sym (quiet refl))

give_from : {X : Type 0} (g : ℕ → SubscriberView → List X) (p : SubscriberView → Bool) (n : ℕ) (old ws : List SubscriberView)
    → ((m : ℕ) (w : SubscriberView) → p w ≡ false → g m w ≡ [])
    → length old ≡ n → some_give g (slots_where p n ws) (old ++ ws) ≡ each_gives g n ws
give_from g p n old [] quiet e = refl
give_from g p n old (w ∷ ws) quiet e =
    let next : length (old ++ w ∷ []) ≡ n + 1 = length_push old w ∙ ap (λ m. m + 1) e in
    let rest = ap (λ vs. some_give g (slots_where p (n + 1) ws) vs) (sym (append_assoc old (w ∷ []) ws))
    ∙ give_from g p (n + 1) (old ++ w ∷ []) ws quiet next in
    give_by g n old ws w (p w) (slots_where p (n + 1) ws) e (quiet n w) rest

pub where_map : {X Y : Type 0} (p : Y → Bool) (f : X → Y) (n : ℕ) (xs : List X)
    → slots_where p n (map f xs) ≡ slots_where (λ x. p (f x)) n xs
where_map p f n [] = refl
where_map p f n (x ∷ xs) = ap (λ ks. cond (p (f x)) (n ∷ ks) ks) (where_map p f (n + 1) xs)

-- where those who aren't due give nothing
pub all_give_as_due : {X : Type 0} (g : ℕ → SubscriberView → List X) (ws : List SubscriberView)
    → ((m : ℕ) (w : SubscriberView) → is_due (countdowns w.solo) ≡ false → g m w ≡ [])
    → some_give g (due_slots ws) ws ≡ each_gives g 0 ws
all_give_as_due g ws quiet =
    ap (λ ks. some_give g ks ws) (where_map is_due (λ (w : SubscriberView). countdowns w.solo) 0 ws)
    ∙ give_from g (λ (w : SubscriberView). is_due (countdowns w.solo)) 0 [] ws quiet refl

-- where those whom an item leaves as they are give nothing
pub all_give_as_touched : {X : Type 0} (item : Item) (g : ℕ → SubscriberView → List X) (ws : List SubscriberView)
    → ((m : ℕ) (w : SubscriberView) → still w.solo item ≡ true → g m w ≡ [])
    → some_give g (touched_slots item ws) ws ≡ each_gives g 0 ws
all_give_as_touched item g ws quiet =
    give_from g (λ (w : SubscriberView). not (still w.solo item)) 0 [] ws (λ m w h. quiet m w (not_no (still w.solo item) h)) refl
