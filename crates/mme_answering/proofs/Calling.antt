-- A call of one and of nobody.
use Rattle.std.proofs.Common.{◌≡◌, ◌≢◌, ℕ, suc, zero, ◌+◌, ◌≤◌, List, [], ◌∷◌, ◌++◌, length, set, map, true, Option, Some, None, refl, sym, ◌∙◌, ap, arith}
use Rattle.std.specs.Prelude.{slice_get, false}
use Rattle.std.specs.Option.{option_map_or}
use Rattle.std.proofs.lemmas.Bool.Decides.{nat_tests}
use Rattle.std.proofs.lemmas.List.{append-nil}
use Rattle.mme_types.specs.Events.{Item, Message, Nothing}
use Rattle.mme_answering.specs.Settled.{is_seen_still}
use Rattle.emm_state.specs.Actions.{untouched}
use Rattle.emm_machine.specs.Laws.{still_stays}
use Rattle.emm_machine.specs.Still.{still}
use Rattle.emm_machine.specs.SubscriberView.{SubscriberView}
use Rattle.mme_routing.specs.Destinations.{for_one}
use Rattle.mme_owners.specs.Subscribers.{each_after, subscriber_after, subscriber_step}
use Rattle.mme_answering.specs.Laws.{at_nothing, item_other, stays}
use Rattle.mme_answering.specs.Sending.{each_sent, slot_out}

silent : (n : ℕ) (w : SubscriberView) → map (slot_out n) (subscriber_step w Nothing).sent ≡ []
silent n w = ap (λ d. map (slot_out n) d.sent) (at_nothing w.setting w.solo)

-- where nothing is for the slots from n on, they stay and send nothing
pub after_nothing : (n : ℕ) (items : ℕ → Item) (ws : List SubscriberView) → ((m : ℕ) → n ≤ m → items m ≡ Nothing)
    → each_after items n ws ≡ ws
after_nothing n items [] h = refl
after_nothing n items (w ∷ ws) h =
    let here : items n ≡ Nothing = h n (omega arith) in
    ap (λ i. subscriber_after w i ∷ each_after items (n + 1) ws) here ∙ ap (λ x. x ∷ each_after items (n + 1) ws) (stays w)
    ∙ ap (λ xs. w ∷ xs) (after_nothing (n + 1) items ws (λ m le. h m (omega arith)))

pub sends_nothing : (n : ℕ) (items : ℕ → Item) (ws : List SubscriberView) → ((m : ℕ) → n ≤ m → items m ≡ Nothing)
    → each_sent items n ws ≡ []
sends_nothing n items [] h = refl
sends_nothing n items (w ∷ ws) h =
    let here : items n ≡ Nothing = h n (omega arith) in
    ap (λ i. map (slot_out n) (subscriber_step w i).sent ++ each_sent items (n + 1) ws) here
    ∙ ap (λ xs. xs ++ each_sent items (n + 1) ws) (silent n w)
    ∙ sends_nothing (n + 1) items ws (λ m le. h m (omega arith))

-- one slot alone is called
pub after_one : (n k : ℕ) (items : ℕ → Item) (ws : List SubscriberView) (w : SubscriberView) → slice_get ws k ≡ Some w
    → ((m : ℕ) → m ≢ n + k → items m ≡ Nothing) → each_after items n ws ≡ set ws k (subscriber_after w (items (n + k)))
after_one n k items [] w h only = cc
after_one n zero items (x ∷ ws) w h only =
    let here : x ≡ w = cc in
    let at : n ≡ n + 0 = omega arith in
    ap (λ y. subscriber_after y (items n) ∷ each_after items (n + 1) ws) here
    ∙ ap (λ m. subscriber_after w (items m) ∷ each_after items (n + 1) ws) at
    ∙ ap (λ xs. subscriber_after w (items (n + 0)) ∷ xs) (after_nothing (n + 1) items ws (λ m le. only m (λ same. omega arith)))
after_one n (suc k) items (x ∷ ws) w h only =
    let here : items n ≡ Nothing = only n (λ same. omega arith) in
    let at : (n + 1) + k ≡ n + suc k = omega arith in
    ap (λ i. subscriber_after x i ∷ each_after items (n + 1) ws) here ∙ ap (λ y. y ∷ each_after items (n + 1) ws) (stays x)
    ∙ ap (λ xs. x ∷ xs) (after_one (n + 1) k items ws w h (λ m ne. only m (λ same. ne (omega arith))) ∙ ap (λ m. set ws k (subscriber_after w (items m))) at)

pub sends_one : (n k : ℕ) (items : ℕ → Item) (ws : List SubscriberView) (w : SubscriberView) → slice_get ws k ≡ Some w
    → ((m : ℕ) → m ≢ n + k → items m ≡ Nothing)
    → each_sent items n ws ≡ map (slot_out (n + k)) (subscriber_step w (items (n + k))).sent
sends_one n k items [] w h only = cc
sends_one n zero items (x ∷ ws) w h only =
    let here : x ≡ w = cc in
    let at : n ≡ n + 0 = omega arith in
    ap (λ y. map (slot_out n) (subscriber_step y (items n)).sent ++ each_sent items (n + 1) ws) here
    ∙ ap (λ m. map (slot_out m) (subscriber_step w (items m)).sent ++ each_sent items (n + 1) ws) at
    ∙ ap (λ xs. map (slot_out (n + 0)) (subscriber_step w (items (n + 0))).sent ++ xs)
    (sends_nothing (n + 1) items ws (λ m le. only m (λ same. omega arith)))
    ∙ append-nil _
sends_one n (suc k) items (x ∷ ws) w h only =
    let here : items n ≡ Nothing = only n (λ same. omega arith) in
    let at : (n + 1) + k ≡ n + suc k = omega arith in
    ap (λ i. map (slot_out n) (subscriber_step x i).sent ++ each_sent items (n + 1) ws) here
    ∙ ap (λ xs. xs ++ each_sent items (n + 1) ws) (silent n x)
    ∙ sends_one (n + 1) k items ws w h (λ m ne. only m (λ same. ne (omega arith)))
    ∙ ap (λ m. map (slot_out m) (subscriber_step w (items m)).sent) at

pub item_itself : (slot : ℕ) (item : Item) → for_one slot item slot ≡ item
item_itself slot item = grind (arith, nat_tests)

-- one slot alone is called: that slot takes its step
pub after_call : (slot : ℕ) (item : Item) (ws : List SubscriberView) (w : SubscriberView) → slice_get ws slot ≡ Some w
    → set ws slot (subscriber_after w item) ≡ each_after (for_one slot item) 0 ws
after_call slot item ws w h =
    let items = for_one slot item in
    let at : 0 + slot ≡ slot = omega arith in
    sym (after_one 0 slot items ws w h (λ m ne. item_other slot m item (λ same. ne (omega arith)))
    ∙ ap (λ m. set ws slot (subscriber_after w (items m))) at
    ∙ ap (λ i. set ws slot (subscriber_after w i)) (item_itself slot item))

pub sends_call : (slot : ℕ) (item : Item) (ws : List SubscriberView) (w : SubscriberView) → slice_get ws slot ≡ Some w
    → map (slot_out slot) (subscriber_step w item).sent ≡ each_sent (for_one slot item) 0 ws
sends_call slot item ws w h =
    let items = for_one slot item in
    let at : 0 + slot ≡ slot = omega arith in
    sym (sends_one 0 slot items ws w h (λ m ne. item_other slot m item (λ same. ne (omega arith)))
    ∙ ap (λ m. map (slot_out m) (subscriber_step w (items m)).sent) at
    ∙ ap (λ i. map (slot_out slot) (subscriber_step w i).sent) (item_itself slot item))

-- a slot that nobody has
past_after : (slot n : ℕ) (items : ℕ → Item) (ws : List SubscriberView) → n + length ws ≤ slot
    → ((m : ℕ) → m ≢ slot → items m ≡ Nothing) → (each_after items n ws ≡ ws) × (each_sent items n ws ≡ [])
past_after slot n items [] le only = (refl, refl)
past_after slot n items (w ∷ ws) le only =
    let here : items n ≡ Nothing = only n (λ same. omega arith) in
    let rest = past_after slot (n + 1) items ws (omega arith) only in (
      ap (λ i. subscriber_after w i ∷ each_after items (n + 1) ws) here ∙ ap (λ x. x ∷ each_after items (n + 1) ws) (stays w)
          ∙ ap (λ xs. w ∷ xs) rest.0,
      ap (λ i. map (slot_out n) (subscriber_step w i).sent ++ each_sent items (n + 1) ws) here
          ∙ ap (λ xs. xs ++ each_sent items (n + 1) ws) (silent n w) ∙ rest.1,
    )

pub call_past : (slot : ℕ) (item : Item) (ws : List SubscriberView) → length ws ≤ slot
    → (each_after (for_one slot item) 0 ws ≡ ws) × (each_sent (for_one slot item) 0 ws ≡ [])
call_past slot item ws le = past_after slot 0 (for_one slot item) ws (omega arith) (λ m ne. item_other slot m item ne)

-- what is there is put there
set_own : (ws : List SubscriberView) (k : ℕ) (w : SubscriberView) → slice_get ws k ≡ Some w → set ws k w ≡ ws
set_own [] k w h = refl
set_own (x ∷ ws) zero w h =
    let here : x ≡ w = cc in ap (λ y. y ∷ ws) (sym here)
set_own (x ∷ ws) (suc k) w h = ap (λ vs. x ∷ vs) (set_own ws k w h)

-- what a look tells is so
seen_is_still : (item : Item) (w : SubscriberView) → is_seen_still item w ≡ true → still w.solo item ≡ true
seen_is_still (Message m) w h = h
seen_is_still _ w h = cc

-- a slot whose subscriber is as it was, and sends nothing
still_if : (slot : ℕ) (item : Item) (ws : List SubscriberView) (o : Option SubscriberView) → slice_get ws slot ≡ o
    → option_map_or (is_seen_still item) o false ≡ true
    → (each_after (for_one slot item) 0 ws ≡ ws) × (each_sent (for_one slot item) 0 ws ≡ [])
still_if slot item ws None at h = cc
still_if slot item ws (Some w) at h =
    let none : still w.solo item ≡ true = seen_is_still item w h in
    let stays : subscriber_step w item ≡ untouched w.solo = still_stays w.setting w.solo item none in (
      sym (after_call slot item ws w at) ∙ ap (λ d. set ws slot (record { setting = w.setting; solo = d.solo })) stays
          ∙ set_own ws slot w at,
      sym (sends_call slot item ws w at) ∙ ap (λ d. map (slot_out slot) d.sent) stays,
    )

pub call_still : (slot : ℕ) (item : Item) (ws : List SubscriberView)
    → option_map_or (is_seen_still item) (slice_get ws slot) false ≡ true
    → (each_after (for_one slot item) 0 ws ≡ ws) × (each_sent (for_one slot item) 0 ws ≡ [])
call_still slot item ws h = still_if slot item ws (slice_get ws slot) refl h
