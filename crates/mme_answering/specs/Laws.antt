-- What follows from the definitions: whom an item isn't for stays and sends nothing, and settling leaves as many subscribers.
use Rattle.std.proofs.Common.{◌≡◌, ◌≢◌, ℕ, suc, List, [], ◌∷◌, length, map, Option, Some, None, refl, ◌∙◌, ap, arith}
use Rattle.std.specs.Prelude.{slice_get, slice_set}
use Rattle.std.specs.Option.{option_map_or}
use Rattle.std.proofs.lemmas.Bool.Decides.{nat_tests}
use Rattle.std.proofs.lemmas.List.{length-set}
use Rattle.emm_state.specs.declared.setting.Setting.{Setting}
use Rattle.emm_state.specs.declared.solo.Solo.{Solo}
use Rattle.emm_state.specs.Actions.{untouched}
use Rattle.mme_types.specs.Events.{Item, Nothing}
use Rattle.emm_machine.specs.Steps.{row, solo_step}
use Rattle.emm_machine.specs.SubscriberView.{SubscriberView}
use Rattle.mme_owners.specs.SteppedView.{SteppedView}
use Rattle.mme_owners.specs.Subscribers.{one_less, subscriber_after, tick_settled}
use Rattle.mme_routing.specs.Destinations.{for_one}
use Rattle.mme_answering.specs.declared.prepared.Prepared.{Prepared}
use Rattle.mme_answering.specs.declared.prepared.Prepared.TheVariants as prepared
use Rattle.mme_answering.specs.Settled.{in_state, settled_subscribers, with_one, with_solo, with_stepped}

-- ---- nothing

-- nothing reaches a subscriber: it stays, and sends nothing
pub at_nothing : (s : Setting) (solo : Solo) → solo_step s solo Nothing ≡ untouched solo
unfolding solo_step row
at_nothing s solo = refl

pub stays : (w : SubscriberView) → subscriber_after w Nothing ≡ w
stays w = ap (λ d. record { setting = w.setting; solo = d.solo }) (at_nothing w.setting w.solo)

-- what is for one slot is for no other
pub item_other : (slot m : ℕ) (item : Item) → m ≢ slot → for_one slot item m ≡ Nothing
item_other slot m item ne = grind (arith, nat_tests)

-- ---- as many subscribers as before

solo_many_if : (n : ℕ) (s : Solo) (ws : List SubscriberView) (o : Option SubscriberView)
    → length (option_map_or (λ w. slice_set ws n (in_state s w)) o ws) ≡ length ws
solo_many_if n s ws None = refl
solo_many_if n s ws (Some w) = length-set ws n (in_state s w)

solo_many : (n : ℕ) (s : Solo) (ws : List SubscriberView) → length (with_solo n s ws) ≡ length ws
solo_many n s ws = solo_many_if n s ws (slice_get ws n)

stepped_many : (xs : List SteppedView) (ws : List SubscriberView) → length (with_stepped xs ws) ≡ length ws
stepped_many [] ws = refl
stepped_many (x ∷ xs) ws = stepped_many xs (with_solo x.slot x.solo ws) ∙ solo_many x.slot x.solo ws

less_many : (ws : List SubscriberView) → length (map one_less ws) ≡ length ws
less_many [] = refl
less_many (w ∷ ws) = ap suc (less_many ws)

ticked_many : (xs : List SteppedView) (ws : List SubscriberView) → length (tick_settled xs ws) ≡ length ws
ticked_many xs ws = stepped_many xs (map one_less ws) ∙ less_many ws

one_many : (x : Option SteppedView) (ws : List SubscriberView) → length (with_one x ws) ≡ length ws
one_many None ws = refl
one_many (Some x) ws = solo_many x.slot x.solo ws

pub settled_many : (p : Prepared) (ws : List SubscriberView) → length (settled_subscribers p ws) ≡ length ws
settled_many prepared.Nobody ws = refl
settled_many (prepared.Subscriber x) ws = solo_many x.slot x.solo ws
settled_many (prepared.Stranger id after x) ws = one_many x ws
settled_many (prepared.Everyone notice xs) ws = stepped_many xs.items ws
settled_many (prepared.Tick ids xs) ws = ticked_many xs.items ws
