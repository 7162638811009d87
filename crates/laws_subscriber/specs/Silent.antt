-- What ends of a phone that is silent, and that nobody asks for, whatever happens to stations and to other phones.
use Rattle.std.specs.Prelude.{◌≡◌, ℕ, ◌+◌, ◌≤◌, Bool, true, false, List, [], ◌∷◌, None}
use Rattle.mme_types.specs.Events.{Item, Nothing, Initial, Claim, Message, Displaced, StationGone, ConnectionsGone, Tick, Data, Cancel}
use Rattle.emm_state.specs.declared.setting.Setting.{Setting}
use Rattle.emm_state.specs.declared.solo.Phase.TheVariants.{Deregistered, Registered}
use Rattle.emm_state.specs.declared.solo.Solo.{Solo}
use Rattle.emm_machine.specs.Steps.{solo_after}
use Rattle.laws_subscriber.specs.Clocked.{IsClocked}
use Rattle.laws_subscriber.specs.Ends.{IsSettled, longest_in, longest_registration}

-- no message of the phone, no data for it, and its subscription stays
abbrev pub is_silent : Item → Bool
is_silent Nothing = true
is_silent (Initial m) = false
is_silent (Claim id m) = false
is_silent (Message m) = false
is_silent (Displaced id) = true
is_silent (StationGone station) = true
is_silent (ConnectionsGone station items) = true
is_silent Tick = true
is_silent (Data stations) = false
is_silent Cancel = false

abbrev pub AreSilent : List Item → Type 0
AreSilent [] = Unit {0}
AreSilent (item ∷ items) = (is_silent item ≡ true) × AreSilent items

abbrev pub tick_count : Item → ℕ
tick_count Tick = 1
tick_count _ = 0

-- how many of a list are ticks
abbrev pub ticks_among : List Item → ℕ
ticks_among [] = 0
ticks_among (item ∷ items) = tick_count item + ticks_among items

-- a procedure is over within the phase's most ticks, whatever else is among them
abbrev pub SilentEnds : Type 0
SilentEnds =
    (s : Setting) (solo : Solo) (items : List Item) → IsClocked solo → AreSilent items → longest_in solo.phase ≤ ticks_among items
    → IsSettled (solo_after s solo items)

-- and in the end a phone is deregistered that wasn't registered and connected
abbrev pub SilentIsForgotten : Type 0
SilentIsForgotten =
    (s : Setting) (solo : Solo) (items : List Item) → IsClocked solo → AreSilent items → (solo.phase ≡ Registered
    → solo.connection ≡ None)
    → longest_registration ≤ ticks_among items → (solo_after s solo items).phase ≡ Deregistered
