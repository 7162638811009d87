-- What strangers and subscribers send at an event, as messages of its output.
use Rattle.std.specs.Prelude.{◌≡◌, ℕ, ◌+◌, List, [], ◌∷◌, ◌++◌, map, Some}
use Rattle.identity_slots.specs.declared.profile.Profile.{Profile}
use Rattle.mme_types.specs.declared.octets.Answer.{Answer}
use Rattle.mme_types.specs.Events.{Item}
use Rattle.emm_machine.specs.SubscriberView.{SubscriberView}
use Rattle.mme_owners.specs.Subscribers.{subscriber_step}
use Rattle.stranger_machine.specs.declared.table.Known.{Known}
use Rattle.stranger_machine.specs.declared.turn.Notice.{Notice}
use Rattle.stranger_machine.specs.Machine.{Input, Begins, Receives, notes, stranger_step}
use Rattle.stranger_machine.specs.Table.{stranger_at}
use Rattle.stranger_machine.specs.Turns.{Turn}
use Rattle.mme_routing.specs.Destinations.{Destination, if_called, item_at}
use Rattle.mme_routing.specs.Destinations as to
use Rattle.mme_answering.specs.declared.out.Out.{Out}
use Rattle.mme_answering.specs.declared.out.Owner.{Owner}
use Rattle.mme_answering.specs.declared.out.Owner.TheVariants.{Subscriber}
use Rattle.mme_answering.specs.declared.out.Owner.TheVariants as owners

abbrev pub owner_out : Owner → Answer → Out
owner_out owner a = record { owner = owner; station = a.station; octets = a.octets }

-- ---- the strangers

abbrev pub stranger_out : ℕ → Answer → Out
stranger_out id a = owner_out (owners.Stranger id) a

-- what each sends at a notice, by id
abbrev pub each_known : Notice → List Known → List Out
each_known notice [] = []
each_known notice (k ∷ ks) = map (stranger_out k.id) (notes k.id (Some k.stranger) notice).sent ++ each_known notice ks

-- and what one sends at an input
abbrev pub input_sent : List Profile → ℕ → Input → List Known → List Out
input_sent ps id input ks = map (stranger_out id) (stranger_step ps id (stranger_at id ks) input).sent

abbrev pub strangers_sent : List Profile → Destination → List Known → List Out
strangers_sent ps to.Nobody ks = []
strangers_sent ps (to.Subscriber n item) ks = []
strangers_sent ps (to.Beginner id m) ks = input_sent ps id (Begins m) ks
strangers_sent ps (to.Stranger m) ks = input_sent ps m.mme_ue_id (Receives m) ks
strangers_sent ps (to.Everyone notice) ks = each_known notice ks

-- ---- the subscribers

abbrev pub slot_out : ℕ → Answer → Out
slot_out slot a = owner_out (Subscriber slot) a

-- what each subscriber sends at its own item, by slot
abbrev pub each_sent : (ℕ → Item) → ℕ → List SubscriberView → List Out
each_sent items n [] = []
each_sent items n (w ∷ ws) = map (slot_out n) (subscriber_step w (items n)).sent ++ each_sent items (n + 1) ws

-- ---- both

-- what a stranger sends in a turn, and then the subscriber whom it calls
abbrev pub turn_sent : ℕ → Turn → List SubscriberView → List Out
turn_sent id t ws = map (stranger_out id) t.sent ++ each_sent (if_called t.call) 0 ws

-- what strangers send, and then subscribers
abbrev pub event_sent : List Profile → Destination → List Known → List SubscriberView → List Out
event_sent ps d ks ws = strangers_sent ps d ks ++ each_sent (item_at d ps (λ id. stranger_at id ks)) 0 ws

-- of messages that were to be sent the first ones were, after what was sent so far, and the others weren't
abbrev pub SendsSome : List Out → List Out → List Out → Type 0
SendsSome all before after = (sent : List Out) × (others : List Out) × (all ≡ sent ++ others) × (after ≡ before ++ sent)
