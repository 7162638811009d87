-- The names in an MME's output can be told apart: slots are few.
use Rattle.std.proofs.Common.{◌≡◌, ℕ, ◌+◌, ◌^◌, ◌<◌, ◌≤◌, List, [], ◌∷◌, length, map, Option, Some, None, refl, arith}
use Rattle.identity_slots.specs.Ids.{slots}
use Rattle.identity_slots.specs.declared.profile.Profile.{Profile}
use Rattle.mme_types.specs.declared.octets.Answer.{Answer}
use Rattle.mme_types.specs.Events.{Item}
use Rattle.emm_machine.specs.SubscriberView.{SubscriberView}
use Rattle.stranger_machine.specs.declared.table.Known.{Known}
use Rattle.stranger_machine.specs.declared.turn.Notice.{Notice}
use Rattle.stranger_machine.specs.Machine.{Begins, Receives, notes, stranger_step}
use Rattle.stranger_machine.specs.Table.{stranger_at}
use Rattle.mme_owners.specs.Subscribers.{each_after, subscriber_step}
use Rattle.mme_routing.specs.Destinations.{Destination}
use Rattle.mme_routing.specs.Destinations as to
use Rattle.mme_answering.specs.declared.out.Owner.{Owner}
use Rattle.mme_answering.specs.declared.out.Owner.TheVariants.{Station, Stranger, Subscriber}
use Rattle.mme_answering.specs.Sending.{each_known, each_sent, owner_out, slot_out, stranger_out, strangers_sent}
use Rattle.mme_core.specs.declared.event.Event.{Event}
use Rattle.mme_core.specs.declared.event.StepFault.{StepFault}
use Rattle.mme_core.specs.World.{World, event_fault, happens, items_of, outputs, replies, reply, reply_of, station_of, station_sent, strangers_in, unless, world_after, world_moved}
use Rattle.laws_simulation.proofs.MessageLines.{AllAgree, ReplyAgrees, all_agree}
use Rattle.laws_simulation.proofs.Names.{Agree, agree_slot_station, agree_slot_stranger, agree_slots}
use Rattle.laws_simulation.proofs.Played.{EachAgrees}

-- ---- one output

pub mapped_agree : (o p : Owner) (answers : List Answer) → Agree o p → AllAgree o (map (owner_out p) answers)
mapped_agree o p [] h = tt
mapped_agree o p (a ∷ more) h = (h, mapped_agree o p more h)

pub stations_agree : (o : Owner) (e : Option ℕ) (sent : List Answer) → ((n : ℕ) → e ≡ Some n → Agree o (Station n))
    → AllAgree o (station_sent e sent)
stations_agree o None sent h = tt
stations_agree o (Some n) sent h = mapped_agree o (Station n) sent (h n refl)

known_agree : (o : Owner) → ((id : ℕ) → Agree o (Stranger id)) → (notice : Notice) (ks : List Known)
    → AllAgree o (each_known notice ks)
known_agree o h notice [] = tt
known_agree o h notice (k ∷ ks) =
    all_agree o (map (stranger_out k.id) (notes k.id (Some k.stranger) notice).sent) (each_known notice ks)
    (mapped_agree o (Stranger k.id) (notes k.id (Some k.stranger) notice).sent (h k.id)) (known_agree o h notice ks)

pub strangers_agree : (o : Owner) → ((id : ℕ) → Agree o (Stranger id)) → (ps : List Profile) (d : Destination) (ks : List Known)
    → AllAgree o (strangers_sent ps d ks)
strangers_agree o h ps to.Nobody ks = tt
strangers_agree o h ps (to.Subscriber n item) ks = tt
strangers_agree o h ps (to.Beginner id m) ks =
    mapped_agree o (Stranger id) (stranger_step ps id (stranger_at id ks) (Begins m)).sent (h id)
strangers_agree o h ps (to.Stranger m) ks =
    mapped_agree o (Stranger m.mme_ue_id) (stranger_step ps m.mme_ue_id (stranger_at m.mme_ue_id ks) (Receives m)).sent (h m.mme_ue_id)
strangers_agree o h ps (to.Everyone notice) ks = known_agree o h notice ks

pub subscribers_agree : (o : Owner) (most : ℕ) → ((k : ℕ) → k < most → Agree o (Subscriber k)) → (items : ℕ → Item) (n : ℕ)
    (ws : List SubscriberView) → n + length ws ≤ most → AllAgree o (each_sent items n ws)
subscribers_agree o most h items n [] few = tt
subscribers_agree o most h items n (w ∷ ws) few =
    all_agree o (map (slot_out n) (subscriber_step w (items n)).sent) (each_sent items (n + 1) ws)
    (mapped_agree o (Subscriber n) (subscriber_step w (items n)).sent (h n (omega (arith, few))))
    (subscribers_agree o most h items (n + 1) ws (omega (arith, few)))

reply_by : (o : Owner) (w : World) (e : Event) (f : Option StepFault) → AllAgree o (outputs w e)
    → ReplyAgrees o (reply_of f (outputs w e))
reply_by o w e None h = h
reply_by o w e (Some fault) h = tt

-- of its station, of strangers and of subscribers
pub reply_agrees : (o : Owner) (w : World) (e : Event) → ((n : ℕ) → station_of e ≡ Some n → Agree o (Station n))
    → AllAgree o (strangers_sent w.sight.profiles (happens w.sight e).destination w.strangers)
    → ((k : ℕ) → k < length w.subscribers → Agree o (Subscriber k)) → ReplyAgrees o (reply w e)
reply_agrees o w e station strangers subscriber =
    reply_by o w e (event_fault w.sight e)
    (all_agree o (station_sent (station_of e) (happens w.sight e).sent) _
    (stations_agree o (station_of e) (happens w.sight e).sent station)
    (all_agree o (strangers_sent w.sight.profiles (happens w.sight e).destination w.strangers) _ strangers
    (subscribers_agree o (length w.subscribers) subscriber (items_of w.sight (strangers_in w) e) 0 w.subscribers (omega arith))))

-- ---- as many subscribers as before

each_many : (items : ℕ → Item) (n : ℕ) (ws : List SubscriberView) → length (each_after items n ws) ≡ length ws
each_many items n [] = refl
each_many items n (w ∷ ws) = let h = each_many items (n + 1) ws in omega (arith, h)

many_by : (f : Option StepFault) (w v : World) → length v.subscribers ≡ length w.subscribers
    → length (unless f w v).subscribers ≡ length w.subscribers
many_by None w v h = h
many_by (Some fault) w v h = refl

pub as_many : (w : World) (e : Event) → length (world_after w e).subscribers ≡ length w.subscribers
as_many w e =
    many_by (event_fault w.sight e) w (world_moved w e) (each_many (items_of w.sight (strangers_in w) e) 0 w.subscribers)

-- ---- a slot, over a list of events

pub slot_agrees : (slot : ℕ) → slot < 2 ^ 64 → (w : World) (es : List Event) → length w.subscribers ≤ slots
    → EachAgrees (Subscriber slot) (replies w es)
slot_agrees slot small w [] few = tt
slot_agrees slot small w (e ∷ es) few =
    let many = as_many w e in (
      reply_agrees (Subscriber slot) w e (λ n is. agree_slot_station slot n)
          (strangers_agree (Subscriber slot) (agree_slot_stranger slot) w.sight.profiles (happens w.sight e).destination w.strangers)
          (λ k low. agree_slots slot k small (omega (arith, low, few))),
      slot_agrees slot small (world_after w e) es (omega (arith, many, few)),
    )
