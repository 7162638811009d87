-- A vector that is given before an event or after it.
use Rattle.std.proofs.Common.{◌≡◌, ℕ, zero, suc, ◌+◌, List, [], ◌∷◌, ◌++◌, map, Option, Some, None, Ok, refl, ◌∙◌, ap, subst, arith}
use Rattle.std.specs.Prelude.{slice_get}
use Rattle.std.proofs.lemmas.Option.{same_Some}
use Rattle.identity_slots.specs.declared.profile.Vector.{Vector}
use Rattle.mme_types.specs.Events.{Item, Nothing}
use Rattle.emm_state.specs.declared.draft.Draft.{Draft}
use Rattle.emm_machine.specs.Given.{with_given}
use Rattle.emm_machine.specs.SubscriberView.{SubscriberView}
use Rattle.laws_subscriber.specs.Sound.{IsSound}
use Rattle.mme_owners.specs.Changed.{changed_at}
use Rattle.mme_answering.specs.declared.out.Out.{Out}
use Rattle.mme_routing.specs.Destinations.{strangers_left}
use Rattle.mme_core.specs.declared.event.StepFault.{StepFault}
use Rattle.mme_core.specs.FreshRuns.{AreInUse}
use Rattle.mme_core.specs.Provisioning.{world_given}
use Rattle.mme_core.specs.World.{World, each_after, each_sent, event_fault, happens, items_of, outputs, reply_of, sight_moved, slot_out, station_of, station_sent, strangers_in, strangers_sent, subscriber_after, subscriber_step, unless, world_moved}
use Rattle.laws_mme.specs.Early.{GivenBeforeIsGivenAfter}
use Rattle.laws_mme.specs.Looks.{HasOneLeft}
use Rattle.laws_mme.proofs.Looks.{looks_same, steps_look_at_two}

-- who stands at a place is sound
sound_at : (k : ℕ) (ws : List SubscriberView) (x : SubscriberView) → AreInUse ws → slice_get ws k ≡ Some x → IsSound x.setting x.solo
sound_at k [] x h at = absurd (cc at)
sound_at zero (y ∷ ws) x h at = subst (λ (z : SubscriberView). IsSound z.setting z.solo) (same_Some y x at) h.1
sound_at (suc k) (y ∷ ws) x h at = sound_at k ws x h.3 at

-- a step asks for a vector that is there, or for none
record IsReady (x : SubscriberView) (item : Item) : Type 0 where
  sound : IsSound x.setting x.solo
  left : HasOneLeft x.setting.vectors x.solo item

-- the subscriber of the place k, where the first has the slot n
abbrev ReadyAt : (ℕ → Item) → ℕ → ℕ → List SubscriberView → Type 0
ReadyAt items n k ws = (x : SubscriberView) → slice_get ws k ≡ Some x → IsReady x (items (n + k))

here : (items : ℕ → Item) (n : ℕ) (x : SubscriberView) (ws : List SubscriberView) → ReadyAt items n 0 (x ∷ ws) → IsReady x (items n)
here items n x ws h =
    let same : n + 0 ≡ n = omega arith in subst (λ (m : ℕ). IsReady x (items m)) same (h x refl)

there : (items : ℕ → Item) (n k : ℕ) (x : SubscriberView) (ws : List SubscriberView) → ReadyAt items n (suc k) (x ∷ ws)
    → ReadyAt items (n + 1) k ws
there items n k x ws h y at =
    let same : n + suc k ≡ n + 1 + k = omega arith in subst (λ (m : ℕ). IsReady y (items m)) same (h y at)

module _ (v : Vector) where
  one_step : (x : SubscriberView) (item : Item) → IsReady x item → subscriber_step (with_given v x) item ≡ subscriber_step x item
  one_step x item h =
      steps_look_at_two x.setting (x.setting.vectors ++ v ∷ []) x.solo item (looks_same x.setting (v ∷ []) x.solo item h.sound h.left)

  one_after : (x : SubscriberView) (item : Item) → IsReady x item
      → subscriber_after (with_given v x) item ≡ with_given v (subscriber_after x item)
  one_after x item h =
      ap (λ (d : Draft). record { setting = (with_given v x).setting; solo = d.solo }) (one_step x item h)

  after_given : (items : ℕ → Item) (n k : ℕ) (ws : List SubscriberView) → ReadyAt items n k ws
      → each_after items n (changed_at k (with_given v) ws) ≡ changed_at k (with_given v) (each_after items n ws)
  after_given items n k [] h = refl
  after_given items n zero (x ∷ ws) h =
      ap (λ (y : SubscriberView). y ∷ each_after items (n + 1) ws) (one_after x (items n) (here items n x ws h))
  after_given items n (suc k) (x ∷ ws) h =
      ap (λ (ys : List SubscriberView). subscriber_after x (items n) ∷ ys) (after_given items (n + 1) k ws (there items n k x ws h))

  sent_given : (items : ℕ → Item) (n k : ℕ) (ws : List SubscriberView) → ReadyAt items n k ws
      → each_sent items n (changed_at k (with_given v) ws) ≡ each_sent items n ws
  sent_given items n k [] h = refl
  sent_given items n zero (x ∷ ws) h =
      ap (λ (d : Draft). map (slot_out n) d.sent ++ each_sent items (n + 1) ws) (one_step x (items n) (here items n x ws h))
  sent_given items n (suc k) (x ∷ ws) h =
      ap (λ (os : List Out). map (slot_out n) (subscriber_step x (items n)).sent ++ os)
      (sent_given items (n + 1) k ws (there items n k x ws h))

-- ---- an event that is refused changes nothing

reply_by : (o : Option StepFault) (xs ys : List Out) → (o ≡ None → xs ≡ ys) → reply_of o xs ≡ reply_of o ys
reply_by None xs ys h = ap Ok (h refl)
reply_by (Some fault) xs ys h = refl

after_by : (o : Option StepFault) (slot : ℕ) (v : Vector) (w u m : World) → (o ≡ None → m ≡ world_given slot v u)
    → unless o (world_given slot v w) m ≡ world_given slot v (unless o w u)
after_by None slot v w u m h = h refl
after_by (Some fault) slot v w u m h = refl

pub given_before_is_given_after : GivenBeforeIsGivenAfter
given_before_is_given_after w event slot v kept served =
    let items = items_of w.sight (strangers_in w) event in
    let d = (happens w.sight event).destination in
    let ready : event_fault w.sight event ≡ None → ReadyAt items 0 slot w.subscribers = λ none x at. record {
      sound = sound_at slot w.subscribers x kept.in_use at;
      left = subst (λ (i : Item). HasOneLeft x.setting.vectors x.solo i) (own none) (served x at);
    } in
    record {
      answer = reply_by (event_fault w.sight event) (outputs (world_given slot v w) event) (outputs w event)
          (λ none. ap (λ (os : List Out). station_sent (station_of event) (happens w.sight event).sent
          ++ (strangers_sent w.sight.profiles d w.strangers ++ os)) (sent_given v items 0 slot w.subscribers (ready none)));
      world = after_by (event_fault w.sight event) slot v w (world_moved w event) (world_moved (world_given slot v w) event)
          (λ none. ap (λ (ws : List SubscriberView). record {
            sight = sight_moved w.sight event;
            strangers = strangers_left w.sight.profiles d w.strangers;
            subscribers = ws;
          }) (after_given v items 0 slot w.subscribers (ready none)));
    }
  where
    -- the item that the event has for the slot
    own : event_fault w.sight event ≡ None
        → unless (event_fault w.sight event) Nothing (items_of w.sight (strangers_in w) event slot)
        ≡ items_of w.sight (strangers_in w) event (0 + slot)
    own none =
        let start : slot ≡ 0 + slot = omega arith in
        ap (λ (o : Option StepFault). unless o Nothing (items_of w.sight (strangers_in w) event slot)) none
        ∙ ap (λ (n : ℕ). items_of w.sight (strangers_in w) event n) start
