-- Garbage: the MME stays, and one message at most is sent, to its station.
use Rattle.std.proofs.Common.{◌≡◌, ◌≤◌, ℕ, ◌+◌, suc, List, [], ◌∷◌, ◌++◌, length, map, All, Option, Some, None, Result, Ok, Err, refl, sym, ◌∙◌, ap, subst, append-nil, arith}
use Rattle.std.specs.Borrow.{Bor}
use Rattle.std.proofs.lemmas.List.{set-get_or}
use Rattle.std.proofs.lemmas.List.Elements.{All-push}
use Rattle.std.proofs.lemmas.Result.{IfOk-at_ok}
use Rattle.s1ap_causes.specs.declared.cause.Cause.{Cause}
use Rattle.s1ap_rows.specs.declared.fault.S1apFault.{S1apFault}
use Rattle.s1ap_pdus.specs.declared.pdu.Pdu.{Pdu}
use Rattle.s1ap_pdus.specs.Pdus.{SpellsMessage, decoded, encoded}
use Rattle.mme_types.specs.declared.octets.Answer.{Answer}
use Rattle.mme_types.specs.declared.stations.StationState.{StationState}
use Rattle.mme_types.specs.declared.stations.StationState.TheVariants.{Down}
use Rattle.mme_types.specs.Answers.{answer_of}
use Rattle.mme_types.specs.Events.{Nothing}
use Rattle.mme_types.specs.Stations.{station_at}
use Rattle.emm_state.specs.declared.draft.Draft.{Draft}
use Rattle.emm_machine.specs.SubscriberView.{SubscriberView}
use Rattle.mme_routing.specs.Destinations.{item_at, strangers_left}
use Rattle.mme_routing.specs.Outcomes.{Outcome, answered, cause_of, indicated, indication, outcome_of}
use Rattle.mme_answering.specs.Laws.{at_nothing, stays}
use Rattle.mme_answering.specs.declared.out.Out.{Out}
use Rattle.mme_core.specs.declared.event.Event.TheVariants.{In}
use Rattle.mme_core.specs.declared.event.StepFault.{StepFault}
use Rattle.mme_core.specs.World.{World, each_after, each_sent, event_fault, happens, outputs, placed, replies, reply, reply_of, slot_out, station_out, strangers_in, strangers_sent, unless, world_after, world_moved, world_run}
use Rattle.laws_network.specs.Garbage.{GarbageIsAsNothing, GarbageReachesNobody, IsForStation, IsGarbage}

-- ---- subscribers to whom nothing comes

all_stay : (n : ℕ) (ws : List SubscriberView) → each_after (λ slot. Nothing) n ws ≡ ws
all_stay n [] = refl
all_stay n (w ∷ ws) =
    ap (λ (v : SubscriberView). v ∷ each_after (λ slot. Nothing) (n + 1) ws) (stays w)
    ∙ ap (λ (vs : List SubscriberView). w ∷ vs) (all_stay (n + 1) ws)

all_silent : (n : ℕ) (ws : List SubscriberView) → each_sent (λ slot. Nothing) n ws ≡ []
all_silent n [] = refl
all_silent n (w ∷ ws) =
    ap (λ (d : Draft). map (slot_out n) d.sent ++ each_sent (λ slot. Nothing) (n + 1) ws) (at_nothing w.setting w.solo)
    ∙ all_silent (n + 1) ws

-- ---- an outcome that goes to nobody

-- the MME and its output, by what comes of an event
moved_by : World → ℕ → Outcome → World
moved_by w e h = record {
  sight = record {
    config = w.sight.config;
    clock = w.sight.clock;
    stations = placed (Some e) h.state w.sight.stations;
    profiles = w.sight.profiles;
  };
  strangers = strangers_left w.sight.profiles h.destination w.strangers;
  subscribers = each_after (item_at h.destination w.sight.profiles (strangers_in w)) 0 w.subscribers;
}

sent_by : World → ℕ → Outcome → List Out
sent_by w e h =
    map (station_out e) h.sent
    ++ (strangers_sent w.sight.profiles h.destination w.strangers
    ++ each_sent (item_at h.destination w.sight.profiles (strangers_in w)) 0 w.subscribers)

stays_by : (w : World) (e : ℕ) (sent : List Answer) → moved_by w e (answered sent) ≡ w
unfolding moved_by
stays_by w e sent =
    ap (λ (stations : List StationState). record {
      sight = record {
        config = w.sight.config;
        clock = w.sight.clock;
        stations = stations;
        profiles = w.sight.profiles;
      };
      strangers = w.strangers;
      subscribers = each_after (λ slot. Nothing) 0 w.subscribers;
    }) (set-get_or w.sight.stations e Down)
    ∙ ap (λ (ws : List SubscriberView). record { sight = w.sight; strangers = w.strangers; subscribers = ws }) (all_stay 0 w.subscribers)

own_by : (w : World) (e : ℕ) (sent : List Answer) → sent_by w e (answered sent) ≡ map (station_out e) sent
unfolding sent_by
own_by w e sent =
    ap (λ (outs : List Out). map (station_out e) sent ++ outs) (all_silent 0 w.subscribers) ∙ append-nil (map (station_out e) sent)

-- ---- octets that spell nothing

refused_by : (r : Result (Pdu (List ℕ)) S1apFault) → ((m : Pdu (List ℕ)) → r ≡ Ok m → ⊥) → (f : S1apFault) × (r ≡ Err f)
refused_by (Ok m) never = absurd (never m refl)
refused_by (Err f) never = (f, refl)

module _ (spelled : (m : Pdu (List ℕ)) (os : List ℕ) → decoded os ≡ Ok m → SpellsMessage m os) where
  comes : (w : World) (e : ℕ) (octets : Bor (List ℕ)) → IsGarbage octets.now
      → (cause : Option Cause) × (happens w.sight (In e octets) ≡ answered (indicated e cause))
  unfolding happens
  comes w e octets garbage =
      let fault = refused_by (decoded octets.now) (λ m is. garbage m (spelled m octets.now is)) in
      (cause_of fault.0, ap (outcome_of w.sight.config.network w.sight.profiles e (station_at w.sight.stations e)) fault.1)

  same_unless : (o : Option StepFault) (w v : World) → v ≡ w → unless o w v ≡ w
  same_unless None w v is = is
  same_unless (Some fault) w v is = refl

  same_after : (w : World) (e : ℕ) (octets : Bor (List ℕ)) → IsGarbage octets.now → world_after w (In e octets) ≡ w
  unfolding moved_by
  same_after w e octets garbage =
      let h = comes w e octets garbage in
      same_unless (event_fault w.sight (In e octets)) w (world_moved w (In e octets)) (ap (moved_by w e) h.1 ∙ stays_by w e (indicated e h.0))

  -- ---- what is sent

  written : (e : ℕ) (o : Option (List ℕ))
      → (length (map (station_out e) (answer_of e None o)) ≤ 1) × All (IsForStation e) (map (station_out e) (answer_of e None o))
  written e None = (omega arith, λ k d lt. absurd (omega (arith, lt)))
  written e (Some octets) =
      (omega arith, All-push (IsForStation e) [] _ (λ k d lt. absurd (omega (arith, lt))) (record { owner = refl; station = refl }))

  one_at_most : (e : ℕ) (cause : Option Cause)
      → (length (map (station_out e) (indicated e cause)) ≤ 1) × All (IsForStation e) (map (station_out e) (indicated e cause))
  one_at_most e None = written e None
  one_at_most e (Some cause) = written e (encoded (indication cause))

  replied : (o : Option StepFault) (xs outs : List Out) → reply_of o xs ≡ Ok outs → xs ≡ outs
  replied None xs outs is = IfOk-at_ok (λ (ys : List Out). xs ≡ ys) is refl
  replied (Some fault) xs outs is = absurd (cc is)

  told : (w : World) (e : ℕ) (octets : Bor (List ℕ)) (outs : List Out) → IsGarbage octets.now → reply w (In e octets) ≡ Ok outs
      → (length outs ≤ 1) × All (IsForStation e) outs
  unfolding sent_by
  told w e octets outs garbage is =
      let h = comes w e octets garbage in
      let all : outputs w (In e octets) ≡ map (station_out e) (indicated e h.0) =
      ap (sent_by w e) h.1 ∙ own_by w e (indicated e h.0) in
      subst (λ (xs : List Out). (length xs ≤ 1) × All (IsForStation e) xs)
      (sym all ∙ replied (event_fault w.sight (In e octets)) (outputs w (In e octets)) outs is) (one_at_most e h.0)

  pub garbage_reaches_nobody : GarbageReachesNobody
  garbage_reaches_nobody w e octets garbage =
      record { same = same_after w e octets garbage; told = λ outs is. told w e octets outs garbage is }

  -- ---- over a run

  pub garbage_is_as_nothing : GarbageIsAsNothing
  garbage_is_as_nothing w [] unseen e octets garbage =
      let same = same_after w e octets garbage in
      record {
        after = ap (λ (v : World). world_run v unseen) same;
        before = [];
        own = reply w (In e octets);
        later = replies w unseen;
        many = refl;
        with = ap (λ (v : World). reply w (In e octets) ∷ replies v unseen) same;
        without = refl;
      }
  garbage_is_as_nothing w (event ∷ seen) unseen e octets garbage =
      let rest = garbage_is_as_nothing (world_after w event) seen unseen e octets garbage in
      record {
        after = rest.after;
        before = reply w event ∷ rest.before;
        own = rest.own;
        later = rest.later;
        many = ap suc rest.many;
        with = ap (λ (rs : List (Result (List Out) StepFault)). reply w event ∷ rs) rest.with;
        without = ap (λ (rs : List (Result (List Out) StepFault)). reply w event ∷ rs) rest.without;
      }
