-- What an event that isn't refused leads to, by what comes of it and by what was prepared for that.
use Rattle.std.proofs.Common.{◌≡◌, ◌≤◌, ◌++◌, ℕ, false, true≢false, List, [], Option, None, Some, refl, sym, ◌∙◌, ap, subst}
use Rattle.mme_types.specs.declared.octets.Answer.{Answer}
use Rattle.mme_types.specs.declared.stations.StationState.{StationState}
use Rattle.emm_machine.specs.SubscriberView.{SubscriberView}
use Rattle.sorted_list.specs.Ordered.{Rising}
use Rattle.stranger_machine.specs.declared.table.Known.{Known}
use Rattle.stranger_machine.specs.Table.{known_id}
use Rattle.mme_owners.specs.Owners.{OwnersView}
use Rattle.mme_routing.specs.Destinations.{Destination, item_at, strangers_left}
use Rattle.mme_routing.specs.Outcomes.{Outcome}
use Rattle.mme_answering.specs.declared.out.Out.{Out}
use Rattle.mme_answering.specs.declared.prepared.Prepared.{Prepared}
use Rattle.mme_answering.specs.Prepares.{Prepares}
use Rattle.mme_answering.specs.Settled.{settled_strangers, settled_subscribers}
use Rattle.mme_core.specs.declared.event.Event.{Event}
use Rattle.mme_core.specs.declared.event.Event.TheVariants as events
use Rattle.mme_core.specs.declared.event.StepFault.{StepFault}
use Rattle.mme_core.specs.Projection.{AreInOrder}
use Rattle.mme_core.specs.Ready.{LeadsTo}
use Rattle.mme_core.specs.Sight.{Sight}
use Rattle.mme_core.specs.World.{World, clock_after, each_after, each_sent, event_fault, happens, is_message, outputs, placed, reply_of, station_of, station_sent, strangers_in, strangers_sent, unless, world_moved, world_of}
use Rattle.mme_core.proofs.Order.{output_order}
use Rattle.mme_core.proofs.Steps.{in_time as moves_in_time}
use Rattle.mme_core.proofs.Ticks.{ticks_alone}

-- what strangers and subscribers send
abbrev others_sent : Sight → OwnersView → Destination → List Out
others_sent s o d =
    strangers_sent s.profiles d o.strangers ++ each_sent (item_at d s.profiles (strangers_in (world_of s o))) 0 o.subscribers

abbrev world_at : Sight → ℕ → List StationState → List Known → List SubscriberView → World
world_at s clock stations ks ws = record {
  sight = record { config = s.config; clock = clock; stations = stations; profiles = s.profiles };
  strangers = ks;
  subscribers = ws;
}

-- ---- an event that is no message

abbrev pub unsaid : Option StationState → Destination → Outcome
unsaid state d = record { state = state; sent = []; destination = d }

silent : (s : Sight) (event : Event) → is_message event ≡ false → (happens s event).sent ≡ []
unfolding happens
silent s (events.Up e) h = refl
silent s (events.Lost e) h = refl
silent s (events.In e octets) h = absurd (true≢false h)
silent s events.Tick h = refl
silent s (events.Data imsi) h = refl
silent s (events.Cancel imsi) h = refl

pub unsaid_comes : (s : Sight) (event : Event) (state : Option StationState) (d : Destination) → is_message event ≡ false
    → state ≡ (happens s event).state → d ≡ (happens s event).destination → unsaid state d ≡ happens s event
unsaid_comes s event state d other new there =
    let h = happens s event in
    ap (λ (x : Option StationState). unsaid x d) new ∙ ap (λ (x : Destination). unsaid h.state x) there
    ∙ ap (λ (os : List Answer). record { state = h.state; sent = os; destination = h.destination }) (sym (silent s event other))

pub nothing_sent : (e : Option ℕ) → station_sent e [] ≡ []
nothing_sent None = refl
nothing_sent (Some e) = refl

-- ---- each

pub leads : (s : Sight) (o : OwnersView) (event : Event) (h : Outcome) (p : Prepared) (own outs : List Out) (clock : ℕ) (e : Option ℕ)
    → event_fault s event ≡ None → h ≡ happens s event → e ≡ station_of event → own ≡ station_sent e h.sent
    → Prepares s.profiles h.destination o.strangers o.subscribers own outs p
    → clock ≡ clock_after s.clock event → s.clock ≤ clock → Rising known_id o.strangers
    → LeadsTo (world_of s o) event (record { moves = record { station = e; state = h.state; clock = clock }; prepared = p; outs = outs })
leads s o event h p own outs clock e fine comes there sent k is least rising =
    let w = world_of s o in
    let next = clock_after s.clock event in
    let ks = settled_strangers p o.strangers in
    let ws = settled_subscribers p o.subscribers in
    let all : outs ≡ outputs w event =
    k.sends ∙ ap (λ (os : List Out). os ++ others_sent s o h.destination) sent
    ∙ ap (λ (x : Option ℕ). station_sent x h.sent ++ others_sent s o h.destination) there
    ∙ ap (λ (x : Outcome). station_sent (station_of event) x.sent ++ others_sent s o x.destination) comes in
    record {
      accepted = fine;
      sends = ap (λ (f : Option StepFault). reply_of f (outputs w event)) fine ∙ ap (λ (os : List Out). reply_of None os) (sym all);
      order = subst AreInOrder (sym all) (output_order w event rising);
      after =
          ap (λ (n : ℕ). world_at s n (placed e h.state s.stations) ks ws) is
          ∙ ap (λ (x : Option ℕ). world_at s next (placed x h.state s.stations) ks ws) there
          ∙ ap (λ (xs : List Known). world_at s next (placed (station_of event) h.state s.stations) xs ws) k.strangers
          ∙ ap (λ (xs : List SubscriberView). world_at s next (placed (station_of event) h.state s.stations) (strangers_left s.profiles h.destination o.strangers) xs) k.subscribers
          ∙ ap (λ (x : Outcome). world_at s next (placed (station_of event) x.state s.stations) (strangers_left s.profiles x.destination o.strangers) (each_after (item_at x.destination s.profiles (strangers_in w)) 0 o.subscribers)) comes
          ∙ ap (λ (f : Option StepFault). unless f w (world_moved w event)) (sym fine);
      fits = k.fits;
      in_time =
          moves_in_time h.destination p s.clock clock k.passing
          (λ told. let t = ticks_alone s event (ap (λ (x : Outcome). x.destination) (sym comes) ∙ told) fine in (t.0, is ∙ t.1))
          least;
    }
