-- Event by event the ids of an MME stay apart.
use Rattle.std.proofs.Common.{◌≡◌, ℕ, zero, suc, ◌+◌, ◌≤◌, List, [], ◌∷◌, Option, Some, None, sym, ◌∙◌, ap, subst, arith}
use Rattle.std.specs.Prelude.{slice_get}
use Rattle.std.proofs.lemmas.Option.{same_Some}
use Rattle.identity_slots.specs.declared.profile.Profile.{Profile}
use Rattle.identity_slots.specs.declared.profile.Vector.{Vector}
use Rattle.identity_slots.specs.Ids.{slots}
use Rattle.identity_slots.specs.Provisioned.{slot_of_imsi}
use Rattle.mme_types.specs.declared.network.Network.{Network}
use Rattle.mme_types.specs.Events.{Cancel, Data, Item}
use Rattle.mme_types.specs.Stations.{station_at}
use Rattle.emm_machine.specs.SubscriberView.{SubscriberView}
use Rattle.laws_apart.specs.Apart.{BeginsApart, StaysApart}
use Rattle.laws_apart.specs.Goes.{ClaimsNone, GoesMade, OctetsGoMade}
use Rattle.mme_core.specs.declared.event.Event.{Event}
use Rattle.mme_core.specs.declared.event.Event.TheVariants.{Up as UpEvent, Lost as LostEvent, In as InEvent, Tick as TickEvent, Data as DataEvent, Cancel as CancelEvent}
use Rattle.mme_core.specs.declared.event.StepFault.{StepFault}
use Rattle.mme_core.specs.Apart.{AreApart, EventsGoMade, IdsBeginApart, IdsStayApart}
use Rattle.mme_core.specs.World.{World, event_fault, fresh_subscribers, happens, to_slot, unless, world_after, world_moved}
use Rattle.mme_core.proofs.Kept.{as_many_fresh}

-- ---- the beginning

-- each has its slot, and no connection
fresh_at : (n : Network) (slot : ℕ) (ps : List Profile) (vs : List (List Vector)) (i : ℕ) (x : SubscriberView)
    → slice_get (fresh_subscribers n slot ps vs) i ≡ Some x
    → (x.setting.slot ≡ slot + i) × (x.solo.connection ≡ None)
fresh_at n slot [] vs i x at = absurd (cc at)
fresh_at n slot (p ∷ ps) vs zero x at =
    let now = same_Some _ x at in
    let here : slot ≡ slot + 0 = omega arith in
    (ap (λ (v : SubscriberView). v.setting.slot) (sym now) ∙ here, ap (λ (v : SubscriberView). v.solo.connection) (sym now))
fresh_at n slot (p ∷ ps) vs (suc i) x at =
    let rest = fresh_at n (slot + 1) ps vs i x at in
    let same : slot + 1 + i ≡ slot + suc i = omega arith in
    (rest.0 ∙ same, rest.1)

pub ids_begin_apart : BeginsApart → IdsBeginApart
ids_begin_apart begins n ps vs few =
    begins (fresh_subscribers n 0 ps vs) (subst (λ (m : ℕ). m ≤ slots) (sym (as_many_fresh n 0 ps vs)) few)
    (λ slot x at. let same : 0 + slot ≡ slot = omega arith in (fresh_at n 0 ps vs slot x at).0 ∙ same)
    (λ slot x at. (fresh_at n 0 ps vs slot x at).1)

-- ---- an event

slot_goes : (o : Option ℕ) (item : Item) → ClaimsNone item → GoesMade (to_slot o item)
slot_goes None item none = tt
slot_goes (Some slot) item none = none

pub events_go_made : OctetsGoMade → EventsGoMade
unfolding happens
events_go_made octets_go s (UpEvent e) = tt
events_go_made octets_go s (LostEvent e) = tt
events_go_made octets_go s (InEvent e octets) =
    octets_go s.config.network s.profiles e (station_at s.stations e) octets.now
events_go_made octets_go s TickEvent = tt
events_go_made octets_go s (DataEvent imsi) = slot_goes (slot_of_imsi imsi s.profiles) (Data s.stations) tt
events_go_made octets_go s (CancelEvent imsi) = slot_goes (slot_of_imsi imsi s.profiles) Cancel tt

module _ (stays : StaysApart) (go : EventsGoMade) where
  apart_moved : (w : World) (event : Event) → AreApart w → AreApart (world_moved w event)
  apart_moved w event h =
      stays w.sight.profiles (happens w.sight event).destination w.strangers w.subscribers (go w.sight event) h

  apart_after : (o : Option StepFault) (w : World) (event : Event) → AreApart w → AreApart (unless o w (world_moved w event))
  apart_after None w event h = apart_moved w event h
  apart_after (Some fault) w event h = h

  pub ids_stay_apart : IdsStayApart
  ids_stay_apart w [] h = h
  ids_stay_apart w (event ∷ events) h = ids_stay_apart (world_after w event) events (apart_after (event_fault w.sight event) w event h)
