-- Each owner is alone over a list of acts.
use Rattle.std.proofs.Common.{◌≡◌, ◌<◌, ℕ, List, [], ◌∷◌, length, map, Option, refl, sym, ◌∙◌, ap, subst}
use Rattle.std.specs.Prelude.{option_map, slice_get}
use Rattle.mme_types.specs.declared.network.Network.{Network}
use Rattle.mme_types.specs.Stations.{station_at}
use Rattle.emm_machine.specs.declared.subscriber.States.{States}
use Rattle.emm_machine.specs.SubscriberView.{SubscriberView}
use Rattle.emm_machine.specs.Words.{states_of}
use Rattle.stranger_machine.specs.declared.state.Stranger.{Stranger}
use Rattle.stranger_machine.specs.Machine.{stranger_step}
use Rattle.stranger_machine.specs.Table.{stranger_at}
use Rattle.mme_core.specs.Kept.{IsKept}
use Rattle.mme_core.specs.Laws.{GoesAlone, RepliesSo}
use Rattle.mme_core.specs.Projection.{Told, answer_told, is_slot, is_station, is_stranger, told}
use Rattle.mme_core.specs.Sight.{Sight}
use Rattle.mme_core.specs.World.{World, event_fault, outputs, strangers_in}
use Rattle.laws_mme.specs.Acts.{Act, ActsKeep, Adds, Gives, Happens, act_after, acts_replies}
use Rattle.laws_mme.specs.ActsAlone.{OwnAct, OwnItem, RepliesToActsAreInOrder, SlotGoesAloneOverActs, SlotGoesThroughStatesOverActs, SlotIsToldOverActs, StationGoesAloneOverActs, StationIsToldOverActs, StrangerGoesAloneOverActs, StrangerIsToldOverActs, act_input, own_act, own_acts, own_acts_from, own_after, own_run_over, own_sent, own_states_over, own_told_over, sight_acted, states_over, station_run_over, station_sent_at, station_told_over, stranger_run_over, stranger_told_over, strangers_acted}
use Rattle.laws_mme.proofs.ActOnce.{network_act, sight_act, station_act, station_told_act, stranger_act, stranger_told_act}
use Rattle.laws_mme.proofs.OwnersAlone.{order_cons}
use Rattle.laws_mme.proofs.SlotAtAct.{slot_act, slot_told_act}
use Rattle.laws_mme.proofs.Turns.{item_same}

-- ---- the acts of a slot after an act

own_same : (slot : ℕ) (s : Sight) (g h : ℕ → Option Stranger) (act : Act) → ((id : ℕ) → g id ≡ h id)
    → own_act slot s g act ≡ own_act slot s h act
own_same slot s g h (Happens event) same = ap OwnItem (item_same slot s g h event same)
own_same slot s g h (Adds p) same = refl
own_same slot s g h (Gives n v) same = refl

acts_same : (slot : ℕ) (s : Sight) (g h : ℕ → Option Stranger) (acts : List Act) → ((id : ℕ) → g id ≡ h id)
    → own_acts_from slot s g acts ≡ own_acts_from slot s h acts
acts_same slot s g h [] same = refl
acts_same slot s g h (act ∷ acts) same =
    ap (λ (a : OwnAct). a ∷ own_acts_from slot (sight_acted s act) (strangers_acted s g act) acts) (own_same slot s g h act same)
    ∙ ap (λ (rest : List OwnAct). own_act slot s h act ∷ rest)
    (acts_same slot (sight_acted s act) (strangers_acted s g act) (strangers_acted s h act) acts
    (λ id. ap (λ (x : Option Stranger). (stranger_step s.profiles id x (act_input s id act)).stranger) (same id)))

acts_on : (w : World) (act : Act) (acts : List Act) (slot : ℕ) → IsKept w
    → own_acts slot (act_after w act) acts
    ≡ own_acts_from slot (sight_acted w.sight act) (strangers_acted w.sight (strangers_in w) act) acts
acts_on w act acts slot h =
    ap (λ (s : Sight). own_acts_from slot s (strangers_in (act_after w act)) acts) (sight_act w act)
    ∙ acts_same slot (sight_acted w.sight act) (strangers_in (act_after w act)) (strangers_acted w.sight (strangers_in w) act) acts
    (λ id. stranger_act w act id h.rising)

-- ---- a slot

-- what its machine and its acts come to, from the MME after an act on
pub own_on : {A : Type 0} (f : Network → Option SubscriberView → List OwnAct → A) → GoesAlone → (w : World) (act : Act) (acts : List Act)
    (slot : ℕ) → IsKept w
    → f (act_after w act).sight.config.network (slice_get (act_after w act).subscribers slot) (own_acts slot (act_after w act) acts)
    ≡ f w.sight.config.network
    (own_after w.sight.config.network slot (slice_get w.subscribers slot) (own_act slot w.sight (strangers_in w) act))
    (own_acts_from slot (sight_acted w.sight act) (strangers_acted w.sight (strangers_in w) act) acts)
own_on f goes w act acts slot h =
    let u = act_after w act in
    let n = w.sight.config.network in
    ap (λ (m : Network). f m (slice_get u.subscribers slot) (own_acts slot u acts)) (network_act w act)
    ∙ ap (λ (x : Option SubscriberView). f n x (own_acts slot u acts)) (slot_act goes w act slot h)
    ∙ ap (f n (own_after n slot (slice_get w.subscribers slot) (own_act slot w.sight (strangers_in w) act))) (acts_on w act acts slot h)

module _ (keeps : ActsKeep) where
  kept_on : (w : World) (act : Act) → IsKept w → IsKept (act_after w act)
  kept_on w act h = keeps w (act ∷ []) h

  pub tells_slot : RepliesSo → GoesAlone → SlotIsToldOverActs
  tells_slot so goes w [] slot h = refl
  tells_slot so goes w (act ∷ acts) slot h =
      let u = act_after w act in
      let own = own_act slot w.sight (strangers_in w) act in
      ap (λ (zs : List Told). zs ∷ told (is_slot slot) (acts_replies u acts)) (slot_told_act so w act slot h.rising)
      ∙ ap (λ (zs : List (List Told)). own_sent (slice_get w.subscribers slot) own ∷ zs)
      (tells_slot so goes u acts slot (kept_on w act h) ∙ own_on (λ n x mine. own_told_over n slot x mine) goes w act acts slot h)

  pub states_of_slot : GoesAlone → SlotGoesThroughStatesOverActs
  states_of_slot goes w [] slot h = refl
  states_of_slot goes w (act ∷ acts) slot h =
      let u = act_after w act in
      let n = w.sight.config.network in
      let after = own_after n slot (slice_get w.subscribers slot) (own_act slot w.sight (strangers_in w) act) in
      ap (λ (x : Option SubscriberView). option_map (λ (y : SubscriberView). states_of y.solo) x ∷ states_over slot u acts) (slot_act goes w act slot h)
      ∙ ap (λ (ss : List (Option States)). option_map (λ (y : SubscriberView). states_of y.solo) after ∷ ss)
      (states_of_slot goes u acts slot (kept_on w act h)
      ∙ own_on (λ n x mine. own_states_over n slot x mine) goes w act acts slot h)

  pub leaves_slot : GoesAlone → SlotGoesAloneOverActs
  leaves_slot goes w [] slot h = refl
  leaves_slot goes w (act ∷ acts) slot h =
      leaves_slot goes (act_after w act) acts slot (kept_on w act h)
      ∙ own_on (λ n x mine. own_run_over n slot x mine) goes w act acts slot h

  -- ---- a stranger

  pub tells_stranger : RepliesSo → StrangerIsToldOverActs
  tells_stranger so w [] id h = refl
  tells_stranger so w (act ∷ acts) id h =
      let u = act_after w act in
      let t = stranger_step w.sight.profiles id (stranger_at id w.strangers) (act_input w.sight id act) in
      ap (λ (zs : List Told). zs ∷ told (is_stranger id) (acts_replies u acts)) (stranger_told_act so w act id h.rising)
      ∙ ap (λ (zs : List (List Told)). map answer_told t.sent ∷ zs) (tells_stranger so u acts id (kept_on w act h)
      ∙ ap (λ (s : Sight). stranger_told_over s id (stranger_at id u.strangers) acts) (sight_act w act)
      ∙ ap (λ (x : Option Stranger). stranger_told_over (sight_acted w.sight act) id x acts) (stranger_act w act id h.rising))

  pub leaves_stranger : StrangerGoesAloneOverActs
  leaves_stranger w [] id h = refl
  leaves_stranger w (act ∷ acts) id h =
      let u = act_after w act in
      leaves_stranger u acts id (kept_on w act h)
      ∙ ap (λ (s : Sight). stranger_run_over s id (stranger_at id u.strangers) acts) (sight_act w act)
      ∙ ap (λ (x : Option Stranger). stranger_run_over (sight_acted w.sight act) id x acts) (stranger_act w act id h.rising)

  -- ---- a station

  pub tells_station : RepliesSo → StationIsToldOverActs
  tells_station so w [] e h = refl
  tells_station so w (act ∷ acts) e h =
      ap (λ (zs : List Told). zs ∷ told (is_station e) (acts_replies (act_after w act) acts)) (station_told_act so w act e h.rising)
      ∙ ap (λ (zs : List (List Told)). station_sent_at w.sight e act ∷ zs) (tells_station so (act_after w act) acts e (kept_on w act h)
      ∙ ap (λ (s : Sight). station_told_over s e acts) (sight_act w act))

  pub leaves_station : StationGoesAloneOverActs
  leaves_station w [] e h lt = refl
  leaves_station w (act ∷ acts) e h lt =
      let there : e < length w.sight.stations = subst (λ (n : ℕ). e < n) (sym h.stations) lt in
      leaves_station (act_after w act) acts e (kept_on w act h) lt
      ∙ ap (λ (s : Sight). station_run_over s e (station_at s.stations e) acts) (sight_act w act)
      ∙ ap (λ state. station_run_over (sight_acted w.sight act) e state acts) (station_act w.sight act e there)

  -- ---- the order

  pub tells_in_order : RepliesSo → RepliesToActsAreInOrder
  tells_in_order so w [] h = tt
  tells_in_order so w (Happens event ∷ acts) h =
      order_cons (event_fault w.sight event) (outputs w event) (acts_replies (act_after w (Happens event)) acts)
      (λ is. (so w event (outputs w event) h.rising is).order)
      (tells_in_order so (act_after w (Happens event)) acts (kept_on w (Happens event) h))
  tells_in_order so w (Adds p ∷ acts) h = (tt, tells_in_order so (act_after w (Adds p)) acts (kept_on w (Adds p) h))
  tells_in_order so w (Gives slot v ∷ acts) h =
      (tt, tells_in_order so (act_after w (Gives slot v)) acts (kept_on w (Gives slot v) h))
