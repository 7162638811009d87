-- A message with the id of a connection reaches its subscriber alone.
use Rattle.std.proofs.Common.{◌≡◌, ◌<◌, ℕ, zero, suc, Bool, true, false, cond, inl, inr, List, [], ◌∷◌, length, Option, Some, None, Result, Ok, sym, ◌∙◌, ap, subst, arith}
use Rattle.std.specs.Prelude.{◌&&◌, nat_lt, slice_get}
use Rattle.std.specs.Borrow.{Bor}
use Rattle.std.proofs.lemmas.Bool.Decides.{nat_tests}
use Rattle.std.proofs.lemmas.Option.{none-some}
use Rattle.s1ap_elements.specs.declared.station.SupportedTa.{SupportedTa}
use Rattle.s1ap_rows.specs.declared.fault.S1apFault.{S1apFault}
use Rattle.s1ap_pdus.specs.declared.pdu.Pdu.{Pdu}
use Rattle.s1ap_pdus.specs.declared.pdu.Pdu.TheVariants as pdu
use Rattle.s1ap_pdus.specs.Pdus.{decoded}
use Rattle.identity_slots.specs.declared.profile.Profile.{Profile}
use Rattle.identity_slots.specs.Ids.{is_of_slot, slot_in, slots, strangers}
use Rattle.identity_slots.specs.Provisioned.{slot_of_id}
use Rattle.mme_types.specs.declared.connection.Connection.{Connection}
use Rattle.mme_types.specs.declared.event.UeMessage.{UeMessage}
use Rattle.mme_types.specs.declared.network.Network.{Network}
use Rattle.mme_types.specs.declared.stations.StationState.{StationState}
use Rattle.mme_types.specs.declared.stations.StationState.TheVariants.{Ready}
use Rattle.mme_types.specs.Events.{Item, Message}
use Rattle.mme_types.specs.Events as items
use Rattle.mme_types.specs.Stations.{station_at}
use Rattle.emm_machine.specs.SubscriberView.{SubscriberView}
use Rattle.stranger_machine.specs.declared.state.Stranger.{Stranger}
use Rattle.stranger_machine.specs.declared.state.Stranger.TheVariants.{Held}
use Rattle.stranger_machine.specs.Machine.{receives, stranger_step}
use Rattle.mme_routing.specs.Destinations.{Destination, for_one, if_called, item_at}
use Rattle.mme_routing.specs.Destinations as to
use Rattle.mme_routing.specs.Outcomes.{Outcome, goes_to, message_by_id, message_of_slot, outcome_of, outcome_of_message, phone_message_if, ue_message_in}
use Rattle.mme_core.specs.declared.event.Event.TheVariants.{In as InEvent}
use Rattle.mme_core.specs.declared.event.StepFault.TheVariants.{NotUp}
use Rattle.mme_core.specs.Sight.{Sight}
use Rattle.mme_core.specs.World.{happens, if_down, items_of, strangers_in, unless}
use Rattle.laws_apart.specs.Alone.{IsOfStranger, IsOwn}
use Rattle.laws_mme.specs.Reached.{MessagesReach}

-- ids of slots are below those of strangers
own_low : (slot id : ℕ) → slot < slots → IsOwn slot id → id < strangers
own_low slot id low own = omega (arith, low, own)

stranger_high : (k : Connection) → IsOfStranger k → k.id < strangers → ⊥
stranger_high k h low =
    let made = h.made in
    absurd (omega (arith, made, low))

within : (ws : List SubscriberView) (slot : ℕ) (x : SubscriberView) → slice_get ws slot ≡ Some x → slot < length ws
within [] slot x at = absurd (cc at)
within (w ∷ ws) zero x at = omega arith
within (w ∷ ws) (suc slot) x at = let less = within ws slot x at in omega (arith, less)

-- what a station that is set up makes of such a message
by_its_id : (n : Network) (ps : List Profile) (e : ℕ) (tas : List SupportedTa) (p : Pdu (List ℕ)) (m : UeMessage (List ℕ))
    → ue_message_in e p ≡ Some m
    → outcome_of_message n ps e (Ready tas) p ≡ message_by_id ps m
by_its_id n ps e tas (pdu.S1SetupRequest x) m is = absurd (none-some m is)
by_its_id n ps e tas (pdu.Reset x) m is = absurd (none-some m is)
by_its_id n ps e tas (pdu.ErrorIndication x) m is = absurd (none-some m is)
by_its_id n ps e tas (pdu.ResetAcknowledge x) m is = absurd (none-some m is)
by_its_id n ps e tas (pdu.InitialUeMessage x) m is = absurd (none-some m is)
by_its_id n ps e tas p m is = ap (phone_message_if ps e (Ready tas)) is

happens_by_id : (s : Sight) (e : ℕ) (octets : Bor (List ℕ)) (tas : List SupportedTa) (p : Pdu (List ℕ)) (m : UeMessage (List ℕ))
    → station_at s.stations e ≡ Ready tas
    → decoded octets.now ≡ Ok p → ue_message_in e p ≡ Some m → happens s (InEvent e octets) ≡ message_by_id s.profiles m
unfolding happens
happens_by_id s e octets tas p m up read is =
    ap (λ (state : StationState). outcome_of s.config.network s.profiles e state (decoded octets.now)) up
    ∙ (ap (λ (r : Result (Pdu (List ℕ)) S1apFault). outcome_of s.config.network s.profiles e (Ready tas) r) read ∙ by_its_id s.config.network s.profiles e tas p m is)

-- where it goes
low_test : (id : ℕ) → id < strangers → is_of_slot id ≡ true
low_test id low = grind (arith, nat_tests)

high_test : (id : ℕ) → (id < strangers → ⊥) → is_of_slot id ≡ false
high_test id high = grind (arith, nat_tests)

-- the slot of an id that is made of one
slot_found : (id slot : ℕ) (ps : List Profile) → id < strangers → slot_in id ≡ slot → slot < length ps
    → slot_of_id id ps ≡ Some slot
slot_found id slot ps low own there =
    let of : is_of_slot id ≡ true = low_test id low in
    let less : nat_lt (slot_in id) (length ps) ≡ true =
    ap (λ (n : ℕ). nat_lt n (length ps)) own ∙ within_test slot (length ps) there in
    ap (λ (b : Bool). cond (b && nat_lt (slot_in id) (length ps)) (Some (slot_in id)) None) of
    ∙ (ap (λ (b : Bool). cond b (Some (slot_in id)) None) less ∙ ap (λ (n : ℕ). Some n) own)
  where
    within_test : (a b : ℕ) → a < b → nat_lt a b ≡ true
    within_test a b h = grind (arith, nat_tests)

own_reached : (ps : List Profile) (g : ℕ → Option Stranger) (slot : ℕ) (m : UeMessage (List ℕ)) (other : ℕ)
    → m.mme_ue_id < strangers → IsOwn slot m.mme_ue_id → slot < length ps
    → item_at (message_by_id ps m).destination ps g other ≡ for_one slot (Message m) other
own_reached ps g slot m other low own there =
    ap (λ (b : Bool). let o : Outcome = cond b (message_of_slot (slot_of_id m.mme_ue_id ps) m) (goes_to (to.Stranger m)) in item_at o.destination ps g other) (low_test m.mme_ue_id low)
    ∙ ap (λ (found : Option ℕ). item_at (message_of_slot found m).destination ps g other)
    (slot_found m.mme_ue_id slot ps low own there)

called : (ps : List Profile) (g : ℕ → Option Stranger) (slot : ℕ) (m : UeMessage (List ℕ)) (other : ℕ)
    → g m.mme_ue_id ≡ Some (Held slot)
    → item_at (to.Stranger m) ps g other ≡ for_one slot (Message m) other
unfolding stranger_step receives
called ps g slot m other held = ap (λ (s : Option Stranger). if_called (receives ps s m).call other) held

held_reached : (ps : List Profile) (g : ℕ → Option Stranger) (slot : ℕ) (m : UeMessage (List ℕ)) (other : ℕ)
    → (m.mme_ue_id < strangers → ⊥) → g m.mme_ue_id ≡ Some (Held slot)
    → item_at (message_by_id ps m).destination ps g other ≡ for_one slot (Message m) other
held_reached ps g slot m other high held =
    ap (λ (b : Bool). let o : Outcome = cond b (message_of_slot (slot_of_id m.mme_ue_id ps) m) (goes_to (to.Stranger m)) in item_at o.destination ps g other) (high_test m.mme_ue_id high)
    ∙ called ps g slot m other held

pub messages_reach : MessagesReach
messages_reach w slot k e octets tas p m other many h has up read is same =
    let ps = w.sight.profiles in
    let g = strangers_in w in
    let there = within w.subscribers slot has.subscriber has.there in
    let few = h.few in
    let low : slot < slots = omega (arith, there, few) in
    let provided : slot < length ps = omega (arith, there, many) in
    let goes : item_at (message_by_id ps m).destination ps g other ≡ for_one slot (Message m) other =
    elim (h.apart slot has.subscriber k has.there has.connected) [
      | inl own ↦ own_reached ps g slot m other (subst (λ (id : ℕ). id < strangers) (sym same) (own_low slot k.id low own)) (subst (IsOwn slot) (sym same) own) provided
      | inr held ↦ held_reached ps g slot m other (λ less. stranger_high k held.0 (subst (λ (id : ℕ). id < strangers) same less)) (ap g same ∙ held.1)
    ] in
    ap (λ (state : StationState). unless (if_down state (Some NotUp) None) items.Nothing (items_of w.sight g (InEvent e octets) other)) up
    ∙ (ap (λ (o : Outcome). item_at o.destination ps g other) (happens_by_id w.sight e octets tas p m up read is) ∙ goes)
