-- Everyone is told of a tick at a tick alone.
use Rattle.std.proofs.Common.{◌≡◌, ℕ, ◌+◌, ◌^◌, ◌<◌, List, Bool, true, false, Option, Some, None, Result, Ok, Err, refl, ap, arith}
use Rattle.std.specs.Prelude.{if◌then◌else◌, nat_lt}
use Rattle.std.proofs.lemmas.Bool.Decides.{nat_tests}
use Rattle.s1ap_elements.specs.declared.reset.ResetType.{ResetType}
use Rattle.s1ap_elements.specs.declared.reset.ResetType.TheVariants.{All, Part}
use Rattle.s1ap_rows.specs.declared.fault.S1apFault.{S1apFault}
use Rattle.s1ap_pdus.specs.declared.pdu.InitialUeMessage.{InitialUeMessage}
use Rattle.s1ap_pdus.specs.declared.pdu.Pdu.{Pdu}
use Rattle.s1ap_pdus.specs.declared.pdu.Pdu.TheVariants as pdu
use Rattle.s1ap_pdus.specs.Pdus.{decoded}
use Rattle.identity_slots.specs.declared.profile.Profile.{Profile}
use Rattle.identity_slots.specs.Ids.{is_of_slot}
use Rattle.identity_slots.specs.Provisioned.{slot_of_id, slot_of_imsi}
use Rattle.mme_types.specs.declared.event.UeMessage.{UeMessage}
use Rattle.mme_types.specs.declared.network.Network.{Network}
use Rattle.mme_types.specs.declared.stations.StationState.{StationState}
use Rattle.mme_types.specs.declared.stations.StationState.TheVariants.{Down, Up, Ready}
use Rattle.mme_types.specs.Stations.{station_at}
use Rattle.mme_types.specs.Events.{Item, Data, Cancel}
use Rattle.stranger_machine.specs.declared.turn.Notice.TheVariants as notices
use Rattle.mme_routing.specs.Destinations.{Destination, Everyone, Stranger}
use Rattle.mme_routing.specs.Naming.{named_slot}
use Rattle.mme_routing.specs.Outcomes.{Outcome, broadcasts, enters, entry_routed, goes_to, message_of_slot, outcome_of, outcome_of_message, phone_message, phone_message_if, ue_message_in}
use Rattle.mme_routing.specs.Resets.{reset}
use Rattle.mme_core.specs.declared.event.Event.{Event}
use Rattle.mme_core.specs.declared.event.Event.TheVariants.{Up as UpEvent, Lost as LostEvent, In as InEvent, Tick as TickEvent, Data as DataEvent, Cancel as CancelEvent}
use Rattle.mme_core.specs.declared.event.StepFault.TheVariants.{ClockSpent}
use Rattle.mme_core.specs.Sight.{Sight}
use Rattle.mme_core.specs.World.{clock_after, event_fault, happens, to_slot}

-- whether everyone is told of a tick
abbrev is_tick : Destination → Bool
is_tick (Everyone notices.Tick) = true
is_tick _ = false

-- an outcome that isn't one
abbrev IsNoTick : Outcome → Type 0
IsNoTick h = is_tick h.destination ≡ false

-- ---- what a station sends

no_tick_if : (b : Bool) (x y : Outcome) → IsNoTick x → IsNoTick y → IsNoTick (if b then x else y)
no_tick_if true x y h k = h
no_tick_if false x y h k = k

no_tick_reset : (e : ℕ) (state : StationState) (t : ResetType) → IsNoTick (reset e state t)
no_tick_reset e Down t = refl
no_tick_reset e Up t = refl
no_tick_reset e (Ready tas) (All all) = refl
no_tick_reset e (Ready tas) (Part items) = refl

no_tick_entry : (o : Option ℕ) (e : ℕ) (m : InitialUeMessage (List ℕ)) → IsNoTick (entry_routed o e m)
no_tick_entry None e m = refl
no_tick_entry (Some slot) e m = refl

no_tick_enters : (n : Network) (ps : List Profile) (e : ℕ) (state : StationState) (m : InitialUeMessage (List ℕ))
    → IsNoTick (enters n ps e state m)
no_tick_enters n ps e Down m = refl
no_tick_enters n ps e Up m = refl
no_tick_enters n ps e (Ready tas) m = no_tick_entry (named_slot n ps m.nas m.s_tmsi) e m

no_tick_slot : (o : Option ℕ) (m : UeMessage (List ℕ)) → IsNoTick (message_of_slot o m)
no_tick_slot None m = refl
no_tick_slot (Some slot) m = refl

no_tick_phone : (ps : List Profile) (state : StationState) (m : UeMessage (List ℕ)) → IsNoTick (phone_message ps state m)
no_tick_phone ps Down m = refl
no_tick_phone ps Up m = refl
no_tick_phone ps (Ready tas) m =
    no_tick_if (is_of_slot m.mme_ue_id) (message_of_slot (slot_of_id m.mme_ue_id ps) m) (goes_to (Stranger m))
    (no_tick_slot (slot_of_id m.mme_ue_id ps) m) refl

no_tick_phone_if : (ps : List Profile) (e : ℕ) (state : StationState) (o : Option (UeMessage (List ℕ)))
    → IsNoTick (phone_message_if ps e state o)
no_tick_phone_if ps e state (Some m) = no_tick_phone ps state m
no_tick_phone_if ps e state None = refl

no_tick_message : (n : Network) (ps : List Profile) (e : ℕ) (state : StationState) (m : Pdu (List ℕ))
    → IsNoTick (outcome_of_message n ps e state m)
no_tick_message n ps e state (pdu.S1SetupRequest m) = no_tick_if (broadcasts n.plmn m.supported_tas) _ _ refl refl
no_tick_message n ps e state (pdu.Reset m) = no_tick_reset e state m.reset_type
no_tick_message n ps e state (pdu.ErrorIndication m) = refl
no_tick_message n ps e state (pdu.ResetAcknowledge m) = refl
no_tick_message n ps e state (pdu.InitialUeMessage m) = no_tick_enters n ps e state m
no_tick_message n ps e state m = no_tick_phone_if ps e state (ue_message_in e m)

no_tick_heard : (n : Network) (ps : List Profile) (e : ℕ) (state : StationState) (r : Result (Pdu (List ℕ)) S1apFault)
    → IsNoTick (outcome_of n ps e state r)
no_tick_heard n ps e state (Err fault) = refl
no_tick_heard n ps e state (Ok m) = no_tick_message n ps e state m

-- ---- an event

no_tick_called : (o : Option ℕ) (item : Item) → is_tick (to_slot o item) ≡ false
no_tick_called None item = refl
no_tick_called (Some slot) item = refl

below : (b : Bool) → (if b then None else Some ClockSpent) ≡ None → b ≡ true
below true h = refl
below false h = cc

-- the clock moves, and below 2^62
ticks_if : (s : Sight) (event : Event) → is_tick (happens s event).destination ≡ true → event_fault s event ≡ None
    → (s.clock < 2 ^ 62) × (clock_after s.clock event ≡ s.clock + 1)
unfolding happens
ticks_if s (UpEvent e) h fine = absurd cc
ticks_if s (LostEvent e) h fine = absurd cc
ticks_if s (InEvent e octets) h fine =
    let other = no_tick_heard s.config.network s.profiles e (station_at s.stations e) (decoded octets.now) in
    absurd cc
ticks_if s TickEvent h fine =
    let lt = below (nat_lt s.clock (2 ^ 62)) fine in
    (grind (arith, nat_tests), refl)
ticks_if s (DataEvent imsi) h fine =
    let other = no_tick_called (slot_of_imsi imsi s.profiles) (Data s.stations) in
    absurd cc
ticks_if s (CancelEvent imsi) h fine =
    let other = no_tick_called (slot_of_imsi imsi s.profiles) Cancel in
    absurd cc

pub ticks_alone : (s : Sight) (event : Event) → (happens s event).destination ≡ Everyone notices.Tick → event_fault s event ≡ None
    → (s.clock < 2 ^ 62) × (clock_after s.clock event ≡ s.clock + 1)
ticks_alone s event h fine = ticks_if s event (ap is_tick h) fine
