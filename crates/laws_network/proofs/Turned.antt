-- A stranger's turn leaves it in range, and what it calls a subscriber with is in range.
use Rattle.std.proofs.Common.{ℕ, ◌^◌, ◌<◌, Bool, true, false, cond, List, [], Option, Some, None, subst}
use Rattle.std.specs.Prelude.{◌==◌, ◌&&◌, nat_lt}
use Rattle.std.proofs.lemmas.Bool.{cond_both, eqb-true}
use Rattle.identity_slots.specs.declared.profile.Profile.{Profile}
use Rattle.identity_slots.specs.Ids.{station_in}
use Rattle.identity_slots.specs.Provisioned.{slot_of_imsi}
use Rattle.mme_types.specs.declared.event.Entry.{Entry}
use Rattle.mme_types.specs.declared.event.UeBody.{UeBody}
use Rattle.mme_types.specs.declared.event.UeBody.TheVariants.{Uplink, UeContextReleaseRequest, UeContextReleaseComplete, PathSwitch}
use Rattle.mme_types.specs.declared.event.UeMessage.{UeMessage}
use Rattle.mme_types.specs.declared.octets.Answer.{Answer}
use Rattle.mme_types.specs.Events.{Claim}
use Rattle.stranger_machine.specs.declared.state.KeptEntry.{KeptEntry}
use Rattle.stranger_machine.specs.declared.state.Stranger.{Stranger}
use Rattle.stranger_machine.specs.declared.state.Stranger.TheVariants.{Waiting, Held}
use Rattle.stranger_machine.specs.declared.turn.Notice.{Notice}
use Rattle.stranger_machine.specs.declared.turn.Notice.TheVariants.{Tick, Gone, Listed}
use Rattle.stranger_machine.specs.Machine.{Ask, Refuse, TurnAway, Input, Welcome, begins, checked_for_pair, claimed_by, displaced_by, identified, is_meant, loses, meet, notes, receives, receives_own, receives_waiting, stranger_step, ticks, unlists, waits, welcomed}
use Rattle.stranger_machine.specs.Machine as inputs
use Rattle.stranger_machine.specs.Turns.{Call, Turn, as_entry, as_kept, closing, stays}
use Rattle.mme_routing.specs.Destinations.{Destination, input_for}
use Rattle.mme_routing.specs.Destinations as to
use Rattle.laws_network.specs.SubscriberRanges.{ItemInRange, MessageInRange}
use Rattle.laws_network.specs.WorldRanges.{StrangerInRange}
use Rattle.laws_network.proofs.Routed.{DestinationInRange}

-- ---- what reaches a stranger, and what it does

abbrev pub InputInRange : ℕ → Input → Type 0
InputInRange id inputs.Nothing = Unit {0}
InputInRange id (inputs.Begins m) = ItemInRange (Claim id m)
InputInRange id (inputs.Receives m) = MessageInRange m
InputInRange id (inputs.Notes notice) = Unit {0}

pub input_in_range : (d : Destination) (id : ℕ) → DestinationInRange d → InputInRange id (input_for d id)
input_in_range (to.Beginner n m) id fits =
    cond_both (n == id) (inputs.Begins m) inputs.Nothing (InputInRange id)
    (λ is. (subst (λ (k : ℕ). k < 2 ^ 32) (eqb-true n id is) fits.0, fits.1)) (λ is. tt)
input_in_range (to.Stranger m) id fits =
    cond_both (m.mme_ue_id == id) (inputs.Receives m) inputs.Nothing (InputInRange id) (λ is. fits) (λ is. tt)
input_in_range _ id fits = tt

abbrev pub CallInRange : Option Call → Type 0
CallInRange None = Unit {0}
CallInRange (Some c) = ItemInRange c.item

pub record TurnInRange (id : ℕ) (t : Turn) : Type 0 where
  pub stranger : StrangerInRange id t.stranger
  pub call : CallInRange t.call

closes : (id : ℕ) (sent : List Answer) → TurnInRange id (closing sent)
closes id sent = record { stranger = tt; call = tt }

stays_so : (id : ℕ) (s : Option Stranger) (sent : List Answer) → StrangerInRange id s → TurnInRange id (stays s sent)
stays_so id s sent h = record { stranger = h; call = tt }

either : (id : ℕ) (b : Bool) {t u : Turn} → TurnInRange id t → TurnInRange id u → TurnInRange id (cond b t u)
either id true h k = h
either id false h k = k

-- ---- an INITIAL UE MESSAGE

welcomed_so : (id : ℕ) (m : Entry (List ℕ)) (w : Welcome) → ItemInRange (Claim id m)
    → StrangerInRange id (welcomed id (as_kept m) w).stranger
unfolding welcomed
welcomed_so id m Ask h = (h.0, record { enb_ue_id = h.1.enb_ue_id; nas = h.1.nas; tai = h.1.tai })
welcomed_so id m (Refuse nas) h = tt
welcomed_so id m TurnAway h = tt

displaced_so : (id : ℕ) (s : Option Stranger) → CallInRange (displaced_by id s)
displaced_so id None = tt
displaced_so id (Some (Waiting k left repeats)) = tt
displaced_so id (Some (Held slot)) = tt

begun : (id : ℕ) (s : Option Stranger) (m : Entry (List ℕ)) → ItemInRange (Claim id m) → TurnInRange id (begins id s m)
unfolding begins
begun id s m h = record { stranger = welcomed_so id m (meet m.nas) h; call = displaced_so id s }

-- ---- a message with the id

claimed : (id n : ℕ) (o : Option ℕ) (k : KeptEntry) → ItemInRange (Claim n (as_entry k)) → TurnInRange id (claimed_by o n k)
unfolding claimed_by
claimed id n None k fits = closes id _
claimed id n (Some slot) k fits = record { stranger = tt; call = fits }

identified_so : (id n : ℕ) (o : Option (List ℕ)) (ps : List Profile) (k : KeptEntry) (s : Stranger)
    → ItemInRange (Claim n (as_entry k)) → StrangerInRange id (Some s) → TurnInRange id (identified o ps n k s)
unfolding identified
identified_so id n None ps k s fits h = stays_so id (Some s) [] h
identified_so id n (Some imsi) ps k s fits h = claimed id n (slot_of_imsi imsi ps) k fits

own : (id n : ℕ) (body : UeBody (List ℕ)) (ps : List Profile) (k : KeptEntry) (s : Stranger) → ItemInRange (Claim n (as_entry k))
    → StrangerInRange id (Some s) → TurnInRange id (receives_own body ps n k s)
unfolding receives_own
own id n (Uplink nas tai) ps k s fits h = identified_so id n _ ps k s fits h
own id n (UeContextReleaseRequest cause) ps k s fits h = closes id _
own id n _ ps k s fits h = stays_so id (Some s) [] h

paired : (id : ℕ) (ps : List Profile) (m : UeMessage (List ℕ)) (k : KeptEntry) (s : Stranger)
    → ItemInRange (Claim m.mme_ue_id (as_entry k)) → StrangerInRange id (Some s) → TurnInRange id (checked_for_pair ps m k s)
unfolding checked_for_pair
paired id ps m k s fits h =
    either id (k.station == m.station && k.enb_ue_id == m.enb_ue_id) (own id m.mme_ue_id m.body ps k s fits h)
    (stays_so id (Some s) _ h)

waiting : (id : ℕ) (body : UeBody (List ℕ)) (ps : List Profile) (m : UeMessage (List ℕ)) (k : KeptEntry) (s : Stranger)
    → ItemInRange (Claim m.mme_ue_id (as_entry k)) → StrangerInRange id (Some s)
    → TurnInRange id (receives_waiting body ps m k s)
unfolding receives_waiting
waiting id UeContextReleaseComplete ps m k s fits h = stays_so id (Some s) [] h
waiting id PathSwitch ps m k s fits h = stays_so id (Some s) _ h
waiting id _ ps m k s fits h = paired id ps m k s fits h

received : (id : ℕ) (ps : List Profile) (s : Option Stranger) (m : UeMessage (List ℕ)) → MessageInRange m → StrangerInRange id s
    → TurnInRange id (receives ps s m)
unfolding receives
received id ps None m fits h = closes id _
received id ps (Some (Waiting k left repeats)) m fits h = waiting id m.body ps m k (Waiting k left repeats) (fits.mme_ue_id, h.1) h
received id ps (Some (Held slot)) m fits h = record { stranger = tt; call = fits }

-- ---- what comes to all

ticked : (id : ℕ) (s : Option Stranger) → StrangerInRange id s → TurnInRange id (ticks id s)
unfolding ticks waits
ticked id None h = stays_so id None [] tt
ticked id (Some (Waiting k left repeats)) h =
    either id (nat_lt 1 left) (stays_so id (Some (Waiting k _ repeats)) [] h)
    (either id (nat_lt 0 repeats) (stays_so id (Some (Waiting k _ _)) _ h) (closes id _))
ticked id (Some (Held slot)) h = stays_so id (Some (Held slot)) [] tt

noted : (id : ℕ) (s : Option Stranger) (notice : Notice) → StrangerInRange id s → TurnInRange id (notes id s notice)
unfolding notes loses unlists
noted id s Tick h = ticked id s h
noted id s (Gone e) h = either id (station_in id == e) (closes id []) (stays_so id s [] h)
noted id s (Listed e items) h = either id (is_meant id e items) (closes id []) (stays_so id s [] h)

-- ---- the turn

pub turn_in_range : (ps : List Profile) (id : ℕ) (s : Option Stranger) (input : Input) → InputInRange id input
    → StrangerInRange id s → TurnInRange id (stranger_step ps id s input)
unfolding stranger_step
turn_in_range ps id s inputs.Nothing fits h = stays_so id s [] h
turn_in_range ps id s (inputs.Begins m) fits h = begun id s m fits
turn_in_range ps id s (inputs.Receives m) fits h = received id ps s m fits h
turn_in_range ps id s (inputs.Notes notice) fits h = noted id s notice h
