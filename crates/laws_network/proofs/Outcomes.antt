-- What comes of what a station sends: it is sent one message at most, and then the event goes to nobody who sends any; or it goes to a phone.
use Rattle.std.proofs.Common.{◌≡◌, ◌⊎◌, ℕ, Bool, true, false, cond, inl, inr, List, [], Option, Some, None, Result, Ok, Err, refl}
use Rattle.s1ap_causes.specs.declared.cause.Cause.{Cause}
use Rattle.s1ap_elements.specs.declared.reset.ResetType.{ResetType}
use Rattle.s1ap_elements.specs.declared.reset.ResetType.TheVariants as resets
use Rattle.s1ap_elements.specs.declared.station.SupportedTa.{SupportedTa}
use Rattle.s1ap_rows.specs.declared.fault.S1apFault.{S1apFault}
use Rattle.s1ap_pdus.specs.declared.pdu.InitialUeMessage.{InitialUeMessage}
use Rattle.s1ap_pdus.specs.declared.pdu.Pdu.{Pdu}
use Rattle.s1ap_pdus.specs.declared.pdu.Pdu.TheVariants as pdu
use Rattle.s1ap_pdus.specs.Pdus.{decoded, encoded}
use Rattle.identity_slots.specs.declared.profile.Profile.{Profile}
use Rattle.identity_slots.specs.Ids.{is_of_slot}
use Rattle.identity_slots.specs.Provisioned.{slot_of_id}
use Rattle.mme_types.specs.declared.event.UeMessage.{UeMessage}
use Rattle.mme_types.specs.declared.network.Network.{Network}
use Rattle.mme_types.specs.declared.octets.Answer.{Answer}
use Rattle.mme_types.specs.declared.stations.StationState.{StationState}
use Rattle.mme_types.specs.declared.stations.StationState.TheVariants.{Down, Up, Ready}
use Rattle.stranger_machine.specs.Machine.{is_of_station}
use Rattle.stranger_machine.specs.Turns.{sent_to}
use Rattle.mme_routing.specs.Naming.{named_slot}
use Rattle.mme_routing.specs.Destinations.{Destination}
use Rattle.mme_routing.specs.Destinations as to
use Rattle.mme_routing.specs.Outcomes.{Outcome, answered, begins_anew, broadcasts, cause_of, enters, entry_routed, goes_to, indicated, message_of_slot, not_compatible, outcome_of, outcome_of_message, phone_message_if, setup_failure, setup_response, ue_message_in}
use Rattle.mme_routing.specs.Resets.{reset}
use Rattle.laws_network.specs.Kinds.{is_for_station}
use Rattle.laws_network.proofs.SentByMachines.{AreFew, is_of_phone, one_few, silent_few, unknown_own}

-- to nobody, or as a notice of a station
abbrev pub goes_nowhere : Destination → Bool
goes_nowhere to.Nobody = true
goes_nowhere (to.Everyone notice) = is_of_station notice
goes_nowhere _ = false

-- to a phone: a subscriber's or a stranger's
abbrev pub goes_to_phone : Destination → Bool
goes_to_phone (to.Subscriber n item) = is_of_phone item
goes_to_phone (to.Beginner id m) = true
goes_to_phone (to.Stranger m) = true
goes_to_phone _ = false

pub record IsFewOutcome (h : Outcome) : Type 0 where
  pub own : AreFew is_for_station 1 h.sent
  pub goes : (goes_nowhere h.destination ≡ true) ⊎ ((h.sent ≡ []) × (goes_to_phone h.destination ≡ true))

only_sends : (sent : List Answer) → AreFew is_for_station 1 sent → IsFewOutcome (answered sent)
only_sends sent few = record { own = few; goes = inl refl }

only_goes : (d : Destination) → goes_to_phone d ≡ true → IsFewOutcome (goes_to d)
only_goes d phone = record { own = silent_few is_for_station 1; goes = inr (refl, phone) }

pub begins_few : (e : ℕ) (new : Option StationState) (sent : List Answer) → AreFew is_for_station 1 sent
    → IsFewOutcome (begins_anew e new sent)
begins_few e new sent few = record { own = few; goes = inl refl }

module _ (written : (m : Pdu (List ℕ)) (os : List ℕ) → encoded m ≡ Some os → decoded os ≡ Ok m) where
  tells : (e : ℕ) (message : Pdu (List ℕ)) → is_for_station message ≡ true → AreFew is_for_station 1 (sent_to e message)
  tells e message kind = one_few written is_for_station e message kind

  not_now : (e : ℕ) → IsFewOutcome (not_compatible e)
  not_now e = only_sends _ (tells e _ refl)

  set_up_few : (n : Network) (e : ℕ) (tas : List SupportedTa) (b : Bool)
      → IsFewOutcome
      (cond b (begins_anew e (Some (Ready tas)) (sent_to e (setup_response n))) (begins_anew e (Some Up) (sent_to e setup_failure)))
  set_up_few n e tas true = begins_few e (Some (Ready tas)) _ (tells e _ refl)
  set_up_few n e tas false = begins_few e (Some Up) _ (tells e _ refl)

  reset_few : (e : ℕ) (state : StationState) (t : ResetType) → IsFewOutcome (reset e state t)
  reset_few e Down t = not_now e
  reset_few e Up t = not_now e
  reset_few e (Ready tas) (resets.All a) = begins_few e None _ (tells e _ refl)
  reset_few e (Ready tas) (resets.Part items) = record { own = tells e _ refl; goes = inl refl }

  entry_few : (o : Option ℕ) (e : ℕ) (m : InitialUeMessage (List ℕ)) → IsFewOutcome (entry_routed o e m)
  entry_few (Some slot) e m = only_goes _ refl
  entry_few None e m = only_goes _ refl

  enters_few : (n : Network) (ps : List Profile) (e : ℕ) (state : StationState) (m : InitialUeMessage (List ℕ))
      → IsFewOutcome (enters n ps e state m)
  enters_few n ps e Down m = not_now e
  enters_few n ps e Up m = not_now e
  enters_few n ps e (Ready tas) m = entry_few (named_slot n ps m.nas m.s_tmsi) e m

  by_id : (b : Bool) (o : Option ℕ) (m : UeMessage (List ℕ)) → IsFewOutcome (cond b (message_of_slot o m) (goes_to (to.Stranger m)))
  by_id true (Some slot) m = only_goes _ refl
  by_id true None m = only_sends _ (unknown_own written m.body m)
  by_id false o m = only_goes _ refl

  phone_few : (ps : List Profile) (e : ℕ) (state : StationState) (o : Option (UeMessage (List ℕ)))
      → IsFewOutcome (phone_message_if ps e state o)
  phone_few ps e state None = not_now e
  phone_few ps e Down (Some m) = not_now m.station
  phone_few ps e Up (Some m) = not_now m.station
  phone_few ps e (Ready tas) (Some m) = by_id (is_of_slot m.mme_ue_id) (slot_of_id m.mme_ue_id ps) m

  message_few : (n : Network) (ps : List Profile) (e : ℕ) (state : StationState) (p : Pdu (List ℕ))
      → IsFewOutcome (outcome_of_message n ps e state p)
  message_few n ps e state (pdu.S1SetupRequest m) = set_up_few n e m.supported_tas (broadcasts n.plmn m.supported_tas)
  message_few n ps e state (pdu.Reset m) = reset_few e state m.reset_type
  message_few n ps e state (pdu.ErrorIndication m) = only_sends [] (silent_few is_for_station 1)
  message_few n ps e state (pdu.ResetAcknowledge m) = only_sends [] (silent_few is_for_station 1)
  message_few n ps e state (pdu.InitialUeMessage m) = enters_few n ps e state m
  message_few n ps e state p = phone_few ps e state (ue_message_in e p)

  indicated_few : (e : ℕ) (cause : Option Cause) → AreFew is_for_station 1 (indicated e cause)
  indicated_few e None = silent_few is_for_station 1
  indicated_few e (Some cause) = tells e _ refl

  pub outcome_few : (n : Network) (ps : List Profile) (e : ℕ) (state : StationState) (r : Result (Pdu (List ℕ)) S1apFault)
      → IsFewOutcome (outcome_of n ps e state r)
  outcome_few n ps e state (Ok p) = message_few n ps e state p
  outcome_few n ps e state (Err fault) = only_sends _ (indicated_few e (cause_of fault))
