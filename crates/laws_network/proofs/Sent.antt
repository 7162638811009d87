-- A message that has a written form is sent; those for stations have one.
use Rattle.std.proofs.Common.{◌≡◌, ℕ, ◌^◌, ◌<◌, ◌&&◌, Bool, true, false, cond, List, ◌∷◌, ◌++◌, length, Option, Some, None, refl, ap, subst, sym, ◌∙◌, arith}
use Rattle.std.proofs.lemmas.Bool.{and_from}
use Rattle.std.proofs.lemmas.Option.{same_Some}
use Rattle.s1ap_causes.specs.Causes.{cause, typed_cause}
use Rattle.s1ap_causes.specs.declared.cause.Cause.{Cause}
use Rattle.s1ap_causes.specs.declared.cause.Cause.TheVariants.{Nas, Protocol, RadioNetwork}
use Rattle.s1ap_causes.specs.declared.cause.NasCause.TheVariants.{NormalRelease}
use Rattle.s1ap_causes.specs.declared.cause.ProtocolCause.TheVariants.{MessageNotCompatible}
use Rattle.s1ap_causes.specs.declared.cause.RadioNetworkCause.TheVariants.{UnknownMmeUeS1apId}
use Rattle.s1ap_elements.specs.declared.reset.ResetType.{ResetType}
use Rattle.s1ap_elements.specs.declared.station.SupportedTa.{SupportedTa}
use Rattle.s1ap_rows.specs.declared.criticality.Criticality.TheVariants.{Reject, Ignore, Notify}
use Rattle.s1ap_rows.specs.declared.fault.S1apFault.{S1apFault}
use Rattle.s1ap_rows.specs.declared.fault.S1apFault.TheVariants.{Syntax, UnknownProcedure, MissingElement, RefusedElement, RepeatedElement, NoMemory}
use Rattle.s1ap_pdus.specs.declared.pdu.Pdu.{Pdu}
use Rattle.s1ap_pdus.specs.Pdus.{encoded}
use Rattle.mme_types.specs.declared.connection.Connection.{Connection}
use Rattle.mme_types.specs.declared.event.UeBody.TheVariants as bodies
use Rattle.mme_types.specs.declared.network.Network.{Network}
use Rattle.mme_types.specs.declared.octets.Answer.{Answer}
use Rattle.mme_types.specs.Answers.{answer_of}
use Rattle.mme_types.specs.declared.stations.StationState.TheVariants.{Ready, Up}
use Rattle.mme_types.specs.Listed.{ToReset}
use Rattle.mme_signalling.specs.Pdus.{downlink, error_indication, is_extended, path_switch_failure, release_command}
use Rattle.stranger_machine.specs.Machine.{unknown}
use Rattle.mme_signalling.specs.Messages.{identity_request}
use Rattle.stranger_machine.specs.Turns.{identity_asked, refused, released, sent_to}
use Rattle.mme_routing.specs.Outcomes.{begins_anew, broadcasts, cause_of, indicated, indication, setup_failure, setup_response, station_set_up}
use Rattle.mme_routing.specs.Resets.{ends_listed, part_acknowledge, reset, whole_acknowledge}
use Rattle.laws_network.specs.Sizes.{IsShortMessage, most_octets}
use Rattle.laws_network.specs.BuilderLaws.{bytes_long, cause_in_range, cause_size}
use Rattle.laws_network.specs.Ranges.{ConnectionInRange, IsBrief, IsWritten, NetworkInRange}
use Rattle.laws_network.specs.Answered.{AnswersWith, AnswersWithBoth, FaultIsAnswered, IdentityAskedIsSent, IncompatibleIsAnswered, PartResetIsAnswered, RefusedIsSent, ReleasedIsSent, ResetIsAnswered, SetupIsAnswered, UnknownIsAnswered}
use Rattle.laws_network.specs.ListRanges.{ListInRange}
use Rattle.laws_network.specs.Received.{ResetsAreInRange}
use Rattle.laws_network.proofs.Listing.{short_part_acknowledge}

-- ---- one message

answers : (station : ℕ) (message : Pdu (List ℕ)) → IsWritten message → AnswersWith station message (sent_to station message)
answers station message w = (w.0, w.1, ap (answer_of station None) w.1)

both : (station : ℕ) (first second : Pdu (List ℕ)) → IsWritten first → IsWritten second
    → AnswersWithBoth station first second (sent_to station first ++ sent_to station second)
both station first second v w =
    let one : Answer = record { station = station; octets = v.0; under = None } in (
      v.0,
      w.0,
      v.1,
      w.1,
      ap (λ (o : Option (List ℕ)). answer_of station None o ++ sent_to station second) v.1
          ∙ ap (λ (o : Option (List ℕ)). one ∷ answer_of station None o) w.1,
    )

-- ---- the messages for stations

-- what written_sizes' law says
abbrev pub ShortIsWritten : Type 0
ShortIsWritten = (m : Pdu (List ℕ)) → IsShortMessage m → (os : List ℕ) × (encoded m ≡ Some os)

then_done : (b : Bool) → b ≡ true → (b && true) ≡ true
then_done b e = and_from b true e refl

short_setup_response : (n : Network) → NetworkInRange n → IsShortMessage (setup_response n)
short_setup_response n h =
    let plmn : length n.plmn ≡ 3 = bytes_long 3 n.plmn h.plmn in
    let group : length n.group ≡ 2 = bytes_long 2 n.group h.group in
    let code : length n.code ≡ 1 = bytes_long 1 n.code h.code in
    record {
      ranges = then_done _ (then_done _ (and_from _ _ (then_done _ h.plmn) (and_from _ _ (then_done _ h.group) (then_done _ (then_done _ h.code)))));
      size = omega (arith, plmn, group, code);
    }

short_setup_failure : IsShortMessage setup_failure
short_setup_failure = record { ranges = refl; size = omega arith }

short_indication : (c : Cause) → is_extended c ≡ false → IsShortMessage (indication c)
short_indication c known = let size : most_octets cause (typed_cause c) ≡ 22 = cause_size c in record { ranges = then_done _ (cause_in_range c known); size = omega (arith, size) }

short_whole_acknowledge : IsShortMessage whole_acknowledge
short_whole_acknowledge = record { ranges = refl; size = omega arith }

-- the cause of a fault is one of this release
abbrev IsKnownIf : Option Cause → Type 0
IsKnownIf None = Unit {0}
IsKnownIf (Some c) = is_extended c ≡ false

cause_known : (fault : S1apFault) → IsKnownIf (cause_of fault)
cause_known (Syntax f) = refl
cause_known (UnknownProcedure Reject) = refl
cause_known (UnknownProcedure Ignore) = tt
cause_known (UnknownProcedure Notify) = refl
cause_known (MissingElement id) = refl
cause_known (RefusedElement id) = refl
cause_known (RepeatedElement id) = refl
cause_known NoMemory = tt

module _ (short : ShortIsWritten) where
  set_up_if : (n : Network) (e : ℕ) (tas : List SupportedTa) (b : Bool) → NetworkInRange n
      → AnswersWith e (cond b (setup_response n) setup_failure) (cond b (begins_anew e (Some (Ready tas)) (sent_to e (setup_response n))) (begins_anew e (Some Up) (sent_to e setup_failure))).sent
  set_up_if n e tas true h = answers e (setup_response n) (short (setup_response n) (short_setup_response n h))
  set_up_if n e tas false h = answers e setup_failure (short setup_failure short_setup_failure)

  set_up_by : (n : Network) (e : ℕ) (tas : List SupportedTa) (b : Bool) → broadcasts n.plmn tas ≡ b → NetworkInRange n
      → AnswersWith e (cond b (setup_response n) setup_failure) (station_set_up n e tas).sent
  set_up_by n e tas b is h =
      subst (λ (c : Bool). AnswersWith e (cond c (setup_response n) setup_failure) (station_set_up n e tas).sent) is
      (set_up_if n e tas (broadcasts n.plmn tas) h)

  pub setup_is_answered : SetupIsAnswered
  setup_is_answered n e tas h = (λ is. set_up_by n e tas true is h, λ is. set_up_by n e tas false is h)

  pub reset_is_answered : ResetIsAnswered
  reset_is_answered e tas a = answers e whole_acknowledge (short whole_acknowledge short_whole_acknowledge)

  part_answered : (e : ℕ) (items : ToReset) → ListInRange items → AnswersWith e (part_acknowledge items) (ends_listed e items).sent
  part_answered e items fits =
      answers e (part_acknowledge items) (short (part_acknowledge items) (short_part_acknowledge items fits))

  pub part_reset_is_answered : ResetsAreInRange → PartResetIsAnswered
  part_reset_is_answered ranged os e tas m items is part =
      subst (λ (t : ResetType). AnswersWith e (part_acknowledge items) (reset e (Ready tas) t).sent) (sym part)
      (part_answered e items (ranged os m items is part))

  fault_by : (e : ℕ) (o : Option Cause) (c : Cause) → o ≡ Some c → IsKnownIf o → AnswersWith e (indication c) (indicated e o)
  fault_by e None c is known = absurd (cc is)
  fault_by e (Some d) c is known =
      subst (λ (x : Cause). AnswersWith e (indication x) (sent_to e (indication d))) (same_Some d c is)
      (answers e (indication d) (short (indication d) (short_indication d known)))

  pub fault_is_answered : FaultIsAnswered
  fault_is_answered n ps e state fault c is = fault_by e (cause_of fault) c is (cause_known fault)

  pub incompatible_is_answered : IncompatibleIsAnswered
  incompatible_is_answered e =
      answers e (indication (Protocol MessageNotCompatible))
      (short (indication (Protocol MessageNotCompatible)) (short_indication (Protocol MessageNotCompatible) refl))

-- ---- a message with the id of nobody

-- what written_messages' law says
pub record TellsPhones : Type 0 where
  pub nas : (k : Connection) (nas : List ℕ) → ConnectionInRange k → IsBrief 15000 nas → IsWritten (downlink k nas)
  pub release : (id enb_ue_id : ℕ) (c : Cause) → id < 2 ^ 32 → enb_ue_id < 2 ^ 24 → is_extended c ≡ false
      → IsWritten (release_command id enb_ue_id c)
  pub indication : (id enb_ue_id : ℕ) (c : Cause) → id < 2 ^ 32 → enb_ue_id < 2 ^ 24 → is_extended c ≡ false
      → IsWritten (error_indication id enb_ue_id c)
  pub not_switched : (id enb_ue_id : ℕ) (c : Cause) → id < 2 ^ 32 → enb_ue_id < 2 ^ 24 → is_extended c ≡ false
      → IsWritten (path_switch_failure id enb_ue_id c)

module _ (tells : TellsPhones) where
  pub unknown_is_answered : UnknownIsAnswered
  unfolding unknown
  unknown_is_answered m bodies.UeContextReleaseComplete low less = refl
  unknown_is_answered m bodies.PathSwitch low less =
      answers m.station _ (tells.not_switched m.mme_ue_id m.enb_ue_id (RadioNetwork UnknownMmeUeS1apId) low less refl)
  unknown_is_answered m _ low less =
      answers m.station _ (tells.indication m.mme_ue_id m.enb_ue_id (RadioNetwork UnknownMmeUeS1apId) low less refl)

  -- ---- strangers

  pub released_is_sent : ReleasedIsSent
  unfolding released
  released_is_sent k cause ids known = answers k.station _ (tells.release k.id k.enb_ue_id cause ids.id ids.enb_ue_id known)

  pub refused_is_sent : RefusedIsSent
  unfolding refused released
  refused_is_sent k nas ids brief =
      both k.station (downlink k nas) (release_command k.id k.enb_ue_id (Nas NormalRelease)) (tells.nas k nas ids brief)
      (tells.release k.id k.enb_ue_id (Nas NormalRelease) ids.id ids.enb_ue_id refl)

  pub identity_asked_is_sent : IdentityAskedIsSent
  unfolding identity_asked identity_request
  identity_asked_is_sent k ids = answers k.station _ (tells.nas k _ ids (record { few = omega arith; octets = refl }))
