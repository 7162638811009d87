-- What is known where a step takes an action: which item it is, what is sent, what the state before the step was.
use Rattle.std.specs.Prelude.{◌≡◌, ◌⊎◌, ℕ, Bool, true, false, List, Option, Some, None}
use Rattle.s1ap_causes.specs.declared.cause.Cause.{Cause}
use Rattle.s1ap_pdus.specs.declared.pdu.Pdu.{Pdu}
use Rattle.nas_elements.specs.Capability.{has_eia2}
use Rattle.nas_messages.specs.declared.protection.SecurityHeader.{SecurityHeader}
use Rattle.nas_messages.specs.declared.protection.SecurityHeader.TheVariants.{IntegrityProtectedCiphered, NewContext}
use Rattle.mme_types.specs.Events.{Item, Initial, Claim, Message, Tick}
use Rattle.mme_signalling.specs.declared.cause.EmmCause.TheVariants.{SynchFailure}
use Rattle.mme_signalling.specs.declared.heard.Heard.TheVariants as heards
use Rattle.mme_signalling.specs.Causes.{emm_cause_code}
use Rattle.mme_signalling.specs.Hearing.{heard}
use Rattle.mme_signalling.specs.Messages.{security_mode_command}
use Rattle.mme_signalling.specs.Pdus.{error_indication, path_switch_failure}
use Rattle.emm_state.specs.declared.solo.Phase.{Phase}
use Rattle.emm_state.specs.declared.solo.Phase.TheVariants.{Deregistered, Authenticating, SecurityMode, EsmInformation, Accepting, Detaching}
use Rattle.emm_state.specs.declared.solo.Protection.TheVariants.{Under}
use Rattle.emm_state.specs.declared.solo.Repeat.{Repeat}
use Rattle.emm_state.specs.declared.solo.Repeat.TheVariants as repeats
use Rattle.emm_state.specs.declared.solo.Solo.{Solo}
use Rattle.emm_state.specs.Phases.{is}
use Rattle.emm_machine.specs.Attaching.{is_plain}
use Rattle.laws_subscriber.specs.Keeps.{request_in}
use Rattle.laws_subscriber.specs.Proof.{uplink_nas}
use Rattle.laws_subscriber.specs.Unproved.{begins_attach}
use Rattle.laws_mme.specs.Network.{IsOfNetwork}

-- ---- what an item says

-- the station that it comes from
abbrev pub station_of : Item → Option ℕ
station_of (Initial m) = Some m.station
station_of (Claim id m) = Some m.station
station_of (Message m) = Some m.station
station_of _ = None

-- and the phone's number there
abbrev pub number_of : Item → Option ℕ
number_of (Initial m) = Some m.enb_ue_id
number_of (Claim id m) = Some m.enb_ue_id
number_of (Message m) = Some m.enb_ue_id
number_of _ = None

-- an ATTACH REQUEST with this capability, which has EIA2 (TS 24.301 clauses 5.5.1.2.2, 9.9.3.34)
pub record AsksToAttach (item : Item) (capability : List ℕ) : Type 0 where
  pub begins : begins_attach item ≡ true
  pub combined : Bool
  pub esm : List ℕ
  pub request : request_in item ≡ heards.AttachRequest combined capability esm
  pub protects : has_eia2 capability ≡ true

-- AUTHENTICATION FAILURE with the cause synch failure, while a challenge is out (TS 24.301 clause 5.4.2.6 e)
pub record FailsToSynchronise (solo : Solo) (item : Item) : Type 0 where
  pub challenged : solo.phase ≡ Authenticating
  pub nas : List ℕ
  pub carried : uplink_nas item ≡ Some nas
  pub plain : is_plain nas ≡ true
  pub told : heard nas ≡ heards.AuthenticationFailure (emm_cause_code SynchFailure)

-- ---- where an action is taken

-- past the proof and not at rest
abbrev pub is_under_way : Phase → Bool
is_under_way EsmInformation = true
is_under_way Accepting = true
is_under_way Detaching = true
is_under_way _ = false

-- a protected one has the header of a context in use, or is sent again at a tick
abbrev pub MayProtect : Solo → Item → SecurityHeader → List ℕ → Type 0
MayProtect solo item header nas =
    (header ≡ IntegrityProtectedCiphered) ⊎ ((item ≡ Tick) × (solo.repeat ≡ Some (repeats.Nas (Under header) nas)))

-- SECURITY MODE COMMAND for a phone that was challenged and answers, with the capability that it asked with
pub record AsksForSecurity (before now : Solo) (item : Item) (header : SecurityHeader) (nas : List ℕ) : Type 0 where
  pub challenged : before.phase ≡ Authenticating
  pub answer : List ℕ
  pub carried : uplink_nas item ≡ Some answer
  pub phase : now.phase ≡ SecurityMode
  pub asked : now.asked ≡ before.asked
  pub header_is : header ≡ NewContext
  pub ksi : ℕ
  pub command : nas ≡ security_mode_command ksi now.asked.capability

-- one that is sent again has the header of a context in use, or is that command
abbrev pub MayAwait : Solo → Solo → Item → SecurityHeader → List ℕ → Type 0
MayAwait before now item header nas = (header ≡ IntegrityProtectedCiphered) ⊎ AsksForSecurity before now item header nas

-- the next vector is taken for an ATTACH REQUEST, or for a phone that couldn't tell that the network is fresh
abbrev pub MayChallenge : Solo → Item → Solo → Type 0
MayChallenge before item now =
    (now.next_vector ≡ before.next_vector)
    × (AsksToAttach item now.asked.capability ⊎ (FailsToSynchronise before item × (now ≡ before)))

-- ERROR INDICATION, or PATH SWITCH REQUEST FAILURE (TS 36.413 clauses 8.7.2, 8.4.4.3)
abbrev pub IsIndication : Pdu (List ℕ) → Type 0
IsIndication message =
    (id : ℕ) × (enb_ue_id : ℕ) × (cause : Cause)
    × ((message ≡ error_indication id enb_ue_id cause) ⊎ (message ≡ path_switch_failure id enb_ue_id cause))

-- paging goes once more to where it went, for the same M-TMSI
pub record PagesAgain (before now : Solo) (es : List ℕ) : Type 0 where
  pub was : before.repeat ≡ Some (repeats.Paging es)
  pub kept : now.repeat ≡ Some (repeats.Paging es)
  pub tai : now.tai ≡ before.tai
  pub tmsi : now.tmsi ≡ before.tmsi

-- a bearer changes for an ATTACH REQUEST, or of a phone that is being served
abbrev pub MayBear : Item → Solo → Type 0
MayBear item now = (begins_attach item ≡ true) ⊎ (is Deregistered now.phase ≡ false)

-- what is said is a message that a network sends, or the one that was to be sent again
abbrev pub IsAgain : Option Repeat → List ℕ → Type 0
IsAgain (Some (repeats.Nas protection kept)) nas = nas ≡ kept
IsAgain _ nas = ⊥

abbrev pub IsToldAs : Solo → List ℕ → Type 0
IsToldAs solo nas = IsOfNetwork nas ⊎ IsAgain solo.repeat nas
