-- What each machine sends: how much, and as what it is read.
use Rattle.std.proofs.Common.{◌≡◌, ◌⊎◌, ◌≤◌, ℕ, ◌+◌, Bool, true, false, inl, inr, List, [], ◌++◌, length, All, Option, Some, None, Ok, refl, ◌∙◌, ap, arith}
use Rattle.std.specs.Prelude.{nat_lt}
use Rattle.std.proofs.lemmas.List.{length-append}
use Rattle.std.proofs.lemmas.List.Elements.{All-append, All-cons, All-nil}
use Rattle.s1ap_causes.specs.declared.cause.Cause.{Cause}
use Rattle.s1ap_elements.specs.declared.phone.Tai.{Tai}
use Rattle.s1ap_pdus.specs.declared.pdu.Pdu.{Pdu}
use Rattle.s1ap_pdus.specs.Pdus.{decoded, encoded}
use Rattle.identity_slots.specs.declared.profile.Profile.{Profile}
use Rattle.identity_slots.specs.Provisioned.{slot_of_imsi}
use Rattle.mme_types.specs.declared.connection.Connection.{Connection}
use Rattle.mme_types.specs.declared.event.Entry.{Entry}
use Rattle.mme_types.specs.declared.event.UeBody.{UeBody}
use Rattle.mme_types.specs.declared.event.UeBody.TheVariants as bodies
use Rattle.mme_types.specs.declared.event.UeMessage.{UeMessage}
use Rattle.mme_types.specs.declared.network.Network.{Network}
use Rattle.mme_types.specs.declared.octets.Answer.{Answer}
use Rattle.mme_types.specs.declared.octets.Mark.{Mark}
use Rattle.mme_types.specs.Answers.{answer_of}
use Rattle.mme_types.specs.Events.{Item, Nothing, Initial, Claim, Message, Displaced, StationGone, ConnectionsGone}
use Rattle.mme_signalling.specs.Pdus.{context_setup, downlink, error_indication, paging, path_switch_acknowledge, path_switch_failure, release_command}
use Rattle.emm_state.specs.declared.setting.Setting.{Setting}
use Rattle.emm_state.specs.declared.solo.Solo.{Solo}
use Rattle.emm_machine.specs.Steps.{solo_step}
use Rattle.stranger_machine.specs.declared.state.KeptEntry.{KeptEntry}
use Rattle.stranger_machine.specs.declared.state.Stranger.{Stranger}
use Rattle.stranger_machine.specs.declared.state.Stranger.TheVariants.{Waiting, Held}
use Rattle.stranger_machine.specs.declared.turn.Notice.{Notice}
use Rattle.stranger_machine.specs.declared.turn.Notice.TheVariants as notices
use Rattle.stranger_machine.specs.Machine as machine
use Rattle.stranger_machine.specs.Machine.{Input, Welcome, Ask, Refuse, TurnAway, stranger_step}
use Rattle.stranger_machine.specs.Turns.{Call, Turn, closing, identity_asked, refused, released, sent_to, stays}
use Rattle.laws_mme.specs.Holds.{Any, Says, sent_holds}
use Rattle.laws_mme.specs.Premises.{IsIndication}
use Rattle.laws_subscriber.specs.Choices.{either}
use Rattle.laws_network.specs.Kinds.{is_for_station, is_for_stranger, is_for_subscriber}

-- ---- kinds

pub to_stranger_downlink : (k : Connection) (nas : List ℕ) → is_for_stranger (downlink k nas) ≡ true
unfolding downlink
to_stranger_downlink k nas = refl

to_stranger_release : (id enb_ue_id : ℕ) (cause : Cause) → is_for_stranger (release_command id enb_ue_id cause) ≡ true
unfolding release_command
to_stranger_release id enb_ue_id cause = refl

to_stranger_error : (id enb_ue_id : ℕ) (cause : Cause) → is_for_stranger (error_indication id enb_ue_id cause) ≡ true
unfolding error_indication
to_stranger_error id enb_ue_id cause = refl

to_stranger_failure : (id enb_ue_id : ℕ) (cause : Cause) → is_for_stranger (path_switch_failure id enb_ue_id cause) ≡ true
unfolding path_switch_failure
to_stranger_failure id enb_ue_id cause = refl

pub to_station_error : (id enb_ue_id : ℕ) (cause : Cause) → is_for_station (error_indication id enb_ue_id cause) ≡ true
unfolding error_indication
to_station_error id enb_ue_id cause = refl

pub to_station_failure : (id enb_ue_id : ℕ) (cause : Cause) → is_for_station (path_switch_failure id enb_ue_id cause) ≡ true
unfolding path_switch_failure
to_station_failure id enb_ue_id cause = refl

to_phone_downlink : (k : Connection) (nas : List ℕ) → is_for_subscriber (downlink k nas) ≡ true
unfolding downlink
to_phone_downlink k nas = refl

to_phone_release : (id enb_ue_id : ℕ) (cause : Cause) → is_for_subscriber (release_command id enb_ue_id cause) ≡ true
unfolding release_command
to_phone_release id enb_ue_id cause = refl

to_phone_error : (id enb_ue_id : ℕ) (cause : Cause) → is_for_subscriber (error_indication id enb_ue_id cause) ≡ true
unfolding error_indication
to_phone_error id enb_ue_id cause = refl

to_phone_failure : (id enb_ue_id : ℕ) (cause : Cause) → is_for_subscriber (path_switch_failure id enb_ue_id cause) ≡ true
unfolding path_switch_failure
to_phone_failure id enb_ue_id cause = refl

to_phone_setup : (n : Network) (p : Profile) (capability : List ℕ) (k : Connection) (key : List ℕ) (nas : Option (List ℕ))
    → is_for_subscriber (context_setup n p capability k key nas) ≡ true
unfolding context_setup
to_phone_setup n p capability k key nas = refl

to_phone_acknowledge : (k : Connection) (hop : List ℕ) (count : ℕ) → is_for_subscriber (path_switch_acknowledge k hop count) ≡ true
unfolding path_switch_acknowledge
to_phone_acknowledge k hop count = refl

to_phone_page : (n : Network) (imsi : List ℕ) (tmsi : ℕ) (tai : Tai) → is_for_subscriber (paging n imsi tmsi tai) ≡ true
unfolding paging
to_phone_page n imsi tmsi tai = refl

to_phone_indication : (message : Pdu (List ℕ)) → IsIndication message → is_for_subscriber message ≡ true
to_phone_indication message is = elim is.3 [
  | inl error ↦ ap is_for_subscriber error ∙ to_phone_error is.0 is.1 is.2
  | inr failure ↦ ap is_for_subscriber failure ∙ to_phone_failure is.0 is.1 is.2
]

-- ---- messages

-- it is read as a message of a kind
pub record IsOfKind (kind : Pdu (List ℕ) → Bool) (a : Answer) : Type 0 where
  pub message : Pdu (List ℕ)
  pub reads : decoded a.octets ≡ Ok message
  pub is : kind message ≡ true

-- at most n messages, of a kind
pub record AreFew (kind : Pdu (List ℕ) → Bool) (n : ℕ) (sent : List Answer) : Type 0 where
  pub few : length sent ≤ n
  pub read : All (IsOfKind kind) sent

pub silent_few : (kind : Pdu (List ℕ) → Bool) (n : ℕ) → AreFew kind n []
silent_few kind n = record { few = omega arith; read = All-nil (IsOfKind kind) }

pub both_few : (kind : Pdu (List ℕ) → Bool) (n m : ℕ) (xs ys : List Answer) → AreFew kind n xs → AreFew kind m ys
    → AreFew kind (n + m) (xs ++ ys)
both_few kind n m xs ys x y =
    let first = x.few in
    let second = y.few in
    record { few = omega (arith, length-append xs ys, first, second); read = All-append (IsOfKind kind) xs ys x.read y.read }

pub more_few : (kind : Pdu (List ℕ) → Bool) (n m : ℕ) (sent : List Answer) → n ≤ m → AreFew kind n sent → AreFew kind m sent
more_few kind n m sent le h = let few = h.few in record { few = omega (arith, le, few); read = h.read }

module _ (written : (m : Pdu (List ℕ)) (os : List ℕ) → encoded m ≡ Some os → decoded os ≡ Ok m) where
  answer_few : (kind : Pdu (List ℕ) → Bool) (station : ℕ) (message : Pdu (List ℕ)) (under : Option Mark) (o : Option (List ℕ))
      → encoded message ≡ o → kind message ≡ true → AreFew kind 1 (answer_of station under o)
  answer_few kind station message under None is of_kind = silent_few kind 1
  answer_few kind station message under (Some octets) is of_kind = record {
    few = omega arith;
    read = All-cons (IsOfKind kind) _ [] (record { message = message; reads = written message octets is; is = of_kind })
        (All-nil (IsOfKind kind));
  }

  pub one_few : (kind : Pdu (List ℕ) → Bool) (station : ℕ) (message : Pdu (List ℕ)) → kind message ≡ true
      → AreFew kind 1 (sent_to station message)
  one_few kind station message of_kind = answer_few kind station message None (encoded message) refl of_kind

  -- ---- one subscriber

  says_of_kind : (s : Setting) (solo : Solo) (item : Item) → Says s solo item Any (IsOfKind is_for_subscriber)
  says_of_kind s solo item = record {
    plain = λ nas x k may told h at octets is. record { message = _; reads = written _ octets is; is = to_phone_downlink k nas };
    protected = λ header nas x k sealed may told h by at octets is.
        record { message = _; reads = written _ octets is; is = to_phone_downlink k sealed.form };
    setup = λ key x k h at octets is. record { message = _; reads = written _ octets is; is = to_phone_setup _ _ _ k key _ };
    setup_with = λ key nas x k sealed told h by at octets is.
        record { message = _; reads = written _ octets is; is = to_phone_setup _ _ _ k key _ };
    released = λ cause x k h at octets is. record { message = _; reads = written _ octets is; is = to_phone_release k.id k.enb_ue_id cause };
    refusal = λ m nas from told h octets is. record { message = _; reads = written _ octets is; is = to_phone_downlink _ nas };
    turned = λ m from h octets is. record { message = _; reads = written _ octets is; is = to_phone_release _ m.enb_ue_id _ };
    indication = λ station message from may octets is.
        record { message = message; reads = written _ octets is; is = to_phone_indication message may };
    acknowledged = λ m c x from has h octets is. record { message = _; reads = written _ octets is; is = to_phone_acknowledge _ _ _ };
    page = λ t es x may given h k d lt octets is. record { message = _; reads = written _ octets is; is = to_phone_page _ _ t x.tai };
  }

  pub phone_of_kind : (s : Setting) (solo : Solo) (item : Item) → All (IsOfKind is_for_subscriber) (solo_step s solo item).sent
  phone_of_kind s solo item = sent_holds s solo item (says_of_kind s solo item)

  -- ---- one stranger

  released_few : (k : Connection) (cause : Cause) → AreFew is_for_stranger 1 (released k cause)
  unfolding released
  released_few k cause = one_few is_for_stranger k.station _ (to_stranger_release k.id k.enb_ue_id cause)

  refused_few : (k : Connection) (nas : List ℕ) → AreFew is_for_stranger 2 (refused k nas)
  unfolding refused
  refused_few k nas =
      both_few is_for_stranger 1 1 _ _ (one_few is_for_stranger k.station _ (to_stranger_downlink k nas)) (released_few k _)

  asked_few : (k : Connection) → AreFew is_for_stranger 1 (identity_asked k)
  unfolding identity_asked
  asked_few k = one_few is_for_stranger k.station _ (to_stranger_downlink k _)

  error_few : (station id enb_ue_id : ℕ) (cause : Cause) → AreFew is_for_stranger 1 (sent_to station (error_indication id enb_ue_id cause))
  error_few station id enb_ue_id cause = one_few is_for_stranger station _ (to_stranger_error id enb_ue_id cause)

  unknown_few : (body : UeBody (List ℕ)) (m : UeMessage (List ℕ)) → AreFew is_for_stranger 1 (machine.unknown body m)
  unfolding machine.unknown
  unknown_few bodies.UeContextReleaseComplete m = silent_few is_for_stranger 1
  unknown_few bodies.PathSwitch m = one_few is_for_stranger m.station _ (to_stranger_failure m.mme_ue_id m.enb_ue_id _)
  unknown_few (bodies.Uplink nas tai) m = error_few m.station m.mme_ue_id m.enb_ue_id _
  unknown_few (bodies.UeContextReleaseRequest cause) m = error_few m.station m.mme_ue_id m.enb_ue_id _
  unknown_few bodies.InitialContextSetupFailure m = error_few m.station m.mme_ue_id m.enb_ue_id _
  unknown_few bodies.Notice m = error_few m.station m.mme_ue_id m.enb_ue_id _

  -- and of a station's, for an id of nobody
  pub unknown_own : (body : UeBody (List ℕ)) (m : UeMessage (List ℕ)) → AreFew is_for_station 1 (machine.unknown body m)
  unfolding machine.unknown
  unknown_own bodies.UeContextReleaseComplete m = silent_few is_for_station 1
  unknown_own bodies.PathSwitch m = one_few is_for_station m.station _ (to_station_failure m.mme_ue_id m.enb_ue_id _)
  unknown_own (bodies.Uplink nas tai) m = one_few is_for_station m.station _ (to_station_error m.mme_ue_id m.enb_ue_id _)
  unknown_own (bodies.UeContextReleaseRequest cause) m = one_few is_for_station m.station _ (to_station_error m.mme_ue_id m.enb_ue_id _)
  unknown_own bodies.InitialContextSetupFailure m = one_few is_for_station m.station _ (to_station_error m.mme_ue_id m.enb_ue_id _)
  unknown_own bodies.Notice m = one_few is_for_station m.station _ (to_station_error m.mme_ue_id m.enb_ue_id _)

-- ---- whom a stranger calls

-- an item at which a subscriber sends nothing, and one of a phone
abbrev pub is_quiet : Item → Bool
is_quiet Nothing = true
is_quiet (Displaced id) = true
is_quiet (StationGone e) = true
is_quiet (ConnectionsGone e items) = true
is_quiet _ = false

abbrev pub is_of_phone : Item → Bool
is_of_phone (Initial m) = true
is_of_phone (Claim id m) = true
is_of_phone (Message m) = true
is_of_phone _ = false

-- nothing is sent where a phone is called
abbrev pub CallsAlone : List Answer → Option Call → Type 0
CallsAlone sent None = Unit {0}
CallsAlone sent (Some c) = (is_quiet c.item ≡ true) ⊎ ((sent ≡ []) × (is_of_phone c.item ≡ true))

pub record IsFewTurn (t : Turn) : Type 0 where
  pub sent : AreFew is_for_stranger 2 t.sent
  pub call : CallsAlone t.sent t.call

module _ (written : (m : Pdu (List ℕ)) (os : List ℕ) → encoded m ≡ Some os → decoded os ≡ Ok m) where
  up_to_two : {sent : List Answer} → AreFew is_for_stranger 1 sent → AreFew is_for_stranger 2 sent
  up_to_two {sent} h = more_few is_for_stranger 1 2 sent (omega arith) h

  ends_few : (sent : List Answer) → AreFew is_for_stranger 2 sent → IsFewTurn (closing sent)
  ends_few sent h = record { sent = h; call = tt }

  stays_few : (s : Option Stranger) (sent : List Answer) → AreFew is_for_stranger 2 sent → IsFewTurn (stays s sent)
  stays_few s sent h = record { sent = h; call = tt }

  none_few : (s : Option Stranger) → IsFewTurn (stays s [])
  none_few s = stays_few s [] (silent_few is_for_stranger 2)

  welcomed_few : (id : ℕ) (k : KeptEntry) (w : Welcome) → IsFewTurn (machine.welcomed id k w)
  unfolding machine.welcomed
  welcomed_few id k Ask = stays_few _ _ (up_to_two (asked_few written _))
  welcomed_few id k (Refuse nas) = ends_few _ (refused_few written _ nas)
  welcomed_few id k TurnAway = ends_few _ (up_to_two (released_few written _ _))

  displaced_alone : (id : ℕ) (s : Option Stranger) (sent : List Answer) → CallsAlone sent (machine.displaced_by id s)
  displaced_alone id None sent = tt
  displaced_alone id (Some (Waiting k left repeats)) sent = tt
  displaced_alone id (Some (Held slot)) sent = inl refl

  begun_few : (id : ℕ) (s : Option Stranger) (m : Entry (List ℕ)) → IsFewTurn (machine.begins id s m)
  unfolding machine.begins
  begun_few id s m = let w = welcomed_few id _ (machine.meet m.nas) in record { sent = w.sent; call = displaced_alone id s _ }

  claimed_few : (o : Option ℕ) (id : ℕ) (k : KeptEntry) → IsFewTurn (machine.claimed_by o id k)
  unfolding machine.claimed_by
  claimed_few None id k = ends_few _ (refused_few written _ _)
  claimed_few (Some slot) id k = record { sent = silent_few is_for_stranger 2; call = inr (refl, refl) }

  identified_few : (o : Option (List ℕ)) (ps : List Profile) (id : ℕ) (k : KeptEntry) (s : Stranger)
      → IsFewTurn (machine.identified o ps id k s)
  unfolding machine.identified
  identified_few None ps id k s = none_few (Some s)
  identified_few (Some imsi) ps id k s = claimed_few (slot_of_imsi imsi ps) id k

  own_few : (body : UeBody (List ℕ)) (ps : List Profile) (id : ℕ) (k : KeptEntry) (s : Stranger)
      → IsFewTurn (machine.receives_own body ps id k s)
  unfolding machine.receives_own
  own_few (bodies.Uplink nas tai) ps id k s = identified_few _ ps id k s
  own_few (bodies.UeContextReleaseRequest cause) ps id k s = ends_few _ (up_to_two (released_few written _ _))
  own_few _ ps id k s = none_few (Some s)

  paired_few : (ps : List Profile) (m : UeMessage (List ℕ)) (k : KeptEntry) (s : Stranger) → IsFewTurn (machine.checked_for_pair ps m k s)
  unfolding machine.checked_for_pair
  paired_few ps m k s =
      either IsFewTurn _ (own_few m.body ps m.mme_ue_id k s)
      (stays_few (Some s) _ (up_to_two (error_few written m.station m.mme_ue_id m.enb_ue_id _)))

  waiting_few : (body : UeBody (List ℕ)) (ps : List Profile) (m : UeMessage (List ℕ)) (k : KeptEntry) (s : Stranger)
      → IsFewTurn (machine.receives_waiting body ps m k s)
  unfolding machine.receives_waiting
  waiting_few bodies.UeContextReleaseComplete ps m k s = none_few (Some s)
  waiting_few bodies.PathSwitch ps m k s = stays_few (Some s) _ (up_to_two (unknown_few written bodies.PathSwitch m))
  waiting_few _ ps m k s = paired_few ps m k s

  received_few : (ps : List Profile) (s : Option Stranger) (m : UeMessage (List ℕ)) → IsFewTurn (machine.receives ps s m)
  unfolding machine.receives
  received_few ps None m = ends_few _ (up_to_two (unknown_few written m.body m))
  received_few ps (Some (Waiting k left repeats)) m = waiting_few m.body ps m k (Waiting k left repeats)
  received_few ps (Some (Held slot)) m = record { sent = silent_few is_for_stranger 2; call = inr (refl, refl) }

  -- an input of its own
  pub turned_few : (ps : List Profile) (id : ℕ) (s : Option Stranger) (input : Input)
      → ((notice : Notice) → input ≡ machine.Notes notice → ⊥) → IsFewTurn (stranger_step ps id s input)
  unfolding stranger_step
  turned_few ps id s machine.Nothing other = none_few s
  turned_few ps id s (machine.Begins m) other = begun_few id s m
  turned_few ps id s (machine.Receives m) other = received_few ps s m
  turned_few ps id s (machine.Notes notice) other = absurd (other notice refl)

  -- ---- at a notice

  ticked_few : (id : ℕ) (s : Option Stranger) → AreFew is_for_stranger 1 (machine.ticks id s).sent
  unfolding machine.ticks machine.waits
  ticked_few id None = silent_few is_for_stranger 1
  ticked_few id (Some (Waiting k left repeats)) =
      either (λ (t : Turn). AreFew is_for_stranger 1 t.sent) (nat_lt 1 left) (silent_few is_for_stranger 1)
      (either (λ (t : Turn). AreFew is_for_stranger 1 t.sent) (nat_lt 0 repeats) (asked_few written _) (released_few written _ _))
  ticked_few id (Some (Held slot)) = silent_few is_for_stranger 1

  pub noted_few : (id : ℕ) (s : Option Stranger) (notice : Notice) → AreFew is_for_stranger 1 (machine.notes id s notice).sent
  unfolding machine.notes machine.loses machine.unlists
  noted_few id s notices.Tick = ticked_few id s
  noted_few id s (notices.Gone e) =
      either (λ (t : Turn). AreFew is_for_stranger 1 t.sent) _ (silent_few is_for_stranger 1) (silent_few is_for_stranger 1)
  noted_few id s (notices.Listed e items) =
      either (λ (t : Turn). AreFew is_for_stranger 1 t.sent) _ (silent_few is_for_stranger 1) (silent_few is_for_stranger 1)

-- nothing is sent at a notice of a station
pub noted_silent : (id : ℕ) (s : Option Stranger) (notice : Notice) → machine.is_of_station notice ≡ true
    → (machine.notes id s notice).sent ≡ []
unfolding machine.notes machine.loses machine.unlists
noted_silent id s notices.Tick of_station = absurd (cc of_station)
noted_silent id s (notices.Gone e) of_station = either (λ (t : Turn). t.sent ≡ []) _ refl refl
noted_silent id s (notices.Listed e items) of_station = either (λ (t : Turn). t.sent ≡ []) _ refl refl
