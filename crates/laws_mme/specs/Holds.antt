-- What holds of the state under way and of each message that is sent, action by action; and that it then holds of every step.
use Rattle.std.proofs.Common.{◌≡◌, ◌⊎◌, ℕ, ◌+◌, ◌^◌, Bool, true, false, inl, inr, List, [], ◌∷◌, ◌++◌, All, Option, Some, None, refl, sym, ◌∙◌, ap, subst, cond, append-nil, arith}
use Rattle.std.specs.Prelude.{nat_lt, slice_get}
use Rattle.std.specs.Option.{option_map_or}
use Rattle.std.proofs.lemmas.List.Elements.{All-head, All-push, All-tail}
use Rattle.std.proofs.lemmas.Option.{same_Some}
use Rattle.s1ap_causes.specs.declared.cause.Cause.{Cause}
use Rattle.s1ap_causes.specs.declared.cause.Cause.TheVariants.{Nas}
use Rattle.s1ap_causes.specs.declared.cause.NasCause.TheVariants.{NormalRelease}
use Rattle.s1ap_elements.specs.declared.phone.Tai.{Tai}
use Rattle.s1ap_pdus.specs.declared.pdu.Pdu.{Pdu}
use Rattle.s1ap_pdus.specs.Pdus.{encoded}
use Rattle.nas_messages.specs.declared.protection.SecurityHeader.{SecurityHeader}
use Rattle.nas_messages.specs.declared.protection.SecurityHeader.TheVariants.{IntegrityProtectedCiphered, NewContext}
use Rattle.nas_security.specs.Protecting.{protected_by}
use Rattle.esm_machine.specs.Requests.{inactive}
use Rattle.esm_machine.specs.Sent.{activation}
use Rattle.esm_machine.specs.Sessions.{Session}
use Rattle.identity_slots.specs.declared.profile.Vector.{Vector}
use Rattle.identity_slots.specs.Ids.{id_of_slot, next_counter}
use Rattle.mme_types.specs.declared.connection.Connection.{Connection}
use Rattle.mme_types.specs.declared.event.Entry.{Entry}
use Rattle.mme_types.specs.declared.event.UeMessage.{UeMessage}
use Rattle.mme_types.specs.declared.octets.Answer.{Answer}
use Rattle.mme_types.specs.declared.octets.Mark.{Mark}
use Rattle.mme_types.specs.declared.stations.StationState.{StationState}
use Rattle.mme_types.specs.Answers.{answer_of}
use Rattle.mme_types.specs.Events.{Item, Initial, Claim, Message, StationGone, Tick, Data}
use Rattle.mme_signalling.specs.Messages.{authentication_request}
use Rattle.mme_signalling.specs.Pdus.{context_setup, downlink, paging, path_switch_acknowledge, release_command}
use Rattle.emm_state.specs.declared.draft.Draft.{Draft}
use Rattle.emm_state.specs.declared.draft.Sealed.{Sealed}
use Rattle.emm_state.specs.declared.setting.Setting.{Setting}
use Rattle.emm_state.specs.declared.solo.Context.{Context}
use Rattle.emm_state.specs.declared.solo.Countdown.{Countdown}
use Rattle.emm_state.specs.declared.solo.NasTimer.{NasTimer}
use Rattle.emm_state.specs.declared.solo.NasTimer.TheVariants.{T3413, T3450, T3460}
use Rattle.emm_state.specs.declared.solo.Phase.{Phase}
use Rattle.emm_state.specs.declared.solo.Phase.TheVariants.{Deregistered, Authenticating, SecurityMode, EsmInformation, Accepting, Updating, Registered, Detaching}
use Rattle.emm_state.specs.declared.solo.Protection.TheVariants.{Plain, Under}
use Rattle.emm_state.specs.declared.solo.Repeat.{Repeat}
use Rattle.emm_state.specs.declared.solo.Repeat.TheVariants as repeats
use Rattle.emm_state.specs.declared.solo.Solo.{Solo}
use Rattle.emm_state.specs.Actions.{association_counted, connect, connect_on, disconnected, emit, ended, fall, fallen, is_at, is_registered, leave_old, lost, mac_of, next_id, protect, protect_and_await, refuse, release, resting, seal, sealed_under, send, set_up, set_up_with, start, turn_away, untouched, wipe}
use Rattle.emm_state.specs.Does.{◌>>=◌}
use Rattle.emm_state.specs.KeySets.{ksi_of}
use Rattle.emm_state.specs.Phases.{is}
use Rattle.emm_state.specs.Timers.{reachable_ticks, repeats_of, ticks_of}
use Rattle.emm_machine.specs.Attaching.{activating, asking, challenged, given_tmsi, keyed, new_context, requesting, took}
use Rattle.emm_machine.specs.Connected.{connection_of, hop_after, hopped, next_chaining_count, strike, struck, switched}
use Rattle.emm_machine.specs.Idle.{emit_each, listening, lowered, may_page, page, paged, restarted}
use Rattle.emm_machine.specs.Serving.{active, registered, updating}
use Rattle.emm_machine.specs.Steps.{solo_step}
use Rattle.laws_subscriber.specs.Keeps.{AcceptsDetach, AcceptsDetachUnder, Answers, ForAttach, ForSynch, IsServed, Keeps, MaySend, RefusesAttach, RefusesEsm, RefusesProof, RefusesRequest, Stage, TakesVector, TellsAgain, TellsAgainUnder, TellsPlainly, TellsStatus, TellsStatusUnder, TellsUnder, tai_of}
use Rattle.laws_mme.specs.Premises.{AsksToAttach, IsAgain, IsIndication, IsToldAs, MayAwait, MayBear, MayChallenge, MayProtect, PagesAgain, is_under_way, number_of, station_of}
use Rattle.laws_mme.specs.Network.{AnswersOfNetwork, IsOfNetwork, of_attach_accept, of_attach_reject, of_authentication_reject, of_authentication_request, of_detach_accept, of_emm_status, of_information_request, of_network_detach, of_reaction, of_security_mode_command, of_service_reject, of_update_accept, of_update_reject}
use Rattle.laws_subscriber.specs.Choices.{Whenever, at_some, either, some, then}
use Rattle.laws_subscriber.specs.Walk.{request_begins, step_keeps}

-- ---- what is sent

-- the message, if it has a written form, is sent to the station
abbrev pub Sends : (Answer → Type 0) → ℕ → Pdu (List ℕ) → Option Mark → Type 0
Sends S station message under =
    (octets : List ℕ) → encoded message ≡ Some octets → S (record { station = station; octets = octets; under = under })

-- a message with its protection, as a context gives it
abbrev pub IsSealed : Option Context → SecurityHeader → List ℕ → Sealed → Type 0
IsSealed None header nas sealed = sealed ≡ record { form = []; under = None }
IsSealed (Some x) header nas sealed =
    sealed
    ≡ record {
      form = protected_by (mac_of x) x.security.down_next header nas;
      under = Some (record { place = x.place; count = x.security.down_next });
    }

-- the connection that an INITIAL UE MESSAGE has on the slot's next id
abbrev pub next_connection : Setting → Solo → Entry (List ℕ) → Connection
next_connection s x m =
    record { id = id_of_slot s.slot (next_counter x.associations); station = m.station; enb_ue_id = m.enb_ue_id }

-- paging goes where the tracking area is broadcast, or once more to where it went
abbrev pub MayPage : Solo → Solo → Item → List ℕ → Type 0
MayPage before now item es =
    ((stations : List StationState) × (item ≡ Data stations) × (es ≡ listening before.tai 0 stations) × (now ≡ before)
    × (may_page (untouched before) ≡ true))
    ⊎ ((item ≡ Tick) × PagesAgain before now es)

-- the id of a connection that an item makes: one of the slot's own, that of the stranger who is claimed, or that of a path switch
abbrev pub IsIdBy : Setting → Item → ℕ → Type 0
IsIdBy s (Initial m) id = (counter : ℕ) × (id ≡ id_of_slot s.slot (next_counter counter))
IsIdBy s (Claim n m) id = id ≡ n
IsIdBy s (Message m) id = id ≡ m.mme_ue_id
IsIdBy s _ id = ⊥

-- a connection that an item makes, with the station and the number that it comes from
pub record IsConnectedBy (s : Setting) (item : Item) (k : Connection) : Type 0 where
  pub station : station_of item ≡ Some k.station
  pub number : number_of item ≡ Some k.enb_ue_id
  pub id : IsIdBy s item k.id

-- none, or one that the item makes
abbrev pub MayConnect : Setting → Item → Option Connection → Type 0
MayConnect s item None = Unit {0}
MayConnect s item (Some k) = IsConnectedBy s item k

-- ---- action by action

-- what holds of each message that is sent; `x` is the state under way, and `solo` that before the step
pub record Says (s : Setting) (solo : Solo) (item : Item) (Q : Solo → Type 0) (S : Answer → Type 0) : Type 0 where
  -- to the phone's connection
  pub plain : (nas : List ℕ) (x : Solo) (k : Connection) → MaySend solo item nas ⊎ MayChallenge solo item x → IsToldAs solo nas → Q x
      → x.connection ≡ Some k → Sends S k.station (downlink k nas) None
  pub protected : (header : SecurityHeader) (nas : List ℕ) (x : Solo) (k : Connection) (sealed : Sealed)
      → MayProtect solo item header nas ⊎ MayAwait solo x item header nas → IsToldAs solo nas → Q x
      → IsSealed x.context header nas sealed → x.connection ≡ Some k
      → Sends S k.station (downlink k sealed.form) sealed.under
  pub setup : (key : List ℕ) (x : Solo) (k : Connection) → Q x → x.connection ≡ Some k
      → Sends S k.station (context_setup s.network s.profile x.asked.capability k key None) None
  pub setup_with : (key nas : List ℕ) (x : Solo) (k : Connection) (sealed : Sealed) → IsOfNetwork nas → Q x
      → IsSealed x.context IntegrityProtectedCiphered nas sealed → x.connection ≡ Some k
      → Sends S k.station (context_setup s.network s.profile x.asked.capability k key (Some sealed.form)) sealed.under
  pub released : (cause : Cause) (x : Solo) (k : Connection) → Q x → x.connection ≡ Some k
      → Sends S k.station (release_command k.id k.enb_ue_id cause) None
  -- to where a request comes from
  pub refusal : (m : Entry (List ℕ)) (nas : List ℕ) → item ≡ Initial m → IsOfNetwork nas → Q solo
      → Sends S m.station (downlink (next_connection s solo m) nas) None
  pub turned : (m : Entry (List ℕ)) → item ≡ Initial m → Q solo
      → Sends S m.station (release_command (next_connection s solo m).id m.enb_ue_id (Nas NormalRelease)) None
  -- to where a message comes from
  pub indication : (station : ℕ) (message : Pdu (List ℕ)) → station_of item ≡ Some station → IsIndication message
      → Sends S station message None
  pub acknowledged : (m : UeMessage (List ℕ)) (c : Context) (x : Solo) → item ≡ Message m → x.context ≡ Some c → Q x
      → Sends S m.station (path_switch_acknowledge (connection_of m) (hop_after c) (next_chaining_count c.radio.chaining_count)) None
  -- to where a phone is paged
  pub page : (t : ℕ) (es : List ℕ) (x : Solo) → MayPage solo x item es → x.tmsi ≡ Some t → Q x
      → All (λ e. Sends S e (paging s.network s.profile.imsi t x.tai) None) es

-- what holds of the state
pub record KeepsState (s : Setting) (solo : Solo) (item : Item) (Q : Solo → Type 0) : Type 0 where
  -- the connection, the counters, the context and the countdowns
  pub connection : (c : Option Connection) (x : Solo) → MayConnect s item c → Q x → Q (record x { connection = c })
  pub counted : (n : ℕ) (x : Solo) → Q x → Q (record x { associations = n })
  pub context : (c : Option Context) (x : Solo) → Q x → Q (record x { context = c })
  pub counts : (procedure : Option Countdown) (reachable : Option ℕ) (x : Solo) → Q x
      → Q (record x { procedure = procedure; reachable = reachable })
  -- the registration
  pub wiped : (x : Solo) → Q x
      → Q (record x { phase = Deregistered; context = None; tmsi = None; bearer = inactive; repeat = None; procedure = None; reachable = None })
  pub ended : (x : Solo) → Q x → Q (record x { repeat = None; procedure = None })
  pub registers : (reachable : Option ℕ) (x : Solo) → Q x
      → Q (record x { phase = Registered; repeat = None; procedure = None; reachable = reachable })
  pub updates : (tai : Tai) (initial : Bool) (x : Solo) → tai_of item ≡ Some tai → Q x
      → Q (record x {
        phase = Updating;
        repeat = None;
        procedure = None;
        reachable = None;
        tai = tai;
        asked = record x.asked { initial_update = initial };
      })
  pub moves_on : (phase : Phase) (x : Solo) → is_under_way phase ≡ true → Q x → Q (record x { phase = phase })
  pub tmsi : (x : Solo) → IsServed solo x → Q x
      → Q (record x { tmsis = next_counter x.tmsis; tmsi = Some (id_of_slot s.slot (next_counter x.tmsis)) })
  pub bears : (bearer : Session) (x : Solo) → MayBear item x → Q x → Q (record x { bearer = bearer })
  -- challenge and security mode
  pub asks : (combined : Bool) (capability : List ℕ) (tai : Tai) (x : Solo) → AsksToAttach item capability → tai_of item ≡ Some tai
      → x.phase ≡ Deregistered → x.repeat ≡ None → Q x
      → Q (record x { tai = tai; asked = record { capability = capability; combined_attach = combined; initial_update = false } })
  pub challenges : (v : Vector) (procedure : Option Countdown) (x : Solo) → slice_get s.vectors x.next_vector ≡ Some v
      → MayChallenge solo item x → Q x
      → Q (record x {
        phase = Authenticating;
        next_vector = x.next_vector + 1;
        repeat = Some (repeats.Nas Plain (authentication_request (ksi_of x.next_vector) v.rand v.autn));
        procedure = procedure;
      })
  pub secures : (c : Context) → solo.phase ≡ Authenticating → Q solo → Q (record solo { phase = SecurityMode; context = Some c })
  pub awaits : (header : SecurityHeader) (nas : List ℕ) (procedure : Option Countdown) (c : Option Context) (x : Solo)
      → MayAwait solo x item header nas → IsOfNetwork nas → Q x
      → Q (record x { context = c; repeat = Some (repeats.Nas (Under header) nas); procedure = procedure })
  -- paging
  pub pages : (stations : List StationState) (procedure : Option Countdown) → item ≡ Data stations
      → may_page (untouched solo) ≡ true → Q solo
      → Q (record solo { repeat = Some (repeats.Paging (listening solo.tai 0 stations)); procedure = procedure })
  pub strikes : (station : ℕ) (x : Solo) → item ≡ StationGone station → Q x → Q (record x { repeat = struck station x.repeat })

-- ---- and so of every step

pub record IsHeld (Q : Solo → Type 0) (S : Answer → Type 0) (d : Draft) : Type 0 where
  pub state : Q d.solo
  pub sent : All S d.sent

-- a message has its form, and of the state the context alone has changed
record SealedBy (header : SecurityHeader) (nas : List ℕ) (d : Draft) (y : Sealed × Draft) : Type 0 where
  form : IsSealed d.solo.context header nas y.0
  context : Option Context
  solo : y.1.solo ≡ record d.solo { context = context }
  sent : y.1.sent ≡ d.sent

if_some : {A : Type 0} (P : A → Type 0) (b : Bool) (x y : A) → P x → cond b (Some x) None ≡ Some y → P y
if_some P true x y h is = subst P (same_Some x y is) h
if_some P false x y h is = absurd (cc is)

sealed_at : (header : SecurityHeader) (nas : List ℕ) (d : Draft) (y : Sealed × Draft) (o : Option Context) → d.solo.context ≡ o
    → option_map_or (sealed_under header nas d) o (Some (record { form = []; under = None }, d)) ≡ Some y → SealedBy header nas d y
sealed_at header nas d y None has is =
    subst (SealedBy header nas d) (same_Some (record { form = []; under = None }, d) y is) (record {
      form = subst (λ (c : Option Context). IsSealed c header nas (record { form = []; under = None })) (sym has) refl;
      context = d.solo.context;
      solo = refl;
      sent = refl;
    })
sealed_at header nas d y (Some x) has is =
    if_some (SealedBy header nas d) (nat_lt x.security.down_next (2 ^ 24)) _ y
    (record {
      form = subst
          (λ (c : Option Context). IsSealed c header nas (record {
            form = protected_by (mac_of x) x.security.down_next header nas;
            under = Some (record { place = x.place; count = x.security.down_next });
          }))
          (sym has) refl;
      context = _;
      solo = refl;
      sent = refl;
    })
    is

sealed_so : (header : SecurityHeader) (nas : List ℕ) (d : Draft) (y : Sealed × Draft) → seal header nas d ≡ Some y
    → SealedBy header nas d y
unfolding seal
sealed_so header nas d y is = sealed_at header nas d y d.solo.context refl is

after_sealing : {R : Draft → Type 0} (f : Sealed × Draft → Draft) (o : Option (Sealed × Draft))
    → ((y : Sealed × Draft) → o ≡ Some y → R (f y)) → Whenever R (o >>= λ y. Some (f y))
after_sealing f None each = record { at = λ e is. absurd (cc is) }
after_sealing f (Some y) each = some (each y refl)

each_solo : (message : Pdu (List ℕ)) (es : List ℕ) (d : Draft) → (emit_each message es d).solo ≡ d.solo
unfolding emit
each_solo message [] d = refl
each_solo message (e ∷ es) d = each_solo message es (emit e message None d)

pub page_solo : (s : Setting) (es : List ℕ) (d : Draft) → (page s es d).solo ≡ d.solo
unfolding page
page_solo s es d =
    at_some (λ (e : Draft). e.solo ≡ d.solo) d.solo.tmsi (λ t is. each_solo _ es d) (λ is. refl)

registered_there : (phase : Phase) → is_registered phase ≡ true → is Deregistered phase ≡ false
registered_there Deregistered h = absurd (cc h)
registered_there Updating h = refl
registered_there Registered h = refl
registered_there _ h = refl

accepting_there : (phase : Phase) → is Accepting phase ≡ true → is Deregistered phase ≡ false
accepting_there Deregistered h = absurd (cc h)
accepting_there _ h = refl

module _ (s : Setting) (solo : Solo) (item : Item) {Q : Solo → Type 0} {S : Answer → Type 0} (q : KeepsState s solo item Q)
    (a : Says s solo item Q S) where
  -- ---- what is sent

  answered : (station : ℕ) (message : Pdu (List ℕ)) (under : Option Mark) (sent : List Answer) (o : Option (List ℕ))
      → encoded message ≡ o → Sends S station message under → All S sent → All S (sent ++ answer_of station under o)
  answered station message under sent None is sends h = subst (All S) (sym (append-nil sent)) h
  answered station message under sent (Some octets) is sends h =
      All-push S sent (record { station = station; octets = octets; under = under }) h (sends octets is)

  emitted : (station : ℕ) (message : Pdu (List ℕ)) (under : Option Mark) (d : Draft) → Sends S station message under → All S d.sent
      → All S (emit station message under d).sent
  unfolding emit
  emitted station message under d sends h = answered station message under d.sent (encoded message) refl sends h

  -- a message leaves the state
  emits : (station : ℕ) (message : Pdu (List ℕ)) (under : Option Mark) (d : Draft) → Sends S station message under → IsHeld Q S d
      → IsHeld Q S (emit station message under d)
  unfolding emit
  emits station message under d sends h =
      record { state = h.state; sent = answered station message under d.sent (encoded message) refl sends h.sent }

  sends : (nas : List ℕ) (d : Draft) → MaySend solo item nas → IsToldAs solo nas → IsHeld Q S d → IsHeld Q S (send nas d)
  unfolding send
  sends nas d may told h =
      at_some (IsHeld Q S) d.solo.connection
      (λ k is. emits k.station (downlink k nas) None d (a.plain nas d.solo k (inl may) told h.state is) h) (λ is. h)

  releases : (cause : Cause) (d : Draft) → IsHeld Q S d → IsHeld Q S (release cause d)
  unfolding release disconnected emit
  releases cause d h =
      at_some (IsHeld Q S) d.solo.connection
      (λ k is. record {
        state = q.connection None d.solo tt h.state;
        sent = answered k.station (release_command k.id k.enb_ue_id cause) None d.sent _ refl (a.released cause d.solo k h.state is) h.sent;
      })
      (λ is. h)

  -- ---- protected messages

  -- a message was sent, and of the state the context alone has changed
  record IsProtected (d e : Draft) : Type 0 where
    context : Option Context
    solo_is : e.solo ≡ record d.solo { context = context }
    sent : All S e.sent

  protected_so : (header : SecurityHeader) (nas : List ℕ) (d : Draft) → MayProtect solo item header nas ⊎ MayAwait solo d.solo item header nas
      → IsToldAs solo nas → IsHeld Q S d → Whenever (IsProtected d) (protect header nas d)
  unfolding protect emit
  protected_so header nas d may told h =
      after_sealing _ (seal header nas d)
      (λ y is.
      let by = sealed_so header nas d y is in
      let before : All S y.1.sent = subst (All S) (sym by.sent) h.sent in
      at_some (IsProtected d) y.1.solo.connection
      (λ k at.
      let there : d.solo.connection ≡ Some k = sym (ap (λ (x : Solo). x.connection) by.solo) ∙ at in
      record {
        context = by.context;
        solo_is = by.solo;
        sent = answered k.station (downlink k y.0.form) y.0.under y.1.sent _ refl
            (a.protected header nas d.solo k y.0 may told h.state by.form there) before;
      })
      (λ none. record { context = by.context; solo_is = by.solo; sent = before }))

  protects : (header : SecurityHeader) (nas : List ℕ) (d : Draft) → MayProtect solo item header nas → IsToldAs solo nas → IsHeld Q S d
      → Whenever (IsHeld Q S) (protect header nas d)
  protects header nas d may told h = record {
    at = λ e is.
        let p = (protected_so header nas d (inl may) told h).at e is in
        record { state = subst Q (sym p.solo_is) (q.context p.context d.solo h.state); sent = p.sent };
  }

  awaits : (timer : NasTimer) (header : SecurityHeader) (nas : List ℕ) (d : Draft) → MayAwait solo d.solo item header nas → IsOfNetwork nas
      → IsHeld Q S d
      → Whenever (IsHeld Q S) (protect_and_await timer header nas d)
  unfolding start
  awaits timer header nas d may told h =
      then _ (protected_so header nas d (inr may) (inl told) h)
      (λ e p.
      let procedure : Option Countdown =
      Some (record { timer = timer; left = ticks_of timer; repeats = repeats_of timer }) in
      record {
        state = subst
            (λ (x : Solo). Q (record x { repeat = Some (repeats.Nas (Under header) nas); procedure = procedure }))
            (sym p.solo_is) (q.awaits header nas procedure p.context d.solo may told h.state);
        sent = p.sent;
      })

  starts : (timer : NasTimer) (nas : List ℕ) (d : Draft) → IsOfNetwork nas → IsHeld Q S d
      → IsHeld Q S (start timer (repeats.Nas (Under IntegrityProtectedCiphered) nas) d)
  unfolding start
  starts timer nas d told h =
      record { state = q.awaits IntegrityProtectedCiphered nas _ d.solo.context d.solo (inl refl) told h.state; sent = h.sent }

  sets_up : (key : List ℕ) (d : Draft) → IsHeld Q S d → IsHeld Q S (set_up s key None None d)
  unfolding set_up
  sets_up key d h =
      at_some (IsHeld Q S) d.solo.connection
      (λ k is. emits k.station _ None d (a.setup key d.solo k h.state is) h) (λ is. h)

  sets_up_with : (key nas : List ℕ) (d : Draft) → IsOfNetwork nas → IsHeld Q S d → Whenever (IsHeld Q S) (set_up_with s key nas d)
  unfolding set_up_with set_up
  sets_up_with key nas d told h =
      after_sealing _ (seal IntegrityProtectedCiphered nas d)
      (λ y is.
      let by = sealed_so IntegrityProtectedCiphered nas d y is in
      let held : IsHeld Q S y.1 = record {
        state = subst Q (sym by.solo) (q.context by.context d.solo h.state);
        sent = subst (All S) (sym by.sent) h.sent;
      } in
      at_some (IsHeld Q S) y.1.solo.connection
      (λ k at.
      let there : d.solo.connection ≡ Some k = sym (ap (λ (x : Solo). x.connection) by.solo) ∙ at in
      emits k.station _ y.0.under y.1
      (subst
      (λ (c : List ℕ). Sends S k.station (context_setup s.network s.profile c k key (Some y.0.form)) y.0.under)
      (sym (ap (λ (x : Solo). x.asked.capability) by.solo))
      (a.setup_with key nas d.solo k y.0 told h.state by.form there))
      held)
      (λ none. held))

  -- ---- to where a request or a message comes from

  counted : (d : Draft) → IsHeld Q S d → IsHeld Q S (association_counted d)
  unfolding association_counted
  counted d h = record { state = q.counted (next_counter d.solo.associations) d.solo h.state; sent = h.sent }

  refuses : (m : Entry (List ℕ)) (nas : List ℕ) → item ≡ Initial m → IsOfNetwork nas → IsHeld Q S (untouched solo)
      → IsHeld Q S (refuse s.slot m.station m.enb_ue_id nas (untouched solo))
  unfolding refuse
  refuses m nas is told h =
      emits m.station _ None _ (a.turned m is h.state)
      (emits m.station _ None (association_counted (untouched solo)) (a.refusal m nas is told h.state) (counted (untouched solo) h))

  turns_away : (m : Entry (List ℕ)) → item ≡ Initial m → IsHeld Q S (untouched solo)
      → IsHeld Q S (turn_away s.slot m.station m.enb_ue_id (untouched solo))
  unfolding turn_away
  turns_away m is h = emits m.station _ None (association_counted (untouched solo)) (a.turned m is h.state) (counted (untouched solo) h)

  switches : (m : UeMessage (List ℕ)) (x : Context) (d : Draft) → item ≡ Message m → d.solo.context ≡ Some x → IsHeld Q S d
      → IsHeld Q S (switched m x d)
  unfolding switched
  switches m x d is has h =
      emits m.station _ None _ (a.acknowledged m x d.solo is has h.state)
      (record {
        state = q.context (Some (record x { radio = hopped x })) _ (q.connection (Some (connection_of m)) d.solo
            (record { station = ap station_of is; number = ap number_of is; id = subst (λ (i : Item). IsIdBy s i m.mme_ue_id) (sym is) refl })
            h.state);
        sent = h.sent;
      })

  -- ---- the connection

  leaves : (station enb_ue_id : ℕ) (d : Draft) → IsHeld Q S d → IsHeld Q S (leave_old station enb_ue_id d)
  unfolding leave_old
  leaves station enb_ue_id d h =
      at_some (IsHeld Q S) d.solo.connection
      (λ k is. either (IsHeld Q S) (is_at k station enb_ue_id) h
      (emits k.station _ None d (a.released (Nas NormalRelease) d.solo k h.state is) h)) (λ is. h)

  connected_on : (id station enb_ue_id : ℕ) (d : Draft)
      → IsConnectedBy s item (record { id = id; station = station; enb_ue_id = enb_ue_id }) → IsHeld Q S d
      → IsHeld Q S (connect_on id station enb_ue_id d)
  unfolding connect_on
  connected_on id station enb_ue_id d from h =
      let left = leaves station enb_ue_id d h in
      record { state = q.connection (Some _) (leave_old station enb_ue_id d).solo from left.state; sent = left.sent }

  connected : (m : Entry (List ℕ)) (d : Draft) → item ≡ Initial m → IsHeld Q S d
      → IsHeld Q S (connect s.slot m.station m.enb_ue_id d)
  unfolding connect
  connected m d is h =
      let id = next_id s.slot d in
      connected_on id m.station m.enb_ue_id (association_counted d)
      (record {
        station = ap station_of is;
        number = ap number_of is;
        id = subst (λ (i : Item). IsIdBy s i id) (sym is) (d.solo.associations, refl);
      })
      (counted d h)

  claimed : (id : ℕ) (m : Entry (List ℕ)) (d : Draft) → item ≡ Claim id m → IsHeld Q S d
      → IsHeld Q S (connect_on id m.station m.enb_ue_id d)
  claimed id m d is h =
      connected_on id m.station m.enb_ue_id d
      (record { station = ap station_of is; number = ap number_of is; id = subst (λ (i : Item). IsIdBy s i id) (sym is) refl }) h

  disconnects : (d : Draft) → IsHeld Q S d → IsHeld Q S (disconnected d)
  unfolding disconnected
  disconnects d h = record { state = q.connection None d.solo tt h.state; sent = h.sent }

  -- ---- the registration

  wipes : (d : Draft) → IsHeld Q S d → IsHeld Q S (wipe d)
  unfolding wipe
  wipes d h = record { state = q.wiped d.solo h.state; sent = h.sent }

  ends : (d : Draft) → IsHeld Q S d → IsHeld Q S (ended d)
  unfolding ended
  ends d h = record { state = q.ended d.solo h.state; sent = h.sent }

  rests : (d : Draft) → IsHeld Q S d → IsHeld Q S (resting d)
  unfolding resting ended
  rests d h = record { state = q.registers (Some reachable_ticks) d.solo h.state; sent = h.sent }

  registers : (d : Draft) → IsHeld Q S d → IsHeld Q S (registered d)
  unfolding registered ended
  registers d h = record { state = q.registers d.solo.reachable d.solo h.state; sent = h.sent }

  serves : (d : Draft) → IsHeld Q S d → IsHeld Q S (active Registered d)
  unfolding active ended
  serves d h = record { state = q.registers None d.solo h.state; sent = h.sent }

  updates : (tai : Tai) (initial : Bool) (d : Draft) → tai_of item ≡ Some tai → IsHeld Q S d → IsHeld Q S (updating tai initial d)
  unfolding updating active ended
  updates tai initial d from h = record { state = q.updates tai initial d.solo from h.state; sent = h.sent }

  gives_tmsi : (d : Draft) → IsServed solo d.solo → IsHeld Q S d → IsHeld Q S (given_tmsi s d)
  unfolding given_tmsi
  gives_tmsi d on h = record { state = q.tmsi d.solo on h.state; sent = h.sent }

  -- ---- challenge and context

  asks : (combined : Bool) (capability : List ℕ) (tai : Tai) (d : Draft) → AsksToAttach item capability → tai_of item ≡ Some tai
      → d.solo.phase ≡ Deregistered → d.solo.repeat ≡ None → IsHeld Q S d → IsHeld Q S (asking combined capability tai d)
  unfolding asking
  asks combined capability tai d asked from phase repeat h =
      record { state = q.asks combined capability tai d.solo asked from phase repeat h.state; sent = h.sent }

  challenges : (v : Vector) (d : Draft) → slice_get s.vectors d.solo.next_vector ≡ Some v → MayChallenge solo item d.solo
      → IsHeld Q S d → IsHeld Q S (challenged v d)
  unfolding challenged send start emit
  challenges v d there may h =
      let request = authentication_request (ksi_of d.solo.next_vector) v.rand v.autn in
      let state = q.challenges v (Some (record { timer = T3460; left = ticks_of T3460; repeats = repeats_of T3460 })) d.solo there may h.state in
      at_some (λ (e : Draft). IsHeld Q S (start T3460 (repeats.Nas Plain request) e)) d.solo.connection
      (λ k is. record {
        state = state;
        sent = answered k.station (downlink k request) None d.sent _ refl (a.plain request d.solo k (inr may) (inl (of_authentication_request _ v.rand v.autn)) h.state is) h.sent;
      })
      (λ is. record { state = state; sent = h.sent })

  makes_context : (place : ℕ) (v : Vector) → solo.phase ≡ Authenticating → slice_get s.vectors place ≡ Some v
      → IsHeld Q S (untouched solo) → IsHeld Q S (new_context place v (untouched solo))
  unfolding new_context
  makes_context place v phase there h = record { state = q.secures _ phase h.state; sent = h.sent }

  takes : (x : Context) (count : ℕ) (d : Draft) → IsHeld Q S d → IsHeld Q S (took x count d)
  unfolding took
  takes x count d h = record { state = q.context (Some x) d.solo h.state; sent = h.sent }

  -- ---- paging and countdowns

  emits_each : (message : Pdu (List ℕ)) (es : List ℕ) (d : Draft) → All (λ e. Sends S e message None) es → IsHeld Q S d
      → IsHeld Q S (emit_each message es d)
  emits_each message [] d all h = h
  emits_each message (e ∷ es) d all h =
      emits_each message es (emit e message None d) (All-tail (λ n. Sends S n message None) e es all)
      (emits e message None d (All-head (λ n. Sends S n message None) e es all) h)

  pages_to : (es : List ℕ) (d : Draft) → MayPage solo d.solo item es → IsHeld Q S d → IsHeld Q S (page s es d)
  unfolding page
  pages_to es d may h =
      at_some (IsHeld Q S) d.solo.tmsi (λ t is. emits_each _ es d (a.page t es d.solo may is h.state) h) (λ is. h)

  pages : (stations : List StationState) → item ≡ Data stations → may_page (untouched solo) ≡ true → IsHeld Q S (untouched solo)
      → IsHeld Q S (paged s (listening solo.tai 0 stations) (untouched solo))
  unfolding paged start
  pages stations is may h =
      let es = listening solo.tai 0 stations in
      record {
        state = subst
            (λ (x : Solo). Q (record x {
              repeat = Some (repeats.Paging es);
              procedure = Some (record { timer = T3413; left = ticks_of T3413; repeats = repeats_of T3413 });
            }))
            (sym (page_solo s es (untouched solo))) (q.pages stations _ is may h.state);
        sent = (pages_to es (untouched solo) (inl (stations, is, refl, refl, may)) h).sent;
      }

  strikes : (station : ℕ) (d : Draft) → item ≡ StationGone station → IsHeld Q S d → IsHeld Q S (strike station d)
  unfolding strike
  strikes station d is h = record { state = q.strikes station d.solo is h.state; sent = h.sent }

  lowers : (d : Draft) → IsHeld Q S d → IsHeld Q S (lowered d)
  unfolding lowered
  lowers d h = record { state = q.counts _ _ d.solo h.state; sent = h.sent }

  restarts : (c : Countdown) (d : Draft) → IsHeld Q S d → IsHeld Q S (restarted c d)
  unfolding restarted
  restarts c d h = record { state = q.counts _ d.solo.reachable d.solo h.state; sent = h.sent }

  forgets : (cause : Cause) (d : Draft) → IsHeld Q S d → IsHeld Q S (wipe (release cause d))
  forgets cause d h = wipes (release cause d) (releases cause d h)

  fallen_so : (d : Draft) → IsHeld Q S d → IsHeld Q S (fallen d)
  fallen_so d h = either (IsHeld Q S) (is_registered d.solo.phase) (rests d h) (wipes d h)

  falls : (cause : Cause) (d : Draft) → IsHeld Q S d → IsHeld Q S (fall cause d)
  unfolding fall
  falls cause d h = fallen_so (release cause d) (releases cause d h)

  loses : (d : Draft) → IsHeld Q S d → IsHeld Q S (lost d)
  unfolding lost
  loses d h = fallen_so (disconnected d) (disconnects d h)

  -- ---- what is known there

  told_plainly : (nas : List ℕ) → TellsPlainly solo item nas → IsToldAs solo nas
  told_plainly nas (RefusesAttach cause is) = inl (subst IsOfNetwork (sym is) (of_attach_reject cause None))
  told_plainly nas (RefusesEsm cause session combined capability esm answer request refused is) =
      inl (subst IsOfNetwork (sym is) (of_attach_reject cause (Some answer)))
  told_plainly nas (RefusesProof is) = inl (subst IsOfNetwork (sym is) of_authentication_reject)
  told_plainly nas (AcceptsDetach is) = inl (subst IsOfNetwork (sym is) of_detach_accept)
  told_plainly nas (TellsStatus cause is) = inl (subst IsOfNetwork (sym is) (of_emm_status cause))
  told_plainly nas (TellsAgain ticks was) = inr (subst (λ (o : Option Repeat). IsAgain o nas) (sym was) refl)

  told_under : (header : SecurityHeader) (nas : List ℕ) → TellsUnder solo item header nas
      → MayProtect solo item header nas × IsToldAs solo nas
  told_under header nas (AcceptsDetachUnder in_use is) = (inl in_use, inl (subst IsOfNetwork (sym is) of_detach_accept))
  told_under header nas (TellsStatusUnder in_use cause is) = (inl in_use, inl (subst IsOfNetwork (sym is) (of_emm_status cause)))
  told_under header nas (Answers in_use x count octets accepts came) =
      (inl in_use, inl (subst AnswersOfNetwork came (of_reaction solo.bearer (is EsmInformation solo.phase) octets)))
  told_under header nas (TellsAgainUnder ticks was) =
      (inr (ticks, was), inr (subst (λ (o : Option Repeat). IsAgain o nas) (sym was) refl))

  refuses_so : (nas : List ℕ) → RefusesRequest nas → IsOfNetwork nas
  refuses_so nas told = elim told.1 [
    | inl is ↦ subst IsOfNetwork (sym is) (of_service_reject told.0)
    | inr is ↦ subst IsOfNetwork (sym is) (of_update_reject told.0)
  ]

  may_challenge : (at : Stage) (x : Solo) → TakesVector solo item at x → MayChallenge solo item x
  may_challenge at x (ForAttach is next combined esm request has) = (
    next,
    inl (record {
      begins = request_begins item combined x.asked.capability esm request;
      combined = combined;
      esm = esm;
      request = request;
      protects = has;
    }),
  )
  may_challenge at x (ForSynch nas is same phase on plain told) =
      (ap (λ (y : Solo). y.next_vector) same, inr (record { challenged = phase; nas = nas; carried = on.carried; plain = plain; told = told }, same))

  keeps : Keeps s solo item (λ at d. IsHeld Q S d)
  unfolding new_context keyed requesting activating given_tmsi restarted lowered wipe
  keeps = record {
    sends = λ at nas d may to tells h. sends nas d to (told_plainly nas tells) h;
    protects = λ at header nas d may tells h. let told = told_under header nas tells in protects header nas d told.0 told.1 h;
    commands = λ v r h. awaits T3460 NewContext _ _ (inr (record {
      challenged = r.phase;
      answer = r.nas;
      carried = r.on.carried;
      phase = refl;
      asked = refl;
      header_is = refl;
      ksi = _;
      command = refl;
    })) (of_security_mode_command _ _) h;
    asks_information = λ d h. awaits _ _ _ d (inl refl) (of_information_request d.solo.bearer) h;
    accepts_update = λ grant d same h. awaits _ _ _ d (inl refl) (of_update_accept s.network grant) h;
    tells_detach = λ d h. awaits _ _ _ d (inl refl) of_network_detach h;
    sets_up = λ x d has phase h. sets_up x.radio.kenb d h;
    accepts_attach = λ x grant session d has same bearer h.
        let told = of_attach_accept s.network grant (activation session s.network.apn s.profile.address) in
        then _ (sets_up_with x.radio.kenb _ d told h) (λ e f. starts T3450 _ e told f);
    closes = λ at d may left h. h;
    forgets = λ at cause d may known h. forgets cause d h;
    falls = λ at cause d may known h. falls cause d h;
    loses = loses;
    drops = λ is none h. wipes (untouched solo) h;
    spends = λ h. wipes _ (falls _ (untouched solo) h);
    refuses = λ m nas is told h. refuses m nas is (refuses_so nas told) h;
    turns_away = turns_away;
    emits = λ m message is may h.
        emits m.station message None (untouched solo)
        (a.indication m.station message (ap station_of is) (m.mme_ue_id, m.enb_ue_id, may.0, may.2)) h;
    switches = λ m x w h. switches m x (untouched solo) w.is w.context h;
    connects = λ m is h. connected m (untouched solo) is h;
    connects_on = λ id m is h. claimed id m (untouched solo) is h;
    clears = λ combined capability esm tai d asked h. record {
      state = q.bears _ (wipe d).solo (inl (request_begins item combined capability esm asked.request)) (wipes d h).state;
      sent = (wipes d h).sent;
    };
    asks = λ combined capability esm tai d asked has h.
        let to_attach : AsksToAttach item capability = record {
          begins = request_begins item combined capability esm asked.request;
          combined = combined;
          esm = esm;
          request = asked.request;
          protects = has;
        } in
        asks combined capability tai (requesting esm (wipe d)) to_attach asked.from refl refl h;
    challenges = λ at v d there takes h. challenges v d there (may_challenge at d.solo takes) h;
    makes_context = λ v r h. makes_context _ v r.phase r.there h;
    takes = λ headers x count inner accepts h. takes _ count (untouched solo) h;
    keys = λ x count inner phase accepts told h. takes _ count (untouched solo) h;
    takes_on = λ m x count inner d is has accepts had h. takes _ count d h;
    serves = λ d registered phase h. serves d h;
    keys_on = λ x count octets d has phase had accepts h. takes _ count d h;
    activates = λ at d may on h. record {
      state = q.moves_on Accepting _ refl (q.bears _ _ (inr on.there) (q.tmsi d.solo on h.state));
      sent = h.sent;
    };
    waits = λ d h. record { state = q.moves_on EsmInformation d.solo refl h.state; sent = h.sent };
    updates = λ at tai initial d may h.
        updates tai initial (given_tmsi s d) may.from
        (gives_tmsi d (record { there = registered_there d.solo.phase may.registered; tmsis = may.tmsis }) h);
    attaches = λ esm d phase h.
        registers _ (record { state = q.bears _ d.solo (inr (accepting_there d.solo.phase phase)) h.state; sent = h.sent });
    updated = λ d phase h. registers d h;
    detaches = λ is registered linked h. record { state = q.moves_on Detaching solo refl h.state; sent = h.sent };
    pages = pages;
    strikes = λ station is h. strikes station (untouched solo) is h;
    lowers = λ is h. lowers (untouched solo) h;
    restarts = λ c is h. restarts c (lowered (untouched solo)) h;
    pages_again = λ c es is was h.
        pages_to es (restarted c (lowered (untouched solo))) (inr (is, record { was = was; kept = was; tai = refl; tmsi = refl })) h;
    goes_on = λ d is h. h;
    gives_up = λ is h. ends (lowered (untouched solo)) h;
    fails = λ cause is known h. falls cause (lowered (untouched solo)) h;
    passes = λ d is h. h;
    times_out = λ n d is out h. wipes d h;
  }

-- what holds action by action holds of the state after a step, and of all that it sends
pub step_holds : (s : Setting) (solo : Solo) (item : Item) {Q : Solo → Type 0} {S : Answer → Type 0} → KeepsState s solo item Q
    → Says s solo item Q S → Q solo → IsHeld Q S (solo_step s solo item)
step_holds s solo item {Q} {S} q a h =
    step_keeps s solo item (keeps s solo item q a) (record { state = h; sent = λ k d lt. absurd (omega (arith, lt)) })

-- ---- of the state alone, and of what is sent alone

abbrev pub Any : Solo → Type 0
Any x = Unit {0}

abbrev pub Anything : Answer → Type 0
Anything a = Unit {0}

pub says_anything : (s : Setting) (solo : Solo) (item : Item) (Q : Solo → Type 0) → Says s solo item Q Anything
says_anything s solo item Q = record {
  plain = λ nas x k may told h at octets is. tt;
  protected = λ header nas x k sealed may told h by at octets is. tt;
  setup = λ key x k h at octets is. tt;
  setup_with = λ key nas x k sealed told h by at octets is. tt;
  released = λ cause x k h at octets is. tt;
  refusal = λ m nas from told h octets is. tt;
  turned = λ m from h octets is. tt;
  indication = λ station message from may octets is. tt;
  acknowledged = λ m c x from has h octets is. tt;
  page = λ t es x may given h k d lt octets is. tt;
}

pub keeps_any : (s : Setting) (solo : Solo) (item : Item) → KeepsState s solo item Any
keeps_any s solo item = record {
  connection = λ c x may h. tt;
  counted = λ n x h. tt;
  context = λ c x h. tt;
  counts = λ procedure reachable x h. tt;
  wiped = λ x h. tt;
  ended = λ x h. tt;
  registers = λ reachable x h. tt;
  updates = λ tai initial x from h. tt;
  moves_on = λ phase x under h. tt;
  tmsi = λ x on h. tt;
  bears = λ bearer x may h. tt;
  asks = λ combined capability tai x asked from phase repeat h. tt;
  challenges = λ v procedure x there may h. tt;
  secures = λ c phase h. tt;
  awaits = λ header nas procedure c x may told h. tt;
  pages = λ stations procedure is may h. tt;
  strikes = λ station x is h. tt;
}

-- what holds of the state, action by action, holds after a step
pub state_holds : (s : Setting) (solo : Solo) (item : Item) {Q : Solo → Type 0} → KeepsState s solo item Q → Q solo
    → Q (solo_step s solo item).solo
state_holds s solo item {Q} q h = (step_holds s solo item q (says_anything s solo item Q) h).state

-- what holds of all that is sent
pub sent_holds : (s : Setting) (solo : Solo) (item : Item) {S : Answer → Type 0} → Says s solo item Any S
    → All S (solo_step s solo item).sent
sent_holds s solo item a = (step_holds s solo item (keeps_any s solo item) a tt).sent
