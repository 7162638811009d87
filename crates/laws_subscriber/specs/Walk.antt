-- Every step is made of actions, from stage to stage: what each action keeps where it is taken, the whole step keeps.
use Rattle.std.proofs.Common.{◌≡◌, ◌⊎◌, ℕ, ◌-◌, Bool, true, false, cond, inl, inr, List, [], ◌∷◌, Option, Some, None, IsSome, is_some, Result, Ok, Err, refl, sym, ◌∙◌, ap, subst}
use Rattle.std.specs.Prelude.{◌==◌, ◌&&◌, slice_get, not}
use Rattle.std.specs.Option.{option_map_or}
use Rattle.std.proofs.lemmas.Bool.{eqb-true}
use Rattle.std.proofs.lemmas.Option.{same_Some}
use Rattle.s1ap_causes.specs.declared.cause.Cause.{Cause}
use Rattle.s1ap_elements.specs.declared.phone.Tai.{Tai}
use Rattle.nas_elements.specs.Capability.{has_eia2}
use Rattle.nas_messages.specs.declared.protection.SecurityHeader.TheVariants.{NewContextCiphered}
use Rattle.eps_keys.specs.Same.{same_octets}
use Rattle.nas_security.specs.declared.fault.SecurityFault.{SecurityFault}
use Rattle.nas_security.specs.Accepting.{Acceptance, accepted, short_accepted}
use Rattle.identity_slots.specs.declared.profile.Vector.{Vector}
use Rattle.identity_slots.specs.Ids.{is_of_slot, next_counter}
use Rattle.esm_machine.specs.declared.reaction.Reaction.{Reaction}
use Rattle.esm_machine.specs.declared.reaction.Reaction.TheVariants as reactions
use Rattle.esm_machine.specs.declared.request.Requested.{Requested}
use Rattle.esm_machine.specs.declared.request.Requested.TheVariants.{Unreadable, Refused, Taken}
use Rattle.esm_machine.specs.Reactions.{reaction}
use Rattle.esm_machine.specs.Requests.{requested}
use Rattle.esm_machine.specs.Sessions.{Session}
use Rattle.mme_types.specs.declared.connection.Connection.{Connection}
use Rattle.mme_types.specs.declared.event.Entry.{Entry}
use Rattle.mme_types.specs.declared.event.UeBody.{UeBody}
use Rattle.mme_types.specs.declared.event.UeBody.TheVariants as bodies
use Rattle.mme_types.specs.declared.event.UeMessage.{UeMessage}
use Rattle.mme_types.specs.Events.{Item, Nothing, Initial, Claim, Message, Displaced, StationGone, ConnectionsGone, Tick, Data, Cancel}
use Rattle.mme_types.specs.Listed.{is_listed}
use Rattle.mme_signalling.specs.declared.cause.EmmCause.{EmmCause}
use Rattle.mme_signalling.specs.declared.cause.EmmCause.TheVariants.{NetworkFailure, SynchFailure}
use Rattle.mme_signalling.specs.declared.heard.Heard.{Heard}
use Rattle.mme_signalling.specs.declared.heard.Heard.TheVariants as heards
use Rattle.mme_signalling.specs.Causes.{emm_cause_code}
use Rattle.mme_signalling.specs.Hearing.{heard, initial_octets}
use Rattle.mme_signalling.specs.Messages.{service_reject, update_reject}
use Rattle.mme_signalling.specs.Pdus.{cause_of_request, is_extended, path_switch_failure}
use Rattle.emm_state.specs.declared.draft.Draft.{Draft}
use Rattle.emm_state.specs.declared.setting.Setting.{Setting}
use Rattle.emm_state.specs.declared.solo.Context.{Context}
use Rattle.emm_state.specs.declared.solo.Countdown.{Countdown}
use Rattle.emm_state.specs.declared.solo.NasTimer.{NasTimer}
use Rattle.emm_state.specs.declared.solo.NasTimer.TheVariants.{T3413, T3422, T3450, T3460, T3489}
use Rattle.emm_state.specs.declared.solo.Phase.{Phase}
use Rattle.emm_state.specs.declared.solo.Phase.TheVariants.{Deregistered, Authenticating, SecurityMode, EsmInformation, Accepting, Updating, Registered, Detaching}
use Rattle.emm_state.specs.declared.solo.Protection.TheVariants.{Plain, Under}
use Rattle.emm_state.specs.declared.solo.Repeat.{Repeat}
use Rattle.emm_state.specs.declared.solo.Repeat.TheVariants as repeats
use Rattle.emm_state.specs.declared.solo.Solo.{Solo}
use Rattle.emm_state.specs.Actions.{association_counted, connect, connect_on, emit, ended, is_at, is_registered, leave_old, lost, mac_of, next_id, refuse, untouched, wipe}
use Rattle.emm_state.specs.Phases.{is}
use Rattle.emm_machine.specs.Attaching as attaching
use Rattle.emm_machine.specs.Attaching.{counted_up, keys_of, requesting}
use Rattle.emm_machine.specs.Connected as connected
use Rattle.emm_machine.specs.Messages as messages
use Rattle.emm_machine.specs.Idle as idle
use Rattle.emm_machine.specs.Serving as serving
use Rattle.emm_machine.specs.Steps as steps
use Rattle.laws_subscriber.specs.Choices.{Whenever, at_some, either, either_by, some, then, unless}
use Rattle.laws_subscriber.specs.Comes.{ends}
use Rattle.laws_subscriber.specs.Keeps.{Accepts, AcceptsDetach, AcceptsDetachUnder, Answers, Asked, Begun, Cleared, Counted, Ended, ForAttach, ForSynch, IsCarried, IsExpected, IsLeft, IsServed, Keeps, Keyed, Known, Linked, MayAccept, MaySend, MayUpdate, RefusesAttach, RefusesEsm, RefusesProof, Requests, Stage, TakesVector, TellsAgain, TellsAgainUnder, TellsStatus, TellsStatusUnder, Ticked, Told, WithInformation, WithKeys, is_later, is_open, may_close, may_protect, may_say, request_in, tai_of, tai_of_body}
use Rattle.laws_subscriber.specs.Proof.{nas_of_body, uplink_nas}
use Rattle.laws_subscriber.specs.Unproved.{begins_attach, is_attach_request}

-- ---- what a new connection leaves

left_solo : (station enb_ue_id : ℕ) (d : Draft) → (leave_old station enb_ue_id d).solo ≡ d.solo
unfolding leave_old emit
left_solo station enb_ue_id d =
    at_some (λ (e : Draft). e.solo ≡ d.solo) d.solo.connection
    (λ k is. either (λ (e : Draft). e.solo ≡ d.solo) (is_at k station enb_ue_id) refl refl) (λ is. refl)

pub connect_on_solo : (id station enb_ue_id : ℕ) (d : Draft)
    → (connect_on id station enb_ue_id d).solo
    ≡ record d.solo { connection = Some (record { id = id; station = station; enb_ue_id = enb_ue_id }) }
unfolding connect_on
connect_on_solo id station enb_ue_id d =
    ap (λ (x : Solo). record x { connection = Some (record { id = id; station = station; enb_ue_id = enb_ue_id }) })
    (left_solo station enb_ue_id d)

pub connect_solo : (slot station enb_ue_id : ℕ) (d : Draft)
    → (connect slot station enb_ue_id d).solo
    ≡ record d.solo {
      associations = next_counter d.solo.associations;
      connection = Some (record { id = next_id slot d; station = station; enb_ue_id = enb_ue_id });
    }
unfolding connect association_counted
connect_solo slot station enb_ue_id d = connect_on_solo (next_id slot d) station enb_ue_id (association_counted d)

-- ---- what is known

true_of : (b : Bool) → not b ≡ false → b ≡ true
true_of true e = refl
true_of false e = cc

protected_says : (at : Stage) → may_protect at ≡ true → may_say at ≡ true
protected_says Told e = refl
protected_says Known e = refl
protected_says Counted e = refl
protected_says _ e = absurd (cc e)

pub linked_by : (o : Option Connection) (f : Connection → Bool) → option_map_or f o false ≡ true → IsSome o
linked_by None f e = absurd (cc e)
linked_by (Some k) f e = refl

is_in : (phase : Phase) → is Registered phase ≡ true → is_registered phase ≡ true
is_in Registered h = refl
is_in _ h = absurd (cc h)

open_at : (phase : Phase) → is Deregistered phase ≡ true → is_open phase ≡ true
open_at Deregistered h = refl
open_at _ h = absurd (cc h)

later_there : (phase : Phase) → is_open phase ≡ false → is Deregistered phase ≡ false
later_there Deregistered h = absurd (cc h)
later_there Authenticating h = refl
later_there _ h = refl

completes : (m : Heard (List ℕ)) → attaching.is_complete m ≡ true → m ≡ heards.SecurityModeComplete
completes heards.SecurityModeComplete e = refl
completes _ e = cc

pub request_begins : (item : Item) (combined : Bool) (capability esm : List ℕ) → request_in item ≡ heards.AttachRequest combined capability esm
    → begins_attach item ≡ true
request_begins (Initial m) combined capability esm e = ap (λ o. is_attach_request o) e
request_begins (Claim id m) combined capability esm e = ap (λ o. is_attach_request o) e
request_begins _ combined capability esm e = absurd (cc e)

pub known_cause : (cause : Cause) → is_extended (cause_of_request cause) ≡ false
known_cause cause = either_by (λ c. is_extended c ≡ false) (is_extended cause) (λ t. refl) (λ f. f)

module _ (s : Setting) (solo : Solo) (item : Item) {P : Stage → Draft → Type 0} (k : Keeps s solo item P) where
  -- ---- attaching

  refused : {d : Draft} (at : Stage) (cause : EmmCause) → ((nas : List ℕ) → MaySend solo item nas) → may_say at ≡ true → P at d
      → P Ended (attaching.attach_refused cause None d)
  unfolding attaching.attach_refused
  refused {d} at cause to says h = k.forgets at _ _ says refl (k.sends at _ d says (to _) (RefusesAttach cause refl) h)

  challenge : {d : Draft} (at : Stage) → ((nas : List ℕ) → MaySend solo item nas) → may_say at ≡ true → TakesVector solo item at d.solo
      → P at d → P Ended (attaching.challenge s d)
  unfolding attaching.challenge
  challenge {d} at to says takes h =
      at_some (P Ended) (slice_get s.vectors d.solo.next_vector) (λ v there. k.challenges at v d there takes h)
      (λ is. refused at NetworkFailure to says h)

  module _ (combined : Bool) (capability esm : List ℕ) (tai : Tai) (asks : Requests item combined capability esm tai) where
    to_request : (nas : List ℕ) → MaySend solo item nas
    to_request nas = inl (request_begins item combined capability esm asks.request)

    attach_by : (d : Draft) (asked : Requested (List ℕ)) (session : Session) → requested session esm ≡ asked
        → d.solo.next_vector ≡ solo.next_vector → P Cleared (requesting esm (wipe d))
        → P Ended (attaching.attach_by asked s combined capability tai (requesting esm (wipe d)))
    unfolding attaching.attach_by attaching.attach_refused attaching.asking attaching.requesting wipe
    attach_by d Unreadable session came next h = refused Cleared _ to_request refl h
    attach_by d (Refused answer) session came next h =
        k.forgets Cleared _ _ refl refl
        (k.sends Cleared _ _ refl (to_request _) (RefusesEsm _ session combined capability esm answer asks.request came refl) h)
    attach_by d Taken session came next h =
        either_by (P Ended) (has_eia2 capability)
        (λ has. challenge Asked to_request refl (ForAttach refl next combined esm asks.request has)
        (k.asks combined capability esm tai d asks has h))
        (λ lacks. refused Cleared _ to_request refl h)

    attach : {d : Draft} → d.solo.next_vector ≡ solo.next_vector → P Linked d
        → P Ended (attaching.attach s combined capability esm tai d)
    unfolding attaching.attach
    attach {d} next h = attach_by d _ (wipe d).solo.bearer refl next (k.clears combined capability esm tai d asks h)

  -- ---- a phone that is challenged

  detach_plainly : {d : Draft} (at : Stage) (switch_off : Bool) → is_open solo.phase ≡ true → may_say at ≡ true → P at d
      → P Ended (attaching.detach_plainly switch_off d)
  unfolding attaching.detach_plainly attaching.detach_answered_plainly
  detach_plainly {d} at switch_off to says h =
      k.forgets at _ _ says refl (either (P at) switch_off h (k.sends at _ d says (inr (inl to)) (AcceptsDetach refl) h))

  module _ (never : (c : Connection) → ends item c ≡ false) where
    stays : {d : Draft} (at : Stage) → may_close at ≡ true → P at d → P Ended d
    stays {d} at may h = k.closes at d may (λ c is. never c) h

    module _ (nas : List ℕ) (on : IsCarried solo item nas) (b : P Begun (untouched solo)) where
      here : Whenever (P Ended) (Some (untouched solo))
      here = some (stays Begun refl b)

      module _ (phase : solo.phase ≡ Authenticating) where
        to_challenged : (nas : List ℕ) → MaySend solo item nas
        to_challenged nas = inr (inl (ap is_open phase))

        status_plainly : (cause : Option EmmCause) → P Ended (attaching.status_plainly cause (untouched solo))
        unfolding attaching.status_plainly
        status_plainly cause =
            stays Begun refl
            (at_some (P Begun) cause (λ c is. k.sends Begun _ _ refl (to_challenged _) (TellsStatus c refl) b) (λ is. b))

        not_authenticated : P Ended (attaching.not_authenticated (untouched solo))
        unfolding attaching.not_authenticated
        not_authenticated = k.forgets Begun _ _ refl refl (k.sends Begun _ _ refl (to_challenged _) (RefusesProof refl) b)

        authenticated : (v : Vector) → IsExpected s solo item v
            → Whenever (P Ended) (attaching.authenticated (solo.next_vector - 1) v (untouched solo))
        unfolding attaching.authenticated
        authenticated v expected = k.commands v expected (k.makes_context v expected b)

        response : (res : List ℕ) → heard nas ≡ heards.AuthenticationResponse res
            → Whenever (P Ended) (attaching.response s res (untouched solo))
        unfolding attaching.response attaching.response_to
        response res told =
            at_some (Whenever (P Ended)) (slice_get s.vectors (solo.next_vector - 1))
            (λ v there. either_by (Whenever (P Ended)) (same_octets res v.xres)
            (λ same. authenticated v (record { nas = nas; res = res; on = on; phase = phase; told = told; there = there; same = same }))
            (λ differs. some not_authenticated)) (λ none. here)

        failure : (cause : ℕ) → attaching.is_plain nas ≡ true → heard nas ≡ heards.AuthenticationFailure cause
            → P Ended (attaching.failure s cause (untouched solo))
        unfolding attaching.failure
        failure cause plain told =
            either_by (P Ended) (cause == emm_cause_code SynchFailure)
            (λ synch. challenge Begun to_challenged refl (ForSynch nas refl refl phase on plain
            (told ∙ ap (λ (c : ℕ). heards.AuthenticationFailure c) (eqb-true cause (emm_cause_code SynchFailure) synch))) b)
            (λ other. not_authenticated)

        authenticating : (m : Heard (List ℕ)) → attaching.is_plain nas ≡ true → heard nas ≡ m
            → Whenever (P Ended) (attaching.authenticating s m (untouched solo))
        unfolding attaching.authenticating
        authenticating (heards.AuthenticationResponse res) plain told = response res told
        authenticating (heards.AuthenticationFailure cause) plain told = some (failure cause plain told)
        authenticating (heards.DetachRequest switch_off) plain told =
            some (detach_plainly Begun switch_off (ap is_open phase) refl b)
        authenticating heards.Unasked plain told = here
        authenticating (heards.Unreadable fault) plain told = some (status_plainly _)
        authenticating _ plain told = some (status_plainly _)

        in_authenticating : Whenever (P Ended) (attaching.in_authenticating s nas (untouched solo))
        unfolding attaching.in_authenticating
        in_authenticating =
            either_by (Whenever (P Ended)) (attaching.is_plain nas) (λ plain. authenticating (heard nas) plain refl) (λ other. here)

      -- ---- acceptance and security mode

      accept : {d : Draft} (at : Stage) (x : Context) → MayAccept solo item at d → IsServed solo d.solo → d.solo.context ≡ Some x → P at d
          → Whenever (P Ended) (attaching.accept s x.radio.kenb d)
      unfolding attaching.accept attaching.activating attaching.given_tmsi
      accept {d} at x may on has h = k.accepts_attach x _ d.solo.bearer _ has refl refl (k.activates at d may on h)

      module _ (phase : solo.phase ≡ SecurityMode) where
        secured : (x : Context) (count : ℕ) (inner : List ℕ) → Accepts solo item (NewContextCiphered ∷ []) x count inner
            → heard inner ≡ heards.SecurityModeComplete
            → Whenever (P Ended) (attaching.secured s (counted_up x count) count (untouched solo))
        unfolding attaching.secured attaching.ask_information attaching.keyed attaching.took
        secured x count inner accepts told =
            let h = k.keys x count inner phase accepts told b in
            either (Whenever (P Ended)) _ (k.asks_information _ (k.waits _ h))
            (accept Keyed (record (counted_up x count) { radio = keys_of x.kasme count }) (WithKeys refl)
            (record { there = later_there solo.phase accepts.closed; tmsis = refl }) refl h)

        not_secured : P Ended (attaching.not_secured nas (untouched solo))
        unfolding attaching.not_secured
        not_secured = either (P Ended) _ (k.falls Begun _ _ refl refl b) (stays Begun refl b)

        secured_by : (r : Acceptance) (x : Context) → solo.context ≡ Some x
            → accepted (mac_of x) x.security.up_last (NewContextCiphered ∷ []) nas ≡ r
            → Whenever (P Ended) (attaching.secured_by r s x nas (untouched solo))
        unfolding attaching.secured_by
        secured_by (Ok found) x has is =
            let a : Accepts solo item (NewContextCiphered ∷ []) x found.0 found.1 =
            record { nas = nas; on = on; closed = ap is_open phase; has = has; accepts = is } in
            either_by (Whenever (P Ended)) (attaching.is_complete (heard found.1))
            (λ t. secured x found.0 found.1 a (completes (heard found.1) t))
            (λ t. some (stays Told refl (k.takes _ x found.0 found.1 a b)))
        secured_by (Err fault) x has is = some not_secured

        in_security_mode : Whenever (P Ended) (attaching.in_security_mode s nas (untouched solo))
        unfolding attaching.in_security_mode
        in_security_mode =
            at_some (Whenever (P Ended)) solo.context (λ x has. secured_by _ x has refl) (λ none. some not_secured)

  update : {d : Draft} (at : Stage) (tai : Tai) (combined initial : Bool) → MayUpdate solo item at d.solo tai → P at d
      → Whenever (P Ended) (serving.update s tai combined initial d)
  unfolding serving.update serving.updating serving.active ended
  update {d} at tai combined initial may h = k.accepts_update _ _ refl (k.updates at tai initial d may h)

  detach : {d : Draft} (at : Stage) (switch_off : Bool) → may_protect at ≡ true → P at d → Whenever (P Ended) (serving.detach switch_off d)
  unfolding serving.detach serving.detach_answered
  detach {d} at switch_off may h =
      then _ (either (Whenever (P at)) switch_off (some h) (k.protects at _ _ d may (AcceptsDetachUnder refl refl) h))
      (λ e f. k.forgets at _ e (protected_says at may) refl f)

  -- ---- a phone that is known

  module _ (m : Entry (List ℕ)) (is_initial : item ≡ Initial m) (b : P Begun (untouched solo)) where
    abbrev joined : Draft
    joined = connect s.slot m.station m.enb_ue_id (untouched solo)

    joined_so : P Linked joined
    joined_so = k.connects m is_initial b

    joined_solo : joined.solo ≡ record solo {
      associations = next_counter solo.associations;
      connection = Some (record { id = next_id s.slot (untouched solo); station = m.station; enb_ue_id = m.enb_ue_id });
    }
    joined_solo = connect_solo s.slot m.station m.enb_ue_id (untouched solo)

    joined_context : joined.solo.context ≡ solo.context
    joined_context = ap (λ (x : Solo). x.context) joined_solo

    joined_phase : joined.solo.phase ≡ solo.phase
    joined_phase = ap (λ (x : Solo). x.phase) joined_solo

    refuse_service : (cause : EmmCause) → P Ended (refuse s.slot m.station m.enb_ue_id (service_reject cause) (untouched solo))
    refuse_service cause = k.refuses m _ is_initial (cause, inl refl) b

    refuse_update : (cause : EmmCause) → P Ended (refuse s.slot m.station m.enb_ue_id (update_reject cause) (untouched solo))
    refuse_update cause = k.refuses m _ is_initial (cause, inr refl) b

    served_by : (octets : List ℕ) (r : Result ℕ SecurityFault) (x : Context) → is_registered solo.phase ≡ true → solo.context ≡ Some x
        → short_accepted (mac_of x) x.security.up_last x.security.ksi octets ≡ r → P Ended (serving.served_by r s x m (untouched solo))
    unfolding serving.served_by serving.served serving.active ended attaching.keyed attaching.took
    served_by octets (Ok count) x registered has is =
        k.sets_up (record (counted_up x count) { radio = keys_of x.kasme count }) _ refl refl
        (k.keys_on x count octets (serving.active Registered joined) (joined_context ∙ has) refl has is
        (k.serves _ registered joined_phase joined_so))
    served_by octets (Err fault) x registered has is = refuse_service _

    service : (octets : List ℕ) → P Ended (serving.service s m octets (untouched solo))
    unfolding serving.service
    service octets =
        either_by (P Ended) (is_registered solo.phase)
        (λ registered. at_some (P Ended) solo.context (λ x has. served_by octets _ x registered has refl) (λ none. refuse_service _))
        (λ other. refuse_service _)

    updated_by : (r : Acceptance) (x : Context) (combined : Bool) → is_registered solo.phase ≡ true → solo.context ≡ Some x
        → serving.accepted_by_context x m.nas ≡ r → Whenever (P Ended) (serving.updated_by r s x m combined (untouched solo))
    unfolding serving.updated_by attaching.took
    updated_by (Ok found) x combined registered has is =
        update Known m.tai combined true (record {
          stage = refl;
          from = ap tai_of is_initial;
          was = registered;
          registered = ap is_registered joined_phase ∙ registered;
          linked = ap (λ (y : Solo). is_some y.connection) joined_solo;
          tmsis = ap (λ (y : Solo). y.tmsis) joined_solo;
        }) (k.takes_on m x found.0 found.1 joined is_initial (joined_context ∙ has) is has joined_so)
    updated_by (Err fault) x combined registered has is = some (refuse_update _)

    initial_update : (combined : Bool) → Whenever (P Ended) (serving.initial_update s m combined (untouched solo))
    unfolding serving.initial_update
    initial_update combined =
        either_by (Whenever (P Ended)) (is_registered solo.phase)
        (λ registered. at_some (Whenever (P Ended)) solo.context (λ x has. updated_by _ x combined registered has refl)
        (λ none. some (refuse_update _))) (λ other. some (refuse_update _))

    detached_by : (r : Acceptance) (x : Context) (switch_off : Bool) → solo.context ≡ Some x → serving.accepted_by_context x m.nas ≡ r
        → Whenever (P Ended) (serving.detached_by r s x m switch_off (untouched solo))
    unfolding serving.detached_by
    detached_by (Ok found) x switch_off has is =
        detach Known switch_off refl (k.takes_on m x found.0 found.1 joined is_initial (joined_context ∙ has) is has joined_so)
    detached_by (Err fault) x switch_off has is = some (k.turns_away m is_initial b)

    initial_detach : (switch_off : Bool) → Whenever (P Ended) (serving.initial_detach s m switch_off (untouched solo))
    unfolding serving.initial_detach
    initial_detach switch_off =
        either_by (Whenever (P Ended)) (is Deregistered solo.phase)
        (λ none. some (detach_plainly Linked switch_off (open_at solo.phase none) refl joined_so))
        (λ there. at_some (Whenever (P Ended)) solo.context (λ x has. detached_by _ x switch_off has refl)
        (λ none. some (k.turns_away m is_initial b)))

    entered : (never : (c : Connection) → ends item c ≡ false) (o : Heard (List ℕ)) → request_in item ≡ o
        → Whenever (P Ended) (serving.entered o s m (untouched solo))
    unfolding serving.entered
    entered never (heards.AttachRequest combined capability esm) request =
        some (attach combined capability esm m.tai (record { request = request; from = ap tai_of is_initial })
        (ap (λ (x : Solo). x.next_vector) joined_solo) joined_so)
    entered never (heards.ServiceRequest octets) request = some (service octets)
    entered never (heards.TrackingAreaUpdateRequest combined) request = initial_update combined
    entered never (heards.DetachRequest switch_off) request = initial_detach switch_off
    entered never _ request = some (stays never Begun refl b)

  -- on a stranger's id
  claimed : (id : ℕ) (m : Entry (List ℕ)) (never : (c : Connection) → ends item c ≡ false) (o : Heard (List ℕ)) → item ≡ Claim id m
      → request_in item ≡ o → P Begun (untouched solo) → P Ended (serving.claimed o s id m (untouched solo))
  unfolding serving.claimed
  claimed id m never (heards.AttachRequest combined capability esm) is request b =
      attach combined capability esm m.tai (record { request = request; from = ap tai_of is })
      (ap (λ (x : Solo). x.next_vector) (connect_on_solo id m.station m.enb_ue_id (untouched solo))) (k.connects_on id m is b)
  claimed id m never _ is request b = stays never Begun refl b

  -- ---- protected messages on the connection

  module _ (never : (c : Connection) → ends item c ≡ false) (nas : List ℕ) (on : IsCarried solo item nas)
      (later : is_later solo.phase ≡ true) (closed : is_open solo.phase ≡ false) (tai : Tai) (from : tai_of item ≡ Some tai)
      (b : P Begun (untouched solo)) where
    rests : {o : Option Draft} → Whenever (P Told) o → Whenever (P Ended) o
    rests w = record { at = λ d is. stays never Told refl (w.at d is) }

    status : {d : Draft} (cause : Option EmmCause) → P Told d → Whenever (P Ended) (serving.status_protected cause d)
    unfolding serving.status_protected
    status {d} cause h =
        rests (at_some (Whenever (P Told)) cause (λ c is. k.protects Told _ _ d refl (TellsStatusUnder refl c refl) h) (λ is. some h))

    attach_completed : {d : Draft} (esm : List ℕ) → is Accepting d.solo.phase ≡ true → P Told d → P Ended (serving.attach_completed esm d)
    unfolding serving.attach_completed
    attach_completed {d} esm phase h =
        either (P Ended) _ (stays never Told refl (k.attaches esm d phase h)) (k.falls Told _ d refl refl h)

    update_completed : {d : Draft} → is Updating d.solo.phase ≡ true → P Told d → P Ended (serving.update_completed d)
    unfolding serving.update_completed
    update_completed {d} phase h =
        let r = k.updated d phase h in either (P Ended) _ (k.falls Told _ _ refl refl r) (stays never Told refl r)

    module _ (x : Context) (count : ℕ) (octets : List ℕ) (a : Accepts solo item serving.in_use x count octets) where
      abbrev taken : Draft
      taken = attaching.took (counted_up x count) count (untouched solo)

      h : P Told taken
      h = k.takes _ x count octets a b

      inner_emm : (m : Heard (List ℕ)) → Whenever (P Ended) (serving.inner_emm m s tai taken)
      unfolding serving.inner_emm attaching.took
      inner_emm (heards.AttachComplete esm) =
          either_by (Whenever (P Ended)) (is Accepting solo.phase) (λ phase. some (attach_completed esm phase h)) (λ other. status _ h)
      inner_emm heards.TrackingAreaUpdateComplete =
          either_by (Whenever (P Ended)) (is Updating solo.phase) (λ phase. some (update_completed phase h)) (λ other. status _ h)
      inner_emm (heards.TrackingAreaUpdateRequest combined) =
          either_by (Whenever (P Ended)) (is Registered solo.phase)
          (λ phase. update Told tai combined false (record {
            stage = refl;
            from = from;
            was = is_in solo.phase phase;
            registered = is_in solo.phase phase;
            linked = a.on.linked;
            tmsis = refl;
          }) h)
          (λ other. status _ h)
      inner_emm (heards.DetachRequest switch_off) = detach Told switch_off refl h
      inner_emm heards.DetachAccept =
          either (Whenever (P Ended)) _ (some (k.forgets Told _ _ refl refl h)) (status _ h)
      inner_emm heards.Unasked = rests (some h)
      inner_emm (heards.Unreadable fault) = status _ h
      inner_emm _ = status _ h

      reacted : (r : Reaction (List ℕ)) → reaction solo.bearer (is EsmInformation solo.phase) octets ≡ r
          → Whenever (P Ended) (serving.reacted r s taken)
      unfolding serving.reacted serving.information_came attaching.took
      reacted reactions.Nothing came = rests (some h)
      reacted reactions.Informed came =
          accept never nas on b Told (counted_up x count) (WithInformation x count octets refl a later refl came)
          (record { there = later_there solo.phase closed; tmsis = refl }) refl h
      reacted (reactions.Answer answer) came = rests (k.protects Told _ answer _ refl (Answers refl x count octets a came) h)

      inner_message : Whenever (P Ended) (serving.inner_message octets s tai taken)
      unfolding serving.inner_message serving.inner_esm attaching.took
      inner_message = either (Whenever (P Ended)) _ (reacted _ refl) (inner_emm (heard octets))

    inner_message_by : (r : Acceptance) (x : Context) → solo.context ≡ Some x → serving.accepted_by_context x nas ≡ r
        → Whenever (P Ended) (serving.inner_message_by r s x tai (untouched solo))
    unfolding serving.inner_message_by
    inner_message_by (Ok found) x has is =
        inner_message x found.0 found.1 (record { nas = nas; on = on; closed = closed; has = has; accepts = is })
    inner_message_by (Err fault) x has is = some (stays never Begun refl b)

    in_later : Whenever (P Ended) (serving.in_later s tai nas (untouched solo))
    unfolding serving.in_later
    in_later =
        at_some (Whenever (P Ended)) solo.context (λ x has. inner_message_by _ x has refl) (λ none. some (stays never Begun refl b))

  uplink : (never : (c : Connection) → ends item c ≡ false) (nas : List ℕ) (on : IsCarried solo item nas) (phase : Phase) (tai : Tai)
      → solo.phase ≡ phase → tai_of item ≡ Some tai → P Begun (untouched solo) → Whenever (P Ended) (serving.uplink phase s tai nas (untouched solo))
  unfolding serving.uplink
  uplink never nas on Deregistered tai phase from b = some (stays never Begun refl b)
  uplink never nas on Authenticating tai phase from b = in_authenticating never nas on b phase
  uplink never nas on SecurityMode tai phase from b = in_security_mode never nas on b phase
  uplink never nas on EsmInformation tai phase from b = in_later never nas on (ap is_later phase) (ap is_open phase) tai from b
  uplink never nas on Accepting tai phase from b = in_later never nas on (ap is_later phase) (ap is_open phase) tai from b
  uplink never nas on Updating tai phase from b = in_later never nas on (ap is_later phase) (ap is_open phase) tai from b
  uplink never nas on Registered tai phase from b = in_later never nas on (ap is_later phase) (ap is_open phase) tai from b
  uplink never nas on Detaching tai phase from b = in_later never nas on (ap is_later phase) (ap is_open phase) tai from b

  -- ---- messages on an association

  module _ (never : (c : Connection) → ends item c ≡ false) (m : UeMessage (List ℕ)) (is_message : item ≡ Message m)
      (b : P Begun (untouched solo)) where
    on_connection : (body : UeBody (List ℕ)) → m.body ≡ body → IsSome solo.connection
        → Whenever (P Ended) (messages.on_connection body s (untouched solo))
    unfolding messages.on_connection
    on_connection (bodies.Uplink nas tai) body linked =
        uplink never nas (record { carried = ap uplink_nas is_message ∙ ap nas_of_body body; linked = linked }) solo.phase tai refl
        (ap tai_of is_message ∙ ap tai_of_body body) b
    on_connection (bodies.UeContextReleaseRequest cause) body linked = some (k.falls Begun _ _ refl (known_cause cause) b)
    on_connection bodies.InitialContextSetupFailure body linked = some (k.falls Begun _ _ refl refl b)
    on_connection _ body linked = some (stays never Begun refl b)

    indicate : (cause : Cause) → is_extended cause ≡ false → P Ended (connected.indicate cause m (untouched solo))
    unfolding connected.indicate
    indicate cause known = k.emits m _ is_message (cause, known, inl refl) b

    checked : Whenever (P Ended) (messages.checked s m (untouched solo))
    unfolding messages.checked
    checked =
        either_by (Whenever (P Ended)) (not (connected.has_connection_id m (untouched solo))) (λ t. some (indicate _ refl))
        (λ t. either (Whenever (P Ended)) _ (on_connection m.body refl (linked_by solo.connection (λ c. c.id == m.mme_ue_id) (true_of _ t)))
        (some (indicate _ refl)))

    path_switch : m.body ≡ bodies.PathSwitch → P Ended (connected.path_switch m (untouched solo))
    unfolding connected.path_switch connected.not_switched
    path_switch body =
        let no = λ (cause : Cause) (known : is_extended cause ≡ false).
        k.emits m (path_switch_failure m.mme_ue_id m.enb_ue_id cause) is_message (cause, known, inr refl) b in
        either_by (P Ended) (not (connected.has_connection_id m (untouched solo))) (λ t. no _ refl)
        (λ t. either_by (P Ended) (not (is_of_slot m.mme_ue_id)) (λ u. no _ refl)
        (λ u. either_by (P Ended) (is_registered solo.phase)
        (λ r. at_some (P Ended) solo.context
        (λ x has. k.switches m x (record {
          is = is_message;
          body = body;
          has = true_of _ t;
          own = true_of _ u;
          registered = r;
          context = has;
        }) b)
        (λ none. stays never Begun refl b))
        (λ r. no _ refl)))

    message_of : (body : UeBody (List ℕ)) → m.body ≡ body → Whenever (P Ended) (messages.message_of body s m (untouched solo))
    unfolding messages.message_of
    message_of bodies.UeContextReleaseComplete body = some (stays never Begun refl b)
    message_of bodies.PathSwitch body = some (path_switch body)
    message_of _ body = checked

  -- ---- what ends a connection without a message: it is left where the item doesn't name it

  none_left : (o : Option Connection) (x : Solo) → x.connection ≡ o → o ≡ None → IsLeft item x
  none_left o x is none c has = absurd (cc (sym has ∙ is ∙ none))

  this_left : (x : Solo) (c : Connection) → x.connection ≡ Some c → ends item c ≡ false → IsLeft item x
  this_left x c is left e has = subst (λ (k : Connection). ends item k ≡ false) (same_Some c e (sym is ∙ has)) left

  lost_or_left : {d : Draft} (lost_when : Connection → Bool) → ((c : Connection) → ends item c ≡ lost_when c) → P Begun d
      → P Ended (option_map_or (λ c. cond (lost_when c) (lost d) d) d.solo.connection d)
  lost_or_left {d} lost_when same h =
      at_some (P Ended) d.solo.connection
      (λ c is. either_by (P Ended) (lost_when c) (λ t. k.loses d h)
      (λ t. k.closes Begun d refl (this_left d.solo c is (same c ∙ t)) h))
      (λ none. k.closes Begun d refl (none_left d.solo.connection d.solo refl none) h)

  -- ---- countdowns and a withdrawn subscription

  module _ (ticks : item ≡ Tick) where
    abbrev lower : Draft
    lower = idle.lowered (untouched solo)

    given_up : (timer : NasTimer) → P Counted lower → P Ticked (idle.given_up timer lower)
    unfolding idle.given_up
    given_up T3413 h = k.gives_up ticks h
    given_up T3422 h = k.fails _ ticks refl h
    given_up T3450 h = k.fails _ ticks refl h
    given_up T3460 h = k.fails _ ticks refl h
    given_up T3489 h = k.fails _ ticks refl h

    goes_on : {o : Option Draft} → Whenever (P Counted) o → Whenever (P Ticked) o
    goes_on w = record { at = λ d is. k.goes_on d ticks (w.at d is) }

    again : (c : Countdown) (r : Repeat) → solo.repeat ≡ Some r → P Counted (idle.restarted c lower)
        → Whenever (P Counted) (idle.again r s (idle.restarted c lower))
    unfolding idle.again
    again c (repeats.Nas Plain nas) was h =
        some (k.sends Counted nas _ refl (inr (inr (ticks, was))) (TellsAgain ticks was) h)
    again c (repeats.Nas (Under header) nas) was h = k.protects Counted header nas _ refl (TellsAgainUnder ticks was) h
    again c (repeats.Paging es) was h = some (k.pages_again c es ticks was h)

    expired : (c : Countdown) → P Counted lower → Whenever (P Ticked) (idle.expired c s lower)
    unfolding idle.expired idle.lowered
    expired c h =
        either (Whenever (P Ticked)) _ (some (given_up _ h))
        (at_some (Whenever (P Ticked)) solo.repeat (λ r is. goes_on (again c r is (k.restarts c ticks h)))
        (λ none. some (k.goes_on _ ticks h)))

    tick : P Begun (untouched solo) → Whenever (P Ended) (idle.tick s (untouched solo))
    unfolding idle.tick idle.procedure_ticks idle.reachable_ticks_out
    tick b =
        let l = k.lowers ticks b in
        then _
        (at_some (Whenever (P Ticked)) lower.solo.procedure
        (λ c is. either (Whenever (P Ticked)) _ (expired c l) (some (k.goes_on _ ticks l)))
        (λ none. some (k.goes_on _ ticks l)))
        (λ e f. at_some (P Ended) e.solo.reachable
        (λ n is. either (P Ended) _ (k.times_out n e ticks is f) (k.passes e ticks f)) (λ none. k.passes e ticks f))

  detach_phone : item ≡ Cancel → is_registered solo.phase ≡ true → IsSome solo.connection ⊎ (solo.phase ≡ Updating) → P Begun (untouched solo)
      → Whenever (P Ended) (idle.detach_phone (untouched solo))
  unfolding idle.detach_phone
  detach_phone withdrawn registered linked b = k.tells_detach _ (k.detaches withdrawn registered linked b)

  cancelled : (never : (c : Connection) → ends item c ≡ false) (phase : Phase) → item ≡ Cancel → solo.phase ≡ phase
      → P Begun (untouched solo) → Whenever (P Ended) (idle.cancelled phase (untouched solo))
  unfolding idle.cancelled
  cancelled never Registered withdrawn phase b =
      either_by (Whenever (P Ended)) (is_some solo.connection) (λ t. detach_phone withdrawn (ap is_registered phase) (inl t) b)
      (λ t. some (k.drops withdrawn t b))
  cancelled never Updating withdrawn phase b = detach_phone withdrawn (ap is_registered phase) (inr phase) b
  cancelled never Authenticating withdrawn phase b = some (k.forgets Begun _ _ refl refl b)
  cancelled never SecurityMode withdrawn phase b = some (k.forgets Begun _ _ refl refl b)
  cancelled never EsmInformation withdrawn phase b = some (k.forgets Begun _ _ refl refl b)
  cancelled never Accepting withdrawn phase b = some (k.forgets Begun _ _ refl refl b)
  cancelled never Deregistered withdrawn phase b = some (stays never Begun refl b)
  cancelled never Detaching withdrawn phase b = some (stays never Begun refl b)

-- ---- the step

row_keeps : (s : Setting) (solo : Solo) (item : Item) {P : Stage → Draft → Type 0} → Keeps s solo item P → P Begun (untouched solo)
    → Whenever (P Ended) (steps.row s item (untouched solo))
unfolding steps.row serving.initial serving.claim connected.displaced connected.station_gone connected.connections_gone idle.data_waits
row_keeps s solo Nothing k b = some (k.closes Begun _ refl (λ c is. refl) b)
row_keeps s solo (Initial m) k b = entered s solo (Initial m) k m refl b (λ c. refl) (heard (initial_octets m.nas)) refl
row_keeps s solo (Claim id m) k b =
    some (claimed s solo (Claim id m) k id m (λ c. refl) (heard (initial_octets m.nas)) refl refl b)
row_keeps s solo (Message m) k b = message_of s solo (Message m) k (λ c. refl) m refl b m.body refl
row_keeps s solo (Displaced id) k b = some (lost_or_left s solo (Displaced id) k (λ c. c.id == id) (λ c. refl) b)
row_keeps s solo (StationGone station) k b =
    some (lost_or_left s solo (StationGone station) k (λ c. c.station == station) (λ c. refl) (k.strikes station refl b))
row_keeps s solo (ConnectionsGone station items) k b =
    some (lost_or_left s solo (ConnectionsGone station items) k (λ c. c.station == station && is_listed c.id c.enb_ue_id items)
    (λ c. refl) b)
row_keeps s solo Tick k b = tick s solo Tick k refl b
row_keeps s solo (Data stations) {P} k b =
    some (either_by (P Ended) (idle.may_page (untouched solo)) (λ may. k.pages stations refl may b)
    (λ other. k.closes Begun _ refl (λ c is. refl) b))
row_keeps s solo Cancel k b = cancelled s solo Cancel k (λ c. refl) solo.phase refl refl b

-- what the actions keep, from stage to stage, a step keeps
pub step_keeps : (s : Setting) (solo : Solo) (item : Item) {P : Stage → Draft → Type 0} → Keeps s solo item P → P Begun (untouched solo)
    → P Ended (steps.solo_step s solo item)
unfolding steps.solo_step
step_keeps s solo item k b = unless (steps.row s item (untouched solo)) (steps.spent solo) (row_keeps s solo item k b) (k.spends b)
