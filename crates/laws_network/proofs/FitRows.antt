-- What each action leaves in range, from stage to stage, and so the step; and each of its messages is sent.
use Rattle.std.proofs.Common.{◌≡◌, ℕ, ◌-◌, ◌%◌, ◌<◌, Bool, true, false, cond, inl, inr, List, [], ◌∷◌, Option, Some, None, refl, sym, ◌∙◌, ap, subst, arith}
use Rattle.std.proofs.lemmas.Option.{same_Some}
use Rattle.per_streams.specs.Octet.{AreBytes, all_below}
use Rattle.esm_machine.specs.declared.bearer.BearerState.TheVariants.{Active}
use Rattle.esm_machine.specs.Reading.{is_accept}
use Rattle.esm_machine.specs.Sessions.{Session, transaction_of}
use Rattle.nas_messages.specs.declared.protection.SecurityHeader.{SecurityHeader}
use Rattle.s1ap_elements.specs.declared.phone.Tai.{Tai}
use Rattle.s1ap_pdus.specs.declared.pdu.Pdu.{Pdu}
use Rattle.mme_types.specs.declared.event.Entry.{Entry}
use Rattle.mme_types.specs.declared.event.UeBody.{UeBody}
use Rattle.mme_types.specs.declared.event.UeBody.TheVariants as bodies
use Rattle.mme_types.specs.declared.event.UeMessage.{UeMessage}
use Rattle.mme_types.specs.Events as events
use Rattle.mme_signalling.specs.declared.heard.Heard.TheVariants as heards
use Rattle.emm_state.specs.declared.draft.Draft.{Draft}
use Rattle.emm_state.specs.declared.setting.Setting.{Setting}
use Rattle.emm_state.specs.declared.solo.Context.{Context}
use Rattle.emm_state.specs.declared.solo.NasTimer.{NasTimer}
use Rattle.emm_state.specs.declared.solo.Repeat.{Repeat}
use Rattle.emm_state.specs.declared.solo.Repeat.TheVariants as repeats
use Rattle.emm_state.specs.declared.solo.Solo.{Solo}
use Rattle.emm_state.specs.Actions.{emit, ended, mac_of, protect_and_await, untouched, wipe}
use Rattle.emm_machine.specs.Attaching as attaching
use Rattle.emm_machine.specs.Attaching.{counted_up, keys_of, no_keys}
use Rattle.emm_machine.specs.Connected as connected
use Rattle.emm_machine.specs.Idle as idle
use Rattle.emm_machine.specs.Serving as serving
use Rattle.emm_machine.specs.Steps as steps
use Rattle.laws_subscriber.specs.Choices.{Whenever, at_some, then}
use Rattle.laws_subscriber.specs.Keeps.{AcceptsDetach, AcceptsDetachUnder, Answers, Indicates, Keeps, RefusesAttach, RefusesEsm, RefusesProof, RefusesRequest, TellsAgain, TellsAgainUnder, TellsPlainly, TellsStatus, TellsStatusUnder, TellsUnder, request_in, tai_of, tai_of_body}
use Rattle.laws_subscriber.specs.Proof.{nas_of_body, uplink_nas}
use Rattle.laws_subscriber.specs.Walk.{known_cause, step_keeps}
use Rattle.laws_network.specs.KeyLaws.{integrity_key_below, kenb_bytes, next_hop_bytes}
use Rattle.laws_network.specs.NasLaws.{brief_activation, brief_attach_accept, brief_attach_reject, brief_authentication_reject, brief_authentication_request, brief_detach_accept, brief_emm_status, brief_information_request, brief_network_detach, brief_security_mode_command, brief_service_reject, brief_update_accept, brief_update_reject, brief_within}
use Rattle.laws_network.specs.Ranges.{ConnectionInRange, IsBrief, IsWritten, KeysInRange, TaiInRange}
use Rattle.laws_network.specs.SubscriberRanges.{BodyInRange, ContextInRange, EntryInRange, ItemInRange, MessageInRange, RepeatInRange, SettingInRange, SoloInRange, StaysInRange}
use Rattle.laws_network.specs.Whole.{EveryMessageIsSent, RequestsAreKnown}
use Rattle.laws_network.proofs.Heard.{AcceptanceInRange, DecodedEsmIsSpelled, DecodedIsSpelled, HeardInRange, ReactionInRange, RequestedInRange, accepted_in_range, heard_in_range, initial_in_range, reaction_in_range, request_in_range, requested_in_range}
use Rattle.laws_network.proofs.FitActions.{AreWritten, IsFit, connected_in, fit_by, fit_connect, fit_connect_on, fit_emit, fit_ended, fit_fall, fit_forgotten, fit_lost, fit_protect, fit_refuse, fit_send, fit_set_up, fit_set_up_with, fit_start, fit_took, fit_turn_away, fit_wipe, known_in, with_context}

-- ---- causes

pub requests_are_known : RequestsAreKnown
requests_are_known = known_cause

-- ---- contexts and keys

-- a count is accepted
counted : (x : Context) (count : ℕ) → ContextInRange x → ContextInRange (counted_up x count)
counted x count h = record { integrity = h.integrity; radio = h.radio }

keys_in_range : (kasme : List ℕ) (count : ℕ) → KeysInRange (keys_of kasme count)
keys_in_range kasme count = record { kenb = kenb_bytes kasme count; next_hop = tt; chaining_count = omega arith }

no_keys_in_range : KeysInRange no_keys
no_keys_in_range = record { kenb = refl; next_hop = tt; chaining_count = omega arith }

pub hop_bytes : (x : Context) → AreBytes 32 (connected.hop_after x)
hop_bytes x = next_hop_bytes x.kasme (connected.standing_hop x.kasme x.radio)

hopped_in_range : (x : Context) → ContextInRange x → KeysInRange (connected.hopped x)
hopped_in_range x h = record { kenb = h.radio.kenb; next_hop = hop_bytes x; chaining_count = omega arith }

-- a bearer that is accepted keeps its request
either_low : (b : Bool) (x y : Session) → transaction_of x.request < 256 → transaction_of y.request < 256
    → transaction_of (cond b x y).request < 256
either_low true x y p q = p
either_low false x y p q = q

-- ---- what an item says

body_tai : (body : UeBody (List ℕ)) (tai : Tai) → BodyInRange body → tai_of_body body ≡ Some tai → TaiInRange tai
body_tai (bodies.Uplink nas found) tai fits is = subst TaiInRange (same_Some found tai is) fits.1
body_tai _ tai fits is = absurd (cc is)

tai_in_range : (item : events.Item) (tai : Tai) → ItemInRange item → tai_of item ≡ Some tai → TaiInRange tai
tai_in_range (events.Initial m) tai fits is = subst TaiInRange (same_Some m.tai tai is) fits.tai
tai_in_range (events.Claim id m) tai fits is = subst TaiInRange (same_Some m.tai tai is) fits.1.tai
tai_in_range (events.Message m) tai fits is = body_tai m.body tai fits.body is
tai_in_range _ tai fits is = absurd (cc is)

body_nas : (body : UeBody (List ℕ)) (nas : List ℕ) → BodyInRange body → nas_of_body body ≡ Some nas → all_below 256 nas ≡ true
body_nas (bodies.Uplink found tai) nas fits is = ap (all_below 256) (sym (same_Some found nas is)) ∙ fits.0
body_nas _ nas fits is = absurd (cc is)

nas_below : (item : events.Item) (nas : List ℕ) → ItemInRange item → uplink_nas item ≡ Some nas → all_below 256 nas ≡ true
nas_below (events.Message m) nas fits is = body_nas m.body nas fits.body is
nas_below _ nas fits is = absurd (cc is)

heard_in : DecodedIsSpelled → (item : events.Item) → ItemInRange item → HeardInRange (request_in item)
heard_in spelled (events.Initial m) fits = heard_in_range spelled _ (initial_in_range m.nas fits.nas)
heard_in spelled (events.Claim id m) fits = heard_in_range spelled _ (initial_in_range m.nas fits.1.nas)
heard_in spelled _ fits = tt

-- ---- what each action keeps

module _ (written : AreWritten) (spelled : DecodedIsSpelled) (esm_spelled : DecodedEsmIsSpelled) (s : Setting) (setting : SettingInRange s)
    (solo : Solo) (item : events.Item) (found : SoloInRange solo) (fits : ItemInRange item) where
  entry_in : (m : Entry (List ℕ)) → item ≡ events.Initial m → EntryInRange m
  entry_in m is = subst ItemInRange is fits

  message_in : (m : UeMessage (List ℕ)) → item ≡ events.Message m → MessageInRange m
  message_in m is = subst ItemInRange is fits

  asked_in : (combined : Bool) (capability esm : List ℕ) → request_in item ≡ heards.AttachRequest combined capability esm
      → (all_below 256 capability ≡ true) × (all_below 256 esm ≡ true)
  asked_in combined capability esm is = subst HeardInRange is (heard_in spelled item fits)

  -- what is sent is brief
  brief_plainly : (nas : List ℕ) → TellsPlainly solo item nas → IsBrief 1000 nas
  brief_plainly nas (RefusesAttach cause is) = subst (IsBrief 1000) (sym is) (brief_attach_reject cause None tt)
  brief_plainly nas (RefusesEsm cause session combined capability esm answer request refused is) =
      subst (IsBrief 1000) (sym is)
      (brief_attach_reject cause (Some answer)
      (subst RequestedInRange refused (requested_in_range esm_spelled session esm (asked_in combined capability esm request).1)))
  brief_plainly nas (RefusesProof is) = subst (IsBrief 1000) (sym is) brief_authentication_reject
  brief_plainly nas (AcceptsDetach is) = subst (IsBrief 1000) (sym is) brief_detach_accept
  brief_plainly nas (TellsStatus cause is) = subst (IsBrief 1000) (sym is) (brief_emm_status cause)
  brief_plainly nas (TellsAgain ticks was) = subst RepeatInRange was found.repeat

  brief_under : (header : SecurityHeader) (nas : List ℕ) → TellsUnder solo item header nas → IsBrief 1000 nas
  brief_under header nas (AcceptsDetachUnder in_use is) = subst (IsBrief 1000) (sym is) brief_detach_accept
  brief_under header nas (TellsStatusUnder in_use cause is) = subst (IsBrief 1000) (sym is) (brief_emm_status cause)
  brief_under header nas (Answers in_use x count octets a came) =
      let below : all_below 256 octets ≡ true =
      subst AcceptanceInRange a.accepts
      (accepted_in_range (mac_of x) x.security.up_last serving.in_use a.nas (nas_below item a.nas fits a.on.carried)) in
      brief_within (subst ReactionInRange came (reaction_in_range esm_spelled solo.bearer _ octets below)) (omega arith)
  brief_under header nas (TellsAgainUnder ticks was) = subst RepeatInRange was found.repeat

  brief_refused : (nas : List ℕ) → RefusesRequest nas → IsBrief 1000 nas
  brief_refused nas refuses = elim refuses.1 [
    | inl is ↦ subst (IsBrief 1000) (sym is) (brief_service_reject refuses.0)
    | inr is ↦ subst (IsBrief 1000) (sym is) (brief_update_reject refuses.0)
  ]

  awaits : {d : Draft} (timer : NasTimer) (header : SecurityHeader) (nas : List ℕ) → IsBrief 1000 nas → IsFit d
      → Whenever IsFit (protect_and_await timer header nas d)
  awaits timer header nas brief h = then _ (fit_protect written header nas brief h) (λ e f. fit_start timer _ brief f)

  -- another context, or a message on a new one
  keyed_so : {d : Draft} (x : Context) (count : ℕ) → d.solo.context ≡ Some x → IsFit d
      → IsFit (attaching.keyed (counted_up x count) count d)
  unfolding attaching.keyed
  keyed_so {d} x count has h =
      fit_took _ count
      (record { integrity = (known_in d.solo.context x has h.solo.context).integrity; radio = keys_in_range x.kasme count }) h

  took_so : {d : Draft} (x : Context) (count : ℕ) → d.solo.context ≡ Some x → IsFit d
      → IsFit (attaching.took (counted_up x count) count d)
  took_so {d} x count has h = fit_took _ count (counted x count (known_in d.solo.context x has h.solo.context)) h

  indicated : (m : UeMessage (List ℕ)) (message : Pdu (List ℕ)) → item ≡ events.Message m → Indicates m message → IsFit (untouched solo)
      → IsFit (emit m.station message None (untouched solo))
  indicated m message is may h =
      let ids = message_in m is in
      elim may.2 [
        | inl told ↦
            fit_emit m.station message None
            (subst IsWritten (sym told) (written.indication m.mme_ue_id m.enb_ue_id may.0 ids.mme_ue_id ids.enb_ue_id may.1)) h
        | inr told ↦
            fit_emit m.station message None
            (subst IsWritten (sym told) (written.not_switched m.mme_ue_id m.enb_ue_id may.0 ids.mme_ue_id ids.enb_ue_id may.1)) h
      ]

  fit_emit_each : (message : Pdu (List ℕ)) (es : List ℕ) (d : Draft) → IsWritten message → IsFit d
      → IsFit (idle.emit_each message es d)
  fit_emit_each message [] d w h = h
  fit_emit_each message (e ∷ es) d w h = fit_emit_each message es (emit e message None d) w (fit_emit e message None w h)

  fit_page : {d : Draft} (es : List ℕ) → IsFit d → IsFit (idle.page s es d)
  unfolding idle.page
  fit_page {d} es h =
      at_some IsFit d.solo.tmsi
      (λ t is. fit_emit_each _ es d (written.page s.network s.profile.imsi t d.solo.tai setting.network h.solo.tai) h) (λ is. h)

  struck_in_range : (station : ℕ) (o : Option Repeat) → RepeatInRange o → RepeatInRange (connected.struck station o)
  struck_in_range station None p = tt
  struck_in_range station (Some (repeats.Paging es)) p = tt
  struck_in_range station (Some (repeats.Nas protection nas)) p = p

  keeps : Keeps s solo item (λ at d. IsFit d)
  unfolding attaching.requesting attaching.asking attaching.challenged attaching.new_context attaching.activating attaching.given_tmsi serving.active serving.updating serving.registered connected.switched connected.strike idle.paged idle.lowered idle.restarted ended
  keeps = record {
    sends = λ at nas d may to tells h. fit_send written nas (brief_plainly nas tells) h;
    protects = λ at header nas d may tells h. fit_protect written header nas (brief_under header nas tells) h;
    commands = λ v r h.
        awaits _ _ _ (brief_security_mode_command ((solo.next_vector - 1) % 7) solo.asked.capability (omega arith) found.capability) h;
    asks_information = λ d h.
        awaits _ _ _ (brief_within (brief_information_request d.solo.bearer h.solo.transaction) (omega arith)) h;
    accepts_update = λ grant d same h.
        awaits _ _ _ (brief_update_accept s.network grant setting.network (subst TaiInRange (sym same) h.solo.tai)) h;
    tells_detach = λ d h. awaits _ _ _ brief_network_detach h;
    sets_up = λ x d has phase h.
        fit_set_up written s x.radio.kenb None None setting (known_in d.solo.context x has h.solo.context).radio.kenb tt h;
    accepts_attach = λ x grant session d has same bearer h.
        let low : transaction_of session.request < 256 =
        subst (λ (b : Session). transaction_of b.request < 256) bearer h.solo.transaction in
        let esm = brief_activation session s.network.apn s.profile.address low setting.network.apn setting.profile.address in
        let brief = brief_attach_accept s.network grant _ setting.network (subst TaiInRange (sym same) h.solo.tai) esm in
        then _
        (fit_set_up_with written s x.radio.kenb _ setting (known_in d.solo.context x has h.solo.context).radio.kenb brief h)
        (λ e f. fit_start _ _ brief f);
    closes = λ at d may left h. h;
    forgets = λ at cause d may known h. fit_forgotten written cause known h;
    falls = λ at cause d may known h. fit_fall written cause known h;
    loses = λ d h. fit_lost h;
    drops = λ is none h. fit_wipe h;
    spends = λ h. fit_wipe (fit_fall written _ refl h);
    refuses = λ m nas is refuses h.
        fit_refuse written s m.station m.enb_ue_id nas setting (entry_in m is).enb_ue_id (brief_refused nas refuses) h;
    turns_away = λ m is h. fit_turn_away written s m.station m.enb_ue_id setting (entry_in m is).enb_ue_id h;
    emits = indicated;
    switches = λ m x w h.
        let message = message_in m w.is in
        let known = known_in solo.context x w.context found.context in
        let moved : ContextInRange (record x { radio = connected.hopped x }) =
        record { integrity = known.integrity; radio = hopped_in_range x known } in
        let ids : ConnectionInRange (connected.connection_of m) = record { id = message.mme_ue_id; enb_ue_id = message.enb_ue_id } in
        fit_emit m.station _ None
        (written.switched (connected.connection_of m) (connected.hop_after x) (connected.next_chaining_count x.radio.chaining_count) ids (hop_bytes x) (omega arith))
        (record {
          solo = with_context (record solo { connection = Some (connected.connection_of m) }) _ moved
              (connected_in solo (Some (connected.connection_of m)) ids h.solo);
          sent = h.sent;
        });
    connects = λ m is h. fit_connect written s m.station m.enb_ue_id setting (entry_in m is).enb_ue_id h;
    connects_on = λ id m is h.
        let claim : ItemInRange (events.Claim id m) = subst ItemInRange is fits in
        fit_connect_on written id m.station m.enb_ue_id claim.0 claim.1.enb_ue_id h;
    clears = λ combined capability esm tai d asks h.
        let w = fit_wipe h in
        let below = asked_in combined capability esm asks.request in record {
          solo = record {
            connection = w.solo.connection;
            context = w.solo.context;
            tai = w.solo.tai;
            capability = w.solo.capability;
            transaction = request_in_range esm_spelled (wipe d).solo.bearer esm below.1 w.solo.transaction;
            repeat = w.solo.repeat;
          };
          sent = w.sent;
        };
    asks = λ combined capability esm tai d asks has h. record {
      solo = record {
        connection = h.solo.connection;
        context = h.solo.context;
        tai = tai_in_range item tai fits asks.from;
        capability = (asked_in combined capability esm asks.request).0;
        transaction = h.solo.transaction;
        repeat = h.solo.repeat;
      };
      sent = h.sent;
    };
    challenges = λ at v d there takes h.
        let vector = setting.vectors d.solo.next_vector v there in
        let brief = brief_authentication_request (d.solo.next_vector % 7) v.rand v.autn (omega arith) vector.rand vector.autn in
        fit_start _ _ brief (fit_send written _ brief (fit_by refl h));
    makes_context = λ v r h. record {
      solo = record {
        connection = found.connection;
        context = record { integrity = integrity_key_below v.kasme; radio = no_keys_in_range };
        tai = found.tai;
        capability = found.capability;
        transaction = found.transaction;
        repeat = found.repeat;
      };
      sent = h.sent;
    };
    takes = λ headers x count inner a h. took_so x count a.has h;
    keys = λ x count inner phase a told h. keyed_so x count a.has h;
    takes_on = λ m x count inner d is has a had h. took_so x count has h;
    serves = λ d registered phase h. fit_by refl (fit_ended h);
    keys_on = λ x count octets d has phase had a h. keyed_so x count has h;
    activates = λ at d may on h. fit_by refl h;
    waits = λ d h. fit_by refl h;
    updates = λ at tai initial d may h. record {
      solo = record {
        connection = h.solo.connection;
        context = h.solo.context;
        tai = tai_in_range item tai fits may.from;
        capability = h.solo.capability;
        transaction = h.solo.transaction;
        repeat = tt;
      };
      sent = h.sent;
    };
    attaches = λ esm d phase h. record {
      solo = record {
        connection = h.solo.connection;
        context = h.solo.context;
        tai = h.solo.tai;
        capability = h.solo.capability;
        transaction = either_low (is_accept esm) (record d.solo.bearer { state = Active }) d.solo.bearer h.solo.transaction h.solo.transaction;
        repeat = tt;
      };
      sent = h.sent;
    };
    updated = λ d phase h. fit_by refl (fit_ended h);
    detaches = λ is registered linked h. fit_by refl h;
    pages = λ stations is may h. fit_start _ _ tt (fit_page _ h);
    strikes = λ station is h. record {
      solo = record {
        connection = found.connection;
        context = found.context;
        tai = found.tai;
        capability = found.capability;
        transaction = found.transaction;
        repeat = struck_in_range station solo.repeat found.repeat;
      };
      sent = h.sent;
    };
    lowers = λ is h. fit_by refl h;
    restarts = λ c is h. fit_by refl h;
    pages_again = λ c es is was h. fit_page es h;
    goes_on = λ d is h. h;
    gives_up = λ is h. fit_ended h;
    fails = λ cause is known h. fit_fall written cause known h;
    passes = λ d is h. h;
    times_out = λ n d is out h. fit_wipe h;
  }

pub fit_step : AreWritten → DecodedIsSpelled → DecodedEsmIsSpelled → {s : Setting} → SettingInRange s → (solo : Solo) (item : events.Item)
    → ItemInRange item → SoloInRange solo → IsFit (steps.solo_step s solo item)
fit_step written spelled esm_spelled {s} setting solo item fits h =
    step_keeps s solo item (keeps written spelled esm_spelled s setting solo item h fits) (record { solo = h; sent = refl })

pub stays_in_range : AreWritten → DecodedIsSpelled → DecodedEsmIsSpelled → StaysInRange
stays_in_range written spelled esm_spelled s solo [] setting h fits = h
stays_in_range written spelled esm_spelled s solo (item ∷ items) setting h fits =
    stays_in_range written spelled esm_spelled s (steps.solo_step s solo item).solo items setting
    (fit_step written spelled esm_spelled setting solo item fits.0 h).solo fits.1

pub every_message_sent : AreWritten → DecodedIsSpelled → DecodedEsmIsSpelled → EveryMessageIsSent
every_message_sent written spelled esm_spelled s solo item setting h fits =
    (fit_step written spelled esm_spelled setting solo item fits h).sent
