-- What each action leaves of how far a phone has come, from stage to stage, and so the step.
use Rattle.std.proofs.Common.{◌≡◌, ℕ, ◌+◌, ◌-◌, ◌%◌, true, List, [], ◌∷◌, Option, Some, None, IsSome, slice_get, refl, sym, subst, ap, ◌∙◌}
use Rattle.std.specs.Option.{option_map_or}
use Rattle.eps_keys.specs.Same.{same_octets}
use Rattle.identity_slots.specs.declared.profile.Vector.{Vector}
use Rattle.s1ap_pdus.specs.declared.pdu.Pdu.{Pdu}
use Rattle.mme_types.specs.declared.connection.Connection.{Connection}
use Rattle.mme_types.specs.Events as events
use Rattle.mme_signalling.specs.declared.heard.Heard.TheVariants as heards
use Rattle.mme_signalling.specs.Messages.{authentication_request}
use Rattle.mme_signalling.specs.Pdus.{downlink}
use Rattle.emm_state.specs.declared.draft.Draft.{Draft}
use Rattle.emm_state.specs.declared.setting.Setting.{Setting}
use Rattle.emm_state.specs.declared.solo.NasTimer.{NasTimer}
use Rattle.emm_state.specs.declared.solo.NasTimer.TheVariants.{T3460}
use Rattle.emm_state.specs.declared.solo.Repeat.{Repeat}
use Rattle.emm_state.specs.Does.{◌>>=◌}
use Rattle.nas_messages.specs.declared.protection.SecurityHeader.{SecurityHeader}
use Rattle.emm_state.specs.declared.solo.Phase.{Phase}
use Rattle.emm_state.specs.declared.solo.Phase.TheVariants.{Accepting, Authenticating, Deregistered, SecurityMode, Updating}
use Rattle.emm_state.specs.declared.solo.Protection.TheVariants.{Plain}
use Rattle.emm_state.specs.declared.solo.Repeat.TheVariants as repeats
use Rattle.emm_state.specs.declared.solo.Solo.{Solo}
use Rattle.emm_state.specs.Actions.{connect, connect_on, emit, ended, protect, send, start, untouched, wipe}
use Rattle.emm_state.specs.Phases.{is}
use Rattle.emm_machine.specs.Attaching as attaching
use Rattle.emm_machine.specs.Connected as connected
use Rattle.emm_machine.specs.Idle as idle
use Rattle.emm_machine.specs.Serving as serving
use Rattle.emm_machine.specs.Steps as steps
use Rattle.laws_subscriber.specs.Choices.{Whenever, at_some, then}
use Rattle.laws_subscriber.specs.Keeps.{Asked, Begun, Cleared, Counted, Ended, ForAttach, ForSynch, Keeps, Keyed, Known, Linked, MayAccept, Moving, Serving, Stage, TakesVector, Ticked, Told, WithInformation, WithKeys, is_later, may_close, may_protect, may_say, may_update}
use Rattle.laws_subscriber.specs.Walk.{step_keeps}
use Rattle.laws_subscriber.proofs.Parts.{IsHere, Moves, Past, challenged, completed, here_by, here_connect, here_connect_on, here_emit, here_protect, here_refuse, here_send, here_set_up, here_set_up_with, here_start, here_turn_away, leaves, moves_fall, moves_lost, part_of, place_of, registered_part, responded, stays}

-- what eps_keys' law says of octets that are the same
abbrev pub SameIsEqual : Type 0
SameIsEqual = (xs ys : List ℕ) → same_octets xs ys ≡ true → xs ≡ ys

-- the message goes to the connection
sent_to : (nas : List ℕ) (d : Draft) (k : Connection) → d.solo.connection ≡ Some k
    → send nas d ≡ emit k.station (downlink k nas) None d
unfolding send
sent_to nas d k is =
    ap (λ (o : Option Connection). option_map_or (λ (c : Connection). emit c.station (downlink c nas) None d) o d) is

some_of : {K : Type 0} (o : Option K) → IsSome o → (k : K) × (o ≡ Some k)
some_of None e = absurd (cc)
some_of (Some k) e = (k, refl)

accepting_part : (phase : Phase) → is Accepting phase ≡ true → part_of phase ≡ Past
accepting_part Accepting e = refl
accepting_part _ e = cc

updating_part : (phase : Phase) → is Updating phase ≡ true → part_of phase ≡ Past
updating_part Updating e = refl
updating_part _ e = cc

later_part : (phase : Phase) → is_later phase ≡ true → part_of phase ≡ Past
later_part Deregistered e = cc
later_part Authenticating e = cc
later_part SecurityMode e = cc
later_part _ e = refl

-- ---- a connection stays

IsOn : Draft → Type 0
IsOn d = IsSome d.solo.connection

on_send : (nas : List ℕ) (d : Draft) → IsOn d → IsOn (send nas d)
unfolding IsOn send emit
on_send nas d h = at_some IsOn d.solo.connection (λ k is. h) (λ is. h)

here_emit_each : {b : Solo} (message : Pdu (List ℕ)) (es : List ℕ) (d : Draft) → IsHere b d → IsHere b (idle.emit_each message es d)
here_emit_each message [] d h = h
here_emit_each message (e ∷ es) d h = here_emit_each message es (emit e message None d) (here_emit e message None h)

here_page : {b : Solo} {d : Draft} (s : Setting) (es : List ℕ) → IsHere b d → IsHere b (idle.page s es d)
unfolding idle.page
here_page {b} {d} s es h = at_some (IsHere b) d.solo.tmsi (λ t is. here_emit_each _ es d h) (λ is. h)

-- as it is
itself : {d : Draft} → IsHere d.solo d
itself = record { part = refl; next = refl; place = refl }

module _ (s : Setting) (b : Solo) (item : events.Item) where
  moves_challenged : (d : Draft) (v : Vector) → slice_get s.vectors d.solo.next_vector ≡ Some v → IsSome d.solo.connection
      → Moves s b item (attaching.challenged v d)
  unfolding attaching.challenged start emit
  moves_challenged d v there linked =
      let place = d.solo.next_vector in
      let k = some_of d.solo.connection linked in
      let request = authentication_request (place % 7) v.rand v.autn in
      let taken : Draft = record d { solo = record d.solo { phase = Authenticating; next_vector = place + 1 } } in
      subst (λ (e : Draft). Moves s b item (start T3460 (repeats.Nas Plain request) e)) (sym (sent_to request taken k.0 k.1))
      (challenged place v refl refl there (k.0, d.sent, k.1, refl))

  -- a part past the proof, of that context
  abbrev IsPast : Draft → Type 0
  IsPast d = (e : Draft) → part_of e.solo.phase ≡ Past → e.solo.next_vector ≡ d.solo.next_vector
      → place_of e.solo.context ≡ place_of d.solo.context → Moves s b item e

  abbrev P : Stage → Draft → Type 0
  P Begun d = IsHere b d
  P Linked d = IsOn d × IsHere b d
  P Cleared d = IsOn d
  P Asked d = IsOn d
  P Told d = IsHere b d
  P Known d = IsHere b d
  P Serving d = IsHere b d × (part_of b.phase ≡ Past)
  P Keyed d = IsPast d
  P (Moving phase) d = (e : Draft) → IsHere d.solo e → Moves s b item e
  P Counted d = IsHere b d
  P Ticked d = Moves s b item d
  P Ended d = Moves s b item d

  says : (at : Stage) (nas : List ℕ) (d : Draft) → may_say at ≡ true → P at d → P at (send nas d)
  says Begun nas d may h = here_send nas h
  says Linked nas d may h = (on_send nas d h.0, here_send nas h.1)
  says Cleared nas d may h = on_send nas d h
  says Asked nas d may h = on_send nas d h
  says Told nas d may h = here_send nas h
  says Known nas d may h = here_send nas h
  says Counted nas d may h = here_send nas h
  says _ nas d may h = absurd (cc may)

  guards : (at : Stage) (header : SecurityHeader) (nas : List ℕ) (d : Draft) → may_protect at ≡ true → P at d
      → Whenever (P at) (protect header nas d)
  guards Told header nas d may h = here_protect header nas h
  guards Known header nas d may h = here_protect header nas h
  guards Counted header nas d may h = here_protect header nas h
  guards _ header nas d may h = absurd (cc may)

  closes : (at : Stage) (d : Draft) → may_close at ≡ true → P at d → IsHere b d
  closes Begun d may h = h
  closes Told d may h = h
  closes _ d may h = absurd (cc may)

  updates : (at : Stage) (d : Draft) → may_update at ≡ true → P at d → IsHere b d
  updates Known d may h = h
  updates Told d may h = h
  updates _ d may h = absurd (cc may)

  -- past the proof, whatever the phase was
  past_here : {d : Draft} (e : Draft) → part_of b.phase ≡ Past → IsHere b d → part_of e.solo.phase ≡ Past
      → e.solo.next_vector ≡ d.solo.next_vector → place_of e.solo.context ≡ place_of d.solo.context → Moves s b item e
  past_here e past h part next place = stays (record { part = part ∙ sym past; next = next ∙ h.next; place = place ∙ h.place })

  accepts : (at : Stage) (d : Draft) → MayAccept b item at d → P at d → IsPast d
  accepts at d (WithKeys is) h = subst (λ (a : Stage). P a d) is h
  accepts at d (WithInformation x count octets is a later now came) h =
      λ e part next place. past_here e (later_part b.phase later) (subst (λ (a : Stage). P a d) is h) part next place

  challenges : (at : Stage) (d : Draft) → TakesVector b item at d.solo → P at d → IsOn d
  unfolding IsOn
  challenges at d (ForAttach is next combined esm request has) h = subst (λ (a : Stage). P a d) is h
  challenges at d (ForSynch nas is same phase on plain told) h = subst (λ (x : Solo). IsSome x.connection) (sym same) on.linked

  -- a message is sent and kept to be sent again
  kept : {o : Option Draft} (d : Draft) (timer : NasTimer) (again : Repeat) → ((e : Draft) → IsHere d.solo e → Moves s b item e)
      → Whenever (IsHere d.solo) o → Whenever (Moves s b item) (o >>= λ e. Some (start timer again e))
  kept d timer again h w = then _ w (λ e f. h (start timer again e) (here_start timer again f))

  keeps : SameIsEqual → Keeps s b item P
  unfolding IsOn attaching.requesting attaching.asking attaching.new_context attaching.took attaching.keyed attaching.activating attaching.given_tmsi serving.active serving.updating serving.registered connected.switched connected.strike idle.paged idle.lowered idle.restarted ended wipe connect connect_on
  keeps equal = record {
    sends = λ at nas d may to tells h. says at nas d may h;
    protects = λ at header nas d may tells h. guards at header nas d may h;
    commands = λ v r h.
        let d = attaching.new_context (b.next_vector - 1) v (untouched b) in
        kept d _ _ h (here_protect {b = d.solo} {d = d} _ _ itself);
    asks_information = λ d h. kept d _ _ h (here_protect {b = d.solo} {d = d} _ _ itself);
    accepts_update = λ grant d same h. kept d _ _ h (here_protect {b = d.solo} {d = d} _ _ itself);
    tells_detach = λ d h. kept d _ _ h (here_protect {b = d.solo} {d = d} _ _ itself);
    sets_up = λ x d has phase h.
        let u = here_set_up {b = d.solo} {d = d} s x.radio.kenb None None itself in h _ (u.part ∙ ap part_of phase) u.next u.place;
    accepts_attach = λ x grant session d has same bearer h. kept d _ _ h (here_set_up_with {b = d.solo} {d = d} s x.radio.kenb _ itself);
    closes = λ at d may left h. stays (closes at d may h);
    forgets = λ at cause d may known h. leaves refl;
    falls = λ at cause d may known h. moves_fall {b = b} {d = d} cause (closes at d may h);
    loses = λ d h. moves_lost {b = b} {d = d} h;
    drops = λ is none h. leaves refl;
    spends = λ h. leaves refl;
    refuses = λ m nas is tells h. stays (here_refuse _ _ _ _ h);
    turns_away = λ m is h. stays (here_turn_away _ _ _ h);
    emits = λ m message is may h. stays (here_emit _ _ None h);
    switches = λ m x w h.
        stays (here_emit m.station _ None (record { part = h.part; next = h.next; place = sym (ap place_of w.context) ∙ h.place }));
    connects = λ m is h. (refl, here_connect s.slot m.station m.enb_ue_id h);
    connects_on = λ id m is h. (refl, here_connect_on id m.station m.enb_ue_id h);
    clears = λ combined capability esm tai d asks h. h.0;
    asks = λ combined capability esm tai d asks has h. h;
    challenges = λ at v d there takes h. moves_challenged d v there (challenges at d takes h);
    makes_context = λ v r h e f.
        responded v (ap part_of r.phase) f.part r.there
        (r.nas, r.on.carried, r.told ∙ ap heards.AuthenticationResponse (equal r.res v.xres r.same)) f.place;
    takes = λ headers x count inner a h. record { part = refl; next = refl; place = sym (ap place_of a.has) };
    keys = λ x count inner phase a told h e past next place.
        completed x (ap part_of phase) past a.has (a.nas, inner, count, a.on.carried, a.accepts, told) place;
    takes_on = λ m x count inner d is has a had h. record { part = h.1.part; next = h.1.next; place = sym (ap place_of had) };
    serves = λ d registered phase h.
        let past = registered_part b.phase registered in (record { part = sym past; next = h.1.next; place = h.1.place }, past);
    keys_on = λ x count octets d has phase had a h e past next place.
        stays (record { part = past ∙ sym h.1; next = next ∙ h.0.next; place = place ∙ sym (ap place_of had) });
    activates = λ at d may on h e f. accepts at d may h e f.part f.next f.place;
    waits = λ d h e f. h e f.part f.next f.place;
    updates = λ at tai initial d may h e f. past_here e (registered_part b.phase may.was) (updates at d may.stage h) f.part f.next f.place;
    attaches = λ esm d phase h.
        record { part = sym (accepting_part d.solo.phase phase) ∙ h.part; next = h.next; place = h.place };
    updated = λ d phase h. record { part = sym (updating_part d.solo.phase phase) ∙ h.part; next = h.next; place = h.place };
    detaches = λ is registered linked h e f. past_here e (registered_part b.phase registered) h f.part f.next f.place;
    pages = λ stations is may h. stays (here_start _ _ (here_page s _ h));
    strikes = λ station is h. here_by refl refl refl h;
    lowers = λ is h. here_by refl refl refl h;
    restarts = λ c is h. here_by refl refl refl h;
    pages_again = λ c es is was h. here_page s es h;
    goes_on = λ d is h. stays h;
    gives_up = λ is h. stays (here_by refl refl refl h);
    fails = λ cause is known h. moves_fall {b = b} cause h;
    passes = λ d is h. h;
    times_out = λ n d is out h. leaves refl;
  }

pub moves_step : SameIsEqual → (s : Setting) (b : Solo) (item : events.Item) → Moves s b item (steps.solo_step s b item)
moves_step equal s b item = step_keeps s b item (keeps s b item equal) itself
