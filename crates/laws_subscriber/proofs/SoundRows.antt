-- What each action leaves of a sound state, from stage to stage, and so the step: it is sound, and what was sent is under its mark and
-- without a radio key but for the proved.
use Rattle.std.proofs.Common.{◌≡◌, ℕ, zero, suc, ◌+◌, ◌-◌, ◌%◌, ◌<◌, ◌≤◌, ◌^◌, ◌==◌, arith, le_refl, true, false, inl, inr, List, [], ◌∷◌, Option, Some, None, IsSome, is_some, Ok, refl, sym, ◌∙◌, ap, subst, true≢false}
use Rattle.std.specs.Option.{option_map_or}
use Rattle.std.proofs.lemmas.List.Elements.{All-nil}
use Rattle.std.proofs.lemmas.Option.{same_Some}
use Rattle.nas_messages.specs.declared.protection.SecurityHeader.{SecurityHeader}
use Rattle.nas_messages.specs.declared.protection.SecurityHeader.TheVariants.{IntegrityProtectedCiphered}
use Rattle.nas_security.specs.Accepting.{accepted}
use Rattle.nas_security.specs.Context.{Mac}
use Rattle.nas_security.specs.Counts.{first_after}
use Rattle.s1ap_elements.specs.declared.phone.Tai.{Tai}
use Rattle.s1ap_pdus.specs.declared.pdu.Pdu.{Pdu}
use Rattle.identity_slots.specs.declared.profile.Vector.{Vector}
use Rattle.mme_types.specs.declared.connection.Connection.{Connection}
use Rattle.mme_types.specs.declared.connection.RadioKeys.{RadioKeys}
use Rattle.mme_types.specs.declared.event.UeMessage.{UeMessage}
use Rattle.mme_types.specs.Events.{Item}
use Rattle.mme_signalling.specs.Pdus.{error_indication, paging, path_switch_acknowledge, path_switch_failure}
use Rattle.emm_state.specs.declared.draft.Draft.{Draft}
use Rattle.emm_state.specs.declared.setting.Setting.{Setting}
use Rattle.emm_state.specs.declared.solo.Context.{Context}
use Rattle.emm_state.specs.declared.solo.NasTimer.{NasTimer}
use Rattle.emm_state.specs.declared.solo.Phase.{Phase}
use Rattle.emm_state.specs.declared.solo.Phase.TheVariants.{Deregistered, Authenticating, SecurityMode, Accepting, Updating, Registered}
use Rattle.emm_state.specs.declared.solo.Repeat.{Repeat}
use Rattle.emm_state.specs.declared.solo.Repeat.TheVariants as repeats
use Rattle.emm_state.specs.declared.solo.Solo.{Solo}
use Rattle.emm_state.specs.Actions.{emit, ended, is_registered, protect, protect_and_await, send, set_up_with, untouched}
use Rattle.emm_state.specs.Phases.{is}
use Rattle.emm_machine.specs.Attaching as attaching
use Rattle.emm_machine.specs.Attaching.{counted_up, keys_of}
use Rattle.emm_machine.specs.Connected as connected
use Rattle.emm_machine.specs.Idle as idle
use Rattle.emm_machine.specs.Serving as serving
use Rattle.emm_machine.specs.Steps as steps
use Rattle.laws_subscriber.specs.Choices.{Whenever, at_some, then}
use Rattle.laws_subscriber.specs.Keeps.{AcceptsDetach, Asked, Begun, Cleared, Counted, Ended, ForAttach, ForSynch, Indicates, IsSwitch, Keeps, Keyed, Known, Linked, MayAccept, MayUpdate, Moving, RefusesAttach, RefusesEsm, RefusesProof, RefusesRequest, Serving, Stage, TakesVector, TellsAgain, TellsPlainly, TellsStatus, Ticked, Told, WithInformation, WithKeys, is_later, may_close, may_protect, may_say, may_update}
use Rattle.laws_subscriber.specs.Sound.{HasChallenge, HasConnection, HasContext, IsCountedIdle, IsDerived, IsOfVector, IsPlainRepeat, IsSound, has_security_header, is_past_proof, keys_after}
use Rattle.laws_subscriber.specs.Walk.{linked_by, step_keeps}
use Rattle.laws_subscriber.proofs.Forms.{plain_attach_reject, plain_authentication_reject, plain_authentication_request, plain_detach_accept, plain_emm_status, plain_service_reject, plain_update_reject}
use Rattle.laws_subscriber.proofs.Saying.{HasKey, IsBare, IsDone, IsKnown, IsLinked, IsProven, IsReady, Proved, Spends, Whatever, anyhow, bare_wipe, by, context_recounted, done, done_set_up, done_start, idle_fall, idle_wipe, keyed_context, known_context, known_recounted, linked_connect, linked_connect_on, ready_emit, ready_protect, ready_seal, ready_send, ready_took, registered_past, rises_above, rises_same, said_keyless, said_more, sound_fall, sound_forgotten, sound_idle, sound_lost, sound_protect, sound_recounted, sound_refuse, sound_start, sound_turn_away, spends_key}

-- ---- states

-- a connection that is there leaves nothing counted
uncounted : (o : Option ℕ) (c e : Option Connection) → IsCountedIdle o c → IsSome c → IsCountedIdle o e
uncounted None c e h some_c = tt
uncounted (Some n) c e h some_c =
    absurd (true≢false (sym some_c ∙ subst (λ (k : Option Connection). is_some k ≡ false) (sym h) refl))

counted_lower : (o : Option ℕ) (c : Option Connection) → IsCountedIdle o c
    → IsCountedIdle (option_map_or (λ n. Some (n - 1)) o None) c
counted_lower None c h = tt
counted_lower (Some n) c h = h

none_of : {K : Type 0} (o : Option K) → is_some o ≡ false → o ≡ None
none_of None e = refl
none_of (Some k) e = absurd (cc)

registered_linked : (phase : Phase) (k : Connection) → is_registered phase ≡ true → HasConnection phase (Some k)
registered_linked Registered k e = tt
registered_linked Updating k e = refl
registered_linked _ k e = absurd (cc)

-- all that a sound state past the proof has while it is connected
proven : (s : Setting) (solo : Solo) → is_past_proof solo.phase ≡ true → IsSome solo.connection → IsSound s solo → IsProven s solo
proven s solo past linked h =
    record { context = keyed_context solo.phase s.vectors solo.context past h.context; connection = linked; reachable = h.reachable; repeat = h.repeat }

-- one more path switch
moved_once_more : (moves : ℕ) (x : Context) (count : ℕ)
    → connected.hopped (record x { radio = keys_after moves x.kasme count }) ≡ keys_after (suc moves) x.kasme count
moved_once_more zero x count = refl
moved_once_more (suc moves) x count =
    let round : ((suc moves + 1) % 8 + 1) % 8 ≡ (suc (suc moves) + 1) % 8 = omega arith in
    ap (λ (n : ℕ). record (keys_after (suc (suc moves)) x.kasme count) { chaining_count = n }) round

-- a context that moves on stays derived
moved_derived : (x : Context) → IsDerived x → IsDerived (record x { radio = connected.hopped x })
moved_derived x derived =
    let count = derived.0 in
    let moves = derived.2 in
    (count, derived.1, suc moves, derived.3, derived.4, ap (λ (keys : RadioKeys). connected.hopped (record x { radio = keys })) derived.5 ∙ moved_once_more moves x count)

later_context : (phase : Phase) (vectors : List Vector) (x : Context) (v : Vector) → is_past_proof phase ≡ true
    → IsOfVector vectors x v → IsDerived x
    → HasContext phase vectors (Some x)
later_context Deregistered vectors x v past of derived = absurd (cc)
later_context Authenticating vectors x v past of derived = absurd (cc)
later_context SecurityMode vectors x v past of derived = absurd (cc)
later_context _ vectors x v past of derived = (x, v, refl, of, derived)

past_challenge : (phase : Phase) (vectors : List Vector) (next : ℕ) → is_past_proof phase ≡ true → HasChallenge phase vectors next
past_challenge Authenticating vectors next e = absurd (cc)
past_challenge _ vectors next e = tt

connection_in : (s : Setting) (solo : Solo) (phase : Phase) → solo.phase ≡ phase → IsSound s solo
    → HasConnection phase solo.connection
connection_in s solo phase is h = subst (λ (p : Phase). HasConnection p solo.connection) is h.connection

past_later : (phase : Phase) → is_later phase ≡ true → is_past_proof phase ≡ true
past_later Deregistered e = absurd (cc e)
past_later Authenticating e = absurd (cc e)
past_later SecurityMode e = absurd (cc e)
past_later _ e = refl

past_accepting : (phase : Phase) → is Accepting phase ≡ true → is_past_proof phase ≡ true
past_accepting Accepting e = refl
past_accepting _ e = absurd (cc e)

past_updating : (phase : Phase) → is Updating phase ≡ true → is_past_proof phase ≡ true
past_updating Updating e = refl
past_updating _ e = absurd (cc e)

-- past the proof the context has given its radio keys
derived_of : (s : Setting) (y : Solo) (x : Context) → is_past_proof y.phase ≡ true → y.context ≡ Some x → IsSound s y → IsDerived x
derived_of s y x past has h =
    let c = keyed_context y.phase s.vectors y.context past h.context in
    subst IsDerived (same_Some c.0 x (sym c.2 ∙ has)) c.4

has_key : (s : Setting) (y : Solo) (x : Context) → is_past_proof y.phase ≡ true → y.context ≡ Some x → IsSound s y
    → HasKey s x.radio.kenb y
has_key s y x past has h =
    record { sound = h; past = past; context = x; kept = has; key = refl; derived = derived_of s y x past has h }

-- what nas_security's law says of what is accepted
abbrev pub WholeIsFresh : Type 0
WholeIsFresh = (mac : Mac) (last : Option ℕ) (allowed : List SecurityHeader) (octets : List ℕ) (count : ℕ) (message : List ℕ)
    → accepted mac last allowed octets ≡ Ok (count, message) → (first_after last ≤ count) × (count < 2 ^ 24)

-- a plain message has no security header
plain_refused : (nas : List ℕ) → RefusesRequest nas → has_security_header nas ≡ false
plain_refused nas refuses = elim refuses.1 [
  | inl is ↦ subst (λ (n : List ℕ). has_security_header n ≡ false) (sym is) (plain_service_reject refuses.0)
  | inr is ↦ subst (λ (n : List ℕ). has_security_header n ≡ false) (sym is) (plain_update_reject refuses.0)
]

plain_told : {solo : Solo} {item : Item} (nas : List ℕ) → IsPlainRepeat solo.repeat → TellsPlainly solo item nas
    → has_security_header nas ≡ false
plain_told nas kept (RefusesAttach cause is) = ap has_security_header is ∙ plain_attach_reject cause None
plain_told nas kept (RefusesEsm cause session combined capability esm answer request refused is) =
    ap has_security_header is ∙ plain_attach_reject cause (Some answer)
plain_told nas kept (RefusesProof is) = ap has_security_header is ∙ plain_authentication_reject
plain_told nas kept (AcceptsDetach is) = ap has_security_header is ∙ plain_detach_accept
plain_told nas kept (TellsStatus cause is) = ap has_security_header is ∙ plain_emm_status cause
plain_told nas kept (TellsAgain ticks was) = subst IsPlainRepeat was kept

-- ---- what each action keeps

module _ (whole : WholeIsFresh) (s : Setting) (b : Solo) (item : Item) (found : IsSound s b) where
  -- with the context that the step began with, but for counts
  abbrev IsKnownIn : Solo → Type 0
  IsKnownIn x = HasContext b.phase s.vectors x.context

  -- neither counted nor with anything that may not be repeated
  abbrev IsServing : Solo → Type 0
  IsServing x = IsSome x.connection × IsCountedIdle x.reachable x.connection × IsPlainRepeat x.repeat

  -- sound, in this phase
  abbrev IsMoving : Phase → Solo → Type 0
  IsMoving phase x = IsSound s x × (x.phase ≡ phase)

  abbrev P : Stage → Draft → Type 0
  P Begun d = IsReady s (IsSound s) d
  P Linked d = IsReady s IsLinked d
  P Cleared d = IsReady s IsBare d
  P Asked d = IsReady s IsBare d
  P Told d = IsReady s (IsSound s) d
  P Known d = IsReady s IsKnownIn d
  P Serving d = IsReady s IsServing d
  P Keyed d = IsReady s (IsProven s) d
  P (Moving phase) d = IsReady s (IsMoving phase) d
  P Counted d = IsReady s (IsSound s) d
  P Ticked d = IsReady s (IsSound s) d
  P Ended d = IsDone s d

  says : (at : Stage) (nas : List ℕ) (d : Draft) → may_say at ≡ true → has_security_header nas ≡ false → P at d → P at (send nas d)
  says Begun nas d may plain h = ready_send nas plain h
  says Linked nas d may plain h = ready_send nas plain h
  says Cleared nas d may plain h = ready_send nas plain h
  says Asked nas d may plain h = ready_send nas plain h
  says Told nas d may plain h = ready_send nas plain h
  says Known nas d may plain h = ready_send nas plain h
  says Counted nas d may plain h = ready_send nas plain h
  says _ nas d may plain h = absurd (cc may)

  spends_known : Spends IsKnownIn
  spends_known solo x is h =
      context_recounted b.phase s.vectors solo.context x (x.security.down_next + 1) x.security.up_last is (rises_same x.security.up_last) h

  guards : (at : Stage) (header : SecurityHeader) (nas : List ℕ) (d : Draft) → may_protect at ≡ true → P at d
      → Whenever (P at) (protect header nas d)
  guards Told header nas d may h = sound_protect header nas h
  guards Known header nas d may h = ready_protect header nas spends_known h
  guards Counted header nas d may h = sound_protect header nas h
  guards _ header nas d may h = absurd (cc may)

  -- what isn't sent again leaves it
  anyhow_at : (at : Stage) (d : Draft) → may_say at ≡ true → P at d → IsReady s Whatever d
  anyhow_at Begun d may h = anyhow h
  anyhow_at Linked d may h = anyhow h
  anyhow_at Cleared d may h = anyhow h
  anyhow_at Asked d may h = anyhow h
  anyhow_at Told d may h = anyhow h
  anyhow_at Known d may h = anyhow h
  anyhow_at Counted d may h = anyhow h
  anyhow_at _ d may h = absurd (cc may)

  sound_at : (at : Stage) (d : Draft) → may_close at ≡ true → P at d → IsReady s (IsSound s) d
  sound_at Begun d may h = h
  sound_at Told d may h = h
  sound_at _ d may h = absurd (cc may)

  moved_sound : {d : Draft} {phase : Phase} → IsReady s (IsMoving phase) d → IsReady s (IsSound s) d
  moved_sound h = by (λ solo p. p.0) h

  awaits : {d : Draft} {phase : Phase} (timer : NasTimer) (header : SecurityHeader) (nas : List ℕ) → IsReady s (IsMoving phase) d
      → Whenever (IsDone s) (protect_and_await timer header nas d)
  awaits timer header nas h = then _ (sound_protect header nas (moved_sound h)) (λ e f. done (sound_start timer _ tt f))

  bare_at : (at : Stage) (d : Draft) → TakesVector b item at d.solo → P at d → IsReady s IsBare d
  bare_at at d (ForAttach is next combined esm request has) h = subst (λ (a : Stage). P a d) is h
  bare_at at d (ForSynch nas is same phase on plain told) h =
      let r = subst (λ (a : Stage). P a d) is h in
      let challenged = ap (λ (x : Solo). x.phase) same ∙ phase in
      record {
        solo = record {
          context = subst (λ (p : Phase). HasContext p s.vectors d.solo.context) challenged r.solo.context;
          connection = connection_in s d.solo Authenticating challenged r.solo;
          reachable = r.solo.reachable;
          repeat = r.solo.repeat;
        };
        known = r.known;
        said = r.said;
      }

  -- the context gives radio keys
  keyed_so : {d : Draft} (x : Context) (count : ℕ) → d.solo.context ≡ Some x → IsReady s IsServing d
      → IsReady s (IsProven s) (attaching.keyed (counted_up x count) count d)
  unfolding attaching.keyed attaching.took
  keyed_so {d} x count is h =
      let known : IsKnown s.vectors (Some x) = subst (IsKnown s.vectors) is h.known in
      let of = known.1 in
      let keyed : IsOfVector s.vectors (record (counted_up x count) { radio = keys_of x.kasme count }) known.0 =
      record { there = of.there; integrity = of.integrity; kasme = of.kasme; ksi = of.ksi } in
      record {
        solo = record {
          context = (record (counted_up x count) { radio = keys_of x.kasme count }, known.0, refl, keyed, (count, count, 0, refl, le_refl count, refl));
          connection = h.solo.0;
          reachable = h.solo.1;
          repeat = h.solo.2;
        };
        known = (known.0, keyed);
        said = h.said;
      }

  -- a count was accepted by the context
  took_so : {d : Draft} (x : Context) (count : ℕ) → d.solo.context ≡ Some x → first_after x.security.up_last ≤ count
      → IsReady s (IsSound s) d → IsReady s (IsSound s) (attaching.took (counted_up x count) count d)
  unfolding attaching.took
  took_so {d} x count is high h = record {
    solo = sound_recounted s d.solo x x.security.down_next (Some count) is (rises_above x.security.up_last count high) h.solo;
    known = known_recounted s.vectors x x.security.down_next (Some count) (subst (IsKnown s.vectors) is h.known);
    said = h.said;
  }

  proven_at : (at : Stage) (d : Draft) → MayAccept b item at d → P at d → IsReady s (IsProven s) d
  unfolding attaching.took
  proven_at at d (WithKeys is) h = subst (λ (a : Stage). P a d) is h
  proven_at at d (WithInformation x count octets is a later now came) h =
      let r = subst (λ (a : Stage). P a d) is h in
      let past = ap (λ (e : Draft). is_past_proof e.solo.phase) now ∙ past_later b.phase later in
      let linked = ap (λ (e : Draft). is_some e.solo.connection) now ∙ a.on.linked in
      record { solo = proven s d.solo past linked r.solo; known = r.known; said = r.said }

  keyed_at : (at : Stage) (tai : Tai) (d : Draft) → MayUpdate b item at d.solo tai → may_update at ≡ true → P at d
      → HasContext Registered s.vectors d.solo.context × IsReady s Whatever d
  keyed_at Told tai d may stage h =
      (keyed_context d.solo.phase s.vectors d.solo.context (registered_past d.solo.phase may.registered) h.solo.context, anyhow h)
  keyed_at Known tai d may stage h =
      (keyed_context b.phase s.vectors d.solo.context (registered_past b.phase may.was) h.solo, anyhow h)
  keyed_at _ tai d may stage h = absurd (cc stage)

  registered_so : {d : Draft} → is_past_proof d.solo.phase ≡ true → IsReady s (IsSound s) d → IsReady s (IsSound s) (serving.registered d)
  unfolding serving.registered ended
  registered_so {d} past h = record {
    solo = record {
      context = keyed_context d.solo.phase s.vectors d.solo.context past h.solo.context;
      challenge = tt;
      connection = tt;
      reachable = h.solo.reachable;
      repeat = tt;
    };
    known = h.known;
    said = h.said;
  }

  -- the next hop of the context, to where the connection now is
  switched_so : (m : UeMessage (List ℕ)) (x : Context) → IsSwitch b item m x → IsReady s (IsSound s) (untouched b)
      → IsDone s (connected.switched m x (untouched b))
  unfolding connected.switched emit path_switch_acknowledge
  switched_so m x w h =
      let y : Context = record x { radio = connected.hopped x } in
      let k = connected.connection_of m in
      let past = registered_past b.phase w.registered in
      let linked = linked_by b.connection (λ k. k.id == m.mme_ue_id) w.has in
      let known : IsKnown s.vectors (Some x) = subst (IsKnown s.vectors) w.context h.known in
      let of = known.1 in
      let keyed : IsOfVector s.vectors y known.0 =
      record { there = of.there; integrity = of.integrity; kasme = of.kasme; ksi = of.ksi } in
      let moved : IsDerived y = moved_derived x (derived_of s b x past w.context h.solo) in
      let after : Solo = record b { connection = Some k; context = Some y } in
      record {
        sound = record {
          context = later_context b.phase s.vectors y known.0 past keyed moved;
          challenge = past_challenge b.phase s.vectors b.next_vector past;
          connection = registered_linked b.phase k w.registered;
          reachable = uncounted b.reachable b.connection (Some k) h.solo.reachable linked;
          repeat = h.solo.repeat;
        };
        said = said_more s.vectors (Proved after) [] m.station None _ _ refl refl
            (λ octets e. record {
              proved = past;
              connection = k;
              stands = refl;
              station = refl;
              ids = (refl, refl);
              context = y;
              kept = refl;
              key = (refl, refl);
              derived = moved;
            }) (said_keyless s.vectors after [] h.said);
      }

  -- ---- paging and countdowns

  sound_emit_each : (message : Pdu (List ℕ)) (es : List ℕ) (d : Draft)
      → ((station : ℕ) (e : Draft) → IsReady s (IsSound s) e → IsReady s (IsSound s) (emit station message None e))
      → IsReady s (IsSound s) d → IsReady s (IsSound s) (idle.emit_each message es d)
  sound_emit_each message [] d each h = h
  sound_emit_each message (e ∷ es) d each h = sound_emit_each message es (emit e message None d) each (each e d h)

  sound_page : {d : Draft} (es : List ℕ) → IsReady s (IsSound s) d → IsReady s (IsSound s) (idle.page s es d)
  unfolding idle.page paging
  sound_page {d} es h =
      at_some (IsReady s (IsSound s)) d.solo.tmsi
      (λ t is. sound_emit_each _ es d (λ station e r. ready_emit station _ None refl refl r) h) (λ is. h)

  plain_struck : (station : ℕ) (o : Option Repeat) → IsPlainRepeat o → IsPlainRepeat (connected.struck station o)
  plain_struck station None p = tt
  plain_struck station (Some (repeats.Paging es)) p = tt
  plain_struck station (Some (repeats.Nas protection nas)) p = p

  indicated : (m : UeMessage (List ℕ)) (message : Pdu (List ℕ)) → Indicates m message → IsReady s (IsSound s) (untouched b)
      → IsReady s (IsSound s) (emit m.station message None (untouched b))
  unfolding error_indication path_switch_failure
  indicated m message may h = elim may.2 [
    | inl is ↦ subst (λ (n : Pdu (List ℕ)). IsReady s (IsSound s) (emit m.station n None (untouched b))) (sym is) (ready_emit m.station _ None refl refl h)
    | inr is ↦ subst (λ (n : Pdu (List ℕ)). IsReady s (IsSound s) (emit m.station n None (untouched b))) (sym is) (ready_emit m.station _ None refl refl h)
  ]

  keeps : Keeps s b item P
  unfolding attaching.requesting attaching.asking attaching.challenged attaching.new_context attaching.activating attaching.given_tmsi serving.active serving.updating connected.strike idle.paged idle.lowered idle.restarted ended set_up_with
  keeps = record {
    sends = λ at nas d may to tells h. says at nas d may (plain_told nas found.repeat tells) h;
    protects = λ at header nas d may tells h. guards at header nas d may h;
    commands = λ v r h. awaits _ _ _ h;
    asks_information = λ d h. awaits _ _ _ h;
    accepts_update = λ grant d same h. awaits _ _ _ h;
    tells_detach = λ d h. awaits _ _ _ h;
    sets_up = λ x d has phase h.
        let p = h.solo in
        let sound : IsSound s d.solo = record {
          context = subst (λ (q : Phase). HasContext q s.vectors d.solo.context) (sym phase) p.context;
          connection = subst (λ (q : Phase). HasConnection q d.solo.connection) (sym phase) tt;
          challenge = subst (λ (q : Phase). HasChallenge q s.vectors d.solo.next_vector) (sym phase) tt;
          reachable = p.reachable;
          repeat = p.repeat;
        } in
        done_set_up x.radio.kenb None None refl
        (record { solo = has_key s d.solo x (ap is_past_proof phase) has sound; known = h.known; said = h.said });
    accepts_attach = λ x grant session d has same bearer h.
        let ready : IsReady s (HasKey s x.radio.kenb) d =
        record { solo = has_key s d.solo x (ap is_past_proof h.solo.1) has h.solo.0; known = h.known; said = h.said } in
        then _
        (then _ (ready_seal IntegrityProtectedCiphered _ (spends_key s x.radio.kenb) ready)
        (λ y r. done_set_up x.radio.kenb (Some y.0.form) y.0.under r.1 r.0))
        (λ e f. done_start _ _ tt f);
    closes = λ at d may left h. done (sound_at at d may h);
    forgets = λ at cause d may known h. done (sound_forgotten cause (anyhow_at at d may h));
    falls = λ at cause d may known h. done (sound_fall cause (sound_at at d may h));
    loses = λ d h. done (sound_lost h);
    drops = λ is none h. done (sound_idle (idle_wipe (record { solo = none_of b.connection none; known = h.known; said = h.said })));
    spends = λ h. done (sound_idle (idle_wipe (by (λ solo p. p.connection) (idle_fall _ h))));
    refuses = λ m nas is refuses h. done (sound_refuse s.slot m.station m.enb_ue_id nas (plain_refused nas refuses) h);
    turns_away = λ m is h. done (sound_turn_away s.slot m.station m.enb_ue_id h);
    emits = λ m message is may h. done (indicated m message may h);
    switches = λ m x w h. switched_so m x w h;
    connects = λ m is h. linked_connect s.slot m.station m.enb_ue_id h;
    connects_on = λ id m is h. linked_connect_on id m.station m.enb_ue_id h;
    clears = λ combined capability esm tai d asks h.
        let w = bare_wipe h in record {
          solo = record { context = w.solo.context; connection = w.solo.connection; reachable = w.solo.reachable; repeat = w.solo.repeat };
          known = w.known;
          said = w.said;
        };
    asks = λ combined capability esm tai d asks has h. record {
      solo = record { context = h.solo.context; connection = h.solo.connection; reachable = h.solo.reachable; repeat = h.solo.repeat };
      known = h.known;
      said = h.said;
    };
    challenges = λ at v d there takes h.
        let r = bare_at at d takes h in
        let plain = plain_authentication_request _ v.rand v.autn in
        done (sound_start _ _ plain (ready_send _ plain (record {
          solo = record { context = r.solo.context; connection = r.solo.connection; challenge = (d.solo.next_vector, v, refl, there); reachable = r.solo.reachable; repeat = r.solo.repeat };
          known = r.known;
          said = r.said;
        })));
    makes_context = λ v r h. record {
      solo = (
        record {
          context = (_, v, refl, record { there = r.there; integrity = refl; kasme = refl; ksi = refl });
          challenge = tt;
          connection = connection_in s b Authenticating r.phase found;
          reachable = h.solo.reachable;
          repeat = h.solo.repeat;
        },
        refl,
      );
      known = (v, record { there = r.there; integrity = refl; kasme = refl; ksi = refl });
      said = h.said;
    };
    takes = λ headers x count inner a h. took_so x count a.has (whole _ _ _ _ count inner a.accepts).0 h;
    keys = λ x count inner phase a told h.
        keyed_so x count a.has (record { solo = (a.on.linked, h.solo.reachable, h.solo.repeat); known = h.known; said = h.said });
    takes_on = λ m x count inner d is has a had h.
        let up : HasContext b.phase s.vectors (Some (counted_up x count)) =
        context_recounted b.phase s.vectors b.context x x.security.down_next (Some count) had
        (rises_above x.security.up_last count (whole _ _ _ _ count inner a).0) found.context in
        ready_took {P = IsLinked} {Q = IsKnownIn} (counted_up x count) count
        (known_recounted s.vectors x x.security.down_next (Some count) (subst (IsKnown s.vectors) has h.known)) (λ solo linked. up) h;
    serves = λ d registered phase h. record { solo = (h.solo, tt, tt); known = h.known; said = h.said };
    keys_on = λ x count octets d has phase had a h. keyed_so x count has h;
    activates = λ at d may on h.
        let r = proven_at at d may h in record {
          solo = (record { context = r.solo.context; connection = r.solo.connection; challenge = tt; reachable = r.solo.reachable; repeat = r.solo.repeat }, refl);
          known = r.known;
          said = r.said;
        };
    waits = λ d h. record {
      solo = (record { context = h.solo.context; connection = h.solo.connection; challenge = tt; reachable = h.solo.reachable; repeat = h.solo.repeat }, refl);
      known = h.known;
      said = h.said;
    };
    updates = λ at tai initial d may h.
        let r = keyed_at at tai d may may.stage h in record {
          solo = (record { context = r.0; connection = may.linked; challenge = tt; reachable = tt; repeat = tt }, refl);
          known = r.1.known;
          said = r.1.said;
        };
    attaches = λ esm d phase h. registered_so (past_accepting d.solo.phase phase) (record {
      solo = record { context = h.solo.context; connection = h.solo.connection; challenge = h.solo.challenge; reachable = h.solo.reachable; repeat = h.solo.repeat };
      known = h.known;
      said = h.said;
    });
    updated = λ d phase h. registered_so (past_updating d.solo.phase phase) h;
    detaches = λ is registered linked h.
        let p = proven s b (registered_past b.phase registered) (elim linked [
          | inl there ↦ there
          | inr phase ↦ connection_in s b Updating phase found
        ]) found in
        record {
          solo = (record { context = p.context; connection = p.connection; challenge = tt; reachable = p.reachable; repeat = p.repeat }, refl);
          known = h.known;
          said = h.said;
        };
    pages = λ stations is may h. done (sound_start _ _ tt (sound_page _ h));
    strikes = λ station is h. record {
      solo = record { context = h.solo.context; connection = h.solo.connection; challenge = h.solo.challenge; reachable = h.solo.reachable; repeat = plain_struck station b.repeat h.solo.repeat };
      known = h.known;
      said = h.said;
    };
    lowers = λ is h. record {
      solo = record { context = h.solo.context; challenge = h.solo.challenge; connection = h.solo.connection; reachable = counted_lower b.reachable b.connection h.solo.reachable; repeat = h.solo.repeat };
      known = h.known;
      said = h.said;
    };
    restarts = λ c is h. record {
      solo = record { context = h.solo.context; connection = h.solo.connection; challenge = h.solo.challenge; reachable = h.solo.reachable; repeat = h.solo.repeat };
      known = h.known;
      said = h.said;
    };
    pages_again = λ c es is was h. sound_page es h;
    goes_on = λ d is h. h;
    gives_up = λ is h. record {
      solo = record { context = h.solo.context; connection = h.solo.connection; challenge = h.solo.challenge; reachable = h.solo.reachable; repeat = tt };
      known = h.known;
      said = h.said;
    };
    fails = λ cause is known h. sound_fall cause h;
    passes = λ d is h. done h;
    times_out = λ n d is out h. done (sound_idle (idle_wipe (record {
      solo = subst (λ (o : Option ℕ). IsCountedIdle o d.solo.connection) out h.solo.reachable;
      known = h.known;
      said = h.said;
    })));
  }

-- from a sound state each step is done
pub done_step : WholeIsFresh → (s : Setting) (b : Solo) (item : Item) → IsSound s b → IsDone s (steps.solo_step s b item)
done_step whole s b item h =
    step_keeps s b item (keeps whole s b item h)
    (record { solo = h; known = known_context b.phase s.vectors b.context h.context; said = All-nil _ })
