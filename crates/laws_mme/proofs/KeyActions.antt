-- Each action keeps what is known of the radio keys, and hands out one key at most.
use Rattle.std.proofs.Common.{◌≡◌, ◌⊎◌, inl, inr, ℕ, suc, ◌+◌, ◌-◌, ◌^◌, ◌<◌, ◌≤◌, true, false, List, [], ◌++◌, All, Option, Some, None, slice_get, refl, sym, ◌∙◌, ap, subst, append-nil, arith}
use Rattle.std.specs.Option.{option_map_or}
use Rattle.std.proofs.lemmas.List.Elements.{All-push}
use Rattle.std.proofs.lemmas.Option.{same_Some}
use Rattle.s1ap_causes.specs.declared.cause.Cause.{Cause}
use Rattle.s1ap_pdus.specs.declared.pdu.Pdu.{Pdu}
use Rattle.s1ap_pdus.specs.Pdus.{encoded}
use Rattle.nas_messages.specs.declared.protection.SecurityHeader.{SecurityHeader}
use Rattle.eps_keys.specs.Hmac.{hop_at, kenb, next_hop}
use Rattle.nas_security.specs.Counts.{first_after}
use Rattle.identity_slots.specs.declared.profile.Vector.{Vector}
use Rattle.mme_types.specs.declared.connection.Connection.{Connection}
use Rattle.mme_types.specs.declared.connection.RadioKeys.{RadioKeys}
use Rattle.mme_types.specs.declared.event.UeMessage.{UeMessage}
use Rattle.mme_types.specs.declared.octets.Answer.{Answer}
use Rattle.mme_types.specs.declared.octets.Mark.{Mark}
use Rattle.mme_types.specs.Answers.{answer_of}
use Rattle.mme_signalling.specs.Pdus.{context_setup, downlink, path_switch_acknowledge, release_command}
use Rattle.emm_state.specs.declared.draft.Draft.{Draft}
use Rattle.emm_state.specs.declared.draft.Sealed.{Sealed}
use Rattle.emm_state.specs.declared.setting.Setting.{Setting}
use Rattle.emm_state.specs.declared.solo.Context.{Context}
use Rattle.emm_state.specs.declared.solo.NasTimer.{NasTimer}
use Rattle.emm_state.specs.declared.solo.Phase.{Phase}
use Rattle.emm_state.specs.declared.solo.Phase.TheVariants.{Authenticating, Registered}
use Rattle.emm_state.specs.declared.solo.Repeat.{Repeat}
use Rattle.emm_state.specs.declared.solo.Solo.{Solo}
use Rattle.emm_state.specs.Actions.{association_counted, connect, connect_on, disconnected, emit, ended, fall, fallen, is_registered, leave_old, lost, protect, refuse, release, resting, seal, sealed_under, send, set_up, start, turn_away, wipe}
use Rattle.emm_machine.specs.Attaching.{counted_up, keyed, keys_of, took}
use Rattle.emm_machine.specs.Connected.{connection_of, hop_after, hopped, next_chaining_count, standing_hop, switched}
use Rattle.emm_machine.specs.Freshness.{HasVector, next_place}
use Rattle.emm_machine.specs.Serving.{active}
use Rattle.laws_subscriber.specs.Keys.{IsForConnection, has_radio_key}
use Rattle.laws_subscriber.specs.Sound.{is_past_proof}
use Rattle.laws_subscriber.specs.Choices.{Whenever, at_some, either, either_by, nothing, some, then}
use Rattle.laws_mme.specs.Handed.{HasKey, RadioKey}
use Rattle.laws_mme.specs.KeysOfMessage.{IsKept, IsOfAccepted, kenb_in}
use Rattle.laws_mme.proofs.KeyOrder.{IsUpTo, after, hop_up, key, up_to_trans}
use Rattle.laws_mme.proofs.Holding.{Due, Given, HeldIn, Holds, IsHeld, IsOfVector, counted, floor_le, floor_of, hop_is, hopped_is, kenb_floor, part_of, past_keyed, registered_holds, registered_past, round_is, settled, unkeyed, yet}

-- ---- what is sent

-- a message without a radio key
pub record IsKeyless (a : Answer) : Type 0 where
  pub message : Pdu (List ℕ)
  pub written : encoded message ≡ Some a.octets
  pub keyless : has_radio_key message ≡ false

keyless_more : (sent : List Answer) (station : ℕ) (under : Option Mark) (message : Pdu (List ℕ)) (o : Option (List ℕ))
    → encoded message ≡ o → has_radio_key message ≡ false → All IsKeyless sent → All IsKeyless (sent ++ answer_of station under o)
keyless_more sent station under message None is keyless h = subst (All IsKeyless) (sym (append-nil sent)) h
keyless_more sent station under message (Some octets) is keyless h =
    All-push IsKeyless sent (record { station = station; octets = octets; under = under }) h
    (record { message = message; written = is; keyless = keyless })

-- ---- a step under way

-- nothing with a radio key was sent
pub record IsQuiet (s : Setting) (f : RadioKey) (d : Draft) : Type 0 where
  pub vector : HasVector d.solo.phase d.solo.next_vector
  pub held : HeldIn s.vectors f (part_of d.solo.phase) (next_place d.solo.phase d.solo.next_vector) d.solo.context
  pub keyless : All IsKeyless d.sent

-- a context whose KeNB, which is this key, is due: of the count that was accepted, or kept since before the step
pub record IsDueAt (vectors : List Vector) (f : RadioKey) (b : Solo) (kenb : List ℕ) (next : ℕ) (accepted : Option Mark)
    (x : Context) : Type 0 where
  pub below : x.place < next
  pub vector : IsOfVector vectors x.place x.kasme
  pub due : Holds Due f x.place x.kasme x.radio x.security.up_last
  pub key : kenb ≡ x.radio.kenb
  pub source : (accepted ≡ Some (record { place = x.place; count = due.0 })) ⊎ IsKept b kenb

-- nothing, and the context is such a one
pub record IsDue (s : Setting) (f : RadioKey) (b : Solo) (kenb : List ℕ) (d : Draft) : Type 0 where
  pub context : Context
  pub stands : d.solo.context ≡ Some context
  pub facts : IsDueAt s.vectors f b kenb d.solo.next_vector d.accepted context
  pub keyless : All IsKeyless d.sent

-- and the phase is one in which it may be handed out
pub record IsReady (s : Setting) (f : RadioKey) (b : Solo) (kenb : List ℕ) (d : Draft) : Type 0 where
  pub due : IsDue s f b kenb d
  pub vector : HasVector d.solo.phase d.solo.next_vector
  pub part : part_of d.solo.phase ≡ Given
  pub next : next_place d.solo.phase d.solo.next_vector ≡ d.solo.next_vector

-- one key was handed out, last of all
pub record IsGiven (s : Setting) (b : Solo) (k : RadioKey) (d : Draft) : Type 0 where
  pub state : IsHeld s (after k) d.solo
  pub earlier : List Answer
  pub keyless : All IsKeyless earlier
  pub message : Pdu (List ℕ)
  pub under : Option Mark
  pub connection : Connection
  pub stands : d.solo.connection ≡ Some connection
  pub sent : d.sent ≡ earlier ++ answer_of connection.station under (encoded message)
  pub ids : IsForConnection connection message
  pub radio : has_radio_key message ≡ true
  pub vector : Vector
  pub there : slice_get s.vectors k.place ≡ Some vector
  pub fits : k.count < 2 ^ 24
  pub key : HasKey vector.kasme k message
  pub source : (kenb : List ℕ) → kenb_in message ≡ Some kenb → IsOfAccepted s.vectors d.accepted kenb ⊎ IsKept b kenb

-- of a step from a state
pub data IsDone (s : Setting) (f : RadioKey) (b : Solo) (d : Draft) : Type 0 where
  Silent : IsQuiet s f d → IsDone s f b d
  Gives : (k : RadioKey) → IsUpTo f k → IsGiven s b k d → IsDone s f b d

-- ---- what the keys depend on

record Kept : Type 0 where
  phase : Phase
  next_vector : ℕ
  context : Option Context
  sent : List Answer

abbrev kept : Draft → Kept
kept d = record { phase = d.solo.phase; next_vector = d.solo.next_vector; context = d.solo.context; sent = d.sent }

-- ---- a protected message

abbrev pub spent : Context → Context
spent x = record x { security = record x.security { down_next = x.security.down_next + 1 } }

abbrev pub IsSealed : (Draft → Type 0) → Sealed × Draft → Type 0
IsSealed P y = P y.1

-- a spent count leaves it
abbrev pub Spends : (Draft → Type 0) → Type 0
Spends P =
    (d : Draft) (x : Context) → d.solo.context ≡ Some x → P d → P (record d { solo = record d.solo { context = Some (spent x) } })

module _ {P : Draft → Type 0} where
  sealed_at : (header : SecurityHeader) (nas : List ℕ) (d : Draft) (o : Option Context) → d.solo.context ≡ o → Spends P → P d
      → Whenever (IsSealed P) (option_map_or (sealed_under header nas d) o (Some (record { form = []; under = None }, d)))
  sealed_at header nas d None is spends h = some h
  sealed_at header nas d (Some x) is spends h = either (Whenever (IsSealed P)) _ (some (spends d x is h)) nothing

  pub seals : (header : SecurityHeader) (nas : List ℕ) (d : Draft) → Spends P → P d → Whenever (IsSealed P) (seal header nas d)
  unfolding seal
  seals header nas d spends h = sealed_at header nas d d.solo.context refl spends h

module _ {s : Setting} {f : RadioKey} where
  -- what the keys depend on stays
  pub quiet : {d e : Draft} → IsQuiet s f d → kept e ≡ kept d → IsQuiet s f e
  quiet {d} {e} h same = record {
    vector = subst (λ (k : Kept). HasVector k.phase k.next_vector) (sym same) h.vector;
    held = subst (λ (k : Kept). HeldIn s.vectors f (part_of k.phase) (next_place k.phase k.next_vector) k.context) (sym same)
        h.held;
    keyless = subst (λ (k : Kept). All IsKeyless k.sent) (sym same) h.keyless;
  }

  -- of the context as it is known
  pub at_context : {d : Draft} (x : Context) → d.solo.context ≡ Some x → IsQuiet s f d
      → HeldIn s.vectors f (part_of d.solo.phase) (next_place d.solo.phase d.solo.next_vector) (Some x)
  at_context {d} x is h =
      subst (HeldIn s.vectors f (part_of d.solo.phase) (next_place d.solo.phase d.solo.next_vector)) is h.held

  -- past the proof
  pub past_held : {d : Draft} → is_past_proof d.solo.phase ≡ true → IsQuiet s f d
      → HeldIn s.vectors f Given d.solo.next_vector d.solo.context
  past_held {d} past h =
      settled s.vectors f (part_of d.solo.phase) (next_place d.solo.phase d.solo.next_vector) d.solo.next_vector d.solo.context
      (past_keyed d.solo.phase past) (floor_le d.solo.phase d.solo.next_vector) h.held

  -- ---- sending

  pub quiet_emit : {d : Draft} (station : ℕ) (message : Pdu (List ℕ)) (under : Option Mark) → has_radio_key message ≡ false
      → IsQuiet s f d → IsQuiet s f (emit station message under d)
  unfolding emit
  quiet_emit {d} station message under keyless h = record {
    vector = h.vector;
    held = h.held;
    keyless = keyless_more d.sent station under message (encoded message) refl keyless h.keyless;
  }

  pub quiet_send : {d : Draft} (nas : List ℕ) → IsQuiet s f d → IsQuiet s f (send nas d)
  unfolding send downlink
  quiet_send {d} nas h =
      at_some (IsQuiet s f) d.solo.connection (λ k is. quiet_emit k.station (downlink k nas) None refl h) (λ is. h)

  quiet_release_command : {d : Draft} (station id enb_ue_id : ℕ) (cause : Cause) → IsQuiet s f d
      → IsQuiet s f (emit station (release_command id enb_ue_id cause) None d)
  unfolding release_command
  quiet_release_command station id enb_ue_id cause h = quiet_emit station (release_command id enb_ue_id cause) None refl h

  quiet_disconnected : {d : Draft} → IsQuiet s f d → IsQuiet s f (disconnected d)
  unfolding disconnected
  quiet_disconnected h = quiet h refl

  pub quiet_release : {d : Draft} (cause : Cause) → IsQuiet s f d → IsQuiet s f (release cause d)
  unfolding release
  quiet_release {d} cause h =
      at_some (IsQuiet s f) d.solo.connection
      (λ k is. quiet_disconnected (quiet_release_command k.station k.id k.enb_ue_id cause h))
      (λ is. h)

  -- ---- the connection

  quiet_leave_old : {d : Draft} (station enb_ue_id : ℕ) → IsQuiet s f d → IsQuiet s f (leave_old station enb_ue_id d)
  unfolding leave_old
  quiet_leave_old {d} station enb_ue_id h =
      at_some (IsQuiet s f) d.solo.connection
      (λ k is. either (IsQuiet s f) _ h (quiet_release_command k.station k.id k.enb_ue_id _ h)) (λ is. h)

  pub quiet_connect_on : {d : Draft} (id station enb_ue_id : ℕ) → IsQuiet s f d → IsQuiet s f (connect_on id station enb_ue_id d)
  unfolding connect_on
  quiet_connect_on id station enb_ue_id h = quiet (quiet_leave_old station enb_ue_id h) refl

  quiet_counted : {d : Draft} → IsQuiet s f d → IsQuiet s f (association_counted d)
  unfolding association_counted
  quiet_counted h = quiet h refl

  pub quiet_connect : {d : Draft} (slot station enb_ue_id : ℕ) → IsQuiet s f d → IsQuiet s f (connect slot station enb_ue_id d)
  unfolding connect
  quiet_connect slot station enb_ue_id h = quiet_connect_on _ station enb_ue_id (quiet_counted h)

  pub quiet_turn_away : {d : Draft} (slot station enb_ue_id : ℕ) → IsQuiet s f d → IsQuiet s f (turn_away slot station enb_ue_id d)
  unfolding turn_away
  quiet_turn_away slot station enb_ue_id h = quiet_release_command station _ enb_ue_id _ (quiet_counted h)

  pub quiet_refuse : {d : Draft} (slot station enb_ue_id : ℕ) (nas : List ℕ) → IsQuiet s f d
      → IsQuiet s f (refuse slot station enb_ue_id nas d)
  unfolding refuse downlink
  quiet_refuse slot station enb_ue_id nas h =
      quiet_release_command station _ enb_ue_id _ (quiet_emit station _ None refl (quiet_counted h))

  -- ---- the registration

  pub quiet_wipe : {d : Draft} → IsQuiet s f d → IsQuiet s f (wipe d)
  unfolding wipe
  quiet_wipe {d} h = record {
    vector = tt;
    held = unkeyed s.vectors f (part_of d.solo.phase) (next_place d.solo.phase d.solo.next_vector) d.solo.next_vector None
        (floor_le d.solo.phase d.solo.next_vector)
        (floor_of s.vectors f (part_of d.solo.phase) (next_place d.solo.phase d.solo.next_vector) d.solo.context h.held);
    keyless = h.keyless;
  }

  quiet_resting : {d : Draft} → is_past_proof d.solo.phase ≡ true → IsQuiet s f d → IsQuiet s f (resting d)
  unfolding resting ended
  quiet_resting past h = record { vector = tt; held = past_held past h; keyless = h.keyless }

  quiet_fallen : {d : Draft} → IsQuiet s f d → IsQuiet s f (fallen d)
  quiet_fallen {d} h =
      either_by (IsQuiet s f) (is_registered d.solo.phase) (λ t. quiet_resting (registered_past d.solo.phase t) h)
      (λ t. quiet_wipe h)

  pub quiet_fall : {d : Draft} (cause : Cause) → IsQuiet s f d → IsQuiet s f (fall cause d)
  unfolding fall
  quiet_fall cause h = quiet_fallen (quiet_release cause h)

  pub quiet_lost : {d : Draft} → IsQuiet s f d → IsQuiet s f (lost d)
  unfolding lost
  quiet_lost h = quiet_fallen (quiet_disconnected h)

  pub quiet_start : {d : Draft} (timer : NasTimer) (repeat : Repeat) → IsQuiet s f d → IsQuiet s f (start timer repeat d)
  unfolding start
  quiet_start timer repeat h = quiet h refl

  -- a vector is taken
  pub quiet_taking : {d : Draft} → IsQuiet s f d
      → IsQuiet s f (record d { solo = record d.solo { phase = Authenticating; next_vector = d.solo.next_vector + 1 } })
  quiet_taking {d} h =
      let low : next_place d.solo.phase d.solo.next_vector ≤ d.solo.next_vector = floor_le d.solo.phase d.solo.next_vector in
      record {
        vector = omega arith;
        held = unkeyed s.vectors f (part_of d.solo.phase) (next_place d.solo.phase d.solo.next_vector) (d.solo.next_vector + 1 - 1)
            d.solo.context (omega arith) h.held;
        keyless = h.keyless;
      }

  -- a phone is served
  pub quiet_active : {d : Draft} → is_past_proof d.solo.phase ≡ true → IsQuiet s f d → IsQuiet s f (active Registered d)
  unfolding active ended
  quiet_active past h = record { vector = tt; held = past_held past h; keyless = h.keyless }

  -- ---- protected messages

  spends_quiet : Spends (IsQuiet s f)
  spends_quiet d x is h = record { vector = h.vector; held = at_context x is h; keyless = h.keyless }

  pub quiet_protect : {d : Draft} (header : SecurityHeader) (nas : List ℕ) → IsQuiet s f d
      → Whenever (IsQuiet s f) (protect header nas d)
  unfolding protect downlink
  quiet_protect {d} header nas h =
      then _ (seals {P = IsQuiet s f} header nas d spends_quiet h)
      (λ y q. at_some (IsQuiet s f) y.1.solo.connection (λ k is. quiet_emit k.station (downlink k y.0.form) y.0.under refl q)
      (λ is. q))

  -- ---- counts

  pub quiet_took : {d : Draft} (x : Context) (count : ℕ) → d.solo.context ≡ Some x → first_after x.security.up_last ≤ count
      → IsQuiet s f d → IsQuiet s f (took (counted_up x count) count d)
  unfolding took
  quiet_took {d} x count is high h =
      let k = at_context x is h in
      record {
        vector = h.vector;
        held = (k.0, k.1, counted (part_of d.solo.phase) f x.place x.kasme x.radio x.security.up_last count high k.2);
        keyless = h.keyless;
      }

  pub due_keyed : {b : Solo} {d : Draft} (x : Context) (count : ℕ) → d.solo.context ≡ Some x
      → first_after x.security.up_last ≤ count → count < 2 ^ 24 → IsQuiet s f d → IsDue s f b (kenb x.kasme count) (keyed (counted_up x count) count d)
  unfolding keyed took
  due_keyed {d = d} x count is high fits h =
      let k = at_context x is h in
      let below : x.place < next_place d.solo.phase d.solo.next_vector = k.0 in
      let low : next_place d.solo.phase d.solo.next_vector ≤ d.solo.next_vector = floor_le d.solo.phase d.solo.next_vector in
      record {
        context = record (counted_up x count) { radio = keys_of x.kasme count };
        stands = refl;
        facts = record {
          below = omega arith;
          vector = k.1;
          due = (
            count,
            fits,
            omega arith,
            refl,
            kenb_floor f x.place x.security.up_last count high
                (yet (part_of d.solo.phase) f x.place x.kasme x.radio x.security.up_last k.2),
          );
          key = refl;
          source = inl refl;
        };
        keyless = h.keyless;
      }

  -- ---- what hands out a key

  spends_ready : {b : Solo} (kenb : List ℕ) → Spends (IsReady s f b kenb)
  spends_ready {b} kenb d x is h =
      let has : IsDueAt s.vectors f b kenb d.solo.next_vector d.accepted x =
      subst (IsDueAt s.vectors f b kenb d.solo.next_vector d.accepted) (same_Some h.due.context x (sym h.due.stands ∙ is))
      h.due.facts in
      record {
        due = record {
          context = spent x;
          stands = refl;
          facts = record { below = has.below; vector = has.vector; due = has.due; key = has.key; source = has.source };
          keyless = h.due.keyless;
        };
        vector = h.vector;
        part = h.part;
        next = h.next;
      }

  pub seals_ready : {b : Solo} (header : SecurityHeader) (nas kenb : List ℕ) (d : Draft) → IsReady s f b kenb d
      → Whenever (IsSealed (IsReady s f b kenb)) (seal header nas d)
  seals_ready {b} header nas kenb d h = seals {P = IsReady s f b kenb} header nas d (spends_ready kenb) h

  -- what is held of a context that stands in such a phase
  ready_holds : {b : Solo} {kenb : List ℕ} {d : Draft} (g : RadioKey) (h : IsReady s f b kenb d)
      → Holds Given g h.due.context.place h.due.context.kasme h.due.context.radio h.due.context.security.up_last
      → HeldIn s.vectors g (part_of d.solo.phase) (next_place d.solo.phase d.solo.next_vector) d.solo.context
  ready_holds {d = d} g h given =
      let stands : HeldIn s.vectors g Given d.solo.next_vector d.solo.context =
      subst (HeldIn s.vectors g Given d.solo.next_vector) (sym h.due.stands) (h.due.facts.below, h.due.facts.vector, given) in
      let placed : HeldIn s.vectors g Given (next_place d.solo.phase d.solo.next_vector) d.solo.context =
      subst (λ (n : ℕ). HeldIn s.vectors g Given n d.solo.context) (sym h.next) stands in
      subst (λ p. HeldIn s.vectors g p (next_place d.solo.phase d.solo.next_vector) d.solo.context) (sym h.part) placed

  -- KeNB, to where the phone is connected
  pub done_set_up : {b : Solo} {d : Draft} (kenb_given : List ℕ) (nas : Option (List ℕ)) (under : Option Mark)
      → IsReady s f b kenb_given d → IsDone s f b (set_up s kenb_given nas under d)
  unfolding set_up emit context_setup
  done_set_up {b} {d} kenb_given nas under h =
      let x = h.due.context in
      let facts = h.due.facts in
      let due = facts.due in
      let k : RadioKey = key x.place due.0 0 in
      let is_kenb : kenb_given ≡ kenb facts.vector.0.kasme due.0 =
      facts.key ∙ ap (λ (keys : RadioKeys). keys.kenb) due.3 ∙ ap (λ (kasme : List ℕ). kenb kasme due.0) facts.vector.2 in
      let source : IsOfAccepted s.vectors d.accepted kenb_given ⊎ IsKept b kenb_given = elim facts.source [
        | inl accepted ↦ inl (record {
          mark = record { place = x.place; count = due.0 };
          is_accepted = accepted;
          vector = facts.vector.0;
          there = facts.vector.1;
          is_kenb = is_kenb;
        })
        | inr kept_so ↦ inr kept_so
      ] in
      at_some (IsDone s f b) d.solo.connection
      (λ c is. Gives k due.4 (record {
        state = record {
          vector = h.vector;
          held = ready_holds (after k) h (due.0, 0, due.1, due.2, due.3, hop_up x.place due.0 1 2 (omega arith));
        };
        earlier = d.sent;
        keyless = h.due.keyless;
        message = context_setup s.network s.profile d.solo.asked.capability c kenb_given nas;
        under = under;
        connection = c;
        stands = is;
        sent = refl;
        ids = (refl, refl);
        radio = refl;
        vector = facts.vector.0;
        there = facts.vector.1;
        fits = due.1;
        key = (refl, is_kenb);
        source = λ other same.
            subst (λ (n : List ℕ). IsOfAccepted s.vectors d.accepted n ⊎ IsKept b n) (same_Some kenb_given other same) source;
      }))
      (λ is. Silent (record {
        vector = h.vector;
        held = ready_holds f h (
          due.0,
          0,
          due.1,
          due.2,
          due.3,
          up_to_trans f (key x.place due.0 0) (key x.place due.0 2) due.4 (hop_up x.place due.0 0 2 (omega arith)),
        );
        keyless = h.due.keyless;
      }))

  pub done_start : {b : Solo} {d : Draft} (timer : NasTimer) (repeat : Repeat) → IsDone s f b d
      → IsDone s f b (start timer repeat d)
  unfolding start
  done_start timer repeat (Silent q) = Silent (quiet q refl)
  done_start timer repeat (Gives k up g) = Gives k up (record {
    state = record { vector = g.state.vector; held = g.state.held };
    earlier = g.earlier;
    keyless = g.keyless;
    message = g.message;
    under = g.under;
    connection = g.connection;
    stands = g.stands;
    sent = g.sent;
    ids = g.ids;
    radio = g.radio;
    vector = g.vector;
    there = g.there;
    fits = g.fits;
    key = g.key;
    source = g.source;
  })

  -- the next hop, to where the connection now is
  pub done_switched : {b : Solo} {d : Draft} (m : UeMessage (List ℕ)) (x : Context) → d.solo.context ≡ Some x
      → is_registered d.solo.phase ≡ true → IsQuiet s f d → IsDone s f b (switched m x d)
  unfolding switched emit path_switch_acknowledge
  done_switched {d = d} m x is registered h =
      let has : HeldIn s.vectors f Given d.solo.next_vector (Some x) =
      subst (HeldIn s.vectors f Given d.solo.next_vector) is (past_held (registered_past d.solo.phase registered) h) in
      let of = has.1 in
      let holds = has.2 in
      let count = holds.0 in
      let moves = holds.1 in
      let k : RadioKey = key x.place count (suc (suc moves)) in
      Gives k holds.5 (record {
        state = record {
          vector = h.vector;
          held = registered_holds s.vectors (after k) d.solo.phase d.solo.next_vector (Some (record x { radio = hopped x }))
              registered (
                has.0,
                of,
                (
                  count,
                  suc moves,
                  holds.2,
                  holds.3,
                  ap (λ (keys : RadioKeys). hopped (record x { radio = keys })) holds.4 ∙ hopped_is moves x count,
                  hop_up x.place count (suc (suc moves) + 1) (suc (suc (suc moves))) (omega arith),
                ),
              );
        };
        earlier = d.sent;
        keyless = h.keyless;
        message = path_switch_acknowledge (connection_of m) (hop_after x) (next_chaining_count x.radio.chaining_count);
        under = None;
        connection = connection_of m;
        stands = refl;
        sent = refl;
        ids = (refl, refl);
        radio = refl;
        vector = of.0;
        there = of.1;
        fits = holds.2;
        key = (
          omega arith,
          ap (λ (keys : RadioKeys). next_hop x.kasme (standing_hop x.kasme keys)) holds.4 ∙ hop_is moves x.kasme count
              ∙ ap (λ (kasme : List ℕ). hop_at (suc (suc moves)) kasme (kenb kasme count)) of.2,
          ap (λ (keys : RadioKeys). next_chaining_count keys.chaining_count) holds.4 ∙ round_is moves,
        );
        source = λ other same. absurd (cc same);
      })
