-- What each action makes of a step under way: every message sent is under its mark and without a radio key, and the context is the
-- vector at its place.
use Rattle.std.proofs.Common.{◌≡◌, ℕ, ◌+◌, true, false, List, [], ◌∷◌, ◌++◌, All, filter, Option, Some, None, option_to_list, IsSome, refl, sym, ◌∙◌, subst, append-nil, true≢false, ◌≤◌, le_refl, arith}
use Rattle.std.specs.Option.{option_map_or}
use Rattle.std.proofs.lemmas.List.Elements.{All-push, All-weaker}
use Rattle.std.proofs.lemmas.Option.{none-some, same_Some}
use Rattle.identity_slots.specs.declared.profile.Vector.{Vector}
use Rattle.nas_messages.specs.declared.protection.SecurityHeader.{SecurityHeader}
use Rattle.nas_security.specs.Counts.{first_after}
use Rattle.s1ap_causes.specs.declared.cause.Cause.{Cause}
use Rattle.s1ap_pdus.specs.declared.pdu.Pdu.{Pdu}
use Rattle.s1ap_pdus.specs.Pdus.{encoded}
use Rattle.mme_types.specs.declared.octets.Answer.{Answer}
use Rattle.mme_types.specs.declared.octets.Mark.{Mark}
use Rattle.mme_types.specs.Answers.{answer_of}
use Rattle.mme_signalling.specs.Pdus.{context_setup, downlink, release_command}
use Rattle.emm_state.specs.declared.draft.Draft.{Draft}
use Rattle.emm_state.specs.declared.draft.Sealed.{Sealed}
use Rattle.emm_state.specs.declared.setting.Setting.{Setting}
use Rattle.emm_state.specs.declared.solo.Context.{Context}
use Rattle.emm_state.specs.declared.solo.NasTimer.{NasTimer}
use Rattle.emm_state.specs.declared.solo.Phase.{Phase}
use Rattle.emm_state.specs.declared.solo.Phase.TheVariants.{Deregistered, Authenticating, SecurityMode, Updating, Registered}
use Rattle.emm_state.specs.declared.solo.Repeat.{Repeat}
use Rattle.emm_state.specs.declared.solo.Solo.{Solo}
use Rattle.emm_state.specs.Actions.{association_counted, connect, connect_on, disconnected, emit, ended, fall, fallen, is_registered, leave_old, lost, protect, refuse, release, resting, seal, sealed_under, send, set_up, start, turn_away, wipe}
use Rattle.emm_machine.specs.Attaching.{took}
use Rattle.laws_subscriber.specs.Choices.{Whenever, at_some, either, either_by, nothing, some, then}
use Rattle.laws_subscriber.specs.Keys.{GoesToTheProved, has_radio_key}
use Rattle.laws_subscriber.specs.Marked.{AreFormsUnder, protected_within}
use Rattle.laws_subscriber.specs.Sound.{HasContext, IsCountedIdle, IsDerived, IsOfVector, IsPlainRepeat, IsSound, has_security_header, is_past_proof}
use Rattle.laws_subscriber.proofs.Forms.{form_is_under, plain_is_none}

-- ---- what is sent

-- an answer is the written form of a message that is under its mark
pub record IsSaid (vectors : List Vector) (Key : Answer → Pdu (List ℕ) → Type 0) (a : Answer) : Type 0 where
  pub message : Pdu (List ℕ)
  pub written : encoded message ≡ Some a.octets
  pub under : AreFormsUnder vectors a.under (protected_within message)
  pub key : Key a message

abbrev pub Keyless : Answer → Pdu (List ℕ) → Type 0
Keyless a m = has_radio_key m ≡ false

abbrev pub Proved : Solo → Answer → Pdu (List ℕ) → Type 0
Proved solo a m = has_radio_key m ≡ true → GoesToTheProved solo a m

pub said_more : (vectors : List Vector) (Key : Answer → Pdu (List ℕ) → Type 0) (sends : List Answer) (station : ℕ) (under : Option Mark) (message : Pdu (List ℕ))
    (o : Option (List ℕ)) → encoded message ≡ o → AreFormsUnder vectors under (protected_within message)
    → ((octets : List ℕ) → Key (record { station = station; octets = octets; under = under }) message)
    → All (IsSaid vectors Key) sends → All (IsSaid vectors Key) (sends ++ answer_of station under o)
said_more vectors Key sends station under message None is form key h = subst (All (IsSaid vectors Key)) (sym (append-nil sends)) h
said_more vectors Key sends station under message (Some octets) is form key h =
    All-push (IsSaid vectors Key) sends (record { station = station; octets = octets; under = under }) h
    (record { message = message; written = is; under = form; key = key octets })

-- ---- a step under way

-- the context, if there is one, is the vector at its place
abbrev pub IsKnown : List Vector → Option Context → Type 0
IsKnown vectors None = Unit {0}
IsKnown vectors (Some x) = (v : Vector) × IsOfVector vectors x v

-- by what is known of its state beside that
pub record IsReady (s : Setting) (P : Solo → Type 0) (d : Draft) : Type 0 where
  pub solo : P d.solo
  pub known : IsKnown s.vectors d.solo.context
  pub said : All (IsSaid s.vectors Keyless) d.sent

abbrev pub IsUnderIn : Setting → Sealed → Type 0
IsUnderIn s x = AreFormsUnder s.vectors x.under (filter has_security_header (x.form ∷ []))

-- a message has its protected form
abbrev pub IsSealed : Setting → (Solo → Type 0) → Sealed × Draft → Type 0
IsSealed s P x = IsReady s P x.1 × IsUnderIn s x.0

-- ---- what is known of a state

abbrev pub Whatever : Solo → Type 0
Whatever solo = Unit {0}

abbrev pub IsGone : Solo → Type 0
IsGone solo = solo.connection ≡ None

abbrev pub IsLinked : Solo → Type 0
IsLinked solo = IsSome solo.connection

-- a context that has given radio keys
abbrev IsKeyed : Setting → Solo → Type 0
IsKeyed s solo = HasContext Registered s.vectors solo.context

-- a challenge may go out
pub record IsBare (solo : Solo) : Type 0 where
  pub context : solo.context ≡ None
  pub connection : IsSome solo.connection
  pub reachable : IsCountedIdle solo.reachable solo.connection
  pub repeat : IsPlainRepeat solo.repeat

-- past the proof and connected, neither counted nor with anything that may not be repeated
pub record IsProven (s : Setting) (solo : Solo) : Type 0 where
  pub context : IsKeyed s solo
  pub connection : IsSome solo.connection
  pub reachable : IsCountedIdle solo.reachable solo.connection
  pub repeat : IsPlainRepeat solo.repeat

-- the connection has ended
pub record IsLeft (s : Setting) (solo : Solo) : Type 0 where
  pub context : HasContext solo.phase s.vectors solo.context
  pub connection : solo.connection ≡ None

-- sound without a connection
pub record IsIdle (s : Setting) (solo : Solo) : Type 0 where
  pub sound : IsSound s solo
  pub connection : solo.connection ≡ None

-- ---- contexts

-- counts leave a context the vector's
abbrev pub recounted : Context → ℕ → Option ℕ → Context
recounted x down up = record x { security = record x.security { down_next = down; up_last = up } }

abbrev pub spent : Context → Context
spent x = record x { security = record x.security { down_next = x.security.down_next + 1 } }

pub vector_recounted : (vectors : List Vector) (x : Context) (v : Vector) (down : ℕ) (up : Option ℕ) → IsOfVector vectors x v
    → IsOfVector vectors (recounted x down up) v
vector_recounted vectors x v down up of = record { there = of.there; integrity = of.integrity; kasme = of.kasme; ksi = of.ksi }

pub known_recounted : (vectors : List Vector) (x : Context) (down : ℕ) (up : Option ℕ) → IsKnown vectors (Some x)
    → IsKnown vectors (Some (recounted x down up))
known_recounted vectors x down up h = (h.0, vector_recounted vectors x h.0 down up h.1)

-- counts that are accepted rise
abbrev pub Rises : Option ℕ → Option ℕ → Type 0
Rises None up = Unit {0}
Rises (Some last) up = (next : ℕ) × (up ≡ Some next) × (last ≤ next)

pub rises_same : (o : Option ℕ) → Rises o o
rises_same None = tt
rises_same (Some last) = (last, refl, le_refl last)

pub rises_above : (o : Option ℕ) (count : ℕ) → first_after o ≤ count → Rises o (Some count)
rises_above None count high = tt
rises_above (Some last) count high = (count, refl, omega arith)

derived_recounted : (x : Context) (down : ℕ) (up : Option ℕ) → Rises x.security.up_last up → IsDerived x
    → IsDerived (recounted x down up)
derived_recounted x down up rises h =
    let r : Rises (Some h.1) up = subst (λ (o : Option ℕ). Rises o up) h.3 rises in
    let low : h.0 ≤ h.1 = h.4 in
    let high : h.1 ≤ r.0 = r.2 in
    (h.0, r.0, h.2, r.1, omega arith, h.5)

pub context_recounted : (phase : Phase) (vectors : List Vector) (o : Option Context) (x : Context) (down : ℕ) (up : Option ℕ)
    → o ≡ Some x → Rises x.security.up_last up
    → HasContext phase vectors o → HasContext phase vectors (Some (recounted x down up))
context_recounted Deregistered vectors o x down up is rises h = absurd (none-some x (sym h ∙ is))
context_recounted Authenticating vectors o x down up is rises h = absurd (none-some x (sym h ∙ is))
context_recounted SecurityMode vectors o x down up is rises h =
    let same = same_Some h.0 x (sym h.2 ∙ is) in
    (recounted x down up, h.1, refl, vector_recounted vectors x h.1 down up (subst (λ (y : Context). IsOfVector vectors y h.1) same h.3))
context_recounted _ vectors o x down up is rises h =
    let same = same_Some h.0 x (sym h.2 ∙ is) in (
      recounted x down up,
      h.1,
      refl,
      vector_recounted vectors x h.1 down up (subst (λ (y : Context). IsOfVector vectors y h.1) same h.3),
      derived_recounted x down up rises (subst IsDerived same h.4),
    )

-- past the proof a context has given radio keys
pub keyed_context : (phase : Phase) (vectors : List Vector) (o : Option Context) → is_past_proof phase ≡ true
    → HasContext phase vectors o → HasContext Registered vectors o
keyed_context Deregistered vectors o e h = absurd (cc)
keyed_context Authenticating vectors o e h = absurd (cc)
keyed_context SecurityMode vectors o e h = absurd (cc)
keyed_context _ vectors o e h = h

pub registered_past : (phase : Phase) → is_registered phase ≡ true → is_past_proof phase ≡ true
registered_past Registered e = refl
registered_past Updating e = refl
registered_past _ e = cc

-- what a sound phase says of the context that there is
pub known_context : (phase : Phase) (vectors : List Vector) (o : Option Context) → HasContext phase vectors o → IsKnown vectors o
known_context Deregistered vectors o h = subst (IsKnown vectors) (sym h) tt
known_context Authenticating vectors o h = subst (IsKnown vectors) (sym h) tt
known_context _ vectors o h = subst (IsKnown vectors) (sym h.2) (h.1, h.3)

-- a predicate on states that a spent count leaves
abbrev pub Spends : (Solo → Type 0) → Type 0
Spends P = (solo : Solo) (x : Context) → solo.context ≡ Some x → P solo → P (record solo { context = Some (spent x) })

pub sound_recounted : (s : Setting) (solo : Solo) (x : Context) (down : ℕ) (up : Option ℕ) → solo.context ≡ Some x
    → Rises x.security.up_last up → IsSound s solo
    → IsSound s (record solo { context = Some (recounted x down up) })
sound_recounted s solo x down up is rises h = record {
  context = context_recounted solo.phase s.vectors solo.context x down up is rises h.context;
  challenge = h.challenge;
  connection = h.connection;
  reachable = h.reachable;
  repeat = h.repeat;
}

pub spends_sound : (s : Setting) → Spends (IsSound s)
spends_sound s solo x is h =
    sound_recounted s solo x (x.security.down_next + 1) x.security.up_last is (rises_same x.security.up_last) h

pub spends_whatever : Spends Whatever
spends_whatever solo x is h = tt

module _ {s : Setting} where
  -- what is known may be less
  pub by : {P Q : Solo → Type 0} {d : Draft} → ((solo : Solo) → P solo → Q solo) → IsReady s P d → IsReady s Q d
  by {d = d} f h = record { solo = f d.solo h.solo; known = h.known; said = h.said }

  pub anyhow : {P : Solo → Type 0} {d : Draft} → IsReady s P d → IsReady s Whatever d
  anyhow h = by (λ solo p. tt) h

  -- ---- sending

  pub ready_emit : {P : Solo → Type 0} {d : Draft} (station : ℕ) (message : Pdu (List ℕ)) (under : Option Mark)
      → AreFormsUnder s.vectors under (protected_within message)
      → has_radio_key message ≡ false → IsReady s P d → IsReady s P (emit station message under d)
  unfolding emit
  ready_emit {d = d} station message under form keyless h = record {
    solo = h.solo;
    known = h.known;
    said = said_more s.vectors Keyless d.sent station under message (encoded message) refl form (λ octets. keyless) h.said;
  }

  pub ready_send : {P : Solo → Type 0} {d : Draft} (nas : List ℕ) → has_security_header nas ≡ false → IsReady s P d
      → IsReady s P (send nas d)
  unfolding send downlink
  ready_send {P} {d} nas plain h =
      at_some (IsReady s P) d.solo.connection (λ k is. ready_emit k.station (downlink k nas) None (plain_is_none nas plain) refl h)
      (λ is. h)

  -- ---- the connection

  pub ready_release_command : {P : Solo → Type 0} {d : Draft} (station id enb_ue_id : ℕ) (cause : Cause) → IsReady s P d
      → IsReady s P (emit station (release_command id enb_ue_id cause) None d)
  unfolding release_command
  ready_release_command station id enb_ue_id cause h = ready_emit station (release_command id enb_ue_id cause) None refl refl h

  pub ready_release : {P : Solo → Type 0} {d : Draft} (cause : Cause) → IsReady s P d → IsReady s IsGone (release cause d)
  unfolding release disconnected
  ready_release {P} {d} cause h =
      at_some (IsReady s IsGone) d.solo.connection
      (λ k is. let r = ready_release_command k.station k.id k.enb_ue_id cause h in record { solo = refl; known = r.known; said = r.said })
      (λ is. record { solo = is; known = h.known; said = h.said })

  -- the phase and the context stay
  pub left_release : {d : Draft} (cause : Cause) → IsReady s (IsSound s) d → IsReady s (IsLeft s) (release cause d)
  unfolding release disconnected
  left_release {d} cause h =
      at_some (IsReady s (IsLeft s)) d.solo.connection
      (λ k is. let r = ready_release_command k.station k.id k.enb_ue_id cause h in record { solo = record { context = r.solo.context; connection = refl }; known = r.known; said = r.said })
      (λ is. record { solo = record { context = h.solo.context; connection = is }; known = h.known; said = h.said })

  pub left_disconnected : {d : Draft} → IsReady s (IsSound s) d → IsReady s (IsLeft s) (disconnected d)
  unfolding disconnected
  left_disconnected h = record { solo = record { context = h.solo.context; connection = refl }; known = h.known; said = h.said }

  pub ready_leave_old : {P : Solo → Type 0} {d : Draft} (station enb_ue_id : ℕ) → IsReady s P d
      → IsReady s P (leave_old station enb_ue_id d)
  unfolding leave_old
  ready_leave_old {P} {d} station enb_ue_id h =
      at_some (IsReady s P) d.solo.connection
      (λ k is. either (IsReady s P) _ h (ready_release_command k.station k.id k.enb_ue_id _ h)) (λ is. h)

  pub linked_connect_on : {P : Solo → Type 0} {d : Draft} (id station enb_ue_id : ℕ) → IsReady s P d
      → IsReady s IsLinked (connect_on id station enb_ue_id d)
  unfolding connect_on
  linked_connect_on {d = d} id station enb_ue_id h =
      let r = ready_leave_old {d = d} station enb_ue_id h in record { solo = refl; known = r.known; said = r.said }

  pub linked_connect : {P : Solo → Type 0} {d : Draft} (slot station enb_ue_id : ℕ) → IsReady s P d
      → IsReady s IsLinked (connect slot station enb_ue_id d)
  unfolding connect association_counted
  linked_connect slot station enb_ue_id h =
      linked_connect_on {P = Whatever} _ station enb_ue_id (record { solo = tt; known = h.known; said = h.said })

  sound_counted : {d : Draft} → IsReady s (IsSound s) d → IsReady s (IsSound s) (association_counted d)
  unfolding association_counted
  sound_counted h = record {
    solo = record { context = h.solo.context; connection = h.solo.connection; challenge = h.solo.challenge; reachable = h.solo.reachable; repeat = h.solo.repeat };
    known = h.known;
    said = h.said;
  }

  pub sound_turn_away : {d : Draft} (slot station enb_ue_id : ℕ) → IsReady s (IsSound s) d
      → IsReady s (IsSound s) (turn_away slot station enb_ue_id d)
  unfolding turn_away
  sound_turn_away slot station enb_ue_id h = ready_release_command station _ enb_ue_id _ (sound_counted h)

  pub sound_refuse : {d : Draft} (slot station enb_ue_id : ℕ) (nas : List ℕ) → has_security_header nas ≡ false
      → IsReady s (IsSound s) d
      → IsReady s (IsSound s) (refuse slot station enb_ue_id nas d)
  unfolding refuse downlink
  sound_refuse slot station enb_ue_id nas plain h =
      ready_release_command station _ enb_ue_id _ (ready_emit station _ None (plain_is_none nas plain) refl (sound_counted h))

  -- ---- the registration

  pub idle_wipe : {d : Draft} → IsReady s IsGone d → IsReady s (IsIdle s) (wipe d)
  unfolding wipe
  idle_wipe h = record { solo = record { sound = record { context = refl; connection = h.solo; challenge = tt; reachable = tt; repeat = tt }; connection = h.solo }; known = tt; said = h.said }

  pub sound_idle : {d : Draft} → IsReady s (IsIdle s) d → IsReady s (IsSound s) d
  sound_idle h = by (λ solo p. p.sound) h

  -- the phone is forgotten
  pub sound_forgotten : {P : Solo → Type 0} {d : Draft} (cause : Cause) → IsReady s P d
      → IsReady s (IsSound s) (wipe (release cause d))
  sound_forgotten cause h = sound_idle (idle_wipe (ready_release cause h))

  -- what was registered is gone, on a new connection
  pub bare_wipe : {d : Draft} → IsReady s IsLinked d → IsReady s IsBare (wipe d)
  unfolding wipe
  bare_wipe h =
      record { solo = record { context = refl; connection = h.solo; reachable = tt; repeat = tt }; known = tt; said = h.said }

  idle_resting : {d : Draft} → is_registered d.solo.phase ≡ true → IsReady s (IsLeft s) d → IsReady s (IsIdle s) (resting d)
  unfolding resting ended
  idle_resting {d} e h = record {
    solo = record {
      sound = record {
        context = keyed_context d.solo.phase s.vectors d.solo.context (registered_past d.solo.phase e) h.solo.context;
        challenge = tt;
        connection = tt;
        reachable = h.solo.connection;
        repeat = tt;
      };
      connection = h.solo.connection;
    };
    known = h.known;
    said = h.said;
  }

  pub idle_fallen : {d : Draft} → IsReady s (IsLeft s) d → IsReady s (IsIdle s) (fallen d)
  idle_fallen {d} h =
      either_by (IsReady s (IsIdle s)) (is_registered d.solo.phase) (λ t. idle_resting t h)
      (λ t. idle_wipe (by (λ solo p. p.connection) h))

  pub idle_fall : {d : Draft} (cause : Cause) → IsReady s (IsSound s) d → IsReady s (IsIdle s) (fall cause d)
  unfolding fall
  idle_fall cause h = idle_fallen (left_release cause h)

  pub sound_fall : {d : Draft} (cause : Cause) → IsReady s (IsSound s) d → IsReady s (IsSound s) (fall cause d)
  sound_fall cause h = sound_idle (idle_fall cause h)

  pub sound_lost : {d : Draft} → IsReady s (IsSound s) d → IsReady s (IsSound s) (lost d)
  unfolding lost
  sound_lost h = sound_idle (idle_fallen (left_disconnected h))

  pub sound_start : {d : Draft} (timer : NasTimer) (repeat : Repeat) → IsPlainRepeat (Some repeat) → IsReady s (IsSound s) d
      → IsReady s (IsSound s) (start timer repeat d)
  unfolding start
  sound_start timer repeat plain h = record {
    solo = record { context = h.solo.context; connection = h.solo.connection; challenge = h.solo.challenge; reachable = h.solo.reachable; repeat = plain };
    known = h.known;
    said = h.said;
  }

  -- ---- protected messages

  sealed_at : {P : Solo → Type 0} (header : SecurityHeader) (nas : List ℕ) (d : Draft) (o : Option Context) → d.solo.context ≡ o
      → Spends P → IsReady s P d
      → Whenever (IsSealed s P) (option_map_or (sealed_under header nas d) o (Some (record { form = []; under = None }, d)))
  sealed_at header nas d None is spends h = some (h, refl)
  sealed_at {P} header nas d (Some x) is spends h =
      let known : IsKnown s.vectors (Some x) = subst (IsKnown s.vectors) is h.known in
      either (Whenever (IsSealed s P)) _ (some (
        record { solo = spends d.solo x is h.solo; known = known_recounted s.vectors x (x.security.down_next + 1) x.security.up_last known; said = h.said },
        form_is_under s.vectors x known.0 x.security.down_next header nas known.1,
      )) nothing

  pub ready_seal : {P : Solo → Type 0} {d : Draft} (header : SecurityHeader) (nas : List ℕ) → Spends P → IsReady s P d
      → Whenever (IsSealed s P) (seal header nas d)
  unfolding seal
  ready_seal {d = d} header nas spends h = sealed_at header nas d d.solo.context refl spends h

  pub ready_protect : {P : Solo → Type 0} {d : Draft} (header : SecurityHeader) (nas : List ℕ) → Spends P → IsReady s P d
      → Whenever (IsReady s P) (protect header nas d)
  unfolding protect downlink
  ready_protect {P} header nas spends h =
      then _ (ready_seal header nas spends h)
      (λ x r. at_some (IsReady s P) x.1.solo.connection (λ k is. ready_emit k.station (downlink k x.0.form) x.0.under r.1 refl r.0) (λ is. r.0))

  pub sound_protect : {d : Draft} (header : SecurityHeader) (nas : List ℕ) → IsReady s (IsSound s) d
      → Whenever (IsReady s (IsSound s)) (protect header nas d)
  sound_protect header nas h = ready_protect header nas (spends_sound s) h

  -- an uplink message was accepted by this context
  pub ready_took : {P Q : Solo → Type 0} {d : Draft} (x : Context) (count : ℕ) → IsKnown s.vectors (Some x)
      → ((solo : Solo) → P solo → Q (record solo { context = Some x }))
      → IsReady s P d → IsReady s Q (took x count d)
  unfolding took
  ready_took {d = d} x count known f h = record { solo = f d.solo h.solo; known = known; said = h.said }

-- ---- messages with a radio key

-- a step that is done: its messages with radio keys go to the proved
pub record IsDone (s : Setting) (d : Draft) : Type 0 where
  pub sound : IsSound s d.solo
  pub said : All (IsSaid s.vectors (Proved d.solo)) d.sent

pub said_keyless : (vectors : List Vector) (solo : Solo) (sends : List Answer) → All (IsSaid vectors Keyless) sends
    → All (IsSaid vectors (Proved solo)) sends
said_keyless vectors solo sends h =
    All-weaker (IsSaid vectors Keyless) (IsSaid vectors (Proved solo))
    (λ a i. record { message = i.message; written = i.written; under = i.under; key = λ e. absurd (true≢false (sym e ∙ i.key)) }) sends h

-- past the proof, with a context that gives this key
pub record HasKey (s : Setting) (kenb : List ℕ) (solo : Solo) : Type 0 where
  pub sound : IsSound s solo
  pub past : is_past_proof solo.phase ≡ true
  pub context : Context
  pub kept : solo.context ≡ Some context
  pub key : kenb ≡ context.radio.kenb
  pub derived : IsDerived context

pub spends_key : (s : Setting) (kenb : List ℕ) → Spends (HasKey s kenb)
spends_key s kenb solo x is h =
    let same = same_Some h.context x (sym h.kept ∙ is) in
    record {
      sound = spends_sound s solo x is h.sound;
      past = h.past;
      context = spent x;
      kept = refl;
      key = subst (λ (y : Context). kenb ≡ y.radio.kenb) same h.key;
      derived = derived_recounted x (x.security.down_next + 1) x.security.up_last (rises_same x.security.up_last) (subst IsDerived same h.derived);
    }

module _ {s : Setting} where
  pub done : {d : Draft} → IsReady s (IsSound s) d → IsDone s d
  done {d} h = record { sound = h.solo; said = said_keyless s.vectors d.solo d.sent h.said }

  pub done_set_up : {d : Draft} (kenb : List ℕ) (nas : Option (List ℕ)) (under : Option Mark)
      → AreFormsUnder s.vectors under (filter has_security_header (option_to_list nas ++ [])) → IsReady s (HasKey s kenb) d
      → IsDone s (set_up s kenb nas under d)
  unfolding set_up emit context_setup
  done_set_up {d} kenb nas under form h =
      at_some (IsDone s) d.solo.connection
      (λ k is. record {
        sound = h.solo.sound;
        said =
            said_more s.vectors (Proved d.solo) d.sent k.station under
            (context_setup s.network s.profile d.solo.asked.capability k kenb nas) _ refl form
            (λ octets e. record {
              proved = h.solo.past;
              connection = k;
              stands = is;
              station = refl;
              ids = (refl, refl);
              context = h.solo.context;
              kept = h.solo.kept;
              key = h.solo.key;
              derived = h.solo.derived;
            }) (said_keyless s.vectors d.solo d.sent h.said);
      })
      (λ is. record { sound = h.solo.sound; said = said_keyless s.vectors d.solo d.sent h.said })

  pub done_start : {d : Draft} (timer : NasTimer) (repeat : Repeat) → IsPlainRepeat (Some repeat) → IsDone s d
      → IsDone s (start timer repeat d)
  unfolding start
  done_start {d} timer repeat plain h = record {
    sound = record { context = h.sound.context; connection = h.sound.connection; challenge = h.sound.challenge; reachable = h.sound.reachable; repeat = plain };
    said = All-weaker (IsSaid s.vectors (Proved d.solo)) (IsSaid s.vectors (Proved (start timer repeat d).solo))
        (λ a i. record {
          message = i.message;
          written = i.written;
          under = i.under;
          key = λ e. let g = i.key e in record {
            proved = g.proved;
            connection = g.connection;
            stands = g.stands;
            station = g.station;
            ids = g.ids;
            context = g.context;
            kept = g.kept;
            key = g.key;
            derived = g.derived;
          };
        }) d.sent h.said;
  }
