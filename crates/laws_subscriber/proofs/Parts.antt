-- How a step can change how far a phone has come, and what each action leaves of it.
use Rattle.std.proofs.Common.{◌≡◌, ℕ, ◌+◌, ◌-◌, Bool, true, false, List, [], ◌∷◌, Option, Some, None, slice_get, Ok, refl, sym, subst, ap, ◌∙◌, true≢false}
use Rattle.std.specs.Option.{option_map_or}
use Rattle.identity_slots.specs.declared.profile.Vector.{Vector}
use Rattle.nas_messages.specs.declared.protection.SecurityHeader.{SecurityHeader}
use Rattle.nas_messages.specs.declared.protection.SecurityHeader.TheVariants.{NewContextCiphered}
use Rattle.nas_security.specs.Accepting.{accepted}
use Rattle.s1ap_causes.specs.declared.cause.Cause.{Cause}
use Rattle.s1ap_pdus.specs.declared.pdu.Pdu.{Pdu}
use Rattle.mme_types.specs.declared.octets.Mark.{Mark}
use Rattle.mme_types.specs.Events.{Item}
use Rattle.mme_signalling.specs.declared.heard.Heard.TheVariants as heards
use Rattle.mme_signalling.specs.Hearing.{heard}
use Rattle.emm_state.specs.declared.draft.Draft.{Draft}
use Rattle.emm_state.specs.declared.draft.Sealed.{Sealed}
use Rattle.emm_state.specs.declared.setting.Setting.{Setting}
use Rattle.emm_state.specs.declared.solo.Context.{Context}
use Rattle.emm_state.specs.declared.solo.NasTimer.{NasTimer}
use Rattle.emm_state.specs.declared.solo.Phase.{Phase}
use Rattle.emm_state.specs.declared.solo.Phase.TheVariants.{Deregistered, Authenticating, SecurityMode, EsmInformation, Accepting, Updating, Registered, Detaching}
use Rattle.emm_state.specs.declared.solo.Repeat.{Repeat}
use Rattle.emm_state.specs.declared.solo.Solo.{Solo}
use Rattle.emm_state.specs.Actions.{association_counted, connect, connect_on, disconnected, emit, ended, fall, fallen, is_registered, leave_old, lost, mac_of, protect, refuse, release, resting, seal, sealed_under, send, set_up, set_up_with, start, turn_away, wipe}
use Rattle.laws_subscriber.specs.Proof.{Challenges, Responds, uplink_nas}
use Rattle.laws_subscriber.specs.Choices.{Whenever, at_some, either, either_by, nothing, some, then}

-- ---- parts of a registration

pub data Part : Type 0 where
  Away : Part
  Challenged : Part
  Securing : Part
  Past : Part

abbrev pub part_of : Phase → Part
part_of Deregistered = Away
part_of Authenticating = Challenged
part_of SecurityMode = Securing
part_of EsmInformation = Past
part_of Accepting = Past
part_of Updating = Past
part_of Registered = Past
part_of Detaching = Past

abbrev pub is_same_part : Part → Part → Bool
is_same_part Away Away = true
is_same_part Challenged Challenged = true
is_same_part Securing Securing = true
is_same_part Past Past = true
is_same_part _ _ = false

same_part_refl : (p : Part) → is_same_part p p ≡ true
same_part_refl Away = refl
same_part_refl Challenged = refl
same_part_refl Securing = refl
same_part_refl Past = refl

-- a phone is in one part
pub clash : {p q r : Part} → p ≡ q → p ≡ r → is_same_part q r ≡ false → ⊥
clash {p} {q} {r} e f differ =
    true≢false (sym (subst (λ (t : Part). is_same_part q t ≡ true) (sym e ∙ f) (same_part_refl q)) ∙ differ)

abbrev pub place_of : Option Context → Option ℕ
place_of None = None
place_of (Some x) = Some x.place

-- a step under way is in the part where it began, with the same next vector and context
pub record IsHere (b : Solo) (d : Draft) : Type 0 where
  pub part : part_of d.solo.phase ≡ part_of b.phase
  pub next : d.solo.next_vector ≡ b.next_vector
  pub place : place_of d.solo.context ≡ place_of b.context

-- SECURITY MODE COMPLETE under a context
abbrev pub CompletesUnder : Context → Item → Type 0
CompletesUnder x item =
    (nas : List ℕ) × (inner : List ℕ) × (count : ℕ) × (uplink_nas item ≡ Some nas)
    × (accepted (mac_of x) x.security.up_last (NewContextCiphered ∷ []) nas ≡ Ok (count, inner))
    × (heard inner ≡ heards.SecurityModeComplete)

-- what a step can do
pub data Moves (s : Setting) (b : Solo) (item : Item) (d : Draft) : Type 0 where
  stays : IsHere b d → Moves s b item d
  leaves : part_of d.solo.phase ≡ Away → Moves s b item d
  challenged : (place : ℕ) (v : Vector) → part_of d.solo.phase ≡ Challenged → d.solo.next_vector ≡ place + 1
      → slice_get s.vectors place ≡ Some v
      → Challenges place v d → Moves s b item d
  responded : (v : Vector) → part_of b.phase ≡ Challenged → part_of d.solo.phase ≡ Securing
      → slice_get s.vectors (b.next_vector - 1) ≡ Some v
      → Responds v item → place_of d.solo.context ≡ Some (b.next_vector - 1) → Moves s b item d
  completed : (x : Context) → part_of b.phase ≡ Securing → part_of d.solo.phase ≡ Past → b.context ≡ Some x → CompletesUnder x item
      → place_of d.solo.context ≡ Some x.place → Moves s b item d

pub registered_part : (phase : Phase) → is_registered phase ≡ true → part_of phase ≡ Past
registered_part Registered e = refl
registered_part Updating e = refl
registered_part _ e = cc

module _ {b : Solo} where
  pub here_by : {d e : Draft} → part_of e.solo.phase ≡ part_of d.solo.phase → e.solo.next_vector ≡ d.solo.next_vector
      → place_of e.solo.context ≡ place_of d.solo.context
      → IsHere b d → IsHere b e
  here_by part next place h = record { part = part ∙ h.part; next = next ∙ h.next; place = place ∙ h.place }

  -- ---- actions

  pub here_emit : {d : Draft} (station : ℕ) (message : Pdu (List ℕ)) (under : Option Mark) → IsHere b d
      → IsHere b (emit station message under d)
  unfolding emit
  here_emit station message under h = here_by refl refl refl h

  pub here_send : {d : Draft} (nas : List ℕ) → IsHere b d → IsHere b (send nas d)
  unfolding send
  here_send {d} nas h = at_some (IsHere b) d.solo.connection (λ k is. here_emit k.station _ None h) (λ is. h)

  here_disconnected : {d : Draft} → IsHere b d → IsHere b (disconnected d)
  unfolding disconnected
  here_disconnected h = here_by refl refl refl h

  here_release : {d : Draft} (cause : Cause) → IsHere b d → IsHere b (release cause d)
  unfolding release
  here_release {d} cause h =
      at_some (IsHere b) d.solo.connection (λ k is. here_disconnected (here_emit k.station _ None h)) (λ is. h)

  here_leave_old : {d : Draft} (station enb_ue_id : ℕ) → IsHere b d → IsHere b (leave_old station enb_ue_id d)
  unfolding leave_old
  here_leave_old {d} station enb_ue_id h =
      at_some (IsHere b) d.solo.connection (λ k is. either (IsHere b) _ h (here_emit k.station _ None h)) (λ is. h)

  pub here_connect_on : {d : Draft} (id station enb_ue_id : ℕ) → IsHere b d → IsHere b (connect_on id station enb_ue_id d)
  unfolding connect_on
  here_connect_on {d} id station enb_ue_id h = let left = here_leave_old {d = d} station enb_ue_id h in here_by refl refl refl left

  here_counted : {d : Draft} → IsHere b d → IsHere b (association_counted d)
  unfolding association_counted
  here_counted h = here_by refl refl refl h

  pub here_connect : {d : Draft} (slot station enb_ue_id : ℕ) → IsHere b d → IsHere b (connect slot station enb_ue_id d)
  unfolding connect
  here_connect slot station enb_ue_id h = here_connect_on _ station enb_ue_id (here_counted h)

  pub here_turn_away : {d : Draft} (slot station enb_ue_id : ℕ) → IsHere b d → IsHere b (turn_away slot station enb_ue_id d)
  unfolding turn_away
  here_turn_away slot station enb_ue_id h = here_emit station _ None (here_counted h)

  pub here_refuse : {d : Draft} (slot station enb_ue_id : ℕ) (nas : List ℕ) → IsHere b d
      → IsHere b (refuse slot station enb_ue_id nas d)
  unfolding refuse
  here_refuse slot station enb_ue_id nas h = here_emit station _ None (here_emit station _ None (here_counted h))

  pub here_start : {d : Draft} (timer : NasTimer) (repeat : Repeat) → IsHere b d → IsHere b (start timer repeat d)
  unfolding start
  here_start timer repeat h = here_by refl refl refl h

  -- the same context in another state
  here_context : {d : Draft} (x y : Context) → d.solo.context ≡ Some x → x.place ≡ y.place → IsHere b d
      → IsHere b (record d { solo = record d.solo { context = Some y } })
  here_context x y is same h = record { part = h.part; next = h.next; place = sym (ap place_of is ∙ ap Some same) ∙ h.place }

  -- ---- protected messages

  sealed_at : (header : SecurityHeader) (nas : List ℕ) (d : Draft) (o : Option Context) → d.solo.context ≡ o → IsHere b d
      → Whenever (λ (y : Sealed × Draft). IsHere b y.1) (option_map_or (sealed_under header nas d) o (Some (record { form = []; under = None }, d)))
  sealed_at header nas d None is h = some h
  sealed_at header nas d (Some x) is h = either (Whenever (λ (y : Sealed × Draft). IsHere b y.1)) _ (some (here_context x _ is refl h)) nothing

  here_seal : {d : Draft} (header : SecurityHeader) (nas : List ℕ) → IsHere b d → Whenever (λ (y : Sealed × Draft). IsHere b y.1) (seal header nas d)
  unfolding seal
  here_seal {d} header nas h = sealed_at header nas d d.solo.context refl h

  pub here_protect : {d : Draft} (header : SecurityHeader) (nas : List ℕ) → IsHere b d → Whenever (IsHere b) (protect header nas d)
  unfolding protect
  here_protect header nas h =
      then _ (here_seal header nas h)
      (λ x r. at_some (IsHere b) x.1.solo.connection (λ k is. here_emit k.station _ _ r) (λ is. r))

  pub here_set_up : {d : Draft} (s : Setting) (kenb : List ℕ) (nas : Option (List ℕ)) (under : Option Mark) → IsHere b d
      → IsHere b (set_up s kenb nas under d)
  unfolding set_up
  here_set_up {d} s kenb nas under h = at_some (IsHere b) d.solo.connection (λ k is. here_emit k.station _ under h) (λ is. h)

  pub here_set_up_with : {d : Draft} (s : Setting) (kenb nas : List ℕ) → IsHere b d → Whenever (IsHere b) (set_up_with s kenb nas d)
  unfolding set_up_with
  here_set_up_with s kenb nas h = then _ (here_seal _ nas h) (λ x r. here_set_up s kenb _ x.0.under r)

  -- ---- what ends a registration or a connection

  module _ {s : Setting} {item : Item} where
    moves_wipe : (d : Draft) → Moves s b item (wipe d)
    unfolding wipe
    moves_wipe d = leaves refl

    moves_resting : {d : Draft} → is_registered d.solo.phase ≡ true → IsHere b d → Moves s b item (resting d)
    unfolding resting ended
    moves_resting {d} registered h =
        stays (record { part = sym (registered_part d.solo.phase registered) ∙ h.part; next = h.next; place = h.place })

    moves_fallen : {d : Draft} → IsHere b d → Moves s b item (fallen d)
    moves_fallen {d} h = either_by (Moves s b item) (is_registered d.solo.phase) (λ t. moves_resting t h) (λ t. moves_wipe d)

    pub moves_fall : {d : Draft} (cause : Cause) → IsHere b d → Moves s b item (fall cause d)
    unfolding fall
    moves_fall cause h = moves_fallen (here_release cause h)

    pub moves_lost : {d : Draft} → IsHere b d → Moves s b item (lost d)
    unfolding lost
    moves_lost h = moves_fallen (here_disconnected h)
