-- Two phones that have left are told the same, step by step.
use Rattle.std.proofs.Common.{◌≡◌, ◌⊎◌, ℕ, Bool, true, false, cond, inl, inr, List, [], ◌∷◌, Option, Some, None, unwrap_or, refl, sym, ◌∙◌, ap}
use Rattle.nas_elements.specs.Capability.{has_eia2}
use Rattle.s1ap_elements.specs.declared.phone.Tai.{Tai}
use Rattle.esm_machine.specs.declared.request.Requested.{Requested}
use Rattle.esm_machine.specs.declared.request.Requested.TheVariants.{Unreadable, Refused, Taken}
use Rattle.esm_machine.specs.Requests.{inactive, requested}
use Rattle.esm_machine.specs.Sessions.{Session}
use Rattle.identity_slots.specs.Ids.{id_of_slot, next_counter}
use Rattle.mme_types.specs.declared.connection.Connection.{Connection}
use Rattle.mme_types.specs.declared.event.Entry.{Entry}
use Rattle.mme_types.specs.declared.event.UeBody.{UeBody}
use Rattle.mme_types.specs.declared.event.UeBody.TheVariants as bodies
use Rattle.mme_types.specs.declared.event.UeMessage.{UeMessage}
use Rattle.mme_types.specs.declared.octets.Answer.{Answer}
use Rattle.mme_types.specs.Events.{Item, Nothing, Initial, Claim, Message, Displaced, StationGone, ConnectionsGone, Tick, Data, Cancel}
use Rattle.mme_signalling.specs.declared.heard.Heard.{Heard}
use Rattle.mme_signalling.specs.declared.heard.Heard.TheVariants as heards
use Rattle.mme_signalling.specs.Hearing.{heard, initial_octets}
use Rattle.emm_state.specs.declared.draft.Draft.{Draft}
use Rattle.emm_state.specs.declared.setting.Setting.{Setting}
use Rattle.emm_state.specs.declared.solo.Asked.{Asked}
use Rattle.emm_state.specs.declared.solo.Context.{Context}
use Rattle.emm_state.specs.declared.solo.Countdown.{Countdown}
use Rattle.emm_state.specs.declared.solo.Phase.{Phase}
use Rattle.emm_state.specs.declared.solo.Phase.TheVariants.{Deregistered}
use Rattle.emm_state.specs.declared.solo.Repeat.{Repeat}
use Rattle.emm_state.specs.declared.solo.Solo.{Solo}
use Rattle.emm_state.specs.Actions.{association_counted, connect, connect_on, disconnected, emit, leave_old, refuse, release, send, untouched, wipe}
use Rattle.emm_machine.specs.Attaching as attaching
use Rattle.emm_machine.specs.Connected as connected
use Rattle.emm_machine.specs.Messages as messages
use Rattle.emm_machine.specs.Idle as idle
use Rattle.emm_machine.specs.Serving as serving
use Rattle.emm_machine.specs.Steps.{row, solo_answers, solo_step, spent}
use Rattle.emm_machine.specs.Words.{states_of}
use Rattle.laws_mme.specs.Left.{HasLeft}
use Rattle.laws_mme.specs.Unseen.{AreToldAlike, NobodySees}

-- ---- phones that left

-- a phone that left, with these counters
abbrev bare : Solo → Solo
bare x = record x {
  phase = Deregistered;
  connection = None;
  context = None;
  tmsi = None;
  bearer = inactive;
  repeat = None;
  procedure = None;
  reachable = None;
}

-- the same but for the tracking area and what was asked for
abbrev but_for : Tai → Asked → Solo → Solo
but_for tai asked x = record x { tai = tai; asked = asked }

-- on a connection that is about to end or to be used
abbrev on : Connection → Solo → Draft
on k x = untouched (record (bare x) { connection = Some k })

module _ (s : Setting) (tai : Tai) (asked : Asked) where
  -- the same state, or two that left
  abbrev IsPair : Solo → Solo → Type 0
  IsPair x y = (x ≡ y) ⊎ ((z : Solo) × (x ≡ bare z) × (y ≡ bare (but_for tai asked z)))

  record GoAlike (d e : Draft) : Type 0 where
    sent : d.sent ≡ e.sent
    solo : IsPair d.solo e.solo

  go_either : (b : Bool) {d e f g : Draft} → GoAlike d f → GoAlike e g → GoAlike (cond b d e) (cond b f g)
  go_either true x y = x
  go_either false x y = y

  stay : (z : Solo) → GoAlike (untouched (bare z)) (untouched (bare (but_for tai asked z)))
  stay z = record { sent = refl; solo = inr (z, refl, refl) }

  -- ---- an attach

  module _ (combined : Bool) (capability esm : List ℕ) (area : Tai) (z : Solo) (k : Connection) where
    attach_by : (r : Requested (List ℕ))
        → GoAlike (attaching.attach_by r s combined capability area (attaching.requesting esm (wipe (on k z))))
        (attaching.attach_by r s combined capability area (attaching.requesting esm (wipe (on k (but_for tai asked z)))))
    unfolding attaching.attach_by attaching.attach_refused attaching.requesting attaching.asking wipe release send emit disconnected
    attach_by Unreadable = record { sent = refl; solo = inr (z, refl, refl) }
    attach_by (Refused answer) = record { sent = refl; solo = inr (z, refl, refl) }
    attach_by Taken =
        go_either (has_eia2 capability) (record { sent = refl; solo = inl refl }) (record { sent = refl; solo = inr (z, refl, refl) })

    attach : GoAlike (attaching.attach s combined capability esm area (on k z))
        (attaching.attach s combined capability esm area (on k (but_for tai asked z)))
    unfolding attaching.attach wipe
    attach = attach_by (requested inactive esm)

  -- ---- INITIAL UE MESSAGE

  abbrev counted : Solo → Solo
  counted z = record z { associations = next_counter z.associations }

  abbrev linked : Entry (List ℕ) → Solo → Connection
  linked m z = record { id = id_of_slot s.slot (next_counter z.associations); station = m.station; enb_ue_id = m.enb_ue_id }

  entered : (m : Entry (List ℕ)) (o : Heard (List ℕ)) (z : Solo)
      → GoAlike (unwrap_or (serving.entered o s m (untouched (bare z))) (spent (bare z)))
      (unwrap_or (serving.entered o s m (untouched (bare (but_for tai asked z)))) (spent (bare (but_for tai asked z))))
  unfolding serving.entered serving.service serving.initial_update serving.initial_detach attaching.detach_plainly
      attaching.detach_answered_plainly wipe release send disconnected refuse connect connect_on leave_old association_counted emit
  entered m (heards.AttachRequest combined capability esm) z = attach combined capability esm m.tai (counted z) (linked m z)
  entered m (heards.ServiceRequest octets) z = record { sent = refl; solo = inr (counted z, refl, refl) }
  entered m (heards.TrackingAreaUpdateRequest combined) z = record { sent = refl; solo = inr (counted z, refl, refl) }
  entered m (heards.DetachRequest true) z = record { sent = refl; solo = inr (counted z, refl, refl) }
  entered m (heards.DetachRequest false) z = record { sent = refl; solo = inr (counted z, refl, refl) }
  entered m _ z = stay z

  claimed : (id : ℕ) (m : Entry (List ℕ)) (o : Heard (List ℕ)) (z : Solo)
      → GoAlike (serving.claimed o s id m (untouched (bare z))) (serving.claimed o s id m (untouched (bare (but_for tai asked z))))
  unfolding serving.claimed connect_on leave_old
  claimed id m (heards.AttachRequest combined capability esm) z =
      attach combined capability esm m.tai z (record { id = id; station = m.station; enb_ue_id = m.enb_ue_id })
  claimed id m _ z = stay z

  -- ---- a message on an association that isn't there

  message : (m : UeMessage (List ℕ)) (body : UeBody (List ℕ)) (z : Solo)
      → GoAlike (unwrap_or (messages.message_of body s m (untouched (bare z))) (spent (bare z)))
      (unwrap_or (messages.message_of body s m (untouched (bare (but_for tai asked z)))) (spent (bare (but_for tai asked z))))
  unfolding messages.message_of connected.path_switch connected.not_switched messages.checked connected.indicate emit
  message m bodies.UeContextReleaseComplete z = stay z
  message m bodies.PathSwitch z = record { sent = refl; solo = inr (z, refl, refl) }
  message m _ z = record { sent = refl; solo = inr (z, refl, refl) }

  -- ---- the step

  step : (item : Item) (z : Solo) → GoAlike (solo_step s (bare z) item) (solo_step s (bare (but_for tai asked z)) item)
  unfolding solo_step row serving.initial serving.claim connected.displaced connected.station_gone connected.strike
      connected.connections_gone idle.tick idle.lowered idle.procedure_ticks idle.reachable_ticks_out idle.data_waits idle.cancelled
  step Nothing z = stay z
  step (Initial m) z = entered m (heard (initial_octets m.nas)) z
  step (Claim id m) z = claimed id m (heard (initial_octets m.nas)) z
  step (Message m) z = message m m.body z
  step (Displaced id) z = stay z
  step (StationGone station) z = stay z
  step (ConnectionsGone station items) z = stay z
  step Tick z = stay z
  step (Data stations) z = stay z
  step Cancel z = stay z

  step_pair : (item : Item) (x y : Solo) → IsPair x y → GoAlike (solo_step s x item) (solo_step s y item)
  step_pair item x y pair = elim pair [
    | inl same ↦ record {
      sent = ap (λ (z : Solo). (solo_step s z item).sent) same;
      solo = inl (ap (λ (z : Solo). (solo_step s z item).solo) same);
    }
    | inr left ↦
        let next = step item left.0 in
        let one : (solo_step s x item).solo ≡ (solo_step s (bare left.0) item).solo = ap (λ (z : Solo). (solo_step s z item).solo) left.1 in
        let other : (solo_step s y item).solo ≡ (solo_step s (bare (but_for tai asked left.0)) item).solo =
        ap (λ (z : Solo). (solo_step s z item).solo) left.2 in
        record {
          sent = ap (λ (z : Solo). (solo_step s z item).sent) left.1 ∙ next.sent
              ∙ sym (ap (λ (z : Solo). (solo_step s z item).sent) left.2);
          solo = elim next.solo [
            | inl same ↦ inl (one ∙ same ∙ sym other)
            | inr gone ↦ inr (gone.0, one ∙ gone.1, other ∙ gone.2)
          ];
        }
  ]

  told : (items : List Item) (x y : Solo) → IsPair x y → AreToldAlike s x y items
  told [] x y pair = record {
    answers = refl;
    states = elim pair [
      | inl same ↦ ap states_of same
      | inr left ↦ ap states_of left.1 ∙ sym (ap states_of left.2)
    ];
  }
  told (item ∷ items) x y pair =
      let next = step_pair item x y pair in
      let rest = told items (solo_step s x item).solo (solo_step s y item).solo next.solo in
      record {
        answers = ap (λ (sent : List Answer). sent ∷ solo_answers s (solo_step s x item).solo items) next.sent
            ∙ ap (λ (others : List (List Answer)). (solo_step s y item).sent ∷ others) rest.answers;
        states = rest.states;
      }

-- ---- a phone that left is one of these

is_bare : (x : Solo) → HasLeft x → x ≡ bare x
is_bare x h =
    ap (λ (p : Phase). record x { phase = p }) h.phase
    ∙ ap (λ (c : Option Connection). record x { phase = Deregistered; connection = c }) h.connection
    ∙ ap (λ (c : Option Context). record x { phase = Deregistered; connection = None; context = c }) h.context
    ∙ ap (λ (t : Option ℕ). record x { phase = Deregistered; connection = None; context = None; tmsi = t }) h.tmsi
    ∙ ap (λ (b : Session). record x { phase = Deregistered; connection = None; context = None; tmsi = None; bearer = b }) h.bearer
    ∙ ap (λ (r : Option Repeat). record x {
      phase = Deregistered;
      connection = None;
      context = None;
      tmsi = None;
      bearer = inactive;
      repeat = r;
    }) h.repeat
    ∙ ap (λ (p : Option Countdown). record x {
      phase = Deregistered;
      connection = None;
      context = None;
      tmsi = None;
      bearer = inactive;
      repeat = None;
      procedure = p;
    }) h.procedure
    ∙ ap (λ (r : Option ℕ). record x {
      phase = Deregistered;
      connection = None;
      context = None;
      tmsi = None;
      bearer = inactive;
      repeat = None;
      procedure = None;
      reachable = r;
    }) h.reachable

pub nobody_sees : NobodySees
nobody_sees s x y items h =
    let same : bare y ≡ bare (but_for y.tai y.asked x) =
    ap (λ (n : ℕ). bare (record y { associations = n })) (sym h.associations)
    ∙ ap (λ (n : ℕ). bare (record y { associations = x.associations; tmsis = n })) (sym h.tmsis)
    ∙ ap (λ (n : ℕ). bare (record y { associations = x.associations; tmsis = x.tmsis; next_vector = n })) (sym h.next_vector) in
    told s y.tai y.asked items x y (inr (x, is_bare x h.one, is_bare y h.other ∙ same))
