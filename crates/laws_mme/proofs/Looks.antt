-- With another list of vectors that is the same where a step looks, the step is the same; and so are runs.
use Rattle.std.proofs.Common.{◌≡◌, ℕ, ◌-◌, zero, suc, Bool, true, List, [], ◌∷◌, ◌++◌, Option, Some, None, unwrap_or, refl, sym, ◌∙◌, ap, subst, arith}
use Rattle.std.specs.Prelude.{◌==◌, ◌||◌, not, slice_get, IsSome}
use Rattle.identity_slots.specs.declared.profile.Vector.{Vector}
use Rattle.mme_types.specs.declared.event.UeBody.{UeBody}
use Rattle.mme_types.specs.declared.event.UeBody.TheVariants as bodies
use Rattle.mme_types.specs.declared.event.UeMessage.{UeMessage}
use Rattle.mme_types.specs.declared.octets.Answer.{Answer}
use Rattle.mme_types.specs.Events.{Item, Nothing, Initial, Claim, Message, Displaced, StationGone, ConnectionsGone, Tick, Data, Cancel}
use Rattle.mme_signalling.specs.Hearing.{heard, initial_octets}
use Rattle.emm_state.specs.declared.draft.Draft.{Draft}
use Rattle.emm_state.specs.declared.setting.Setting.{Setting}
use Rattle.emm_state.specs.declared.solo.Countdown.{Countdown}
use Rattle.emm_state.specs.declared.solo.Phase.{Phase}
use Rattle.emm_state.specs.declared.solo.Phase.TheVariants.{Authenticating}
use Rattle.emm_state.specs.declared.solo.Protection.TheVariants.{Plain, Under}
use Rattle.emm_state.specs.declared.solo.Repeat.{Repeat}
use Rattle.emm_state.specs.declared.solo.Repeat.TheVariants as repeats
use Rattle.emm_state.specs.declared.solo.Solo.{Solo}
use Rattle.emm_state.specs.Actions.{untouched}
use Rattle.emm_state.specs.Does.{◌>>=◌}
use Rattle.emm_machine.specs.Connected as connected
use Rattle.emm_machine.specs.Messages as messages
use Rattle.emm_machine.specs.Idle as idle
use Rattle.emm_machine.specs.Serving as serving
use Rattle.emm_machine.specs.Steps.{row, solo_answers, solo_after, solo_step, spent}
use Rattle.laws_subscriber.specs.Proof.{nas_of_body}
use Rattle.laws_subscriber.specs.Sound.{HasChallenge, IsSound, StaysSound}
use Rattle.laws_mme.specs.Challenges.{fails_to_synchronise}
use Rattle.emm_machine.specs.Given.{having}
use Rattle.laws_mme.specs.Looks.{HasOneLeft, LooksSame, LooksSameAlong, NeverRunsOut, RunsLookAtTwo, StepsLookAtTwo, VectorsMayComeLate}
use Rattle.laws_mme.proofs.LooksAtAttach.{SameAt, if_false, if_true, map_or}
use Rattle.laws_mme.proofs.LooksAtServing.{claimed, entered, uplink}

module _ (s : Setting) (vs : List Vector) where
  abbrev t : Setting
  t = having vs s

  -- ---- a message with the subscriber's id

  on_connection : (body : UeBody (List ℕ)) (d : Draft) → (d.solo.phase ≡ Authenticating → SameAt s vs (d.solo.next_vector - 1))
      → (fails_to_synchronise d.solo.phase (nas_of_body body) ≡ true → SameAt s vs d.solo.next_vector)
      → messages.on_connection body t d ≡ messages.on_connection body s d
  unfolding messages.on_connection
  on_connection (bodies.Uplink nas tai) d own next = uplink s vs d.solo.phase tai nas d own next
  on_connection (bodies.UeContextReleaseRequest cause) d own next = refl
  on_connection bodies.UeContextReleaseComplete d own next = refl
  on_connection bodies.InitialContextSetupFailure d own next = refl
  on_connection bodies.PathSwitch d own next = refl
  on_connection bodies.Notice d own next = refl

  checked : (m : UeMessage (List ℕ)) (d : Draft) → (d.solo.phase ≡ Authenticating → SameAt s vs (d.solo.next_vector - 1))
      → (fails_to_synchronise d.solo.phase (nas_of_body m.body) ≡ true → SameAt s vs d.solo.next_vector)
      → messages.checked t m d ≡ messages.checked s m d
  unfolding messages.checked
  checked m d own next =
      if_false _ _ _ (not (connected.has_connection_id m d))
      (if_true _ _ _ (connected.has_pair m d) (λ is. on_connection m.body d own next))

  message_of : (body : UeBody (List ℕ)) (m : UeMessage (List ℕ)) (d : Draft)
      → (d.solo.phase ≡ Authenticating → SameAt s vs (d.solo.next_vector - 1))
      → (fails_to_synchronise d.solo.phase (nas_of_body m.body) ≡ true → SameAt s vs d.solo.next_vector)
      → messages.message_of body t m d ≡ messages.message_of body s m d
  unfolding messages.message_of
  message_of bodies.UeContextReleaseComplete m d own next = refl
  message_of bodies.PathSwitch m d own next = refl
  message_of (bodies.Uplink nas tai) m d own next = checked m d own next
  message_of (bodies.UeContextReleaseRequest cause) m d own next = checked m d own next
  message_of bodies.InitialContextSetupFailure m d own next = checked m d own next
  message_of bodies.Notice m d own next = checked m d own next

  -- ---- countdowns

  again : (r : Repeat) (d : Draft) → idle.again r t d ≡ idle.again r s d
  unfolding idle.again idle.page
  again (repeats.Nas Plain nas) d = refl
  again (repeats.Nas (Under header) nas) d = refl
  again (repeats.Paging es) d = refl

  expired : (c : Countdown) (d : Draft) → idle.expired c t d ≡ idle.expired c s d
  unfolding idle.expired
  expired c d = if_false _ _ _ (c.repeats == 0) (map_or _ _ _ d.solo.repeat (λ r. again r (idle.restarted c d)))

  tick : (d : Draft) → idle.tick t d ≡ idle.tick s d
  unfolding idle.tick idle.procedure_ticks
  tick d =
      ap (λ (o : Option Draft). o >>= λ e. Some (idle.reachable_ticks_out e))
      (map_or _ _ _ (idle.lowered d).solo.procedure (λ c. if_true _ _ _ (c.left == 0) (λ is. expired c (idle.lowered d))))

  -- ---- the step

  rows : (solo : Solo) (item : Item) → LooksSame vs s.vectors solo item → row t item (untouched solo) ≡ row s item (untouched solo)
  unfolding row serving.initial serving.claim idle.data_waits idle.paged idle.page
  rows solo Nothing h = refl
  rows solo (Initial m) h =
      entered s vs (heard (initial_octets m.nas)) m (untouched solo)
      (λ is. h.next (ap (λ (b : Bool). b || fails_to_synchronise solo.phase None) is))
  rows solo (Claim id m) h =
      ap Some (claimed s vs (heard (initial_octets m.nas)) id m (untouched solo)
      (λ is. h.next (ap (λ (b : Bool). b || fails_to_synchronise solo.phase None) is)))
  rows solo (Message m) h = message_of m.body m (untouched solo) h.challenged h.next
  rows solo (Displaced id) h = refl
  rows solo (StationGone station) h = refl
  rows solo (ConnectionsGone station items) h = refl
  rows solo Tick h = tick (untouched solo)
  rows solo (Data stations) h = refl
  rows solo Cancel h = refl

pub steps_look_at_two : StepsLookAtTwo
unfolding solo_step
steps_look_at_two s vs solo item h = ap (λ (o : Option Draft). unwrap_or o (spent solo)) (rows s vs solo item h)

-- ---- runs

pub runs_look_at_two : RunsLookAtTwo
runs_look_at_two s vs solo [] h = record { answers = refl; state = refl }
runs_look_at_two s vs solo (item ∷ items) h =
    let one = steps_look_at_two s vs solo item h.0 in
    let rest = runs_look_at_two s vs (solo_step s solo item).solo items h.1 in
    record {
      answers = ap (λ (d : Draft). d.sent ∷ solo_answers (having vs s) d.solo items) one
          ∙ ap (λ (more : List (List Answer)). (solo_step s solo item).sent ∷ more) rest.answers;
      state = ap (λ (d : Draft). solo_after (having vs s) d.solo items) one ∙ rest.state;
    }

-- ---- vectors that come late

-- what stands in the front is found
found : (vs more : List Vector) (n : ℕ) → IsSome (slice_get vs n) → slice_get (vs ++ more) n ≡ slice_get vs n
found [] more n h = absurd (cc)
found (v ∷ vs) more zero h = refl
found (v ∷ vs) more (suc n) h = found vs more n h

pub found_there : (vs more : List Vector) (n : ℕ) (v : Vector) → slice_get vs n ≡ Some v → slice_get (vs ++ more) n ≡ slice_get vs n
found_there vs more n v at = found vs more n (subst (λ (o : Option Vector). IsSome o) (sym at) refl)

-- while a challenge is out its vector is there
found_challenged : (vs more : List Vector) (next : ℕ) (phase : Phase) → HasChallenge phase vs next → phase ≡ Authenticating
    → slice_get (vs ++ more) (next - 1) ≡ slice_get vs (next - 1)
found_challenged vs more next phase has is =
    let own : HasChallenge Authenticating vs next = subst (λ (p : Phase). HasChallenge p vs next) is has in
    let last = own.2 in
    let place : next - 1 ≡ own.0 = omega (arith, last) in
    found_there vs more (next - 1) own.1 (subst (λ (n : ℕ). slice_get vs n ≡ Some own.1) (sym place) own.3)

pub looks_same : (s : Setting) (more : List Vector) (solo : Solo) (item : Item) → IsSound s solo → HasOneLeft s.vectors solo item
    → LooksSame (s.vectors ++ more) s.vectors solo item
looks_same s more solo item sound left = record {
  next = λ may. found s.vectors more solo.next_vector (left may);
  challenged = λ is. found_challenged s.vectors more solo.next_vector solo.phase sound.challenge is;
}

looks_same_along : StaysSound → (s : Setting) (more : List Vector) (solo : Solo) (items : List Item) → IsSound s solo
    → NeverRunsOut s solo items → LooksSameAlong s (s.vectors ++ more) solo items
looks_same_along stays s more solo [] sound h = tt
looks_same_along stays s more solo (item ∷ items) sound h = (
  looks_same s more solo item sound h.0,
  looks_same_along stays s more (solo_step s solo item).solo items (stays s solo (item ∷ []) sound) h.1,
)

pub vectors_may_come_late : StaysSound → VectorsMayComeLate
vectors_may_come_late stays s more solo items sound h =
    runs_look_at_two s (s.vectors ++ more) solo items (looks_same_along stays s more solo items sound h)
