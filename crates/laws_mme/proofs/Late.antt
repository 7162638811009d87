-- A step with further vectors at the end of the list is the same, or it asked for one when none was left, and the phone is
-- forgotten.
use Rattle.std.proofs.Common.{◌≡◌, ◌⊎◌, inl, inr, Bool, true, false, cond, List, ◌++◌, ℕ, Option, Some, None, unwrap_or, refl, sym, ap, subst}
use Rattle.std.specs.Prelude.{◌&&◌, ◌||◌, not, slice_get, IsSome}
use Rattle.std.specs.Option.{option_map_or}
use Rattle.s1ap_causes.specs.declared.cause.Cause.TheVariants as causes
use Rattle.s1ap_causes.specs.declared.cause.RadioNetworkCause.TheVariants as radio
use Rattle.s1ap_elements.specs.declared.phone.Tai.{Tai}
use Rattle.identity_slots.specs.declared.profile.Vector.{Vector}
use Rattle.mme_types.specs.declared.event.UeBody.{UeBody}
use Rattle.mme_types.specs.declared.event.UeBody.TheVariants as bodies
use Rattle.mme_types.specs.declared.event.UeMessage.{UeMessage}
use Rattle.mme_types.specs.Events.{Item, Message}
use Rattle.mme_signalling.specs.declared.cause.EmmCause.TheVariants.{NetworkFailure}
use Rattle.mme_signalling.specs.declared.heard.Heard.{Heard}
use Rattle.mme_signalling.specs.declared.heard.Heard.TheVariants as heards
use Rattle.mme_signalling.specs.Hearing.{heard}
use Rattle.emm_state.specs.declared.draft.Draft.{Draft}
use Rattle.emm_state.specs.declared.setting.Setting.{Setting}
use Rattle.emm_state.specs.declared.solo.Phase.{Phase}
use Rattle.emm_state.specs.declared.solo.Phase.TheVariants.{Authenticating, Deregistered}
use Rattle.emm_state.specs.declared.solo.Solo.{Solo}
use Rattle.emm_state.specs.Actions.{untouched, wipe}
use Rattle.emm_machine.specs.Attaching as attaching
use Rattle.emm_machine.specs.Connected as connected
use Rattle.emm_machine.specs.Given.{having}
use Rattle.emm_machine.specs.Messages as messages
use Rattle.emm_machine.specs.Serving as serving
use Rattle.emm_machine.specs.Steps.{row, solo_step, spent}
use Rattle.laws_subscriber.specs.Proof.{nas_of_body, uplink_nas}
use Rattle.laws_subscriber.specs.Sound.{IsSound}
use Rattle.laws_subscriber.specs.Unproved.{begins_attach}
use Rattle.laws_mme.specs.Attaches.{attach_leaves}
use Rattle.laws_mme.specs.Challenges.{fails_to_synchronise, tells_synch_failure}
use Rattle.laws_mme.specs.Late.{GoesOn, GoesOnOrRanOut, RanOut}
use Rattle.laws_mme.specs.Looks.{HasOneLeft}
use Rattle.laws_mme.proofs.Looks.{looks_same, steps_look_at_two}

-- ---- tests

true_or_false : (b : Bool) → (b ≡ true) ⊎ (b ≡ false)
true_or_false true = inl refl
true_or_false false = inr refl

some_or_none : (o : Option Vector) → IsSome o ⊎ (o ≡ None)
some_or_none None = inr refl
some_or_none (Some v) = inl refl

neither : (b c : Bool) → b ≡ false → c ≡ false → (b || c) ≡ true → ⊥
neither true c p q h = cc p
neither false true p q h = cc q
neither false false p q h = cc h

both_left : (b c : Bool) → (b && c) ≡ true → b ≡ true
both_left true c h = refl
both_left false c h = absurd (cc h)

both_right : (b c : Bool) → (b && c) ≡ true → c ≡ true
both_right true c h = h
both_right false c h = absurd (cc h)

no_nas : (phase : Phase) → fails_to_synchronise phase None ≡ true → ⊥
no_nas Authenticating fails = cc fails
no_nas _ fails = cc fails

-- ---- a synch failure where none is left

module _ (s : Setting) (solo : Solo) (none : slice_get s.vectors solo.next_vector ≡ None) where
  abbrev IsForgottenBy : Option Draft → Type 0
  IsForgottenBy o = (unwrap_or o (spent solo)).solo.phase ≡ Deregistered

  refused : (attaching.challenge s (untouched solo)).solo.phase ≡ Deregistered
  unfolding attaching.challenge attaching.attach_refused wipe
  refused =
      subst (λ (o : Option Vector). (option_map_or (λ v. attaching.challenged v (untouched solo)) o (attaching.attach_refused NetworkFailure None (untouched solo))).solo.phase ≡ Deregistered)
      (sym none) refl

  heard_failure : (h : Heard (List ℕ)) → tells_synch_failure h ≡ true → IsForgottenBy (attaching.authenticating s h (untouched solo))
  unfolding attaching.authenticating attaching.failure
  heard_failure (heards.AuthenticationFailure cause) told =
      subst (λ (b : Bool). (cond b (attaching.challenge s (untouched solo)) (attaching.not_authenticated (untouched solo))).solo.phase ≡ Deregistered)
      (sym told) refused
  heard_failure _ told = absurd (cc told)

  in_challenge : (nas : List ℕ) → attaching.is_plain nas ≡ true → tells_synch_failure (heard nas) ≡ true
      → IsForgottenBy (attaching.in_authenticating s nas (untouched solo))
  unfolding attaching.in_authenticating
  in_challenge nas plain told =
      subst (λ (b : Bool). IsForgottenBy (cond b (attaching.authenticating s (heard nas) (untouched solo)) (Some (untouched solo))))
      (sym plain) (heard_failure (heard nas) told)

  in_uplink : (phase : Phase) (tai : Tai) (nas : List ℕ) → fails_to_synchronise phase (Some nas) ≡ true
      → IsForgottenBy (serving.uplink phase s tai nas (untouched solo))
  unfolding serving.uplink
  in_uplink Authenticating tai nas fails =
      let told = tells_synch_failure (heard nas) in
      in_challenge nas (both_left (attaching.is_plain nas) told fails) (both_right (attaching.is_plain nas) told fails)
  in_uplink _ tai nas fails = absurd (cc fails)

  -- what doesn't see the list is the same, what asks for a vector is forgotten
  abbrev IsEither : (Setting → Option Draft) → Type 0
  IsEither f = ((more : List Vector) → f (having (s.vectors ++ more) s) ≡ f s) ⊎ IsForgottenBy (f s)

  either_last : (b : Bool) (x : Option Draft) (f : Setting → Option Draft) → IsEither f → IsEither (λ q. cond b x (f q))
  either_last true x f h = inl (λ more. refl)
  either_last false x f h = h

  either_first : (b : Bool) (x : Option Draft) (f : Setting → Option Draft) → IsEither f → IsEither (λ q. cond b (f q) x)
  either_first true x f h = h
  either_first false x f h = inl (λ more. refl)

  on_connection : (body : UeBody (List ℕ)) → fails_to_synchronise solo.phase (nas_of_body body) ≡ true
      → IsForgottenBy (messages.on_connection body s (untouched solo))
  unfolding messages.on_connection
  on_connection (bodies.Uplink nas tai) fails = in_uplink solo.phase tai nas fails
  on_connection _ fails = absurd (no_nas solo.phase fails)

  checked : (m : UeMessage (List ℕ)) → fails_to_synchronise solo.phase (nas_of_body m.body) ≡ true
      → IsEither (λ q. messages.checked q m (untouched solo))
  unfolding messages.checked
  checked m fails =
      let d = untouched solo in
      let no_id = Some (connected.indicate (causes.RadioNetwork radio.UnknownMmeUeS1apId) m d) in
      let no_pair = Some (connected.indicate (causes.RadioNetwork radio.UnknownPairUeS1apId) m d) in
      either_last (not (connected.has_connection_id m d)) no_id
      (λ (q : Setting). cond (connected.has_pair m d) (messages.on_connection m.body q d) no_pair)
      (either_first (connected.has_pair m d) no_pair (λ (q : Setting). messages.on_connection m.body q d)
      (inr (on_connection m.body fails)))

  message_of : (body : UeBody (List ℕ)) (m : UeMessage (List ℕ)) → m.body ≡ body
      → fails_to_synchronise solo.phase (nas_of_body body) ≡ true → IsEither (λ q. messages.message_of body q m (untouched solo))
  unfolding messages.message_of
  message_of bodies.UeContextReleaseComplete m is fails = inl (λ more. refl)
  message_of bodies.PathSwitch m is fails = inl (λ more. refl)
  message_of (bodies.Uplink nas tai) m is fails =
      checked m (subst (λ (b : UeBody (List ℕ)). fails_to_synchronise solo.phase (nas_of_body b) ≡ true) (sym is) fails)
  message_of (bodies.UeContextReleaseRequest cause) m is fails =
      checked m (subst (λ (b : UeBody (List ℕ)). fails_to_synchronise solo.phase (nas_of_body b) ≡ true) (sym is) fails)
  message_of bodies.InitialContextSetupFailure m is fails =
      checked m (subst (λ (b : UeBody (List ℕ)). fails_to_synchronise solo.phase (nas_of_body b) ≡ true) (sym is) fails)
  message_of bodies.Notice m is fails =
      checked m (subst (λ (b : UeBody (List ℕ)). fails_to_synchronise solo.phase (nas_of_body b) ≡ true) (sym is) fails)

  failing : (item : Item) → fails_to_synchronise solo.phase (uplink_nas item) ≡ true → GoesOn s solo item ⊎ RanOut s solo item
  unfolding solo_step row
  failing (Message m) fails = elim (message_of m.body m refl fails) [
    | inl same ↦ inl (λ more. ap (λ (o : Option Draft). unwrap_or o (spent solo)) (same more))
    | inr gone ↦ inr (record { none = none; away = gone })
  ]
  failing _ fails = absurd (no_nas solo.phase fails)

-- ---- every step

goes_by_left : (s : Setting) (solo : Solo) (item : Item) → IsSound s solo → HasOneLeft s.vectors solo item → GoesOn s solo item
goes_by_left s solo item sound left = λ more. steps_look_at_two s (s.vectors ++ more) solo item (looks_same s more solo item sound left)

none_left : (s : Setting) (solo : Solo) (item : Item) → IsSound s solo → slice_get s.vectors solo.next_vector ≡ None
    → GoesOn s solo item ⊎ RanOut s solo item
none_left s solo item sound none = elim (true_or_false (begins_attach item)) [
  | inl begins ↦ elim (attach_leaves s solo item begins) [
    | inl forgotten ↦ inr (record { none = none; away = forgotten.phase })
    | inr taken ↦ absurd (cc (none, taken.challenged.there))
  ]
  | inr other ↦ elim (true_or_false (fails_to_synchronise solo.phase (uplink_nas item))) [
    | inl fails ↦ failing s solo none item fails
    | inr fine ↦ inl (goes_by_left s solo item sound (λ may. absurd (neither (begins_attach item) (fails_to_synchronise solo.phase (uplink_nas item)) other fine may)))
  ]
]

pub goes_on_or_ran_out : GoesOnOrRanOut
goes_on_or_ran_out s solo item sound = elim (some_or_none (slice_get s.vectors solo.next_vector)) [
  | inl there ↦ inl (goes_by_left s solo item sound (λ may. there))
  | inr none ↦ none_left s solo item sound none
]
