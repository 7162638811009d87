-- What an ATTACH REQUEST leaves, whoever sends it: the phone is refused and forgotten, or challenged by the next vector.
use Rattle.std.proofs.Common.{◌≡◌, ◌⊎◌, ℕ, ◌+◌, Bool, true, inl, inr, List, Option, Some, None, refl, ◌∙◌, ap, subst}
use Rattle.std.specs.Prelude.{slice_get, unwrap_or}
use Rattle.esm_machine.specs.declared.request.Requested.{Requested}
use Rattle.esm_machine.specs.declared.request.Requested.TheVariants.{Unreadable, Refused, Taken}
use Rattle.esm_machine.specs.Requests.{inactive}
use Rattle.identity_slots.specs.declared.profile.Vector.{Vector}
use Rattle.nas_elements.specs.Capability.{has_eia2}
use Rattle.s1ap_elements.specs.declared.phone.Tai.{Tai}
use Rattle.mme_types.specs.declared.event.Entry.{Entry}
use Rattle.mme_types.specs.Events.{Item, Initial, Claim}
use Rattle.mme_signalling.specs.declared.cause.EmmCause.{EmmCause}
use Rattle.mme_signalling.specs.declared.heard.Heard.{Heard}
use Rattle.mme_signalling.specs.declared.heard.Heard.TheVariants as heards
use Rattle.mme_signalling.specs.Hearing.{heard, initial_octets}
use Rattle.mme_signalling.specs.Messages.{authentication_request}
use Rattle.emm_state.specs.declared.draft.Draft.{Draft}
use Rattle.emm_state.specs.declared.setting.Setting.{Setting}
use Rattle.emm_state.specs.declared.solo.Phase.TheVariants.{Deregistered, Authenticating}
use Rattle.emm_state.specs.declared.solo.Protection.TheVariants.{Plain}
use Rattle.emm_state.specs.declared.solo.Repeat.TheVariants as repeats
use Rattle.emm_state.specs.declared.solo.Solo.{Solo}
use Rattle.emm_state.specs.Actions.{connect, connect_on, emit, send, start, untouched, wipe}
use Rattle.emm_state.specs.KeySets.{ksi_of}
use Rattle.emm_machine.specs.Attaching as attaching
use Rattle.emm_machine.specs.Serving as serving
use Rattle.emm_machine.specs.Steps.{row, solo_step, spent}
use Rattle.laws_subscriber.specs.Unproved.{begins_attach, is_attach_request}
use Rattle.laws_subscriber.specs.Keeps.{request_in}
use Rattle.laws_mme.specs.Premises.{AsksToAttach}
use Rattle.laws_subscriber.specs.Choices.{at_some, either_by}
use Rattle.laws_subscriber.specs.Walk.{connect_on_solo, connect_solo}

-- ---- what it leaves

-- the phone is forgotten
pub record IsForgotten (x : Solo) : Type 0 where
  pub phase : x.phase ≡ Deregistered
  pub repeat : x.repeat ≡ None
  pub tmsi : x.tmsi ≡ None
  pub bearer : x.bearer ≡ inactive

-- it is challenged by the vector at this place, and what it asked with is kept
pub record IsChallenged (s : Setting) (capability : List ℕ) (place : ℕ) (x : Solo) : Type 0 where
  pub phase : x.phase ≡ Authenticating
  pub asked : x.asked.capability ≡ capability
  pub protects : has_eia2 capability ≡ true
  pub vector : Vector
  pub there : slice_get s.vectors place ≡ Some vector
  pub next : x.next_vector ≡ place + 1
  pub repeat : x.repeat ≡ Some (repeats.Nas Plain (authentication_request (ksi_of place) vector.rand vector.autn))

pub record IsTaken (s : Setting) (solo : Solo) (item : Item) (x : Solo) : Type 0 where
  pub capability : List ℕ
  pub asks : AsksToAttach item capability
  pub challenged : IsChallenged s capability solo.next_vector x

-- ---- and that it leaves so

send_solo : (nas : List ℕ) (d : Draft) → (send nas d).solo ≡ d.solo
unfolding send emit
send_solo nas d = at_some (λ (e : Draft). e.solo ≡ d.solo) d.solo.connection (λ k is. refl) (λ is. refl)

module _ (s : Setting) (capability : List ℕ) (place : ℕ) where
  Ends : Draft → Type 0
  Ends e = IsForgotten e.solo ⊎ IsChallenged s capability place e.solo

  refused_ends : (cause : EmmCause) (esm : Option (List ℕ)) (d : Draft) → Ends (attaching.attach_refused cause esm d)
  unfolding Ends attaching.attach_refused wipe
  refused_ends cause esm d = inl (record { phase = refl; repeat = refl; tmsi = refl; bearer = refl })

  challenged_ends : (v : Vector) (d : Draft) → slice_get s.vectors d.solo.next_vector ≡ Some v → d.solo.next_vector ≡ place
      → d.solo.asked.capability ≡ capability → has_eia2 capability ≡ true → Ends (attaching.challenged v d)
  unfolding Ends attaching.challenged start
  challenged_ends v d there next asked protects =
      let request = authentication_request (ksi_of d.solo.next_vector) v.rand v.autn in
      let taken : Draft =
      record d { solo = record d.solo { phase = Authenticating; next_vector = d.solo.next_vector + 1 } } in
      let same = send_solo request taken in
      inr (record {
        phase = ap (λ (x : Solo). x.phase) same;
        asked = ap (λ (x : Solo). x.asked.capability) same ∙ asked;
        protects = protects;
        vector = v;
        there = subst (λ (n : ℕ). slice_get s.vectors n ≡ Some v) next there;
        next = ap (λ (x : Solo). x.next_vector) same ∙ ap (λ (n : ℕ). n + 1) next;
        repeat = ap (λ (n : ℕ). Some (repeats.Nas Plain (authentication_request (ksi_of n) v.rand v.autn))) next;
      })

  challenge_ends : (d : Draft) → d.solo.next_vector ≡ place → d.solo.asked.capability ≡ capability → has_eia2 capability ≡ true
      → Ends (attaching.challenge s d)
  unfolding attaching.challenge
  challenge_ends d next asked protects =
      at_some Ends (slice_get s.vectors d.solo.next_vector) (λ v there. challenged_ends v d there next asked protects)
      (λ none. refused_ends _ None d)

  attach_by_ends : (asked : Requested (List ℕ)) (combined : Bool) (tai : Tai) (d : Draft) → d.solo.next_vector ≡ place
      → Ends (attaching.attach_by asked s combined capability tai d)
  unfolding attaching.attach_by attaching.asking
  attach_by_ends Unreadable combined tai d next = refused_ends _ None d
  attach_by_ends (Refused esm) combined tai d next = refused_ends _ (Some esm) d
  attach_by_ends Taken combined tai d next =
      either_by Ends (has_eia2 capability)
      (λ has. challenge_ends (attaching.asking combined capability tai d) next refl has)
      (λ lacks. refused_ends _ None d)

  attach_ends : (combined : Bool) (esm : List ℕ) (tai : Tai) (d : Draft) → d.solo.next_vector ≡ place
      → Ends (attaching.attach s combined capability esm tai d)
  unfolding attaching.attach attaching.requesting wipe
  attach_ends combined esm tai d next = attach_by_ends _ combined tai (attaching.requesting esm (wipe d)) next

-- of an item
taken_or_not : (s : Setting) (solo : Solo) (item : Item) (combined : Bool) (capability esm : List ℕ) (d : Draft)
    → begins_attach item ≡ true → request_in item ≡ heards.AttachRequest combined capability esm
    → Ends s capability solo.next_vector d → IsForgotten d.solo ⊎ IsTaken s solo item d.solo
unfolding Ends
taken_or_not s solo item combined capability esm d begins request ends = elim ends [
  | inl forgotten ↦ inl forgotten
  | inr challenged ↦ inr (record {
    capability = capability;
    asks = record { begins = begins; combined = combined; esm = esm; request = request; protects = challenged.protects };
    challenged = challenged;
  })
]

module _ (s : Setting) (solo : Solo) where
  entered_ends : (m : Entry (List ℕ)) (o : Heard (List ℕ)) → heard (initial_octets m.nas) ≡ o → is_attach_request o ≡ true
      → IsForgotten (unwrap_or (serving.entered o s m (untouched solo)) (spent solo)).solo
      ⊎ IsTaken s solo (Initial m) (unwrap_or (serving.entered o s m (untouched solo)) (spent solo)).solo
  unfolding serving.entered
  entered_ends m (heards.AttachRequest combined capability esm) is begins =
      taken_or_not s solo (Initial m) combined capability esm _ (ap is_attach_request is) is
      (attach_ends s capability solo.next_vector combined esm m.tai (connect s.slot m.station m.enb_ue_id (untouched solo))
      (ap (λ (x : Solo). x.next_vector) (connect_solo s.slot m.station m.enb_ue_id (untouched solo))))
  entered_ends m _ is begins = absurd (cc begins)

  claimed_ends : (id : ℕ) (m : Entry (List ℕ)) (o : Heard (List ℕ)) → heard (initial_octets m.nas) ≡ o → is_attach_request o ≡ true
      → IsForgotten (serving.claimed o s id m (untouched solo)).solo
      ⊎ IsTaken s solo (Claim id m) (serving.claimed o s id m (untouched solo)).solo
  unfolding serving.claimed
  claimed_ends id m (heards.AttachRequest combined capability esm) is begins =
      taken_or_not s solo (Claim id m) combined capability esm _ (ap is_attach_request is) is
      (attach_ends s capability solo.next_vector combined esm m.tai (connect_on id m.station m.enb_ue_id (untouched solo))
      (ap (λ (x : Solo). x.next_vector) (connect_on_solo id m.station m.enb_ue_id (untouched solo))))
  claimed_ends id m _ is begins = absurd (cc begins)

pub attach_leaves : (s : Setting) (solo : Solo) (item : Item) → begins_attach item ≡ true
    → IsForgotten (solo_step s solo item).solo ⊎ IsTaken s solo item (solo_step s solo item).solo
unfolding solo_step row serving.initial serving.claim
attach_leaves s solo (Initial m) begins = entered_ends s solo m (heard (initial_octets m.nas)) refl begins
attach_leaves s solo (Claim id m) begins = claimed_ends s solo id m (heard (initial_octets m.nas)) refl begins
attach_leaves s solo _ begins = absurd (cc begins)
