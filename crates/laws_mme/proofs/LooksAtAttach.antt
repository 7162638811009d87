-- With another list of vectors that is the same where a step looks, the rows of an attach are the same.
use Rattle.std.proofs.Common.{◌≡◌, ℕ, ◌-◌, Bool, true, false, cond, List, Option, Some, None, Ok, Err, refl, ap, ◌∙◌}
use Rattle.std.specs.Prelude.{◌==◌, ◌&&◌, slice_get}
use Rattle.std.specs.Option.{option_map_or}
use Rattle.nas_elements.specs.Capability.{has_eia2}
use Rattle.s1ap_elements.specs.declared.phone.Tai.{Tai}
use Rattle.eps_keys.specs.Hmac.{kenb}
use Rattle.esm_machine.specs.declared.request.Requested.{Requested}
use Rattle.esm_machine.specs.declared.request.Requested.TheVariants.{Unreadable, Refused, Taken}
use Rattle.esm_machine.specs.Requests.{requested}
use Rattle.esm_machine.specs.Sessions.{asks_information}
use Rattle.identity_slots.specs.declared.profile.Vector.{Vector}
use Rattle.nas_security.specs.Accepting.{Acceptance}
use Rattle.mme_signalling.specs.declared.cause.EmmCause.TheVariants.{NetworkFailure, SynchFailure}
use Rattle.mme_signalling.specs.declared.heard.Heard.{Heard}
use Rattle.mme_signalling.specs.declared.heard.Heard.TheVariants as heards
use Rattle.mme_signalling.specs.Causes.{emm_cause_code}
use Rattle.mme_signalling.specs.Hearing.{heard}
use Rattle.emm_state.specs.declared.draft.Draft.{Draft}
use Rattle.emm_state.specs.declared.setting.Setting.{Setting}
use Rattle.emm_state.specs.declared.solo.Context.{Context}
use Rattle.emm_state.specs.declared.solo.Phase.TheVariants.{Authenticating}
use Rattle.emm_state.specs.Actions.{set_up, set_up_with, wipe}
use Rattle.emm_machine.specs.Attaching as attaching
use Rattle.laws_mme.specs.Challenges.{fails_to_synchronise, tells_synch_failure}
use Rattle.emm_machine.specs.Given.{having}

-- ---- choices

pub map_or : {K D : Type 0} (f g : K → D) (d : D) (o : Option K) → ((k : K) → f k ≡ g k) → option_map_or f o d ≡ option_map_or g o d
map_or f g d None h = refl
map_or f g d (Some k) h = h k

pub if_true : {D : Type 0} (x y z : D) (b : Bool) → (b ≡ true → x ≡ y) → cond b x z ≡ cond b y z
if_true x y z true h = h refl
if_true x y z false h = refl

pub if_false : {D : Type 0} (x y z : D) (b : Bool) → y ≡ z → cond b x y ≡ cond b x z
if_false x y z b h = ap (λ w. cond b x w) h

-- the same vector at a place
abbrev pub SameAt : Setting → List Vector → ℕ → Type 0
SameAt s vs n = slice_get vs n ≡ slice_get s.vectors n

module _ (s : Setting) (vs : List Vector) where
  abbrev t : Setting
  t = having vs s

  -- ---- the request

  challenge : (d : Draft) → SameAt s vs d.solo.next_vector → attaching.challenge t d ≡ attaching.challenge s d
  unfolding attaching.challenge
  challenge d same =
      ap (λ (o : Option Vector). option_map_or (λ v. attaching.challenged v d) o (attaching.attach_refused NetworkFailure None d)) same

  attach_by : (asked : Requested (List ℕ)) (combined : Bool) (capability : List ℕ) (tai : Tai) (d : Draft)
      → SameAt s vs d.solo.next_vector
      → attaching.attach_by asked t combined capability tai d ≡ attaching.attach_by asked s combined capability tai d
  unfolding attaching.attach_by attaching.asking
  attach_by Unreadable combined capability tai d same = refl
  attach_by (Refused esm) combined capability tai d same = refl
  attach_by Taken combined capability tai d same =
      if_true _ _ _ (has_eia2 capability) (λ has. challenge (attaching.asking combined capability tai d) same)

  pub attach : (combined : Bool) (capability esm : List ℕ) (tai : Tai) (d : Draft) → SameAt s vs d.solo.next_vector
      → attaching.attach t combined capability esm tai d ≡ attaching.attach s combined capability esm tai d
  unfolding attaching.attach attaching.requesting wipe
  attach combined capability esm tai d same =
      attach_by (requested (wipe d).solo.bearer esm) combined capability tai (attaching.requesting esm (wipe d)) same

  -- ---- a phone that is challenged

  response : (res : List ℕ) (d : Draft) → SameAt s vs (d.solo.next_vector - 1)
      → attaching.response t res d ≡ attaching.response s res d
  unfolding attaching.response
  response res d same = ap (λ (o : Option Vector). option_map_or (λ v. attaching.response_to v res d) o (Some d)) same

  failure : (cause : ℕ) (d : Draft) → ((cause == emm_cause_code SynchFailure) ≡ true → SameAt s vs d.solo.next_vector)
      → attaching.failure t cause d ≡ attaching.failure s cause d
  unfolding attaching.failure
  failure cause d same = if_true _ _ _ (cause == emm_cause_code SynchFailure) (λ is. challenge d (same is))

  authenticating : (m : Heard (List ℕ)) (d : Draft) → SameAt s vs (d.solo.next_vector - 1)
      → (tells_synch_failure m ≡ true → SameAt s vs d.solo.next_vector)
      → attaching.authenticating t m d ≡ attaching.authenticating s m d
  unfolding attaching.authenticating
  authenticating (heards.AuthenticationResponse res) d own next = response res d own
  authenticating (heards.AuthenticationFailure cause) d own next = ap Some (failure cause d next)
  authenticating (heards.DetachRequest switch_off) d own next = refl
  authenticating heards.Unasked d own next = refl
  authenticating (heards.Unreadable fault) d own next = refl
  authenticating _ d own next = refl

  pub in_authenticating : (nas : List ℕ) (d : Draft) → SameAt s vs (d.solo.next_vector - 1)
      → (fails_to_synchronise Authenticating (Some nas) ≡ true → SameAt s vs d.solo.next_vector)
      → attaching.in_authenticating t nas d ≡ attaching.in_authenticating s nas d
  unfolding attaching.in_authenticating
  in_authenticating nas d own next =
      if_true _ _ _ (attaching.is_plain nas)
      (λ plain. authenticating (heard nas) d own (λ told. next (ap (λ (b : Bool). b && tells_synch_failure (heard nas)) plain ∙ told)))

  -- ---- acceptance and security mode

  pub accept : (key : List ℕ) (d : Draft) → attaching.accept t key d ≡ attaching.accept s key d
  unfolding attaching.accept attaching.given_tmsi set_up_with set_up
  accept key d = refl

  secured : (x : Context) (count : ℕ) (d : Draft) → attaching.secured t x count d ≡ attaching.secured s x count d
  unfolding attaching.secured
  secured x count d =
      if_false _ _ _ (asks_information (attaching.keyed x count d).solo.bearer.request)
      (accept (kenb x.kasme count) (attaching.keyed x count d))

  secured_by : (r : Acceptance) (x : Context) (nas : List ℕ) (d : Draft)
      → attaching.secured_by r t x nas d ≡ attaching.secured_by r s x nas d
  unfolding attaching.secured_by
  secured_by (Ok found) x nas d =
      if_true _ _ _ (attaching.is_complete (heard found.1)) (λ is. secured (attaching.counted_up x found.0) found.0 d)
  secured_by (Err fault) x nas d = refl

  pub in_security_mode : (nas : List ℕ) (d : Draft) → attaching.in_security_mode t nas d ≡ attaching.in_security_mode s nas d
  unfolding attaching.in_security_mode
  in_security_mode nas d = map_or _ _ _ d.solo.context (λ x. secured_by _ x nas d)
