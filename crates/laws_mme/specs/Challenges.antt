-- What a challenge costs: a vector, which an ATTACH REQUEST or a synch failure takes, and nothing else (TS 33.401 clause 6.1.1).
use Rattle.std.specs.Prelude.{◌≡◌, ◌≢◌, ◌⊎◌, ◌≤◌, ℕ, ◌+◌, ◌==◌, ◌&&◌, ◌||◌, Bool, true, false, if◌then◌else◌, List, [], ◌∷◌, length, slice_get, Option, Some}
use Rattle.identity_slots.specs.declared.profile.Vector.{Vector}
use Rattle.mme_types.specs.Events.{Item}
use Rattle.mme_signalling.specs.declared.cause.EmmCause.TheVariants.{SynchFailure}
use Rattle.mme_signalling.specs.declared.heard.Heard.{Heard}
use Rattle.mme_signalling.specs.declared.heard.Heard.TheVariants as heards
use Rattle.mme_signalling.specs.Causes.{emm_cause_code}
use Rattle.mme_signalling.specs.Hearing.{heard}
use Rattle.emm_state.specs.declared.setting.Setting.{Setting}
use Rattle.emm_state.specs.declared.solo.Phase.{Phase}
use Rattle.emm_state.specs.declared.solo.Phase.TheVariants.{Deregistered, Authenticating}
use Rattle.emm_state.specs.declared.solo.Solo.{Solo}
use Rattle.emm_machine.specs.Attaching.{is_plain}
use Rattle.emm_machine.specs.Steps.{solo_after, solo_step}
use Rattle.laws_subscriber.specs.Proof.{uplink_nas}
use Rattle.laws_subscriber.specs.Unproved.{begins_attach}

-- ---- what may take a vector

-- AUTHENTICATION FAILURE with the cause synch failure (TS 24.301 clause 9.9.3.9)
abbrev pub tells_synch_failure : Heard (List ℕ) → Bool
tells_synch_failure (heards.AuthenticationFailure cause) = cause == emm_cause_code SynchFailure
tells_synch_failure _ = false

-- told plainly on the phone's own association while its challenge is out (TS 24.301 clause 5.4.2.6 e)
abbrev pub fails_to_synchronise : Phase → Option (List ℕ) → Bool
fails_to_synchronise Authenticating (Some nas) = is_plain nas && tells_synch_failure (heard nas)
fails_to_synchronise _ _ = false

abbrev pub may_challenge : Solo → Item → Bool
may_challenge solo item = begins_attach item || fails_to_synchronise solo.phase (uplink_nas item)

-- ---- at a step

-- one vector is spent: the next that is provisioned
pub record SpendsOne (s : Setting) (solo : Solo) (item : Item) : Type 0 where
  pub asked : may_challenge solo item ≡ true
  pub vector : Vector
  pub there : slice_get s.vectors solo.next_vector ≡ Some vector
  pub next : (solo_step s solo item).solo.next_vector ≡ solo.next_vector + 1

abbrev pub VectorsAreSpentSo : Type 0
VectorsAreSpentSo =
    (s : Setting) (solo : Solo) (item : Item)
    → ((solo_step s solo item).solo.next_vector ≡ solo.next_vector) ⊎ SpendsOne s solo item

-- an ATTACH REQUEST that isn't refused spends one, and where none is left it is refused
abbrev pub AttachSpendsOne : Type 0
AttachSpendsOne =
    (s : Setting) (solo : Solo) (item : Item) → begins_attach item ≡ true → (solo_step s solo item).solo.phase ≢ Deregistered
    → SpendsOne s solo item

-- ---- over a run

-- how many of a list of items may take a vector
abbrev pub challenges_asked : Setting → Solo → List Item → ℕ
challenges_asked s solo [] = 0
challenges_asked s solo (item ∷ items) =
    (if may_challenge solo item then 1 else 0) + challenges_asked s (solo_step s solo item).solo items

-- no more vectors are spent than were asked for, nor than there are
pub record SpendsNoMore (s : Setting) (solo : Solo) (items : List Item) : Type 0 where
  pub never_back : solo.next_vector ≤ (solo_after s solo items).next_vector
  pub asked : (solo_after s solo items).next_vector ≤ solo.next_vector + challenges_asked s solo items
  pub there : solo.next_vector ≤ length s.vectors → (solo_after s solo items).next_vector ≤ length s.vectors

abbrev pub VectorsOverRuns : Type 0
VectorsOverRuns = (s : Setting) (solo : Solo) (items : List Item) → SpendsNoMore s solo items
