-- Nothing plain to a phone that is registered (TS 24.301 clause 4.4.4.2).
use Rattle.std.specs.Prelude.{◌≡◌, ◌⊎◌, ℕ, true, false, List, [], All, Some, Ok}
use Rattle.s1ap_pdus.specs.declared.pdu.Pdu.{Pdu}
use Rattle.s1ap_pdus.specs.Pdus.{decoded}
use Rattle.mme_types.specs.declared.octets.Answer.{Answer}
use Rattle.mme_types.specs.declared.event.Entry.{Entry}
use Rattle.mme_types.specs.Events.{Item, Initial}
use Rattle.mme_signalling.specs.Pdus.{downlink}
use Rattle.emm_state.specs.declared.setting.Setting.{Setting}
use Rattle.emm_state.specs.declared.solo.Protection.TheVariants.{Plain}
use Rattle.emm_state.specs.declared.solo.Repeat.TheVariants as repeats
use Rattle.emm_state.specs.declared.solo.Solo.{Solo}
use Rattle.emm_state.specs.Actions.{is_registered}
use Rattle.emm_machine.specs.Steps.{solo_after, solo_step}
use Rattle.laws_subscriber.specs.Marked.{nas_within}
use Rattle.laws_subscriber.specs.Sound.{has_security_header}
use Rattle.laws_subscriber.specs.Unproved.{begins_attach}
use Rattle.laws_mme.specs.Holds.{next_connection}

-- nothing plain is to be sent again to a phone that is registered
abbrev pub RepeatsNothingPlain : Solo → Type 0
RepeatsNothingPlain solo =
    is_registered solo.phase ≡ true → (nas : List ℕ) → solo.repeat ≡ Some (repeats.Nas Plain nas) → ⊥

-- so it stays over every run
abbrev pub StaysWithoutPlain : Type 0
StaysWithoutPlain =
    (s : Setting) (solo : Solo) (items : List Item) → RepeatsNothingPlain solo → RepeatsNothingPlain (solo_after s solo items)

-- the answer to a request that is refused: it goes where the request came from, on the slot's next id
pub record IsRefusal (s : Setting) (solo : Solo) (item : Item) (a : Answer) (message : Pdu (List ℕ)) : Type 0 where
  pub request : Entry (List ℕ)
  pub came : item ≡ Initial request
  pub to : a.station ≡ request.station
  pub nas : List ℕ
  pub message_is : message ≡ downlink (next_connection s solo request) nas

-- each NAS message in what is sent has a security header, and be it an empty one; or the message is that answer
abbrev pub IsProtectedOrRefusal : Setting → Solo → Item → Answer → Type 0
IsProtectedOrRefusal s solo item a =
    (m : Pdu (List ℕ)) → decoded a.octets ≡ Ok m
    → All (λ nas. (nas ≡ []) ⊎ (has_security_header nas ≡ true)) (nas_within m) ⊎ IsRefusal s solo item a m

-- to a phone that is registered, but for an ATTACH REQUEST, which begins anew whoever sends it
abbrev pub NothingPlainIsSent : Type 0
NothingPlainIsSent =
    (s : Setting) (solo : Solo) (item : Item) → RepeatsNothingPlain solo → is_registered solo.phase ≡ true
    → begins_attach item ≡ false → All (IsProtectedOrRefusal s solo item) (solo_step s solo item).sent
