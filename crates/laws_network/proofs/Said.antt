-- The NAS messages that a phone is sent are such as a network sends, step by step.
use Rattle.std.proofs.Common.{◌≡◌, ℕ, inl, inr, List, [], ◌∷◌, All, Option, Some, None, Ok, refl, sym, ◌∙◌, ap, subst}
use Rattle.std.proofs.lemmas.List.Elements.{All-cons, All-nil}
use Rattle.std.proofs.lemmas.Result.{IfOk-at_ok}
use Rattle.s1ap_causes.specs.declared.cause.Cause.{Cause}
use Rattle.s1ap_elements.specs.declared.phone.Tai.{Tai}
use Rattle.s1ap_pdus.specs.declared.pdu.Pdu.{Pdu}
use Rattle.s1ap_pdus.specs.Pdus.{decoded, encoded}
use Rattle.nas_messages.specs.declared.protection.SecurityHeader.{SecurityHeader}
use Rattle.identity_slots.specs.declared.profile.Profile.{Profile}
use Rattle.mme_types.specs.declared.connection.Connection.{Connection}
use Rattle.mme_types.specs.declared.network.Network.{Network}
use Rattle.mme_types.specs.declared.octets.Answer.{Answer}
use Rattle.mme_types.specs.Events.{Item}
use Rattle.mme_signalling.specs.Pdus.{context_setup, downlink, error_indication, paging, path_switch_acknowledge, path_switch_failure, release_command}
use Rattle.emm_state.specs.declared.draft.Sealed.{Sealed}
use Rattle.emm_state.specs.declared.setting.Setting.{Setting}
use Rattle.emm_state.specs.declared.solo.Context.{Context}
use Rattle.emm_state.specs.declared.solo.Repeat.{Repeat}
use Rattle.emm_state.specs.declared.solo.Repeat.TheVariants as repeats
use Rattle.emm_state.specs.declared.solo.Solo.{Solo}
use Rattle.emm_state.specs.Actions.{mac_of}
use Rattle.emm_machine.specs.Connected.{struck}
use Rattle.emm_machine.specs.Steps.{solo_after, solo_step}
use Rattle.emm_machine.specs.Words.{fresh_solo}
use Rattle.laws_subscriber.specs.Marked.{nas_within}
use Rattle.laws_mme.specs.Holds.{IsSealed, KeepsState, Says, state_holds, step_holds}
use Rattle.laws_mme.specs.Premises.{IsAgain, IsIndication, IsToldAs}
use Rattle.laws_mme.specs.Network.{IsOfNetwork, of_authentication_request}
use Rattle.laws_network.specs.Said.{IsNasOfNetwork, NothingSaid, SaidPlain, SaidProtected, SaysOfNetwork}

-- ---- the NAS messages in what is built

in_downlink : (k : Connection) (nas : List ℕ) → nas_within (downlink k nas) ≡ nas ∷ []
unfolding downlink
in_downlink k nas = refl

in_setup : (n : Network) (p : Profile) (capability : List ℕ) (k : Connection) (key : List ℕ)
    → nas_within (context_setup n p capability k key None) ≡ []
unfolding context_setup
in_setup n p capability k key = refl

in_setup_with : (n : Network) (p : Profile) (capability : List ℕ) (k : Connection) (key nas : List ℕ)
    → nas_within (context_setup n p capability k key (Some nas)) ≡ nas ∷ []
unfolding context_setup
in_setup_with n p capability k key nas = refl

in_release : (id enb_ue_id : ℕ) (cause : Cause) → nas_within (release_command id enb_ue_id cause) ≡ []
unfolding release_command
in_release id enb_ue_id cause = refl

in_acknowledge : (k : Connection) (hop : List ℕ) (count : ℕ) → nas_within (path_switch_acknowledge k hop count) ≡ []
unfolding path_switch_acknowledge
in_acknowledge k hop count = refl

in_paging : (n : Network) (imsi : List ℕ) (tmsi : ℕ) (tai : Tai) → nas_within (paging n imsi tmsi tai) ≡ []
unfolding paging
in_paging n imsi tmsi tai = refl

in_error : (id enb_ue_id : ℕ) (cause : Cause) → nas_within (error_indication id enb_ue_id cause) ≡ []
unfolding error_indication
in_error id enb_ue_id cause = refl

in_failure : (id enb_ue_id : ℕ) (cause : Cause) → nas_within (path_switch_failure id enb_ue_id cause) ≡ []
unfolding path_switch_failure
in_failure id enb_ue_id cause = refl

in_indication : (message : Pdu (List ℕ)) → IsIndication message → nas_within message ≡ []
in_indication message is = elim is.3 [
  | inl error ↦ ap nas_within error ∙ in_error is.0 is.1 is.2
  | inr failure ↦ ap nas_within failure ∙ in_failure is.0 is.1 is.2
]

-- ---- what is to be sent again

IsRepeatOf : Option Repeat → Type 0
IsRepeatOf (Some (repeats.Nas protection nas)) = IsOfNetwork nas
IsRepeatOf _ = Unit {0}

record RepeatsOfNetwork (x : Solo) : Type 0 where
  kept : IsRepeatOf x.repeat

struck_of : (station : ℕ) (o : Option Repeat) → IsRepeatOf o → IsRepeatOf (struck station o)
unfolding IsRepeatOf
struck_of station None h = tt
struck_of station (Some (repeats.Nas protection nas)) h = h
struck_of station (Some (repeats.Paging es)) h = tt

again_of : (o : Option Repeat) (nas : List ℕ) → IsRepeatOf o → IsAgain o nas → IsOfNetwork nas
unfolding IsRepeatOf
again_of None nas h again = absurd again
again_of (Some (repeats.Nas protection kept)) nas h again = subst IsOfNetwork (sym again) h
again_of (Some (repeats.Paging es)) nas h again = absurd again

told_of : (solo : Solo) (nas : List ℕ) → RepeatsOfNetwork solo → IsToldAs solo nas → IsOfNetwork nas
told_of solo nas h told = elim told [
  | inl now ↦ now
  | inr again ↦ again_of solo.repeat nas h.kept again
]

keeps_repeats : (s : Setting) (solo : Solo) (item : Item) → KeepsState s solo item RepeatsOfNetwork
unfolding IsRepeatOf
keeps_repeats s solo item = record {
  connection = λ c x may h. record { kept = h.kept };
  counted = λ n x h. record { kept = h.kept };
  context = λ c x h. record { kept = h.kept };
  counts = λ procedure reachable x h. record { kept = h.kept };
  wiped = λ x h. record { kept = tt };
  ended = λ x h. record { kept = tt };
  registers = λ reachable x h. record { kept = tt };
  updates = λ tai initial x from h. record { kept = tt };
  moves_on = λ phase x under h. record { kept = h.kept };
  tmsi = λ x on h. record { kept = h.kept };
  bears = λ bearer x may h. record { kept = h.kept };
  asks = λ combined capability tai x asked from phase repeat h. record { kept = h.kept };
  challenges = λ v procedure x there may h. record { kept = of_authentication_request _ v.rand v.autn };
  secures = λ c phase h. record { kept = h.kept };
  awaits = λ header nas procedure c x may told h. record { kept = told };
  pages = λ stations procedure is may h. record { kept = tt };
  strikes = λ station x is h. record { kept = struck_of station x.repeat h.kept };
}

-- ---- what is said

form_of : (context : Option Context) (header : SecurityHeader) (nas : List ℕ) (sealed : Sealed) → IsSealed context header nas sealed
    → IsOfNetwork nas → IsNasOfNetwork sealed.form
form_of None header nas sealed by told = NothingSaid (ap (λ (z : Sealed). z.form) by)
form_of (Some x) header nas sealed by told =
    SaidProtected (mac_of x) x.security.down_next header nas told (ap (λ (z : Sealed). z.form) by)

module _ (written : (m : Pdu (List ℕ)) (os : List ℕ) → encoded m ≡ Some os → decoded os ≡ Ok m) where
  within : (m n : Pdu (List ℕ)) (os : List ℕ) → encoded m ≡ Some os → decoded os ≡ Ok n → nas_within m ≡ nas_within n
  within m n os is reads =
      ap nas_within (IfOk-at_ok (λ (x : Pdu (List ℕ)). m ≡ x) (sym (written m os is) ∙ reads) refl)

  none_in : (m n : Pdu (List ℕ)) (os : List ℕ) → encoded m ≡ Some os → decoded os ≡ Ok n → nas_within m ≡ []
      → All IsNasOfNetwork (nas_within n)
  none_in m n os is reads none = subst (All IsNasOfNetwork) (sym none ∙ within m n os is reads) (All-nil IsNasOfNetwork)

  one_in : (m n : Pdu (List ℕ)) (os nas : List ℕ) → encoded m ≡ Some os → decoded os ≡ Ok n → nas_within m ≡ nas ∷ []
      → IsNasOfNetwork nas → All IsNasOfNetwork (nas_within n)
  one_in m n os nas is reads one h =
      subst (All IsNasOfNetwork) (sym one ∙ within m n os is reads) (All-cons IsNasOfNetwork nas [] h (All-nil IsNasOfNetwork))

  abbrev SaysSo : Answer → Type 0
  SaysSo a = (m : Pdu (List ℕ)) → decoded a.octets ≡ Ok m → All IsNasOfNetwork (nas_within m)

  module _ (s : Setting) (solo : Solo) (item : Item) (kept : RepeatsOfNetwork solo) where
    says_so : Says s solo item RepeatsOfNetwork SaysSo
    says_so = record {
      plain = λ nas x k may told h at octets is m reads.
          one_in _ m octets nas is reads (in_downlink k nas) (SaidPlain (told_of solo nas kept told));
      protected = λ header nas x k sealed may told h by at octets is m reads.
          one_in _ m octets sealed.form is reads (in_downlink k sealed.form)
          (form_of x.context header nas sealed by (told_of solo nas kept told));
      setup = λ key x k h at octets is m reads. none_in _ m octets is reads (in_setup s.network s.profile x.asked.capability k key);
      setup_with = λ key nas x k sealed told h by at octets is m reads.
          one_in _ m octets sealed.form is reads (in_setup_with s.network s.profile x.asked.capability k key sealed.form)
          (form_of x.context _ nas sealed by told);
      released = λ cause x k h at octets is m reads. none_in _ m octets is reads (in_release k.id k.enb_ue_id cause);
      refusal = λ r nas from told h octets is m reads. one_in _ m octets nas is reads (in_downlink _ nas) (SaidPlain told);
      turned = λ r from h octets is m reads. none_in _ m octets is reads (in_release _ r.enb_ue_id _);
      indication = λ station message from may octets is m reads. none_in message m octets is reads (in_indication message may);
      acknowledged = λ e c x from has h octets is m reads. none_in _ m octets is reads (in_acknowledge _ _ _);
      page = λ t es x may given h k d lt octets is m reads.
          none_in _ m octets is reads (in_paging s.network s.profile.imsi t x.tai);
    }

    said_so : All SaysSo (solo_step s solo item).sent
    said_so = (step_holds s solo item (keeps_repeats s solo item) says_so kept).sent

  repeats_along : (s : Setting) (solo : Solo) (items : List Item) → RepeatsOfNetwork solo → RepeatsOfNetwork (solo_after s solo items)
  repeats_along s solo [] h = h
  repeats_along s solo (item ∷ items) h =
      repeats_along s (solo_step s solo item).solo items (state_holds s solo item (keeps_repeats s solo item) h)

  begins_so : RepeatsOfNetwork fresh_solo
  unfolding IsRepeatOf
  begins_so = record { kept = tt }

  pub says_of_network : SaysOfNetwork
  says_of_network s items item = said_so s (solo_after s fresh_solo items) item (repeats_along s fresh_solo items begins_so)
