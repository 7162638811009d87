-- Nothing plain is sent to a phone that is registered.
use Rattle.std.proofs.Common.{◌≡◌, ◌⊎◌, ℕ, true, false, inl, inr, List, [], ◌∷◌, All, Option, Some, None, Ok, refl, sym, ◌∙◌, ap, true≢false}
use Rattle.s1ap_pdus.specs.declared.pdu.Pdu.{Pdu}
use Rattle.s1ap_pdus.specs.Pdus.{decoded, encoded}
use Rattle.nas_messages.specs.declared.protection.SecurityHeader.{SecurityHeader}
use Rattle.mme_types.specs.Events.{Item}
use Rattle.emm_state.specs.declared.draft.Sealed.{Sealed}
use Rattle.emm_state.specs.declared.setting.Setting.{Setting}
use Rattle.emm_state.specs.declared.solo.Context.{Context}
use Rattle.emm_state.specs.declared.solo.Phase.{Phase}
use Rattle.emm_state.specs.declared.solo.Phase.TheVariants.{Deregistered, Authenticating, Updating, Registered}
use Rattle.emm_state.specs.declared.solo.Protection.TheVariants.{Plain}
use Rattle.emm_state.specs.declared.solo.Repeat.{Repeat}
use Rattle.emm_state.specs.declared.solo.Repeat.TheVariants as repeats
use Rattle.emm_state.specs.declared.solo.Solo.{Solo}
use Rattle.emm_state.specs.Actions.{is_registered, mac_of}
use Rattle.emm_machine.specs.Connected.{struck}
use Rattle.emm_machine.specs.Steps.{solo_step}
use Rattle.laws_subscriber.specs.Sound.{has_security_header}
use Rattle.laws_subscriber.specs.Unproved.{begins_attach}
use Rattle.laws_mme.specs.Holds.{Any, IsSealed, KeepsState, Says, sent_holds, state_holds}
use Rattle.laws_subscriber.specs.Keeps.{MaySend, is_open}
use Rattle.laws_mme.specs.Premises.{MayChallenge, is_under_way}
use Rattle.laws_mme.specs.Plain.{IsProtectedOrRefusal, NothingPlainIsSent, RepeatsNothingPlain, StaysWithoutPlain}
use Rattle.laws_mme.proofs.Wire.{form_has_header, in_acknowledge, in_downlink, in_indication, in_paging, in_release, in_setup, in_setup_with, of_none, of_one, same_message}

-- ---- what is to be sent again

struck_same : (station : ℕ) (repeat : Option Repeat) (nas : List ℕ) → struck station repeat ≡ Some (repeats.Nas Plain nas)
    → repeat ≡ Some (repeats.Nas Plain nas)
struck_same station None nas is = absurd (cc is)
struck_same station (Some (repeats.Nas protection kept)) nas is = is
struck_same station (Some (repeats.Paging es)) nas is = absurd (cc is)

under_way : (phase : Phase) → is_under_way phase ≡ true → is_registered phase ≡ true → ⊥
under_way Updating h is = absurd (cc h)
under_way Registered h is = absurd (cc h)
under_way _ h is = absurd (cc is)

-- (what it says as a record, so that it opens by itself)
record Without (x : Solo) : Type 0 where
  none : is_registered x.phase ≡ true → (nas : List ℕ) → x.repeat ≡ Some (repeats.Nas Plain nas) → ⊥

without : (s : Setting) (solo : Solo) (item : Item) → KeepsState s solo item Without
without s solo item = record {
  connection = λ c x may h. record { none = h.none };
  counted = λ n x h. record { none = h.none };
  context = λ c x h. record { none = h.none };
  counts = λ procedure reachable x h. record { none = h.none };
  wiped = λ x h. record { none = λ is nas at. absurd (cc at) };
  ended = λ x h. record { none = λ is nas at. absurd (cc at) };
  registers = λ reachable x h. record { none = λ is nas at. absurd (cc at) };
  updates = λ tai initial x from h. record { none = λ is nas at. absurd (cc at) };
  moves_on = λ phase x under h. record { none = λ is nas at. under_way phase under is };
  tmsi = λ x on h. record { none = h.none };
  bears = λ bearer x may h. record { none = h.none };
  asks = λ combined capability tai x asked from phase repeat h. record { none = h.none };
  challenges = λ v procedure x there may h. record { none = λ is nas at. absurd (cc is) };
  secures = λ c phase h. record { none = λ is nas at. absurd (cc is) };
  awaits = λ header nas procedure c x may told h. record { none = λ is other at. absurd (cc at) };
  pages = λ stations procedure is may h. record { none = λ registered nas at. absurd (cc at) };
  strikes = λ station x is h. record { none = λ registered nas at. h.none registered nas (struck_same station x.repeat nas at) };
}

pub stays_without_plain : StaysWithoutPlain
stays_without_plain s solo [] h = h
stays_without_plain s solo (item ∷ items) h =
    stays_without_plain s (solo_step s solo item).solo items (state_holds s solo item (without s solo item) (record { none = h })).none

-- ---- what is sent

-- a phone that is registered can be protected
open_is_not : (phase : Phase) → is_registered phase ≡ true → is_open phase ≡ true → ⊥
open_is_not Deregistered registered is = absurd (cc registered)
open_is_not Authenticating registered is = absurd (cc registered)
open_is_not _ registered is = absurd (cc is)

module _ (written : (m : Pdu (List ℕ)) (os : List ℕ) → encoded m ≡ Some os → decoded os ≡ Ok m) (s : Setting) (solo : Solo) (item : Item)
    (none : RepeatsNothingPlain solo) (registered : is_registered solo.phase ≡ true) (begins : begins_attach item ≡ false) where
  abbrev IsProtected : List ℕ → Type 0
  IsProtected nas = (nas ≡ []) ⊎ (has_security_header nas ≡ true)

  -- nothing plain is said
  never_plain : (nas : List ℕ) (x : Solo) → MaySend solo item nas ⊎ MayChallenge solo item x → ⊥
  never_plain nas x may = elim may [
    | inl sends ↦ elim sends [
      | inl attaches ↦ true≢false (sym attaches ∙ begins)
      | inr rest ↦ elim rest [
        | inl open_to ↦ open_is_not solo.phase registered open_to
        | inr again ↦ none registered nas again.1
      ]
    ]
    | inr challenges ↦ elim challenges.1 [
      | inl asks ↦ true≢false (sym asks.begins ∙ begins)
      | inr fails ↦ open_is_not solo.phase registered (ap is_open fails.0.challenged)
    ]
  ]

  form_protected : (context : Option Context) (header : SecurityHeader) (nas : List ℕ) (sealed : Sealed)
      → IsSealed context header nas sealed → IsProtected sealed.form
  form_protected None header nas sealed by = inl (ap (λ (z : Sealed). z.form) by)
  form_protected (Some x) header nas sealed by =
      inr (ap (λ (z : Sealed). has_security_header z.form) by ∙ form_has_header (mac_of x) x.security.down_next header nas)

  says_protected : Says s solo item Any (IsProtectedOrRefusal s solo item)
  says_protected = record {
    plain = λ nas x k may told h at octets is m reads. absurd (never_plain nas x may);
    protected = λ header nas x k sealed may told h by at octets is m reads.
        inl (of_one written IsProtected _ m octets sealed.form is reads (in_downlink k sealed.form) (form_protected x.context header nas sealed by));
    setup = λ key x k h at octets is m reads.
        inl (of_none written IsProtected _ m octets is reads (in_setup s.network s.profile x.asked.capability k key));
    setup_with = λ key nas x k sealed told h by at octets is m reads.
        inl (of_one written IsProtected _ m octets sealed.form is reads (in_setup_with s.network s.profile x.asked.capability k key sealed.form)
        (form_protected x.context _ nas sealed by));
    released = λ cause x k h at octets is m reads. inl (of_none written IsProtected _ m octets is reads (in_release k.id k.enb_ue_id cause));
    refusal = λ m nas from told h octets is message reads. inr (record {
      request = m;
      came = from;
      to = refl;
      nas = nas;
      message_is = sym (same_message written _ message octets is reads);
    });
    turned = λ m from h octets is message reads. inl (of_none written IsProtected _ message octets is reads (in_release _ m.enb_ue_id _));
    indication = λ station message from may octets is m reads.
        inl (of_none written IsProtected _ m octets is reads (in_indication message may));
    acknowledged = λ m c x from has h octets is message reads.
        inl (of_none written IsProtected _ message octets is reads (in_acknowledge _ _ _));
    page = λ t es x may given h i d lt octets is m reads. inl (of_none written IsProtected _ m octets is reads (in_paging s.network s.profile.imsi t x.tai));
  }

  sent_protected : All (IsProtectedOrRefusal s solo item) (solo_step s solo item).sent
  sent_protected = sent_holds s solo item says_protected

pub nothing_plain_is_sent : ((m : Pdu (List ℕ)) (os : List ℕ) → encoded m ≡ Some os → decoded os ≡ Ok m) → NothingPlainIsSent
nothing_plain_is_sent written s solo item none registered begins = sent_protected written s solo item none registered begins
