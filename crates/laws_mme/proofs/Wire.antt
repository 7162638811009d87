-- What is in the octets of what is sent: NAS messages, and the header of each.
use Rattle.std.proofs.Common.{◌≡◌, ℕ, ◌==◌, true, false, inl, inr, List, [], ◌∷◌, All, Some, None, Ok, refl, sym, ◌∙◌, ap, subst, true≢false, arith}
use Rattle.std.proofs.lemmas.List.Elements.{All-cons, All-nil}
use Rattle.std.proofs.lemmas.Bool.Decides.{nat_tests}
use Rattle.std.proofs.lemmas.Result.{IfOk-at_ok}
use Rattle.s1ap_causes.specs.declared.cause.Cause.{Cause}
use Rattle.s1ap_elements.specs.declared.phone.Tai.{Tai}
use Rattle.s1ap_pdus.specs.declared.pdu.Pdu.{Pdu}
use Rattle.s1ap_pdus.specs.Pdus.{decoded, encoded}
use Rattle.nas_messages.specs.declared.protection.SecurityHeader.{SecurityHeader}
use Rattle.nas_messages.specs.declared.protection.SecurityHeader.TheVariants.{IntegrityProtected, IntegrityProtectedCiphered, NewContext, NewContextCiphered}
use Rattle.nas_messages.specs.Protection.{header_of, protected_form}
use Rattle.nas_security.specs.Context.{Mac}
use Rattle.nas_security.specs.Protecting.{protected_by}
use Rattle.identity_slots.specs.declared.profile.Profile.{Profile}
use Rattle.mme_types.specs.declared.connection.Connection.{Connection}
use Rattle.mme_types.specs.declared.network.Network.{Network}
use Rattle.mme_signalling.specs.Pdus.{context_setup, downlink, error_indication, paging, path_switch_acknowledge, path_switch_failure, release_command}
use Rattle.laws_subscriber.specs.Marked.{nas_within}
use Rattle.laws_subscriber.specs.Sound.{has_security_header}
use Rattle.laws_mme.specs.Premises.{IsIndication}
use Rattle.laws_mme.specs.Bidding.{has_new_context_header}

-- ---- the NAS messages in what is built

pub in_downlink : (k : Connection) (nas : List ℕ) → nas_within (downlink k nas) ≡ nas ∷ []
unfolding downlink
in_downlink k nas = refl

pub in_setup : (n : Network) (p : Profile) (capability : List ℕ) (k : Connection) (key : List ℕ)
    → nas_within (context_setup n p capability k key None) ≡ []
unfolding context_setup
in_setup n p capability k key = refl

pub in_setup_with : (n : Network) (p : Profile) (capability : List ℕ) (k : Connection) (key nas : List ℕ)
    → nas_within (context_setup n p capability k key (Some nas)) ≡ nas ∷ []
unfolding context_setup
in_setup_with n p capability k key nas = refl

pub in_release : (id enb_ue_id : ℕ) (cause : Cause) → nas_within (release_command id enb_ue_id cause) ≡ []
unfolding release_command
in_release id enb_ue_id cause = refl

pub in_acknowledge : (k : Connection) (hop : List ℕ) (count : ℕ) → nas_within (path_switch_acknowledge k hop count) ≡ []
unfolding path_switch_acknowledge
in_acknowledge k hop count = refl

pub in_paging : (n : Network) (imsi : List ℕ) (tmsi : ℕ) (tai : Tai) → nas_within (paging n imsi tmsi tai) ≡ []
unfolding paging
in_paging n imsi tmsi tai = refl

in_error : (id enb_ue_id : ℕ) (cause : Cause) → nas_within (error_indication id enb_ue_id cause) ≡ []
unfolding error_indication
in_error id enb_ue_id cause = refl

in_failure : (id enb_ue_id : ℕ) (cause : Cause) → nas_within (path_switch_failure id enb_ue_id cause) ≡ []
unfolding path_switch_failure
in_failure id enb_ue_id cause = refl

pub in_indication : (message : Pdu (List ℕ)) → IsIndication message → nas_within message ≡ []
in_indication message is = elim is.3 [
  | inl error ↦ ap nas_within error ∙ in_error is.0 is.1 is.2
  | inr failure ↦ ap nas_within failure ∙ in_failure is.0 is.1 is.2
]

-- ---- what is decoded is what was written

module _ (written : (m : Pdu (List ℕ)) (os : List ℕ) → encoded m ≡ Some os → decoded os ≡ Ok m) where
  pub same_message : (m n : Pdu (List ℕ)) (os : List ℕ) → encoded m ≡ Some os → decoded os ≡ Ok n → m ≡ n
  same_message m n os is reads = IfOk-at_ok (λ (x : Pdu (List ℕ)). m ≡ x) (sym (written m os is) ∙ reads) refl

  -- what holds of the NAS messages in a message holds of those in its octets
  pub of_none : (P : List ℕ → Type 0) (m n : Pdu (List ℕ)) (os : List ℕ) → encoded m ≡ Some os → decoded os ≡ Ok n
      → nas_within m ≡ [] → All P (nas_within n)
  of_none P m n os is reads none =
      subst (All P) (sym none ∙ ap nas_within (same_message m n os is reads)) (All-nil P)

  pub of_one : (P : List ℕ → Type 0) (m n : Pdu (List ℕ)) (os nas : List ℕ) → encoded m ≡ Some os → decoded os ≡ Ok n
      → nas_within m ≡ nas ∷ [] → P nas → All P (nas_within n)
  of_one P m n os nas is reads one h =
      subst (All P) (sym one ∙ ap nas_within (same_message m n os is reads)) (All-cons P nas [] h (All-nil P))

-- ---- headers

pub form_has_header : (mac : Mac) (count : ℕ) (header : SecurityHeader) (nas : List ℕ)
    → has_security_header (protected_by mac count header nas) ≡ true
unfolding protected_by protected_form header_of
form_has_header mac count IntegrityProtected nas = refl
form_has_header mac count IntegrityProtectedCiphered nas = refl
form_has_header mac count NewContext nas = refl
form_has_header mac count NewContextCiphered nas = refl

-- under a context in use it isn't the header of a new one
pub in_use_is_not_new : (mac : Mac) (count : ℕ) (nas : List ℕ)
    → has_new_context_header (protected_by mac count IntegrityProtectedCiphered nas) ≡ false
unfolding protected_by protected_form
in_use_is_not_new mac count nas = refl

pub protected_is_not_new : (mac : Mac) (count : ℕ) (nas : List ℕ)
    → has_new_context_header (protected_by mac count IntegrityProtected nas) ≡ false
unfolding protected_by protected_form
protected_is_not_new mac count nas = refl

pub ciphered_is_not_new : (mac : Mac) (count : ℕ) (nas : List ℕ)
    → has_new_context_header (protected_by mac count NewContextCiphered nas) ≡ false
unfolding protected_by protected_form
ciphered_is_not_new mac count nas = refl

-- a plain message has no such header
is_new : (first : ℕ) (rest : List ℕ) → (first == 55) ≡ true → has_security_header (first ∷ rest) ≡ true
unfolding header_of
is_new first rest is =
    let same : first ≡ 55 = grind (arith, nat_tests) in
    ap (λ (n : ℕ). has_security_header (n ∷ rest)) same

pub plain_is_not_new : (nas : List ℕ) → has_security_header nas ≡ false → has_new_context_header nas ≡ true → ⊥
plain_is_not_new [] plain is = absurd (cc is)
plain_is_not_new (first ∷ rest) plain is = true≢false (sym (is_new first rest is) ∙ plain)
