-- Which NAS messages have a security header: no plain one that is sent, and every protected form.
use Rattle.std.proofs.Common.{◌≡◌, ℕ, true, false, cond, List, [], ◌∷◌, filter, Option, Some, refl, ap}
use Rattle.eps_keys.specs.Eia2.{eia2}
use Rattle.identity_slots.specs.declared.profile.Vector.{Vector}
use Rattle.nas_messages.specs.declared.protection.SecurityHeader.{SecurityHeader}
use Rattle.nas_messages.specs.declared.protection.SecurityHeader.TheVariants.{IntegrityProtected, IntegrityProtectedCiphered, NewContext, NewContextCiphered}
use Rattle.nas_messages.specs.Protection.{header_of, protected_form}
use Rattle.nas_security.specs.Context.{Mac}
use Rattle.nas_security.specs.Protecting.{protected_by}
use Rattle.mme_signalling.specs.declared.cause.EmmCause.{EmmCause}
use Rattle.mme_signalling.specs.Messages.{attach_reject, authentication_reject, authentication_request, detach_accept, emm_status, service_reject, update_reject}
use Rattle.emm_state.specs.declared.solo.Context.{Context}
use Rattle.emm_state.specs.Actions.{mac_of}
use Rattle.laws_subscriber.specs.Marked.{AreFormsUnder}
use Rattle.laws_subscriber.specs.Sound.{IsOfVector, has_security_header}

-- ---- plain messages

pub plain_attach_reject : (cause : EmmCause) (esm : Option (List ℕ)) → has_security_header (attach_reject cause esm) ≡ false
unfolding attach_reject header_of
plain_attach_reject cause esm = refl

pub plain_authentication_request : (ksi : ℕ) (rand autn : List ℕ)
    → has_security_header (authentication_request ksi rand autn) ≡ false
unfolding authentication_request header_of
plain_authentication_request ksi rand autn = refl

pub plain_authentication_reject : has_security_header authentication_reject ≡ false
unfolding authentication_reject header_of
plain_authentication_reject = refl

pub plain_detach_accept : has_security_header detach_accept ≡ false
unfolding detach_accept header_of
plain_detach_accept = refl

pub plain_emm_status : (cause : EmmCause) → has_security_header (emm_status cause) ≡ false
unfolding emm_status header_of
plain_emm_status cause = refl

pub plain_service_reject : (cause : EmmCause) → has_security_header (service_reject cause) ≡ false
unfolding service_reject header_of
plain_service_reject cause = refl

pub plain_update_reject : (cause : EmmCause) → has_security_header (update_reject cause) ≡ false
unfolding update_reject header_of
plain_update_reject cause = refl

-- ---- protected forms

form_has_header : (mac : Mac) (count : ℕ) (header : SecurityHeader) (nas : List ℕ)
    → has_security_header (protected_by mac count header nas) ≡ true
unfolding protected_by protected_form header_of
form_has_header mac count IntegrityProtected nas = refl
form_has_header mac count IntegrityProtectedCiphered nas = refl
form_has_header mac count NewContext nas = refl
form_has_header mac count NewContextCiphered nas = refl

-- the protected form under a context is one under its vector
pub form_is_under : (vectors : List Vector) (x : Context) (v : Vector) (count : ℕ) (header : SecurityHeader) (nas : List ℕ)
    → IsOfVector vectors x v
    → AreFormsUnder vectors (Some (record { place = x.place; count = count })) (filter has_security_header (protected_by (mac_of x) count header nas ∷ []))
form_is_under vectors x v count header nas of =
    let form = protected_by (mac_of x) count header nas in (
      form,
      ap (λ b. cond b (form ∷ []) []) (form_has_header (mac_of x) count header nas),
      (v, header, nas, of.there, ap (λ key. protected_by (eia2 key) count header nas) of.integrity),
    )

pub plain_is_none : (nas : List ℕ) → has_security_header nas ≡ false → filter has_security_header (nas ∷ []) ≡ []
plain_is_none nas plain = ap (λ b. cond b (nas ∷ []) []) plain
