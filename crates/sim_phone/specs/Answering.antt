-- What a phone answers to the network's NAS messages.
use Rattle.std.specs.Prelude.{ℕ, List, [], ◌∷◌, find, Option, Some, None, Result, Ok, Err}
use Rattle.eps_keys.specs.Hmac.{nas_integrity_key}
use Rattle.eps_keys.specs.Same.{same_octets}
use Rattle.nas_elements.specs.declared.fault.NasFault.{NasFault}
use Rattle.nas_elements.specs.declared.identity.MobileIdentity.TheVariants as identity
use Rattle.nas_elements.specs.Identities.{first_of, guti_of}
use Rattle.nas_messages.specs.declared.emm_types.Direction.TheVariants.{Downlink}
use Rattle.nas_messages.specs.declared.emm_types.Emm.{Emm}
use Rattle.nas_messages.specs.declared.emm_types.Emm.TheVariants as emm
use Rattle.nas_messages.specs.declared.esm_types.Esm.{Esm}
use Rattle.nas_messages.specs.declared.esm_types.EsmBody.{EsmBody}
use Rattle.nas_messages.specs.declared.esm_types.EsmBody.TheVariants as esm
use Rattle.nas_messages.specs.declared.protection.SecurityHeader.{SecurityHeader}
use Rattle.nas_messages.specs.declared.protection.SecurityHeader.TheVariants.{IntegrityProtected, IntegrityProtectedCiphered, NewContext, NewContextCiphered}
use Rattle.nas_messages.specs.EsmMessages.{decoded_esm}
use Rattle.nas_messages.specs.Messages.{decoded_emm}
use Rattle.identity_slots.specs.declared.profile.Vector.{Vector}
use Rattle.sim_phone.specs.declared.registration.Registration.{Registration}
use Rattle.sim_phone.specs.Messages.{attach_complete_octets, detach_accept_octets, failure_octets, identity_octets_of, information_octets, mode_complete_octets, response_octets, unregistered, update_complete_octets}
use Rattle.sim_phone.specs.Protecting.{Spoken, leaving, protected_saying, silent, taken_under, with_context}
use Rattle.sim_phone.specs.Sides.{PhoneContextView}

-- what a phone is: its IMSI and its vectors
pub record Card : Type 0 where
  pub imsi : List ℕ
  pub vectors : List Vector

-- ---- authentication (TS 24.301 clause 5.4.2)

-- the first vector with this RAND
abbrev pub vector_with : List Vector → List ℕ → Option Vector
vector_with vectors rand = find (λ v. same_octets v.rand rand) vectors

-- by the vector a RESPONSE with its XRES; without one the FAILURE with the cause 20
abbrev pub authentication_answer : Option Vector → List ℕ
authentication_answer (Some v) = response_octets v.xres
authentication_answer None = failure_octets

-- the context under a vector's keys, which no count was spent of
abbrev pub fresh_context : Vector → ℕ → PhoneContextView
fresh_context v ksi = record { integrity = nas_integrity_key v.kasme; ksi = ksi; down_next = 0; up_last = None }

abbrev pub after_challenge : Option Vector → ℕ → Registration → Registration
after_challenge (Some v) ksi r = record r { challenge = Some (fresh_context v ksi) }
after_challenge None ksi r = r

abbrev pub challenge_saying : Option Vector → ℕ → Registration → Spoken
challenge_saying v ksi r = record { octets = Some (authentication_answer v); registration = after_challenge v ksi r }

-- ---- messages that a phone takes plain, too (TS 24.301 clause 4.4.4.2)

abbrev pub plain_saying : Card → Registration → Emm (List ℕ) → Spoken
plain_saying card r (emm.AuthenticationRequest m) = challenge_saying (vector_with card.vectors m.rand) m.ksi r
plain_saying card r emm.IdentityRequest = record { octets = Some (identity_octets_of (identity.Imsi card.imsi)); registration = r }
plain_saying card r emm.AuthenticationReject = silent unregistered
plain_saying card r (emm.AttachReject m) = silent unregistered
plain_saying card r (emm.TrackingAreaUpdateReject cause) = silent unregistered
plain_saying card r (emm.ServiceReject cause) = silent unregistered
plain_saying card r emm.DetachAccept = silent unregistered
plain_saying card r _ = silent r

-- ---- messages under the context in use

-- the GUTI that a message gives, or that of before
abbrev pub with_given_guti : Registration → Option (List ℕ) → Registration
with_given_guti r None = r
with_given_guti r (Some os) = record r { guti = first_of (guti_of os) r.guti }

abbrev pub session_saying : Registration → PhoneContextView → ℕ → EsmBody (List ℕ) → Spoken
session_saying r c transaction esm.InformationRequest = protected_saying r c IntegrityProtected (information_octets transaction)
session_saying r c transaction _ = silent (with_context r c)

abbrev pub esm_saying : Registration → PhoneContextView → Result (Esm (List ℕ)) NasFault → Spoken
esm_saying r c (Ok m) = session_saying r c m.transaction m.body
esm_saying r c (Err fault) = silent (with_context r c)

abbrev pub mobility_saying : Card → Registration → PhoneContextView → Emm (List ℕ) → Spoken
mobility_saying card r c (emm.AttachAccept m) =
    protected_saying (with_given_guti r m.guti) c IntegrityProtected attach_complete_octets
mobility_saying card r c (emm.TrackingAreaUpdateAccept m) =
    protected_saying (with_given_guti r m.guti) c IntegrityProtected update_complete_octets
mobility_saying card r c emm.NetworkDetach = leaving (protected_saying r c IntegrityProtected detach_accept_octets)
mobility_saying card r c m = plain_saying card (with_context r c) m

abbrev pub inner_saying : Card → Registration → PhoneContextView → List ℕ → Result (Emm (List ℕ)) NasFault → Spoken
inner_saying card r c os (Ok m) = mobility_saying card r c m
inner_saying card r c os (Err fault) = esm_saying r c (decoded_esm os)

-- the context after it, and the message
abbrev pub context_saying : Card → Registration → PhoneContextView × List ℕ → Spoken
context_saying card r found = inner_saying card r found.0 found.1 (decoded_emm Downlink found.1)

-- ---- the message that takes a context into use (TS 24.301 clause 5.4.3)

abbrev pub taken_into_use : Registration → PhoneContextView → Registration
taken_into_use r c = record { challenge = None; context = Some c; guti = r.guti }

abbrev pub mode_saying : Registration → PhoneContextView → Result (Emm (List ℕ)) NasFault → Spoken
mode_saying r c (Ok (emm.SecurityModeCommand m)) = protected_saying (taken_into_use r c) c NewContextCiphered mode_complete_octets
mode_saying r c _ = silent r

-- under the challenge's context, where one waits, else under that in use
abbrev pub command_saying : Registration → Option (PhoneContextView × List ℕ) → Spoken
command_saying r None = silent r
command_saying r (Some found) = mode_saying r found.0 (decoded_emm Downlink found.1)

-- ---- any octets

abbrev pub in_use_headers : List SecurityHeader
in_use_headers = IntegrityProtected ∷ IntegrityProtectedCiphered ∷ []

abbrev pub new_context_headers : List SecurityHeader
new_context_headers = NewContext ∷ NewContextCiphered ∷ []

abbrev pub protected_answer : Card → Registration → List ℕ → Option (PhoneContextView × List ℕ) → Spoken
protected_answer card r os (Some found) = context_saying card r found
protected_answer card r os None = command_saying r (taken_under (first_of r.challenge r.context) new_context_headers os)

abbrev pub read_answer : Card → Registration → List ℕ → Result (Emm (List ℕ)) NasFault → Spoken
read_answer card r os (Ok m) = plain_saying card r m
read_answer card r os (Err fault) = protected_answer card r os (taken_under r.context in_use_headers os)

-- a plain message, or one under the context in use, or one that takes a context into use
unfoldable pub phone_answer : Card → Registration → List ℕ → Spoken
phone_answer card r os = read_answer card r os (decoded_emm Downlink os)
