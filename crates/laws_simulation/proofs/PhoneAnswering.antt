-- What a phone answers to the network.
use Rattle.std.proofs.Common.{◌≡◌, ℕ, suc, ◌<◌, Bool, true, false, cond, List, [], ◌∷◌, find, Option, Some, None, Result, Ok, Err, inl, inr, refl}
use Rattle.per_streams.specs.Octet.{all_below}
use Rattle.eps_keys.specs.Same.{same_octets}
use Rattle.nas_elements.specs.declared.fault.NasFault.{NasFault}
use Rattle.nas_elements.specs.declared.identity.MobileIdentity.TheVariants as identity
use Rattle.nas_elements.specs.Digits.{is_imsi}
use Rattle.nas_elements.specs.Identities.{first_of}
use Rattle.nas_messages.specs.declared.emm_types.Direction.TheVariants.{Downlink}
use Rattle.nas_messages.specs.declared.emm_types.Emm.{Emm}
use Rattle.nas_messages.specs.declared.emm_types.Emm.TheVariants as emm
use Rattle.nas_messages.specs.declared.esm_types.Esm.{Esm}
use Rattle.nas_messages.specs.declared.esm_types.EsmBody.{EsmBody}
use Rattle.nas_messages.specs.declared.esm_types.EsmBody.TheVariants as esm
use Rattle.nas_messages.specs.declared.protection.SecurityHeader.TheVariants.{IntegrityProtected, NewContextCiphered}
use Rattle.nas_messages.specs.EsmMessages.{decoded_esm}
use Rattle.nas_messages.specs.Messages.{decoded_emm}
use Rattle.identity_slots.specs.declared.profile.Vector.{Vector}
use Rattle.sim_phone.specs.declared.registration.Registration.{Registration}
use Rattle.sim_phone.specs.Answering.{Card, challenge_saying, command_saying, esm_saying, in_use_headers, inner_saying, mobility_saying, mode_saying, new_context_headers, phone_answer, plain_saying, protected_answer, read_answer, session_saying, taken_into_use, vector_with, with_given_guti}
use Rattle.sim_phone.specs.Messages.{attach_complete_octets, detach_accept_octets, information_octets, mode_complete_octets, update_complete_octets}
use Rattle.sim_phone.specs.Protecting.{protected_saying, taken_under, with_context}
use Rattle.sim_phone.specs.Sides.{PhoneContextView}
use Rattle.laws_network.specs.KeyLaws.{integrity_key_below}
use Rattle.laws_simulation.specs.PhoneRanges.{AnswerInRange, AnswersInRange, PhoneContextInRange, PhoneContextInRangeIf, RegistrationInRange}
use Rattle.laws_simulation.proofs.GivenLaws.{NasLawsGiven}
use Rattle.laws_simulation.proofs.HeardOctets.{TakenWell, attach_guti_below, given_guti_well, taken_well, transaction_below, update_guti_below}
use Rattle.laws_simulation.proofs.PlainMessages.{attach_complete_sent, detach_accept_sent, failure_sent, identity_sent, information_sent, mode_complete_sent, response_sent, update_complete_sent}
use Rattle.laws_simulation.proofs.ProtectedForms.{SpokenWell, context_well, leaving_well, nothing_kept, protected_well, silent_well}

-- what the card holds
pub record CardInRange (card : Card) : Type 0 where
  pub imsi : is_imsi card.imsi ≡ true
  pub vectors : AnswersInRange card.vectors

-- ---- a challenge

abbrev FoundInRange : Option Vector → Type 0
FoundInRange None = Unit {0}
FoundInRange (Some v) = AnswerInRange v

found_either : (b : Bool) (v : Vector) (o : Option Vector) → AnswerInRange v → FoundInRange o → FoundInRange (cond b (Some v) o)
found_either true v o h k = h
found_either false v o h k = k

found_in_range : (test : Vector → Bool) (vs : List Vector) → AnswersInRange vs → FoundInRange (find test vs)
found_in_range test [] h = tt
found_in_range test (v ∷ vs) h =
    found_either (test v) v (find test vs) (h 0 v refl) (found_in_range test vs (λ place w at. h (suc place) w at))

challenge_well : NasLawsGiven → (o : Option Vector) (ksi : ℕ) (r : Registration) → FoundInRange o → RegistrationInRange r
    → SpokenWell (challenge_saying o ksi r)
challenge_well laws None ksi r h k = record { sent = inl (failure_sent laws); registration = k }
challenge_well laws (Some v) ksi r h k = record {
  sent = inl (response_sent laws v.xres h.some h.brief);
  registration = record { challenge = integrity_key_below v.kasme; context = k.context; guti = k.guti };
}

-- ---- messages that are taken plain, too

plain_well : NasLawsGiven → (card : Card) (r : Registration) (m : Emm (List ℕ)) → CardInRange card → RegistrationInRange r
    → SpokenWell (plain_saying card r m)
plain_well laws card r (emm.AuthenticationRequest m) c h =
    challenge_well laws (vector_with card.vectors m.rand) m.ksi r
    (found_in_range (λ v. same_octets v.rand m.rand) card.vectors c.vectors) h
plain_well laws card r emm.IdentityRequest c h =
    record { sent = inl (identity_sent laws (identity.Imsi card.imsi) c.imsi); registration = h }
plain_well laws card r emm.AuthenticationReject c h = record { sent = tt; registration = nothing_kept }
plain_well laws card r (emm.AttachReject m) c h = record { sent = tt; registration = nothing_kept }
plain_well laws card r (emm.TrackingAreaUpdateReject cause) c h = record { sent = tt; registration = nothing_kept }
plain_well laws card r (emm.ServiceReject cause) c h = record { sent = tt; registration = nothing_kept }
plain_well laws card r emm.DetachAccept c h = record { sent = tt; registration = nothing_kept }
plain_well laws card r _ c h = record { sent = tt; registration = h }

-- ---- messages under the context in use

session_well : NasLawsGiven → (r : Registration) (x : PhoneContextView) (transaction : ℕ) (body : EsmBody (List ℕ))
    → RegistrationInRange r → PhoneContextInRange x → transaction < 256 → SpokenWell (session_saying r x transaction body)
session_well laws r x transaction esm.InformationRequest h k low =
    protected_well laws r x IntegrityProtected (information_octets transaction) h k (inr (information_sent laws transaction low))
session_well laws r x transaction _ h k low = silent_well (with_context r x) (context_well r x h k)

esm_well : NasLawsGiven → (r : Registration) (x : PhoneContextView) (os : List ℕ) (read : Result (Esm (List ℕ)) NasFault)
    → decoded_esm os ≡ read → all_below 256 os ≡ true → RegistrationInRange r → PhoneContextInRange x
    → SpokenWell (esm_saying r x read)
esm_well laws r x os (Ok m) e b h k = session_well laws r x m.transaction m.body h k (transaction_below laws os m b e)
esm_well laws r x os (Err fault) e b h k = silent_well (with_context r x) (context_well r x h k)

mobility_well : NasLawsGiven → (card : Card) (r : Registration) (x : PhoneContextView) (os : List ℕ) (m : Emm (List ℕ))
    → decoded_emm Downlink os ≡ Ok m → all_below 256 os ≡ true → CardInRange card → RegistrationInRange r → PhoneContextInRange x
    → SpokenWell (mobility_saying card r x m)
mobility_well laws card r x os (emm.AttachAccept m) e b c h k =
    protected_well laws (with_given_guti r m.guti) x IntegrityProtected attach_complete_octets
    (given_guti_well r m.guti h (attach_guti_below laws os m b e)) k (inl (attach_complete_sent laws))
mobility_well laws card r x os (emm.TrackingAreaUpdateAccept m) e b c h k =
    protected_well laws (with_given_guti r m.guti) x IntegrityProtected update_complete_octets
    (given_guti_well r m.guti h (update_guti_below laws os m b e)) k (inl (update_complete_sent laws))
mobility_well laws card r x os emm.NetworkDetach e b c h k =
    leaving_well (protected_saying r x IntegrityProtected detach_accept_octets)
    (protected_well laws r x IntegrityProtected detach_accept_octets h k (inl (detach_accept_sent laws)))
mobility_well laws card r x os m e b c h k = plain_well laws card (with_context r x) m c (context_well r x h k)

inner_well : NasLawsGiven → (card : Card) (r : Registration) (x : PhoneContextView) (os : List ℕ)
    (read : Result (Emm (List ℕ)) NasFault)
    → decoded_emm Downlink os ≡ read → all_below 256 os ≡ true → CardInRange card → RegistrationInRange r → PhoneContextInRange x
    → SpokenWell (inner_saying card r x os read)
inner_well laws card r x os (Ok m) e b c h k = mobility_well laws card r x os m e b c h k
inner_well laws card r x os (Err fault) e b c h k = esm_well laws r x os (decoded_esm os) refl b h k

-- ---- the message that takes a context into use

mode_well : NasLawsGiven → (r : Registration) (x : PhoneContextView) (read : Result (Emm (List ℕ)) NasFault)
    → RegistrationInRange r → PhoneContextInRange x → SpokenWell (mode_saying r x read)
mode_well laws r x (Ok (emm.SecurityModeCommand m)) h k =
    let taken : RegistrationInRange (taken_into_use r x) = record { challenge = tt; context = k; guti = h.guti } in
    protected_well laws (taken_into_use r x) x NewContextCiphered mode_complete_octets taken k (inl (mode_complete_sent laws))
mode_well laws r x _ h k = silent_well r h

command_well : NasLawsGiven → (r : Registration) (o : Option (PhoneContextView × List ℕ)) → RegistrationInRange r → TakenWell o
    → SpokenWell (command_saying r o)
command_well laws r None h t = silent_well r h
command_well laws r (Some found) h t = mode_well laws r found.0 (decoded_emm Downlink found.1) h t.0

-- ---- any octets

first_context : (a b : Option PhoneContextView) → PhoneContextInRangeIf a → PhoneContextInRangeIf b
    → PhoneContextInRangeIf (first_of a b)
first_context None b h k = k
first_context (Some c) b h k = h

protected_answer_well : NasLawsGiven → (card : Card) (r : Registration) (os : List ℕ) (o : Option (PhoneContextView × List ℕ))
    → all_below 256 os ≡ true → CardInRange card → RegistrationInRange r → TakenWell o
    → SpokenWell (protected_answer card r os o)
protected_answer_well laws card r os (Some found) b c h t =
    inner_well laws card r found.0 found.1 (decoded_emm Downlink found.1) refl t.1 c h t.0
protected_answer_well laws card r os None b c h t =
    let candidate = first_of r.challenge r.context in
    command_well laws r (taken_under candidate new_context_headers os) h
    (taken_well candidate new_context_headers os (first_context r.challenge r.context h.challenge h.context) b)

read_well : NasLawsGiven → (card : Card) (r : Registration) (os : List ℕ) (read : Result (Emm (List ℕ)) NasFault)
    → all_below 256 os ≡ true → CardInRange card → RegistrationInRange r → SpokenWell (read_answer card r os read)
read_well laws card r os (Ok m) b c h = plain_well laws card r m c h
read_well laws card r os (Err fault) b c h =
    protected_answer_well laws card r os (taken_under r.context in_use_headers os) b c h
    (taken_well r.context in_use_headers os h.context b)

pub answer_well : NasLawsGiven → (card : Card) (r : Registration) (os : List ℕ) → all_below 256 os ≡ true → CardInRange card
    → RegistrationInRange r → SpokenWell (phone_answer card r os)
unfolding phone_answer
answer_well laws card r os b c h = read_well laws card r os (decoded_emm Downlink os) b c h
