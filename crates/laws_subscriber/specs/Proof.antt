-- Registered only by proof of the key: a challenge by one of the slot's vectors, its expected response, and a message under its key
-- with the new context's header, since the phone was last deregistered (TS 24.301 clauses 5.4.2, 5.4.3; TS 33.401 clause 6.1).
use Rattle.std.specs.Prelude.{◌≡◌, ◌≢◌, ℕ, ◌%◌, true, List, [], ◌∷◌, ◌++◌, slice_get, Option, Some, None, Ok}
use Rattle.s1ap_pdus.specs.Pdus.{encoded}
use Rattle.nas_messages.specs.declared.protection.SecurityHeader.TheVariants.{NewContextCiphered}
use Rattle.eps_keys.specs.Eia2.{eia2}
use Rattle.eps_keys.specs.Hmac.{nas_integrity_key}
use Rattle.nas_security.specs.Accepting.{accepted}
use Rattle.identity_slots.specs.declared.profile.Vector.{Vector}
use Rattle.mme_types.specs.declared.connection.Connection.{Connection}
use Rattle.mme_types.specs.declared.event.UeBody.{UeBody}
use Rattle.mme_types.specs.declared.event.UeBody.TheVariants.{Uplink}
use Rattle.mme_types.specs.declared.octets.Answer.{Answer}
use Rattle.mme_types.specs.Answers.{answer_of}
use Rattle.mme_types.specs.Events.{Item, Message}
use Rattle.mme_signalling.specs.declared.heard.Heard.TheVariants as heards
use Rattle.mme_signalling.specs.Hearing.{heard}
use Rattle.mme_signalling.specs.Messages.{authentication_request}
use Rattle.mme_signalling.specs.Pdus.{downlink}
use Rattle.emm_state.specs.declared.draft.Draft.{Draft}
use Rattle.emm_state.specs.declared.setting.Setting.{Setting}
use Rattle.emm_state.specs.declared.solo.Context.{Context}
use Rattle.emm_state.specs.declared.solo.Phase.TheVariants.{Deregistered}
use Rattle.emm_state.specs.declared.solo.Solo.{Solo}
use Rattle.emm_machine.specs.Steps.{solo_after, solo_step}
use Rattle.laws_subscriber.specs.Sound.{IsSound, is_past_proof}

-- the NAS octets of UPLINK NAS TRANSPORT
abbrev pub nas_of_body : UeBody (List ℕ) → Option (List ℕ)
nas_of_body (Uplink nas tai) = Some nas
nas_of_body _ = None

abbrev pub uplink_nas : Item → Option (List ℕ)
uplink_nas (Message m) = nas_of_body m.body
uplink_nas _ = None

-- the last that a step sends is AUTHENTICATION REQUEST by the vector at a place, to the phone's connection
abbrev pub Challenges : ℕ → Vector → Draft → Type 0
Challenges place v d =
    (k : Connection) × (earlier : List Answer) × (d.solo.connection ≡ Some k)
    × (d.sent ≡ earlier ++ answer_of k.station None (encoded (downlink k (authentication_request (place % 7) v.rand v.autn))))

-- AUTHENTICATION RESPONSE with what the vector expects
abbrev pub Responds : Vector → Item → Type 0
Responds v item = (nas : List ℕ) × (uplink_nas item ≡ Some nas) × (heard nas ≡ heards.AuthenticationResponse v.xres)

-- SECURITY MODE COMPLETE under the vector's key, with the header of a new context
abbrev pub Completes : Vector → Item → Type 0
Completes v item =
    (nas : List ℕ) × (inner : List ℕ) × (count : ℕ) × (last : Option ℕ) × (uplink_nas item ≡ Some nas)
    × (accepted (eia2 (nas_integrity_key v.kasme)) last (NewContextCiphered ∷ []) nas ≡ Ok (count, inner))
    × (heard inner ≡ heards.SecurityModeComplete)

-- after each of the items the phone is not deregistered
abbrev pub NeverDeregistered : Setting → Solo → List Item → Type 0
NeverDeregistered s solo [] = Unit {0}
NeverDeregistered s solo (item ∷ items) =
    ((solo_step s solo item).solo.phase ≢ Deregistered) × NeverDeregistered s (solo_step s solo item).solo items

-- over the items the phone has proved that it has the key of the vector at a place
pub record IsProved (s : Setting) (solo : Solo) (items : List Item) (place : ℕ) : Type 0 where
  pub vector : Vector
  pub there : slice_get s.vectors place ≡ Some vector
  pub before : List Item
  pub challenge : Item
  pub between : List Item
  pub response : Item
  pub waiting : List Item
  pub completion : Item
  pub since : List Item
  pub whole : items ≡ before ++ challenge ∷ between ++ response ∷ waiting ++ completion ∷ since
  pub challenged : Challenges place vector (solo_step s (solo_after s solo before) challenge)
  pub responded : Responds vector response
  pub completed : Completes vector completion
  pub throughout : NeverDeregistered s (solo_after s solo before) (challenge ∷ between ++ response ∷ waiting ++ completion ∷ since)

-- who was deregistered and is past the proof has proved itself, with the key of the context that stands
abbrev pub RegisteredByProof : Type 0
RegisteredByProof =
    (s : Setting) (solo : Solo) (items : List Item) → IsSound s solo → solo.phase ≡ Deregistered
    → is_past_proof (solo_after s solo items).phase ≡ true
    → (x : Context) × ((solo_after s solo items).context ≡ Some x) × IsProved s solo items x.place
