-- What follows from the definitions, over all octets.
use Rattle.std.specs.Prelude.{◌≡◌, ℕ, ◌≤◌, Bool, true, List, length, slice_index, Some, Ok}
use Rattle.nas_messages.specs.EsmMessages.{decoded_esm}
use Rattle.esm_machine.specs.declared.reaction.Reaction.TheVariants.{Informed, Answer}
use Rattle.esm_machine.specs.declared.request.Request.{Request}
use Rattle.esm_machine.specs.Reactions.{reaction}
use Rattle.esm_machine.specs.Requests.{after_request}
use Rattle.esm_machine.specs.Sent.{activation, activation_message}
use Rattle.esm_machine.specs.Sessions.{Session}

-- octets that spell the activation are read as it
abbrev pub ActivationIsRead : Type 0
ActivationIsRead = (session : Session) (apn address : List ℕ)
    → 1 ≤ length apn → length apn ≤ 63 → length address ≡ 4
    → decoded_esm (activation session apn address) ≡ Ok (activation_message session apn address)

-- a request that was taken is kept, whatever octets come
abbrev pub RequestStays : Type 0
RequestStays = (session : Session) (octets : List ℕ) (request : Request)
    → session.request ≡ Some request → (after_request session octets).request ≡ Some request

-- a message is answered in its own transaction
abbrev pub AnswerKeepsTransaction : Type 0
AnswerKeepsTransaction = (session : Session) (waiting : Bool) (octets answer : List ℕ)
    → reaction session waiting octets ≡ Answer answer → slice_index answer 1 ≡ slice_index octets 1

-- ESM information is taken only where it is awaited, in the transaction of the request that was taken
abbrev pub InformedIsAwaited : Type 0
InformedIsAwaited = (session : Session) (waiting : Bool) (octets : List ℕ)
    → reaction session waiting octets ≡ Informed
    → (waiting ≡ true) × (request : Request) × (session.request ≡ Some request) × (request.transaction ≡ slice_index octets 1)
