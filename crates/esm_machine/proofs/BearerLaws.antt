-- Laws of requests, activations and reactions.
use Rattle.std.proofs.Common.{◌≡◌, ℕ, ◌≤◌, ◌/◌, Bool, true, false, cond, eqb, ltb, List, [], length, slice_index, Option, Some, None, Result, Ok, Err, refl, sym, ap, ◌∙◌, arith}
use Rattle.std.proofs.lemmas.Bool.{eqb-true}
use Rattle.nas_elements.specs.declared.fault.NasFault.{NasFault}
use Rattle.nas_elements.specs.declared.fault.NasFault.TheVariants as faults
use Rattle.nas_elements.specs.Optionals.{rule_of}
use Rattle.nas_messages.specs.declared.esm_types.Esm.{Esm}
use Rattle.nas_messages.specs.declared.esm_types.EsmBody.{EsmBody}
use Rattle.nas_messages.specs.declared.esm_types.EsmBody.TheVariants.{ActivateRequest, ActivateAccept, ActivateReject, ConnectivityRequest, ConnectivityReject, DisconnectRequest, DisconnectReject, InformationRequest, InformationResponse, EsmStatus}
use Rattle.nas_messages.specs.EsmMessages.{TypedBody, of_type, typed_body, SpellsBody, IsWritableEsm, decoded_esm}
use Rattle.nas_messages.specs.EsmLaws.{esm_again, esm_takes, written_esm}
use Rattle.esm_machine.specs.declared.cause.EsmCause.TheVariants.{NotCompatible}
use Rattle.esm_machine.specs.declared.reaction.Reaction.{Reaction}
use Rattle.esm_machine.specs.declared.reaction.Reaction.TheVariants.{Nothing, Informed, Answer}
use Rattle.esm_machine.specs.declared.reading.Connectivity.{Connectivity}
use Rattle.esm_machine.specs.declared.request.Request.{Request}
use Rattle.esm_machine.specs.Laws.{ActivationIsRead, AnswerKeepsTransaction, InformedIsAwaited, RequestStays}
use Rattle.esm_machine.specs.Reactions.{informed, reaction, reaction_by, reaction_to, reaction_to_fault}
use Rattle.esm_machine.specs.Reading.{asked}
use Rattle.esm_machine.specs.Requests.{after_request, request_after}
use Rattle.esm_machine.specs.Sent.{activation, activation_message, address_cause, connectivity_reject, disconnect_reject, status}
use Rattle.esm_machine.specs.Sessions.{Session, is_dual, transaction_of}

-- ---- what is sent to activate a bearer

writable : (dual : Bool) (transaction : ℕ) (apn address : List ℕ) → 1 ≤ length apn → length apn ≤ 63 → length address ≡ 4
    → IsWritableEsm (record { bearer = 5; transaction = transaction; body = ActivateRequest (record { apn = apn; address = address; cause = address_cause dual }) })
unfolding rule_of
writable true transaction apn address some short four =
    (omega arith, ((tt, (tt, ((some, short), (tt, (tt, (four, tt)))))), (refl, tt)))
writable false transaction apn address some short four =
    (omega arith, ((tt, (tt, ((some, short), (tt, (tt, (four, tt)))))), (tt, tt)))

pub is_read : ActivationIsRead
unfolding activation
is_read session apn address some short four =
    esm_again (activation_message session apn address) (activation session apn address)
    (written_esm (activation_message session apn address) (writable (is_dual session.request) (transaction_of session.request) apn address some short four))

-- ---- the request that was taken

first_stays : (request : Request) (wanted : Option Connectivity) → request_after (Some request) wanted ≡ Some request
first_stays request None = refl
first_stays request (Some wanted) = refl

pub stays : RequestStays
unfolding after_request
stays session octets request e = rw e (first_stays request (asked octets))

-- ---- the transaction of an answer

octets_in : Reaction (List ℕ) → List ℕ
octets_in Nothing = []
octets_in Informed = []
octets_in (Answer octets) = octets

answer_is : (sent answer : List ℕ) → Answer sent ≡ Answer answer → sent ≡ answer
unfolding octets_in
answer_is sent answer e = ap octets_in e

answer_has : (sent answer : List ℕ) (transaction : ℕ) → slice_index sent 1 ≡ transaction → Answer sent ≡ Answer answer
    → slice_index answer 1 ≡ transaction
answer_has sent answer transaction h e = ap (λ (os : List ℕ). slice_index os 1) (sym (answer_is sent answer e)) ∙ h

informed_has : (waiting right : Bool) (bearer transaction : ℕ) (answer : List ℕ)
    → cond waiting (cond right Informed Nothing) (Answer (status NotCompatible bearer transaction)) ≡ Answer answer
    → slice_index answer 1 ≡ transaction
unfolding status
informed_has true true bearer transaction answer e = absurd cc
informed_has true false bearer transaction answer e = absurd cc
informed_has false right bearer transaction answer e = answer_has _ answer transaction refl e

response_has : (request : Option Request) (waiting : Bool) (bearer transaction : ℕ) (answer : List ℕ)
    → informed request waiting bearer transaction ≡ Answer answer → slice_index answer 1 ≡ transaction
response_has None waiting bearer transaction answer e = informed_has waiting false bearer transaction answer e
response_has (Some request) waiting bearer transaction answer e =
    informed_has waiting (eqb request.transaction transaction) bearer transaction answer e

message_has : (request : Option Request) (waiting : Bool) (bearer transaction : ℕ) (body : EsmBody (List ℕ)) (answer : List ℕ)
    → reaction_to request waiting bearer transaction body ≡ Answer answer → slice_index answer 1 ≡ transaction
unfolding status connectivity_reject disconnect_reject
message_has request waiting bearer transaction (ActivateRequest m) answer e = answer_has _ answer transaction refl e
message_has request waiting bearer transaction ActivateAccept answer e = answer_has _ answer transaction refl e
message_has request waiting bearer transaction (ActivateReject cause) answer e = answer_has _ answer transaction refl e
message_has request waiting bearer transaction (ConnectivityRequest request_type pdn_type information) answer e =
    answer_has _ answer transaction refl e
message_has request waiting bearer transaction (ConnectivityReject cause) answer e = answer_has _ answer transaction refl e
message_has request waiting bearer transaction (DisconnectRequest linked) answer e = answer_has _ answer transaction refl e
message_has request waiting bearer transaction (DisconnectReject cause) answer e = answer_has _ answer transaction refl e
message_has request waiting bearer transaction InformationRequest answer e = answer_has _ answer transaction refl e
message_has request waiting bearer transaction InformationResponse answer e =
    response_has request waiting bearer transaction answer e
message_has request waiting bearer transaction (EsmStatus cause) answer e = absurd cc

fault_has : (bearer transaction : ℕ) (fault : NasFault) (answer : List ℕ)
    → reaction_to_fault bearer transaction fault ≡ Answer answer → slice_index answer 1 ≡ transaction
unfolding status
fault_has bearer transaction faults.TooShort answer e = absurd cc
fault_has bearer transaction faults.Mandatory answer e = answer_has _ answer transaction refl e
fault_has bearer transaction faults.UnknownType answer e = answer_has _ answer transaction refl e
fault_has bearer transaction faults.OptionalPart answer e = answer_has _ answer transaction refl e
fault_has bearer transaction faults.NoMemory answer e = absurd cc

-- a message's transaction is its second octet
second_in : (bearer transaction : ℕ) (body : TypedBody) (octets : List ℕ) → SpellsBody bearer transaction body octets
    → transaction ≡ slice_index octets 1
second_in bearer transaction (of_type t v) octets s = sym (ap (λ (os : List ℕ). slice_index os 1) s.1)

second_of : (octets : List ℕ) (m : Esm (List ℕ)) → decoded_esm octets ≡ Ok m → m.transaction ≡ slice_index octets 1
second_of octets m e = second_in m.bearer m.transaction (typed_body m.body) octets (esm_takes octets m e)

reading_has : (session : Session) (waiting : Bool) (octets answer : List ℕ) (read : Result (Esm (List ℕ)) NasFault)
    → decoded_esm octets ≡ read
    → reaction_by session waiting octets read ≡ Answer answer → slice_index answer 1 ≡ slice_index octets 1
reading_has session waiting octets answer (Ok m) was e =
    message_has session.request waiting m.bearer m.transaction m.body answer e ∙ second_of octets m was
reading_has session waiting octets answer (Err fault) was e =
    fault_has (slice_index octets 0 / 16) (slice_index octets 1) fault answer e

octets_have : (session : Session) (waiting : Bool) (octets answer : List ℕ) (short : Bool)
    → cond short Nothing (reaction_by session waiting octets (decoded_esm octets)) ≡ Answer answer
    → slice_index answer 1 ≡ slice_index octets 1
octets_have session waiting octets answer true e = absurd cc
octets_have session waiting octets answer false e = reading_has session waiting octets answer (decoded_esm octets) refl e

pub keeps_transaction : AnswerKeepsTransaction
unfolding reaction
keeps_transaction session waiting octets answer e = octets_have session waiting octets answer (ltb (length octets) 3) e

-- ---- when ESM information is taken

abbrev Awaited : Option Request → Bool → ℕ → Type 0
Awaited taken waiting transaction =
    (waiting ≡ true) × (request : Request) × (taken ≡ Some request) × (request.transaction ≡ transaction)

matches : (request : Request) (transaction : ℕ) (right : Bool) → eqb request.transaction transaction ≡ right
    → cond {A = Reaction (List ℕ)} right Informed Nothing ≡ Informed → Awaited (Some request) true transaction
matches request transaction true was e = (refl, request, refl, eqb-true _ _ was)
matches request transaction false was e = absurd cc

response_awaited : (taken : Option Request) (waiting : Bool) (bearer transaction : ℕ)
    → informed taken waiting bearer transaction ≡ Informed → Awaited taken waiting transaction
response_awaited None true bearer transaction e = absurd cc
response_awaited None false bearer transaction e = absurd cc
response_awaited (Some request) true bearer transaction e = matches request transaction (eqb request.transaction transaction) refl e
response_awaited (Some request) false bearer transaction e = absurd cc

message_awaited : (taken : Option Request) (waiting : Bool) (bearer transaction : ℕ) (body : EsmBody (List ℕ))
    → reaction_to taken waiting bearer transaction body ≡ Informed → Awaited taken waiting transaction
message_awaited taken waiting bearer transaction (ActivateRequest m) e = absurd cc
message_awaited taken waiting bearer transaction ActivateAccept e = absurd cc
message_awaited taken waiting bearer transaction (ActivateReject cause) e = absurd cc
message_awaited taken waiting bearer transaction (ConnectivityRequest request_type pdn_type information) e = absurd cc
message_awaited taken waiting bearer transaction (ConnectivityReject cause) e = absurd cc
message_awaited taken waiting bearer transaction (DisconnectRequest linked) e = absurd cc
message_awaited taken waiting bearer transaction (DisconnectReject cause) e = absurd cc
message_awaited taken waiting bearer transaction InformationRequest e = absurd cc
message_awaited taken waiting bearer transaction InformationResponse e = response_awaited taken waiting bearer transaction e
message_awaited taken waiting bearer transaction (EsmStatus cause) e = absurd cc

fault_awaited : (taken : Option Request) (waiting : Bool) (bearer transaction : ℕ) (fault : NasFault)
    → reaction_to_fault bearer transaction fault ≡ Informed → Awaited taken waiting transaction
fault_awaited taken waiting bearer transaction faults.TooShort e = absurd cc
fault_awaited taken waiting bearer transaction faults.Mandatory e = absurd cc
fault_awaited taken waiting bearer transaction faults.UnknownType e = absurd cc
fault_awaited taken waiting bearer transaction faults.OptionalPart e = absurd cc
fault_awaited taken waiting bearer transaction faults.NoMemory e = absurd cc

reading_awaited : (session : Session) (waiting : Bool) (octets : List ℕ) (read : Result (Esm (List ℕ)) NasFault)
    → decoded_esm octets ≡ read
    → reaction_by session waiting octets read ≡ Informed → Awaited session.request waiting (slice_index octets 1)
reading_awaited session waiting octets (Ok m) was e =
    let a = message_awaited session.request waiting m.bearer m.transaction m.body e in
    (a.0, a.1, a.2, a.3 ∙ second_of octets m was)
reading_awaited session waiting octets (Err fault) was e =
    fault_awaited session.request waiting (slice_index octets 0 / 16) (slice_index octets 1) fault e

octets_awaited : (session : Session) (waiting : Bool) (octets : List ℕ) (short : Bool)
    → cond short Nothing (reaction_by session waiting octets (decoded_esm octets)) ≡ Informed
    → Awaited session.request waiting (slice_index octets 1)
octets_awaited session waiting octets true e = absurd cc
octets_awaited session waiting octets false e = reading_awaited session waiting octets (decoded_esm octets) refl e

pub is_awaited : InformedIsAwaited
unfolding reaction
is_awaited session waiting octets e = octets_awaited session waiting octets (ltb (length octets) 3) e
