-- What is made of octets that are heard is in range: the octets after a header, the parts of an ATTACH REQUEST, and what is asked
-- for and answered of session management.
use Rattle.std.proofs.Common.{◌≡◌, ℕ, ◌+◌, ◌*◌, ◌/◌, ◌^◌, ◌<◌, Bool, true, false, cond, ltb, eqb, List, [], ◌∷◌, ◌++◌, length, slice_index, Option, Some, None, Result, Ok, Err, refl, subst, arith}
use Rattle.std.specs.Prelude.{option_map}
use Rattle.std.proofs.lemmas.Bool.{and_from, and_parts, ltb-true}
use Rattle.per_streams.specs.Octet.{all_below}
use Rattle.nas_elements.specs.declared.fault.NasFault.{NasFault}
use Rattle.nas_elements.specs.declared.fault.NasFault.TheVariants as faults
use Rattle.nas_messages.specs.declared.emm_types.AttachRequest.{AttachRequest}
use Rattle.nas_messages.specs.declared.emm_types.Direction.{Direction}
use Rattle.nas_messages.specs.declared.emm_types.Direction.TheVariants.{Uplink}
use Rattle.nas_messages.specs.declared.emm_types.Emm.{Emm}
use Rattle.nas_messages.specs.declared.emm_types.Emm.TheVariants as emm
use Rattle.nas_messages.specs.declared.esm_types.Esm.{Esm}
use Rattle.nas_messages.specs.declared.esm_types.EsmBody.{EsmBody}
use Rattle.nas_messages.specs.declared.esm_types.EsmBody.TheVariants as bodies
use Rattle.nas_messages.specs.declared.protection.Protected.{Protected}
use Rattle.nas_messages.specs.declared.protection.SecurityHeader.{SecurityHeader}
use Rattle.nas_messages.specs.EsmMessages.{SpellsBody, SpellsEsm, TypedBody, decoded_esm, esm_code_of, of_type, typed_body}
use Rattle.nas_messages.specs.Messages.{SpellsEmm, decoded_emm}
use Rattle.nas_messages.specs.Protection.{header_of, protected_from, split}
use Rattle.nas_security.specs.Accepting.{Acceptance, accepted, accepted_parts, accepted_under, is_allowed}
use Rattle.nas_security.specs.Context.{Mac}
use Rattle.nas_security.specs.Counts.{estimate}
use Rattle.eps_keys.specs.declared.direction.DirectionBit.TheVariants as directions
use Rattle.eps_keys.specs.Same.{same_octets}
use Rattle.esm_machine.specs.declared.reaction.Reaction.{Reaction}
use Rattle.esm_machine.specs.declared.reaction.Reaction.TheVariants as reactions
use Rattle.esm_machine.specs.declared.reading.Connectivity.{Connectivity}
use Rattle.esm_machine.specs.declared.request.Request.{Request}
use Rattle.esm_machine.specs.declared.request.Requested.{Requested}
use Rattle.esm_machine.specs.declared.request.Requested.TheVariants.{Unreadable, Refused, Taken}
use Rattle.esm_machine.specs.Reactions.{reaction, reaction_by, reaction_to, reaction_to_fault}
use Rattle.esm_machine.specs.Reading.{asked, asked_by, asked_in}
use Rattle.esm_machine.specs.Requests.{after_request, request_after, request_taken, requested, requested_after}
use Rattle.esm_machine.specs.Sessions.{Session, is_transaction_of, transaction_of}
use Rattle.mme_signalling.specs.declared.heard.Heard.{Heard}
use Rattle.mme_signalling.specs.declared.heard.Heard.TheVariants as heards
use Rattle.mme_signalling.specs.Hearing.{heard, heard_of, initial_octets, inner_octets, is_initial_header, sorted}
use Rattle.laws_network.specs.NasLaws.{below_at, below_drop, brief_connectivity_reject, brief_disconnect_reject, brief_esm_status}
use Rattle.laws_network.specs.Ranges.{IsBrief}

-- ---- after a header

abbrev PartsInRange : Option (Protected (List ℕ)) → Type 0
PartsInRange None = Unit {0}
PartsInRange (Some p) = all_below 256 p.message ≡ true

parts_if : (b : Bool) (os : List ℕ) (o : Option SecurityHeader) → all_below 256 os ≡ true
    → PartsInRange (cond b (option_map (λ header. protected_from header os) o) None)
parts_if false os o e = tt
parts_if true os None e = tt
parts_if true os (Some header) e = below_drop 6 os e

parts_in_range : (os : List ℕ) → all_below 256 os ≡ true → PartsInRange (split os)
unfolding split
parts_in_range os e = parts_if _ os (header_of (slice_index os 0 / 16)) e

inner_in_range : (b : Bool) (os message : List ℕ) → all_below 256 os ≡ true → all_below 256 message ≡ true
    → all_below 256 (cond b message os) ≡ true
inner_in_range true os message e f = f
inner_in_range false os message e f = e

initial_parts : (os : List ℕ) (o : Option (Protected (List ℕ))) → all_below 256 os ≡ true → PartsInRange o
    → all_below 256 (inner_octets os o) ≡ true
initial_parts os None e h = e
initial_parts os (Some p) e h = inner_in_range (is_initial_header p.header) os p.message e h

pub initial_in_range : (os : List ℕ) → all_below 256 os ≡ true → all_below 256 (initial_octets os) ≡ true
unfolding initial_octets
initial_in_range os e = initial_parts os (split os) e (parts_in_range os e)

-- the message that a context accepts
abbrev pub AcceptanceInRange : Acceptance → Type 0
AcceptanceInRange (Ok found) = all_below 256 found.1 ≡ true
AcceptanceInRange (Err fault) = Unit {0}

mac_if : (b : Bool) (count : ℕ) (message : List ℕ) (fault : Acceptance) → all_below 256 message ≡ true → AcceptanceInRange fault
    → AcceptanceInRange (cond b (Ok (count, message)) fault)
mac_if true count message fault e h = e
mac_if false count message fault e h = h

under_in_range : (mac : Mac) (p : Protected (List ℕ)) (o : Option ℕ) → all_below 256 p.message ≡ true
    → AcceptanceInRange (accepted_under mac p o)
under_in_range mac p None e = tt
under_in_range mac p (Some count) e =
    mac_if (same_octets p.mac (mac count directions.Uplink (p.sequence ∷ p.message))) count p.message _ e tt

allowed_if : (b : Bool) (r fault : Acceptance) → AcceptanceInRange r → AcceptanceInRange fault → AcceptanceInRange (cond b r fault)
allowed_if true r fault g h = g
allowed_if false r fault g h = h

parts_accepted : (mac : Mac) (last : Option ℕ) (allowed : List SecurityHeader) (o : Option (Protected (List ℕ))) → PartsInRange o
    → AcceptanceInRange (accepted_parts mac last allowed o)
parts_accepted mac last allowed None h = tt
parts_accepted mac last allowed (Some p) h =
    allowed_if (is_allowed allowed p.header) (accepted_under mac p (estimate last p.sequence (2 ^ 8))) _
    (under_in_range mac p _ h) tt

pub accepted_in_range : (mac : Mac) (last : Option ℕ) (allowed : List SecurityHeader) (os : List ℕ) → all_below 256 os ≡ true
    → AcceptanceInRange (accepted mac last allowed os)
unfolding accepted
accepted_in_range mac last allowed os e = parts_accepted mac last allowed (split os) (parts_in_range os e)

-- ---- an ATTACH REQUEST

abbrev pub HeardInRange : Heard (List ℕ) → Type 0
HeardInRange (heards.AttachRequest combined capability esm) = (all_below 256 capability ≡ true) × (all_below 256 esm ≡ true)
HeardInRange _ = Unit {0}

below_left : (xs ys : List ℕ) → all_below 256 (xs ++ ys) ≡ true → all_below 256 xs ≡ true
below_left [] ys e = refl
below_left (x ∷ xs) ys e = let parts = and_parts (ltb x 256) (all_below 256 (xs ++ ys)) e in and_from (ltb x 256) (all_below 256 xs) parts.0 (below_left xs ys parts.1)

below_right : (xs ys : List ℕ) → all_below 256 (xs ++ ys) ≡ true → all_below 256 ys ≡ true
below_right [] ys e = e
below_right (x ∷ xs) ys e = below_right xs ys (and_parts (ltb x 256) (all_below 256 (xs ++ ys)) e).1

abbrev IsOctets : List ℕ → Type 0
IsOctets os = all_below 256 os ≡ true

tail_below : (x : ℕ) (os : List ℕ) → all_below 256 (x ∷ os) ≡ true → all_below 256 os ≡ true
tail_below x os e = (and_parts (ltb x 256) (all_below 256 os) e).1

-- octets are what a list equal to them is
below_same : (xs ys : List ℕ) → xs ≡ ys → all_below 256 xs ≡ true → all_below 256 ys ≡ true
below_same xs ys is e = subst IsOctets is e

attach_in_range : (m : AttachRequest (List ℕ)) (os : List ℕ) → all_below 256 os ≡ true → SpellsEmm Uplink (emm.AttachRequest m) os
    → (all_below 256 m.capability ≡ true) × (all_below 256 m.esm ≡ true)
attach_in_range m os e h =
    let row = h.3 in
    let whole : all_below 256 (7 ∷ 0x41 ∷ h.1) ≡ true = below_same os _ h.2 e in
    let rest : all_below 256 h.1 ≡ true = tail_below 0x41 h.1 (tail_below 7 (0x41 ∷ h.1) whole) in
    let front : all_below 256 row.front ≡ true = below_left row.front row.rest (below_same h.1 _ row.whole rest) in
    let first = row.mandatory in
    let second = first.4 in
    let third = second.4 in
    let fourth = third.4 in
    let past_halves : all_below 256 first.1 ≡ true = below_right first.0 first.1 (below_same row.front _ first.2 front) in
    let past_identity : all_below 256 second.1 ≡ true =
    below_right second.0 second.1 (below_same first.1 _ second.2 past_halves) in
    let capability : all_below 256 third.0 ≡ true = below_left third.0 third.1 (below_same second.1 _ third.2 past_identity) in
    let past_capability : all_below 256 third.1 ≡ true =
    below_right third.0 third.1 (below_same second.1 _ third.2 past_identity) in
    let esm : all_below 256 fourth.0 ≡ true = below_left fourth.0 fourth.1 (below_same third.1 _ fourth.2 past_capability) in
    let content = third.3 in
    let long = fourth.3 in
    let octets : all_below 256 content.0 ≡ true = tail_below (length content.0) content.0 (below_same third.0 _ content.1 capability) in (
      below_same content.0 m.capability content.2.0 octets,
      tail_below long.1 m.esm (tail_below long.0 (long.1 ∷ m.esm) (below_same fourth.0 _ long.2 esm)),
    )

-- the law that what is decoded is spelled so
abbrev pub DecodedIsSpelled : Type 0
DecodedIsSpelled =
    (direction : Direction) (os : List ℕ) (m : Emm (List ℕ)) → decoded_emm direction os ≡ Ok m → SpellsEmm direction m os

sorted_in_range : (m : Emm (List ℕ)) (os : List ℕ) → all_below 256 os ≡ true → SpellsEmm Uplink m os → HeardInRange (sorted m)
sorted_in_range (emm.AttachRequest m) os e h = attach_in_range m os e h
sorted_in_range _ os e h = tt

heard_by : (os : List ℕ) (r : Result (Emm (List ℕ)) NasFault) → all_below 256 os ≡ true
    → ((m : Emm (List ℕ)) → r ≡ Ok m → SpellsEmm Uplink m os) → HeardInRange (heard_of r)
heard_by os (Ok m) e h = sorted_in_range m os e (h m refl)
heard_by os (Err fault) e h = tt

pub heard_in_range : DecodedIsSpelled → (os : List ℕ) → all_below 256 os ≡ true → HeardInRange (heard os)
unfolding heard
heard_in_range spelled os e = heard_by os (decoded_emm Uplink os) e (λ m is. spelled Uplink os m is)

-- ---- session management

abbrev pub DecodedEsmIsSpelled : Type 0
DecodedEsmIsSpelled = (os : List ℕ) (m : Esm (List ℕ)) → decoded_esm os ≡ Ok m → SpellsEsm m os

pub record EsmInRange (bearer transaction : ℕ) : Type 0 where
  pub bearer_low : bearer < 16
  pub transaction_low : transaction < 256

body_in_range : (bearer transaction : ℕ) (body : TypedBody) (os : List ℕ) → all_below 256 os ≡ true
    → SpellsBody bearer transaction body os → EsmInRange bearer transaction
body_in_range bearer transaction (of_type t v) os e h =
    let whole : all_below 256 ((bearer * 16 + 2) ∷ transaction ∷ esm_code_of t ∷ h.0) ≡ true = below_same os _ h.1 e in
    let first = and_parts (ltb (bearer * 16 + 2) 256) (all_below 256 (transaction ∷ esm_code_of t ∷ h.0)) whole in
    let second = and_parts (ltb transaction 256) (all_below 256 (esm_code_of t ∷ h.0)) first.1 in
    record { bearer_low = omega (arith, ltb-true (bearer * 16 + 2) 256 first.0); transaction_low = ltb-true transaction 256 second.0 }

esm_in_range : DecodedEsmIsSpelled → (os : List ℕ) (m : Esm (List ℕ)) → all_below 256 os ≡ true → decoded_esm os ≡ Ok m
    → EsmInRange m.bearer m.transaction
esm_in_range spelled os m e is = body_in_range m.bearer m.transaction (typed_body m.body) os e (spelled os m is)

abbrev AskedInRange : Option Connectivity → Type 0
AskedInRange None = Unit {0}
AskedInRange (Some wanted) = wanted.transaction < 256

asked_body : (transaction : ℕ) (body : EsmBody (List ℕ)) → transaction < 256 → AskedInRange (asked_in transaction body)
asked_body transaction (bodies.ConnectivityRequest request_type pdn_type information) low = low
asked_body transaction _ low = tt

asked_result : (r : Result (Esm (List ℕ)) NasFault) → ((m : Esm (List ℕ)) → r ≡ Ok m → EsmInRange m.bearer m.transaction)
    → AskedInRange (asked_by r)
asked_result (Ok m) h = asked_body m.transaction m.body (h m refl).transaction_low
asked_result (Err fault) h = tt

asked_in_range : DecodedEsmIsSpelled → (os : List ℕ) → all_below 256 os ≡ true → AskedInRange (asked os)
unfolding asked
asked_in_range spelled os e = asked_result (decoded_esm os) (λ m is. esm_in_range spelled os m e is)

abbrev pub RequestedInRange : Requested (List ℕ) → Type 0
RequestedInRange Unreadable = Unit {0}
RequestedInRange (Refused esm) = IsBrief 200 esm
RequestedInRange Taken = Unit {0}

requested_if : (b : Bool) (esm : List ℕ) → IsBrief 200 esm → RequestedInRange (cond b (Refused esm) Taken)
requested_if true esm h = h
requested_if false esm h = tt

requested_by : (before : Option Request) (o : Option Connectivity) → AskedInRange o → RequestedInRange (requested_after before o)
requested_by before None h = tt
requested_by None (Some wanted) h = requested_if (eqb wanted.pdn_type 2) _ (brief_connectivity_reject _ wanted.transaction h)
requested_by (Some first) (Some wanted) h = brief_connectivity_reject _ wanted.transaction h

pub requested_in_range : DecodedEsmIsSpelled → (session : Session) (os : List ℕ) → all_below 256 os ≡ true
    → RequestedInRange (requested session os)
unfolding requested
requested_in_range spelled session os e = requested_by session.request (asked os) (asked_in_range spelled os e)

taken_if : (b : Bool) (request : Request) → request.transaction < 256 → transaction_of (cond b None (Some request)) < 256
taken_if true request low = omega arith
taken_if false request low = low

after_by : (before : Option Request) (o : Option Connectivity) → AskedInRange o → transaction_of before < 256
    → transaction_of (request_after before o) < 256
after_by before None h low = low
after_by None (Some wanted) h low = taken_if (eqb wanted.pdn_type 2) (request_taken wanted) h
after_by (Some first) (Some wanted) h low = low

pub request_in_range : DecodedEsmIsSpelled → (session : Session) (os : List ℕ) → all_below 256 os ≡ true
    → transaction_of session.request < 256
    → transaction_of (after_request session os).request < 256
unfolding after_request
request_in_range spelled session os e low = after_by session.request (asked os) (asked_in_range spelled os e) low

abbrev pub ReactionInRange : Reaction (List ℕ) → Type 0
ReactionInRange (reactions.Answer octets) = IsBrief 200 octets
ReactionInRange _ = Unit {0}

reaction_if : (b : Bool) (r q : Reaction (List ℕ)) → ReactionInRange r → ReactionInRange q → ReactionInRange (cond b r q)
reaction_if true r q g h = g
reaction_if false r q g h = h

reacts_to : (request : Option Request) (waiting : Bool) (bearer transaction : ℕ) (body : EsmBody (List ℕ))
    → EsmInRange bearer transaction → ReactionInRange (reaction_to request waiting bearer transaction body)
reacts_to request waiting bearer transaction (bodies.ConnectivityRequest request_type pdn_type information) h =
    brief_connectivity_reject _ transaction h.transaction_low
reacts_to request waiting bearer transaction (bodies.DisconnectRequest linked) h =
    brief_disconnect_reject transaction h.transaction_low
reacts_to request waiting bearer transaction bodies.InformationResponse h =
    reaction_if waiting _ _ (reaction_if (is_transaction_of request transaction) reactions.Informed reactions.Nothing tt tt)
    (brief_esm_status _ bearer transaction h.bearer_low h.transaction_low)
reacts_to request waiting bearer transaction (bodies.EsmStatus cause) h = tt
reacts_to request waiting bearer transaction _ h = brief_esm_status _ bearer transaction h.bearer_low h.transaction_low

reacts_to_fault : (bearer transaction : ℕ) (fault : NasFault) → EsmInRange bearer transaction
    → ReactionInRange (reaction_to_fault bearer transaction fault)
reacts_to_fault bearer transaction faults.TooShort h = tt
reacts_to_fault bearer transaction faults.NoMemory h = tt
reacts_to_fault bearer transaction _ h = brief_esm_status _ bearer transaction h.bearer_low h.transaction_low

reacts_by : (session : Session) (waiting : Bool) (os : List ℕ) (r : Result (Esm (List ℕ)) NasFault) → all_below 256 os ≡ true
    → ((m : Esm (List ℕ)) → r ≡ Ok m → EsmInRange m.bearer m.transaction) → ReactionInRange (reaction_by session waiting os r)
reacts_by session waiting os (Ok m) e h = reacts_to session.request waiting m.bearer m.transaction m.body (h m refl)
reacts_by session waiting os (Err fault) e h =
    let first = below_at os 0 e in
    reacts_to_fault (slice_index os 0 / 16) (slice_index os 1) fault (record { bearer_low = omega (arith, first); transaction_low = below_at os 1 e })

pub reaction_in_range : DecodedEsmIsSpelled → (session : Session) (waiting : Bool) (os : List ℕ) → all_below 256 os ≡ true
    → ReactionInRange (reaction session waiting os)
unfolding reaction
reaction_in_range spelled session waiting os e =
    reaction_if (ltb (length os) 3) reactions.Nothing _ tt
    (reacts_by session waiting os (decoded_esm os) e (λ m is. esm_in_range spelled os m e is))
