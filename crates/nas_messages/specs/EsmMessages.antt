-- ESM messages as values, and the octets that spell them.
use Rattle.std.specs.Prelude.{◌≡◌, ℕ, ◌+◌, ◌*◌, ◌/◌, ◌%◌, ◌<◌, ◌≤◌, ◌==◌, nat_lt, if◌then◌else◌, List, ◌∷◌, length, drop, slice_index, Option, Some, None, Result, Ok, Err}
use Rattle.std.specs.Borrow.{Bor}
use Rattle.nas_elements.specs.declared.fault.NasFault.{NasFault}
use Rattle.nas_elements.specs.declared.fault.NasFault.TheVariants.{TooShort, UnknownType}
use Rattle.nas_elements.specs.Faults.{◌>>>◌}
use Rattle.nas_elements.specs.Rows.{RowValue, SpellsRow, RowFault, read_row, write_row, RowFits}
use Rattle.nas_elements.specs.Seen.{octets_of}
use Rattle.nas_messages.specs.declared.esm_types.Esm.{Esm}
use Rattle.nas_messages.specs.declared.esm_types.EsmBody.{EsmBody}
use Rattle.nas_messages.specs.declared.esm_types.EsmBody.TheVariants as bodies
use Rattle.nas_messages.specs.declared.esm_types.EsmType.{EsmType}
use Rattle.nas_messages.specs.declared.esm_types.EsmType.TheVariants.{ActivateRequest, ActivateAccept, ActivateReject, ConnectivityRequest, ConnectivityReject, DisconnectRequest, DisconnectReject, InformationRequest, InformationResponse, EsmStatus}
use Rattle.nas_elements.specs.Codes.{esm_discriminator}
use Rattle.nas_messages.specs.Formats.{esm_row_of}

-- ---- a message without where it lies in memory

abbrev pub body_lists : EsmBody (Bor (List ℕ)) → EsmBody (List ℕ)
body_lists (bodies.ActivateRequest m) =
    bodies.ActivateRequest (record { apn = m.apn.now; address = m.address.now; cause = octets_of m.cause })
body_lists bodies.ActivateAccept = bodies.ActivateAccept
body_lists (bodies.ActivateReject cause) = bodies.ActivateReject cause
body_lists (bodies.ConnectivityRequest request_type pdn_type information) =
    bodies.ConnectivityRequest request_type pdn_type information
body_lists (bodies.ConnectivityReject cause) = bodies.ConnectivityReject cause
body_lists (bodies.DisconnectRequest linked) = bodies.DisconnectRequest linked
body_lists (bodies.DisconnectReject cause) = bodies.DisconnectReject cause
body_lists bodies.InformationRequest = bodies.InformationRequest
body_lists bodies.InformationResponse = bodies.InformationResponse
body_lists (bodies.EsmStatus cause) = bodies.EsmStatus cause

abbrev pub esm_lists : Esm (Bor (List ℕ)) → Esm (List ℕ)
esm_lists m = record { bearer = m.bearer; transaction = m.transaction; body = body_lists m.body }

-- ---- what a message says, by its type and its row's values, and back

abbrev pub named_body : (t : EsmType) → RowValue (esm_row_of t) → EsmBody (List ℕ)
named_body ActivateRequest ((_, (_, (apn, (_, (_, (address, _)))))), (cause, _)) =
    bodies.ActivateRequest (record { apn = apn; address = address; cause = cause })
named_body ActivateAccept v = bodies.ActivateAccept
named_body ActivateReject ((cause, _), _) = bodies.ActivateReject cause
named_body ConnectivityRequest (((request_type, pdn_type), _), (information, _)) =
    bodies.ConnectivityRequest request_type pdn_type information
named_body ConnectivityReject ((cause, _), _) = bodies.ConnectivityReject cause
named_body DisconnectRequest (((linked, _), _), _) = bodies.DisconnectRequest linked
named_body DisconnectReject ((cause, _), _) = bodies.DisconnectReject cause
named_body InformationRequest v = bodies.InformationRequest
named_body InformationResponse v = bodies.InformationResponse
named_body EsmStatus ((cause, _), _) = bodies.EsmStatus cause

-- a type, and the values of its row
pub data TypedBody : Type 0 where
  of_type : (t : EsmType) → RowValue (esm_row_of t) → TypedBody

abbrev pub typed_body : EsmBody (List ℕ) → TypedBody
typed_body (bodies.ActivateRequest m) = of_type ActivateRequest ((tt, (tt, (m.apn, (tt, (tt, (m.address, tt)))))), (m.cause, tt))
typed_body bodies.ActivateAccept = of_type ActivateAccept (tt, tt)
typed_body (bodies.ActivateReject cause) = of_type ActivateReject ((cause, tt), tt)
typed_body (bodies.ConnectivityRequest request_type pdn_type information) =
    of_type ConnectivityRequest (((request_type, pdn_type), tt), (information, tt))
typed_body (bodies.ConnectivityReject cause) = of_type ConnectivityReject ((cause, tt), tt)
typed_body (bodies.DisconnectRequest linked) = of_type DisconnectRequest (((linked, tt), tt), tt)
typed_body (bodies.DisconnectReject cause) = of_type DisconnectReject ((cause, tt), tt)
typed_body bodies.InformationRequest = of_type InformationRequest (tt, tt)
typed_body bodies.InformationResponse = of_type InformationResponse (tt, tt)
typed_body (bodies.EsmStatus cause) = of_type EsmStatus ((cause, tt), tt)

-- ---- types (TS 24.301 clause 9.8)

abbrev pub esm_code_of : EsmType → ℕ
esm_code_of ActivateRequest = 0xc1
esm_code_of ActivateAccept = 0xc2
esm_code_of ActivateReject = 0xc3
esm_code_of ConnectivityRequest = 0xd0
esm_code_of ConnectivityReject = 0xd1
esm_code_of DisconnectRequest = 0xd2
esm_code_of DisconnectReject = 0xd3
esm_code_of InformationRequest = 0xd9
esm_code_of InformationResponse = 0xda
esm_code_of EsmStatus = 0xe8

unfoldable pub esm_type_of : ℕ → Option EsmType
esm_type_of code =
    if code == 0xc1 then Some ActivateRequest
    else if code == 0xc2 then Some ActivateAccept
    else if code == 0xc3 then Some ActivateReject
    else if code == 0xd0 then Some ConnectivityRequest
    else if code == 0xd1 then Some ConnectivityReject
    else if code == 0xd2 then Some DisconnectRequest
    else if code == 0xd3 then Some DisconnectReject
    else if code == 0xd9 then Some InformationRequest
    else if code == 0xda then Some InformationResponse
    else if code == 0xe8 then Some EsmStatus
    else None

-- ---- spelling: the bearer and the discriminator, the transaction, the type, and the row

abbrev pub SpellsBody : ℕ → ℕ → TypedBody → List ℕ → Type 0
SpellsBody bearer transaction (of_type t v) os =
    (rest : List ℕ) × (os ≡ (bearer * 16 + esm_discriminator) ∷ transaction ∷ esm_code_of t ∷ rest)
    × SpellsRow (esm_row_of t) v rest

abbrev pub SpellsEsm : Esm (List ℕ) → List ℕ → Type 0
SpellsEsm m os = SpellsBody m.bearer m.transaction (typed_body m.body) os

-- ---- reading: too short, the discriminator and the type, the mandatory part, the optional part

unfoldable pub read_body : EsmType → List ℕ → Result (EsmBody (List ℕ)) NasFault
read_body t os = read_row (esm_row_of t) os >>> λ v. Ok (named_body t v)

abbrev pub by_esm_type : Option EsmType → List ℕ → Result (EsmBody (List ℕ)) NasFault
by_esm_type None os = Err UnknownType
by_esm_type (Some t) os = read_body t os

unfoldable pub decoded_esm : List ℕ → Result (Esm (List ℕ)) NasFault
decoded_esm os =
    if nat_lt (length os) 3 then Err TooShort
    else if slice_index os 0 % 16 == esm_discriminator then
    by_esm_type (esm_type_of (slice_index os 2)) (drop 3 os)
    >>> (λ b. Ok (record { bearer = slice_index os 0 / 16; transaction = slice_index os 1; body = b }))
    else Err UnknownType

-- what a function of the code returned
abbrev pub seen_body : Result (EsmBody (Bor (List ℕ))) NasFault → Result (EsmBody (List ℕ)) NasFault
seen_body (Ok m) = Ok (body_lists m)
seen_body (Err e) = Err e

abbrev pub seen_esm : Result (Esm (Bor (List ℕ))) NasFault → Result (Esm (List ℕ)) NasFault
seen_esm (Ok m) = Ok (esm_lists m)
seen_esm (Err e) = Err e

-- ---- when each fault comes

-- ESM's discriminator, any bearer and transaction, a type, and octets after them
abbrev pub HasEsmType : List ℕ → EsmType → List ℕ → Type 0
HasEsmType os t rest =
    (bearer : ℕ) × (transaction : ℕ) × (os ≡ (bearer * 16 + esm_discriminator) ∷ transaction ∷ esm_code_of t ∷ rest)

abbrev pub HasEsmFault : List ℕ → NasFault → Type 0
HasEsmFault os TooShort = length os < 3
HasEsmFault os UnknownType = (3 ≤ length os) × ((t : EsmType) (rest : List ℕ) → HasEsmType os t rest → ⊥)
HasEsmFault os fault = (t : EsmType) × (rest : List ℕ) × HasEsmType os t rest × RowFault (esm_row_of t) rest fault

-- ---- writing

-- the type and the row
abbrev pub write_body : TypedBody → List ℕ
write_body (of_type t v) = esm_code_of t ∷ write_row (esm_row_of t) v

abbrev pub written_body : EsmBody (List ℕ) → List ℕ
written_body body = write_body (typed_body body)

abbrev pub encoded_esm : Esm (List ℕ) → List ℕ
encoded_esm m = (m.bearer * 16 + esm_discriminator) ∷ m.transaction ∷ written_body m.body

abbrev pub BodyFits : TypedBody → Type 0
BodyFits (of_type t v) = RowFits (esm_row_of t) v

-- every part has a length that its length field and its row allow, and small numbers are small
abbrev pub IsWritableEsm : Esm (List ℕ) → Type 0
IsWritableEsm m = (m.bearer < 16) × BodyFits (typed_body m.body)
