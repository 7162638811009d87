-- A fault that octets have is what decoding them as an ESM message answers.
use Rattle.std.proofs.Common.{◌≡◌, ℕ, ◌+◌, ◌*◌, ◌%◌, ◌<◌, false, ltb, List, ◌∷◌, length, Some, Result, Ok, Err, refl, arith}
use Rattle.std.proofs.lemmas.Bool.{le-ltb, lt-ltb}
use Rattle.nas_elements.specs.declared.fault.NasFault.{NasFault}
use Rattle.nas_elements.specs.declared.fault.NasFault.TheVariants.{TooShort, Mandatory, UnknownType, OptionalPart, NoMemory}
use Rattle.nas_elements.specs.Rows.{RowFault}
use Rattle.nas_messages.specs.declared.esm_types.Esm.{Esm}
use Rattle.nas_messages.specs.declared.esm_types.EsmType.{EsmType}
use Rattle.nas_messages.specs.declared.esm_types.EsmType.TheVariants.{ActivateRequest, ActivateAccept, ActivateReject, ConnectivityRequest, ConnectivityReject, DisconnectRequest, DisconnectReject, InformationRequest, InformationResponse, EsmStatus}
use Rattle.nas_messages.specs.Formats.{esm_row_of}
use Rattle.nas_messages.specs.EsmMessages.{TypedBody, of_type, typed_body, esm_code_of, esm_type_of, read_body, decoded_esm, HasEsmFault, HasEsmType, SpellsBody, SpellsEsm}
use Rattle.laws_codecs.proofs.NasRows.{row_named}

-- too few octets for a type
short_named : (os : List ℕ) → length os < 3 → decoded_esm os ≡ Err TooShort
unfolding decoded_esm
short_named os h = rw (lt-ltb (length os) 3 h) refl

own_type : (t : EsmType) → esm_type_of (esm_code_of t) ≡ Some t
unfolding esm_type_of
own_type ActivateRequest = refl
own_type ActivateAccept = refl
own_type ActivateReject = refl
own_type ConnectivityRequest = refl
own_type ConnectivityReject = refl
own_type DisconnectRequest = refl
own_type DisconnectReject = refl
own_type InformationRequest = refl
own_type InformationResponse = refl
own_type EsmStatus = refl

-- a type's row is refused
typed_named : (os : List ℕ) (t : EsmType) (rest : List ℕ) (f : NasFault) → HasEsmType os t rest → RowFault (esm_row_of t) rest f
    → decoded_esm os ≡ Err f
unfolding decoded_esm read_body
typed_named os t rest f h k =
    let long : ltb (length ((h.0 * 16 + 2) ∷ h.1 ∷ esm_code_of t ∷ rest)) 3 ≡ false = le-ltb _ _ (omega arith) in
    let low : (h.0 * 16 + 2) % 16 ≡ 2 = omega arith in
    rw (h.2, long, low, own_type t, row_named (esm_row_of t) rest f k) refl

-- octets that spell a message have a type
abbrev IsOfMessage : List ℕ → Type 0
IsOfMessage os = (t : EsmType) × (rest : List ℕ) × HasEsmType os t rest

of_body : (bearer transaction : ℕ) (b : TypedBody) (os : List ℕ) → SpellsBody bearer transaction b os → IsOfMessage os
of_body bearer transaction (of_type t v) os s = (t, s.0, (bearer, transaction, s.1))

module _ (spelled : (os : List ℕ) (m : Esm (List ℕ)) → decoded_esm os ≡ Ok m → SpellsEsm m os)
    (fault : (os : List ℕ) (f : NasFault) → decoded_esm os ≡ Err f → HasEsmFault os f) where
  -- no type that is known: whatever decoding answered, it is that
  unknown_named : (os : List ℕ) (r : Result (Esm (List ℕ)) NasFault) → decoded_esm os ≡ r → HasEsmFault os UnknownType
      → decoded_esm os ≡ Err UnknownType
  unknown_named os (Ok m) q h =
      let k = of_body m.bearer m.transaction (typed_body m.body) os (spelled os m q) in absurd (h.1 k.0 k.1 k.2)
  unknown_named os (Err TooShort) q h = let short = fault os TooShort q in absurd (omega (arith, short, h.0))
  unknown_named os (Err Mandatory) q h = let k = fault os Mandatory q in absurd (h.1 k.0 k.1 k.2)
  unknown_named os (Err UnknownType) q h = q
  unknown_named os (Err OptionalPart) q h = let k = fault os OptionalPart q in absurd (h.1 k.0 k.1 k.2)
  unknown_named os (Err NoMemory) q h = let k = fault os NoMemory q in absurd k.3

  pub named : (os : List ℕ) (f : NasFault) → HasEsmFault os f → decoded_esm os ≡ Err f
  named os TooShort h = short_named os h
  named os Mandatory h = typed_named os h.0 h.1 Mandatory h.2 h.3
  named os UnknownType h = unknown_named os (decoded_esm os) refl h
  named os OptionalPart h = typed_named os h.0 h.1 OptionalPart h.2 h.3
  named os NoMemory h = absurd h.3
