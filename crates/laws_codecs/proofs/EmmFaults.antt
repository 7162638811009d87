-- A fault that octets have is what decoding them as an EMM message answers.
use Rattle.std.proofs.Common.{◌≡◌, ◌⊎◌, inl, inr, ℕ, ◌<◌, false, ltb, List, ◌∷◌, length, Some, Result, Ok, Err, refl, arith}
use Rattle.std.proofs.lemmas.Bool.{le-ltb, lt-ltb}
use Rattle.nas_elements.specs.declared.fault.NasFault.{NasFault}
use Rattle.nas_elements.specs.declared.fault.NasFault.TheVariants.{TooShort, Mandatory, UnknownType, OptionalPart, NoMemory}
use Rattle.nas_elements.specs.Rows.{RowFault, RowValue}
use Rattle.nas_messages.specs.declared.emm_types.Emm.{Emm}
use Rattle.nas_messages.specs.declared.emm_types.Emm.TheVariants as emm
use Rattle.nas_messages.specs.declared.emm_types.EmmType.{EmmType}
use Rattle.nas_messages.specs.declared.emm_types.Direction.{Direction}
use Rattle.nas_messages.specs.Formats.{row_of}
use Rattle.nas_messages.specs.Messages.{code_of, read_typed, decoded_emm, HasType, HasFault, IsService, SpellsEmm, SpellsTyped}
use Rattle.laws_codecs.proofs.NasRows.{row_named}

-- too few octets for a type
short_named : (direction : Direction) (os : List ℕ) → length os < 2 → decoded_emm direction os ≡ Err TooShort
unfolding decoded_emm
short_named direction os h = rw (lt-ltb (length os) 2 h) refl

-- a type's row is refused
typed_named : (direction : Direction) (os : List ℕ) (t : EmmType) (rest : List ℕ) (f : NasFault) → HasType direction os t rest
    → RowFault (row_of t) rest f → decoded_emm direction os ≡ Err f
unfolding decoded_emm read_typed
typed_named direction os t rest f h k =
    let long : ltb (length (7 ∷ code_of t ∷ rest)) 2 ≡ false = le-ltb _ _ (omega arith) in
    rw (h.0, long, h.1, row_named (row_of t) rest f k) refl

-- octets that spell a message have a type, or are a SERVICE REQUEST
abbrev IsOfMessage : Direction → List ℕ → Type 0
IsOfMessage direction os = IsService os ⊎ ((t : EmmType) × (rest : List ℕ) × HasType direction os t rest)

of_type : (direction : Direction) (t : EmmType) (v : RowValue (row_of t)) (os : List ℕ) → SpellsTyped direction (Some (t, v)) os
    → IsOfMessage direction os
of_type direction t v os s = inr (t, s.1, (s.2, s.0))

of_message : (direction : Direction) (m : Emm (List ℕ)) (os : List ℕ) → SpellsEmm direction m os → IsOfMessage direction os
of_message direction (emm.AttachRequest m) os s = of_type direction _ _ os s
of_message direction (emm.AttachAccept m) os s = of_type direction _ _ os s
of_message direction (emm.AttachComplete esm) os s = of_type direction _ _ os s
of_message direction (emm.AttachReject m) os s = of_type direction _ _ os s
of_message direction (emm.DetachRequest m) os s = of_type direction _ _ os s
of_message direction emm.NetworkDetach os s = of_type direction _ _ os s
of_message direction emm.DetachAccept os s = of_type direction _ _ os s
of_message direction (emm.TrackingAreaUpdateRequest m) os s = of_type direction _ _ os s
of_message direction (emm.TrackingAreaUpdateAccept m) os s = of_type direction _ _ os s
of_message direction emm.TrackingAreaUpdateComplete os s = of_type direction _ _ os s
of_message direction (emm.TrackingAreaUpdateReject cause) os s = of_type direction _ _ os s
of_message direction (emm.ServiceReject cause) os s = of_type direction _ _ os s
of_message direction (emm.AuthenticationRequest m) os s = of_type direction _ _ os s
of_message direction (emm.AuthenticationResponse res) os s = of_type direction _ _ os s
of_message direction emm.AuthenticationReject os s = of_type direction _ _ os s
of_message direction emm.IdentityRequest os s = of_type direction _ _ os s
of_message direction (emm.IdentityResponse identity) os s = of_type direction _ _ os s
of_message direction (emm.AuthenticationFailure cause) os s = of_type direction _ _ os s
of_message direction (emm.SecurityModeCommand m) os s = of_type direction _ _ os s
of_message direction emm.SecurityModeComplete os s = of_type direction _ _ os s
of_message direction (emm.SecurityModeReject cause) os s = of_type direction _ _ os s
of_message direction (emm.EmmStatus cause) os s = of_type direction _ _ os s
of_message direction (emm.ServiceRequest octets) os s = inl (s.1, s.2)

module _ (spelled : (direction : Direction) (os : List ℕ) (m : Emm (List ℕ)) → decoded_emm direction os ≡ Ok m → SpellsEmm direction m os)
    (fault : (direction : Direction) (os : List ℕ) (f : NasFault) → decoded_emm direction os ≡ Err f → HasFault direction os f) where
  -- no type that is known: whatever decoding answered, it is that
  unknown_named : (direction : Direction) (os : List ℕ) (r : Result (Emm (List ℕ)) NasFault) → decoded_emm direction os ≡ r
      → HasFault direction os UnknownType → decoded_emm direction os ≡ Err UnknownType
  unknown_named direction os (Ok m) q h =
      elim (of_message direction m os (spelled direction os m q)) [ inl s ↦ absurd (h.2 s) | inr k ↦ absurd (h.1 k.0 k.1 k.2) ]
  unknown_named direction os (Err TooShort) q h = let short = fault direction os TooShort q in absurd (omega (arith, short, h.0))
  unknown_named direction os (Err Mandatory) q h = let k = fault direction os Mandatory q in absurd (h.1 k.0 k.1 k.2)
  unknown_named direction os (Err UnknownType) q h = q
  unknown_named direction os (Err OptionalPart) q h = let k = fault direction os OptionalPart q in absurd (h.1 k.0 k.1 k.2)
  unknown_named direction os (Err NoMemory) q h = let k = fault direction os NoMemory q in absurd k.3

  pub named : (direction : Direction) (os : List ℕ) (f : NasFault) → HasFault direction os f → decoded_emm direction os ≡ Err f
  named direction os TooShort h = short_named direction os h
  named direction os Mandatory h = typed_named direction os h.0 h.1 Mandatory h.2 h.3
  named direction os UnknownType h = unknown_named direction os (decoded_emm direction os) refl h
  named direction os OptionalPart h = typed_named direction os h.0 h.1 OptionalPart h.2 h.3
  named direction os NoMemory h = absurd h.3
