-- The protected form of a message: security header type and protocol discriminator, MAC, sequence number, message.
use Rattle.std.specs.Prelude.{ℕ, ◌+◌, ◌*◌, ◌/◌, ◌%◌, ◌==◌, ◌&&◌, nat_le, if◌then◌else◌, List, [], ◌∷◌, ◌++◌, length, drop, slice_index, Option, Some, None, option_map}
use Rattle.std.specs.Borrow.{Bor}
use Rattle.nas_elements.specs.Codes.{emm_discriminator}
use Rattle.nas_messages.specs.declared.protection.SecurityHeader.{SecurityHeader}
use Rattle.nas_messages.specs.declared.protection.SecurityHeader.TheVariants.{IntegrityProtected, IntegrityProtectedCiphered, NewContext, NewContextCiphered}
use Rattle.nas_messages.specs.declared.protection.Protected.{Protected}

-- the security header type (TS 24.301 clause 9.3.1)
abbrev pub header_code : SecurityHeader → ℕ
header_code IntegrityProtected = 1
header_code IntegrityProtectedCiphered = 2
header_code NewContext = 3
header_code NewContextCiphered = 4

unfoldable pub header_of : ℕ → Option SecurityHeader
header_of code =
    if code == 1 then Some IntegrityProtected
    else if code == 2 then Some IntegrityProtectedCiphered
    else if code == 3 then Some NewContext
    else if code == 4 then Some NewContextCiphered
    else None

-- (TS 24.301 clause 9.1)
unfoldable pub protected_form : Protected (List ℕ) → List ℕ
protected_form p = (header_code p.header * 16 + emm_discriminator) ∷ p.mac ++ p.sequence ∷ p.message

-- six octets and a message after this header
abbrev pub protected_from : SecurityHeader → List ℕ → Protected (List ℕ)
protected_from header os = record {
  header = header;
  mac = slice_index os 1 ∷ slice_index os 2 ∷ slice_index os 3 ∷ slice_index os 4 ∷ [];
  sequence = slice_index os 5;
  message = drop 6 os;
}

unfoldable pub split : List ℕ → Option (Protected (List ℕ))
split os =
    if nat_le 6 (length os) && slice_index os 0 % 16 == emm_discriminator
    then option_map (λ header. protected_from header os) (header_of (slice_index os 0 / 16))
    else None

-- where the message lies in memory left out
abbrev pub unlent : Protected (Bor (List ℕ)) → Protected (List ℕ)
unlent p = record { header = p.header; mac = p.mac; sequence = p.sequence; message = p.message.now }

abbrev pub seen_split : Option (Protected (Bor (List ℕ))) → Option (Protected (List ℕ))
seen_split None = None
seen_split (Some p) = Some (unlent p)
