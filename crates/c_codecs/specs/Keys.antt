-- MACs and derived keys, of octets of any number.
use Rattle.std.specs.Prelude.{ℕ, ◌==◌, List, length, Result, Ok, Err, if◌then◌else◌}
use Rattle.std.specs.Int.{from_be_bytes, w32}
use Rattle.eps_keys.specs.declared.direction.DirectionBit.{DirectionBit}
use Rattle.eps_keys.specs.declared.direction.DirectionBit.TheVariants.{Uplink, Downlink}
use Rattle.eps_keys.specs.Eia2.{eia2}
use Rattle.eps_keys.specs.Hmac.{kenb, nas_integrity_key, next_hop}
use Rattle.c_codecs.specs.declared.fault.CodecFault.{CodecFault}
use Rattle.c_codecs.specs.declared.fault.CodecFault.TheVariants.{BadNumber, BadOctets}
use Rattle.c_codecs.specs.Faults.{◌>>=◌}

-- n octets
abbrev pub sized : ℕ → List ℕ → Result (List ℕ) CodecFault
sized n octets = if length octets == n then Ok octets else Err BadOctets

-- the direction of a number: 0 from the phone, 1 to it
abbrev pub bit_of : ℕ → Result DirectionBit CodecFault
bit_of number = if number == 0 then Ok Uplink else (if number == 1 then Ok Downlink else Err BadNumber)

-- the MAC of octets by 128-EIA2, as a number
abbrev pub mac_of : List ℕ → ℕ → ℕ → List ℕ → Result ℕ CodecFault
mac_of key count direction octets =
    sized 16 key >>= (λ k. bit_of direction >>= (λ d. Ok (from_be_bytes w32 (eia2 k count d octets))))

abbrev pub derived_kenb : List ℕ → ℕ → Result (List ℕ) CodecFault
derived_kenb kasme count = sized 32 kasme >>= (λ k. Ok (kenb k count))

abbrev pub derived_next_hop : List ℕ → List ℕ → Result (List ℕ) CodecFault
derived_next_hop kasme previous = sized 32 kasme >>= (λ k. sized 32 previous >>= (λ p. Ok (next_hop k p)))

abbrev pub derived_nas_integrity_key : List ℕ → Result (List ℕ) CodecFault
derived_nas_integrity_key kasme = sized 32 kasme >>= (λ k. Ok (nas_integrity_key k))
