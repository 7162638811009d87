-- Writing after the bits so far.
use Rattle.std.specs.Prelude.{ℕ, suc, ◌+◌, ◌-◌, ◌*◌, ◌/◌, ◌&&◌, Bool, false, if◌then◌else◌, nat_lt, ◌==◌, List, [], ◌∷◌, ◌++◌, length, take, drop, Option, Some, None, Result, Ok, Err, ◌⊎◌, is_some}
use Rattle.std.proofs.Common.{inl, inr}
use Rattle.per_streams.specs.declared.fault.PerFault.{PerFault}
use Rattle.per_streams.specs.declared.fault.PerFault.TheVariants.{Range}
use Rattle.per_streams.specs.Octet.{all_below}
use Rattle.per_streams.specs.Bits.{octet_bits, padded, pad, ◌>>=◌}
use Rattle.per_bits.specs.Formats.{Format, number, octets, octets_between, octet_string, bit_string, bits_between, enumerated, closed, items, open_type, plain, sequence, choice, Fields, done, must, may, skip, fixed, marked, Alternatives, last, either, Value, Values, Chosen, alternatives}
use Rattle.per_streams.specs.Writing.{write_number}
use Rattle.per_bits.specs.Spelling.{length_octets}

unfoldable pub write_octets : ℕ → List ℕ → List Bool → Result (List Bool) PerFault
write_octets n os out =
    if length os == n
    && all_below 256 os then Ok (if nat_lt n 3 then out ++ octet_bits os else out ++ pad (length out) ++ octet_bits os)
    else Err Range

-- octets, from the next octet on
unfoldable pub write_aligned : List ℕ → List Bool → Result (List Bool) PerFault
write_aligned os out = if all_below 256 os then Ok (out ++ (pad (length out) ++ octet_bits os)) else Err Range

unfoldable pub write_length : ℕ → List Bool → Result (List Bool) PerFault
write_length n out = if nat_lt n 16384 then Ok (out ++ (pad (length out) ++ octet_bits (length_octets n))) else Err Range

-- the octet at a place becomes the length of the whole octets after it (X.691 clause 11.9)
unfoldable pub count_after : ℕ → List Bool → Result (List Bool) PerFault
count_after place out =
    let n = length out / 8 - place - 1 in
    if nat_lt n 16384 then Ok (take (8 * place) out ++ (octet_bits (length_octets n) ++ drop (8 * place + 8) out)) else Err Range

unfoldable pub write_string : List ℕ → List Bool → Result (List Bool) PerFault
write_string os out = do
  counted ← write_length (length os) out
  write_aligned os counted

unfoldable pub write_bits : ℕ → List Bool → List Bool → Result (List Bool) PerFault
write_bits n b out = if length b == n then Ok (if nat_lt n 17 then out ++ b else out ++ (pad (length out) ++ b)) else Err Range

-- an Extended enumerator is not written
abbrev pub write_enumerated : ℕ → ℕ ⊎ ℕ → List Bool → Result (List Bool) PerFault
write_enumerated n (inl k) out = write_number 0 n k (out ++ false ∷ [])
write_enumerated n (inr k) out = Err Range

unfoldable pub write_each : {A : Type 0}
    → (A → List Bool → Result (List Bool) PerFault) → List A → List Bool → Result (List Bool) PerFault
write_each w [] out = Ok out
write_each w (a ∷ more) out = do
  after ← w a out
  write_each w more after

-- a complete encoding
abbrev pub write_whole : {A : Type 0} → (A → List Bool → Result (List Bool) PerFault) → A → Result (List ℕ) PerFault
write_whole w a = do
  bs ← w a []
  Ok (padded bs)

-- the presence bits; what is not kept is not written
abbrev pub presence : (fs : Fields) → Values fs → List Bool
presence done v = []
presence (must f fs) v = presence fs v.1
presence (may f fs) v = is_some v.0 ∷ presence fs v.1
presence (skip f fs) v = false ∷ presence fs v
presence (fixed lo hi n fs) v = presence fs v
presence (marked lo hi n fs) v = presence fs v

abbrev pub write_optional : {A : Type 0}
    → (A → List Bool → Result (List Bool) PerFault) → Option A → List Bool → Result (List Bool) PerFault
write_optional w None out = Ok out
write_optional w (Some a) out = w a out

abbrev pub index_of : (alts : Alternatives) → Chosen alts → ℕ
index_of (last f) v = 0
index_of (either f alts) (inl v) = 0
index_of (either f alts) (inr v) = suc (index_of alts v)

abbrev mutual
  pub write_at : (f : Format) → Value f → List Bool → Result (List Bool) PerFault
  write_at (number lo hi) n out = write_number lo hi n out
  write_at (octets n) os out = write_octets n os out
  write_at (octets_between lo hi) os out = do
    counted ← write_number lo hi (length os) out
    write_aligned os counted
  write_at octet_string os out = write_string os out
  write_at (bit_string n) b out = write_bits n b out
  write_at (bits_between lo hi) b out = do
    counted ← write_number lo hi (length b) out
    Ok (counted ++ (pad (length counted) ++ b))
  write_at (enumerated n) v out = write_enumerated n v out
  write_at (closed f) v out = write_at f v (out ++ false ∷ [])
  write_at (items lo hi f) vs out = do
    counted ← write_number lo hi (length vs) out
    write_each (write_at f) vs counted
  write_at (open_type f) v out = do
    os ← write_whole (write_at f) v
    write_string os out
  write_at (plain fs) v out = write_fields fs v (out ++ presence fs v)
  write_at (sequence fs) v out = write_fields fs v (out ++ false ∷ presence fs v)
  write_at (choice alts) v out = do
    chosen ← write_number 0 (alternatives alts - 1) (index_of alts v) (out ++ false ∷ [])
    write_chosen alts v chosen

  pub write_fields : (fs : Fields) → Values fs → List Bool → Result (List Bool) PerFault
  write_fields done v out = Ok out
  write_fields (must f fs) v out = do
    first ← write_at f v.0 out
    write_fields fs v.1 first
  write_fields (may f fs) v out = do
    first ← write_optional (write_at f) v.0 out
    write_fields fs v.1 first
  write_fields (skip f fs) v out = write_fields fs v out
  write_fields (fixed lo hi n fs) v out = do
    first ← write_number lo hi n out
    write_fields fs v first
  write_fields (marked lo hi n fs) v out = do
    first ← write_number lo hi n out
    write_fields fs v first

  pub write_chosen : (alts : Alternatives) → Chosen alts → List Bool → Result (List Bool) PerFault
  write_chosen (last f) v out = write_at f v out
  write_chosen (either f alts) (inl v) out = write_at f v out
  write_chosen (either f alts) (inr v) out = write_chosen alts v out

-- an element as it stands in a message: id, criticality, and its value as an open type
abbrev pub write_element : ℕ → ℕ → (f : Format) → Value f → List Bool → Result (List Bool) PerFault
write_element id criticality f v out = do
  a ← write_number 0 65535 id out
  b ← write_number 0 2 criticality a
  write_at (open_type f) v b

-- the one spelling of a value as a whole octet string, or Range where it has none
abbrev pub complete_write : (f : Format) → Value f → Result (List ℕ) PerFault
complete_write f v = write_whole (write_at f) v
