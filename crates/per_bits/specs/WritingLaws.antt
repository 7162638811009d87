-- What is written is spelled.
use Rattle.std.proofs.Common.{◌≡◌, ℕ, zero, suc, ◌+◌, ◌-◌, ◌*◌, ◌/◌, ◌^◌, ◌&&◌, Bool, true, false, cond, leb, ltb, eqb, List, [], ◌∷◌, ◌++◌, length, Option, Some, None, Result, Ok, is_some, refl, sym, ap, subst, ◌∙◌, arith, append_assoc, inl, inr, ◌⊎◌}
use Rattle.std.proofs.lemmas.Bool.{and_parts, leb-true, eqb-true, ltb-true}
use Rattle.std.proofs.lemmas.List.{append-nil, length-append, length-replicate}
use Rattle.per_streams.specs.declared.fault.PerFault.{PerFault}
use Rattle.per_streams.specs.declared.fault.PerFault.TheVariants.{Range}
use Rattle.per_streams.specs.Bits.{octet_bits, pad, padding, IsBytes, ◌>>=◌, padded}
use Rattle.per_bits.specs.Formats.{Format, number, octets, octets_between, octet_string, bit_string, bits_between, enumerated, closed, items, open_type, plain, sequence, choice, Fields, done, must, may, skip, fixed, marked, Alternatives, last, either, Value, Values, Chosen, optionals, alternatives}
use Rattle.per_streams.specs.Numbers.{offset_bits}
use Rattle.per_bits.specs.Spelling.{length_octets, SpellsNumber, SpellsOctets, SpellsAligned, SpellsBits, SpellsAlignedBits, SpellsLength, SpellsString, SpellsClosed, SpellsEnumerated, SpellsOptional, Whole, Spells, SpellsFields, SpellsChosen, SpellsWhole}
use Rattle.per_streams.specs.Each.{SpellsEach}
use Rattle.per_bits.specs.Reading.{complete_at}
use Rattle.per_bits.specs.Writing.{write_at, write_fields, write_chosen, write_each, write_optional, presence, index_of, write_octets, write_aligned, write_length, write_string, write_bits, write_enumerated, write_whole, complete_write}
use Rattle.per_streams.specs.Writing.{write_number}
use Rattle.per_streams.specs.Octet.{all_below}
use Rattle.per_streams.specs.BitLaws.{bind_ok, where_ok, ok_is}
use Rattle.per_streams.specs.OctetLaws.{bits-octets_of}
use Rattle.per_bits.specs.FormatLaws.{complete_again}

-- what was written after the bits so far
pub record Adds {A : Type 0} (S : A → ℕ → List Bool → Type 0) (a : A) (out new : List Bool) : Type 0 where
  pub bits : List Bool
  pub parts : new ≡ out ++ bits
  pub spelled : S a (length out) bits

abbrev Pair : {A B : Type 0} (S : A → ℕ → List Bool → Type 0) (Q : B → ℕ → List Bool → Type 0) → A × B → ℕ → List Bool → Type 0
Pair S Q ab at bs = (xs : List Bool) × (ys : List Bool) × (bs ≡ xs ++ ys) × S ab.0 at xs × Q ab.1 (at + length xs) ys

pair_adds : {A B : Type 0} (S : A → ℕ → List Bool → Type 0) (Q : B → ℕ → List Bool → Type 0) (ab : A × B) (out mid new : List Bool)
    → Adds S ab.0 out mid → Adds Q ab.1 mid new → Adds (Pair S Q) ab out new
pair_adds S Q ab out mid new p q =
    let at : length mid ≡ length out + length p.bits = ap length p.parts ∙ length-append out p.bits in
    record {
      bits = p.bits ++ q.bits;
      parts = q.parts ∙ ap (λ (l : List Bool). l ++ q.bits) p.parts ∙ append_assoc out p.bits q.bits;
      spelled = (p.bits, q.bits, refl, p.spelled, subst (λ n. Q ab.1 n q.bits) at q.spelled);
    }

optional_adds : {A : Type 0} (S : A → ℕ → List Bool → Type 0) (w : A → List Bool → Result (List Bool) PerFault)
    → ((a : A) (out new : List Bool) → w a out ≡ Ok new → Adds S a out new)
    → (o : Option A) (out new : List Bool) → write_optional w o out ≡ Ok new → Adds (SpellsOptional (is_some o) S) o out new
optional_adds S w h None out new e =
    record { bits = []; parts = (let k : out ≡ new = cc in sym k ∙ sym (append-nil out)); spelled = (refl, refl) }
optional_adds S w h (Some a) out new e = let k = h a out new e in record { bits = k.bits; parts = k.parts; spelled = k.spelled }

number_adds : (lo hi n : ℕ) (out new : List Bool) → write_number lo hi n out ≡ Ok new → Adds (SpellsNumber lo hi) n out new
unfolding write_number
number_adds lo hi n out new e =
    let k =
    where_ok (leb lo n && (leb n hi && ltb (n - lo) (2 ^ 64))) Range (out ++ offset_bits (hi - lo) (n - lo) (length out)) new e in
    let t = and_parts (leb lo n) (leb n hi && ltb (n - lo) (2 ^ 64)) k.0 in
    let t2 = and_parts (leb n hi) (ltb (n - lo) (2 ^ 64)) t.1 in
    let low = leb-true lo n t.0 in
    let high = leb-true n hi t2.0 in
    record {
      bits = offset_bits (hi - lo) (n - lo) (length out);
      parts = sym k.1;
      spelled = (low, omega (arith, low, high), ltb-true (n - lo) (2 ^ 64) t2.1, refl);
    }

below_bytes : (os : List ℕ) → all_below 256 os ≡ true → IsBytes os
below_bytes [] e i = omega arith
below_bytes (x ∷ xs) e zero = ltb-true x 256 (and_parts (ltb x 256) (all_below 256 xs) e).0
below_bytes (x ∷ xs) e (suc i) = below_bytes xs (and_parts (ltb x 256) (all_below 256 xs) e).1 i

cond_append : (b : Bool) (out xs ys : List Bool) → cond b (out ++ xs) (out ++ ys ++ xs) ≡ out ++ cond b xs (ys ++ xs)
cond_append true out xs ys = refl
cond_append false out xs ys = append_assoc out ys xs

octets_adds : (n : ℕ) (os : List ℕ) (out new : List Bool) → write_octets n os out ≡ Ok new → Adds (SpellsOctets n) os out new
unfolding write_octets
octets_adds n os out new e =
    let k =
    where_ok (eqb (length os) n && all_below 256 os) Range
    (cond (ltb n 3) (out ++ octet_bits os) (out ++ pad (length out) ++ octet_bits os)) new e in
    let t = and_parts (eqb (length os) n) (all_below 256 os) k.0 in
    record {
      bits = cond (ltb n 3) (octet_bits os) (pad (length out) ++ octet_bits os);
      parts = sym k.1 ∙ cond_append (ltb n 3) out (octet_bits os) (pad (length out));
      spelled = (eqb-true _ _ t.0, below_bytes os t.1, refl);
    }

each_adds : {A : Type 0} (S : A → ℕ → List Bool → Type 0) (w : A → List Bool → Result (List Bool) PerFault)
    → ((a : A) (out new : List Bool) → w a out ≡ Ok new → Adds S a out new)
    → (vs : List A) (out new : List Bool) → write_each w vs out ≡ Ok new → Adds (SpellsEach S) vs out new
unfolding write_each
each_adds S w h [] out new e =
    record { bits = []; parts = (let k : out ≡ new = cc in sym k ∙ sym (append-nil out)); spelled = refl }
each_adds S w h (a ∷ more) out new e =
    let mid = bind_ok (w a out) (λ after. write_each w more after) new e in
    let k = pair_adds S (SpellsEach S) (a, more) out mid.0 new (h a out mid.0 mid.1) (each_adds S w h more mid.0 new mid.2) in
    record { bits = k.bits; parts = k.parts; spelled = k.spelled }

length-presence : (fs : Fields) (v : Values fs) → length (presence fs v) ≡ optionals fs
length-presence done v = refl
length-presence (must f fs) v = length-presence fs v.1
length-presence (may f fs) v = ap suc (length-presence fs v.1)
length-presence (skip f fs) v = ap suc (length-presence fs v)
length-presence (fixed lo hi n fs) v = length-presence fs v
length-presence (marked lo hi n fs) v = length-presence fs v

aligned_adds : (os : List ℕ) (out new : List Bool) → write_aligned os out ≡ Ok new → Adds (SpellsAligned (length os)) os out new
unfolding write_aligned
aligned_adds os out new e =
    let k = where_ok (all_below 256 os) Range (out ++ (pad (length out) ++ octet_bits os)) new e in
    record { bits = pad (length out) ++ octet_bits os; parts = sym k.1; spelled = (refl, below_bytes os k.0, refl) }

length_adds : (n : ℕ) (out new : List Bool) → write_length n out ≡ Ok new → Adds SpellsLength n out new
unfolding write_length
length_adds n out new e =
    let k = where_ok (ltb n 16384) Range (out ++ (pad (length out) ++ octet_bits (length_octets n))) new e in
    record { bits = pad (length out) ++ octet_bits (length_octets n); parts = sym k.1; spelled = (ltb-true n 16384 k.0, refl) }

string_adds : (os : List ℕ) (out new : List Bool) → write_string os out ≡ Ok new → Adds SpellsString os out new
unfolding write_string
string_adds os out new e =
    let mid = bind_ok (write_length (length os) out) (λ counted. write_aligned os counted) new e in
    let k =
    pair_adds SpellsLength (SpellsAligned (length os)) (length os, os) out mid.0 new (length_adds (length os) out mid.0 mid.1)
    (aligned_adds os mid.0 new mid.2) in
    record { bits = k.bits; parts = k.parts; spelled = k.spelled }

bits_append : (b : Bool) (out xs ys : List Bool) → cond b (out ++ xs) (out ++ (ys ++ xs)) ≡ out ++ cond b xs (ys ++ xs)
bits_append true out xs ys = refl
bits_append false out xs ys = refl

bits_adds : (n : ℕ) (b out new : List Bool) → write_bits n b out ≡ Ok new → Adds (SpellsBits n) b out new
unfolding write_bits
bits_adds n b out new e =
    let k = where_ok (eqb (length b) n) Range (cond (ltb n 17) (out ++ b) (out ++ (pad (length out) ++ b))) new e in
    record {
      bits = cond (ltb n 17) b (pad (length out) ++ b);
      parts = sym k.1 ∙ bits_append (ltb n 17) out b (pad (length out));
      spelled = (eqb-true _ _ k.0, refl);
    }

bits_between_adds : (lo hi : ℕ) (b out new : List Bool)
    → (write_number lo hi (length b) out >>= λ counted. Ok (counted ++ (pad (length counted) ++ b))) ≡ Ok new
    → Adds (Spells (bits_between lo hi)) b out new
bits_between_adds lo hi b out new e =
    let g : List Bool → Result (List Bool) PerFault = λ counted. Ok (counted ++ (pad (length counted) ++ b)) in
    let mid = bind_ok (write_number lo hi (length b) out) g new e in
    let second : Adds (SpellsAlignedBits (length b)) b mid.0 new =
    record {
      bits = pad (length mid.0) ++ b;
      parts = sym (ok_is (mid.0 ++ (pad (length mid.0) ++ b)) new mid.2);
      spelled = (refl, refl);
    } in
    let k =
    pair_adds (SpellsNumber lo hi) (SpellsAlignedBits (length b)) (length b, b) out mid.0 new
    (number_adds lo hi (length b) out mid.0 mid.1) second in
    record { bits = k.bits; parts = k.parts; spelled = k.spelled }

-- after a bit
bit_adds : {A : Type 0} (b : Bool) (S : A → ℕ → List Bool → Type 0) (a : A) (out new : List Bool) → Adds S a (out ++ b ∷ []) new
    → (xs : List Bool) × (new ≡ out ++ (b ∷ xs)) × S a (length out + 1) xs
bit_adds b S a out new k =
    (k.bits, k.parts ∙ append_assoc out (b ∷ []) k.bits, subst (λ n. S a n k.bits) (length-append out (b ∷ [])) k.spelled)

closed_adds : {A : Type 0} (S : A → ℕ → List Bool → Type 0) (a : A) (out new : List Bool) → Adds S a (out ++ false ∷ []) new
    → Adds (SpellsClosed S) a out new
closed_adds S a out new k =
    let j = bit_adds false S a out new k in
    record { bits = false ∷ j.0; parts = j.1; spelled = (j.0, refl, j.2) }

enumerated_adds : (n : ℕ) (v : ℕ ⊎ ℕ) (out new : List Bool) → write_enumerated n v out ≡ Ok new
    → Adds (SpellsEnumerated n) v out new
enumerated_adds n (inl i) out new e =
    let j = bit_adds false (SpellsNumber 0 n) i out new (number_adds 0 n i (out ++ false ∷ []) new e) in
    record { bits = false ∷ j.0; parts = j.1; spelled = (j.0, refl, j.2) }
enumerated_adds n (inr i) out new e = absurd cc

-- as a whole octet string
pub padded-bits : (bs : List Bool) → octet_bits (padded bs) ≡ bs ++ pad (length bs)
unfolding padded
padded-bits bs =
    let len : length (bs ++ pad (length bs)) ≡ 8 * ((length bs + 7) / 8) =
    omega (arith, length-append bs (pad (length bs)), length-replicate (padding (length bs)) false) in
    bits-octets_of ((length bs + 7) / 8) (bs ++ pad (length bs)) len

pub whole_written : {A : Type 0} (S : A → ℕ → List Bool → Type 0) (w : A → List Bool → Result (List Bool) PerFault)
    → ((a : A) (out new : List Bool) → w a out ≡ Ok new → Adds S a out new)
    → (a : A) (os : List ℕ) → write_whole w a ≡ Ok os → Whole S a os
whole_written S w h a os e =
    let g : List Bool → Result (List ℕ) PerFault = λ bs. Ok (padded bs) in
    let m = bind_ok (w a []) g os e in
    let k = h a [] m.0 m.1 in (
      m.0,
      ap octet_bits (sym (ok_is (padded m.0) os m.2)) ∙ padded-bits m.0,
      subst (λ (l : List Bool). S a 0 l) (sym k.parts) k.spelled,
    )

mutual
  pub written : (f : Format) (v : Value f) (out new : List Bool) → write_at f v out ≡ Ok new → Adds (Spells f) v out new
  written (number lo hi) n out new e =
      let k = number_adds lo hi n out new e in record { bits = k.bits; parts = k.parts; spelled = k.spelled }
  written (octets n) os out new e =
      let k = octets_adds n os out new e in record { bits = k.bits; parts = k.parts; spelled = k.spelled }
  written (octets_between lo hi) os out new e =
      let mid = bind_ok (write_number lo hi (length os) out) (λ counted. write_aligned os counted) new e in
      let k =
      pair_adds (SpellsNumber lo hi) (SpellsAligned (length os)) (length os, os) out mid.0 new
      (number_adds lo hi (length os) out mid.0 mid.1) (aligned_adds os mid.0 new mid.2) in
      record { bits = k.bits; parts = k.parts; spelled = k.spelled }
  written octet_string os out new e =
      let k = string_adds os out new e in record { bits = k.bits; parts = k.parts; spelled = k.spelled }
  written (bit_string n) b out new e =
      let k = bits_adds n b out new e in record { bits = k.bits; parts = k.parts; spelled = k.spelled }
  written (bits_between lo hi) b out new e =
      let k = bits_between_adds lo hi b out new e in record { bits = k.bits; parts = k.parts; spelled = k.spelled }
  written (enumerated n) v out new e =
      let k = enumerated_adds n v out new e in record { bits = k.bits; parts = k.parts; spelled = k.spelled }
  written (closed f) v out new e = let k = closed_adds (Spells f) v out new (written f v (out ++ false ∷ []) new e) in
      record { bits = k.bits; parts = k.parts; spelled = k.spelled }
  written (open_type f) v out new e =
      let a = bind_ok (write_whole (write_at f) v) (λ os. write_string os out) new e in
      let k = string_adds a.0 out new a.2 in
      record {
        bits = k.bits;
        parts = k.parts;
        spelled = (a.0, k.spelled, whole_written (Spells f) (write_at f) (written f) v a.0 a.1);
      }
  written (items lo hi f) vs out new e =
      let mid = bind_ok (write_number lo hi (length vs) out) (λ counted. write_each (write_at f) vs counted) new e in
      let k =
      pair_adds (SpellsNumber lo hi) (SpellsEach (Spells f)) (length vs, vs) out mid.0 new
      (number_adds lo hi (length vs) out mid.0 mid.1) (each_adds (Spells f) (write_at f) (written f) vs mid.0 new mid.2) in
      record { bits = k.bits; parts = k.parts; spelled = k.spelled }
  written (plain fs) v out new e =
      let flags = presence fs v in
      let k = written_fields fs v (out ++ flags) new e in
      record {
        bits = flags ++ k.bits;
        parts = k.parts ∙ append_assoc out flags k.bits;
        spelled = (
          flags,
          k.bits,
          refl,
          length-presence fs v,
          subst (λ n. SpellsFields fs flags v n k.bits) (length-append out flags) k.spelled,
        );
      }
  written (sequence fs) v out new e =
      let flags : List Bool = false ∷ presence fs v in
      let k = written_fields fs v (out ++ flags) new e in
      record {
        bits = flags ++ k.bits;
        parts = k.parts ∙ append_assoc out flags k.bits;
        spelled = (
          flags,
          k.bits,
          [],
          ap (λ (l : List Bool). flags ++ l) (sym (append-nil k.bits)),
          ap suc (length-presence fs v),
          subst (λ n. SpellsFields fs (presence fs v) v n k.bits) (length-append out flags) k.spelled,
          refl,
        );
      }
  written (choice alts) v out new e =
      let start = out ++ false ∷ [] in
      let mid =
      bind_ok (write_number 0 (alternatives alts - 1) (index_of alts v) start) (λ chosen. write_chosen alts v chosen) new e in
      let first =
      closed_adds (SpellsNumber 0 (alternatives alts - 1)) (index_of alts v) out mid.0
      (number_adds 0 (alternatives alts - 1) (index_of alts v) start mid.0 mid.1) in
      let k =
      pair_adds (SpellsClosed (SpellsNumber 0 (alternatives alts - 1))) (λ w. SpellsChosen alts (index_of alts v) w)
      (index_of alts v, v) out mid.0 new first (written_chosen alts v mid.0 new mid.2) in
      record {
        bits = k.bits;
        parts = k.parts;
        spelled = (index_of alts v, k.spelled.0, k.spelled.1, k.spelled.2, k.spelled.3, k.spelled.4);
      }

  pub written_fields : (fs : Fields) (v : Values fs) (out new : List Bool) → write_fields fs v out ≡ Ok new
      → Adds (SpellsFields fs (presence fs v)) v out new
  written_fields done v out new e =
      record { bits = []; parts = (let k : out ≡ new = cc in sym k ∙ sym (append-nil out)); spelled = refl }
  written_fields (must f fs) v out new e =
      let a = bind_ok (write_at f v.0 out) (λ mid. write_fields fs v.1 mid) new e in
      let k =
      pair_adds (Spells f) (SpellsFields fs (presence fs v.1)) v out a.0 new (written f v.0 out a.0 a.1)
      (written_fields fs v.1 a.0 new a.2) in
      record { bits = k.bits; parts = k.parts; spelled = k.spelled }
  written_fields (may f fs) v out new e =
      let a = bind_ok (write_optional (write_at f) v.0 out) (λ mid. write_fields fs v.1 mid) new e in
      let k =
      pair_adds (SpellsOptional (is_some v.0) (Spells f)) (SpellsFields fs (presence fs v.1)) v out a.0 new
      (optional_adds (Spells f) (write_at f) (written f) v.0 out a.0 a.1) (written_fields fs v.1 a.0 new a.2) in
      record { bits = k.bits; parts = k.parts; spelled = k.spelled }
  written_fields (skip f fs) v out new e =
      let k = written_fields fs v out new e in
      record {
        bits = k.bits;
        parts = k.parts;
        spelled = ([], k.bits, refl, refl, subst (λ n. SpellsFields fs (presence fs v) v n k.bits) (omega arith) k.spelled);
      }
  written_fields (fixed lo hi n fs) v out new e =
      let a = bind_ok (write_number lo hi n out) (λ mid. write_fields fs v mid) new e in
      let k =
      pair_adds (SpellsNumber lo hi) (SpellsFields fs (presence fs v)) (n, v) out a.0 new (number_adds lo hi n out a.0 a.1)
      (written_fields fs v a.0 new a.2) in
      record { bits = k.bits; parts = k.parts; spelled = k.spelled }
  written_fields (marked lo hi n fs) v out new e =
      let a = bind_ok (write_number lo hi n out) (λ mid. write_fields fs v mid) new e in
      let k =
      pair_adds (SpellsNumber lo hi) (SpellsFields fs (presence fs v)) (n, v) out a.0 new (number_adds lo hi n out a.0 a.1)
      (written_fields fs v a.0 new a.2) in
      record { bits = k.bits; parts = k.parts; spelled = (n, k.spelled.0, k.spelled.1, k.spelled.2, k.spelled.3, k.spelled.4) }

  pub written_chosen : (alts : Alternatives) (v : Chosen alts) (out new : List Bool) → write_chosen alts v out ≡ Ok new
      → Adds (SpellsChosen alts (index_of alts v)) v out new
  written_chosen (last f) v out new e =
      let k = written f v out new e in record { bits = k.bits; parts = k.parts; spelled = (refl, k.spelled) }
  written_chosen (either f alts) (inl v) out new e =
      let k = written f v out new e in record { bits = k.bits; parts = k.parts; spelled = k.spelled }
  written_chosen (either f alts) (inr v) out new e =
      let k = written_chosen alts v out new e in record { bits = k.bits; parts = k.parts; spelled = k.spelled }

-- ---- complete encodings

pub complete_written : (f : Format) (v : Value f) (os : List ℕ) → complete_write f v ≡ Ok os → SpellsWhole f v os
complete_written f v os e = whole_written (Spells f) (write_at f) (written f) v os e

pub written_again : (f : Format) (v : Value f) (os : List ℕ) → complete_write f v ≡ Ok os → complete_at f os ≡ Ok v
written_again f v os e = complete_again f os v (complete_written f v os e)
