-- Keys and MACs are octets: digests and what is derived by them, and what the cipher gives under a key of octets.
use Rattle.std.proofs.Common.{◌≡◌, ℕ, zero, suc, ◌+◌, ◌*◌, ◌%◌, ◌<◌, Bool, true, false, cond, ltb, eqb, List, [], ◌∷◌, ◌++◌, length, take, drop, slice_index, refl, arith}
use Rattle.std.specs.Prelude.{bit_xor}
use Rattle.std.specs.Int.{w32, to_be_bytes}
use Rattle.std.proofs.lemmas.Bool.{and_from, and_parts, eq-eqb, lt-ltb}
use Rattle.std.proofs.lemmas.List.{length-append, length-take}
use Rattle.std.proofs.lemmas.Nat.{xor_lt}
use Rattle.sha2.specs.Sha256.{digest_bytes, sha256}
use Rattle.per_streams.specs.Octet.{AreBytes, all_below}
use Rattle.eps_keys.specs.declared.direction.DirectionBit.{DirectionBit}
use Rattle.eps_keys.specs.Aes.{aes, block_of, keys_from, last_round, next_key, rotated_and_substituted, round, round_constants, rounds, shift_rows, sub_bytes, word, word_of, xor_blocks, xor_words}
use Rattle.eps_keys.specs.Cmac.{cmac_from}
use Rattle.eps_keys.specs.Eia2.{eia2}
use Rattle.eps_keys.specs.Field.{substitute}
use Rattle.eps_keys.specs.Hmac.{hmac_sha256, hmac_short, kenb, nas_integrity_key, next_hop, parameters}
use Rattle.laws_network.specs.BuilderLaws.{bytes_long, four_bytes}
use Rattle.laws_network.specs.NasLaws.{below_append, below_at, below_drop, brief_more, brief_none}
use Rattle.laws_network.specs.Ranges.{IsBrief}

-- ---- digests

digest_long : (h : List ℕ) (n : ℕ) → length (digest_bytes h n) ≡ n * 4
unfolding digest_bytes
digest_long h zero = refl
digest_long h (suc n) =
    let before = digest_long h n in
    omega (
      arith,
      before,
      bytes_long 4 (to_be_bytes w32 (slice_index h n)) (four_bytes (slice_index h n)),
      length-append (digest_bytes h n) (to_be_bytes w32 (slice_index h n)),
    )

digest_below : (h : List ℕ) (n : ℕ) → all_below 256 (digest_bytes h n) ≡ true
unfolding digest_bytes
digest_below h zero = refl
digest_below h (suc n) =
    let word = to_be_bytes w32 (slice_index h n) in
    below_append (digest_bytes h n) word (digest_below h n)
    (and_parts (eqb (length word) 4) (all_below 256 word) (four_bytes (slice_index h n))).1

digest_bytes_are : (h : List ℕ) → AreBytes 32 (digest_bytes h 8)
digest_bytes_are h = and_from (eqb (length (digest_bytes h 8)) 32) _ (eq-eqb _ 32 (digest_long h 8)) (digest_below h 8)

sha256_bytes : (m : List ℕ) → AreBytes 32 (sha256 m)
unfolding sha256
sha256_bytes m = digest_bytes_are _

either_bytes : (b : Bool) (xs ys : List ℕ) → AreBytes 32 xs → AreBytes 32 ys → AreBytes 32 (cond b xs ys)
either_bytes true xs ys p q = p
either_bytes false xs ys p q = q

hmac_bytes : (key m : List ℕ) → AreBytes 32 (hmac_sha256 key m)
unfolding hmac_sha256 hmac_short
hmac_bytes key m = either_bytes (ltb 64 (length key)) _ _ (sha256_bytes _) (sha256_bytes _)

pub kenb_bytes : (kasme : List ℕ) (count : ℕ) → AreBytes 32 (kenb kasme count)
unfolding kenb
kenb_bytes kasme count = hmac_bytes kasme _

pub next_hop_bytes : (kasme previous : List ℕ) → AreBytes 32 (next_hop kasme previous)
unfolding next_hop
next_hop_bytes kasme previous = hmac_bytes kasme _

pub integrity_key_below : (kasme : List ℕ) → all_below 256 (nas_integrity_key kasme) ≡ true
unfolding nas_integrity_key
integrity_key_below kasme =
    let m = 0x15 ∷ parameters ((2 ∷ []) ∷ (2 ∷ []) ∷ []) in
    below_drop 16 (hmac_sha256 kasme m)
    (and_parts (eqb (length (hmac_sha256 kasme m)) 32) (all_below 256 (hmac_sha256 kasme m)) (hmac_bytes kasme m)).1

-- ---- the cipher

xor_below : (a b : ℕ) → a < 256 → b < 256 → bit_xor a b < 256
xor_below a b p q = xor_lt 8 a b p q

more_below : (x : ℕ) (os : List ℕ) → x < 256 → all_below 256 os ≡ true → all_below 256 (x ∷ os) ≡ true
more_below x os p q = and_from (ltb x 256) (all_below 256 os) (lt-ltb x 256 p) q

word_below : (f : ℕ → ℕ) → ((i : ℕ) → f i < 256) → all_below 256 (word_of f) ≡ true
word_below f h =
    let four : IsBrief 4 (word_of f) =
    brief_more (lt-ltb (f 0) 256 (h 0))
    (brief_more (lt-ltb (f 1) 256 (h 1)) (brief_more (lt-ltb (f 2) 256 (h 2)) (brief_more (lt-ltb (f 3) 256 (h 3)) brief_none))) in
    four.octets

block_below : (f : ℕ → ℕ) → ((i : ℕ) → f i < 256) → all_below 256 (block_of f) ≡ true
block_below f h =
    let block : IsBrief 16 (block_of f) = brief_more (lt-ltb (f 0) 256 (h 0)) (brief_more (lt-ltb (f 1) 256 (h 1))
    (brief_more (lt-ltb (f 2) 256 (h 2)) (brief_more (lt-ltb (f 3) 256 (h 3)) (brief_more (lt-ltb (f 4) 256 (h 4))
    (brief_more (lt-ltb (f 5) 256 (h 5)) (brief_more (lt-ltb (f 6) 256 (h 6)) (brief_more (lt-ltb (f 7) 256 (h 7))
    (brief_more (lt-ltb (f 8) 256 (h 8)) (brief_more (lt-ltb (f 9) 256 (h 9)) (brief_more (lt-ltb (f 10) 256 (h 10))
    (brief_more (lt-ltb (f 11) 256 (h 11)) (brief_more (lt-ltb (f 12) 256 (h 12)) (brief_more (lt-ltb (f 13) 256 (h 13))
    (brief_more (lt-ltb (f 14) 256 (h 14)) (brief_more (lt-ltb (f 15) 256 (h 15)) brief_none))))))))))))))) in
    block.octets

remainder : (n : ℕ) → n % 2 < 2
remainder n = omega arith

eight_bits : (a b c d e f g h : ℕ) → a < 2 → b < 2 → c < 2 → d < 2 → e < 2 → f < 2 → g < 2 → h < 2
    → a + 2 * b + 4 * c + 8 * d + 16 * e + 32 * f + 64 * g + 128 * h < 256
eight_bits a b c d e f g h p q r s t u v w = omega arith

substitute_below : (a : ℕ) → substitute a < 256
unfolding substitute
substitute_below a =
    eight_bits _ _ _ _ _ _ _ _ (remainder _) (remainder _) (remainder _) (remainder _) (remainder _) (remainder _) (remainder _)
    (remainder _)

xor_words_below : (a b : List ℕ) → all_below 256 a ≡ true → all_below 256 b ≡ true → all_below 256 (xor_words a b) ≡ true
xor_words_below a b p q =
    word_below (λ i. bit_xor (slice_index a i) (slice_index b i)) (λ i. xor_below _ _ (below_at a i p) (below_at b i q))

xor_blocks_below : (a b : List ℕ) → all_below 256 a ≡ true → all_below 256 b ≡ true → all_below 256 (xor_blocks a b) ≡ true
xor_blocks_below a b p q =
    block_below (λ i. bit_xor (slice_index a i) (slice_index b i)) (λ i. xor_below _ _ (below_at a i p) (below_at b i q))

part_below : (k : List ℕ) (j : ℕ) → all_below 256 k ≡ true → all_below 256 (word k j) ≡ true
part_below k j p = word_below (λ i. slice_index k (4 * j + i)) (λ i. below_at k (4 * j + i) p)

rotated_below : (w : List ℕ) → all_below 256 (rotated_and_substituted w) ≡ true
rotated_below w = word_below (λ i. substitute (slice_index w ((i + 1) % 4))) (λ i. substitute_below _)

next_key_below : (c : ℕ) (k : List ℕ) → c < 256 → all_below 256 k ≡ true → all_below 256 (next_key c k) ≡ true
unfolding next_key
next_key_below c k low p =
    let first = xor_words (xor_words (word k 0) (rotated_and_substituted (word k 3))) (c ∷ 0 ∷ 0 ∷ 0 ∷ []) in
    let second = xor_words (word k 1) first in
    let third = xor_words (word k 2) second in
    let fourth = xor_words (word k 3) third in
    let constant : all_below 256 (c ∷ 0 ∷ 0 ∷ 0 ∷ []) ≡ true = more_below c (0 ∷ 0 ∷ 0 ∷ []) low refl in
    let mixed = xor_words_below (word k 0) (rotated_and_substituted (word k 3)) (part_below k 0 p) (rotated_below (word k 3)) in
    let one = xor_words_below (xor_words (word k 0) (rotated_and_substituted (word k 3))) (c ∷ 0 ∷ 0 ∷ 0 ∷ []) mixed constant in
    let two = xor_words_below (word k 1) first (part_below k 1 p) one in
    let three = xor_words_below (word k 2) second (part_below k 2 p) two in
    let four = xor_words_below (word k 3) third (part_below k 3 p) three in
    below_append first (second ++ third ++ fourth) one
    (below_append second (third ++ fourth) two (below_append third fourth three four))

last_round_below : (s k : List ℕ) → all_below 256 k ≡ true → all_below 256 (last_round s k) ≡ true
unfolding last_round
last_round_below s k p =
    let substituted : all_below 256 (sub_bytes s) ≡ true =
    block_below (λ i. substitute (slice_index s i)) (λ i. substitute_below _) in
    let shifted : all_below 256 (shift_rows (sub_bytes s)) ≡ true =
    block_below (λ i. slice_index (sub_bytes s) ((i + 4 * (i % 4)) % 16)) (λ i. below_at (sub_bytes s) _ substituted) in
    xor_blocks_below (shift_rows (sub_bytes s)) k shifted p

rounds_below : (cs k s : List ℕ) → all_below 256 cs ≡ true → all_below 256 k ≡ true
    → all_below 256 (rounds (keys_from cs k) s) ≡ true
unfolding rounds keys_from
rounds_below [] k s low p = last_round_below s k p
rounds_below (c ∷ []) k s low p = last_round_below (round s k) (next_key c k) (next_key_below c k (below_at (c ∷ []) 0 low) p)
rounds_below (c ∷ d ∷ cs) k s low p =
    rounds_below (d ∷ cs) (next_key c k) (round s k) (and_parts (ltb c 256) (all_below 256 (d ∷ cs)) low).1
    (next_key_below c k (below_at (c ∷ d ∷ cs) 0 low) p)

aes_below : (key block : List ℕ) → all_below 256 key ≡ true → all_below 256 (aes key block) ≡ true
unfolding aes keys_from
aes_below key block p =
    rounds_below (drop 1 round_constants) (next_key 1 key) (xor_blocks block key) refl (next_key_below 1 key (omega arith) p)

below_take : (n : ℕ) (os : List ℕ) → all_below 256 os ≡ true → all_below 256 (take n os) ≡ true
below_take zero os e = refl
below_take (suc n) [] e = refl
below_take (suc n) (o ∷ os) e =
    let parts = and_parts (ltb o 256) (all_below 256 os) e in and_from (ltb o 256) _ parts.0 (below_take n os parts.1)

first_four : (os : List ℕ) → all_below 256 os ≡ true → IsBrief 16 (take 4 os)
first_four os e = record { few = omega (arith, length-take 4 os); octets = below_take 4 os e }

pub brief_mac : (key : List ℕ) → all_below 256 key ≡ true → (count : ℕ) (direction : DirectionBit) (octets : List ℕ)
    → IsBrief 16 (eia2 key count direction octets)
unfolding cmac_from
brief_mac key p count direction octets = first_four _ (aes_below key _ p)
