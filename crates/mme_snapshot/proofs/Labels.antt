-- Tests of lists, and what they say of each element of a label.
use Rattle.std.proofs.Common.{◌≡◌, ◌<◌, ℕ, zero, suc, List, [], ◌∷◌, length, Bool, true, false, refl, arith}
use Rattle.std.specs.Prelude.{◌&&◌, nat_le, slice_index_or}
use Rattle.std.specs.List.{All, list_all}
use Rattle.std.proofs.lemmas.Bool.Decides.{nat_tests}
use Rattle.mme_types.specs.Network.{IsLabel, is_label_octet}
use Rattle.mme_snapshot.specs.Images.{is_label}

both : (a b : Bool) → a && b ≡ true → (a ≡ true) × (b ≡ true)
both true b h = (refl, h)
both false b h = absurd (cc h)

all_hold : (p : ℕ → Bool) (xs : List ℕ) → list_all p xs ≡ true → (k d : ℕ) → k < length xs → p (slice_index_or xs k d) ≡ true
all_hold p [] h k d lt = absurd (omega arith)
all_hold p (x ∷ xs) h zero d lt = (both (p x) (list_all p xs) h).0
all_hold p (x ∷ xs) h (suc k) d lt = all_hold p xs (both (p x) (list_all p xs) h).1 k d (omega arith)

all_told : (p : ℕ → Bool) (xs : List ℕ) → All (λ c. p c ≡ true) xs → list_all p xs ≡ true
all_told p [] h = refl
all_told p (x ∷ xs) h =
    let first : p x ≡ true = h 0 x (omega arith) in
    let more : list_all p xs ≡ true = all_told p xs (λ k d lt. h (suc k) d (omega arith)) in
    rw (first, more) refl

pub label_if : (os : List ℕ) → IsLabel os → is_label os ≡ true
label_if os h =
    let least = h.0 in
    let most = h.1 in
    let some : nat_le 1 (length os) ≡ true = grind (arith, nat_tests) in
    let few : nat_le (length os) 63 ≡ true = grind (arith, nat_tests) in
    rw (some, few, all_told is_label_octet os h.2) refl

label_of : (os : List ℕ) → is_label os ≡ true → IsLabel os
label_of os h =
    let a = both _ (list_all is_label_octet os) h in
    let b = both (nat_le 1 (length os)) (nat_le (length os) 63) a.0 in
    let some = b.0 in
    let few = b.1 in
    (grind (arith, nat_tests), grind (arith, nat_tests), all_hold is_label_octet os a.1)

no_label_by : (os : List ℕ) (b : Bool) → is_label os ≡ b → (IsLabel os → ⊥) → is_label os ≡ false
no_label_by os true is unlabelled = absurd (unlabelled (label_of os is))
no_label_by os false is unlabelled = is

pub no_label : (os : List ℕ) → (IsLabel os → ⊥) → is_label os ≡ false
no_label os unlabelled = no_label_by os (is_label os) refl unlabelled
