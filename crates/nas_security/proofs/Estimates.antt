-- The least count with given low bits, found by one addition.
use Rattle.std.proofs.Common.{◌≡◌, ℕ, zero, suc, ◌+◌, ◌-◌, ◌*◌, ◌/◌, ◌%◌, ◌^◌, ◌<◌, ◌≤◌, ◌==◌, Bool, true, false, Option, Some, None, find, refl, sym, ap, ◌∙◌, arith, inl, inr, ◌⊎◌}
use Rattle.std.proofs.lemmas.Bool.{cases_lt, eq-eqb, ne_eqb, eqb-true, eqb-false}
use Rattle.std.proofs.lemmas.Nat.{mod-mul-add, div-add-mod', mul-le}
use Rattle.nas_security.specs.Near.{IsNear}
use Rattle.nas_security.specs.Counts.{counted, estimate, first_after, IsEstimate}

-- a number with its low bits put in place of others has these
with_bits : (first bits modulus c : ℕ) → bits < modulus → (k : ℕ) → c ≡ k * modulus + bits → c % modulus ≡ bits
with_bits first bits modulus c low k e = ap (λ (n : ℕ). n % modulus) e ∙ mod-mul-add k modulus bits low

pub near_low : (first bits modulus : ℕ) → bits < modulus → first % modulus ≤ bits
    → IsNear first bits modulus (first + (bits - first % modulus))
near_low first bits modulus low below =
    let parts = div-add-mod' first modulus in record {
      low = omega arith;
      high = omega arith;
      same = with_bits first bits modulus _ low (first / modulus) (omega arith);
    }

pub near_high : (first bits modulus : ℕ) → bits < modulus → bits < first % modulus → first % modulus < modulus
    → IsNear first bits modulus (first + (modulus - first % modulus + bits))
near_high first bits modulus low above small =
    let parts = div-add-mod' first modulus in
    let one_more : suc (first / modulus) * modulus ≡ first / modulus * modulus + modulus = omega arith in record {
      low = omega arith;
      high = omega arith;
      same = with_bits first bits modulus _ low (suc (first / modulus)) (omega (arith, one_more));
    }

-- two numbers with the same low bits are a whole turn apart
apart : (n c bits modulus : ℕ) → n % modulus ≡ bits → c % modulus ≡ bits → n < c → c < n + modulus → ⊥
apart n c bits modulus en ec below near =
    let a = div-add-mod' n modulus in
    let b = div-add-mod' c modulus in
    elim (cases_lt (n / modulus) (c / modulus)) [
      | inl lt ↦
          let one_more : suc (n / modulus) * modulus ≡ n / modulus * modulus + modulus = omega arith in
          let row = mul-le (suc (n / modulus)) modulus (c / modulus) modulus (omega arith) (omega arith) in omega (arith, one_more, row)
      | inr ge ↦ let row = mul-le (c / modulus) modulus (n / modulus) modulus ge (omega arith) in omega (arith, row)
    ]

find_here : (p : ℕ → Bool) (k first c : ℕ) → first ≤ c → c < first + k → ((n : ℕ) → first ≤ n → n < c → p n ≡ false) → p c ≡ true
    → find p (counted first k) ≡ Some c
find_here p zero first c low high before at = absurd (omega arith)
find_here p (suc k) first c low high before at = elim (cases_lt first c) [
  | inl lt ↦ rw (before first (omega arith) lt) (find_here p k (first + 1) c (omega arith) (omega arith) (λ n l h. before n (omega arith) h) at)
  | inr ge ↦ let e : first ≡ c = omega arith in rw (e, at) refl
]

find_nowhere : (p : ℕ → Bool) (k first : ℕ) → ((n : ℕ) → first ≤ n → n < first + k → p n ≡ false) → find p (counted first k) ≡ None
find_nowhere p zero first none = refl
find_nowhere p (suc k) first none =
    rw (none first (omega arith) (omega arith)) (find_nowhere p k (first + 1) (λ n l h. none n (omega arith) (omega arith)))

-- below a near count no number has the low bits
none_before : (first bits modulus c : ℕ) → IsNear first bits modulus c → (n : ℕ) → first ≤ n → n < c → (n % modulus == bits) ≡ false
none_before first bits modulus c near n low below =
    ne_eqb (n % modulus) bits (λ e. apart n c bits modulus e near.same below (omega (arith, near.high)))

pub estimate_near : (last : Option ℕ) (bits modulus c : ℕ) → IsNear (first_after last) bits modulus c → c < 2 ^ 24
    → Some c ≡ estimate last bits modulus
unfolding estimate
estimate_near last bits modulus c near fits =
    sym (find_here (λ n. n % modulus == bits) (2 ^ 24 - first_after last) (first_after last) c near.low (omega (arith, near.low))
    (none_before (first_after last) bits modulus c near) (eq-eqb (c % modulus) bits near.same))

pub estimate_spent : (last : Option ℕ) (bits modulus c : ℕ) → IsNear (first_after last) bits modulus c → 2 ^ 24 ≤ c
    → None ≡ estimate last bits modulus
unfolding estimate
estimate_spent last bits modulus c near high =
    sym (find_nowhere (λ n. n % modulus == bits) (2 ^ 24 - first_after last) (first_after last)
    (λ n l h. none_before (first_after last) bits modulus c near n l (omega arith)))

-- what a search found, and what it passed

at_head : (p : ℕ → Bool) (k first n : ℕ) (b : Bool) → p first ≡ b → find p (counted first (suc k)) ≡ Some n
    → ((b ≡ true) × (first ≡ n)) ⊎ ((b ≡ false) × (find p (counted (first + 1) k) ≡ Some n))
at_head p k first n true e h = let found : find p (counted first (suc k)) ≡ Some first = rw e refl in inl (refl, (cc))
at_head p k first n false e h =
    let passed : find p (counted first (suc k)) ≡ find p (counted (first + 1) k) = rw e refl in inr (refl, sym passed ∙ h)

record Found (p : ℕ → Bool) (first k n : ℕ) : Type 0 where
  above : first ≤ n
  below : n < first + k
  passes : p n ≡ true
  least : (m : ℕ) → first ≤ m → m < n → p m ≡ false

found : (p : ℕ → Bool) (k first n : ℕ) → find p (counted first k) ≡ Some n → Found p first k n
found p zero first n h = absurd (cc)
found p (suc k) first n h = elim (at_head p k first n (p first) refl h) [
  | inl here ↦ record { above = omega arith; below = omega arith; passes = ap p (sym here.1) ∙ here.0; least = λ m l u. absurd (omega (arith, here.1)) }
  | inr later ↦
      let rest = found p k (first + 1) n later.1 in record {
        above = omega (arith, rest.above);
        below = omega (arith, rest.below);
        passes = rest.passes;
        least = λ m l u. elim (cases_lt first m) [
          | inl lt ↦ rest.least m (omega arith) u
          | inr ge ↦ let e : m ≡ first = omega arith in ap p e ∙ later.0
        ];
      }
]

pub estimated : (last : Option ℕ) (bits modulus n : ℕ) → estimate last bits modulus ≡ Some n → IsEstimate last bits modulus n
unfolding estimate
estimated last bits modulus n h =
    let f = found (λ n. n % modulus == bits) (2 ^ 24 - first_after last) (first_after last) n h in record {
      above = f.above;
      fits = omega (arith, f.above, f.below);
      same = eqb-true (n % modulus) bits f.passes;
      least = λ m l u e. eqb-false (m % modulus) bits (f.least m l u) e;
    }

not_at_head : (p : ℕ → Bool) (k first : ℕ) (b : Bool) → p first ≡ b → find p (counted first (suc k)) ≡ None
    → (p first ≡ false) × (find p (counted (first + 1) k) ≡ None)
not_at_head p k first true e h = let found : find p (counted first (suc k)) ≡ Some first = rw e refl in absurd (cc)
not_at_head p k first false e h =
    let passed : find p (counted first (suc k)) ≡ find p (counted (first + 1) k) = rw e refl in (e, sym passed ∙ h)

nowhere : (p : ℕ → Bool) (k first : ℕ) → find p (counted first k) ≡ None → (n : ℕ) → first ≤ n → n < first + k → p n ≡ false
nowhere p zero first h n l u = absurd (omega arith)
nowhere p (suc k) first h n l u =
    let parts = not_at_head p k first (p first) refl h in
    elim (cases_lt first n) [
      | inl lt ↦ nowhere p k (first + 1) parts.1 n (omega arith) (omega arith)
      | inr ge ↦ let same : n ≡ first = omega arith in ap p same ∙ parts.0
    ]

pub not_estimated : (last : Option ℕ) (bits modulus : ℕ) → estimate last bits modulus ≡ None → (n : ℕ) → first_after last ≤ n
    → n < 2 ^ 24 → n % modulus ≡ bits → ⊥
unfolding estimate
not_estimated last bits modulus h n l u e =
    eqb-false (n % modulus) bits
    (nowhere (λ n. n % modulus == bits) (2 ^ 24 - first_after last) (first_after last) h n l (omega arith)) e
