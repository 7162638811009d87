-- The digits of country and network, written as they were read.
use Rattle.std.proofs.Common.{◌≡◌, ℕ, ◌+◌, ◌-◌, ◌/◌, ◌%◌, ◌≤◌, ◌==◌, Bool, true, false, cond, List, [], ◌∷◌, Ok, Err, refl, sym, ap, subst, ◌∙◌, arith, ◌⊎◌, inl, inr}
use Rattle.std.specs.Char.{is_ascii_digit}
use Rattle.std.specs.Fmt.{decimal}
use Rattle.std.proofs.lemmas.Fmt.{decimal_digit}
use Rattle.std.proofs.lemmas.Bool.{eq-eqb, ne_eqb}
use Rattle.std.proofs.lemmas.Bool.Decides.{nat_tests}
use Rattle.trace_words.specs.declared.fault.TraceFault.TheVariants.{BadNumber}
use Rattle.trace_words.specs.Trace.{digit_of, country_of, network_of, packed, plmn_octets, plmn_field, country_text, network_text, ◌>>=◌}
use Rattle.trace_words.proofs.Rewritten.{ok_with}
use Rattle.trace_words.specs.WordLaws.{is_word, word_over}

record IsDigit (c d : ℕ) : Type 0 where
  text : c ≡ 48 + d
  small : d ≤ 9

digit_range : (c : ℕ) → is_ascii_digit c ≡ true → IsDigit c (c - 48)
digit_range c e = record { text = grind (arith, nat_tests); small = grind (arith, nat_tests) }

digit_read : (c d : ℕ) → digit_of c ≡ Ok d → IsDigit c d
digit_read c d e = go (is_ascii_digit c) (digit_range c) e
  where
    go : (b : Bool) → (b ≡ true → IsDigit c (c - 48)) → cond b (Ok (c - 48)) (Err BadNumber) ≡ Ok d → IsDigit c d
    go true s h = let same : c - 48 ≡ d = cc h in subst (IsDigit c) same (s refl)
    go false s h = absurd (cc h)

record Three (t : List ℕ) (n : ℕ × ℕ × ℕ) : Type 0 where
  text : t ≡ (48 + n.0) ∷ (48 + n.1) ∷ (48 + n.2) ∷ []
  first : n.0 ≤ 9
  second : n.1 ≤ 9
  third : n.2 ≤ 9

record Two (t : List ℕ) (n : ℕ × ℕ × ℕ) : Type 0 where
  text : t ≡ (48 + n.1) ∷ (48 + n.2) ∷ []
  first : n.0 ≡ 15
  second : n.1 ≤ 9
  third : n.2 ≤ 9

three_read : (a b c : ℕ) (n : ℕ × ℕ × ℕ) → (digit_of a >>= (λ x. digit_of b >>= (λ y. digit_of c >>= (λ z. Ok (x, y, z))))) ≡ Ok n
    → Three (a ∷ b ∷ c ∷ []) n
three_read a b c n e =
    ok_with (Three (a ∷ b ∷ c ∷ []) n) (digit_of a) (λ x. digit_of b >>= (λ y. digit_of c >>= (λ z. Ok (x, y, z)))) n e
    (λ x r0 e0. ok_with (Three (a ∷ b ∷ c ∷ []) n) (digit_of b) (λ y. digit_of c >>= (λ z. Ok (x, y, z))) n e0
    (λ y r1 e1. ok_with (Three (a ∷ b ∷ c ∷ []) n) (digit_of c) (λ z. Ok (x, y, z)) n e1
    (λ z r2 e2.
    let f = digit_read a x r0 in
    let g = digit_read b y r1 in
    let h = digit_read c z r2 in
    let same : (let v : ℕ × ℕ × ℕ = (x, y, z) in v) ≡ n = cc e2 in
    subst (Three (a ∷ b ∷ c ∷ [])) same (record { text = rw (f.text, g.text, h.text) refl; first = f.small; second = g.small; third = h.small }))))

two_read : (a b : ℕ) (n : ℕ × ℕ × ℕ) → (digit_of a >>= (λ x. digit_of b >>= (λ y. Ok (15, x, y)))) ≡ Ok n → Two (a ∷ b ∷ []) n
two_read a b n e =
    ok_with (Two (a ∷ b ∷ []) n) (digit_of a) (λ x. digit_of b >>= (λ y. Ok (15, x, y))) n e
    (λ x r0 e0. ok_with (Two (a ∷ b ∷ []) n) (digit_of b) (λ y. Ok (15, x, y)) n e0
    (λ y r1 e1.
    let f = digit_read a x r0 in
    let g = digit_read b y r1 in
    let same : (let v : ℕ × ℕ × ℕ = (15, x, y) in v) ≡ n = cc e1 in
    subst (Two (a ∷ b ∷ [])) same (record { text = rw (f.text, g.text) refl; first = refl; second = f.small; third = g.small })))

country_read : (t : List ℕ) (n : ℕ × ℕ × ℕ) → country_of t ≡ Ok n → Three t n
country_read [] n e = absurd (cc e)
country_read (a ∷ []) n e = absurd (cc e)
country_read (a ∷ b ∷ []) n e = absurd (cc e)
country_read (a ∷ b ∷ c ∷ []) n e = three_read a b c n e
country_read (a ∷ b ∷ c ∷ d ∷ rest) n e = absurd (cc e)

network_read : (t : List ℕ) (n : ℕ × ℕ × ℕ) → network_of t ≡ Ok n → Two t n ⊎ Three t n
network_read [] n e = absurd (cc e)
network_read (a ∷ []) n e = absurd (cc e)
network_read (a ∷ b ∷ []) n e = inl (two_read a b n e)
network_read (a ∷ b ∷ c ∷ []) n e = inr (three_read a b c n e)
network_read (a ∷ b ∷ c ∷ d ∷ rest) n e = absurd (cc e)

low : (a b : ℕ) → b ≤ 15 → packed b a % 16 ≡ b
low a b h = omega (arith, h)

high : (a b : ℕ) → b ≤ 15 → packed b a / 16 ≡ a
high a b h = omega (arith, h)

country_written : (x y z u : ℕ) (rest : List ℕ) → x ≤ 9 → y ≤ 9 → z ≤ 9
    → country_text (packed x y ∷ packed z u ∷ rest) ≡ (48 + x) ∷ (48 + y) ∷ (48 + z) ∷ []
country_written x y z u rest hx hy hz =
    let a : decimal (packed x y % 16) ≡ (48 + x) ∷ [] = ap decimal (low y x (omega arith)) ∙ decimal_digit x (omega arith) in
    let b : decimal (packed x y / 16) ≡ (48 + y) ∷ [] = ap decimal (high y x (omega arith)) ∙ decimal_digit y (omega arith) in
    let c : decimal (packed z u % 16) ≡ (48 + z) ∷ [] = ap decimal (low u z (omega arith)) ∙ decimal_digit z (omega arith) in
    rw (a, b, c) refl

two_written : (p z u v w : ℕ) → z ≤ 9 → u ≡ 15 → v ≤ 9 → w ≤ 9
    → network_text (p ∷ packed z u ∷ packed v w ∷ []) ≡ (48 + v) ∷ (48 + w) ∷ []
two_written p z u v w hz hu hv hw =
    let s : (packed z u / 16 == 15) ≡ true = eq-eqb (packed z u / 16) 15 (high u z (omega arith) ∙ hu) in
    let a : decimal (packed v w % 16) ≡ (48 + v) ∷ [] = ap decimal (low w v (omega arith)) ∙ decimal_digit v (omega arith) in
    let b : decimal (packed v w / 16) ≡ (48 + w) ∷ [] = ap decimal (high w v (omega arith)) ∙ decimal_digit w (omega arith) in
    rw (s, a, b) refl

three_written : (p z u v w : ℕ) → z ≤ 9 → u ≤ 9 → v ≤ 9 → w ≤ 9
    → network_text (p ∷ packed z u ∷ packed v w ∷ []) ≡ (48 + u) ∷ (48 + v) ∷ (48 + w) ∷ []
three_written p z u v w hz hu hv hw =
    let top : packed z u / 16 ≡ u = high u z (omega arith) in
    let s : (packed z u / 16 == 15) ≡ false = ne_eqb (packed z u / 16) 15 (λ q. absurd (omega (arith, top, q))) in
    let a : decimal (packed z u / 16) ≡ (48 + u) ∷ [] = ap decimal top ∙ decimal_digit u (omega arith) in
    let b : decimal (packed v w % 16) ≡ (48 + v) ∷ [] = ap decimal (low w v (omega arith)) ∙ decimal_digit v (omega arith) in
    let c : decimal (packed v w / 16) ≡ (48 + w) ∷ [] = ap decimal (high w v (omega arith)) ∙ decimal_digit w (omega arith) in
    rw (s, a, b, c) refl

pub record SameDigits (country network p : List ℕ) : Type 0 where
  pub country_same : country_text p ≡ country
  pub network_same : network_text p ≡ network
  pub country_word : is_word country ≡ true
  pub network_word : is_word network ≡ true

two_word : (v w : ℕ) → is_word ((48 + v) ∷ (48 + w) ∷ []) ≡ true
two_word v w = word_over (48 + v) ((48 + w) ∷ []) (omega arith) (word_over (48 + w) [] (omega arith) refl)

three_word : (u v w : ℕ) → is_word ((48 + u) ∷ (48 + v) ∷ (48 + w) ∷ []) ≡ true
three_word u v w = word_over (48 + u) ((48 + v) ∷ (48 + w) ∷ []) (omega arith) (two_word v w)

same_digits : (a b : List ℕ) (c n : ℕ × ℕ × ℕ) → Three a c → Two b n ⊎ Three b n → SameDigits a b (plmn_octets c n)
same_digits a b c n t (inl two) = record {
  country_same = country_written c.0 c.1 c.2 n.0 (packed n.1 n.2 ∷ []) t.first t.second t.third ∙ sym t.text;
  network_same = two_written (packed c.0 c.1) c.2 n.0 n.1 n.2 t.third two.first two.second two.third ∙ sym two.text;
  country_word = ap is_word t.text ∙ three_word c.0 c.1 c.2;
  network_word = ap is_word two.text ∙ two_word n.1 n.2;
}
same_digits a b c n t (inr three) = record {
  country_same = country_written c.0 c.1 c.2 n.0 (packed n.1 n.2 ∷ []) t.first t.second t.third ∙ sym t.text;
  network_same = three_written (packed c.0 c.1) c.2 n.0 n.1 n.2 t.third three.first three.second three.third ∙ sym three.text;
  country_word = ap is_word t.text ∙ three_word c.0 c.1 c.2;
  network_word = ap is_word three.text ∙ three_word n.0 n.1 n.2;
}

-- a network is written in the digits from which it was read
pub plmn_same : (a b p : List ℕ) → plmn_field a b ≡ Ok p → SameDigits a b p
plmn_same a b p e =
    ok_with (SameDigits a b p) (country_of a) (λ c. network_of b >>= (λ n. Ok (plmn_octets c n))) p e
    (λ c r h. ok_with (SameDigits a b p) (network_of b) (λ n. Ok (plmn_octets c n)) p h
    (λ n q k. let same : plmn_octets c n ≡ p = cc k in subst (SameDigits a b) same (same_digits a b c n (country_read a c r) (network_read b n q))))
