-- Reading meets spelling: what is spelled is read, whatever follows, and what is read is spelled.
use Rattle.std.proofs.Common.{◌≡◌, ℕ, ◌+◌, ◌*◌, ◌%◌, ◌&&◌, Bool, true, false, cond, leb, ltb, eqb, nat_le, List, [], ◌∷◌, ◌++◌, length, take, drop, Option, Some, None, refl, sym, ap, subst, ◌∙◌, arith, append_assoc}
use Rattle.std.proofs.lemmas.Bool.{leb-true, ltb-false, le-ltb, eqb-true, eq-eqb}
use Rattle.std.proofs.lemmas.List.{length-append, length-take-le, take-append-drop}
use Rattle.std.proofs.lemmas.List.{take_at as take_front, drop_at as drop_front}
use Rattle.nas_elements.specs.Parts.{◌>>=◌, Half, spare, three, flagged, four, exactly, between, HalfValue, SpellsHalf, SpellsContent, half_of, content_of, octet_at, fixed_at, short_at, long_at}

pub record Takes {A : Type 0} (S : A → List ℕ → Type 0) (os : List ℕ) (a : A) (rest : List ℕ) : Type 0 where
  pub taken : List ℕ
  pub parts : os ≡ taken ++ rest
  pub spelled : S a taken

pub record Exact {A : Type 0} (S : A → List ℕ → Type 0) (r : List ℕ → Option (A × List ℕ)) : Type 0 where
  pub again : (a : A) (os rest : List ℕ) → S a os → r (os ++ rest) ≡ Some (a, rest)
  pub takes : (os rest : List ℕ) (a : A) → r os ≡ Some (a, rest) → Takes S os a rest

-- all of the octets
pub record ExactWhole {A : Type 0} (S : A → List ℕ → Type 0) (r : List ℕ → Option A) : Type 0 where
  pub again : (a : A) (os : List ℕ) → S a os → r os ≡ Some a
  pub takes : (os : List ℕ) (a : A) → r os ≡ Some a → S a os

pub bind_ok : {A B : Type 0} (r : Option A) (f : A → Option B) (y : B) → (r >>= f) ≡ Some y
    → (x : A) × (r ≡ Some x) × (f x ≡ Some y)
bind_ok (Some x) f y e = (x, refl, e)
bind_ok None f y e = absurd cc

abbrev pub some_of : {A : Type 0} → A → Option A
some_of a = Some a

pub some_is : {A : Type 0} (x y : A) → some_of x ≡ some_of y → x ≡ y
some_is x y e = cc

pub where_ok : {A : Type 0} (b : Bool) (x y : A) → cond b (Some x) None ≡ Some y → (b ≡ true) × (x ≡ y)
where_ok true x y e = (refl, cc)
where_ok false x y e = absurd cc

pub unless_ok : {A : Type 0} (b : Bool) (x y : A) → cond b None (Some x) ≡ Some y → (b ≡ false) × (x ≡ y)
unless_ok true x y e = absurd cc
unless_ok false x y e = (refl, cc)

pub both_true : (a b : Bool) → (a && b) ≡ true → (a ≡ true) × (b ≡ true)
both_true true b e = (refl, e)
both_true false b e = absurd cc

-- the same spelling and the same reading, said otherwise
pub exact_same : {A : Type 0} (S Q : A → List ℕ → Type 0) (r q : List ℕ → Option (A × List ℕ))
    → ((a : A) (os : List ℕ) → S a os → Q a os) → ((a : A) (os : List ℕ) → Q a os → S a os) → ((os : List ℕ) → q os ≡ r os)
    → Exact S r → Exact Q q
exact_same S Q r q to from same h = record {
  again = λ a os rest m. same (os ++ rest) ∙ h.again a os rest (from a os m);
  takes = λ os rest a e.
      let first = h.takes os rest a (sym (same os) ∙ e) in
      record { taken = first.taken; parts = first.parts; spelled = to a first.taken first.spelled };
}

-- one after the other, the second by the value of the first
abbrev pub Bind : {A B : Type 0} (S : A → List ℕ → Type 0) (Q : A → B → List ℕ → Type 0) → B → List ℕ → Type 0
Bind {A} S Q b os = (a : A) × (xs : List ℕ) × (ys : List ℕ) × (os ≡ xs ++ ys) × S a xs × Q a b ys

pub exact_bind : {A B : Type 0} (S : A → List ℕ → Type 0) (Q : A → B → List ℕ → Type 0) (r : List ℕ → Option (A × List ℕ))
    (q : A → List ℕ → Option (B × List ℕ))
    → Exact S r → ((a : A) → Exact (Q a) (q a)) → Exact (Bind S Q) (λ os. r os >>= λ x. q x.0 x.1)
exact_bind {A} {B} S Q r q h k = record {
  again = λ b os rest m.
      let whole : os ++ rest ≡ m.1 ++ (m.2 ++ rest) = ap (λ (l : List ℕ). l ++ rest) m.3 ∙ append_assoc m.1 m.2 rest in
      rw (whole, h.again m.0 m.1 (m.2 ++ rest) m.4, (k m.0).again b m.2 rest m.5) refl;
  takes = λ os rest b e.
      let last : B × List ℕ = (b, rest) in
      let f : A × List ℕ → Option (B × List ℕ) = λ x. q x.0 x.1 in
      let a = bind_ok (r os) f last e in
      let first = h.takes os a.0.1 a.0.0 a.1 in
      let second = (k a.0.0).takes a.0.1 rest b a.2 in
      record {
        taken = first.taken ++ second.taken;
        parts = first.parts ∙ ap (λ (l : List ℕ). first.taken ++ l) second.parts ∙ sym (append_assoc first.taken second.taken rest);
        spelled = (a.0.0, first.taken, second.taken, refl, first.spelled, second.spelled);
      };
}

abbrev pub Nothing : {A : Type 0} → A → A → List ℕ → Type 0
Nothing c a os = (a ≡ c) × (os ≡ [])

pub exact_ok : {A : Type 0} (c : A) → Exact (Nothing c) (λ os. Some (c, os))
exact_ok {A} c = record {
  again = λ a os rest m. rw (m.0, m.1) refl;
  takes = λ os rest a e.
      let made : A × List ℕ = (c, os) in
      let last : A × List ℕ = (a, rest) in
      subst (λ (y : A × List ℕ). Takes (Nothing c) os y.0 y.1) (some_is made last e)
      (record { taken = []; parts = refl; spelled = (refl, refl) });
}

-- nothing is taken where a value is there
abbrev pub Given : {A : Type 0} → Option A → A → List ℕ → Type 0
Given o a os = (o ≡ Some a) × (os ≡ [])

pub exact_given : {A : Type 0} (o : Option A) → Exact (Given o) (λ os. o >>= λ a. Some (a, os))
exact_given {A} o = record {
  again = λ a os rest m. rw (m.0, m.1) refl;
  takes = λ os rest a e.
      let last : A × List ℕ = (a, rest) in
      let f : A → Option (A × List ℕ) = λ x. Some (x, os) in
      let b = bind_ok o f last e in
      let made : A × List ℕ = (b.0, os) in
      subst (λ (y : A × List ℕ). Takes (Given o) os y.0 y.1) (some_is made last b.2)
      (record { taken = []; parts = refl; spelled = (b.1, refl) });
}

-- ---- octets

abbrev pub IsOctet : ℕ → List ℕ → Type 0
IsOctet n os = os ≡ n ∷ []

octet_takes : (os rest : List ℕ) (n : ℕ) → octet_at os ≡ Some (n, rest) → Takes IsOctet os n rest
unfolding octet_at
octet_takes [] rest n e = absurd cc
octet_takes (o ∷ os) rest n e =
    let made : ℕ × List ℕ = (o, os) in
    let last : ℕ × List ℕ = (n, rest) in
    subst (λ (y : ℕ × List ℕ). Takes IsOctet (o ∷ os) y.0 y.1) (some_is made last e)
    (record { taken = o ∷ []; parts = refl; spelled = refl })

pub exact_octet : Exact IsOctet octet_at
unfolding octet_at
exact_octet = record { again = λ n os rest m. rw m refl; takes = λ os rest n e. octet_takes os rest n e }

abbrev pub Fixed : ℕ → List ℕ → List ℕ → Type 0
Fixed n xs os = (os ≡ xs) × (length xs ≡ n)

pub exact_fixed : (n : ℕ) → Exact (Fixed n) (fixed_at n)
unfolding fixed_at
exact_fixed n = record {
  again = λ xs os rest m.
      let len : length os ≡ n = ap length m.0 ∙ m.1 in
      let room : ltb (length (os ++ rest)) n ≡ false = le-ltb _ _ (omega (arith, length-append os rest)) in
      rw (room, take_front os rest n len, drop_front os rest n len, m.0) refl;
  takes = λ os rest xs e.
      let made : List ℕ × List ℕ = (take n os, drop n os) in
      let last : List ℕ × List ℕ = (xs, rest) in
      let g = unless_ok (ltb (length os) n) made last e in
      let len : length (take n os) ≡ n = length-take-le n os (ltb-false _ _ g.0) in
      subst (λ (y : List ℕ × List ℕ). Takes (Fixed n) os y.0 y.1) g.1
      (record { taken = take n os; parts = sym (take-append-drop n os); spelled = (refl, len) });
}

abbrev pub IsShort : List ℕ → List ℕ → Type 0
IsShort xs os = os ≡ length xs ∷ xs

short_to : (xs os : List ℕ) → Bind IsOctet (λ n. Fixed n) xs os → IsShort xs os
short_to xs os m = m.3 ∙ rw (m.4, m.5.0, m.5.1) refl

pub exact_short : Exact IsShort short_at
unfolding short_at
exact_short = exact_same (Bind IsOctet (λ n. Fixed n)) IsShort (λ os. octet_at os >>= λ n. fixed_at n.0 n.1) short_at
    short_to (λ xs os m. (length xs, length xs ∷ [], xs, m, refl, (refl, refl))) (λ os. refl)
    (exact_bind IsOctet (λ n. Fixed n) octet_at fixed_at exact_octet exact_fixed)

abbrev pub IsLong : List ℕ → List ℕ → Type 0
IsLong xs os = (a : ℕ) × (b : ℕ) × (os ≡ a ∷ b ∷ xs) × (a * 256 + b ≡ length xs)

abbrev TwoOctets : List ℕ → List ℕ → Type 0
TwoOctets = Bind IsOctet (λ a. Bind IsOctet (λ b. Fixed (a * 256 + b)))

long_to : (xs os : List ℕ) → TwoOctets xs os → IsLong xs os
long_to xs os m =
    let n = m.5 in
    (m.0, n.0, m.3 ∙ rw (m.4, n.3, n.4, n.5.0) refl, sym n.5.1)

pub exact_long : Exact IsLong long_at
unfolding long_at
exact_long = exact_same TwoOctets IsLong (λ os. octet_at os >>= λ a. octet_at a.1 >>= λ b. fixed_at (a.0 * 256 + b.0) b.1) long_at
    long_to (λ xs os m. (m.0, m.0 ∷ [], m.1 ∷ xs, m.2, refl, (m.1, m.1 ∷ [], xs, refl, refl, (refl, sym m.3)))) (λ os. refl)
    (exact_bind IsOctet (λ a. Bind IsOctet (λ b. Fixed (a * 256 + b))) octet_at
    (λ a os. octet_at os >>= λ b. fixed_at (a * 256 + b.0) b.1) exact_octet
    (λ a. exact_bind IsOctet (λ b. Fixed (a * 256 + b)) octet_at (λ b. fixed_at (a * 256 + b)) exact_octet
    (λ b. exact_fixed (a * 256 + b))))

-- ---- half octets

pub half_takes : (h : Half) (n : ℕ) (v : HalfValue h) → half_of h n ≡ Some v → SpellsHalf h v n
half_takes spare n v e = tt
half_takes three n v e = sym (some_is (n % 8) v e)
half_takes flagged n v e =
    let made : ℕ × Bool = (n % 8, nat_le 8 n) in
    let s : made ≡ v = some_is made v e in
    (sym (ap (λ (p : ℕ × Bool). p.0) s), sym (ap (λ (p : ℕ × Bool). p.1) s))
half_takes four n v e = sym (some_is n v e)
half_takes (exactly c) n v e = eqb-true _ _ (where_ok (eqb (n % 8) c) tt v e).0

pub half_again : (h : Half) (n : ℕ) (v : HalfValue h) → SpellsHalf h v n → half_of h n ≡ Some v
half_again spare n v m = refl
half_again three n v m = rw m refl
half_again flagged n v m = let made : ℕ × Bool = (n % 8, nat_le 8 n) in rw (m.0, m.1) refl
half_again four n v m = rw m refl
half_again (exactly c) n v m = rw (eq-eqb _ _ m) refl

-- ---- what follows a length

pub between_takes : (lo hi : ℕ) (os xs : List ℕ) → content_of (between lo hi) os ≡ Some xs → SpellsContent (between lo hi) xs os
between_takes lo hi os xs e =
    let g = where_ok (leb lo (length os) && leb (length os) hi) os xs e in
    let t = both_true (leb lo (length os)) (leb (length os) hi) g.0 in
    subst (λ (y : List ℕ). SpellsContent (between lo hi) y os) g.1 (refl, leb-true _ _ t.0, leb-true _ _ t.1)
