-- Reading meets spelling: what is spelled is read, whatever follows, and what is read is spelled.
use Rattle.std.proofs.Common.{◌≡◌, ℕ, zero, suc, ◌+◌, Bool, true, false, cond, ltb, List, [], ◌∷◌, ◌++◌, length, take, drop, Result, Ok, Err, refl, sym, ap, subst, ◌∙◌, arith, append_assoc}
use Rattle.std.proofs.lemmas.Bool.{ltb-false, le-ltb}
use Rattle.std.proofs.lemmas.List.{length-append, length-take-le, take-append-drop, append-nil}
use Rattle.std.proofs.lemmas.List.{take_at as take_front, drop_at as drop_front}
use Rattle.per_streams.specs.declared.fault.PerFault.{PerFault}
use Rattle.per_streams.specs.declared.fault.PerFault.TheVariants.{Truncated}
use Rattle.per_streams.specs.Bits.{Place, ◌>>=◌, take_at}
use Rattle.per_streams.specs.Each.{times, SpellsEach}
use Rattle.per_streams.specs.BitLaws.{bind_ok, unless_ok, where_ok, ok_is}

-- what a reading took from the front
pub record Takes {A : Type 0} (S : A → ℕ → List Bool → Type 0) (s : Place) (a : A) (t : Place) : Type 0 where
  pub taken : List Bool
  pub parts : s.rest ≡ taken ++ t.rest
  pub at : t.at ≡ s.at + length taken
  pub spelled : S a s.at taken

pub record Exact {A : Type 0} (S : A → ℕ → List Bool → Type 0) (r : Place → Result (A × Place) PerFault) : Type 0 where
  pub again : (a : A) (at : ℕ) (bs rest : List Bool) → S a at bs
      → r (record { at = at; rest = bs ++ rest }) ≡ Ok (a, record { at = at + length bs; rest = rest })
  pub takes : (s t : Place) (a : A) → r s ≡ Ok (a, t) → Takes S s a t

-- N bits
abbrev pub IsBits : ℕ → List Bool → ℕ → List Bool → Type 0
IsBits n a at bs = (bs ≡ a) × (length a ≡ n)

pub exact_take : (n : ℕ) → Exact (IsBits n) (take_at n)
unfolding take_at
exact_take n = record {
  again = λ a at bs rest h.
      let len : length bs ≡ n = ap length h.0 ∙ h.1 in
      let room : ltb (length (bs ++ rest)) n ≡ false = le-ltb _ _ (omega (arith, length-append bs rest)) in
      rw (room, take_front bs rest n len, drop_front bs rest n len, h.0, h.1) refl;
  takes = λ s t a e.
      let made : List Bool × Place = (take n s.rest, record { at = s.at + n; rest = drop n s.rest }) in
      let g = unless_ok (ltb (length s.rest) n) Truncated made (a, t) e in
      let len : length (take n s.rest) ≡ n = length-take-le n s.rest (ltb-false _ _ g.0) in
      subst (λ (y : List Bool × Place). Takes (IsBits n) s y.0 y.1) g.1
      (record { taken = take n s.rest; parts = sym (take-append-drop n s.rest); at = omega (arith, len); spelled = (refl, len) });
}

-- one after the other
abbrev pub Then : {A B : Type 0} (S : A → ℕ → List Bool → Type 0) (Q : A → B → ℕ → List Bool → Type 0) → A × B → ℕ → List Bool
    → Type 0
Then S Q ab at bs = (xs : List Bool) × (ys : List Bool) × (bs ≡ xs ++ ys) × S ab.0 at xs × Q ab.0 ab.1 (at + length xs) ys

abbrev pub both : {A B : Type 0} → (Place → Result (A × Place) PerFault) → (A → Place → Result (B × Place) PerFault) → Place
    → Result ((A × B) × Place) PerFault
both r q s = r s >>= λ x. q x.0 x.1 >>= λ y. Ok ((x.0, y.0), y.1)

pub exact_then : {A B : Type 0} (S : A → ℕ → List Bool → Type 0) (Q : A → B → ℕ → List Bool → Type 0)
    (r : Place → Result (A × Place) PerFault) (q : A → Place → Result (B × Place) PerFault)
    → Exact S r → ((a : A) → Exact (Q a) (q a)) → Exact (Then S Q) (both r q)
exact_then {A} {B} S Q r q h k = record {
  again = λ ab at bs rest m.
      let xs = m.0 in
      let ys = m.1 in
      let whole : bs ++ rest ≡ xs ++ (ys ++ rest) = ap (λ (l : List Bool). l ++ rest) m.2 ∙ append_assoc xs ys rest in
      let place : at + length xs + length ys ≡ at + length bs = let len = ap length m.2 in
      omega (arith, len, length-append xs ys) in
      rw (whole, h.again ab.0 at xs (ys ++ rest) m.3, (k ab.0).again ab.1 (at + length xs) ys rest m.4, place) refl;
  takes = λ s t ab e.
      let last : (A × B) × Place = (ab, t) in
      let f : A × Place → Result ((A × B) × Place) PerFault = λ x. q x.0 x.1 >>= λ y. Ok ((x.0, y.0), y.1) in
      let a = bind_ok (r s) f last e in
      let g : B × Place → Result ((A × B) × Place) PerFault = λ y. Ok ((a.0.0, y.0), y.1) in
      let b = bind_ok (q a.0.0 a.0.1) g last a.2 in
      let first = h.takes s a.0.1 a.0.0 a.1 in
      let second = (k a.0.0).takes a.0.1 b.0.1 b.0.0 b.1 in
      let made : (A × B) × Place = ((a.0.0, b.0.0), b.0.1) in
      subst (λ (y : (A × B) × Place). Takes (Then S Q) s y.0 y.1) (ok_is made last b.2)
      (record {
        taken = first.taken ++ second.taken;
        parts =
            first.parts ∙ ap (λ (l : List Bool). first.taken ++ l) second.parts
            ∙ sym (append_assoc first.taken second.taken b.0.1.rest);
        at = let p = first.at in let o = second.at in omega (arith, p, o, length-append first.taken second.taken);
        spelled =
            (first.taken, second.taken, refl, first.spelled, subst (λ n. Q a.0.0 b.0.0 n second.taken) first.at second.spelled);
      });
}

-- the value seen otherwise
abbrev pub As : {A B : Type 0} (f : A → B) (S : A → ℕ → List Bool → Type 0) → B → ℕ → List Bool → Type 0
As {A} f S b at bs = (a : A) × (f a ≡ b) × S a at bs

pub exact_as : {A B : Type 0} (f : A → B) (S : A → ℕ → List Bool → Type 0) (r : Place → Result (A × Place) PerFault) → Exact S r
    → Exact (As f S) (λ s. r s >>= λ x. Ok (f x.0, x.1))
exact_as {A} {B} f S r h = record {
  again = λ b at bs rest m. rw (h.again m.0 at bs rest m.2, m.1) refl;
  takes = λ s t b e.
      let last : B × Place = (b, t) in
      let g : A × Place → Result (B × Place) PerFault = λ x. Ok (f x.0, x.1) in
      let a = bind_ok (r s) g last e in
      let first = h.takes s a.0.1 a.0.0 a.1 in
      let made : B × Place = (f a.0.0, a.0.1) in
      subst (λ (y : B × Place). Takes (As f S) s y.0 y.1) (ok_is made last a.2)
      (record { taken = first.taken; parts = first.parts; at = first.at; spelled = (a.0.0, refl, first.spelled) });
}

-- the value meets a test
abbrev pub Where : {A : Type 0} (test : A → Bool) (S : A → ℕ → List Bool → Type 0) → A → ℕ → List Bool → Type 0
Where test S a at bs = (test a ≡ true) × S a at bs

pub exact_where : {A : Type 0} (test : A → Bool) (d : PerFault) (S : A → ℕ → List Bool → Type 0)
    (r : Place → Result (A × Place) PerFault)
    → Exact S r → Exact (Where test S) (λ s. r s >>= λ x. cond (test x.0) (Ok x) (Err d))
exact_where {A} test d S r h = record {
  again = λ a at bs rest m. rw (h.again a at bs rest m.1, m.0) refl;
  takes = λ s t a e.
      let last : A × Place = (a, t) in
      let g : A × Place → Result (A × Place) PerFault = λ x. cond (test x.0) (Ok x) (Err d) in
      let b = bind_ok (r s) g last e in
      let c = where_ok (test b.0.0) d b.0 last b.2 in
      let first = h.takes s b.0.1 b.0.0 b.1 in
      subst (λ (y : A × Place). Takes (Where test S) s y.0 y.1) c.1
      (record { taken = first.taken; parts = first.parts; at = first.at; spelled = (c.0, first.spelled) });
}

-- the same spelling and the same reading, said otherwise
pub exact_same : {A : Type 0} (S Q : A → ℕ → List Bool → Type 0) (r q : Place → Result (A × Place) PerFault)
    → ((a : A) (at : ℕ) (bs : List Bool) → S a at bs → Q a at bs) → ((a : A) (at : ℕ) (bs : List Bool) → Q a at bs → S a at bs)
    → ((s : Place) → q s ≡ r s) → Exact S r → Exact Q q
exact_same S Q r q to from same h = record {
  again = λ a at bs rest m. same (record { at = at; rest = bs ++ rest }) ∙ h.again a at bs rest (from a at bs m);
  takes = λ s t a e.
      let first = h.takes s t a (sym (same s) ∙ e) in
      record { taken = first.taken; parts = first.parts; at = first.at; spelled = to a s.at first.taken first.spelled };
}

-- one after the other, the second by the value of the first
abbrev pub Bind : {A B : Type 0} (S : A → ℕ → List Bool → Type 0) (Q : A → B → ℕ → List Bool → Type 0) → B → ℕ → List Bool → Type 0
Bind {A} S Q b at bs = (a : A) × (xs : List Bool) × (ys : List Bool) × (bs ≡ xs ++ ys) × S a at xs × Q a b (at + length xs) ys

pub exact_bind : {A B : Type 0} (S : A → ℕ → List Bool → Type 0) (Q : A → B → ℕ → List Bool → Type 0)
    (r : Place → Result (A × Place) PerFault) (q : A → Place → Result (B × Place) PerFault)
    → Exact S r → ((a : A) → Exact (Q a) (q a)) → Exact (Bind S Q) (λ s. r s >>= λ x. q x.0 x.1)
exact_bind {A} {B} S Q r q h k = record {
  again = λ b at bs rest m.
      let a = m.0 in
      let xs = m.1 in
      let ys = m.2 in
      let whole : bs ++ rest ≡ xs ++ (ys ++ rest) = ap (λ (l : List Bool). l ++ rest) m.3 ∙ append_assoc xs ys rest in
      let place : at + length xs + length ys ≡ at + length bs = let len = ap length m.3 in
      omega (arith, len, length-append xs ys) in
      rw (whole, h.again a at xs (ys ++ rest) m.4, (k a).again b (at + length xs) ys rest m.5, place) refl;
  takes = λ s t b e.
      let last : B × Place = (b, t) in
      let f : A × Place → Result (B × Place) PerFault = λ x. q x.0 x.1 in
      let a = bind_ok (r s) f last e in
      let first = h.takes s a.0.1 a.0.0 a.1 in
      let second = (k a.0.0).takes a.0.1 t b a.2 in
      record {
        taken = first.taken ++ second.taken;
        parts =
            first.parts ∙ ap (λ (l : List Bool). first.taken ++ l) second.parts
            ∙ sym (append_assoc first.taken second.taken t.rest);
        at = let p = first.at in let o = second.at in omega (arith, p, o, length-append first.taken second.taken);
        spelled =
            (a.0.0, first.taken, second.taken, refl, first.spelled, subst (λ n. Q a.0.0 b n second.taken) first.at second.spelled);
      };
}

abbrev pub Nothing : {A : Type 0} → A → A → ℕ → List Bool → Type 0
Nothing c a at bs = (a ≡ c) × (bs ≡ [])

pub exact_ok : {A : Type 0} (c : A) → Exact (Nothing c) (λ s. Ok (c, s))
exact_ok {A} c = record {
  again = λ a at bs rest m. let n : at + length bs ≡ at = let len = ap length m.1 in omega (arith, len) in rw (n, m.0, m.1) refl;
  takes = λ s t a e.
      let made : A × Place = (c, s) in
      let last : A × Place = (a, t) in
      subst (λ (y : A × Place). Takes (Nothing c) s y.0 y.1) (ok_is made last e)
      (record { taken = []; parts = refl; at = omega arith; spelled = (refl, refl) });
}

abbrev pub Never : {A : Type 0} → A → ℕ → List Bool → Type 0
Never a at bs = ⊥

pub exact_err : {A : Type 0} (d : PerFault) → Exact {A = A} Never (λ s. Err d)
exact_err d = record { again = λ a at bs rest m. absurd m; takes = λ s t a e. absurd cc }

abbrev pub Cond : {A : Type 0} → Bool → (A → ℕ → List Bool → Type 0) → (A → ℕ → List Bool → Type 0) → A → ℕ → List Bool → Type 0
Cond true S Q = S
Cond false S Q = Q

pub exact_cond : {A : Type 0} (b : Bool) (S Q : A → ℕ → List Bool → Type 0) (r q : Place → Result (A × Place) PerFault)
    → (b ≡ true → Exact S r) → (b ≡ false → Exact Q q) → Exact (Cond b S Q) (λ s. cond b (r s) (q s))
exact_cond true S Q r q h k = let e = h refl in record { again = e.again; takes = e.takes }
exact_cond false S Q r q h k = let e = k refl in record { again = e.again; takes = e.takes }

-- ---- values one after the other

abbrev pub Each : {A : Type 0} → (A → ℕ → List Bool → Type 0) → ℕ → List A → ℕ → List Bool → Type 0
Each S n vs at bs = (length vs ≡ n) × SpellsEach S vs at bs

each_none : {A : Type 0} (S : A → ℕ → List Bool → Type 0) (vs : List A) (at : ℕ) (bs : List Bool) → Each S 0 vs at bs
    → Nothing [] vs at bs
each_none S [] at bs m = (refl, m.1)
each_none S (v ∷ vs) at bs m = absurd (omega (arith, m.0))

none_each : {A : Type 0} (S : A → ℕ → List Bool → Type 0) (vs : List A) (at : ℕ) (bs : List Bool) → Nothing [] vs at bs
    → Each S 0 vs at bs
none_each S [] at bs m = (refl, m.1)
none_each S (v ∷ vs) at bs m = absurd (let e = ap length m.0 in omega (arith, e))

abbrev More : {A : Type 0} → (A → ℕ → List Bool → Type 0) → ℕ → List A → ℕ → List Bool → Type 0
More S n = Bind S (λ a. Bind (Each S n) (λ vs. Nothing (a ∷ vs)))

more_each : {A : Type 0} (S : A → ℕ → List Bool → Type 0) (n : ℕ) (vs : List A) (at : ℕ) (bs : List Bool) → More S n vs at bs
    → Each S (suc n) vs at bs
more_each {A} S n vs at bs m =
    let inner = m.5 in
    let none = inner.5 in
    let ys : inner.1 ≡ m.2 = sym (inner.3 ∙ ap (λ (l : List Bool). inner.1 ++ l) none.1 ∙ append-nil inner.1) in
    let made : Each S (suc n) (m.0 ∷ inner.0) at bs =
    (ap suc inner.4.0, (m.1, m.2, m.3, m.4, subst (λ (l : List Bool). SpellsEach S inner.0 (at + length m.1) l) ys inner.4.1)) in
    subst (λ (l : List A). Each S (suc n) l at bs) (sym none.0) made

each_more : {A : Type 0} (S : A → ℕ → List Bool → Type 0) (n : ℕ) (vs : List A) (at : ℕ) (bs : List Bool) → Each S (suc n) vs at bs
    → More S n vs at bs
each_more S n [] at bs m = absurd (omega (arith, m.0))
each_more S n (v ∷ vs) at bs m =
    let e = m.1 in
    (v, e.0, e.1, e.2, e.3, (vs, e.1, [], sym (append-nil e.1), ((let l = m.0 in omega (arith, l)), e.4), (refl, refl)))

pub exact_times : {A : Type 0} (S : A → ℕ → List Bool → Type 0) (r : Place → Result (A × Place) PerFault) → Exact S r → (n : ℕ)
    → Exact (Each S n) (times r n)
unfolding times
exact_times {A = A} S r h zero =
    exact_same (Nothing []) (Each S 0) (λ s. Ok ([], s)) (times r 0) (none_each S) (each_none S) (λ s. refl) (exact_ok [])
exact_times {A = A} S r h (suc n) =
    exact_same (More S n) (Each S (suc n)) (λ s. r s >>= λ x. times r n x.1 >>= λ others. Ok (x.0 ∷ others.0, others.1))
    (times r (suc n)) (more_each S n) (each_more S n) (λ s. refl)
    (exact_bind S (λ a. Bind (Each S n) (λ vs. Nothing (a ∷ vs))) r (λ a s. times r n s >>= λ others. Ok (a ∷ others.0, others.1)) h
    (λ a. exact_bind (Each S n) (λ vs. Nothing (a ∷ vs)) (times r n) (λ vs s. Ok (a ∷ vs, s)) (exact_times S r h n)
    (λ vs. exact_ok (a ∷ vs))))
