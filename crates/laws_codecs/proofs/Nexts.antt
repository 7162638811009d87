-- N values one after the other.
use Rattle.std.proofs.Common.{◌≡◌, ℕ, zero, suc, ◌<◌, ◌≤◌, Bool, List, [], ◌∷◌, length, Result, Ok, Err, refl, sym, ap, subst, ◌∙◌, ◌⊎◌, inl, inr, arith}
use Rattle.std.proofs.lemmas.Bool.{cases_lt}
use Rattle.per_streams.specs.declared.fault.PerFault.{PerFault}
use Rattle.per_streams.specs.Bits.{Place, ◌>>=◌}
use Rattle.per_streams.specs.BitLaws.{bind_ok, ok_is}
use Rattle.per_streams.specs.Each.{SpellsEach, times}
use Rattle.per_streams.specs.Exact.{Each, Exact, Takes, exact_times}
use Rattle.laws_codecs.specs.Components.{Component, IsFaultOf}
use Rattle.laws_codecs.specs.PerFaults.{HasFaultAmong, NextOf}
use Rattle.laws_codecs.proofs.Outcomes.{bad_also, fails_first, good, never_both, reads}
use Rattle.laws_codecs.proofs.Telling.{Tells, among}

-- ---- what reading gives

-- the next of N values is read and fails
times_fails : {A : Type 0} (r : Place → Result (A × Place) PerFault) (k n : ℕ) (s t : Place) (before : List A) (fault : PerFault)
    → k < n → times r k s ≡ Ok (before, t) → r t ≡ Err fault → times r n s ≡ Err fault
unfolding times
times_fails r k zero s t before fault lt h e = absurd (omega (arith, lt))
times_fails {A} r zero (suc n) s t before fault lt h e =
    let made : List A × Place = ([], s) in
    let last : List A × Place = (before, t) in
    let same : s ≡ t = ap (λ (x : List A × Place). x.1) (ok_is made last h) in
    fails_first (r s) (λ x. times r n x.1 >>= λ y. good {A = List A × Place} (x.0 ∷ y.0, y.1)) fault
    (ap (λ (u : Place). r u) same ∙ e)
times_fails {A} r (suc k) (suc n) s t before fault lt h e =
    let last : List A × Place = (before, t) in
    let a = bind_ok (r s) (λ x. times r k x.1 >>= λ y. good {A = List A × Place} (x.0 ∷ y.0, y.1)) last h in
    let b = bind_ok (times r k a.0.1) (λ y. good {A = List A × Place} (a.0.0 ∷ y.0, y.1)) last a.2 in
    let ih = times_fails r k n a.0.1 b.0.1 b.0.0 fault (omega (arith, lt)) b.1 (ends_there b.0.0 b.0.1 a.0.0 b.2) in
    rw (a.1, ih) refl
  where
    ends_there : (xs : List A) (u : Place) (x : A) → good {A = List A × Place} (x ∷ xs, u) ≡ good (before, t) → r u ≡ Err fault
    ends_there xs u x same =
        let place : u ≡ t = ap (λ (y : List A × Place). y.1) (ok_is {A = List A × Place} (x ∷ xs, u) (before, t) same) in
        ap (λ (w : Place). r w) place ∙ e

-- some were read before it
pub record Failed {A : Type 0} (r : Place → Result (A × Place) PerFault) (n : ℕ) (s : Place) (fault : PerFault) : Type 0 where
  pub many : ℕ
  pub before : List A
  pub next : Place
  pub fewer : many < n
  pub taken : times r many s ≡ Ok (before, next)
  pub fails : r next ≡ Err fault

some_fail : {A : Type 0} (r : Place → Result (A × Place) PerFault) (n : ℕ) (s : Place) (fault : PerFault) → times r n s ≡ Err fault
    → Failed r n s fault
unfolding times
some_fail r zero s fault h = absurd cc
some_fail {A} r (suc n) s fault h = by (r s) refl h (λ t e. some_fail r n t fault e)
  where
    later : (x : A) (t : Place) → r s ≡ Ok (x, t) → Failed r n t fault → Failed r (suc n) s fault
    later x t p f =
        record {
          many = suc f.many;
          before = x ∷ f.before;
          next = f.next;
          fewer = (let l = f.fewer in omega (arith, l));
          taken = (let k = f.taken in rw (p, k) refl);
          fails = f.fails;
        }

    by_rest : (x : A) (t : Place) (y : Result (List A × Place) PerFault) → r s ≡ Ok (x, t) → times r n t ≡ y
        → (y >>= λ z. good {A = List A × Place} (x ∷ z.0, z.1)) ≡ Err fault
        → ((e : times r n t ≡ Err fault) → Failed r n t fault) → Failed r (suc n) s fault
    by_rest x t (Ok z) p k e ih = absurd cc
    by_rest x t (Err d) p k e ih = later x t p (ih (k ∙ bad_also {A = List A × Place} {B = List A × Place} d fault e))

    by : (x : Result (A × Place) PerFault) → r s ≡ x
        → (x >>= λ y. times r n y.1 >>= λ z. good {A = List A × Place} (y.0 ∷ z.0, z.1)) ≡ Err fault
        → ((t : Place) → times r n t ≡ Err fault → Failed r n t fault) → Failed r (suc n) s fault
    by (Ok x) p e ih = by_rest x.0 x.1 (times r n x.1) p refl e (ih x.1)
    by (Err d) p e ih =
        record {
          many = 0;
          before = [];
          next = s;
          fewer = omega arith;
          taken = refl;
          fails = p ∙ bad_also {A = List A × Place} {B = A × Place} d fault e;
        }

-- ---- what is spelled

taken_each : {A : Type 0} (S : A → ℕ → List Bool → Type 0) (k : ℕ) (s t : Place) (before : List A) → Takes (Each S k) s before t
    → Takes (SpellsEach S) s before t
taken_each S k s t before h = record { taken = h.taken; parts = h.parts; at = h.at; spelled = h.spelled.1 }

each_taken : {A : Type 0} (S : A → ℕ → List Bool → Type 0) (s t : Place) (before : List A) → Takes (SpellsEach S) s before t
    → Takes (Each S (length before)) s before t
each_taken S s t before h = record { taken = h.taken; parts = h.parts; at = h.at; spelled = (refl, h.spelled) }

before_read : {A : Type 0} (S : A → ℕ → List Bool → Type 0) (r : Place → Result (A × Place) PerFault) → Exact S r
    → (s t : Place) (before : List A) → Takes (SpellsEach S) s before t
    → times r (length before) s ≡ Ok (before, t)
before_read S r h s t before k =
    reads (Each S (length before)) (times r (length before)) (exact_times S r h (length before)) s t before
    (each_taken S s t before k)

-- ---- the next of N

fault_next : {A : Type 0} (S : A → ℕ → List Bool → Type 0) (P : Place → Component → Place → Type 0) (n : ℕ) (s t : Place)
    (before : List A) (fault : PerFault)
    → length before < n → Takes (SpellsEach S) s before t → HasFaultAmong (P t) fault → HasFaultAmong (NextOf S P n s) fault
fault_next S P n s t before fault lt k p =
    among (NextOf S P n s) p.component p.place fault (before, t, lt, k, p.stands) p.wrong

pub tells_next : {A : Type 0} (S : A → ℕ → List Bool → Type 0) (P : Place → Component → Place → Type 0)
    (r : Place → Result (A × Place) PerFault)
    → Exact S r → ((t : Place) → Tells (P t) (r t)) → (n : ℕ) (s : Place) → Tells (NextOf S P n s) (times r n s)
tells_next {A} S P r exact h n s = record {
  named = λ fault e. name fault (some_fail r n s fault e);
  answered = λ fault p. answer p.component p.place fault p.stands p.wrong;
  alone = λ x y p q. same p.component q.component p.place q.place x y p.stands p.wrong q.stands q.wrong;
}
  where
    name : (fault : PerFault) → Failed r n s fault → HasFaultAmong (NextOf S P n s) fault
    name fault f =
        let k = (exact_times S r exact f.many).takes s f.next f.before f.taken in
        let many : length f.before ≡ f.many = k.spelled.0 in
        let fewer : length f.before < n = let l = f.fewer in omega (arith, l, many) in
        fault_next S P n s f.next f.before fault fewer (taken_each S f.many s f.next f.before k)
        ((h f.next).named fault f.fails)

    fails_at : (c : Component) (here : Place) (fault : PerFault) (m : NextOf S P n s c here) → IsFaultOf c here fault
        → r m.1 ≡ Err fault
    fails_at c here fault m w = (h m.1).answered fault (among (P m.1) c here fault m.4 w)

    answer : (c : Component) (here : Place) (fault : PerFault) → NextOf S P n s c here → IsFaultOf c here fault
        → times r n s ≡ Err fault
    answer c here fault m w =
        times_fails r (length m.0) n s m.1 m.0 fault m.2 (before_read S r exact s m.1 m.0 m.3) (fails_at c here fault m w)

    -- if one comes after the other, the first was read
    never_after : (c d : Component) (here there : Place) (x : PerFault) (m : NextOf S P n s c here) (o : NextOf S P n s d there)
        → IsFaultOf c here x → length m.0 < length o.0 → ⊥
    never_after c d here there x m o w lt =
        never_both (times r (length o.0) s) (o.0, o.1) x (before_read S r exact s o.1 o.0 o.3)
        (times_fails r (length m.0) (length o.0) s m.1 m.0 x lt (before_read S r exact s m.1 m.0 m.3) (fails_at c here x m w))

    at_once : (c d : Component) (here there : Place) (x y : PerFault) (m : NextOf S P n s c here) (o : NextOf S P n s d there)
        → IsFaultOf c here x → IsFaultOf d there y → length m.0 ≡ length o.0 → (c ≡ d) × (here ≡ there)
    at_once c d here there x y m o w v e =
        let one : List A × Place = (m.0, m.1) in
        let two : List A × Place = (o.0, o.1) in
        let first = before_read S r exact s m.1 m.0 m.3 in
        let second : times r (length m.0) s ≡ Ok (o.0, o.1) =
        ap (λ (k : ℕ). times r k s) e ∙ before_read S r exact s o.1 o.0 o.3 in
        let place : m.1 ≡ o.1 = ap (λ (z : List A × Place). z.1) (ok_is one two (sym first ∙ second)) in
        let k : P m.1 d there = subst (λ (t : Place). P t d there) (sym place) o.4 in
        (h m.1).alone x y (among (P m.1) c here x m.4 w) (among (P m.1) d there y k v)

    by : (c d : Component) (here there : Place) (x y : PerFault) (m : NextOf S P n s c here) (o : NextOf S P n s d there)
        → IsFaultOf c here x → IsFaultOf d there y
        → (length m.0 < length o.0) ⊎ (length o.0 ≤ length m.0) → (length o.0 < length m.0) ⊎ (length m.0 ≤ length o.0)
        → (c ≡ d) × (here ≡ there)
    by c d here there x y m o w v (inl lt) other = absurd (never_after c d here there x m o w lt)
    by c d here there x y m o w v (inr le) (inl lt) = absurd (never_after d c there here y o m v lt)
    by c d here there x y m o w v (inr le) (inr ge) = at_once c d here there x y m o w v (omega (arith, le, ge))

    same : (c d : Component) (here there : Place) (x y : PerFault) → NextOf S P n s c here → IsFaultOf c here x
        → NextOf S P n s d there → IsFaultOf d there y → (c ≡ d) × (here ≡ there)
    same c d here there x y m w o v =
        by c d here there x y m o w v (cases_lt (length m.0) (length o.0)) (cases_lt (length o.0) (length m.0))
