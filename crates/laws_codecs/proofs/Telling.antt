-- A result tells components: it is a fault exactly where the one that stands there has it, and no two components have a fault.
use Rattle.std.proofs.Common.{◌≡◌, ℕ, Bool, true, false, cond, List, Result, Ok, Err, refl, sym, subst, ◌∙◌, inl, inr}
use Rattle.per_streams.specs.declared.fault.PerFault.{PerFault}
use Rattle.per_streams.specs.Bits.{Place, ◌>>=◌}
use Rattle.per_streams.specs.BitLaws.{ok_is}
use Rattle.per_streams.specs.Exact.{Exact, Takes}
use Rattle.laws_codecs.specs.Components.{Component, IsFaultOf}
use Rattle.laws_codecs.specs.PerFaults.{HasFaultAmong, InOrder, Whether}
use Rattle.laws_codecs.proofs.Unspelled.{wrong_unspelled}
use Rattle.laws_codecs.proofs.Outcomes.{bad_also, fails_first, goes_on, good, mapped_fails, never_both, reads}

pub record Tells {A : Type 0} (R : Component → Place → Type 0) (r : Result A PerFault) : Type 0 where
  pub named : (fault : PerFault) → r ≡ Err fault → HasFaultAmong R fault
  pub answered : (fault : PerFault) → HasFaultAmong R fault → r ≡ Err fault
  pub alone : (x y : PerFault) (p : HasFaultAmong R x) (q : HasFaultAmong R y) → (p.component ≡ q.component) × (p.place ≡ q.place)

-- no component, and no fault
pub tells_never : {A : Type 0} (R : Component → Place → Type 0) (r : Result A PerFault) (x : A)
    → ((c : Component) (here : Place) → R c here → ⊥) → r ≡ Ok x → Tells R r
tells_never R r x none e = record {
  named = λ fault h. absurd (never_both r x fault e h);
  answered = λ fault p. absurd (none p.component p.place p.stands);
  alone = λ y z p q. absurd (none p.component p.place p.stands);
}

-- the same result, said otherwise
pub tells_same : {A : Type 0} (R : Component → Place → Type 0) (r q : Result A PerFault) → r ≡ q → Tells R r → Tells R q
tells_same R r q e h = record {
  named = λ fault k. h.named fault (e ∙ k);
  answered = λ fault p. sym e ∙ h.answered fault p;
  alone = h.alone;
}

-- the value seen otherwise
pub tells_map : {A B : Type 0} (R : Component → Place → Type 0) (r : Result A PerFault) (g : A → B) → Tells R r
    → Tells R (r >>= λ x. good (g x))
tells_map {A} {B} R r g h = record {
  named = λ fault k. h.named fault (mapped_fails r g fault k);
  answered = λ fault p. fails_first r (λ x. good (g x)) fault (h.answered fault p);
  alone = h.alone;
}

pub tells_whether : {A : Type 0} (b : Bool) (P Q : Place → Component → Place → Type 0) (r q : Result A PerFault) (s : Place)
    → (b ≡ true → Tells (P s) r) → (b ≡ false → Tells (Q s) q) → Tells (Whether b P Q s) (cond b r q)
tells_whether true P Q r q s h k = let e = h refl in record { named = e.named; answered = e.answered; alone = e.alone }
tells_whether false P Q r q s h k = let e = k refl in record { named = e.named; answered = e.answered; alone = e.alone }

-- ---- one after the other

-- what is wrong with a component at a place where it stands
abbrev pub among : (R : Component → Place → Type 0) (c : Component) (here : Place) (fault : PerFault) → R c here
    → IsFaultOf c here fault
    → HasFaultAmong R fault
among R c here fault h w =
    record { component = c; place = here; stands = h; unspelled = wrong_unspelled c here fault w.0; wrong = w }

in_first : {A : Type 0} (S : A → ℕ → List Bool → Type 0) (P : Place → Component → Place → Type 0)
    (Q : A → Place → Component → Place → Type 0) (s : Place) (fault : PerFault)
    → HasFaultAmong (P s) fault → HasFaultAmong (InOrder S P Q s) fault
in_first S P Q s fault p = among (InOrder S P Q s) p.component p.place fault (inl p.stands) p.wrong

in_next : {A : Type 0} (S : A → ℕ → List Bool → Type 0) (P : Place → Component → Place → Type 0)
    (Q : A → Place → Component → Place → Type 0) (s : Place) (fault : PerFault) (a : A) (t : Place)
    → Takes S s a t → HasFaultAmong (Q a t) fault → HasFaultAmong (InOrder S P Q s) fault
in_next S P Q s fault a t k p = among (InOrder S P Q s) p.component p.place fault (inr (a, t, k, p.stands)) p.wrong

pub tells_bind : {A B : Type 0} (S : A → ℕ → List Bool → Type 0) (P : Place → Component → Place → Type 0)
    (Q : A → Place → Component → Place → Type 0) (r : Place → Result (A × Place) PerFault) (q : A → Place → Result B PerFault)
    (s : Place)
    → Exact S r → Tells (P s) (r s) → ((a : A) (t : Place) → Takes S s a t → Tells (Q a t) (q a t))
    → Tells (InOrder S P Q s) (r s >>= λ x. q x.0 x.1)
tells_bind {A} {B} S P Q r q s exact first next = record {
  named = λ fault e. by (r s) refl fault e;
  answered = λ fault p. answer p.component p.place fault p.stands p.wrong;
  alone = λ x y p n. same p.component n.component p.place n.place x y p.stands p.wrong n.stands n.wrong;
}
  where
    by : (x : Result (A × Place) PerFault) → r s ≡ x → (fault : PerFault) → (x >>= λ y. q y.0 y.1) ≡ Err fault
        → HasFaultAmong (InOrder S P Q s) fault
    by (Ok x) p fault e =
        let k = exact.takes s x.1 x.0 p in in_next S P Q s fault x.0 x.1 k ((next x.0 x.1 k).named fault e)
    by (Err d) p fault e = in_first S P Q s fault (first.named fault (p ∙ bad_also {A = B} {B = A × Place} d fault e))

    answer : (c : Component) (here : Place) (fault : PerFault) → InOrder S P Q s c here → IsFaultOf c here fault
        → (r s >>= λ y. q y.0 y.1) ≡ Err fault
    answer c here fault (inl h) w =
        fails_first (r s) (λ y. q y.0 y.1) fault (first.answered fault (among (P s) c here fault h w))
    answer c here fault (inr m) w =
        goes_on (r s) (λ y. q y.0 y.1) (m.0, m.1) (reads S r exact s m.1 m.0 m.2)
        ∙ (next m.0 m.1 m.2).answered fault (among (Q m.0 m.1) c here fault m.3 w)

    same : (c d : Component) (here there : Place) (x y : PerFault) → InOrder S P Q s c here → IsFaultOf c here x
        → InOrder S P Q s d there → IsFaultOf d there y → (c ≡ d) × (here ≡ there)
    same c d here there x y (inl h) w (inl k) v =
        first.alone x y (among (P s) c here x h w) (among (P s) d there y k v)
    same c d here there x y (inl h) w (inr n) v =
        absurd (never_both (r s) (n.0, n.1) x (reads S r exact s n.1 n.0 n.2) (first.answered x (among (P s) c here x h w)))
    same c d here there x y (inr m) w (inl k) v =
        absurd (never_both (r s) (m.0, m.1) y (reads S r exact s m.1 m.0 m.2) (first.answered y (among (P s) d there y k v)))
    same c d here there x y (inr m) w (inr n) v =
        let one : A × Place = (m.0, m.1) in
        let two : A × Place = (n.0, n.1) in
        let e : one ≡ two = ok_is one two (sym (reads S r exact s m.1 m.0 m.2) ∙ reads S r exact s n.1 n.0 n.2) in
        let k : Q m.0 m.1 d there = subst (λ (z : A × Place). Q z.0 z.1 d there) (sym e) n.3 in
        (next m.0 m.1 m.2).alone x y (among (Q m.0 m.1) c here x m.3 w) (among (Q m.0 m.1) d there y k v)
