-- Reading past N values, and writing each of several, as loops do.
use Rattle.std.specs.Prelude.{OnErr, OnOk}
use Rattle.std.proofs.Common.{get_or, ◌≡◌, ℕ, suc, ◌-◌, ◌+◌, ◌≤◌, ◌<◌, Bool, true, false, List, [], ◌∷◌, ◌++◌, length, drop, map, Result, Ok, Err, refl, sym, ap, ◌∙◌, arith}
use Rattle.std.proofs.lemmas.List.{drop_more, drop_all}
use mir.Val.{bool_byte}
use Rattle.per_streams.specs.declared.fault.PerFault.{PerFault}
use Rattle.per_streams.specs.declared.fault.PerError.{PerError}
use Rattle.per_streams.specs.declared.fault.PerError.TheVariants as errors
use Rattle.per_streams.specs.Bits.{Place, ◌>>=◌, Fails, open_at, bit_at}
use Rattle.per_streams.specs.Each.{times}
use Rattle.per_streams.specs.Writing.{Wrote}
use Rattle.per_bits.specs.Reading.{whole_at, inside_at}
use Rattle.per_bits.specs.Spelling.{trues}
use Rattle.per_bits.specs.Writing.{write_each}
use Rattle.per_streams.specs.Times.{with_front}

abbrev pub unkept : {A : Type 0} → Result (A × Place) PerFault → Result (Unit {0} × Place) PerFault
unkept read = read >>= λ x. Ok (tt, x.1)

unkept_more : {A : Type 0} (a : A) (read : Result (List A × Place) PerFault)
    → unkept (read >>= λ x. Ok (a ∷ x.0, x.1)) ≡ unkept read
unkept_more a (Ok x) = refl
unkept_more a (Err f) = refl

pass_after : {A : Type 0} (q : Place → Result (List A × Place) PerFault) (read : Result (A × Place) PerFault) (t : Place)
    → unkept read ≡ Ok (tt, t) → unkept (read >>= λ x. q x.1 >>= λ y. Ok (x.0 ∷ y.0, y.1)) ≡ unkept (q t)
pass_after {A} q (Ok x) t e =
    let u : Unit {0} × Place = (tt, x.1) in
    let v : Unit {0} × Place = (tt, t) in
    let k : Result (Unit {0} × Place) PerFault = Ok u in
    let same : u ≡ v = cc in
    unkept_more x.0 (q x.1) ∙ ap (λ (p : Unit {0} × Place). unkept (q p.1)) same
pass_after q (Err f) t e = absurd cc

pass_not : {A : Type 0} (q : Place → Result (List A × Place) PerFault) (read : Result (A × Place) PerFault) (f : PerFault)
    → unkept read ≡ Err f → unkept (read >>= λ x. q x.1 >>= λ y. Ok (x.0 ∷ y.0, y.1)) ≡ Err f
pass_not q (Ok x) f e = absurd cc
pass_not q (Err d) f e = e

pub goes_on : {A : Type 0} (r : Place → Result (A × Place) PerFault) (count i : ℕ) (s t : Place)
    (total : Result (Unit {0} × Place) PerFault)
    → i < count → unkept (r s) ≡ Ok (tt, t)
    → unkept (times r (count - i) s) ≡ total → unkept (times r (count - (i + 1)) t) ≡ total
unfolding times
goes_on r count i s t total lt h so_far =
    let k : count - i ≡ suc (count - (i + 1)) = omega arith in
    let one : unkept (times r (count - i) s) ≡ unkept (times r (count - (i + 1)) t) =
    rw k (pass_after (times r (count - (i + 1))) (r s) t h) in
    sym one ∙ so_far

pub ends : {A : Type 0} (r : Place → Result (A × Place) PerFault) (f : PerFault) (count i : ℕ) (s : Place)
    (total : Result (Unit {0} × Place) PerFault)
    → i < count → unkept (r s) ≡ Err f
    → unkept (times r (count - i) s) ≡ total → total ≡ Err f
unfolding times
ends r f count i s total lt h so_far =
    let k : count - i ≡ suc (count - (i + 1)) = omega arith in
    let one : unkept (times r (count - i) s) ≡ Err f = rw k (pass_not (times r (count - (i + 1))) (r s) f h) in
    sym so_far ∙ one

pub is_done : {A : Type 0} (r : Place → Result (A × Place) PerFault) (count i : ℕ) (s : Place)
    (total : Result (Unit {0} × Place) PerFault)
    → count ≤ i → unkept (times r (count - i) s) ≡ total → total ≡ Ok (tt, s)
unfolding times
is_done r count i s total le so_far =
    let k : count - i ≡ 0 = omega arith in
    let one : unkept (times r (count - i) s) ≡ Ok (tt, s) = rw k refl in
    sym so_far ∙ one

-- ---- presence bits

pub trues-push : (xs : List Bool) (b : Bool) → trues (xs ++ b ∷ []) ≡ trues xs + bool_byte b
trues-push [] true = refl
trues-push [] false = refl
trues-push (true ∷ xs) b = let ih = trues-push xs b in omega (arith, ih)
trues-push (false ∷ xs) b = trues-push xs b

pub record Flags (some i : ℕ) (s : Place) (count : ℕ) (total : Result (List Bool × Place) PerFault) : Type 0 where
  pub front : List Bool
  pub so_far : with_front front (times bit_at (count - i) s) ≡ total
  pub trues_are : some ≡ trues front
  pub few : some ≤ i

-- ---- open types

pub inside_fails : {A : Type 0} (e : PerError) (r : Place → Result (A × Place) PerFault) (s : Place) (os : List ℕ) (t : Place)
    → open_at s ≡ Ok (os, t) → Fails e (whole_at r os) → Fails e (inside_at r s)
inside_fails errors.NoMemory r s os t h k = tt
inside_fails (errors.Fault f) r s os t h k = rw (h, k) refl

pub inside_ok : {A : Type 0} (r : Place → Result (A × Place) PerFault) (s : Place) (os : List ℕ) (t : Place) (v : A)
    → open_at s ≡ Ok (os, t) → whole_at r os ≡ Ok v → inside_at r s ≡ Ok (v, t)
inside_ok r s os t v h k = rw (h, k) refl

-- ---- writing each

pub write_goes_on : {A B : Type 0} (w : B → List Bool → Result (List Bool) PerFault) (view : A → B) (xs : List A) (i : ℕ) (z x : A)
    (out after : List Bool) (total : Result (List Bool) PerFault)
    → i < length xs → x ≡ get_or xs i z → w (view x) out ≡ Ok after
    → write_each w (map view (drop i xs)) out ≡ total → write_each w (map view (drop (i + 1) xs)) after ≡ total
unfolding write_each
write_goes_on w view xs i z x out after total lt is h so_far =
    let one : write_each w (map view (drop i xs)) out ≡ write_each w (map view (drop (i + 1) xs)) after =
    rw (drop_more xs i z lt, ← is, h) refl in
    sym one ∙ so_far

pub write_ends : {A B : Type 0} (e : PerError) (w : B → List Bool → Result (List Bool) PerFault) (view : A → B) (xs : List A)
    (i : ℕ) (z x : A) (out : List Bool) (total : Result (List Bool) PerFault)
    → i < length xs → x ≡ get_or xs i z → Fails e (w (view x) out)
    → write_each w (map view (drop i xs)) out ≡ total → Fails e total
unfolding write_each
write_ends errors.NoMemory w view xs i z x out total lt is h so_far = tt
write_ends (errors.Fault f) w view xs i z x out total lt is h so_far =
    let one : write_each w (map view (drop i xs)) out ≡ Err f = rw (drop_more xs i z lt, ← is, h) refl in
    sym so_far ∙ one

pub write_done : {A B : Type 0} (w : B → List Bool → Result (List Bool) PerFault) (view : A → B) (xs : List A) (i : ℕ)
    (out : List Bool) (total : Result (List Bool) PerFault)
    → length xs ≤ i → write_each w (map view (drop i xs)) out ≡ total → total ≡ Ok out
unfolding write_each
write_done w view xs i out total le so_far =
    let one : write_each w (map view (drop i xs)) out ≡ Ok out = rw (drop_all i xs le) refl in
    sym so_far ∙ one

-- ---- what failed fails whatever follows

pub fails_then : {A B : Type 0} (e : PerError) (r : Result A PerFault) (f : A → Result B PerFault) → Fails e r → Fails e (r >>= f)
fails_then errors.NoMemory r f h = tt
fails_then (errors.Fault d) r f h = rw h refl

-- what was written, where nothing but memory can be wanting
pub wrote_if : {X : Type 0} (new : List Bool) (write : Result (List Bool) PerFault) (r : Result X PerError)
    → OnOk r (write ≡ Ok new) → OnErr r (r ≡ Err errors.NoMemory) → Wrote r new write
wrote_if new write (Ok x) wrote refused = wrote
wrote_if new write (Err errors.NoMemory) wrote refused = tt
wrote_if new write (Err (errors.Fault f)) wrote refused = absurd cc
