-- Reading N values one after the other, as a loop does.
use Rattle.std.proofs.Common.{◌≡◌, ℕ, zero, suc, ◌-◌, ◌+◌, ◌≤◌, ◌<◌, List, [], ◌∷◌, ◌++◌, length, map, Result, Ok, Err, refl, sym, ap, ◌∙◌, append_assoc, arith}
use Rattle.std.proofs.lemmas.List.{append-nil, length-map}
use Rattle.per_streams.specs.BitLaws.{bind_ok, okay, ok_is}
use Rattle.per_streams.specs.declared.fault.PerFault.{PerFault}
use Rattle.per_streams.specs.declared.fault.PerError.{PerError}
use Rattle.per_streams.specs.declared.fault.PerError.TheVariants as errors
use Rattle.per_streams.specs.Bits.{Place, ◌>>=◌, Fails}
use Rattle.per_streams.specs.Each.{times}

-- what was read before, and what is still read
abbrev pub with_front : {A : Type 0} → List A → Result (List A × Place) PerFault → Result (List A × Place) PerFault
with_front front read = read >>= λ x. Ok (front ++ x.0, x.1)

regroup : {A : Type 0} (front : List A) (n : A) (read : Result (List A × Place) PerFault)
    → with_front front (read >>= λ x. Ok (n ∷ x.0, x.1)) ≡ with_front (front ++ n ∷ []) read
regroup {A} front n (Ok x) = ap (λ (ns : List A). Ok (ns, x.1)) (simp append_assoc)
regroup front n (Err f) = refl

pub goes_on : {A : Type 0} (r : Place → Result (A × Place) PerFault) (front : List A) (count i : ℕ) (s : Place) (n : A)
    (after : Place) (total : Result (List A × Place) PerFault)
    → i < count → r s ≡ Ok (n, after)
    → with_front front (times r (count - i) s) ≡ total → with_front (front ++ n ∷ []) (times r (count - (i + 1)) after) ≡ total
unfolding times
goes_on r front count i s n after total lt h so_far =
    let k : count - i ≡ suc (count - (i + 1)) = omega arith in
    let one : with_front front (times r (count - i) s) ≡ with_front (front ++ n ∷ []) (times r (count - (i + 1)) after) =
    rw (k, h) (regroup front n (times r (count - (i + 1)) after)) in
    sym one ∙ so_far

pub ends : {A : Type 0} (r : Place → Result (A × Place) PerFault) (e : PerError) (front : List A) (count i : ℕ) (s : Place)
    (total : Result (List A × Place) PerFault)
    → i < count → Fails e (r s)
    → with_front front (times r (count - i) s) ≡ total → Fails e total
unfolding times
ends r errors.NoMemory front count i s total lt h so_far = tt
ends r (errors.Fault f) front count i s total lt h so_far =
    let k : count - i ≡ suc (count - (i + 1)) = omega arith in
    let one : with_front front (times r (count - i) s) ≡ Err f = rw (k, h) refl in
    sym so_far ∙ one

pub is_done : {A : Type 0} (r : Place → Result (A × Place) PerFault) (front : List A) (count i : ℕ) (s : Place)
    (total : Result (List A × Place) PerFault)
    → count ≤ i → with_front front (times r (count - i) s) ≡ total → total ≡ Ok (front, s)
unfolding times
is_done {A} r front count i s total le so_far =
    let k : count - i ≡ 0 = omega arith in
    let one : with_front front (times r (count - i) s) ≡ Ok (front, s) =
    rw k (ap (λ (ns : List A). Ok (ns, s)) (append-nil front)) in
    sym so_far ∙ one

pub none_yet : {A : Type 0} (read : Result (List A × Place) PerFault) → with_front [] read ≡ read
none_yet (Ok x) = refl
none_yet (Err f) = refl

many : {A : Type 0} (r : Place → Result (A × Place) PerFault) (xs : List A) (n : ℕ) (s t : Place) → times r n s ≡ Ok (xs, t)
    → length xs ≡ n
unfolding times
many {A} r [] zero s t e = refl
many {A} r (y ∷ ys) zero s t e =
    let k : List A × Place = ([], s) in
    let last : List A × Place = (y ∷ ys, t) in
    absurd (let n = ap (λ (x : List A × Place). length x.0) (ok_is k last e) in omega (arith, n))
many {A} r xs (suc n) s t e =
    let last : List A × Place = (xs, t) in
    let a = bind_ok (r s) (λ x. times r n x.1 >>= λ y. Ok (x.0 ∷ y.0, y.1)) last e in
    let b = bind_ok (times r n a.0.1) (λ y. okay {A = List A × Place} (a.0.0 ∷ y.0, y.1)) last a.2 in
    let k : a.0.0 ∷ b.0.0 ≡ xs = ap (λ (x : List A × Place). x.0) (ok_is {A = List A × Place} (a.0.0 ∷ b.0.0, b.0.1) last b.2) in
    ap length (sym k) ∙ ap suc (many r b.0.0 n a.0.1 b.0.1 b.1)

-- there are as many values as were read
pub length-times : {A X : Type 0} (r : Place → Result (A × Place) PerFault) (view : X → A) (xs : List X) (n : ℕ) (s t : Place)
    → times r n s ≡ Ok (map view xs, t) → length xs ≡ n
length-times r view xs n s t e = sym (length-map xs view) ∙ many r (map view xs) n s t e
