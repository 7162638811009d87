-- What is in memory of vectors, the first of which are spent.
use Rattle.std.proofs.Common.{◌≡◌, ◌⊎◌, ◌↔◌, inl, inr, Bool, true, false, ℕ, zero, suc, ◌+◌, ◌-◌, ◌<◌, ◌≤◌, ◌^◌, List, [], ◌∷◌, ◌++◌, drop, length, get_or, replicate, refl, sym, ◌∙◌, ap, subst, arith}
use Rattle.std.specs.Prelude.{slice_get, slice_set, option_map, Option, Some, None, IsSome}
use Rattle.std.proofs.Math.Nat.{lt_of_not-le}
use Rattle.std.proofs.lemmas.List.{get_or-drop, length-append, length-drop, length-replicate, drop-append-le}
use Rattle.identity_slots.specs.declared.profile.Vector.{Vector}
use Rattle.identity_slots.specs.Forgetting.{first_forgotten, forgotten}
use Rattle.identity_slots.specs.Spending.{IsStocked, IsWindow, KeptView}
use Rattle.identity_slots.proofs.Forgetting.{first_get, first_length, one_next, suc_is}

-- ---- lists without their first ones

drop_none : (n : ℕ) → ◌≡◌ {A = List Vector} (drop n []) []
drop_none zero = refl
drop_none (suc n) = refl

drop_twice : (b d : ℕ) (vs : List Vector) → drop d (drop b vs) ≡ drop (b + d) vs
drop_twice zero d vs = let same : d ≡ 0 + d = omega arith in ap (λ m. drop m vs) same
drop_twice (suc b) d [] = drop_none d ∙ sym (drop_none (suc b + d))
drop_twice (suc b) d (v ∷ vs) =
    let same : suc (b + d) ≡ suc b + d = omega arith in drop_twice b d vs ∙ ap (λ m. drop m (v ∷ vs)) same

get_past : (b k : ℕ) (vs : List Vector) → slice_get (drop b vs) k ≡ slice_get vs (b + k)
get_past zero k vs = let same : k ≡ 0 + k = omega arith in ap (λ m. slice_get vs m) same
get_past (suc b) k [] = refl
get_past (suc b) k (v ∷ vs) =
    let same : suc (b + k) ≡ suc b + k = omega arith in get_past b k vs ∙ ap (λ m. slice_get (v ∷ vs) m) same

set_past : (b k : ℕ) (vs : List Vector) (v : Vector) → slice_set (drop b vs) k v ≡ drop b (slice_set vs (b + k) v)
set_past zero k vs v = let same : k ≡ 0 + k = omega arith in ap (λ m. slice_set vs m v) same
set_past (suc b) k [] v = refl
set_past (suc b) k (w ∷ vs) v =
    let same : suc (b + k) ≡ suc b + k = omega arith in
    set_past b k vs v ∙ ap (λ m. drop (suc b) (slice_set (w ∷ vs) m v)) same

-- ---- the vector at a place

-- that isn't spent
pub window_get : (b n place : ℕ) (vs items : List Vector) → IsWindow b n vs items → n ≤ place
    → slice_get items (place - b) ≡ slice_get vs place
window_get b n place vs items w unspent =
    let based = w.based in
    let whole : b + (place - b) ≡ place = omega (arith, based, unspent) in
    ap (λ (xs : List Vector). slice_get xs (place - b)) w.items ∙ get_past b (place - b) (first_forgotten n vs)
    ∙ ap (λ m. slice_get (first_forgotten n vs) m) whole ∙ first_get n place vs unspent

some_within : (vs : List Vector) (k : ℕ) → IsSome (slice_get vs k) → k < length vs
some_within [] k h = absurd (cc)
some_within (v ∷ vs) zero h = omega arith
some_within (v ∷ vs) (suc k) h = let less = some_within vs k h in omega (arith, less)

some_mapped : {A B : Type 0} (f : A → B) (o : Option A) (p : Option B) → option_map f o ≡ p → IsSome o → IsSome p
some_mapped f None p is h = absurd (cc)
some_mapped f (Some a) p is h = subst IsSome is (cc)

-- it is before the end
pub place_small : {A : Type 0} (f : A → Vector) (o : Option A) (vs : List Vector) (k m : ℕ) → option_map f o ≡ slice_get vs k
    → length vs < m → IsSome o → k < m
place_small f o vs k m is lt some =
    let less = some_within vs k (some_mapped f o (slice_get vs k) is some) in omega (arith, less, lt)

-- ---- how many there are

-- as many as were given from the base on
pub window_whole : (b n : ℕ) (vs items : List Vector) → IsWindow b n vs items → b + length items ≡ length vs
window_whole b n vs items w =
    let long = ap length w.items ∙ length-drop b (first_forgotten n vs) ∙ ap (λ m. m - b) (first_length n vs) in
    let based = w.based in
    let within = w.within in
    omega (arith, long, based, within)

-- ---- one more is spent

pub window_next : (b n : ℕ) (vs items : List Vector) (v d : Vector) → IsWindow b n vs items → n < length vs
    → v ≡ forgotten (get_or items (n - b) d) → IsWindow b (n + 1) vs (slice_set items (n - b) v)
window_next b n vs items v d w lt next =
    let based = w.based in
    let place : b + (n - b) ≡ n = omega (arith, based) in
    let read : get_or items (n - b) d ≡ get_or (first_forgotten n vs) n d =
    ap (λ (us : List Vector). get_or us (n - b) d) w.items ∙ get_or-drop b (first_forgotten n vs) (n - b) d
    ∙ ap (λ m. get_or (first_forgotten n vs) m d) place in
    record {
      items = ap (λ (u : Vector). slice_set items (n - b) u) (next ∙ ap (λ (u : Vector). forgotten u) read)
          ∙ ap (λ (us : List Vector). slice_set us (n - b) (forgotten (get_or (first_forgotten n vs) n d))) w.items
          ∙ set_past b (n - b) (first_forgotten n vs) (forgotten (get_or (first_forgotten n vs) n d))
          ∙ ap (λ m. drop b (slice_set (first_forgotten n vs) m (forgotten (get_or (first_forgotten n vs) n d)))) place
          ∙ ap (drop b) (one_next n vs (get_or (first_forgotten n vs) n d) d lt refl)
          ∙ ap (λ m. drop b (first_forgotten m vs)) (suc_is n);
      based = omega (arith, based);
      within = omega (arith, lt);
      small = w.small;
    }

-- ---- one more is given

first_push : (n : ℕ) (vs : List Vector) (v : Vector) → n ≤ length vs
    → first_forgotten n (vs ++ v ∷ []) ≡ first_forgotten n vs ++ v ∷ []
first_push zero vs v le = refl
first_push (suc n) [] v le = absurd (omega (arith, le))
first_push (suc n) (w ∷ vs) v le = ap (λ us. forgotten w ∷ us) (first_push n vs v (omega (arith, le)))

-- at the end, where the first ones of those that are kept go
pub window_given : (b n gone : ℕ) (vs items more : List Vector) (v : Vector) → IsWindow b n vs items → more ≡ drop gone items
    → gone ≤ n - b → length vs < 2 ^ 62 → IsWindow (b + gone) n (vs ++ v ∷ []) (more ++ v ∷ [])
window_given b n gone vs items more v w moved few small =
    let based = w.based in
    let within = w.within in
    let long = length-append vs (v ∷ []) in
    let le : b + gone ≤ n = omega (arith, based, few) in
    let inside : b + gone ≤ length (first_forgotten n vs) =
    subst (λ m. b + gone ≤ m) (sym (first_length n vs)) (omega (arith, le, within)) in
    let rest : more ≡ drop (b + gone) (first_forgotten n vs) =
    moved ∙ ap (drop gone) w.items ∙ drop_twice b gone (first_forgotten n vs) in
    record {
      items = ap (λ (us : List Vector). us ++ v ∷ []) rest ∙ sym (drop-append-le (b + gone) (first_forgotten n vs) (v ∷ []) inside)
          ∙ ap (drop (b + gone)) (sym (first_push n vs v within));
      based = le;
      within = omega (arith, within, long);
      small = omega (arith, small, long);
    }

-- ---- whether more are taken

-- by the number of those that were given, and of those that are spent
pub stocked_by : (m n : ℕ) (v : KeptView) → m ≡ length v.given → n ≡ v.spent
    → ((64 ≤ m - n) ⊎ (2 ^ 62 ≤ m)) ↔ IsStocked v
stocked_by m n v given spent = (
  λ (s : (64 ≤ m - n) ⊎ (2 ^ 62 ≤ m)).
      subst (λ k. (64 ≤ length v.given - k) ⊎ (2 ^ 62 ≤ length v.given)) spent (subst (λ k. (64 ≤ k - n) ⊎ (2 ^ 62 ≤ k)) given s),
  λ (s : IsStocked v).
      subst (λ k. (64 ≤ k - n) ⊎ (2 ^ 62 ≤ k)) (sym given)
      (subst (λ k. (64 ≤ length v.given - k) ⊎ (2 ^ 62 ≤ length v.given)) (sym spent) s),
)

-- neither, where the test says no
pub isnt_stocked : (v : KeptView) (r : Bool) → ((r ≡ true) ↔ IsStocked v) → r ≡ false
    → (length v.given < v.spent + 64) × (length v.given < 2 ^ 62)
isnt_stocked v r h off =
    let never : IsStocked v → ⊥ = λ s. (let yes = h.1 s in let both : true ≡ false = sym yes ∙ off in cc both) in
    let few = lt_of_not-le (λ (le : 64 ≤ length v.given - v.spent). never (inl le)) in
    let small = lt_of_not-le (λ (le : 2 ^ 62 ≤ length v.given). never (inr le)) in
    (omega (arith, few), small)

-- ---- those that are gone from the beginning on

first_of_some : (n : ℕ) (h : Vector) (vs : List Vector) → drop n (first_forgotten n (replicate n h ++ vs)) ≡ vs
first_of_some zero h vs = refl
first_of_some (suc n) h vs = first_of_some n h vs

pub window_resumed : (n : ℕ) (h : Vector) (given vs : List Vector) → given ≡ replicate n h ++ vs → n + length vs < 2 ^ 63
    → IsWindow n n given vs
window_resumed n h given vs is small =
    let long : length given ≡ n + length vs =
    ap length is ∙ length-append (replicate n h) vs ∙ ap (λ m. m + length vs) (length-replicate n h) in
    record {
      items = sym (first_of_some n h vs) ∙ ap (λ (us : List Vector). drop n (first_forgotten n us)) (sym is);
      based = omega arith;
      within = omega (arith, long);
      small = omega (arith, long, small);
    }
