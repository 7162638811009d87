-- Which texts begin with the name of an owner: those of this owner alone, where numbers are in range.
use Rattle.std.proofs.Common.{◌≡◌, ℕ, ◌^◌, ◌<◌, ◌≤◌, ◌==◌, ◌&&◌, Bool, true, false, List, [], ◌∷◌, ◌++◌, refl, sym, ap, ◌∙◌, append_assoc, inl, inr, arith}
use Rattle.std.specs.Fmt.{decimal}
use Rattle.std.proofs.lemmas.Bool.{and_parts, cases_eq, eqb-true, eq-eqb, ne_eqb}
use Rattle.std.proofs.lemmas.Fmt.{decimal_injective}
use Rattle.identity_slots.specs.Ids.{number_in, station_in, strangers}
use Rattle.mme_answering.specs.declared.out.Owner.{Owner}
use Rattle.mme_answering.specs.declared.out.Owner.TheVariants.{Station, Stranger, Subscriber}
use Rattle.mme_core.specs.Projection.{is_slot, is_station, is_stranger}
use Rattle.trace_answers.specs.Words.{owner_text}
use Rattle.laws_simulation.specs.Printed.{begins_with}
use Rattle.laws_simulation.proofs.Lines.{AreDigits, decimal_digits}

-- ---- the same owner

abbrev pub is_of : Owner → Owner → Bool
is_of (Station e) p = is_station e p
is_of (Stranger id) p = is_stranger id p
is_of (Subscriber slot) p = is_slot slot p

pub same_owner : (o p : Owner) → is_of o p ≡ true → p ≡ o
same_owner (Station e) (Station n) h = ap Station (eqb-true n e h)
same_owner (Station e) (Stranger n) h = absurd (cc h)
same_owner (Station e) (Subscriber n) h = absurd (cc h)
same_owner (Stranger id) (Station n) h = absurd (cc h)
same_owner (Stranger id) (Stranger n) h = ap Stranger (eqb-true n id h)
same_owner (Stranger id) (Subscriber n) h = absurd (cc h)
same_owner (Subscriber slot) (Station n) h = absurd (cc h)
same_owner (Subscriber slot) (Stranger n) h = absurd (cc h)
same_owner (Subscriber slot) (Subscriber n) h = ap Subscriber (eqb-true n slot h)

-- a text that begins with the name of p begins with that of o where p is o, and only there
abbrev pub Agree : Owner → Owner → Type 0
Agree o p = (rest : List ℕ) → begins_with (owner_text o) (owner_text p ++ rest) ≡ is_of o p

-- ---- fronts

same_begins : (xs rest : List ℕ) → begins_with xs (xs ++ rest) ≡ true
same_begins [] rest = refl
same_begins (x ∷ xs) rest = ap (λ b. b && begins_with xs (xs ++ rest)) (eq-eqb x x refl) ∙ same_begins xs rest

-- what ends numbers parts them
parted : (t : ℕ) (xs xt ys yt : List ℕ) → t < 48 → AreDigits xs → AreDigits ys → begins_with (xs ++ t ∷ xt) (ys ++ t ∷ yt) ≡ true
    → (xs ≡ ys) × (begins_with xt yt ≡ true)
parted t [] xt [] yt low h k is = (refl, (and_parts (t == t) (begins_with xt yt) is).1)
parted t [] xt (y ∷ ys) yt low h k is =
    let same = eqb-true t y (and_parts (t == y) (begins_with xt (ys ++ t ∷ yt)) is).0 in
    let over = k.0 in
    absurd (omega (arith, same, over, low))
parted t (x ∷ xs) xt [] yt low h k is =
    let same = eqb-true x t (and_parts (x == t) (begins_with (xs ++ t ∷ xt) yt) is).0 in
    let over = h.0 in
    absurd (omega (arith, same, over, low))
parted t (x ∷ xs) xt (y ∷ ys) yt low h k is =
    let two = and_parts (x == y) (begins_with (xs ++ t ∷ xt) (ys ++ t ∷ yt)) is in
    let rest = parted t xs xt ys yt low h.1 k.1 two.1 in
    (ap (λ c. c ∷ xs) (eqb-true x y two.0) ∙ ap (λ cs. y ∷ cs) rest.0, rest.1)

not_so : (b : Bool) → (b ≡ true → ⊥) → b ≡ false
not_so true h = absurd (h refl)
not_so false h = refl

-- by the numbers in two names
agree_by : (o p : Owner) (n m : ℕ) (rest : List ℕ) → is_of o p ≡ (n == m) → (n ≡ m → p ≡ o)
    → (begins_with (owner_text o) (owner_text p ++ rest) ≡ true → n ≡ m)
    → begins_with (owner_text o) (owner_text p ++ rest) ≡ is_of o p
agree_by o p n m rest test same other = elim (cases_eq n m) [
  | inl is ↦
      ap (λ (q : Owner). begins_with (owner_text o) (owner_text q ++ rest)) (same is) ∙ same_begins (owner_text o) rest
      ∙ sym (test ∙ eq-eqb n m is)
  | inr ne ↦
      not_so (begins_with (owner_text o) (owner_text p ++ rest)) (λ begins. ne (other begins)) ∙ sym (test ∙ ne_eqb n m ne)
]

-- a number and the space after it
numbers : (n m : ℕ) (rest : List ℕ) → n < 2 ^ 64 → m < 2 ^ 64
    → begins_with (decimal n ++ 32 ∷ []) ((decimal m ++ 32 ∷ []) ++ rest) ≡ true → m ≡ n
numbers n m rest small low h =
    let is = ap (begins_with (decimal n ++ 32 ∷ [])) (sym (append_assoc (decimal m) (32 ∷ []) rest)) ∙ h in
    decimal_injective m n low small
    (sym (parted 32 (decimal n) [] (decimal m) rest (omega arith) (decimal_digits n) (decimal_digits m) is).0)

-- ---- a slot

pub agree_slot_station : (slot e : ℕ) → Agree (Subscriber slot) (Station e)
agree_slot_station slot e rest = refl

pub agree_slot_stranger : (slot id : ℕ) → Agree (Subscriber slot) (Stranger id)
agree_slot_stranger slot id rest = refl

pub agree_slots : (slot n : ℕ) → slot < 2 ^ 64 → n < 2 ^ 64 → Agree (Subscriber slot) (Subscriber n)
agree_slots slot n small low rest =
    agree_by (Subscriber slot) (Subscriber n) n slot rest refl (λ is. ap Subscriber is) (λ begins. numbers slot n rest small low begins)

-- ---- a station

pub agree_station_stranger : (e id : ℕ) → Agree (Station e) (Stranger id)
agree_station_stranger e id rest = refl

pub agree_station_slot : (e slot : ℕ) → Agree (Station e) (Subscriber slot)
agree_station_slot e slot rest = refl

pub agree_stations : (e n : ℕ) → e < 2 ^ 64 → n < 2 ^ 64 → Agree (Station e) (Station n)
agree_stations e n small low rest =
    agree_by (Station e) (Station n) n e rest refl (λ is. ap Station is) (λ begins. numbers e n rest small low begins)

-- ---- a stranger

-- its id is made of a station and a number (TS 36.413 clause 9.2.3.3)
pub record IsStrangerId (id : ℕ) : Type 0 where
  pub from : strangers ≤ id
  pub station : station_in id < 128

pub agree_stranger_station : (id e : ℕ) → Agree (Stranger id) (Station e)
agree_stranger_station id e rest = refl

pub agree_stranger_slot : (id slot : ℕ) → Agree (Stranger id) (Subscriber slot)
agree_stranger_slot id slot rest = refl

made_again : (id n : ℕ) → strangers ≤ id → strangers ≤ n → station_in n ≡ station_in id → number_in n ≡ number_in id → n ≡ id
made_again id n h k station number = omega (arith, station, number)

number_low : (id : ℕ) → number_in id < 2 ^ 64
number_low id = omega arith

-- a station, a full stop, a number and the space after it
two_numbers : (e a n b : ℕ) (rest : List ℕ) → e < 2 ^ 64 → a < 2 ^ 64 → n < 2 ^ 64 → b < 2 ^ 64
    → begins_with (((decimal e ++ 46 ∷ []) ++ decimal a) ++ 32 ∷ []) ((((decimal n ++ 46 ∷ []) ++ decimal b) ++ 32 ∷ []) ++ rest) ≡ true
    → (n ≡ e) × (b ≡ a)
two_numbers e a n b rest he ha hn hb h =
    let left : ((decimal e ++ 46 ∷ []) ++ decimal a) ++ 32 ∷ [] ≡ decimal e ++ 46 ∷ (decimal a ++ 32 ∷ []) =
    append_assoc (decimal e ++ 46 ∷ []) (decimal a) (32 ∷ []) ∙ append_assoc (decimal e) (46 ∷ []) (decimal a ++ 32 ∷ []) in
    let right : (((decimal n ++ 46 ∷ []) ++ decimal b) ++ 32 ∷ []) ++ rest ≡ decimal n ++ 46 ∷ ((decimal b ++ 32 ∷ []) ++ rest) =
    ap (λ v. v ++ rest) (append_assoc (decimal n ++ 46 ∷ []) (decimal b) (32 ∷ []) ∙ append_assoc (decimal n) (46 ∷ []) (decimal b ++ 32 ∷ []))
    ∙ append_assoc (decimal n) (46 ∷ (decimal b ++ 32 ∷ [])) rest in
    let is = sym (ap (λ v. begins_with v ((((decimal n ++ 46 ∷ []) ++ decimal b) ++ 32 ∷ []) ++ rest)) left
    ∙ ap (begins_with (decimal e ++ 46 ∷ (decimal a ++ 32 ∷ []))) right) ∙ h in
    let two = parted 46 (decimal e) (decimal a ++ 32 ∷ []) (decimal n) ((decimal b ++ 32 ∷ []) ++ rest) (omega arith)
    (decimal_digits e) (decimal_digits n) is in
    (decimal_injective n e hn he (sym two.0), numbers a b rest ha hb two.1)

pub agree_strangers : (id n : ℕ) → IsStrangerId id → IsStrangerId n → Agree (Stranger id) (Stranger n)
agree_strangers id n h k rest =
    let low = h.station in
    let small = k.station in
    agree_by (Stranger id) (Stranger n) n id rest refl (λ is. ap Stranger is)
    (λ begins.
    let two = two_numbers (station_in id) (number_in id) (station_in n) (number_in n) rest (omega (arith, low)) (number_low id)
    (omega (arith, small)) (number_low n) begins in
    made_again id n h.from k.from two.0 two.1)
