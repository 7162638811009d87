-- A profile among others of which none has its IMSI or its address: those before it don't refuse it.
use Rattle.std.proofs.Common.{◌≡◌, ℕ, ◌+◌, ◌∙◌, List, [], ◌∷◌, ◌++◌, length, Bool, true, false, cond, Option, Some, None, refl, sym, ap, arith}
use Rattle.std.specs.Prelude.{◌==◌, nat_le}
use Rattle.std.proofs.lemmas.Bool.Decides.{nat_tests}
use Rattle.std.proofs.lemmas.List.{length-append}
use Rattle.identity_slots.specs.declared.profile.Profile.{Profile}
use Rattle.identity_slots.specs.Ids.{slots}
use Rattle.identity_slots.specs.Provisioned.{AreDistinct, add_fault, address_key, imsi_key, place_from, slot_of_address, slot_of_imsi}
use Rattle.mme_snapshot.specs.Saved.{AreProvisioned}

module _ (key : Profile → ℕ) where
  found_by : (b : Bool) (n : ℕ) (o : Option ℕ) {A : Type 0} → (o ≡ None → A) → cond b (Some n) o ≡ None → A
  found_by true n o more h = absurd (cc h)
  found_by false n o more h = more h

  -- one with this number is found
  is_found : (k n : ℕ) (fs : List Profile) (p : Profile) (bs : List Profile) {A : Type 0} → key p ≡ k → place_from key k n (fs ++ p ∷ bs) ≡ None
      → A
  is_found k n [] p bs same none =
      let is : (key p == k) ≡ true = grind (arith, nat_tests) in
      absurd (cc (ap (λ b. cond b (Some n) (place_from key k (n + 1) bs)) (sym is) ∙ none))
  is_found k n (a ∷ fs) p bs same none =
      found_by (key a == k) n (place_from key k (n + 1) (fs ++ p ∷ bs)) (is_found k (n + 1) fs p bs same) none

  passed : (b : Bool) (n : ℕ) (a p : Profile) (fs bs : List Profile) (o : Option ℕ) → (key a == key p) ≡ b → o ≡ None
      → place_from key (key a) 0 (fs ++ p ∷ bs) ≡ None → cond b (Some n) o ≡ None
  passed true n a p fs bs o is none apart =
      let same : key p ≡ key a = grind (arith, nat_tests) in is_found (key a) 0 fs p bs same apart
  passed false n a p fs bs o is none apart = none

  -- none of those before it has its number
  pub nobody_before : (n : ℕ) (fs : List Profile) (p : Profile) (bs : List Profile) → AreDistinct key (fs ++ p ∷ bs)
      → place_from key (key p) n fs ≡ None
  nobody_before n [] p bs h = refl
  nobody_before n (a ∷ fs) p bs h =
      passed (key a == key p) n a p fs bs (place_from key (key p) (n + 1) fs) refl (nobody_before (n + 1) fs p bs h.1) h.0

pub not_refused : (fs : List Profile) (p : Profile) (bs : List Profile) → AreProvisioned (fs ++ p ∷ bs) → add_fault p fs ≡ None
unfolding slot_of_imsi slot_of_address
not_refused fs p bs h =
    let size = length-append fs (p ∷ bs) in
    let few = h.few in
    let room : nat_le slots (length fs) ≡ false = grind (arith, nat_tests) in
    rw (nobody_before imsi_key 0 fs p bs h.imsis, nobody_before address_key 0 fs p bs h.addresses, room) refl
