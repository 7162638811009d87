-- What one more profile makes of the look-ups, and one less.
use Rattle.std.proofs.Common.{◌≡◌, ℕ, ◌+◌, ◌<◌, ◌≤◌, List, [], ◌∷◌, ◌++◌, length, refl, sym, ◌∙◌, ap, subst, arith}
use Rattle.std.specs.Prelude.{nat_le, nat_eq, ◌==◌, Option, Some, None, Bool, true, false, cond, if◌then◌else◌, is_some, IfSome, IfNone, Result, Ok, Err, IsOk, OnOk}
use Rattle.std.proofs.lemmas.Bool.Decides.{nat_tests}
use Rattle.std.specs.Result.{is_err}
use Rattle.std.specs.HashMap.{HashMap, get}
use Rattle.identity_slots.specs.declared.profile.Profile.{Profile}
use Rattle.identity_slots.specs.declared.provision.ProvisionFault.{ProvisionFault}
use Rattle.identity_slots.specs.declared.provision.ProvisionFault.TheVariants.{RepeatedImsi, RepeatedAddress, Full}
use Rattle.identity_slots.specs.Ids.{slots}
use Rattle.identity_slots.specs.Provisioned.{imsi_number, address_number, imsi_key, address_key, place_from, slot_of_imsi, slot_of_address, AreDistinct, add_fault}
use Rattle.identity_slots.specs.Kept.{IsSlotIndex}
use Rattle.std.proofs.lemmas.List.{length-append}

pub imsi_slot : {S : Type 0} (imsi : List ℕ) (index : HashMap ℕ ℕ S) (ps : List Profile) → IsSlotIndex imsi_key index ps
    → get nat_eq index (imsi_number imsi) ≡ slot_of_imsi imsi ps
unfolding slot_of_imsi
imsi_slot imsi index ps h = h (imsi_number imsi)

pub address_slot : {S : Type 0} (address : List ℕ) (index : HashMap ℕ ℕ S) (ps : List Profile) → IsSlotIndex address_key index ps
    → get nat_eq index (address_number address) ≡ slot_of_address address ps
unfolding slot_of_address
address_slot address index ps h = h (address_number address)

pub held_imsi : {S : Type 0} (imsi : List ℕ) (n : ℕ) (index : HashMap ℕ ℕ S) (ps qs : List Profile) (b : Bool)
    → IsSlotIndex imsi_key index ps → n ≡ imsi_number imsi → ps ≡ qs → b ≡ is_some (get nat_eq index n)
    → is_some (slot_of_imsi imsi qs) ≡ b
held_imsi imsi n index ps qs b h e f g =
    ap (λ xs. is_some (slot_of_imsi imsi xs)) (sym f) ∙ ap is_some (sym (imsi_slot imsi index ps h))
    ∙ ap (λ k. is_some (get nat_eq index k)) (sym e) ∙ sym g

pub held_address : {S : Type 0} (address : List ℕ) (n : ℕ) (index : HashMap ℕ ℕ S) (ps qs : List Profile) (b : Bool)
    → IsSlotIndex address_key index ps → n ≡ address_number address → ps ≡ qs → b ≡ is_some (get nat_eq index n)
    → is_some (slot_of_address address qs) ≡ b
held_address address n index ps qs b h e f g =
    ap (λ xs. is_some (slot_of_address address xs)) (sym f) ∙ ap is_some (sym (address_slot address index ps h))
    ∙ ap (λ k. is_some (get nat_eq index k)) (sym e) ∙ sym g

-- ---- the faults

pub fault_imsi : (p : Profile) (ps : List Profile) → is_some (slot_of_imsi p.imsi ps) ≡ true → add_fault p ps ≡ Some RepeatedImsi
fault_imsi p ps a = rw a refl

pub fault_address : (p : Profile) (ps : List Profile) → is_some (slot_of_imsi p.imsi ps) ≡ false
    → is_some (slot_of_address p.address ps) ≡ true → add_fault p ps ≡ Some RepeatedAddress
fault_address p ps a b = rw a (rw b refl)

pub fault_full : (p : Profile) (ps : List Profile) → is_some (slot_of_imsi p.imsi ps) ≡ false
    → is_some (slot_of_address p.address ps) ≡ false → slots ≤ length ps → add_fault p ps ≡ Some Full
fault_full p ps a b le = let c : nat_le slots (length ps) ≡ true = grind (arith, nat_tests) in rw a (rw b (rw c refl))

pub fault_none : (p : Profile) (ps : List Profile) → is_some (slot_of_imsi p.imsi ps) ≡ false
    → is_some (slot_of_address p.address ps) ≡ false → length ps < slots → add_fault p ps ≡ None
fault_none p ps a b lt = let c : nat_le slots (length ps) ≡ false = grind (arith, nat_tests) in rw a (rw b (rw c refl))

pub refused_by : (T : Type 0) (o : Option ProvisionFault) (fault : ProvisionFault) → o ≡ Some fault
    → IfSome o (λ f. ◌≡◌ {A = Result T ProvisionFault} (Err fault) (Err f))
refused_by T o fault e = subst (λ x. IfSome x (λ f. ◌≡◌ {A = Result T ProvisionFault} (Err fault) (Err f))) (sym e) refl

pub not_none : (P : Type 0) (o : Option ProvisionFault) (fault : ProvisionFault) → o ≡ Some fault → IfNone o P
not_none P o fault e = subst (λ x. IfNone x P) (sym e) tt

pub not_some : (P : ProvisionFault → Type 0) (o : Option ProvisionFault) → o ≡ None → IfSome o P
not_some P o e = subst (λ x. IfSome x P) (sym e) tt

-- ---- one more profile

module _ (key : Profile → ℕ) where
  pub place_push : (k n : ℕ) (p : Profile) (ps : List Profile) → place_from key (key p) n ps ≡ None
      → place_from key k n (ps ++ p ∷ []) ≡ (if key p == k then Some (n + length ps) else place_from key k n ps)
  place_push k n p [] h = grind (arith, nat_tests)
  place_push k n p (q ∷ qs) h = let ih = place_push k (n + 1) p qs in grind (arith, nat_tests)

  none_from : (k n m : ℕ) (ps : List Profile) → place_from key k n ps ≡ None → place_from key k m ps ≡ None
  none_from k n m [] h = refl
  none_from k n m (q ∷ qs) h = let ih = none_from k (n + 1) (m + 1) qs in grind (arith, nat_tests)

  distinct_by : (p q : Profile) (qs : List Profile) → place_from key (key p) 0 (q ∷ qs) ≡ None → place_from key (key q) 0 qs ≡ None
      → place_from key (key q) 0 (qs ++ p ∷ []) ≡ None
  distinct_by p q qs h d =
      let away = none_from (key p) 1 0 qs in
      let push = place_push (key q) 0 p qs in
      grind (arith, nat_tests)

  pub distinct_push : (p : Profile) (ps : List Profile) → place_from key (key p) 0 ps ≡ None → AreDistinct key ps
      → AreDistinct key (ps ++ p ∷ [])
  distinct_push p [] h d = (refl, tt)
  distinct_push p (q ∷ qs) h d =
      let away = none_from (key p) 1 0 qs in
      let rest : place_from key (key p) 0 qs ≡ None = grind (arith, nat_tests) in
      (distinct_by p q qs h d.0, distinct_push p qs rest d.1)

  pub index_push : {S : Type 0} (p : Profile) (ps : List Profile) (old between new : HashMap ℕ ℕ S) → IsSlotIndex key old ps
      → ((k : ℕ) → get nat_eq between k ≡ get nat_eq old k) → place_from key (key p) 0 ps ≡ None
      → ((k : ℕ) → get nat_eq new k ≡ cond (nat_eq (key p) k) (Some (length ps)) (get nat_eq between k))
      → IsSlotIndex key new (ps ++ p ∷ [])
  index_push p ps old between new h s n u k =
      u k ∙ ap (λ o. cond (nat_eq (key p) k) (Some (length ps)) o) (s k ∙ h k) ∙ sym (place_push k 0 p ps n ∙ first_place k p ps)
    where
      first_place : (k : ℕ) (p : Profile) (ps : List Profile) → (if key p == k then Some (0 + length ps) else place_from key k 0 ps) ≡ cond (nat_eq (key p) k) (Some (length ps)) (place_from key k 0 ps)
      first_place k p ps = ap (λ n. cond (nat_eq (key p) k) (Some n) (place_from key k 0 ps)) (omega arith)

  -- ---- the last profile less

  last_none : (k n : ℕ) (p : Profile) (ps : List Profile) → place_from key k n (ps ++ p ∷ []) ≡ None → place_from key k n ps ≡ None
  last_none k n p [] h = refl
  last_none k n p (q ∷ qs) h = let ih = last_none k (n + 1) p qs in grind (arith, nat_tests)

  last_apart : (k n : ℕ) (p : Profile) (ps : List Profile) → place_from key k n (ps ++ p ∷ []) ≡ None → (key p == k) ≡ false
  last_apart k n p [] h = grind (arith, nat_tests)
  last_apart k n p (q ∷ qs) h = let ih = last_apart k (n + 1) p qs in grind (arith, nat_tests)

  pub distinct_front : (p : Profile) (ps : List Profile) → AreDistinct key (ps ++ p ∷ []) → AreDistinct key ps
  distinct_front p [] d = tt
  distinct_front p (q ∷ qs) d = (last_none (key q) 0 p qs d.0, distinct_front p qs d.1)

  last_away : (n : ℕ) (p : Profile) (ps : List Profile) → AreDistinct key (ps ++ p ∷ []) → place_from key (key p) n ps ≡ None
  last_away n p [] d = refl
  last_away n p (q ∷ qs) d =
      let rest = last_away (n + 1) p qs d.1 in
      let apart = last_apart (key q) 0 p qs d.0 in
      grind (arith, nat_tests)

  without_last : (k : ℕ) (p : Profile) (ps : List Profile) → place_from key (key p) 0 ps ≡ None
      → cond (nat_eq (key p) k) None (if key p == k then Some (0 + length ps) else place_from key k 0 ps) ≡ place_from key k 0 ps
  without_last k p ps h = grind (arith, nat_tests)

  pub index_front : {S : Type 0} (p : Profile) (ps : List Profile) (old new : HashMap ℕ ℕ S) → IsSlotIndex key old (ps ++ p ∷ [])
      → AreDistinct key (ps ++ p ∷ []) → ((k : ℕ) → get nat_eq new k ≡ cond (nat_eq (key p) k) None (get nat_eq old k))
      → IsSlotIndex key new ps
  index_front p ps old new h d u k =
      let away = last_away 0 p ps d in
      u k ∙ ap (cond (nat_eq (key p) k) None) (h k ∙ place_push k 0 p ps away) ∙ without_last k p ps away

is_none : {X : Type 0} (o : Option X) → is_some o ≡ false → o ≡ None
is_none None h = refl
is_none (Some x) h = absurd (cc)

pub absent : {S : Type 0} (key : Profile → ℕ) (k : ℕ) (index : HashMap ℕ ℕ S) (ps : List Profile) → IsSlotIndex key index ps
    → is_some (get nat_eq index k) ≡ false → place_from key k 0 ps ≡ None
absent key k index ps h e = sym (h k) ∙ is_none (get nat_eq index k) e

pub on_ok : {X E P : Type 0} (r : Result X E) → IsOk r → OnOk r P → P
on_ok (Ok x) h p = p
on_ok (Err e) h p = absurd (cc)

pub index_added : {S : Type 0} (key : Profile → ℕ) (n slot : ℕ) (p : Profile) (ps qs : List Profile) (old between new : HashMap ℕ ℕ S) → n ≡ key p → slot ≡ length ps → qs ≡ ps ++ p ∷ [] → IsSlotIndex key old ps
    → ((k : ℕ) → get nat_eq between k ≡ get nat_eq old k) → is_some (get nat_eq old n) ≡ false
    → ((k : ℕ) → get nat_eq new k ≡ cond (nat_eq n k) (Some slot) (get nat_eq between k)) → IsSlotIndex key new qs
index_added key n slot p ps qs old between new e f g h s a u =
    subst (λ xs. IsSlotIndex key new xs) (sym g)
    (index_push key p ps old between new h s (subst (λ m. place_from key m 0 ps ≡ None) e (absent key n old ps h a))
    (λ k. subst (λ m. get nat_eq new k ≡ cond (nat_eq m k) (Some (length ps)) (get nat_eq between k)) e
    (subst (λ m. get nat_eq new k ≡ cond (nat_eq n k) (Some m) (get nat_eq between k)) f (u k))))

pub distinct_added : {S : Type 0} (key : Profile → ℕ) (n : ℕ) (p : Profile) (ps qs : List Profile) (old : HashMap ℕ ℕ S) → n ≡ key p
    → qs ≡ ps ++ p ∷ [] → IsSlotIndex key old ps → is_some (get nat_eq old n) ≡ false
    → AreDistinct key ps → AreDistinct key qs
distinct_added key n p ps qs old e g h a d =
    subst (AreDistinct key) (sym g)
    (distinct_push key p ps (subst (λ m. place_from key m 0 ps ≡ None) e (absent key n old ps h a)) d)

pub longer : {X : Type 0} (x : X) (xs ys : List X) → ys ≡ xs ++ x ∷ [] → length ys ≡ length xs + 1
longer x xs ys e = ap length e ∙ length-append xs (x ∷ [])

pub not_err : {X E : Type 0} (r : Result X E) → is_err r ≡ false → IsOk r
not_err (Ok x) h = refl
not_err (Err e) h = absurd (cc)

-- ---- the last profile less

pub distinct_popped : (key : Profile → ℕ) (p : Profile) (ps qs : List Profile) → ps ≡ qs ++ p ∷ [] → AreDistinct key ps → AreDistinct key qs
distinct_popped key p ps qs g d = distinct_front key p qs (subst (AreDistinct key) g d)

pub index_popped : {S : Type 0} (key : Profile → ℕ) (n : ℕ) (p : Profile) (ps qs : List Profile) (old new : HashMap ℕ ℕ S) → n ≡ key p
    → ps ≡ qs ++ p ∷ [] → IsSlotIndex key old ps → AreDistinct key ps
    → ((k : ℕ) → get nat_eq new k ≡ cond (nat_eq n k) None (get nat_eq old k)) → IsSlotIndex key new qs
index_popped key n p ps qs old new e g h d u =
    index_front key p qs old new (subst (λ xs. IsSlotIndex key old xs) g h) (subst (AreDistinct key) g d)
    (λ k. subst (λ m. get nat_eq new k ≡ cond (nat_eq m k) None (get nat_eq old k)) e (u k))
