-- A stranger more, whose id is above all others.
use Rattle.std.proofs.Common.{◌≡◌, ℕ, ◌<◌, ◌≤◌, List, [], ◌∷◌, ◌++◌, Bool, true, false, cond, Option, Some, None, inl, inr, refl, ap, subst, arith}
use Rattle.std.specs.Prelude.{◌&&◌, ◌==◌, nat_lt, nat_le, not, is_none, option_map, slice_get}
use Rattle.std.proofs.lemmas.Bool.Decides.{nat_tests}
use Rattle.sorted_list.specs.Ordered.{AllOver, Every, Rising, at, put}
use Rattle.sorted_list.specs.Sorted.{lowest_from}
use Rattle.per_bits.specs.Formats.{Value}
use Rattle.identity_slots.specs.Ids.{enb_ue_ids, is_of_slot, number_in, station_in, stranger_id, strangers}
use Rattle.emm_machine.specs.SubscriberView.{SubscriberView}
use Rattle.stranger_machine.specs.declared.state.Stranger.{Stranger}
use Rattle.stranger_machine.specs.declared.table.Known.{Known}
use Rattle.stranger_machine.specs.Machine.{identity_ticks}
use Rattle.stranger_machine.specs.Table.{known_id, stranger_at}
use Rattle.mme_tables.specs.Waiting.{wait_of}
use Rattle.mme_owners.specs.Owners.{IsStart}
use Rattle.mme_owners.specs.Placed.{AreApart}
use Rattle.laws_subscriber.specs.Strangers.{IsTimed}
use Rattle.laws_apart.specs.Alone.{WaitsMade}
use Rattle.laws_apart.specs.Apart.{IdsApart}
use Rattle.mme_core.specs.Kept.{IsKept, IsKnownTimed}
use Rattle.mme_core.specs.World.{World}
use Rattle.snapshot_formats.specs.Formats.{saved_stranger, saved_stranger_state}
use Rattle.mme_snapshot.specs.Images.{fits_stranger, is_timed, known_of, named_stranger, with_known}

-- ---- the list

abbrev pub IsBelow : ℕ → Known → Type 0
IsBelow id k = k.id < id

below_by : (id : ℕ) (y : Known) (ys : List Known) (b : Bool) → nat_lt y.id id ≡ b
    → (lowest_from known_id id ys ≡ None → Every (IsBelow id) ys) → cond b (lowest_from known_id id ys) (Some y) ≡ None
    → Every (IsBelow id) (y ∷ ys)
below_by id y ys true is more h = (grind (arith, nat_tests), more h)
below_by id y ys false is more h = absurd (cc h)

all_below : (id : ℕ) (ks : List Known) → lowest_from known_id id ks ≡ None → Every (IsBelow id) ks
all_below id [] h = tt
all_below id (y ∷ ys) h = below_by id y ys (nat_lt y.id id) refl (all_below id ys) h

pub put_last : (k : Known) (ks : List Known) → Every (IsBelow k.id) ks → put known_id k ks ≡ ks ++ k ∷ []
put_last k [] h = refl
put_last k (y ∷ ys) h =
    let below = h.0 in
    let lt : nat_lt y.id k.id ≡ true = grind (arith, nat_tests) in
    rw lt (ap (λ (zs : List Known). y ∷ zs) (put_last k ys h.1))

over_last : (n : ℕ) (k : Known) (ks : List Known) → n < k.id → AllOver known_id n ks → AllOver known_id n (ks ++ k ∷ [])
over_last n k [] lt h = (lt, tt)
over_last n k (y ∷ ys) lt h = (h.0, over_last n k ys lt h.1)

rising_last : (k : Known) (ks : List Known) → Every (IsBelow k.id) ks → Rising known_id ks → Rising known_id (ks ++ k ∷ [])
rising_last k [] below h = (tt, tt)
rising_last k (y ∷ ys) below h = (over_last y.id k ys below.0 h.0, rising_last k ys below.1 h.1)

every_last : (P : Known → Type 0) (k : Known) (ks : List Known) → P k → Every P ks → Every P (ks ++ k ∷ [])
every_last P k [] one h = (one, tt)
every_last P k (y ∷ ys) one h = (h.0, every_last P k ys one h.1)

-- what holds of the stranger with an id, if there is one
abbrev OfIts : (ℕ → Option Stranger → Type 0) → ℕ → Option Known → Type 0
OfIts P id o = P id (option_map (λ (k : Known). k.stranger) o)

found_by : (P : ℕ → Option Stranger → Type 0) (id : ℕ) (y : Known) (o q : Option Known) (b : Bool)
    → (OfIts P id o → OfIts P id q) → OfIts P id (cond b (Some y) o) → OfIts P id (cond b (Some y) q)
found_by P id y o q true more h = h
found_by P id y o q false more h = more h

last_by : (P : ℕ → Option Stranger → Type 0) (id : ℕ) (k : Known) (b : Bool) → (k.id == id) ≡ b → P id None
    → P k.id (Some k.stranger) → OfIts P id (cond b (Some k) None)
last_by P id k true is none one = let same : k.id ≡ id = grind (arith, nat_tests) in subst (λ n. P n (Some k.stranger)) same one
last_by P id k false is none one = none

found_last : (P : ℕ → Option Stranger → Type 0) (id : ℕ) (k : Known) (ks : List Known) → P k.id (Some k.stranger)
    → P id (stranger_at id ks) → P id (stranger_at id (ks ++ k ∷ []))
found_last P id k [] one h = last_by P id k (k.id == id) refl h one
found_last P id k (y ∷ ys) one h =
    found_by P id y (at known_id id ys) (at known_id id (ys ++ k ∷ [])) (y.id == id) (found_last P id k ys one) h

-- ---- one that fits

pub record IsFit (ks : List Known) (v : Value saved_stranger) : Type 0 where
  pub least : strangers ≤ v.0
  pub below : Every (IsBelow v.0) ks
  pub timed : IsTimed (Some (named_stranger v.0 v.1.0))

both : (a b : Bool) → a && b ≡ true → (a ≡ true) × (b ≡ true)
both true b h = (refl, h)
both false b h = absurd (cc h)

nobodys : (id : ℕ) → not (is_of_slot id) ≡ true → strangers ≤ id
nobodys id h = grind (arith, nat_tests)

is_nothing : {A : Type 0} (o : Option A) → is_none o ≡ true → o ≡ None
is_nothing None h = refl
is_nothing (Some x) h = absurd (cc h)

timed : (id : ℕ) (v : Value saved_stranger_state) → is_timed (named_stranger id v) ≡ true → IsTimed (Some (named_stranger id v))
timed id (inl v) h =
    let a = both (nat_lt 0 v.1.1.0) _ h in
    let b = both (nat_le v.1.1.0 identity_ticks) _ a.1 in
    let some = a.0 in
    let long = b.0 in
    let few = b.1 in
    (grind (arith, nat_tests), grind (arith, nat_tests), grind (arith, nat_tests))
timed id (inr slot) h = tt

pub fit : (ks : List Known) (v : Value saved_stranger) → fits_stranger ks v ≡ true → IsFit ks v
fit ks v h =
    let a = both (not (is_of_slot v.0)) _ h in
    let b = both (is_none (lowest_from known_id v.0 ks)) _ a.1 in
    record { least = nobodys v.0 a.0; below = all_below v.0 ks (is_nothing _ b.0); timed = timed v.0 v.1.0 b.1 }

-- ---- its id is made of its station and number

made : (id : ℕ) → strangers ≤ id → id ≡ stranger_id (station_in id) (number_in id)
made id least = omega arith

in_range : (id : ℕ) → number_in id < enb_ue_ids
in_range id = omega arith

waits_made : (id : ℕ) (v : Value saved_stranger_state) → strangers ≤ id → WaitsMade id (Some (named_stranger id v))
waits_made id (inl v) least = record { made = made id least; fits = in_range id }
waits_made id (inr slot) least = tt

-- ---- the MME with it

pub known_kept : (w : World) (v : Value saved_stranger) → IsFit w.strangers v → IsKept w → IsKept (with_known w v)
known_kept w v f h = record {
  stations = h.stations;
  rising = rising_last (known_of v) w.strangers f.below h.rising;
  timed = every_last IsKnownTimed (known_of v) w.strangers f.timed h.timed;
  in_use = h.in_use;
  provisioned = h.provisioned;
  profiles = h.profiles;
  networks = h.networks;
}

nobody : (ws : List SubscriberView) (slot : ℕ) (x : SubscriberView) {A : Type 0} → ws ≡ [] → slice_get ws slot ≡ Some x → A
nobody [] slot x none at = absurd (cc at)
nobody (w ∷ ws) slot x none at = absurd (cc none)

pub known_apart : (ks : List Known) (ws : List SubscriberView) (v : Value saved_stranger) → IsFit ks v → ws ≡ [] → IdsApart ks ws
    → IdsApart (ks ++ known_of v ∷ []) ws
known_apart ks ws v f none h = record {
  few = h.few;
  numbered = h.numbered;
  rising = rising_last (known_of v) ks f.below h.rising;
  waiting = λ id. found_last WaitsMade id (known_of v) ks (waits_made v.0 v.1.0 f.least) (h.waiting id);
  apart = λ slot x k at on. nobody ws slot x none at;
}

pub none_apart : (ks : List Known) (ws : List SubscriberView) → ws ≡ [] → AreApart ks ws
none_apart ks ws none = record {
  two = λ i j k l here there same. nobody ws i here.subscriber none here.there;
  waiting = λ i k here. nobody ws i here.subscriber none here.there;
}

pub starts : (ks : List Known) (v : Value saved_stranger) → IsFit ks v → IsStart v.0 (wait_of (named_stranger v.0 v.1.0))
starts ks v f = of_state v.1.0 f.timed f.least
  where
    of_state : (s : Value saved_stranger_state) → IsTimed (Some (named_stranger v.0 s)) → strangers ≤ v.0
        → IsStart v.0 (wait_of (named_stranger v.0 s))
    of_state (inl waiting) t least = let some = t.0 in let long = t.1 in (omega arith, omega arith, omega arith)
    of_state (inr slot) t least = tt
