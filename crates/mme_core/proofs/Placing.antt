-- No two subscribers have one id once what was prepared is so, and a stranger that waits has an id of one.
use Rattle.std.proofs.Common.{◌≡◌, ℕ, List, [], ◌∷◌, Bool, true, false, Some, None, refl, ap, subst, arith}
use Rattle.std.specs.Prelude.{◌==◌, nat_lt, cond, option_map, Option}
use Rattle.std.proofs.lemmas.Bool.Decides.{nat_tests}
use Rattle.emm_machine.specs.SubscriberView.{SubscriberView}
use Rattle.sorted_list.specs.Ordered.{Every, at, put}
use Rattle.sorted_list.specs.Indexed.{every_at}
use Rattle.stranger_machine.specs.declared.state.KeptEntry.{KeptEntry}
use Rattle.stranger_machine.specs.declared.state.Stranger.{Stranger}
use Rattle.stranger_machine.specs.declared.state.Stranger.TheVariants.{Waiting, Held}
use Rattle.stranger_machine.specs.declared.table.Known.{Known}
use Rattle.stranger_machine.specs.declared.turn.After.{After}
use Rattle.stranger_machine.specs.declared.turn.After.TheVariants as after
use Rattle.stranger_machine.specs.Table.{known_id, stranger_at}
use Rattle.mme_tables.specs.Waiting.{wait_of}
use Rattle.mme_owners.specs.Owners.{IsStart, IsWaitAfter}
use Rattle.mme_owners.specs.Placed.{place_if, AreApart}
use Rattle.mme_owners.specs.SteppedView.{SteppedView}
use Rattle.mme_answering.specs.declared.prepared.Prepared.{Prepared}
use Rattle.mme_answering.specs.declared.prepared.Prepared.TheVariants as prepared
use Rattle.mme_answering.specs.Settled.{IsWaiting, settled_strangers, settled_subscribers}
use Rattle.laws_apart.specs.Alone.{WaitsMade}
use Rattle.laws_apart.specs.Apart.{IdsApart, NoneHasWaiting, NoTwoShare}
use Rattle.laws_subscriber.specs.Strangers.{IsTimed}
use Rattle.mme_core.specs.Kept.{IsKnownTimed}

-- no two subscribers have one id, and none has that of a stranger that waits
waits_by : (id : ℕ) (o : Option Stranger)
    → ((kept : KeptEntry) (left repeats : ℕ) → o ≡ Some (Waiting kept left repeats) → ⊥) → place_if id o ≡ None
waits_by id None none = refl
waits_by id (Some (Held slot)) none = refl
waits_by id (Some (Waiting kept left repeats)) none = absurd (none kept left repeats refl)

pub are_apart : (ks : List Known) (ws : List SubscriberView) → NoTwoShare → NoneHasWaiting → IdsApart ks ws → AreApart ks ws
are_apart ks ws two none h = record {
  two = λ i j k l here there same. two ks ws i j k l h here there same;
  waiting = λ i k here. waits_by k.id (stranger_at k.id ks) (λ kept left repeats is. none ks ws i k kept left repeats h here is);
}

-- ---- a stranger that waits from now on

put_there_by : (x y : Known) (ys : List Known) (b c : Bool) → nat_lt y.id x.id ≡ b → (y.id == x.id) ≡ c → (x.id == x.id) ≡ true
    → at known_id x.id (put known_id x ys) ≡ Some x
    → at known_id x.id (cond b (y ∷ put known_id x ys) (cond c (x ∷ ys) (x ∷ y ∷ ys))) ≡ Some x
put_there_by x y ys true c p q same ih =
    let other : (y.id == x.id) ≡ false = grind (arith, nat_tests) in
    rw other ih
put_there_by x y ys false true p q same ih = rw same refl
put_there_by x y ys false false p q same ih = rw same refl

put_there : (x : Known) (ks : List Known) → at known_id x.id (put known_id x ks) ≡ Some x
put_there x [] = let same : (x.id == x.id) ≡ true = grind (arith, nat_tests) in rw same refl
put_there x (y ∷ ys) =
    let ih = put_there x ys in
    let same : (x.id == x.id) ≡ true = grind (arith, nat_tests) in
    put_there_by x y ys (nat_lt y.id x.id) (y.id == x.id) refl refl same ih

start_of : (id : ℕ) (s : Stranger) → IsTimed (Some s) → WaitsMade id (Some s) → IsStart id (wait_of s)
start_of id (Held slot) t w = tt
start_of id (Waiting k left repeats) t w =
    let made = w.made in
    let least = t.0 in
    let most = t.1 in
    (omega arith, omega arith, omega arith)

after_of_one : (id : ℕ) (a : After) (x : Option SteppedView) (ks : List Known) (ws : List SubscriberView)
    → Every IsKnownTimed (settled_strangers (prepared.Stranger id a x) ks)
    → IdsApart (settled_strangers (prepared.Stranger id a x) ks) (settled_subscribers (prepared.Stranger id a x) ws)
    → IsWaitAfter id a
after_of_one id after.Stays x ks ws t h = tt
after_of_one id after.Closed x ks ws t h = tt
after_of_one id (after.Is s) x ks ws t h =
    let k : Known = record { id = id; stranger = s } in
    let there = put_there k ks in
    let timed = every_at IsKnownTimed known_id id k (put known_id k ks) there t in
    let waits : WaitsMade id (Some s) = subst (WaitsMade id) (ap (option_map (λ (y : Known). y.stranger)) there) (h.waiting id) in
    start_of id s timed waits

pub is_waiting : (p : Prepared) (ks : List Known) (ws : List SubscriberView) → Every IsKnownTimed (settled_strangers p ks)
    → IdsApart (settled_strangers p ks) (settled_subscribers p ws) → IsWaiting p
is_waiting prepared.Nobody ks ws t h = tt
is_waiting (prepared.Subscriber x) ks ws t h = tt
is_waiting (prepared.Stranger id a x) ks ws t h = after_of_one id a x ks ws t h
is_waiting (prepared.Everyone notice xs) ks ws t h = tt
is_waiting (prepared.Tick ids xs) ks ws t h = tt
