-- What a change, a closing, a tick and a look make of the list that stands for T3470 of the strangers, alone and before that of the
-- slots.
use Rattle.std.proofs.Common.{◌≡◌, ℕ, ◌+◌, ◌-◌, ◌*◌, ◌^◌, ◌<◌, ◌≤◌, List, [], ◌∷◌, ◌++◌, Bool, true, false, Option, Some, None, refl, sym, ◌∙◌, ap, subst, arith}
use Rattle.std.specs.Prelude.{◌==◌, nat_lt, nat_le, cond, option_map}
use Rattle.std.proofs.lemmas.Bool.{eqb-true}
use Rattle.std.proofs.lemmas.Bool.Decides.{nat_tests}
use Rattle.identity_slots.specs.Ids.{number_in, station_in, stranger_id}
use Rattle.sorted_list.specs.Ordered.{at, put, without, AllOver, Every, Rising}
use Rattle.sorted_list.specs.Laws.{at_over, over_more}
use Rattle.stranger_machine.specs.declared.state.KeptEntry.{KeptEntry}
use Rattle.stranger_machine.specs.declared.state.Stranger.{Stranger}
use Rattle.stranger_machine.specs.declared.state.Stranger.TheVariants.{Waiting, Held}
use Rattle.stranger_machine.specs.declared.table.Known.{Known}
use Rattle.stranger_machine.specs.declared.turn.Notice.TheVariants.{Tick}
use Rattle.stranger_machine.specs.Machine.{identity_ticks, notes, ticks, waits}
use Rattle.stranger_machine.specs.Table.{known_id, known_if, noted}
use Rattle.stranger_machine.specs.TickLaws.{quiet_notice}
use Rattle.stranger_machine.specs.Ticks.{is_ending, stranger_aged}
use Rattle.stranger_machine.specs.Turns.{Turn, closing, stays}
use Rattle.mme_types.specs.declared.octets.Answer.{Answer}
use Rattle.timer_queue.specs.declared.timer.Kind.TheVariants.{Procedure}
use Rattle.timer_queue.specs.declared.timer.Timer.{Timer}
use Rattle.timer_queue.specs.Rank.{rank}
use Rattle.timer_queue.specs.Countdowns.{Countdown, countdown_rank, timer_of, due_of, aged}
use Rattle.mme_tables.specs.Due.{ids_of, slots_once, AreOfOwners}
use Rattle.mme_tables.specs.Joined.{put_front, put_over, put_past, put_same, without_front, without_other, without_past, without_same}
use Rattle.mme_tables.specs.Running.{is_last, left_by_tick}
use Rattle.mme_tables.specs.SlotLaws.{AreBefore}
use Rattle.mme_tables.specs.Waiting.{AreWaits, IsWait, due_ids, restarted, stranger_owner, wait_at, wait_changed, wait_if, wait_of, wait_stopped, waits_of, with_wait}

-- ---- the ranks

abbrev wait_rank : ℕ → ℕ
wait_rank id = rank (timer_of (stranger_owner id) Procedure)

rank_is : (id : ℕ) → 2 ^ 31 ≤ id → id < 2 ^ 32 → wait_rank id ≡ 2 * (station_in id * 2 ^ 32 + number_in id)
unfolding rank
rank_is id least small = omega arith

rises : (i j : ℕ) → 2 ^ 31 ≤ i → i < j → j < 2 ^ 32 → wait_rank i < wait_rank j
rises i j least lt small =
    let a = rank_is i least (omega arith) in
    let b = rank_is j (omega arith) small in
    omega arith

apart : (i j : ℕ) → 2 ^ 31 ≤ i → i < 2 ^ 32 → 2 ^ 31 ≤ j → j < 2 ^ 32 → (i ≡ j → ⊥) → wait_rank i ≡ wait_rank j → ⊥
apart i j p q r s ne e =
    let a = rank_is i p q in
    let b = rank_is j r s in
    ne (omega arith)

before : (id : ℕ) → 2 ^ 31 ≤ id → id < 2 ^ 32 → wait_rank id < 2 ^ 41
before id least small = let a = rank_is id least small in omega arith

-- the timer of a stranger says which it is
same_id : (id : ℕ) → 2 ^ 31 ≤ id → stranger_id (station_in id) (number_in id) ≡ id
same_id id least = omega arith

before_with : (id : ℕ) (w : Option ℕ) (cs : List Countdown) → IsWait id w → AreBefore cs → AreBefore (with_wait id w cs)
before_with id None cs h rest = rest
before_with id (Some left) cs h rest = (before id h.0 h.1, rest)

-- they stand before those of all slots
pub waits_before : (ks : List Known) → AreWaits ks → AreBefore (waits_of ks)
waits_before [] h = tt
waits_before (k ∷ ks) h = before_with k.id (wait_of k.stranger) (waits_of ks) h.0 (waits_before ks h.1)

over_with : (id i : ℕ) (w : Option ℕ) (cs : List Countdown) → 2 ^ 31 ≤ id → id < i → IsWait i w
    → AllOver countdown_rank (wait_rank id) cs → AllOver countdown_rank (wait_rank id) (with_wait i w cs)
over_with id i None cs least lt h o = o
over_with id i (Some left) cs least lt h o = (rises id i least lt h.1, o)

over_waits : (id : ℕ) (ks : List Known) → 2 ^ 31 ≤ id → AllOver known_id id ks → AreWaits ks
    → AllOver countdown_rank (wait_rank id) (waits_of ks)
over_waits id [] least o h = tt
over_waits id (k ∷ ks) least o h =
    over_with id k.id (wait_of k.stranger) (waits_of ks) least o.0 h.0 (over_waits id ks least o.1 h.1)

-- ---- one countdown beside another

abbrev countdown : ℕ → ℕ → Countdown
countdown id left = record { timer = timer_of (stranger_owner id) Procedure; ticks = left }

changed_past : (i id : ℕ) (w was new : Option ℕ) (cs : List Countdown) → i < id → IsWait i w → IsWait id was → IsWait id new
    → wait_changed id was new (with_wait i w cs) ≡ with_wait i w (wait_changed id was new cs)
changed_past i id None was new cs lt a b c = refl
changed_past i id (Some l) None None cs lt a b c = refl
changed_past i id (Some l) (Some m) None cs lt a b c =
    without_past countdown_rank (wait_rank id) (countdown i l) cs (rises i id a.0 lt b.1)
changed_past i id (Some l) was (Some t) cs lt a b c =
    put_past countdown_rank (countdown id t) (countdown i l) cs (rises i id a.0 lt c.1)

changed_here : (id : ℕ) (was new : Option ℕ) (cs : List Countdown)
    → ((t : ℕ) → new ≡ Some t → AllOver countdown_rank (wait_rank id) cs)
    → wait_changed id was new (with_wait id was cs) ≡ with_wait id new cs
changed_here id None None cs o = refl
changed_here id (Some m) None cs o = without_same countdown_rank (wait_rank id) (countdown id m) cs refl
changed_here id None (Some t) cs o = put_over countdown_rank (countdown id t) cs (o t refl)
changed_here id (Some m) (Some t) cs o = put_same countdown_rank (countdown id t) (countdown id m) cs refl

stopped_other : (i id : ℕ) (w was : Option ℕ) (cs : List Countdown) → (i ≡ id → ⊥) → IsWait i w → IsWait id was
    → wait_stopped id was (with_wait i w cs) ≡ with_wait i w (wait_stopped id was cs)
stopped_other i id None was cs ne a b = refl
stopped_other i id (Some l) None cs ne a b = refl
stopped_other i id (Some l) (Some m) cs ne a b =
    without_other countdown_rank (wait_rank id) (countdown i l) cs (λ e. apart i id a.0 a.1 b.0 b.1 ne e)

stopped_here : (id : ℕ) (w : Option ℕ) (cs : List Countdown) → wait_stopped id w (with_wait id w cs) ≡ cs
stopped_here id None cs = refl
stopped_here id (Some m) cs = without_same countdown_rank (wait_rank id) (countdown id m) cs refl

-- ---- one is another, or is closed

at_by : (id : ℕ) (y : Known) (ys : List Known) (b : Bool) → (y.id == id) ≡ b → IsWait y.id (wait_of y.stranger)
    → IsWait id (wait_at id ys)
    → IsWait id (wait_if (option_map (λ (k : Known). k.stranger) (cond b (Some y) (at known_id id ys))))
at_by id y ys true e h ih = subst (λ i. IsWait i (wait_of y.stranger)) (eqb-true y.id id e) h
at_by id y ys false e h ih = ih

pub is_wait_at : (id : ℕ) (ks : List Known) → AreWaits ks → IsWait id (wait_at id ks)
is_wait_at id [] h = tt
is_wait_at id (y ∷ ys) h = at_by id y ys (y.id == id) refl h.0 (is_wait_at id ys h.1)

over_if : (id : ℕ) (new : Option ℕ) (ks : List Known) → AllOver known_id id ks → AreWaits ks → IsWait id new → (t : ℕ)
    → new ≡ Some t → AllOver countdown_rank (wait_rank id) (waits_of ks)
over_if id None ks o h n t e = absurd (cc)
over_if id (Some m) ks o h n t e = over_waits id ks n.0 o h

put_by : (id : ℕ) (s : Stranger) (y : Known) (ys : List Known) (b c : Bool) → nat_lt y.id id ≡ b → (y.id == id) ≡ c
    → Rising known_id (y ∷ ys) → AreWaits (y ∷ ys) → IsWait id (wait_of s)
    → waits_of (put known_id (record { id = id; stranger = s }) ys) ≡ wait_changed id (wait_at id ys) (wait_of s) (waits_of ys)
    → waits_of (cond b (y ∷ put known_id (record { id = id; stranger = s }) ys) (cond c (record { id = id; stranger = s } ∷ ys) (record { id = id; stranger = s } ∷ y ∷ ys)))
    ≡ wait_changed id (wait_if (option_map (λ (k : Known). k.stranger) (cond c (Some y) (at known_id id ys)))) (wait_of s) (with_wait y.id (wait_of y.stranger) (waits_of ys))
put_by id s y ys true true p q r h n ih =
    let lt : y.id < id = grind (arith, nat_tests) in
    let same = eqb-true y.id id q in
    absurd (omega arith)
put_by id s y ys true false p q r h n ih =
    let lt : y.id < id = grind (arith, nat_tests) in
    ap (with_wait y.id (wait_of y.stranger)) ih
    ∙ sym (changed_past y.id id (wait_of y.stranger) (wait_at id ys) (wait_of s) (waits_of ys) lt h.0 (is_wait_at id ys h.1) n)
put_by id s y ys false true p q r h n ih =
    let same : y.id ≡ id = eqb-true y.id id q in
    let over : AllOver known_id id ys = subst (λ i. AllOver known_id i ys) same r.0 in
    sym (ap (λ i. wait_changed id (wait_of y.stranger) (wait_of s) (with_wait i (wait_of y.stranger) (waits_of ys))) same
    ∙ changed_here id (wait_of y.stranger) (wait_of s) (waits_of ys) (over_if id (wait_of s) ys over h.1 n))
put_by id s y ys false false p q r h n ih =
    let ge : id ≤ y.id = grind (arith, nat_tests) in
    let ne : y.id ≡ id → ⊥ = λ e. grind (arith, nat_tests) in
    let lt : id < y.id = grind (arith, nat_tests) in
    let more : AllOver known_id id ys = over_more known_id id y.id ys ge r.0 in
    let none : at known_id id ys ≡ None = at_over known_id id ys more in
    sym (ap (λ o. wait_changed id (wait_if (option_map (λ (k : Known). k.stranger) o)) (wait_of s) (waits_of (y ∷ ys))) none
    ∙ changed_here id None (wait_of s) (waits_of (y ∷ ys)) (over_if id (wait_of s) (y ∷ ys) (lt, more) h n))

pub waits_put : (id : ℕ) (s : Stranger) (ks : List Known) → Rising known_id ks → AreWaits ks → IsWait id (wait_of s)
    → waits_of (put known_id (record { id = id; stranger = s }) ks) ≡ wait_changed id (wait_at id ks) (wait_of s) (waits_of ks)
waits_put id s [] r h n = sym (changed_here id None (wait_of s) [] (λ t e. tt))
waits_put id s (y ∷ ys) r h n = put_by id s y ys (nat_lt y.id id) (y.id == id) refl refl r h n (waits_put id s ys r.1 h.1 n)

without_by : (id : ℕ) (y : Known) (ys : List Known) (b : Bool) → (y.id == id) ≡ b → AreWaits (y ∷ ys)
    → waits_of (without known_id id ys) ≡ wait_stopped id (wait_at id ys) (waits_of ys)
    → waits_of (cond b ys (y ∷ without known_id id ys))
    ≡ wait_stopped id (wait_if (option_map (λ (k : Known). k.stranger) (cond b (Some y) (at known_id id ys)))) (with_wait y.id (wait_of y.stranger) (waits_of ys))
without_by id y ys true e h ih =
    let same : y.id ≡ id = eqb-true y.id id e in
    sym (ap (λ i. wait_stopped id (wait_of y.stranger) (with_wait i (wait_of y.stranger) (waits_of ys))) same
    ∙ stopped_here id (wait_of y.stranger) (waits_of ys))
without_by id y ys false e h ih =
    let ne : y.id ≡ id → ⊥ = λ q. grind (arith, nat_tests) in
    ap (with_wait y.id (wait_of y.stranger)) ih
    ∙ sym (stopped_other y.id id (wait_of y.stranger) (wait_at id ys) (waits_of ys) ne h.0 (is_wait_at id ys h.1))

pub waits_without : (id : ℕ) (ks : List Known) → AreWaits ks
    → waits_of (without known_id id ks) ≡ wait_stopped id (wait_at id ks) (waits_of ks)
waits_without id [] h = refl
waits_without id (y ∷ ys) h = without_by id y ys (y.id == id) refl h (waits_without id ys h.1)

-- what holds of each stays so
put_each : (P : Known → Type 0) (x : Known) (ks : List Known) → P x → Every P ks → Every P (put known_id x ks)
put_each P x [] p h = (p, tt)
put_each P x (y ∷ ys) p h =
    let rest = put_each P x ys p h.1 in
    elim (nat_lt y.id x.id) as (λ b. Every P (cond b (y ∷ put known_id x ys) (cond (y.id == x.id) (x ∷ ys) (x ∷ y ∷ ys)))) [
      | true ↦ (h.0, rest)
      | false ↦ elim (y.id == x.id) as (λ c. Every P (cond c (x ∷ ys) (x ∷ y ∷ ys))) [ true ↦ (p, h.1) | false ↦ (p, h) ]
    ]

pub are_waits_put : (id : ℕ) (s : Stranger) (ks : List Known) → AreWaits ks → IsWait id (wait_of s)
    → AreWaits (put known_id (record { id = id; stranger = s }) ks)
are_waits_put id s ks h n = put_each (λ (k : Known). IsWait k.id (wait_of k.stranger)) (record { id = id; stranger = s }) ks n h

pub are_waits_without : (id : ℕ) (ks : List Known) → AreWaits ks → AreWaits (without known_id id ks)
are_waits_without id [] h = tt
are_waits_without id (y ∷ ys) h =
    let rest = are_waits_without id ys h.1 in
    elim (y.id == id) as (λ b. AreWaits (cond b ys (y ∷ without known_id id ys))) [ true ↦ h.1 | false ↦ (h.0, rest) ]

-- ---- a tick

note_by : (id : ℕ) (k : KeptEntry) (l r : ℕ) (xs ys : List Answer) (b c : Bool) → nat_lt 1 l ≡ b → IsWait id (Some l)
    → IsWait id (wait_if (let t : Turn = cond b (stays (Some (Waiting k (l - 1) r)) []) (cond c (stays (Some (Waiting k identity_ticks (r - 1))) xs) (closing ys)) in t.stranger))
note_by id k l r xs ys true c e h =
    let more : 1 < l = grind (arith, nat_tests) in
    let most = h.3 in
    (h.0, h.1, omega arith, omega arith)
note_by id k l r xs ys false true e h = (h.0, h.1, omega arith, omega arith)
note_by id k l r xs ys false false e h = tt

note_waits : (id : ℕ) (s : Stranger) → IsWait id (wait_of s) → IsWait id (wait_if (notes id (Some s) Tick).stranger)
unfolding notes ticks waits
note_waits id (Held slot) h = tt
note_waits id (Waiting k l r) h = note_by id k l r _ _ (nat_lt 1 l) (nat_lt 0 r) refl h

waits_if : (id : ℕ) (o : Option Stranger) (ks : List Known) → IsWait id (wait_if o) → AreWaits ks → AreWaits (known_if id o ks)
waits_if id None ks p h = h
waits_if id (Some s) ks p h = (p, h)

pub are_waits_ticked : (ks : List Known) → AreWaits ks → AreWaits (noted Tick ks)
are_waits_ticked [] h = tt
are_waits_ticked (k ∷ ks) h =
    waits_if k.id (notes k.id (Some k.stranger) Tick).stranger (noted Tick ks) (note_waits k.id k.stranger h.0)
    (are_waits_ticked ks h.1)

aged_with : (id : ℕ) (w : Option ℕ) (cs : List Countdown) → aged (with_wait id w cs) ≡ with_wait id (left_by_tick w) (aged cs)
aged_with id None cs = refl
aged_with id (Some t) cs = elim (nat_le t 1) as (λ b. cond b (aged cs) (countdown id (t - 1) ∷ aged cs) ≡ with_wait id (cond b None (Some (t - 1))) (aged cs)) [ true ↦ refl | false ↦ refl ]

restarted_past : (i : ℕ) (w : Option ℕ) (ids : List ℕ) (ks : List Known) (cs : List Countdown) → IsWait i w
    → Every (λ id. i < id) ids → AreWaits ks → restarted ids ks (with_wait i w cs) ≡ with_wait i w (restarted ids ks cs)
restarted_past i w [] ks cs a lt h = refl
restarted_past i w (id ∷ ids) ks cs a lt h =
    ap (restarted ids ks) (changed_past i id w None (wait_at id ks) cs lt.0 a tt (is_wait_at id ks h))
    ∙ restarted_past i w ids ks (wait_changed id None (wait_at id ks) cs) a lt.1 h

restarted_same : (k : Known) (ids : List ℕ) (ks : List Known) (cs : List Countdown) → Every (λ id. k.id < id) ids
    → restarted ids (k ∷ ks) cs ≡ restarted ids ks cs
restarted_same k [] ks cs h = refl
restarted_same k (id ∷ ids) ks cs h =
    let lt : k.id < id = h.0 in
    let other : (k.id == id) ≡ false = grind (arith, nat_tests) in
    let there : at known_id id (k ∷ ks) ≡ at known_id id ks = rw other refl in
    ap (λ o. restarted ids (k ∷ ks) (wait_changed id None (wait_if (option_map (λ (x : Known). x.stranger) o)) cs)) there
    ∙ restarted_same k ids ks (wait_changed id None (wait_at id ks) cs) h.1

restarted_if : (id : ℕ) (o : Option Stranger) (ids : List ℕ) (ks : List Known) (cs : List Countdown) → Every (λ i. id < i) ids
    → restarted ids (known_if id o ks) cs ≡ restarted ids ks cs
restarted_if id None ids ks cs h = refl
restarted_if id (Some s) ids ks cs h = restarted_same (record { id = id; stranger = s }) ids ks cs h

due_over : (n : ℕ) (ks : List Known) → AllOver known_id n ks → Every (λ id. n < id) (due_ids ks)
due_over n [] h = tt
due_over n (k ∷ ks) h =
    let rest = due_over n ks h.1 in
    elim (is_ending k.stranger) as (λ b. Every (λ id. n < id) (cond b (k.id ∷ due_ids ks) (due_ids ks)))
    [ true ↦ (h.0, rest) | false ↦ rest ]

over_known : (n id : ℕ) (o : Option Stranger) (ks : List Known) → n < id → AllOver known_id n ks
    → AllOver known_id n (known_if id o ks)
over_known n id None ks lt h = h
over_known n id (Some s) ks lt h = (lt, h)

over_ticked : (n : ℕ) (ks : List Known) → AllOver known_id n ks → AllOver known_id n (noted Tick ks)
over_ticked n [] h = tt
over_ticked n (k ∷ ks) h =
    over_known n k.id (notes k.id (Some k.stranger) Tick).stranger (noted Tick ks) h.0 (over_ticked n ks h.1)

over_aged : (r : ℕ) (cs : List Countdown) → AllOver countdown_rank r cs → AllOver countdown_rank r (aged cs)
over_aged r [] h = tt
over_aged r (c ∷ cs) h =
    let rest = over_aged r cs h.1 in
    elim (nat_le c.ticks 1) as (λ b. AllOver countdown_rank r (cond b (aged cs) (record { timer = c.timer; ticks = c.ticks - 1 } ∷ aged cs)))
    [ true ↦ rest | false ↦ (h.0, rest) ]

-- one whom it doesn't end
aged_quiet : (s : Stranger) → is_ending s ≡ false → left_by_tick (wait_of s) ≡ wait_of (stranger_aged 1 s)
aged_quiet (Held slot) e = refl
aged_quiet (Waiting k l r) e = let more : nat_le l 1 ≡ false = grind (arith, nat_tests) in rw more refl

quiet_wait : (id : ℕ) (s : Stranger) → is_ending s ≡ false → IsWait id (wait_of s) → IsWait id (wait_of (stranger_aged 1 s))
quiet_wait id (Held slot) e h = tt
quiet_wait id (Waiting k l r) e h =
    let more : 1 < l = grind (arith, nat_tests) in
    let most = h.3 in
    (h.0, h.1, omega arith, omega arith)

-- one whom it ends
aged_ending : (s : Stranger) → is_ending s ≡ true → left_by_tick (wait_of s) ≡ None
aged_ending (Held slot) e = absurd (cc)
aged_ending (Waiting k l r) e = let last : nat_le l 1 ≡ true = grind (arith, nat_tests) in rw last refl

wait_known : (id : ℕ) (o : Option Stranger) (ks : List Known) → AllOver known_id id ks → wait_at id (known_if id o ks) ≡ wait_if o
wait_known id None ks h =
    ap (λ (p : Option Known). wait_if (option_map (λ (k : Known). k.stranger) p)) (at_over known_id id ks h)
wait_known id (Some s) ks h = let same : (id == id) ≡ true = grind (arith, nat_tests) in rw same refl

waits_known : (id : ℕ) (o : Option Stranger) (ks : List Known) → waits_of (known_if id o ks) ≡ with_wait id (wait_if o) (waits_of ks)
waits_known id None ks = refl
waits_known id (Some s) ks = refl

over_new : (id : ℕ) (new : Option ℕ) (ks : List Known) → AllOver known_id id ks → AreWaits ks → IsWait id new → (t : ℕ)
    → new ≡ Some t → AllOver countdown_rank (wait_rank id) (aged (waits_of ks))
over_new id new ks o h n t e = over_aged (wait_rank id) (waits_of ks) (over_if id new ks o h n t e)

ticked_by : (k : Known) (ks : List Known) (b : Bool) → is_ending k.stranger ≡ b → AllOver known_id k.id ks → AreWaits (k ∷ ks)
    → waits_of (noted Tick ks) ≡ restarted (due_ids ks) (noted Tick ks) (aged (waits_of ks))
    → waits_of (known_if k.id (notes k.id (Some k.stranger) Tick).stranger (noted Tick ks))
    ≡ restarted (cond b (k.id ∷ due_ids ks) (due_ids ks)) (known_if k.id (notes k.id (Some k.stranger) Tick).stranger (noted Tick ks)) (aged (with_wait k.id (wait_of k.stranger) (waits_of ks)))
ticked_by k ks false e over h ih =
    let o = (notes k.id (Some k.stranger) Tick).stranger in
    let ids = due_ids ks in
    let rest = noted Tick ks in
    let w = wait_of (stranger_aged 1 k.stranger) in
    let past = due_over k.id ks over in
    let is : o ≡ Some (stranger_aged 1 k.stranger) = ap (λ (t : Turn). t.stranger) (quiet_notice k.id k.stranger e) in
    waits_known k.id o rest ∙ ap (λ (p : Option Stranger). with_wait k.id (wait_if p) (waits_of rest)) is
    ∙ ap (with_wait k.id w) ih
    ∙ sym (restarted_if k.id o ids rest (aged (with_wait k.id (wait_of k.stranger) (waits_of ks))) past
    ∙ ap (restarted ids rest) (aged_with k.id (wait_of k.stranger) (waits_of ks) ∙ ap (λ v. with_wait k.id v (aged (waits_of ks))) (aged_quiet k.stranger e))
    ∙ restarted_past k.id w ids rest (aged (waits_of ks)) (quiet_wait k.id k.stranger e h.0) past (are_waits_ticked ks h.1))
ticked_by k ks true e over h ih =
    let o = (notes k.id (Some k.stranger) Tick).stranger in
    let ids = due_ids ks in
    let rest = noted Tick ks in
    let cs = aged (waits_of ks) in
    let past = due_over k.id ks over in
    let new = note_waits k.id k.stranger h.0 in
    waits_known k.id o rest ∙ ap (with_wait k.id (wait_if o)) ih
    ∙ sym (ap (restarted (k.id ∷ ids) (known_if k.id o rest)) (aged_with k.id (wait_of k.stranger) (waits_of ks) ∙ ap (λ v. with_wait k.id v cs) (aged_ending k.stranger e))
    ∙ ap (λ v. restarted ids (known_if k.id o rest) (wait_changed k.id None v cs)) (wait_known k.id o rest (over_ticked k.id ks over))
    ∙ ap (restarted ids (known_if k.id o rest)) (changed_here k.id None (wait_if o) cs (over_new k.id (wait_if o) ks over h.1 new))
    ∙ restarted_if k.id o ids rest (with_wait k.id (wait_if o) cs) past
    ∙ restarted_past k.id (wait_if o) ids rest cs new past (are_waits_ticked ks h.1))

-- T3470 of those whom a tick doesn't end has one tick less, and of the others runs again where they wait again
pub waits_ticked : (ks : List Known) → Rising known_id ks → AreWaits ks
    → waits_of (noted Tick ks) ≡ restarted (due_ids ks) (noted Tick ks) (aged (waits_of ks))
waits_ticked [] r h = refl
waits_ticked (k ∷ ks) r h = ticked_by k ks (is_ending k.stranger) refl r.0 h (waits_ticked ks r.1 h.1)

-- ---- before the countdowns of slots

pub changed_joined : (id : ℕ) (was new : Option ℕ) (xs ys : List Countdown) → IsWait id was → IsWait id new
    → AllOver countdown_rank (2 ^ 41 - 1) ys → wait_changed id was new (xs ++ ys) ≡ wait_changed id was new xs ++ ys
changed_joined id None None xs ys a b o = refl
changed_joined id (Some m) None xs ys a b o =
    let lt = before id a.0 a.1 in
    without_front countdown_rank (wait_rank id) xs ys (over_more countdown_rank (wait_rank id) (2 ^ 41 - 1) ys (omega arith) o)
changed_joined id was (Some t) xs ys a b o =
    let lt = before id b.0 b.1 in
    put_front countdown_rank (countdown id t) xs ys (over_more countdown_rank (wait_rank id) (2 ^ 41 - 1) ys (omega arith) o)

pub stopped_joined : (id : ℕ) (was : Option ℕ) (xs ys : List Countdown) → IsWait id was → AllOver countdown_rank (2 ^ 41 - 1) ys
    → wait_stopped id was (xs ++ ys) ≡ wait_stopped id was xs ++ ys
stopped_joined id was xs ys a o = changed_joined id was None xs ys a tt o

pub restarted_joined : (ids : List ℕ) (ks : List Known) (xs ys : List Countdown) → AreWaits ks
    → AllOver countdown_rank (2 ^ 41 - 1) ys → restarted ids ks (xs ++ ys) ≡ restarted ids ks xs ++ ys
restarted_joined [] ks xs ys h o = refl
restarted_joined (id ∷ ids) ks xs ys h o =
    ap (restarted ids ks) (changed_joined id None (wait_at id ks) xs ys tt (is_wait_at id ks h) o)
    ∙ restarted_joined ids ks (wait_changed id None (wait_at id ks) xs) ys h o

-- ---- who is due

last_ending : (s : Stranger) → is_last (wait_of s) ≡ is_ending s
last_ending (Held slot) = refl
last_ending (Waiting k l r) = grind (arith, nat_tests)

due_with : (id : ℕ) (w : Option ℕ) (cs : List Countdown)
    → due_of (with_wait id w cs) ≡ cond (is_last w) (timer_of (stranger_owner id) Procedure ∷ due_of cs) (due_of cs)
due_with id None cs = refl
due_with id (Some t) cs = refl

-- each timer is that of a stranger
record AreStrangers (ts : List Timer) (ids : List ℕ) : Type 0 where
  owned : AreOfOwners ts
  known : (us : List Timer) → ids_of us ≡ [] → ids_of (ts ++ us) ≡ ids
  passed : (us : List Timer) → slots_once None (ts ++ us) ≡ slots_once None us

strangers_by : (id : ℕ) (w : Option ℕ) (ts : List Timer) (ids : List ℕ) (b : Bool) → is_last w ≡ b → IsWait id w
    → AreStrangers ts ids
    → AreStrangers (cond b (timer_of (stranger_owner id) Procedure ∷ ts) ts) (cond b (id ∷ ids) ids)
strangers_by id None ts ids true e a h = absurd (cc)
strangers_by id (Some l) ts ids true e a h =
    let least = a.0 in
    let most = a.1 in
    record {
      owned = ((omega arith, omega arith), h.owned);
      known = λ us none. ap (λ i. i ∷ ids_of (ts ++ us)) (same_id id a.0) ∙ ap (λ is. id ∷ is) (h.known us none);
      passed = h.passed;
    }
strangers_by id w ts ids false e a h = h

strangers_due : (ks : List Known) → AreWaits ks → AreStrangers (due_of (waits_of ks)) (due_ids ks)
strangers_due [] h = record { owned = tt; known = λ us none. none; passed = λ us. refl }
strangers_due (k ∷ ks) h =
    let w = wait_of k.stranger in
    let by = strangers_by k.id w (due_of (waits_of ks)) (due_ids ks) (is_last w) refl h.0 (strangers_due ks h.1) in
    subst (λ ts. AreStrangers ts (cond (is_ending k.stranger) (k.id ∷ due_ids ks) (due_ids ks))) (sym (due_with k.id w (waits_of ks)))
    (subst (λ b. AreStrangers (cond (is_last w) (timer_of (stranger_owner k.id) Procedure ∷ due_of (waits_of ks)) (due_of (waits_of ks))) (cond b (k.id ∷ due_ids ks) (due_ids ks))) (last_ending k.stranger) by)

owners_joined : (ts us : List Timer) → AreOfOwners ts → AreOfOwners us → AreOfOwners (ts ++ us)
owners_joined [] us h g = g
owners_joined (t ∷ ts) us h g = (h.0, owners_joined ts us h.1 g)

pub due_owners : (ks : List Known) (us : List Timer) → AreWaits ks → AreOfOwners us → AreOfOwners (due_of (waits_of ks) ++ us)
due_owners ks us h g = owners_joined (due_of (waits_of ks)) us (strangers_due ks h).owned g

pub due_ids_joined : (ks : List Known) (us : List Timer) → AreWaits ks → ids_of us ≡ []
    → ids_of (due_of (waits_of ks) ++ us) ≡ due_ids ks
due_ids_joined ks us h none = (strangers_due ks h).known us none

pub due_slots_joined : (ks : List Known) (us : List Timer) → AreWaits ks
    → slots_once None (due_of (waits_of ks) ++ us) ≡ slots_once None us
due_slots_joined ks us h = (strangers_due ks h).passed us
