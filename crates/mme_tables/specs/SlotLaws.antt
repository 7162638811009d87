-- What a change, a tick and a look make of the list that stands for the slots, alone and after that of the strangers.
use Rattle.std.proofs.Common.{◌≡◌, ℕ, zero, suc, ◌+◌, ◌-◌, ◌*◌, ◌^◌, ◌<◌, ◌≤◌, List, [], ◌∷◌, ◌++◌, length, refl, sym, ◌∙◌, ap, subst, arith}
use Rattle.std.specs.Prelude.{nat_le, ◌==◌, ◌||◌, slice_get, Option, Some, None, Bool, true, false, cond, option_map, map}
use Rattle.std.specs.Option.{option_eq}
use Rattle.std.proofs.Math.Dec.{eqb}
use Rattle.std.proofs.lemmas.Bool.Decides.{nat_tests}
use Rattle.identity_slots.specs.Ids.{slots}
use Rattle.sorted_list.specs.Ordered.{put, without, at, AllOver, Every, Rising}
use Rattle.sorted_list.specs.Laws.{at-put, at-without, at_over, without_absent, without_over}
use Rattle.timer_queue.specs.declared.timer.Kind.{Kind}
use Rattle.timer_queue.specs.declared.timer.Kind.TheVariants.{Procedure, Reachable}
use Rattle.timer_queue.specs.declared.timer.Timer.{Timer}
use Rattle.timer_queue.specs.declared.timer.TimerOwner.TheVariants.{Subscriber}
use Rattle.timer_queue.specs.Rank.{rank, kind_rank}
use Rattle.timer_queue.specs.Countdowns.{Countdown, countdown_rank, timer_of, ticks_left, started, stopped, due_of, aged}
use Rattle.mme_tables.specs.Changed.{changed_at}
use Rattle.mme_tables.specs.Due.{slots_once, ids_of, AreOfOwners}
use Rattle.mme_tables.specs.Joined.{at_back, at_past, at_same, put_back, put_over, put_past, put_same, without_back, without_past, without_same}
use Rattle.mme_tables.specs.Running.{with_countdown, running_from, is_this, retimed, both_retimed, is_last, is_due, due_from, left_by_tick, both_left_by_tick, part_of, with_part, AreQueued}

-- ---- a tick

aged_with : (n : ℕ) (k : Kind) (o : Option ℕ) (cs : List Countdown)
    → aged (with_countdown n k o cs) ≡ with_countdown n k (left_by_tick o) (aged cs)
aged_with n k None cs = refl
aged_with n k (Some t) cs = elim (nat_le t 1) as (λ b. cond b (aged cs) (record { timer = timer_of (Subscriber n) k; ticks = t - 1 } ∷ aged cs) ≡ with_countdown n k (cond b None (Some (t - 1))) (aged cs)) [ true ↦ refl | false ↦ refl ]

pub aged_is : (n : ℕ) (ps : List (Option ℕ × Option ℕ)) → aged (running_from n ps) ≡ running_from n (map both_left_by_tick ps)
aged_is n [] = refl
aged_is n (p ∷ ps) =
    aged_with n Procedure p.0 (with_countdown n Reachable p.1 (running_from (n + 1) ps))
    ∙ ap (with_countdown n Procedure (left_by_tick p.0))
    (aged_with n Reachable p.1 (running_from (n + 1) ps) ∙ ap (with_countdown n Reachable (left_by_tick p.1)) (aged_is (n + 1) ps))

-- ---- who is due

due_with : (n : ℕ) (k : Kind) (o : Option ℕ) (cs : List Countdown)
    → due_of (with_countdown n k o cs) ≡ cond (is_last o) (timer_of (Subscriber n) k ∷ due_of cs) (due_of cs)
due_with n k None cs = refl
due_with n k (Some t) cs = refl

once_by : (n : ℕ) (last : Option ℕ) (a b : Bool) (ts : List Timer) → is_this n last ≡ false
    → slots_once last (cond a (timer_of (Subscriber n) Procedure ∷ cond b (timer_of (Subscriber n) Reachable ∷ ts) ts) (cond b (timer_of (Subscriber n) Reachable ∷ ts) ts))
    ≡ cond (a || b) (n ∷ slots_once (Some n) ts) (slots_once last ts)
once_by n last false false ts e = refl
once_by n last false true ts e = rw e refl
once_by n last true false ts e = rw e refl
once_by n last true true ts e =
    let same : (n == n) ≡ true = grind (arith, nat_tests) in
    rw e (ap (λ b. n ∷ cond b (slots_once (Some n) ts) (n ∷ slots_once (Some n) ts)) same)

-- the last slot is below n
abbrev IsPast : ℕ → Option ℕ → Type 0
IsPast n None = Unit {0}
IsPast n (Some m) = m < n

not_past : (n : ℕ) (last : Option ℕ) → IsPast n last → is_this n last ≡ false
not_past n None h = refl
not_past n (Some m) h = grind (arith, nat_tests)

past_more : (n : ℕ) (last : Option ℕ) → IsPast n last → IsPast (n + 1) last
past_more n None h = tt
past_more n (Some m) h = omega arith

due_split : (n : ℕ) (p : Option ℕ × Option ℕ) (cs : List Countdown)
    → due_of (with_countdown n Procedure p.0 (with_countdown n Reachable p.1 cs))
    ≡ cond (is_last p.0)
    (timer_of (Subscriber n) Procedure ∷ cond (is_last p.1) (timer_of (Subscriber n) Reachable ∷ due_of cs) (due_of cs))
    (cond (is_last p.1) (timer_of (Subscriber n) Reachable ∷ due_of cs) (due_of cs))
due_split n p cs =
    due_with n Procedure p.0 (with_countdown n Reachable p.1 cs)
    ∙ ap (λ ts. cond (is_last p.0) (timer_of (Subscriber n) Procedure ∷ ts) ts) (due_with n Reachable p.1 cs)

pub once_is : (n : ℕ) (last : Option ℕ) (ps : List (Option ℕ × Option ℕ)) → IsPast n last
    → slots_once last (due_of (running_from n ps)) ≡ due_from n ps
once_is n last [] h = refl
once_is n last (p ∷ ps) h =
    let ts = due_of (running_from (n + 1) ps) in
    let now : n < n + 1 = omega arith in
    ap (slots_once last) (due_split n p (running_from (n + 1) ps))
    ∙ once_by n last (is_last p.0) (is_last p.1) ts (not_past n last h)
    ∙ ap (λ xs. cond (is_due p) (n ∷ xs) (slots_once last ts)) (once_is (n + 1) (Some n) ps now)
    ∙ ap (λ xs. cond (is_due p) (n ∷ due_from (n + 1) ps) xs) (once_is (n + 1) last ps (past_more n last h))

of_owners_by : (n : ℕ) (a b : Bool) (ts : List Timer) → n < slots → AreOfOwners ts
    → AreOfOwners (cond a (timer_of (Subscriber n) Procedure ∷ cond b (timer_of (Subscriber n) Reachable ∷ ts) ts) (cond b (timer_of (Subscriber n) Reachable ∷ ts) ts))
of_owners_by n false false ts lt h = h
of_owners_by n false true ts lt h = (lt, h)
of_owners_by n true false ts lt h = (lt, h)
of_owners_by n true true ts lt h = (lt, (lt, h))

pub slots_are_owners : (n : ℕ) (ps : List (Option ℕ × Option ℕ)) → n + length ps ≤ slots → AreOfOwners (due_of (running_from n ps))
slots_are_owners n [] h = tt
slots_are_owners n (p ∷ ps) h =
    subst AreOfOwners (sym (due_split n p (running_from (n + 1) ps)))
    (of_owners_by n (is_last p.0) (is_last p.1) (due_of (running_from (n + 1) ps)) (omega arith) (slots_are_owners (n + 1) ps (omega arith)))

none_by : (n : ℕ) (a b : Bool) (ts : List Timer) → ids_of ts ≡ []
    → ids_of (cond a (timer_of (Subscriber n) Procedure ∷ cond b (timer_of (Subscriber n) Reachable ∷ ts) ts) (cond b (timer_of (Subscriber n) Reachable ∷ ts) ts)) ≡ []
none_by n false false ts h = h
none_by n false true ts h = h
none_by n true false ts h = h
none_by n true true ts h = h

-- no slot's timer is a stranger's
pub slots_have_no_id : (n : ℕ) (ps : List (Option ℕ × Option ℕ)) → ids_of (due_of (running_from n ps)) ≡ []
slots_have_no_id n [] = refl
slots_have_no_id n (p ∷ ps) =
    ap ids_of (due_split n p (running_from (n + 1) ps))
    ∙ none_by n (is_last p.0) (is_last p.1) (due_of (running_from (n + 1) ps)) (slots_have_no_id (n + 1) ps)

-- ---- a countdown is put, or taken out

rank_is : (n : ℕ) (k : Kind) → n < 2 ^ 32 → rank (timer_of (Subscriber n) k) ≡ 2 * (2 ^ 40 + n) + kind_rank k
unfolding rank
rank_is n Procedure h = omega arith
rank_is n Reachable h = omega arith

kind_small : (k : Kind) → kind_rank k < 2
kind_small Procedure = omega arith
kind_small Reachable = omega arith

over_with : (j n : ℕ) (k : Kind) (o : Option ℕ) (cs : List Countdown) → n < 2 ^ 32 → j < 2 * (2 ^ 40 + n) + kind_rank k
    → AllOver countdown_rank j cs → AllOver countdown_rank j (with_countdown n k o cs)
over_with j n k None cs small lt h = h
over_with j n k (Some t) cs small lt h = let e = rank_is n k small in (omega arith, h)

-- what stands for the slots from n on stands after the ranks of those before
pub over_from : (j n : ℕ) (ps : List (Option ℕ × Option ℕ)) → n + length ps ≤ 2 ^ 32 → j < 2 * (2 ^ 40 + n)
    → AllOver countdown_rank j (running_from n ps)
over_from j n [] small lt = tt
over_from j n (p ∷ ps) small lt =
    over_with j n Procedure p.0 (with_countdown n Reachable p.1 (running_from (n + 1) ps)) (omega arith) (omega arith)
    (over_with j n Reachable p.1 (running_from (n + 1) ps) (omega arith) (omega arith) (over_from j (n + 1) ps (omega arith) (omega arith)))

-- what a change after a countdown makes
put_with : (x : Countdown) (n : ℕ) (k : Kind) (o : Option ℕ) (cs : List Countdown)
    → rank (timer_of (Subscriber n) k) < countdown_rank x
    → put countdown_rank x (with_countdown n k o cs) ≡ with_countdown n k o (put countdown_rank x cs)
put_with x n k None cs lt = refl
put_with x n k (Some t) cs lt = put_past countdown_rank x (record { timer = timer_of (Subscriber n) k; ticks = t }) cs lt

without_with : (r n : ℕ) (k : Kind) (o : Option ℕ) (cs : List Countdown) → rank (timer_of (Subscriber n) k) < r
    → without countdown_rank r (with_countdown n k o cs) ≡ with_countdown n k o (without countdown_rank r cs)
without_with r n k None cs lt = refl
without_with r n k (Some t) cs lt = without_past countdown_rank r (record { timer = timer_of (Subscriber n) k; ticks = t }) cs lt

at_with : (r n : ℕ) (k : Kind) (o : Option ℕ) (cs : List Countdown) → rank (timer_of (Subscriber n) k) < r
    → at countdown_rank r (with_countdown n k o cs) ≡ at countdown_rank r cs
at_with r n k None cs lt = refl
at_with r n k (Some t) cs lt = at_past countdown_rank r (record { timer = timer_of (Subscriber n) k; ticks = t }) cs lt

-- and what it makes at its own place
put_here : (n : ℕ) (k : Kind) (o : Option ℕ) (t : ℕ) (cs : List Countdown)
    → AllOver countdown_rank (rank (timer_of (Subscriber n) k)) cs
    → put countdown_rank (record { timer = timer_of (Subscriber n) k; ticks = t }) (with_countdown n k o cs) ≡ with_countdown n k (Some t) cs
put_here n k None t cs h = put_over countdown_rank (record { timer = timer_of (Subscriber n) k; ticks = t }) cs h
put_here n k (Some m) t cs h =
    put_same countdown_rank (record { timer = timer_of (Subscriber n) k; ticks = t })
    (record { timer = timer_of (Subscriber n) k; ticks = m }) cs refl

without_here : (n : ℕ) (k : Kind) (o : Option ℕ) (cs : List Countdown)
    → AllOver countdown_rank (rank (timer_of (Subscriber n) k)) cs
    → without countdown_rank (rank (timer_of (Subscriber n) k)) (with_countdown n k o cs) ≡ cs
without_here n k None cs h = without_over countdown_rank (rank (timer_of (Subscriber n) k)) cs h
without_here n k (Some m) cs h =
    without_same countdown_rank (rank (timer_of (Subscriber n) k)) (record { timer = timer_of (Subscriber n) k; ticks = m }) cs refl

abbrev left_in : Option Countdown → Option ℕ
left_in o = option_map (λ (c : Countdown). c.ticks) o

at_here : (n : ℕ) (k : Kind) (o : Option ℕ) (cs : List Countdown) → AllOver countdown_rank (rank (timer_of (Subscriber n) k)) cs
    → left_in (at countdown_rank (rank (timer_of (Subscriber n) k)) (with_countdown n k o cs)) ≡ o
at_here n k None cs h = ap left_in (at_over countdown_rank (rank (timer_of (Subscriber n) k)) cs h)
at_here n k (Some m) cs h =
    ap left_in
    (at_same countdown_rank (rank (timer_of (Subscriber n) k)) (record { timer = timer_of (Subscriber n) k; ticks = m }) cs refl)

-- ranks rise with slots, and the procedure's is the first of a slot
rank_rises : (n m : ℕ) (k l : Kind) → n < m → m < 2 ^ 32 → rank (timer_of (Subscriber n) k) < rank (timer_of (Subscriber m) l)
rank_rises n m k l lt small =
    let a = rank_is n k (omega arith) in
    let b = rank_is m l small in
    let c = kind_small k in
    omega (arith, c)

procedure_first : (n : ℕ) → n < 2 ^ 32 → rank (timer_of (Subscriber n) Procedure) < rank (timer_of (Subscriber n) Reachable)
procedure_first n small =
    let a = rank_is n Procedure small in
    let b = rank_is n Reachable small in
    omega arith

over_slot : (n : ℕ) (k : Kind) (ps : List (Option ℕ × Option ℕ)) → (n + 1) + length ps ≤ 2 ^ 32
    → AllOver countdown_rank (rank (timer_of (Subscriber n) k)) (running_from (n + 1) ps)
over_slot n k ps small =
    let a = rank_is n k (omega arith) in
    let c = kind_small k in
    over_from (rank (timer_of (Subscriber n) k)) (n + 1) ps small (omega arith)

over_procedure : (n : ℕ) (o : Option ℕ) (ps : List (Option ℕ × Option ℕ)) → (n + 1) + length ps ≤ 2 ^ 32
    → AllOver countdown_rank (rank (timer_of (Subscriber n) Procedure)) (with_countdown n Reachable o (running_from (n + 1) ps))
over_procedure n o ps small =
    let a = rank_is n Procedure (omega arith) in
    over_with (rank (timer_of (Subscriber n) Procedure)) n Reachable o (running_from (n + 1) ps) (omega arith) (omega arith)
    (over_slot n Procedure ps small)

-- one of the slots counts from now on
put_first : (n t : ℕ) (k : Kind) (p : Option ℕ × Option ℕ) (ps : List (Option ℕ × Option ℕ)) → (n + 1) + length ps ≤ 2 ^ 32
    → started (Subscriber n) k t (running_from n (p ∷ ps)) ≡ running_from n (with_part k (Some t) p ∷ ps)
put_first n t Procedure p ps small =
    put_here n Procedure p.0 t (with_countdown n Reachable p.1 (running_from (n + 1) ps)) (over_procedure n p.1 ps small)
put_first n t Reachable p ps small =
    put_with (record { timer = timer_of (Subscriber n) Reachable; ticks = t }) n Procedure p.0 (with_countdown n Reachable p.1 (running_from (n + 1) ps)) (procedure_first n (omega arith))
    ∙ ap (with_countdown n Procedure p.0) (put_here n Reachable p.1 t (running_from (n + 1) ps) (over_slot n Reachable ps small))

pub put_at : (slot t n j : ℕ) (k : Kind) (ps : List (Option ℕ × Option ℕ)) → slot ≡ n + j → j < length ps → n + length ps ≤ 2 ^ 32
    → started (Subscriber slot) k t (running_from n ps) ≡ running_from n (changed_at j (with_part k (Some t)) ps)
put_at slot t n j k [] e lt small = absurd (omega arith)
put_at slot t n zero k (p ∷ ps) e lt small =
    let same : slot ≡ n = omega arith in
    ap (λ m. started (Subscriber m) k t (running_from n (p ∷ ps))) same ∙ put_first n t k p ps (omega arith)
put_at slot t n (suc j) k (p ∷ ps) e lt small =
    let x : Countdown = record { timer = timer_of (Subscriber slot) k; ticks = t } in
    let rest = running_from (n + 1) ps in
    put_with x n Procedure p.0 (with_countdown n Reachable p.1 rest) (rank_rises n slot Procedure k (omega arith) (omega arith))
    ∙ ap (with_countdown n Procedure p.0) (put_with x n Reachable p.1 rest (rank_rises n slot Reachable k (omega arith) (omega arith)) ∙ ap (with_countdown n Reachable p.1) (put_at slot t (n + 1) j k ps (omega arith) (omega arith) (omega arith)))

-- or counts no longer
without_first : (n : ℕ) (k : Kind) (p : Option ℕ × Option ℕ) (ps : List (Option ℕ × Option ℕ)) → (n + 1) + length ps ≤ 2 ^ 32
    → stopped (Subscriber n) k (running_from n (p ∷ ps)) ≡ running_from n (with_part k None p ∷ ps)
without_first n Procedure p ps small =
    without_here n Procedure p.0 (with_countdown n Reachable p.1 (running_from (n + 1) ps)) (over_procedure n p.1 ps small)
without_first n Reachable p ps small =
    without_with (rank (timer_of (Subscriber n) Reachable)) n Procedure p.0
    (with_countdown n Reachable p.1 (running_from (n + 1) ps)) (procedure_first n (omega arith))
    ∙ ap (with_countdown n Procedure p.0) (without_here n Reachable p.1 (running_from (n + 1) ps) (over_slot n Reachable ps small))

pub without_at : (slot n j : ℕ) (k : Kind) (ps : List (Option ℕ × Option ℕ)) → slot ≡ n + j → j < length ps → n + length ps ≤ 2 ^ 32
    → stopped (Subscriber slot) k (running_from n ps) ≡ running_from n (changed_at j (with_part k None) ps)
without_at slot n j k [] e lt small = absurd (omega arith)
without_at slot n zero k (p ∷ ps) e lt small =
    let same : slot ≡ n = omega arith in
    ap (λ m. stopped (Subscriber m) k (running_from n (p ∷ ps))) same ∙ without_first n k p ps (omega arith)
without_at slot n (suc j) k (p ∷ ps) e lt small =
    let r = rank (timer_of (Subscriber slot) k) in
    let rest = running_from (n + 1) ps in
    without_with r n Procedure p.0 (with_countdown n Reachable p.1 rest) (rank_rises n slot Procedure k (omega arith) (omega arith))
    ∙ ap (with_countdown n Procedure p.0) (without_with r n Reachable p.1 rest (rank_rises n slot Reachable k (omega arith) (omega arith)) ∙ ap (with_countdown n Reachable p.1) (without_at slot (n + 1) j k ps (omega arith) (omega arith) (omega arith)))

-- what one of the slots has left
abbrev pub left_at : ℕ → Kind → List (Option ℕ × Option ℕ) → Option ℕ
left_at j k [] = None
left_at zero k (p ∷ ps) = part_of k p
left_at (suc j) k (p ∷ ps) = left_at j k ps

left_first : (n : ℕ) (k : Kind) (p : Option ℕ × Option ℕ) (ps : List (Option ℕ × Option ℕ)) → (n + 1) + length ps ≤ 2 ^ 32
    → ticks_left (Subscriber n) k (running_from n (p ∷ ps)) ≡ part_of k p
left_first n Procedure p ps small =
    at_here n Procedure p.0 (with_countdown n Reachable p.1 (running_from (n + 1) ps)) (over_procedure n p.1 ps small)
left_first n Reachable p ps small =
    ap left_in (at_with (rank (timer_of (Subscriber n) Reachable)) n Procedure p.0 (with_countdown n Reachable p.1 (running_from (n + 1) ps)) (procedure_first n (omega arith)))
    ∙ at_here n Reachable p.1 (running_from (n + 1) ps) (over_slot n Reachable ps small)

pub left_is : (slot n j : ℕ) (k : Kind) (ps : List (Option ℕ × Option ℕ)) → slot ≡ n + j → j < length ps → n + length ps ≤ 2 ^ 32
    → ticks_left (Subscriber slot) k (running_from n ps) ≡ left_at j k ps
left_is slot n j k [] e lt small = absurd (omega arith)
left_is slot n zero k (p ∷ ps) e lt small =
    let same : slot ≡ n = omega arith in
    ap (λ m. ticks_left (Subscriber m) k (running_from n (p ∷ ps))) same ∙ left_first n k p ps (omega arith)
left_is slot n (suc j) k (p ∷ ps) e lt small =
    let r = rank (timer_of (Subscriber slot) k) in
    let rest = running_from (n + 1) ps in
    ap left_in (at_with r n Procedure p.0 (with_countdown n Reachable p.1 rest) (rank_rises n slot Procedure k (omega arith) (omega arith)) ∙ at_with r n Reachable p.1 rest (rank_rises n slot Reachable k (omega arith) (omega arith)))
    ∙ left_is slot (n + 1) j k ps (omega arith) (omega arith) (omega arith)

same_part : (k : Kind) (o : Option ℕ) (p : Option ℕ × Option ℕ) → part_of k p ≡ o → with_part k o p ≡ p
same_part Procedure o p e = ap (λ (a : Option ℕ). (a, p.1)) (sym e)
same_part Reachable o p e = ap (λ (a : Option ℕ). (p.0, a)) (sym e)

stays : (j : ℕ) (k : Kind) (o : Option ℕ) (ps : List (Option ℕ × Option ℕ)) → left_at j k ps ≡ o
    → changed_at j (with_part k o) ps ≡ ps
stays j k o [] e = refl
stays zero k o (p ∷ ps) e = ap (λ q. q ∷ ps) (same_part k o p e)
stays (suc j) k o (p ∷ ps) e = ap (λ qs. p ∷ qs) (stays j k o ps e)

is_left : (t : ℕ) (o : Option ℕ) → is_this t o ≡ true → o ≡ Some t
is_left t None e = absurd (cc)
is_left t (Some m) e = let same : m ≡ t = grind (arith, nat_tests) in ap Some same

retimed_by : (slot t j : ℕ) (k : Kind) (ps : List (Option ℕ × Option ℕ)) (b : Bool)
    → is_this t (ticks_left (Subscriber slot) k (running_from 0 ps)) ≡ b → slot ≡ 0 + j → j < length ps → length ps ≤ 2 ^ 32
    → cond b (running_from 0 ps) (started (Subscriber slot) k t (running_from 0 ps))
    ≡ running_from 0 (changed_at j (with_part k (Some t)) ps)
retimed_by slot t j k ps true e at lt small =
    let there =
    sym (left_is slot 0 j k ps at lt (omega arith)) ∙ is_left t (ticks_left (Subscriber slot) k (running_from 0 ps)) e in
    ap (running_from 0) (sym (stays j k (Some t) ps there))
retimed_by slot t j k ps false e at lt small = put_at slot t 0 j k ps at lt (omega arith)

pub retimed_is : (j : ℕ) (k : Kind) (o : Option ℕ) (ps : List (Option ℕ × Option ℕ)) → j < length ps → length ps ≤ 2 ^ 32
    → retimed j k o (running_from 0 ps) ≡ running_from 0 (changed_at j (with_part k o) ps)
retimed_is j k None ps lt small = without_at j 0 j k ps (omega arith) lt (omega arith)
retimed_is j k (Some t) ps lt small =
    retimed_by j t j k ps (is_this t (ticks_left (Subscriber j) k (running_from 0 ps))) refl (omega arith) lt small

both_changed : (j : ℕ) (q : Option ℕ × Option ℕ) (ps : List (Option ℕ × Option ℕ))
    → changed_at j (with_part Reachable q.1) (changed_at j (with_part Procedure q.0) ps) ≡ changed_at j (λ _. q) ps
both_changed j q [] = refl
both_changed zero q (p ∷ ps) = refl
both_changed (suc j) q (p ∷ ps) = ap (λ qs. p ∷ qs) (both_changed j q ps)

pub changed_length : {X : Type 0} (j : ℕ) (f : X → X) (xs : List X) → length (changed_at j f xs) ≡ length xs
changed_length j f [] = refl
changed_length zero f (x ∷ xs) = refl
changed_length (suc j) f (x ∷ xs) = ap suc (changed_length j f xs)

-- ---- a countdown that is known

none_there : (o : Option Countdown) → left_in o ≡ None → o ≡ None
none_there None e = refl
none_there (Some c) e = absurd (cc)

-- one that is so already stays
pub retimed_same : (slot : ℕ) (k : Kind) (o : Option ℕ) (cs : List Countdown) → ticks_left (Subscriber slot) k cs ≡ o
    → retimed slot k o cs ≡ cs
retimed_same slot k None cs e =
    let r = rank (timer_of (Subscriber slot) k) in
    without_absent countdown_rank r cs (none_there (at countdown_rank r cs) e)
retimed_same slot k (Some t) cs e =
    let same : (t == t) ≡ true = grind (arith, nat_tests) in
    ap (λ b. cond b cs (started (Subscriber slot) k t cs)) (ap (is_this t) e ∙ same)

-- one is compared with the other
pub same_left : (o p : Option ℕ) → option_eq eqb o p ≡ true → o ≡ p
same_left None None e = refl
same_left None (Some b) e = absurd (cc)
same_left (Some a) None e = absurd (cc)
same_left (Some a) (Some b) e = let same : a ≡ b = grind (arith, nat_tests) in ap Some same

-- where a slot's procedure is timed anew, the queue has its other countdown as it had
kinds_apart : (slot : ℕ) → slot < 2 ^ 32
    → (rank (timer_of (Subscriber slot) Procedure) == rank (timer_of (Subscriber slot) Reachable)) ≡ false
kinds_apart slot small = let lt = procedure_first slot small in grind (arith, nat_tests)

started_beside : (slot t : ℕ) (cs : List Countdown) → slot < 2 ^ 32 → Rising countdown_rank cs
    → ticks_left (Subscriber slot) Reachable (started (Subscriber slot) Procedure t cs) ≡ ticks_left (Subscriber slot) Reachable cs
started_beside slot t cs small h =
    let r = rank (timer_of (Subscriber slot) Reachable) in
    let x : Countdown = record { timer = timer_of (Subscriber slot) Procedure; ticks = t } in
    ap left_in (at-put countdown_rank r x cs h ∙ ap (λ b. cond b (Some x) (at countdown_rank r cs)) (kinds_apart slot small))

pub retimed_beside : (slot : ℕ) (o : Option ℕ) (cs : List Countdown) → slot < 2 ^ 32 → Rising countdown_rank cs
    → ticks_left (Subscriber slot) Reachable (retimed slot Procedure o cs) ≡ ticks_left (Subscriber slot) Reachable cs
retimed_beside slot None cs small h =
    let r = rank (timer_of (Subscriber slot) Reachable) in
    ap left_in (at-without countdown_rank (rank (timer_of (Subscriber slot) Procedure)) r cs h ∙ ap (λ b. cond b None (at countdown_rank r cs)) (kinds_apart slot small))
retimed_beside slot (Some t) cs small h =
    elim (is_this t (ticks_left (Subscriber slot) Procedure cs)) as (λ b. ticks_left (Subscriber slot) Reachable (cond b cs (started (Subscriber slot) Procedure t cs)) ≡ ticks_left (Subscriber slot) Reachable cs) [
      | true ↦ refl
      | false ↦ started_beside slot t cs small h
    ]

-- a slot's two countdowns are these from now on
pub both_retimed_is : (j : ℕ) (q : Option ℕ × Option ℕ) (ps : List (Option ℕ × Option ℕ)) → j < length ps → length ps ≤ 2 ^ 32
    → both_retimed j q (running_from 0 ps) ≡ running_from 0 (changed_at j (λ _. q) ps)
both_retimed_is j q ps lt small =
    let same = changed_length j (with_part Procedure q.0) ps in
    ap (retimed j Reachable q.1) (retimed_is j Procedure q.0 ps lt small)
    ∙ retimed_is j Reachable q.1 (changed_at j (with_part Procedure q.0) ps) (omega arith) (omega arith)
    ∙ ap (running_from 0) (both_changed j q ps)

-- ---- after the countdowns of strangers

-- each of these stands before those of all slots
abbrev pub AreBefore : List Countdown → Type 0
AreBefore cs = Every (λ c. countdown_rank c < 2 ^ 41) cs

before_slot : (n : ℕ) (k : Kind) (cs : List Countdown) → n < 2 ^ 32 → AreBefore cs
    → Every (λ c. countdown_rank c < rank (timer_of (Subscriber n) k)) cs
before_slot n k [] small h = tt
before_slot n k (c ∷ cs) small h =
    let e = rank_is n k small in
    let lt : countdown_rank c < 2 ^ 41 = h.0 in
    (omega (arith, e, lt), before_slot n k cs small h.1)

left_joined : (n : ℕ) (k : Kind) (xs ys : List Countdown) → n < 2 ^ 32 → AreBefore xs
    → ticks_left (Subscriber n) k (xs ++ ys) ≡ ticks_left (Subscriber n) k ys
left_joined n k xs ys small h =
    ap left_in (at_back countdown_rank (rank (timer_of (Subscriber n) k)) xs ys (before_slot n k xs small h))

retimed_joined_by : (n t : ℕ) (k : Kind) (xs ys : List Countdown) (b : Bool) → n < 2 ^ 32 → AreBefore xs
    → cond b (xs ++ ys) (started (Subscriber n) k t (xs ++ ys)) ≡ xs ++ cond b ys (started (Subscriber n) k t ys)
retimed_joined_by n t k xs ys true small h = refl
retimed_joined_by n t k xs ys false small h =
    put_back countdown_rank (record { timer = timer_of (Subscriber n) k; ticks = t }) xs ys (before_slot n k xs small h)

retimed_joined : (n : ℕ) (k : Kind) (o : Option ℕ) (xs ys : List Countdown) → n < 2 ^ 32 → AreBefore xs
    → retimed n k o (xs ++ ys) ≡ xs ++ retimed n k o ys
retimed_joined n k None xs ys small h =
    without_back countdown_rank (rank (timer_of (Subscriber n) k)) xs ys (before_slot n k xs small h)
retimed_joined n k (Some t) xs ys small h =
    ap (λ o. cond (is_this t o) (xs ++ ys) (started (Subscriber n) k t (xs ++ ys))) (left_joined n k xs ys small h)
    ∙ retimed_joined_by n t k xs ys (is_this t (ticks_left (Subscriber n) k ys)) small h

pub both_retimed_joined : (n : ℕ) (q : Option ℕ × Option ℕ) (xs ys : List Countdown) → n < 2 ^ 32 → AreBefore xs
    → both_retimed n q (xs ++ ys) ≡ xs ++ both_retimed n q ys
both_retimed_joined n q xs ys small h =
    ap (retimed n Reachable q.1) (retimed_joined n Procedure q.0 xs ys small h)
    ∙ retimed_joined n Reachable q.1 xs (retimed n Procedure q.0 ys) small h

-- what a slot has left, where others stand before
pub queued_joined : (n : ℕ) (q : Option ℕ × Option ℕ) (xs ys : List Countdown) → n < 2 ^ 32 → AreBefore xs → AreQueued n q ys
    → AreQueued n q (xs ++ ys)
queued_joined n q xs ys small h known = (left_joined n Procedure xs ys small h ∙ known.0, left_joined n Reachable xs ys small h ∙ known.1)

part_at : (j : ℕ) (k : Kind) (q : Option ℕ × Option ℕ) (ps : List (Option ℕ × Option ℕ)) → slice_get ps j ≡ Some q
    → left_at j k ps ≡ part_of k q
part_at j k q [] e = absurd (cc)
part_at zero k q (p ∷ ps) e = let same : p ≡ q = cc in ap (part_of k) same
part_at (suc j) k q (p ∷ ps) e = part_at j k q ps e

within : (j : ℕ) (q : Option ℕ × Option ℕ) (ps : List (Option ℕ × Option ℕ)) → slice_get ps j ≡ Some q → j < length ps
within j q [] e = absurd (cc)
within zero q (p ∷ ps) e = omega arith
within (suc j) q (p ∷ ps) e = let ih = within j q ps e in omega arith

pub queued_at : (j : ℕ) (q : Option ℕ × Option ℕ) (ps : List (Option ℕ × Option ℕ)) → slice_get ps j ≡ Some q
    → length ps ≤ 2 ^ 32 → AreQueued j q (running_from 0 ps)
queued_at j q ps e small =
    let lt = within j q ps e in (
      left_is j 0 j Procedure ps (omega arith) lt (omega arith) ∙ part_at j Procedure q ps e,
      left_is j 0 j Reachable ps (omega arith) lt (omega arith) ∙ part_at j Reachable q ps e,
    )
