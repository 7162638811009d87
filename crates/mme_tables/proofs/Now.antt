-- What a change of what is kept makes of the strangers as they are now.
use Rattle.std.proofs.Common.{◌≡◌, ℕ, ◌+◌, ◌-◌, ◌<◌, List, [], ◌∷◌, Option, Some, None, refl, sym, ◌∙◌, ap, subst, arith}
use Rattle.std.specs.Prelude.{nat_lt, not, Bool, true, false, cond, option_map, IsSome}
use Rattle.sorted_list.specs.Ordered.{add, at, put, without, Rising, Every}
use Rattle.sorted_list.specs.Indexed.{every-add, every-without, every_at, at-map, map-add, map-without, put_is_add, rising-map}
use Rattle.sorted_list.specs.Sorted.{lowest_from}
use Rattle.stranger_machine.specs.declared.state.Stranger.{Stranger}
use Rattle.stranger_machine.specs.declared.state.Stranger.TheVariants.{Waiting, Held}
use Rattle.stranger_machine.specs.declared.table.Known.{Known}
use Rattle.stranger_machine.specs.Table.{known_id, stranger_at}
use Rattle.stranger_machine.specs.TickLaws.{aged_none}
use Rattle.stranger_machine.specs.Ticks.{IsAsleep, stranger_aged}
use Rattle.mme_tables.specs.declared.sleeper.Sleeper.{Sleeper}
use Rattle.mme_tables.specs.StrangerRows.{AreSleeping, IsSleeping, Row, all_now, known_now, row_id, sleeper_at, sleeper_now}

pub rising_now : (clock : ℕ) (rs : List Row) → Rising row_id rs → Rising known_id (all_now clock rs)
rising_now clock rs h = rising-map (known_now clock) known_id rs h

mapped : (clock : ℕ) (o : Option Row) → option_map (λ (k : Known). k.stranger) (option_map (known_now clock) o) ≡ option_map (sleeper_now clock) (option_map (λ (r : Row). r.sleeper) o)
mapped clock None = refl
mapped clock (Some r) = refl

-- a look-up
pub stranger_now : (clock id : ℕ) (rs : List Row)
    → stranger_at id (all_now clock rs) ≡ option_map (sleeper_now clock) (sleeper_at id rs)
stranger_now clock id rs =
    ap (option_map (λ (k : Known). k.stranger)) (at-map (known_now clock) known_id id rs) ∙ mapped clock (at row_id id rs)

lowest_by : (clock n : ℕ) (r : Row) (rs : List Row) (b : Bool)
    → option_map known_id (lowest_from known_id n (all_now clock rs)) ≡ option_map row_id (lowest_from row_id n rs)
    → option_map known_id (cond b (lowest_from known_id n (all_now clock rs)) (Some (known_now clock r)))
    ≡ option_map row_id (cond b (lowest_from row_id n rs) (Some r))
lowest_by clock n r rs true ih = ih
lowest_by clock n r rs false ih = refl

pub lowest_now : (clock n : ℕ) (rs : List Row)
    → option_map known_id (lowest_from known_id n (all_now clock rs)) ≡ option_map row_id (lowest_from row_id n rs)
lowest_now clock n [] = refl
lowest_now clock n (r ∷ rs) = lowest_by clock n r rs (nat_lt r.id n) (lowest_now clock n rs)

-- one that was touched now
pub touched_now : (clock : ℕ) (x : Stranger) → sleeper_now clock (record { stranger = x; touched = clock }) ≡ x
touched_now clock x = let none : clock - clock ≡ 0 = omega arith in ap (λ n. stranger_aged n x) none ∙ aged_none x

pub without_now : (clock id : ℕ) (rs : List Row) → all_now clock (without row_id id rs) ≡ without known_id id (all_now clock rs)
without_now clock id rs = map-without (known_now clock) known_id id rs

-- another in its place
pub put_now : (clock id : ℕ) (x : Stranger) (rs : List Row) → Rising row_id rs
    → all_now clock (put row_id (record { id = id; sleeper = record { stranger = x; touched = clock } }) rs) ≡ put known_id (record { id = id; stranger = x }) (all_now clock rs)
put_now clock id x rs h =
    let r : Row = record { id = id; sleeper = record { stranger = x; touched = clock } } in
    let k : Known = record { id = id; stranger = x } in
    ap (all_now clock) (put_is_add row_id r rs h) ∙ map-add (known_now clock) known_id r (without row_id id rs)
    ∙ ap (λ (y : Stranger). add known_id (record { id = id; stranger = y }) (all_now clock (without row_id id rs))) (touched_now clock x)
    ∙ ap (add known_id k) (without_now clock id rs) ∙ sym (put_is_add known_id k (all_now clock rs) (rising_now clock rs h))

-- ---- what holds of each

pub every_put : (P : Row → Type 0) (r : Row) (rs : List Row) → Rising row_id rs → P r → Every P rs → Every P (put row_id r rs)
every_put P r rs h p all =
    subst (Every P) (sym (put_is_add row_id r rs h))
    (every-add P row_id r (without row_id r.id rs) p (every-without P row_id r.id rs all))

awake_by : (n : ℕ) (x : Stranger) → n ≡ 0 → IsAsleep n x
awake_by n (Held slot) e = tt
awake_by n (Waiting k left repeats) e = let lt : n < left - 1 + 1 = omega arith in lt

pub just_awake : (clock : ℕ) (x : Stranger) → IsSleeping clock (record { stranger = x; touched = clock })
just_awake clock x = record { past = omega arith; asleep = awake_by (clock - clock) x (omega arith) }

sleeping_by : (clock id : ℕ) (s : Sleeper) (rs : List Row) (o : Option Row) → at row_id id rs ≡ o
    → option_map (λ (r : Row). r.sleeper) o ≡ Some s → AreSleeping clock rs → IsSleeping clock s
sleeping_by clock id s rs None h q all = absurd cc
sleeping_by clock id s rs (Some r) h q all =
    let same : r.sleeper ≡ s = cc in
    subst (IsSleeping clock) same (every_at (λ (x : Row). IsSleeping clock x.sleeper) row_id id r rs h all)

pub sleeping_at : (clock id : ℕ) (s : Sleeper) (rs : List Row) → sleeper_at id rs ≡ Some s → AreSleeping clock rs
    → IsSleeping clock s
sleeping_at clock id s rs q all = sleeping_by clock id s rs (at row_id id rs) refl q all

pub not_not : (a b : Bool) → a ≡ not b → not a ≡ b
not_not a true h = ap not h
not_not a false h = ap not h

pub none_there : (o : Option Stranger) → o ≡ None → IsSome o → ⊥
none_there None e h = cc
none_there (Some s) e h = cc
