-- What a tick makes of those whose T3470 it ends.
use Rattle.std.proofs.Common.{◌≡◌, ℕ, ◌+◌, ◌-◌, ◌<◌, ◌≤◌, List, [], ◌∷◌, Bool, true, false, Option, Some, None, refl, sym, ◌∙◌, ap, subst, arith}
use Rattle.std.specs.Prelude.{◌==◌, nat_lt, nat_le, not, cond, option_map, is_some, unwrap_or}
use Rattle.std.proofs.lemmas.Bool.Decides.{nat_tests}
use borrow.Author.Tests.{eqb-true}
use Rattle.sorted_list.specs.Ordered.{at, put, without, AllOver, Rising}
use Rattle.sorted_list.specs.Indexed.{every-without, put_is_add, without-add}
use Rattle.stranger_machine.specs.declared.state.Stranger.{Stranger}
use Rattle.stranger_machine.specs.declared.state.Stranger.TheVariants.{Waiting, Held}
use Rattle.stranger_machine.specs.declared.table.Known.{Known}
use Rattle.stranger_machine.specs.declared.turn.Notice.TheVariants.{Tick}
use Rattle.stranger_machine.specs.Machine.{notes}
use Rattle.stranger_machine.specs.Table.{known_if, noted}
use Rattle.stranger_machine.specs.TickLaws.{aged_again, quiet_notice}
use Rattle.stranger_machine.specs.Ticks.{IsAsleep, is_ending, stranger_aged}
use Rattle.stranger_machine.specs.Turns.{Turn}
use Rattle.mme_tables.specs.declared.sleeper.Sleeper.{Sleeper}
use Rattle.mme_tables.specs.Waiting.{due_ids}
use Rattle.mme_tables.specs.Ended.{AreAround, IsAround, IsEnding, all_ended, deadline_in, deadline_of, is_met, met_ids, row_if, sleeper_ended, sleeper_ticked, stays_ticked, touched_at}
use Rattle.mme_tables.specs.StrangerRows.{AreSleeping, IsSleeping, Row, all_now, row_id, sleeper_now, with_row}
use Rattle.mme_tables.proofs.Now.{every_put, touched_now}

-- ---- whom the next tick meets

met_by : (c t l : ℕ) (b : Bool) → nat_lt 1 (l - (c - t)) ≡ b → t ≤ c → c - t < l - 1 + 1 → nat_le (t + (l - 1 + 1)) (c + 1) ≡ not b
met_by c t l true e le a = grind (arith, nat_tests)
met_by c t l false e le a = grind (arith, nat_tests)

met_in : (c t : ℕ) (s : Stranger) → t ≤ c → IsAsleep (c - t) s
    → is_met (c + 1) (deadline_in t s) ≡ is_ending (stranger_aged (c - t) s)
met_in c t (Held slot) le a = refl
met_in c t (Waiting k l r) le a = met_by c t l (nat_lt 1 (l - (c - t))) refl le a

-- they are those whose T3470 it ends
pub met_is_ending : (clock : ℕ) (r : Row) → IsSleeping clock r.sleeper
    → is_met (clock + 1) (deadline_of r.sleeper) ≡ is_ending (sleeper_now clock r.sleeper)
met_is_ending clock r h = met_in clock r.sleeper.touched r.sleeper.stranger h.past h.asleep

pub met_is_due : (clock : ℕ) (rs : List Row) → AreSleeping clock rs → met_ids (clock + 1) rs ≡ due_ids (all_now clock rs)
met_is_due clock [] h = refl
met_is_due clock (r ∷ rs) h =
    ap (λ b. cond b (r.id ∷ met_ids (clock + 1) rs) (met_ids (clock + 1) rs)) (met_is_ending clock r h.0)
    ∙ ap (λ ids. cond (is_ending (sleeper_now clock r.sleeper)) (r.id ∷ ids) ids) (met_is_due clock rs h.1)

-- ---- all, as they are after the tick

row_now : (id next : ℕ) (o : Option Stranger) (rs : List Row)
    → all_now next (row_if id (option_map (touched_at next) o) rs) ≡ known_if id o (all_now next rs)
row_now id next None rs = refl
row_now id next (Some x) rs = ap (λ y. record { id = id; stranger = y } ∷ all_now next rs) (touched_now next x)

back : (clock : ℕ) → clock + 1 - 1 ≡ clock
back clock = omega arith

later_now : (clock t : ℕ) (s : Stranger) → t ≤ clock
    → stranger_aged 1 (stranger_aged (clock - t) s) ≡ stranger_aged (clock + 1 - t) s
later_now clock t s le =
    let same : clock - t + 1 ≡ clock + 1 - t = omega arith in aged_again (clock - t) 1 s ∙ ap (λ n. stranger_aged n s) same

ended_by : (clock : ℕ) (r : Row) (rs : List Row) (ks : List Known) (b : Bool) → is_ending (sleeper_now clock r.sleeper) ≡ b
    → IsSleeping clock r.sleeper → all_now (clock + 1) rs ≡ ks
    → all_now (clock + 1) (cond b (row_if r.id (sleeper_ended r.id (clock + 1) r.sleeper) rs) (r ∷ rs))
    ≡ known_if r.id (notes r.id (Some (sleeper_now clock r.sleeper)) Tick).stranger ks
ended_by clock r rs ks true e h ih =
    row_now r.id (clock + 1) (notes r.id (Some (sleeper_now (clock + 1 - 1) r.sleeper)) Tick).stranger rs
    ∙ ap (λ c. known_if r.id (notes r.id (Some (sleeper_now c r.sleeper)) Tick).stranger (all_now (clock + 1) rs)) (back clock)
    ∙ ap (known_if r.id (notes r.id (Some (sleeper_now clock r.sleeper)) Tick).stranger) ih
ended_by clock r rs ks false e h ih =
    ap (λ y. record { id = r.id; stranger = y } ∷ all_now (clock + 1) rs) (sym (later_now clock r.sleeper.touched r.sleeper.stranger h.past))
    ∙ ap (λ zs. record { id = r.id; stranger = stranger_aged 1 (sleeper_now clock r.sleeper) } ∷ zs) ih
    ∙ sym (ap (λ (t : Turn). known_if r.id t.stranger ks) (quiet_notice r.id (sleeper_now clock r.sleeper) e))

pub all_ended_now : (clock : ℕ) (rs : List Row) → AreSleeping clock rs
    → all_now (clock + 1) (all_ended (clock + 1) rs) ≡ noted Tick (all_now clock rs)
all_ended_now clock [] h = refl
all_ended_now clock (r ∷ rs) h =
    ap (λ b. all_now (clock + 1) (cond b (row_if r.id (sleeper_ended r.id (clock + 1) r.sleeper) (all_ended (clock + 1) rs)) (r ∷ all_ended (clock + 1) rs))) (met_is_ending clock r h.0)
    ∙ ended_by clock r (all_ended (clock + 1) rs) (noted Tick (all_now clock rs)) (is_ending (sleeper_now clock r.sleeper)) refl h.0
    (all_ended_now clock rs h.1)

-- ---- one of them

-- one that the tick touched isn't met by it
fresh_in : (next : ℕ) (x : Stranger) → is_met next (deadline_in next x) ≡ false
fresh_in next (Held slot) = refl
fresh_in next (Waiting k l r) = let over : next < next + (l - 1 + 1) = omega arith in grind (arith, nat_tests)

over_at : (n id : ℕ) (r : Row) (rs : List Row) → AllOver row_id n rs → at row_id id rs ≡ Some r → n < id
over_at n id r [] o h = absurd cc
over_at n id r (y ∷ ys) o h = let ih = over_at n id r ys o.1 in let lt : n < y.id = o.0 in grind (arith, nat_tests)

past : (id : ℕ) (o : Option Sleeper) (y : Row) (ys : List Row) → y.id < id → with_row id o (y ∷ ys) ≡ y ∷ with_row id o ys
past id None y ys lt = grind (arith, nat_tests)
past id (Some s) y ys lt = grind (arith, nat_tests)

-- where it touches one of those whom it ends, it still ends the others
here : (next id : ℕ) (o : Option Stranger) (y : Row) (ys : List Row) → y.id ≡ id
    → all_ended next (with_row id (option_map (touched_at next) o) (y ∷ ys))
    ≡ row_if id (option_map (touched_at next) o) (all_ended next ys)
here next id None y ys e =
    let goes : without row_id id (y ∷ ys) ≡ ys = grind (arith, nat_tests) in
    ap (all_ended next) goes
here next id (Some x) y ys e =
    let new : Row = record { id = id; sleeper = record { stranger = x; touched = next } } in
    let there : put row_id new (y ∷ ys) ≡ new ∷ ys = grind (arith, nat_tests) in
    ap (all_ended next) there ∙ rw (fresh_in next x) refl

step_by : (next id : ℕ) (r y : Row) (ys : List Row) (b : Bool) → (y.id == id) ≡ b → Rising row_id (y ∷ ys)
    → cond b (Some y) (at row_id id ys) ≡ Some r → is_met next (deadline_of r.sleeper) ≡ true
    → (at row_id id ys ≡ Some r → all_ended next (with_row id (sleeper_ended id next r.sleeper) ys) ≡ all_ended next ys)
    → all_ended next (with_row id (sleeper_ended id next r.sleeper) (y ∷ ys)) ≡ all_ended next (y ∷ ys)
step_by next id r y ys true e h q met ih =
    let same : y ≡ r = cc in
    let own : y.id ≡ id = eqb-true _ _ e in
    let its : is_met next (deadline_of y.sleeper) ≡ true =
    ap (λ (z : Row). is_met next (deadline_of z.sleeper)) same ∙ met in
    here next id (notes id (Some (sleeper_now (next - 1) r.sleeper)) Tick).stranger y ys own
    ∙ ap (λ (z : Row). row_if id (sleeper_ended id next z.sleeper) (all_ended next ys)) (sym same)
    ∙ ap (λ i. row_if i (sleeper_ended i next y.sleeper) (all_ended next ys)) (sym own)
    ∙ sym (ap (λ b. cond b (row_if y.id (sleeper_ended y.id next y.sleeper) (all_ended next ys)) (y ∷ all_ended next ys)) its)
step_by next id r y ys false e h q met ih =
    let lt : y.id < id = over_at y.id id r ys h.0 q in
    ap (all_ended next) (past id (sleeper_ended id next r.sleeper) y ys lt)
    ∙ ap (λ zs. cond (is_met next (deadline_of y.sleeper)) (row_if y.id (sleeper_ended y.id next y.sleeper) zs) (y ∷ zs))
    (ih q)

pub ended_step : (next id : ℕ) (r : Row) (rs : List Row) → Rising row_id rs → at row_id id rs ≡ Some r
    → is_met next (deadline_of r.sleeper) ≡ true
    → all_ended next (with_row id (sleeper_ended id next r.sleeper) rs) ≡ all_ended next rs
ended_step next id r [] h q met = absurd cc
ended_step next id r (y ∷ ys) h q met = step_by next id r y ys (y.id == id) refl h q met (λ p. ended_step next id r ys h.1 p met)

-- the first of them, by id, and those who are left once it has taken it
pub record IsFirst (next id : ℕ) (ids : List ℕ) (rs : List Row) : Type 0 where
  pub row : Row
  pub there : at row_id id rs ≡ Some row
  pub met : is_met next (deadline_of row.sleeper) ≡ true
  pub rest : met_ids next (with_row id (sleeper_ended id next row.sleeper) rs) ≡ ids

here_met : (next id : ℕ) (o : Option Stranger) (y : Row) (ys : List Row) → y.id ≡ id
    → met_ids next (with_row id (option_map (touched_at next) o) (y ∷ ys)) ≡ met_ids next ys
here_met next id None y ys e =
    let goes : without row_id id (y ∷ ys) ≡ ys = grind (arith, nat_tests) in
    ap (met_ids next) goes
here_met next id (Some x) y ys e =
    let new : Row = record { id = id; sleeper = record { stranger = x; touched = next } } in
    let there : put row_id new (y ∷ ys) ≡ new ∷ ys = grind (arith, nat_tests) in
    ap (met_ids next) there ∙ rw (fresh_in next x) refl

first_by : (next id : ℕ) (ids : List ℕ) (y : Row) (ys : List Row) (b : Bool) → is_met next (deadline_of y.sleeper) ≡ b
    → Rising row_id (y ∷ ys) → cond b (y.id ∷ met_ids next ys) (met_ids next ys) ≡ id ∷ ids
    → (met_ids next ys ≡ id ∷ ids → IsFirst next id ids ys) → IsFirst next id ids (y ∷ ys)
first_by next id ids y ys true e h q ih =
    let own : y.id ≡ id = cc in
    let left : met_ids next ys ≡ ids = cc in
    let same : (y.id == id) ≡ true = grind (arith, nat_tests) in
    record {
      row = y;
      there = rw same refl;
      met = e;
      rest = here_met next id (notes id (Some (sleeper_now (next - 1) y.sleeper)) Tick).stranger y ys own ∙ left;
    }
first_by next id ids y ys false e h q ih =
    let f = ih q in
    let lt : y.id < id = over_at y.id id f.row ys h.0 f.there in
    let other : (y.id == id) ≡ false = grind (arith, nat_tests) in
    record {
      row = f.row;
      there = rw other f.there;
      met = f.met;
      rest =
          ap (met_ids next) (past id (sleeper_ended id next f.row.sleeper) y ys lt)
          ∙ ap (λ b. cond b (y.id ∷ met_ids next (with_row id (sleeper_ended id next f.row.sleeper) ys)) (met_ids next (with_row id (sleeper_ended id next f.row.sleeper) ys))) e
          ∙ f.rest;
    }

pub first_met : (next id : ℕ) (ids : List ℕ) (rs : List Row) → Rising row_id rs → met_ids next rs ≡ id ∷ ids
    → IsFirst next id ids rs
first_met next id ids [] h q = absurd (cc)
first_met next id ids (y ∷ ys) h q =
    first_by next id ids y ys (is_met next (deadline_of y.sleeper)) refl h q (first_met next id ids ys h.1)

-- ---- the tick is under way

awake_at : (n : ℕ) (x : Stranger) → n ≡ 0 → IsAsleep n x
awake_at n (Held slot) e = tt
awake_at n (Waiting k left repeats) e = let lt : n < left - 1 + 1 = omega arith in lt

pub fresh_around : (next : ℕ) (x : Stranger) → IsAround next (record { stranger = x; touched = next })
fresh_around next x = record { past = omega arith; asleep = awake_at (next - 1 - next) x (omega arith) }

around_by : (next id : ℕ) (o : Option Stranger) (rs : List Row) → Rising row_id rs → AreAround next rs
    → AreAround next (with_row id (option_map (touched_at next) o) rs)
around_by next id None rs h a = every-without (λ (r : Row). IsAround next r.sleeper) row_id id rs a
around_by next id (Some x) rs h a =
    every_put (λ (r : Row). IsAround next r.sleeper) (record { id = id; sleeper = record { stranger = x; touched = next } }) rs h
    (fresh_around next x) a

pub around_step : (next id : ℕ) (s : Sleeper) (rs : List Row) → Rising row_id rs → AreAround next rs
    → AreAround next (with_row id (sleeper_ended id next s) rs)
around_step next id s rs h a = around_by next id (notes id (Some (sleeper_now (next - 1) s)) Tick).stranger rs h a

-- it begins with those who sleep
pub sleeping_around : (clock : ℕ) (rs : List Row) → AreSleeping clock rs → AreAround (clock + 1) rs
sleeping_around clock [] h = tt
sleeping_around clock (r ∷ rs) h =
    let past = h.0.past in
    (record { past = omega arith; asleep = subst (λ n. IsAsleep (n - r.sleeper.touched) r.sleeper.stranger) (sym (back clock)) h.0.asleep }, sleeping_around clock rs h.1)

-- one whom it ends hasn't taken it
past_in : (next t : ℕ) (s : Stranger) → is_met next (deadline_in t s) ≡ true → t < next
past_in next t (Held slot) m = cc
past_in next t (Waiting k l r) m = let le : t + (l - 1 + 1) ≤ next = grind (arith, nat_tests) in omega arith

pub met_ending : (next : ℕ) (s : Sleeper) → is_met next (deadline_of s) ≡ true → IsAround next s → IsEnding next s
met_ending next s m a = record { past = past_in next s.touched s.stranger m; asleep = a.asleep }

-- and ends where it ends nobody
sleeps_in : (next t : ℕ) (s : Stranger) → is_met next (deadline_in t s) ≡ false → t ≤ next → IsAsleep (next - t) s
sleeps_in next t (Held slot) m le = tt
sleeps_in next t (Waiting k l r) m le =
    let lt : next < t + (l - 1 + 1) = grind (arith, nat_tests) in
    let less : next - t < l - 1 + 1 = omega arith in
    less

pub record IsOver (next : ℕ) (rs : List Row) : Type 0 where
  pub same : all_ended next rs ≡ rs
  pub sleeping : AreSleeping next rs

over_by : (next : ℕ) (r : Row) (rs : List Row) (b : Bool) → is_met next (deadline_of r.sleeper) ≡ b → IsAround next r.sleeper
    → cond b (r.id ∷ met_ids next rs) (met_ids next rs) ≡ []
    → (met_ids next rs ≡ [] → IsOver next rs) → IsOver next (r ∷ rs)
over_by next r rs true e a h ih = absurd cc
over_by next r rs false e a h ih = record {
  same = rw e (ap (λ zs. r ∷ zs) (ih h).same);
  sleeping = (record { past = a.past; asleep = sleeps_in next r.sleeper.touched r.sleeper.stranger e a.past }, (ih h).sleeping);
}

pub is_over : (next : ℕ) (rs : List Row) → AreAround next rs → met_ids next rs ≡ [] → IsOver next rs
is_over next [] a h = record { same = refl; sleeping = tt }
is_over next (r ∷ rs) a h = over_by next r rs (is_met next (deadline_of r.sleeper)) refl a.0 h (λ q. is_over next rs a.1 q)

-- ---- what it leaves of one

ticked_by : (id next : ℕ) (s : Sleeper) (o : Option Stranger) → (notes id (Some (sleeper_now (next - 1) s)) Tick).stranger ≡ o
    → is_some o ≡ true
    → option_map (touched_at next) o ≡ Some (touched_at next (unwrap_or o (sleeper_now (next - 1) s)))
ticked_by id next s None e h = absurd cc
ticked_by id next s (Some x) e h = refl

pub ended_open : (id next : ℕ) (s : Sleeper) → stays_ticked id next s ≡ true
    → sleeper_ended id next s ≡ Some (sleeper_ticked id next s)
ended_open id next s h = ticked_by id next s (notes id (Some (sleeper_now (next - 1) s)) Tick).stranger refl h

none_by : (next : ℕ) (o : Option Stranger) → is_some o ≡ false → option_map (touched_at next) o ≡ None
none_by next None h = refl
none_by next (Some x) h = absurd cc

pub ended_closed : (id next : ℕ) (s : Sleeper) → stays_ticked id next s ≡ false → sleeper_ended id next s ≡ None
ended_closed id next s h = none_by next (notes id (Some (sleeper_now (next - 1) s)) Tick).stranger h

pub without_put : (r : Row) (rs : List Row) → Rising row_id rs → without row_id r.id (put row_id r rs) ≡ without row_id r.id rs
without_put r rs h = ap (without row_id r.id) (put_is_add row_id r rs h) ∙ without-add row_id r.id r (without row_id r.id rs) refl
