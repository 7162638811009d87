-- What always holds of a table holds where one stranger goes or is another, and where a tick comes to one of those whom it ends.
use Rattle.std.proofs.Common.{◌≡◌, ℕ, ◌<◌, ◌^◌, List, ◌∷◌, Some, Result, Ok, Err, sym, ◌∙◌, ap, subst}
use Rattle.std.specs.Prelude.{OnErr, OnOk, option_map}
use Rattle.sorted_list.specs.Ordered.{at, put, without}
use Rattle.sorted_list.specs.Laws.{rising-put, rising-without}
use Rattle.sorted_list.specs.Indexed.{every_at, every-without}
use Rattle.stranger_machine.specs.declared.state.Stranger.{Stranger}
use Rattle.mme_tables.specs.declared.sleeper.Sleeper.{Sleeper}
use Rattle.mme_tables.specs.Ended.{AreAround, AreStrangers, IsAround, IsEndingIf, all_ended, ended_at, ended_if, met_ids, touched_at}
use Rattle.mme_tables.specs.StrangerRows.{AreRows, IsSleeping, Row, row_id, sleeper_at}
use Rattle.mme_tables.proofs.Ending.{around_step, ended_step, first_met, met_ending}
use Rattle.mme_tables.proofs.Now.{every_put, just_awake}

-- ---- rows

pub rows_without : (id : ℕ) (rs : List Row) → AreRows rs → AreRows (without row_id id rs)
rows_without id rs h = record { rising = rising-without row_id id rs h.rising; small = every-without (λ (r : Row). r.id < 2 ^ 32) row_id id rs h.small }

pub rows_put : (id : ℕ) (s : Sleeper) (rs : List Row) → id < 2 ^ 32 → AreRows rs
    → AreRows (put row_id (record { id = id; sleeper = s }) rs)
rows_put id s rs lt h = record {
  rising = rising-put row_id (record { id = id; sleeper = s }) rs h.rising;
  small = every_put (λ (r : Row). r.id < 2 ^ 32) (record { id = id; sleeper = s }) rs h.rising lt h.small;
}

-- ---- one goes, or is another

closed_strangers : (clock id : ℕ) (rs : List Row) → AreStrangers clock rs → AreStrangers clock (without row_id id rs)
closed_strangers clock id rs h = record {
  rows = rows_without id rs h.rows;
  sleeping = every-without (λ (r : Row). IsSleeping clock r.sleeper) row_id id rs h.sleeping;
}

put_strangers : (clock id : ℕ) (x : Stranger) (rs : List Row) → id < 2 ^ 32 → AreStrangers clock rs
    → AreStrangers clock (put row_id (record { id = id; sleeper = touched_at clock x }) rs)
put_strangers clock id x rs lt h = record {
  rows = rows_put id (touched_at clock x) rs lt h.rows;
  sleeping = every_put (λ (r : Row). IsSleeping clock r.sleeper) (record { id = id; sleeper = touched_at clock x }) rs h.rows.rising (just_awake clock x) h.sleeping;
}

pub closed_is : (clock id : ℕ) (rs vs : List Row) → AreStrangers clock rs → vs ≡ without row_id id rs → AreStrangers clock vs
closed_is clock id rs vs h r = subst (AreStrangers clock) (sym r) (closed_strangers clock id rs h)

pub put_is : (clock id : ℕ) (x : Stranger) (rs vs : List Row) → id < 2 ^ 32 → AreStrangers clock rs
    → vs ≡ put row_id (record { id = id; sleeper = touched_at clock x }) rs → AreStrangers clock vs
put_is clock id x rs vs lt h r = subst (AreStrangers clock) (sym r) (put_strangers clock id x rs lt h)

-- or all is as it was
pub put_strangers_if : {T E : Type 0} (res : Result T E) (clock id : ℕ) (x : Stranger) (rs vs : List Row) → id < 2 ^ 32
    → AreStrangers clock rs → OnOk res (vs ≡ put row_id (record { id = id; sleeper = touched_at clock x }) rs)
    → OnErr res (vs ≡ rs) → AreStrangers clock vs
put_strangers_if (Ok y) clock id x rs vs lt h ok err = put_is clock id x rs vs lt h ok
put_strangers_if (Err e) clock id x rs vs lt h ok err = subst (AreStrangers clock) (sym err) h

-- ---- one takes the tick

found : (id : ℕ) (r : Row) (rs : List Row) → at row_id id rs ≡ Some r → sleeper_at id rs ≡ Some r.sleeper
found id r rs h = ap (option_map (λ (x : Row). x.sleeper)) h

around_at : (next id : ℕ) (r : Row) (rs : List Row) → AreAround next rs → at row_id id rs ≡ Some r → IsAround next r.sleeper
around_at next id r rs a h = every_at (λ (x : Row). IsAround next x.sleeper) row_id id r rs h a

pub first_ending : (next id : ℕ) (ids : List ℕ) (rs : List Row) → AreRows rs → AreAround next rs → met_ids next rs ≡ id ∷ ids
    → IsEndingIf next (sleeper_at id rs)
first_ending next id ids rs rows a q =
    let f = first_met next id ids rs rows.rising q in
    subst (IsEndingIf next) (sym (found id f.row rs f.there)) (met_ending next f.row.sleeper f.met (around_at next id f.row rs a f.there))

-- what it leaves
pub record IsStep (next id : ℕ) (ids : List ℕ) (rs vs : List Row) : Type 0 where
  pub around : AreAround next vs
  pub ended : all_ended next vs ≡ all_ended next rs
  pub met : met_ids next vs ≡ ids

pub first_step : (next id : ℕ) (ids : List ℕ) (rs vs : List Row) → AreRows rs → AreAround next rs → met_ids next rs ≡ id ∷ ids
    → vs ≡ ended_at id next rs → IsStep next id ids rs vs
first_step next id ids rs vs rows a q e =
    let f = first_met next id ids rs rows.rising q in
    let is = e ∙ ap (λ o. ended_if id next o rs) (found id f.row rs f.there) in
    record {
      around = subst (AreAround next) (sym is) (around_step next id f.row.sleeper rs rows.rising a);
      ended = ap (all_ended next) is ∙ ended_step next id f.row rs rows.rising f.there f.met;
      met = ap (met_ids next) is ∙ f.rest;
    }
