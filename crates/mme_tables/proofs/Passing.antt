-- What a tick makes of the rows where one stranger takes it.
use Rattle.std.proofs.Common.{◌≡◌, ℕ, List, true, false, Some, None, sym, ◌∙◌, ap, subst}
use Rattle.std.specs.Prelude.{option_map}
use Rattle.slab.specs.Slab.{Slab, Updates}
use Rattle.sorted_list.specs.Ordered.{at, without}
use Rattle.mme_tables.specs.declared.places.StrangerPlace.{StrangerPlace}
use Rattle.mme_tables.specs.declared.sleeper.Sleeper.{Sleeper}
use Rattle.mme_tables.specs.Ended.{IsEnding, IsEndingIf, ended_at, ended_if, sleeper_ended, sleeper_ticked, stays_ticked}
use Rattle.mme_tables.specs.KeptStrangers.{IsTable, place_id, row_at, rows_of}
use Rattle.mme_tables.specs.StrangerRows.{Row, row_id, sleeper_at, with_row}
use Rattle.mme_tables.proofs.Ending.{ended_closed, ended_open, without_put}
use Rattle.mme_tables.proofs.KeptStrangers.{at_rows, closed_rows, put_rows, rising_rows}

-- one that stays open has taken it
pub open_rows : (s t : Slab Sleeper) (next : ℕ) (p : StrangerPlace) (ps : List StrangerPlace) → IsTable s ps
    → at place_id p.id ps ≡ Some p
    → Updates s t p.key (Some (sleeper_ticked p.id next (row_at s p).sleeper)) → stays_ticked p.id next (row_at s p).sleeper ≡ true
    → rows_of t ps ≡ with_row p.id (sleeper_ended p.id next (row_at s p).sleeper) (rows_of s ps)
open_rows s t next p ps k h u is =
    put_rows s t p.id (sleeper_ticked p.id next (row_at s p).sleeper) p ps k.rising k.keys h u
    ∙ sym (ap (λ o. with_row p.id o (rows_of s ps)) (ended_open p.id next (row_at s p).sleeper is))

-- one that doesn't is gone
pub shut_rows : (s t v : Slab Sleeper) (next : ℕ) (p : StrangerPlace) (ps : List StrangerPlace) → IsTable s ps
    → at place_id p.id ps ≡ Some p
    → Updates s t p.key (Some (sleeper_ticked p.id next (row_at s p).sleeper)) → stays_ticked p.id next (row_at s p).sleeper ≡ false
    → Updates t v p.key None
    → rows_of v (without place_id p.id ps) ≡ with_row p.id (sleeper_ended p.id next (row_at s p).sleeper) (rows_of s ps)
shut_rows s t v next p ps k h u is gone =
    let x = sleeper_ticked p.id next (row_at s p).sleeper in
    let r : Row = record { id = p.id; sleeper = x } in
    closed_rows t v p.id p ps k.keys h gone ∙ ap (without row_id p.id) (put_rows s t p.id x p ps k.rising k.keys h u)
    ∙ without_put r (rows_of s ps) (rising_rows s ps k.rising)
    ∙ sym (ap (λ o. with_row p.id o (rows_of s ps)) (ended_closed p.id next (row_at s p).sleeper is))

-- ---- the one with an id

pub place_sleeper : (s : Slab Sleeper) (id : ℕ) (p : StrangerPlace) (ps : List StrangerPlace) → at place_id id ps ≡ Some p
    → sleeper_at id (rows_of s ps) ≡ Some (row_at s p).sleeper
place_sleeper s id p ps h = ap (option_map (λ (r : Row). r.sleeper)) (at_rows s id ps ∙ ap (option_map (row_at s)) h)

pub place_none : (s : Slab Sleeper) (id : ℕ) (ps : List StrangerPlace) → at place_id id ps ≡ None
    → sleeper_at id (rows_of s ps) ≡ None
place_none s id ps h = ap (option_map (λ (r : Row). r.sleeper)) (at_rows s id ps ∙ ap (option_map (row_at s)) h)

pub ending_there : (next id : ℕ) (x : Sleeper) (rs : List Row) → sleeper_at id rs ≡ Some x → IsEndingIf next (sleeper_at id rs)
    → IsEnding next x
ending_there next id x rs q h = subst (IsEndingIf next) q h

pub ended_there : (next id : ℕ) (x : Sleeper) (rs : List Row) → sleeper_at id rs ≡ Some x
    → with_row id (sleeper_ended id next x) rs ≡ ended_at id next rs
ended_there next id x rs q = sym (ap (λ o. ended_if id next o rs) q)

pub ended_none : (next id : ℕ) (rs : List Row) → sleeper_at id rs ≡ None → rs ≡ ended_at id next rs
ended_none next id rs q = sym (ap (λ o. ended_if id next o rs) q)
