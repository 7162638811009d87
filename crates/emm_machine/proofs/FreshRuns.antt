-- Runs of steps: states stay in use and go back to no vector, and what is sent and accepted over a whole run is fresh.
use Rattle.std.proofs.Common.{◌≡◌, ℕ, ◌<◌, ◌≤◌, ◌==◌, ◌⊎◌, ◌&&◌, ◌||◌, inl, inr, Bool, true, false, not, nat_lt, cond, List, [], ◌∷◌, ◌++◌, Option, Some, None, option_to_list, append-nil, le_refl, refl, sym, subst, eq-eqb, arith}
use Rattle.std.specs.Prelude.{if◌then◌else◌}
use Rattle.std.proofs.lemmas.Bool.Decides.{nat_tests}
use Rattle.mme_types.specs.declared.octets.Mark.{Mark}
use Rattle.emm_state.specs.declared.setting.Setting.{Setting}
use Rattle.emm_state.specs.declared.solo.Context.{Context}
use Rattle.emm_state.specs.declared.solo.Solo.{Solo}
use Rattle.emm_machine.specs.Freshness.{AcceptsAhead, AcceptsOnce, GoesOnward, IsAhead, IsBefore, IsBelow, IsInUse, IsOfContext, MakesAhead, MakesOnce, SendsAhead, SendsOnce, StaysInUse, accepted_marks, counts_anew, marks_of, next_down, next_place, next_up, place_made, places_made, sent_marks}
use Rattle.mme_types.specs.Events.{Item}
use Rattle.emm_machine.specs.Steps.{solo_after, solo_step}
use Rattle.emm_machine.proofs.FreshRows.{ShortIsFresh, WholeIsFresh, fresh_step}
use Rattle.emm_machine.proofs.Runs.{IsRun, run_all, run_append, run_onward, run_pairs}

-- a vector may yet become a context
abbrev IsOpen : Solo → ℕ → Type 0
IsOpen solo place = next_place solo.phase solo.next_vector ≤ place

place_if : (low high place : ℕ) (same : Bool) → low ≤ high → low ≤ place → place < high
    → IsRun ◌<◌ (λ p. low ≤ p) (λ p. high ≤ p) (cond same [] (place ∷ []))
place_if low high place true further above below = λ p q. omega arith
place_if low high place false further above below = (above, λ p q. (omega arith, omega arith))

or_false : (a b : Bool) → a ≡ false → b ≡ false → (a || b) ≡ false
or_false true b h k = absurd cc
or_false false b h k = k

kept_if : (same anew : Bool) (place : ℕ) → same ≡ true → anew ≡ false → (if same && not anew then [] else place ∷ []) ≡ []
kept_if true true place h k = absurd cc
kept_if true false place h k = refl
kept_if false anew place h k = absurd cc

-- a mark that may come under a context, or of a later vector
abbrev IsOfLater : Option Context → ℕ → Mark → Type 0
IsOfLater o low m = IsOfContext next_down o m ⊎ (low ≤ m.place)

unspent : (x : Context) (low : ℕ) (m : Mark) → x.place < low → IsOfLater (Some x) low m
    → ((m.place == x.place) && nat_lt m.count x.security.down_next) ≡ false
unspent x low m below h =
    elim h [
      | inl q ↦ let own = q.0 in let above = q.1 in grind (arith, nat_tests)
      | inr above ↦ grind (arith, nat_tests)
    ]

-- no context counts anew
none_anew : (x : Context) (from to : Mark → Type 0) (ms : List Mark)
    → ((m : Mark) → from m → ((m.place == x.place) && nat_lt m.count x.security.down_next) ≡ false)
    → IsRun IsBefore from to ms → counts_anew x ms ≡ false
none_anew x from to [] each h = refl
none_anew x from to (m ∷ ms) each h =
    or_false ((m.place == x.place) && nat_lt m.count x.security.down_next) (counts_anew x ms) (each m h.0)
    (none_anew x (λ k. from k × IsBefore m k) to ms (λ k q. each k q.0) h.1)

-- the place of the context that a step makes
place_run : (before after : Option Context) (ms : List Mark) (to : Mark → Type 0) (low high : ℕ) → low ≤ high → IsBelow before low
    → IsBelow after high → ((m : Mark) → IsOfContext next_down after m → IsOfLater before low m)
    → IsRun IsBefore (IsOfLater before low) to ms
    → IsRun ◌<◌ (λ p. low ≤ p) (λ p. high ≤ p) (place_made before after ms)
place_run before None ms to low high further under below from sent = λ p q. omega arith
place_run None (Some y) ms to low high further under below from sent =
    elim (from (record { place = y.place; count = next_down y }) (refl, le_refl (next_down y))) [
      | inl q ↦ absurd q
      | inr above ↦ place_if low high y.place false further above below
    ]
place_run (Some x) (Some y) ms to low high further under below from sent =
    elim (from (record { place = y.place; count = next_down y }) (refl, le_refl (next_down y))) [
      | inl q ↦
          let anew = none_anew x (IsOfLater (Some x) low) to ms (λ m h. unspent x low m under h) sent in
          subst (IsRun ◌<◌ (λ p. low ≤ p) (λ p. high ≤ p)) (sym (kept_if (x.place == y.place) (counts_anew x ms) y.place (eq-eqb x.place y.place (sym q.0)) anew)) (λ p r. omega arith)
      | inr above ↦ place_if low high y.place ((x.place == y.place) && not (counts_anew x ms)) further above below
    ]

module _ (whole : WholeIsFresh) (short : ShortIsFresh) where
  pub stays : StaysInUse
  stays s solo [] h = h
  stays s solo (item ∷ items) h = stays s (solo_step s solo item).solo items ((fresh_step whole short s solo item).used h).in_use

  pub goes_onward : GoesOnward
  goes_onward s solo item = (fresh_step whole short s solo item).onward

  sends : (s : Setting) (solo : Solo) (items : List Item) → IsInUse solo
      → IsRun IsBefore (IsAhead next_down solo) (IsAhead next_down (solo_after s solo items)) (sent_marks s solo items)
  sends s solo [] h = λ m a. a
  sends s solo (item ∷ items) h =
      let d = solo_step s solo item in
      let f = (fresh_step whole short s solo item).used h in
      run_append IsBefore (IsAhead next_down solo) (IsAhead next_down d.solo) (IsAhead next_down (solo_after s d.solo items))
      (marks_of d.sent) (sent_marks s d.solo items) (rw append-nil at f.sent) (sends s d.solo items f.in_use)

  accepts : (s : Setting) (solo : Solo) (items : List Item) → IsInUse solo
      → IsRun IsBefore (IsAhead next_up solo) (IsAhead next_up (solo_after s solo items)) (accepted_marks s solo items)
  accepts s solo [] h = λ m a. a
  accepts s solo (item ∷ items) h =
      let d = solo_step s solo item in
      let f = (fresh_step whole short s solo item).used h in
      run_append IsBefore (IsAhead next_up solo) (IsAhead next_up d.solo) (IsAhead next_up (solo_after s d.solo items))
      (option_to_list d.accepted) (accepted_marks s d.solo items) f.accepted (accepts s d.solo items f.in_use)

  makes : (s : Setting) (solo : Solo) (items : List Item) → IsInUse solo
      → IsRun ◌<◌ (IsOpen solo) (IsOpen (solo_after s solo items)) (places_made s solo items)
  makes s solo [] h = λ p q. q
  makes s solo (item ∷ items) h =
      let d = solo_step s solo item in
      let own = fresh_step whole short s solo item in
      let f = own.used h in
      let from = run_onward IsBefore (IsAhead next_down solo) (IsAhead next_down d.solo) (marks_of d.sent ++ []) f.sent in
      run_append ◌<◌ (IsOpen solo) (IsOpen d.solo) (IsOpen (solo_after s d.solo items))
      (place_made solo.context d.solo.context (marks_of d.sent)) (places_made s d.solo items)
      (place_run solo.context d.solo.context (marks_of d.sent) (IsAhead next_down d.solo) (next_place solo.phase solo.next_vector) (next_place d.solo.phase d.solo.next_vector) own.onward h.0 f.in_use.0
      (λ m q. from m (inl q)) (rw append-nil at f.sent))
      (makes s d.solo items f.in_use)

  pub sends_ahead : SendsAhead
  sends_ahead s solo items h =
      run_all IsBefore (IsAhead next_down solo) (IsAhead next_down (solo_after s solo items)) (sent_marks s solo items)
      (sends s solo items h)

  pub sends_once : SendsOnce
  sends_once s solo items h =
      run_pairs IsBefore (IsAhead next_down solo) (IsAhead next_down (solo_after s solo items)) (sent_marks s solo items)
      (sends s solo items h)

  pub accepts_ahead : AcceptsAhead
  accepts_ahead s solo items h =
      run_all IsBefore (IsAhead next_up solo) (IsAhead next_up (solo_after s solo items)) (accepted_marks s solo items)
      (accepts s solo items h)

  pub accepts_once : AcceptsOnce
  accepts_once s solo items h =
      run_pairs IsBefore (IsAhead next_up solo) (IsAhead next_up (solo_after s solo items)) (accepted_marks s solo items)
      (accepts s solo items h)

  pub makes_ahead : MakesAhead
  makes_ahead s solo items h =
      run_all ◌<◌ (IsOpen solo) (IsOpen (solo_after s solo items)) (places_made s solo items) (makes s solo items h)

  pub makes_once : MakesOnce
  makes_once s solo items h =
      run_pairs ◌<◌ (IsOpen solo) (IsOpen (solo_after s solo items)) (places_made s solo items) (makes s solo items h)
