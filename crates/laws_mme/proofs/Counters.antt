-- Counters go round, and each M-TMSI is that of its slot's counter.
use Rattle.std.proofs.Common.{◌≡◌, ◌⊎◌, ◌<◌, ℕ, zero, suc, ◌+◌, ◌%◌, true, false, cond, inl, inr, List, [], ◌∷◌, Some, None, refl, sym, ◌∙◌, ap, subst, arith}
use Rattle.std.specs.Prelude.{◌==◌}
use Rattle.std.proofs.lemmas.Bool.Decides.{nat_tests}
use Rattle.std.proofs.lemmas.Option.{none-some, same_Some}
use Rattle.identity_slots.specs.Ids.{counters, id_of_slot, next_counter, slot_in}
use Rattle.mme_types.specs.Events.{Item}
use Rattle.emm_state.specs.declared.setting.Setting.{Setting}
use Rattle.emm_state.specs.declared.solo.Solo.{Solo}
use Rattle.emm_machine.specs.Steps.{solo_after, solo_step}
use Rattle.emm_machine.specs.Words.{fresh_solo}
use Rattle.laws_mme.specs.Holds.{KeepsState, state_holds}
use Rattle.laws_mme.specs.Again.{IdsAreNew, IdsComeAgain, TmsisAreCounted, counter_after, tmsis_given}
use Rattle.laws_mme.specs.Tmsis.{TmsiIsGiven, TmsiStays, TmsisAreOwn, TmsisComeSo}

-- ---- counters

counter_after_so : (n counter : ℕ) → counter < counters → counter_after n counter ≡ (counter + n) % 65536
counter_after_so zero counter low = omega (arith, low)
counter_after_so (suc n) counter low = let before = counter_after_so n counter low in omega (arith, before)

pub ids_are_new : IdsAreNew
ids_are_new slot counter n m low less few same =
    let one = counter_after_so n counter low in
    let other = counter_after_so m counter low in
    absurd (omega (arith, low, less, few, same, one, other))

pub ids_come_again : IdsComeAgain
ids_come_again slot counter n low =
    let one = counter_after_so n counter low in
    let other = counter_after_so (n + 65536) counter low in
    omega (arith, one, other)

-- ---- at a step

abbrev Comes : Setting → Solo → Solo → Type 0
Comes s solo x = TmsiStays solo x ⊎ TmsiIsGiven s solo x

-- (counter and M-TMSI are the same)
same_comes : (s : Setting) (solo x y : Solo) → y.tmsis ≡ x.tmsis → y.tmsi ≡ x.tmsi → Comes s solo x → Comes s solo y
same_comes s solo x y counter tmsi h = elim h [
  | inl stays ↦ inl (record {
    counter = counter ∙ stays.counter;
    tmsi = elim stays.tmsi [
      | inl none ↦ inl (tmsi ∙ none)
      | inr same ↦ inr (tmsi ∙ same)
    ];
  })
  | inr given ↦ inr (record {
    counter = counter ∙ given.counter;
    tmsi = elim given.tmsi [
      | inl none ↦ inl (tmsi ∙ none)
      | inr next ↦ inr (tmsi ∙ next)
    ];
  })
]

-- it is gone
gone_comes : (s : Setting) (solo x y : Solo) → y.tmsis ≡ x.tmsis → y.tmsi ≡ None → Comes s solo x → Comes s solo y
gone_comes s solo x y counter none h = elim h [
  | inl stays ↦ inl (record { counter = counter ∙ stays.counter; tmsi = inl none })
  | inr given ↦ inr (record { counter = counter ∙ given.counter; tmsi = inl none })
]

comes : (s : Setting) (solo : Solo) (item : Item) → KeepsState s solo item (Comes s solo)
comes s solo item = record {
  connection = λ c x may h. same_comes s solo x _ refl refl h;
  counted = λ n x h. same_comes s solo x _ refl refl h;
  context = λ c x h. same_comes s solo x _ refl refl h;
  counts = λ procedure reachable x h. same_comes s solo x _ refl refl h;
  wiped = λ x h. gone_comes s solo x _ refl refl h;
  ended = λ x h. same_comes s solo x _ refl refl h;
  registers = λ reachable x h. same_comes s solo x _ refl refl h;
  updates = λ tai initial x from h. same_comes s solo x _ refl refl h;
  moves_on = λ phase x under h. same_comes s solo x _ refl refl h;
  tmsi = λ x on h. inr (record {
    counter = ap next_counter on.tmsis;
    tmsi = inr (ap (λ (n : ℕ). Some (id_of_slot s.slot (next_counter n))) on.tmsis);
  });
  bears = λ bearer x may h. same_comes s solo x _ refl refl h;
  asks = λ combined capability tai x asked from phase repeat h. same_comes s solo x _ refl refl h;
  challenges = λ v procedure x there may h. same_comes s solo x _ refl refl h;
  secures = λ c phase h. same_comes s solo solo _ refl refl h;
  awaits = λ header nas procedure c x may told h. same_comes s solo x _ refl refl h;
  pages = λ stations procedure is may h. same_comes s solo solo _ refl refl h;
  strikes = λ station x is h. same_comes s solo x _ refl refl h;
}

pub tmsis_come_so : TmsisComeSo
tmsis_come_so s solo item = state_holds s solo item (comes s solo item) (inl (record { counter = refl; tmsi = inr refl }))

-- ---- the M-TMSI is that of the counter

-- a counter that hasn't gone round yet, and the M-TMSI that it gives, if there is one
pub record IsOfCounter (slot : ℕ) (x : Solo) : Type 0 where
  pub low : x.tmsis < counters
  pub tmsi : (x.tmsi ≡ None) ⊎ (x.tmsi ≡ Some (id_of_slot slot x.tmsis))

next_low : (n : ℕ) → next_counter n < counters
next_low n = omega arith

pub step_of_counter : (s : Setting) (solo : Solo) (item : Item) → IsOfCounter s.slot solo
    → IsOfCounter s.slot (solo_step s solo item).solo
step_of_counter s solo item h = elim (tmsis_come_so s solo item) [
  | inl stays ↦ record {
    low = subst (λ (n : ℕ). n < counters) (sym stays.counter) h.low;
    tmsi = elim stays.tmsi [
      | inl none ↦ inl none
      | inr same ↦ elim h.tmsi [
        | inl none ↦ inl (same ∙ none)
        | inr is ↦ inr (same ∙ is ∙ ap (λ (n : ℕ). Some (id_of_slot s.slot n)) (sym stays.counter))
      ]
    ];
  }
  | inr given ↦ record {
    low = subst (λ (n : ℕ). n < counters) (sym given.counter) (next_low solo.tmsis);
    tmsi = elim given.tmsi [
      | inl none ↦ inl none
      | inr next ↦ inr (next ∙ ap (λ (n : ℕ). Some (id_of_slot s.slot n)) (sym given.counter))
    ];
  }
]

run_of_counter : (s : Setting) (solo : Solo) (items : List Item) → IsOfCounter s.slot solo → IsOfCounter s.slot (solo_after s solo items)
run_of_counter s solo [] h = h
run_of_counter s solo (item ∷ items) h = run_of_counter s (solo_step s solo item).solo items (step_of_counter s solo item h)

pub fresh_of_counter : (slot : ℕ) → IsOfCounter slot fresh_solo
fresh_of_counter slot = record { low = omega arith; tmsi = inl refl }

pub of_slot : (slot : ℕ) (x : Solo) (tmsi : ℕ) → IsOfCounter slot x → x.tmsi ≡ Some tmsi → tmsi ≡ id_of_slot slot x.tmsis
of_slot slot x tmsi h is = elim h.tmsi [
  | inl none ↦ absurd (none-some tmsi (sym none ∙ is))
  | inr there ↦ same_Some tmsi (id_of_slot slot x.tmsis) (sym is ∙ there)
]

pub own_slot : (slot : ℕ) (x : Solo) (tmsi : ℕ) → IsOfCounter slot x → x.tmsi ≡ Some tmsi → slot_in tmsi ≡ slot
own_slot slot x tmsi h is =
    let made = of_slot slot x tmsi h is in
    let low = h.low in
    omega (arith, made, low)

pub tmsis_are_own : TmsisAreOwn
tmsis_are_own s items tmsi is =
    own_slot s.slot (solo_after s fresh_solo items) tmsi (run_of_counter s fresh_solo items (fresh_of_counter s.slot)) is

-- ---- how many were given

-- (one was given, or none)
given_one : (n now given : ℕ) → n < counters → (now ≡ n) ⊎ (now ≡ next_counter n)
    → (now + given) % 65536 ≡ (n + (cond (now == n) 0 1 + given)) % 65536
given_one n now given low is = elim is [
  | inl none ↦
      let same : (now == n) ≡ true = grind (arith, nat_tests, none) in
      rw same (omega (arith, none))
  | inr one ↦
      let other : (now == n) ≡ false = grind (arith, nat_tests, one, low) in
      rw other (omega (arith, one, low))
]

moved_by : (s : Setting) (solo : Solo) (item : Item)
    → ((solo_step s solo item).solo.tmsis ≡ solo.tmsis) ⊎ ((solo_step s solo item).solo.tmsis ≡ next_counter solo.tmsis)
moved_by s solo item = elim (tmsis_come_so s solo item) [
  | inl stays ↦ inl stays.counter
  | inr given ↦ inr given.counter
]

given_so : (s : Setting) (solo : Solo) (items : List Item) → IsOfCounter s.slot solo
    → (solo_after s solo items).tmsis ≡ (solo.tmsis + tmsis_given s solo items) % 65536
given_so s solo [] h = let low = h.low in omega (arith, low)
given_so s solo (item ∷ items) h =
    given_so s (solo_step s solo item).solo items (step_of_counter s solo item h)
    ∙ given_one solo.tmsis (solo_step s solo item).solo.tmsis _ h.low (moved_by s solo item)

pub tmsis_are_counted : TmsisAreCounted
tmsis_are_counted s items tmsi is =
    let after = solo_after s fresh_solo items in
    let given = tmsis_given s fresh_solo items in
    let counter : after.tmsis ≡ counter_after given 0 =
    given_so s fresh_solo items (fresh_of_counter s.slot) ∙ sym (counter_after_so given 0 (omega arith)) in
    of_slot s.slot after tmsi (run_of_counter s fresh_solo items (fresh_of_counter s.slot)) is ∙ ap (id_of_slot s.slot) counter
