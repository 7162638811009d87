-- Vectors: which step spends one, and how many a run spends.
use Rattle.std.proofs.Common.{◌≡◌, ◌⊎◌, ◌≤◌, ℕ, ◌+◌, Bool, true, false, inl, inr, List, [], ◌∷◌, length, Option, Some, refl, sym, ◌∙◌, ap, subst, cond, true≢false, zero, suc, arith, le_refl}
use Rattle.std.specs.Prelude.{◌&&◌, ◌||◌, slice_get}
use Rattle.identity_slots.specs.declared.profile.Vector.{Vector}
use Rattle.mme_types.specs.Events.{Item}
use Rattle.mme_signalling.specs.Hearing.{heard}
use Rattle.emm_state.specs.declared.setting.Setting.{Setting}
use Rattle.emm_state.specs.declared.solo.Phase.{Phase}
use Rattle.emm_state.specs.declared.solo.Phase.TheVariants.{Authenticating}
use Rattle.emm_state.specs.declared.solo.Solo.{Solo}
use Rattle.emm_machine.specs.Attaching as attaching
use Rattle.emm_machine.specs.Steps.{solo_step}
use Rattle.laws_subscriber.specs.Proof.{uplink_nas}
use Rattle.laws_subscriber.specs.Unproved.{begins_attach}
use Rattle.laws_mme.specs.Attaches.{attach_leaves}
use Rattle.laws_mme.specs.Challenges.{AttachSpendsOne, VectorsAreSpentSo, VectorsOverRuns, fails_to_synchronise, may_challenge, tells_synch_failure}
use Rattle.laws_mme.specs.Holds.{KeepsState, state_holds}
use Rattle.laws_mme.specs.Premises.{FailsToSynchronise, MayChallenge}

-- ---- what a challenge is taken for

asked_attach : (solo : Solo) (item : Item) → begins_attach item ≡ true → may_challenge solo item ≡ true
asked_attach solo item is = ap (λ (b : Bool). b || fails_to_synchronise solo.phase (uplink_nas item)) is

-- (the phase is that of a challenge, and the NAS message tells it)
told_failure : (phase : Phase) (carried : Option (List ℕ)) (nas : List ℕ) → phase ≡ Authenticating → carried ≡ Some nas
    → attaching.is_plain nas ≡ true → tells_synch_failure (heard nas) ≡ true → fails_to_synchronise phase carried ≡ true
told_failure phase carried nas challenged is plain told =
    ap (λ (p : Phase). fails_to_synchronise p carried) challenged ∙ ap (λ (o : Option (List ℕ)). fails_to_synchronise Authenticating o) is
    ∙ ap (λ (b : Bool). b && tells_synch_failure (heard nas)) plain ∙ told

or_true : (b c : Bool) → c ≡ true → (b || c) ≡ true
or_true true c is = refl
or_true false c is = is

asked_failure : (solo : Solo) (item : Item) → FailsToSynchronise solo item → may_challenge solo item ≡ true
asked_failure solo item f =
    or_true (begins_attach item) _
    (told_failure solo.phase (uplink_nas item) f.nas f.challenged f.carried f.plain (ap tells_synch_failure f.told))

asked_so : (solo : Solo) (item : Item) (x : Solo) → MayChallenge solo item x → may_challenge solo item ≡ true
asked_so solo item x may = elim may.1 [
  | inl asks ↦ asked_attach solo item asks.begins
  | inr fails ↦ asked_failure solo item fails.0
]

-- ---- at a step

-- a state that has spent one, or none
record HasSpent (s : Setting) (solo : Solo) (item : Item) (x : Solo) : Type 0 where
  asked : may_challenge solo item ≡ true
  vector : Vector
  there : slice_get s.vectors solo.next_vector ≡ Some vector
  next : x.next_vector ≡ solo.next_vector + 1

abbrev SpentAtMost : Setting → Solo → Item → Solo → Type 0
SpentAtMost s solo item x = (x.next_vector ≡ solo.next_vector) ⊎ HasSpent s solo item x

-- (the next vector's place is the same)
same_next : (s : Setting) (solo : Solo) (item : Item) (x y : Solo) → y.next_vector ≡ x.next_vector → SpentAtMost s solo item x
    → SpentAtMost s solo item y
same_next s solo item x y same h = elim h [
  | inl none ↦ inl (same ∙ none)
  | inr one ↦ inr (record { asked = one.asked; vector = one.vector; there = one.there; next = same ∙ one.next })
]

spends : (s : Setting) (solo : Solo) (item : Item) → KeepsState s solo item (SpentAtMost s solo item)
spends s solo item = record {
  connection = λ c x may h. same_next s solo item x _ refl h;
  counted = λ n x h. same_next s solo item x _ refl h;
  context = λ c x h. same_next s solo item x _ refl h;
  counts = λ procedure reachable x h. same_next s solo item x _ refl h;
  wiped = λ x h. same_next s solo item x _ refl h;
  ended = λ x h. same_next s solo item x _ refl h;
  registers = λ reachable x h. same_next s solo item x _ refl h;
  updates = λ tai initial x from h. same_next s solo item x _ refl h;
  moves_on = λ phase x under h. same_next s solo item x _ refl h;
  tmsi = λ x on h. same_next s solo item x _ refl h;
  bears = λ bearer x may h. same_next s solo item x _ refl h;
  asks = λ combined capability tai x asked from phase repeat h. same_next s solo item x _ refl h;
  challenges = λ v procedure x there may h. inr (record {
    asked = asked_so solo item x may;
    vector = v;
    there = subst (λ (n : ℕ). slice_get s.vectors n ≡ Some v) may.0 there;
    next = ap (λ (n : ℕ). n + 1) may.0;
  });
  secures = λ c phase h. same_next s solo item solo _ refl h;
  awaits = λ header nas procedure c x may told h. same_next s solo item x _ refl h;
  pages = λ stations procedure is may h. same_next s solo item solo _ refl h;
  strikes = λ station x is h. same_next s solo item x _ refl h;
}

pub vectors_are_spent_so : VectorsAreSpentSo
vectors_are_spent_so s solo item =
    elim (state_holds s solo item (spends s solo item) (inl refl)) [
      | inl none ↦ inl none
      | inr one ↦ inr (record { asked = one.asked; vector = one.vector; there = one.there; next = one.next })
    ]

pub attach_spends_one : AttachSpendsOne
attach_spends_one s solo item begins registered = elim (attach_leaves s solo item begins) [
  | inl forgotten ↦ absurd (registered forgotten.phase)
  | inr taken ↦ record {
    asked = asked_attach solo item begins;
    vector = taken.challenged.vector;
    there = taken.challenged.there;
    next = taken.challenged.next;
  }
]

-- ---- over a run

-- (one more was asked for, or none)
counted_one : (b : Bool) (n now after rest : ℕ) → (now ≡ n) ⊎ ((now ≡ n + 1) × (b ≡ true)) → after ≤ now + rest
    → after ≤ n + ((cond b 1 0) + rest)
counted_one true n now after rest is h = elim is [
  | inl none ↦ omega (arith, none, h)
  | inr one ↦ let next = one.0 in omega (arith, next, h)
]
counted_one false n now after rest is h = elim is [
  | inl none ↦ omega (arith, none, h)
  | inr one ↦ absurd (true≢false (sym one.1))
]

spent_by : (s : Setting) (solo : Solo) (item : Item)
    → ((solo_step s solo item).solo.next_vector ≡ solo.next_vector)
    ⊎ (((solo_step s solo item).solo.next_vector ≡ solo.next_vector + 1) × (may_challenge solo item ≡ true))
spent_by s solo item = elim (vectors_are_spent_so s solo item) [
  | inl none ↦ inl none
  | inr one ↦ inr (one.next, one.asked)
]

goes_on : (n now after : ℕ) {b : Bool} → (now ≡ n) ⊎ ((now ≡ n + 1) × (b ≡ true)) → now ≤ after → n ≤ after
goes_on n now after is h = elim is [
  | inl none ↦ omega (arith, none, h)
  | inr one ↦ let next = one.0 in omega (arith, next, h)
]

within : {A : Type 0} (xs : List A) (n : ℕ) (x : A) → slice_get xs n ≡ Some x → n + 1 ≤ length xs
within [] n x at = absurd (cc at)
within (y ∷ ys) zero x at = omega arith
within (y ∷ ys) (suc n) x at = let less = within ys n x at in omega (arith, less)

still_there : (s : Setting) (solo : Solo) (item : Item) → solo.next_vector ≤ length s.vectors
    → (solo_step s solo item).solo.next_vector ≤ length s.vectors
still_there s solo item h = elim (vectors_are_spent_so s solo item) [
  | inl none ↦ subst (λ (n : ℕ). n ≤ length s.vectors) (sym none) h
  | inr one ↦ subst (λ (n : ℕ). n ≤ length s.vectors) (sym one.next) (within s.vectors solo.next_vector one.vector one.there)
]

pub vectors_over_runs : VectorsOverRuns
vectors_over_runs s solo [] = record { never_back = le_refl solo.next_vector; asked = omega arith; there = λ h. h }
vectors_over_runs s solo (item ∷ items) =
    let rest = vectors_over_runs s (solo_step s solo item).solo items in
    let one = spent_by s solo item in
    record {
      never_back = goes_on solo.next_vector (solo_step s solo item).solo.next_vector _ one rest.never_back;
      asked = counted_one (may_challenge solo item) solo.next_vector (solo_step s solo item).solo.next_vector _ _ one rest.asked;
      there = λ h. rest.there (still_there s solo item h);
    }
