-- Of the vectors of a state those are spent that it asks for no more.
use Rattle.std.proofs.Common.{◌≡◌, refl, ◌⊎◌, ◌↔◌, ap, sym, subst, ◌∙◌, true, ℕ, ◌+◌, ◌-◌, ◌≤◌, ◌^◌, List, [], ◌∷◌, ◌++◌, length, arith}
use Rattle.std.specs.Prelude.{min, max, nat_le, ◌||◌}
use Rattle.std.proofs.lemmas.Bool.{le-leb, leb-true}
use Rattle.std.proofs.lemmas.Bool.Decides.{Decides-or}
use Rattle.std.proofs.lemmas.List.{length-append}
use Rattle.identity_slots.specs.declared.profile.Vector.{Vector}
use Rattle.identity_slots.specs.Spending.{HasFrom, IsStocked, KeptView, spent_before}
use Rattle.emm_state.specs.declared.solo.Solo.{Solo}
use Rattle.emm_state.specs.Taking.{IsOnward, vectors_spent}
use Rattle.emm_machine.specs.Forgetting.{AreSpentFor}
use Rattle.emm_machine.specs.Given.{is_stocked}
use Rattle.emm_machine.specs.Words.{fresh_solo}
use Rattle.emm_machine.specs.SubscriberView.{SubscriberView}

least : (s n l : ℕ) → s ≡ min n l → s ≤ n
least s n l h = omega arith

-- none is spent that it may ask for
pub are_unspent : (vectors : List Vector) (solo : Solo) (v : KeptView) → AreSpentFor vectors solo v
    → HasFrom (vectors_spent solo) vectors v
are_unspent vectors solo v h =
    record { given = h.given; unspent = least v.spent (vectors_spent solo) (length vectors) h.spent }

further : (s m n l : ℕ) → s ≡ min m l → m ≤ n → max s (min n l) ≡ min n l
further s m n l h le = omega arith

-- a later state's are spent where those before its place are spent too
pub are_spent_on : (vectors : List Vector) (old new : Solo) (v : KeptView) → AreSpentFor vectors old v → IsOnward old new
    → AreSpentFor vectors new (spent_before (vectors_spent new) v)
are_spent_on vectors old new v h le = record {
  given = h.given;
  spent = ap (λ l. max v.spent (min (vectors_spent new) l)) (ap length h.given)
      ∙ further v.spent (vectors_spent old) (vectors_spent new) (length vectors) h.spent le;
}

-- ---- one vector more

one_more : (s n l : ℕ) → s ≡ min n l → max s (min n (l + 1)) ≡ min n (l + 1)
one_more s n l h = omega arith

-- it is spent only where the state is past its place
pub are_spent_given : (vectors : List Vector) (vector : Vector) (solo : Solo) (v : KeptView) → AreSpentFor vectors solo v
    → AreSpentFor (vectors ++ vector ∷ []) solo (spent_before (vectors_spent solo) (record v { given = v.given ++ vector ∷ [] }))
are_spent_given vectors vector solo v h =
    let more = ap (λ (vs : List Vector). vs ++ vector ∷ []) h.given in
    record {
      given = more;
      spent = ap (λ (vs : List Vector). max v.spent (min (vectors_spent solo) (length vs))) more
          ∙ ap (λ l. max v.spent (min (vectors_spent solo) l)) (length-append vectors (vector ∷ []))
          ∙ one_more v.spent (vectors_spent solo) (length vectors) h.spent
          ∙ ap (min (vectors_spent solo)) (sym (length-append vectors (vector ∷ [])));
    }

either : (m n s : ℕ) → s ≡ min n m → ((64 ≤ m - s) ⊎ (2 ^ 62 ≤ m)) ↔ ((nat_le 64 (m - n) || nat_le (2 ^ 62) m) ≡ true)
either m n s h =
    let same : m - s ≡ m - n = omega (arith, h) in
    let tests = Decides-or (nat_le 64 (m - n)) (nat_le (2 ^ 62) m) (leb-true 64 (m - n), le-leb 64 (m - n)) (leb-true (2 ^ 62) m, le-leb (2 ^ 62) m) in (
      λ stocked. tests.1 (subst (λ k. (64 ≤ k) ⊎ (2 ^ 62 ≤ m)) same stocked),
      λ yes. subst (λ k. (64 ≤ k) ⊎ (2 ^ 62 ≤ m)) (sym same) (tests.0 yes),
    )

-- no more are taken where the view says so
pub is_full : (v : KeptView) (w : SubscriberView) → AreSpentFor w.setting.vectors w.solo v → IsStocked v ↔ (is_stocked w ≡ true)
is_full v w h =
    subst (λ (vs : List Vector). ((64 ≤ length vs - v.spent) ⊎ (2 ^ 62 ≤ length vs)) ↔ (is_stocked w ≡ true)) (sym h.given)
    (either (length w.setting.vectors) (vectors_spent w.solo) v.spent h.spent)

-- ---- nobody is here

all_spent : (s l : ℕ) → s ≤ l → s ≡ min s l
all_spent s l le = omega (arith, le)

-- as many as are taken
pub are_spent_at_rest : (v : KeptView) → v.spent ≤ length v.given → AreSpentFor v.given (record fresh_solo { next_vector = v.spent }) v
are_spent_at_rest v le = record { given = refl; spent = all_spent v.spent (length v.given) le }
