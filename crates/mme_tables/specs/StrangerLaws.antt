-- What follows of the definitions, for those who call: what all send at a tick is what those send who are due.
use Rattle.std.proofs.Common.{◌≡◌, ℕ, ◌<◌, List, [], ◌∷◌, ◌++◌, Bool, true, false, refl, sym, ◌∙◌, ap, arith}
use Rattle.std.specs.Prelude.{◌==◌, cond, Some}
use Rattle.std.specs.Option.{option_map_or}
use Rattle.std.proofs.lemmas.Bool.Decides.{nat_tests}
use Rattle.sorted_list.specs.Ordered.{AllOver, Every, Rising, at}
use Rattle.stranger_machine.specs.declared.table.Known.{Known}
use Rattle.stranger_machine.specs.Table.{known_id}
use Rattle.stranger_machine.specs.Ticks.{is_ending}
use Rattle.mme_tables.specs.Waiting.{due_ids}

-- what each gives
abbrev pub all_known_give : {X : Type 0} → (Known → List X) → List Known → List X
all_known_give g [] = []
all_known_give g (k ∷ ks) = g k ++ all_known_give g ks

-- and what those of some ids give
abbrev pub some_known_give : {X : Type 0} → (Known → List X) → List ℕ → List Known → List X
some_known_give g [] ks = []
some_known_give g (id ∷ ids) ks = option_map_or g (at known_id id ks) [] ++ some_known_give g ids ks

-- one before all ids gives nothing
give_past : {X : Type 0} (g : Known → List X) (k : Known) (ids : List ℕ) (ks : List Known) → Every (λ id. k.id < id) ids
    → some_known_give g ids (k ∷ ks) ≡ some_known_give g ids ks
give_past g k [] ks h = refl
give_past g k (id ∷ ids) ks h =
    let lt : k.id < id = h.0 in
    let other : (k.id == id) ≡ false = grind (arith, nat_tests) in
    let there : at known_id id (k ∷ ks) ≡ at known_id id ks = rw other refl in
    ap (λ o. option_map_or g o [] ++ some_known_give g ids (k ∷ ks)) there
    ∙ ap (λ xs. option_map_or g (at known_id id ks) [] ++ xs) (give_past g k ids ks h.1)

due_over : (n : ℕ) (ks : List Known) → AllOver known_id n ks → Every (λ id. n < id) (due_ids ks)
due_over n [] h = tt
due_over n (k ∷ ks) h =
    let rest = due_over n ks h.1 in
    elim (is_ending k.stranger) as (λ b. Every (λ id. n < id) (cond b (k.id ∷ due_ids ks) (due_ids ks)))
    [ true ↦ (h.0, rest) | false ↦ rest ]

give_by : {X : Type 0} (g : Known → List X) (k : Known) (ks : List Known) (b : Bool) → (b ≡ false → g k ≡ [])
    → some_known_give g (due_ids ks) (k ∷ ks) ≡ all_known_give g ks
    → some_known_give g (cond b (k.id ∷ due_ids ks) (due_ids ks)) (k ∷ ks) ≡ g k ++ all_known_give g ks
give_by g k ks true quiet rest =
    let same : (k.id == k.id) ≡ true = grind (arith, nat_tests) in
    let there : at known_id k.id (k ∷ ks) ≡ Some k = rw same refl in
    ap (λ o. option_map_or g o [] ++ some_known_give g (due_ids ks) (k ∷ ks)) there ∙ ap (λ xs. g k ++ xs) rest
give_by g k ks false quiet rest = rest ∙ ap (λ xs. xs ++ all_known_give g ks) (sym (quiet refl))

-- where those who aren't due give nothing
pub all_give_as_ending : {X : Type 0} (g : Known → List X) (ks : List Known) → Rising known_id ks
    → ((k : Known) → is_ending k.stranger ≡ false → g k ≡ [])
    → some_known_give g (due_ids ks) ks ≡ all_known_give g ks
all_give_as_ending g [] h quiet = refl
all_give_as_ending g (k ∷ ks) h quiet =
    give_by g k ks (is_ending k.stranger) (quiet k)
    (give_past g k (due_ids ks) ks (due_over k.id ks h.0) ∙ all_give_as_ending g ks h.1 quiet)
