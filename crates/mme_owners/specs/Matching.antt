-- Two lists, one beside the other, some of whose elements are still to be changed: those whose flags are on.
use Rattle.std.proofs.Common.{◌≡◌, ℕ, zero, suc, ◌+◌, List, [], ◌∷◌, ◌++◌, length, refl, sym, ◌∙◌, ap, subst, arith, append_assoc}
use Rattle.std.specs.Prelude.{slice_get, Some, Bool, true, false, cond, map}
use Rattle.std.proofs.lemmas.List.{append-nil, length_push}
use Rattle.sorted_list.specs.Ordered.{Every}
use Rattle.mme_tables.specs.Whereabouts.{slots_where}
use Rattle.mme_owners.specs.Changed.{changed_at, cleared}

-- P holds of each two that stand side by side, by their flag
abbrev pub Match : {X Y : Type 0} → (Bool → X → Y → Type 0) → List Bool → List X → List Y → Type 0
Match P [] [] [] = Unit {0}
Match P [] [] (y ∷ ys) = ⊥
Match P [] (x ∷ xs) ys = ⊥
Match P (b ∷ bs) [] ys = ⊥
Match P (b ∷ bs) (x ∷ xs) [] = ⊥
Match P (b ∷ bs) (x ∷ xs) (y ∷ ys) = P b x y × Match P bs xs ys

-- both are changed at one place
pub match_changed : {X Y : Type 0} (P : Bool → X → Y → Type 0) (k : ℕ) (f : X → X) (g : Y → Y) (bs : List Bool) (xs : List X)
    (ys : List Y)
    → ((b : Bool) (x : X) (y : Y) → slice_get ys k ≡ Some y → P b x y → P false (f x) (g y))
    → Match P bs xs ys → Match P (changed_at k (λ _. false) bs) (changed_at k f xs) (changed_at k g ys)
match_changed P k f g [] [] [] h m = tt
match_changed P k f g [] [] (y ∷ ys) h m = absurd m
match_changed P k f g [] (x ∷ xs) ys h m = absurd m
match_changed P k f g (b ∷ bs) [] ys h m = absurd m
match_changed P k f g (b ∷ bs) (x ∷ xs) [] h m = absurd m
match_changed P zero f g (b ∷ bs) (x ∷ xs) (y ∷ ys) h m = (h b x y refl m.0, m.1)
match_changed P (suc k) f g (b ∷ bs) (x ∷ xs) (y ∷ ys) h m = (m.0, match_changed P k f g bs xs ys h m.1)

pub changed_by_none : {X : Type 0} (k : ℕ) (xs : List X) → changed_at k (λ x. x) xs ≡ xs
changed_by_none k [] = refl
changed_by_none zero (x ∷ xs) = refl
changed_by_none (suc k) (x ∷ xs) = ap (λ ys. x ∷ ys) (changed_by_none k xs)

-- ---- flags

abbrev pub AreOff : List Bool → Type 0
AreOff bs = Every (λ b. b ≡ false) bs

pub off_changed : (k : ℕ) (bs : List Bool) → AreOff bs → AreOff (changed_at k (λ _. false) bs)
off_changed k [] h = tt
off_changed zero (b ∷ bs) h = (refl, h.1)
off_changed (suc k) (b ∷ bs) h = (h.0, off_changed k bs h.1)

off_push : (bs : List Bool) → AreOff bs → AreOff (bs ++ false ∷ [])
off_push [] h = (refl, tt)
off_push (b ∷ bs) h = (h.0, off_push bs h.1)

changed_here : (n : ℕ) (old bs : List Bool) (b : Bool) → length old ≡ n
    → changed_at n (λ _. false) (old ++ b ∷ bs) ≡ old ++ false ∷ bs
changed_here zero [] bs b e = refl
changed_here zero (o ∷ old) bs b e = absurd (omega arith)
changed_here (suc n) [] bs b e = absurd (omega arith)
changed_here (suc n) (o ∷ old) bs b e = ap (λ cs. o ∷ cs) (changed_here n old bs b (omega arith))

cleared_by : (n : ℕ) (old bs : List Bool) (b : Bool) (ks : List ℕ) → length old ≡ n
    → AreOff (cleared ks ((old ++ false ∷ []) ++ bs)) → AreOff (cleared (cond b (n ∷ ks) ks) (old ++ b ∷ bs))
cleared_by n old bs true ks e h =
    subst (λ cs. AreOff (cleared ks cs)) (append_assoc old (false ∷ []) bs ∙ sym (changed_here n old bs true e)) h
cleared_by n old bs false ks e h = subst (λ cs. AreOff (cleared ks cs)) (append_assoc old (false ∷ []) bs) h

cleared_from : {X : Type 0} (p : X → Bool) (n : ℕ) (old : List Bool) (xs : List X) → length old ≡ n → AreOff old
    → AreOff (cleared (slots_where p n xs) (old ++ map p xs))
cleared_from p n old [] e h = subst AreOff (sym (append-nil old)) h
cleared_from p n old (x ∷ xs) e h =
    let next : length (old ++ false ∷ []) ≡ n + 1 = length_push old false ∙ ap (λ m. m + 1) e in
    cleared_by n old (map p xs) (p x) (slots_where p (n + 1) xs) e
    (cleared_from p (n + 1) (old ++ false ∷ []) xs next (off_push old h))

-- where all that pass a test are changed, nothing is left to be
pub cleared_all : {X : Type 0} (p : X → Bool) (xs : List X) → AreOff (cleared (slots_where p 0 xs) (map p xs))
cleared_all p xs = cleared_from p 0 [] xs refl tt
