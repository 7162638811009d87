-- What stands under each key where a place was put under one.
use Rattle.std.proofs.Common.{◌≡◌, ℕ, List, [], ◌∷◌, refl, ◌∙◌, ap, arith}
use Rattle.std.specs.Prelude.{◌==◌, Bool, true, false, cond, if◌then◌else◌, Some, None, option_map}
use Rattle.std.proofs.lemmas.Bool.Decides.{nat_tests}
use Rattle.sorted_list.specs.Ordered.{at, without}
use Rattle.sorted_list.specs.Indexed.{at-add}
use Rattle.sim_crowd.specs.declared.index.Entry.{Entry}
use Rattle.sim_crowd.specs.Index.{entry_key, place_under, put_under}

other_by : (j k : ℕ) (e : Entry) (es : List Entry) (b : Bool) → (e.key == j) ≡ b → (j == k) ≡ false
    → at entry_key k (without entry_key j es) ≡ at entry_key k es
    → at entry_key k (cond b es (e ∷ without entry_key j es)) ≡ cond (e.key == k) (Some e) (at entry_key k es)
other_by j k e es true h o ih = let other : (e.key == k) ≡ false = grind (arith, nat_tests) in rw other refl
other_by j k e es false h o ih = ap (λ r. cond (e.key == k) (Some e) r) ih

other : (j k : ℕ) (es : List Entry) → (j == k) ≡ false → at entry_key k (without entry_key j es) ≡ at entry_key k es
other j k [] o = refl
other j k (e ∷ es) o = other_by j k e es (e.key == j) refl o (other j k es o)

put_by : (k key place : ℕ) (es : List Entry) (b : Bool) → (key == k) ≡ b
    → option_map (λ (e : Entry). e.place)
    (cond b (Some (record { key = key; place = place })) (at entry_key k (without entry_key key es)))
    ≡ cond b (Some place) (place_under k es)
put_by k key place es true h = refl
put_by k key place es false h = ap (option_map (λ (e : Entry). e.place)) (other key k es h)

pub put_found : (k key place : ℕ) (es : List Entry) → at entry_key key (without entry_key key es) ≡ None
    → place_under k (put_under key place es) ≡ (if key == k then Some place else place_under k es)
put_found k key place es gone =
    ap (option_map (λ (e : Entry). e.place))
    (at-add entry_key k (record { key = key; place = place }) (without entry_key key es) gone entry_key)
    ∙ put_by k key place es (key == k) refl
