-- The stranger that is saved next.
use Rattle.std.proofs.Common.{◌≡◌, ℕ, ◌+◌, ◌<◌, List, [], ◌∷◌, length, Bool, true, false, cond, Option, Some, None, refl, sym, ◌∙◌, ap, subst, arith}
use Rattle.std.specs.Prelude.{◌==◌, nat_lt, option_map}
use Rattle.std.proofs.lemmas.Bool.Decides.{nat_tests}
use Rattle.std.proofs.lemmas.Option.{same_Some}
use Rattle.sorted_list.specs.Ordered.{AllOver, Rising, at}
use Rattle.sorted_list.specs.Sorted.{lowest_from}
use Rattle.per_bits.specs.Formats.{number}
use Rattle.per_bits.specs.Spelling.{SpellsWhole}
use Rattle.stranger_machine.specs.declared.state.Stranger.{Stranger}
use Rattle.stranger_machine.specs.declared.table.Known.{Known}
use Rattle.stranger_machine.specs.Table.{known_id, stranger_at}
use Rattle.mme_core.specs.World.{World}
use Rattle.mme_snapshot.specs.declared.part.Part.{Part}
use Rattle.mme_snapshot.specs.declared.part.Part.TheVariants as part
use Rattle.mme_snapshot.specs.Saved.{IsNextStranger, IsStranger, subscriber_from}

-- ---- the lowest from an id on is the one at its id

over_by : (n least : ℕ) (y k : Known) (ys : List Known) (b : Bool) → n < y.id → (lowest_from known_id least ys ≡ Some k → n < k.id)
    → cond b (lowest_from known_id least ys) (Some y) ≡ Some k → n < k.id
over_by n least y k ys true lt more h = more h
over_by n least y k ys false lt more h = let same : y.id ≡ k.id = ap known_id (same_Some y k h) in omega (arith, lt, same)

over : (n least : ℕ) (ks : List Known) (k : Known) → AllOver known_id n ks → lowest_from known_id least ks ≡ Some k → n < k.id
over n least [] k o h = absurd (cc h)
over n least (y ∷ ys) k o h = over_by n least y k ys (nat_lt y.id least) o.0 (over n least ys k o.1) h

found_by : (least : ℕ) (y k : Known) (ys : List Known) (b : Bool) → AllOver known_id y.id ys
    → (lowest_from known_id least ys ≡ Some k → at known_id k.id ys ≡ Some k)
    → cond b (lowest_from known_id least ys) (Some y) ≡ Some k → at known_id k.id (y ∷ ys) ≡ Some k
found_by least y k ys true o more h =
    let lt : y.id < k.id = over y.id least ys k o h in
    let other : (y.id == k.id) ≡ false = grind (arith, nat_tests) in
    rw other (more h)
found_by least y k ys false o more h =
    let same : y.id ≡ k.id = ap known_id (same_Some y k h) in
    let here : (y.id == k.id) ≡ true = grind (arith, nat_tests) in
    rw here h

lowest_at : (least : ℕ) (ks : List Known) (k : Known) → Rising known_id ks → lowest_from known_id least ks ≡ Some k
    → at known_id k.id ks ≡ Some k
lowest_at least [] k rising h = absurd (cc h)
lowest_at least (y ∷ ys) k rising h = found_by least y k ys (nat_lt y.id least) rising.0 (lowest_at least ys k rising.1) h

-- ---- the part

abbrev known : ℕ → Stranger → Known
known id s = record { id = id; stranger = s }

module _ (w : World) (least : ℕ) (os : List ℕ) (next : Option Part) where
  next_by : (o : Option Known) (id : ℕ) (s : Stranger) → Rising known_id w.strangers → lowest_from known_id least w.strangers ≡ o
      → Some id ≡ option_map known_id o → stranger_at id w.strangers ≡ Some s → IsStranger (known id s) os
      → next ≡ Some (part.Stranger (id + 1)) → IsNextStranger w o os next
  next_by None id s rising is found there one after = absurd (cc found)
  next_by (Some k) id s rising is found there one after =
      let id_is : id ≡ k.id = same_Some id k.id found in
      let own : stranger_at k.id w.strangers ≡ Some k.stranger =
      ap (λ (o : Option Known). option_map (λ (j : Known). j.stranger) o) (lowest_at least w.strangers k rising is) in
      let stranger_is : s ≡ k.stranger =
      same_Some s k.stranger (sym there ∙ ap (λ n. stranger_at n w.strangers) id_is ∙ own) in
      let same : known id s ≡ k = ap (λ n. known n s) id_is ∙ ap (known k.id) stranger_is in
      (subst (λ (j : Known). IsStranger j os) same one, after ∙ ap (λ n. Some (part.Stranger (n + 1))) id_is)

  pub next_stranger : (id : ℕ) (s : Stranger) → Rising known_id w.strangers
      → Some id ≡ option_map known_id (lowest_from known_id least w.strangers) → stranger_at id w.strangers ≡ Some s
      → IsStranger (record { id = id; stranger = s }) os → next ≡ Some (part.Stranger (id + 1))
      → IsNextStranger w (lowest_from known_id least w.strangers) os next
  next_stranger id s rising found there one after =
      next_by (lowest_from known_id least w.strangers) id s rising refl found there one after

  none_by : (o : Option Known) → None ≡ option_map known_id o → SpellsWhole (number 0 32768) (length w.subscribers) os
      → next ≡ subscriber_from w 0 → IsNextStranger w o os next
  none_by None none counted after = (counted, after)
  none_by (Some k) none counted after = absurd (cc none)

  pub no_stranger : None ≡ option_map known_id (lowest_from known_id least w.strangers)
      → SpellsWhole (number 0 32768) (length w.subscribers) os → next ≡ subscriber_from w 0
      → IsNextStranger w (lowest_from known_id least w.strangers) os next
  no_stranger none counted after = none_by (lowest_from known_id least w.strangers) none counted after
