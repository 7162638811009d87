-- Where strangers wait after a tick.
use Rattle.std.proofs.Common.{◌≡◌, ◌⊎◌, ℕ, inl, inr, ◌-◌, List, [], ◌∷◌, Bool, true, false, cond, not, Option, Some, None, refl, sym, ◌∙◌, ap}
use Rattle.std.specs.Prelude.{◌==◌, ◌&&◌, ◌||◌, nat_lt, is_some, option_map}
use Rattle.std.specs.List.{list_any}
use Rattle.std.proofs.lemmas.Bool.{eqb-true}
use Rattle.mme_types.specs.declared.connection.Connection.{Connection}
use Rattle.sorted_list.specs.Ordered.{Rising, at}
use Rattle.stranger_machine.specs.declared.state.KeptEntry.{KeptEntry}
use Rattle.stranger_machine.specs.declared.state.Stranger.{Stranger}
use Rattle.stranger_machine.specs.declared.state.Stranger.TheVariants.{Waiting, Held}
use Rattle.stranger_machine.specs.declared.table.Known.{Known}
use Rattle.stranger_machine.specs.declared.turn.Notice.TheVariants.{Tick}
use Rattle.stranger_machine.specs.Laws.{noted_at}
use Rattle.stranger_machine.specs.Machine.{identity_ticks, notes, ticks, waits}
use Rattle.stranger_machine.specs.Table.{known_id, noted, stranger_at}
use Rattle.stranger_machine.specs.Ticks.{is_ending}
use Rattle.mme_tables.specs.Waiting.{due_ids, wait_at, wait_if}
use Rattle.mme_owners.specs.Placed.{place_at, place_if, still_there}

-- ---- those of some ids

none_by : (b : Bool) → cond {A = Option Connection} b None None ≡ None
none_by true = refl
none_by false = refl

none_still : (ids : List ℕ) (ks : List Known) (id : ℕ) → still_there ids ks id None ≡ None
none_still [] ks id = refl
none_still (i ∷ ids) ks id =
    ap (still_there ids ks id) (none_by ((i == id) && not (is_some (wait_at i ks)))) ∙ none_still ids ks id

-- one that still waits keeps its place
stays_by : (i id : ℕ) (ks : List Known) (o : Option Connection) (b : Bool) → (i == id) ≡ b → is_some (wait_at id ks) ≡ true
    → cond (b && not (is_some (wait_at i ks))) None o ≡ o
stays_by i id ks o true same some =
    ap (λ (s : Bool). cond (not s) None o) (ap (λ (n : ℕ). is_some (wait_at n ks)) (eqb-true i id same) ∙ some)
stays_by i id ks o false same some = refl

stays_still : (ids : List ℕ) (ks : List Known) (id : ℕ) (o : Option Connection) → is_some (wait_at id ks) ≡ true
    → still_there ids ks id o ≡ o
stays_still [] ks id o some = refl
stays_still (i ∷ ids) ks id o some =
    ap (still_there ids ks id) (stays_by i id ks o (i == id) refl some) ∙ stays_still ids ks id o some

-- one among them that doesn't has none
gone_by : (i id : ℕ) (ids : List ℕ) (ks : List Known) (o : Option Connection) (b : Bool) → (i == id) ≡ b
    → is_some (wait_at id ks) ≡ false → (b || list_any (λ j. j == id) ids) ≡ true
    → ((p : Option Connection) → list_any (λ j. j == id) ids ≡ true → still_there ids ks id p ≡ None)
    → still_there ids ks id (cond (b && not (is_some (wait_at i ks))) None o) ≡ None
gone_by i id ids ks o true same none has rest =
    ap (λ (s : Bool). still_there ids ks id (cond (not s) None o))
    (ap (λ (n : ℕ). is_some (wait_at n ks)) (eqb-true i id same) ∙ none) ∙ none_still ids ks id
gone_by i id ids ks o false same none has rest = rest o has

gone_still : (ids : List ℕ) (ks : List Known) (id : ℕ) (o : Option Connection) → is_some (wait_at id ks) ≡ false
    → list_any (λ i. i == id) ids ≡ true → still_there ids ks id o ≡ None
gone_still [] ks id o none has = absurd (cc has)
gone_still (i ∷ ids) ks id o none has =
    gone_by i id ids ks o (i == id) refl none has (λ p later. gone_still ids ks id p none later)

-- ---- who is due

due_by : (k : Known) (id : ℕ) (ks : List Known) (s : Stranger) (b c : Bool) → (k.id == id) ≡ b → is_ending k.stranger ≡ c
    → option_map (λ (x : Known). x.stranger) (cond b (Some k) (at known_id id ks)) ≡ Some s → is_ending s ≡ true
    → (stranger_at id ks ≡ Some s → list_any (λ i. i == id) (due_ids ks) ≡ true)
    → list_any (λ i. i == id) (cond c (k.id ∷ due_ids ks) (due_ids ks)) ≡ true
due_by k id ks s true true same ends is ending rest = ap (λ (b : Bool). b || list_any (λ i. i == id) (due_ids ks)) same
due_by k id ks s true false same ends is ending rest =
    let own : k.stranger ≡ s = cc is in absurd (cc (sym ends ∙ ap is_ending own ∙ ending))
due_by k id ks s false true same ends is ending rest =
    ap (λ (b : Bool). b || list_any (λ i. i == id) (due_ids ks)) same ∙ rest is
due_by k id ks s false false same ends is ending rest = rest is

due_has : (id : ℕ) (ks : List Known) (s : Stranger) → stranger_at id ks ≡ Some s → is_ending s ≡ true
    → list_any (λ i. i == id) (due_ids ks) ≡ true
due_has id [] s is ending = absurd (cc is)
due_has id (k ∷ ks) s is ending =
    due_by k id ks s (k.id == id) (is_ending k.stranger) refl refl is ending (λ later. due_has id ks s later ending)

-- ---- a tick of one that waits: it waits on where it was, or is closed, where its T3470 ends

abbrev IsTicked : KeptEntry → Bool → Option Stranger → Type 0
IsTicked k ending t = ((t ≡ None) × (ending ≡ true)) ⊎ ((left : ℕ) × (repeats : ℕ) × (t ≡ Some (Waiting k left repeats)))

ticked_by : (id : ℕ) (k : KeptEntry) (left repeats : ℕ) (b c : Bool) → nat_lt 1 left ≡ b → nat_lt 0 repeats ≡ c
    → IsTicked k (not b) (waits id k left repeats).stranger
unfolding waits
ticked_by id k left repeats true c more again = rw more (inr (left - 1, repeats, refl))
ticked_by id k left repeats false true more again = rw more (rw again (inr (identity_ticks, repeats - 1, refl)))
ticked_by id k left repeats false false more again = rw more (rw again (inl (refl, refl)))

ticked : (id : ℕ) (k : KeptEntry) (left repeats : ℕ)
    → IsTicked k (is_ending (Waiting k left repeats)) (notes id (Some (Waiting k left repeats)) Tick).stranger
unfolding notes ticks
ticked id k left repeats = ticked_by id k left repeats (nat_lt 1 left) (nat_lt 0 repeats) refl refl

module _ (id : ℕ) (ks ls : List Known) where
  waits_on : (k : KeptEntry) (left repeats l r : ℕ) → stranger_at id ks ≡ Some (Waiting k left repeats)
      → stranger_at id ls ≡ Some (Waiting k l r) → still_there (due_ids ks) ls id (place_at id ks) ≡ place_at id ls
  waits_on k left repeats l r was is =
      stays_still (due_ids ks) ls id (place_at id ks) (ap (λ (o : Option Stranger). is_some (wait_if o)) is)
      ∙ ap (place_if id) was ∙ sym (ap (place_if id) is)

  goes : (s : Stranger) → stranger_at id ks ≡ Some s → is_ending s ≡ true → stranger_at id ls ≡ None
      → still_there (due_ids ks) ls id (place_at id ks) ≡ place_at id ls
  goes s was ending is =
      gone_still (due_ids ks) ls id (place_at id ks) (ap (λ (o : Option Stranger). is_some (wait_if o)) is) (due_has id ks s was ending)
      ∙ sym (ap (place_if id) is)

  nowhere_still : (o p : Option Stranger) → stranger_at id ks ≡ o → stranger_at id ls ≡ p → place_if id o ≡ None
      → place_if id p ≡ None → still_there (due_ids ks) ls id (place_at id ks) ≡ place_at id ls
  nowhere_still o p was is none gone =
      ap (still_there (due_ids ks) ls id) (ap (place_if id) was ∙ none) ∙ none_still (due_ids ks) ls id
      ∙ sym (ap (place_if id) is ∙ gone)

  still_by : (o : Option Stranger) → stranger_at id ks ≡ o → stranger_at id ls ≡ (notes id o Tick).stranger
      → still_there (due_ids ks) ls id (place_at id ks) ≡ place_at id ls
  unfolding notes ticks
  still_by None was is = nowhere_still None None was is refl refl
  still_by (Some (Held slot)) was is = nowhere_still (Some (Held slot)) (Some (Held slot)) was is refl refl
  still_by (Some (Waiting k left repeats)) was is = elim (ticked id k left repeats) [
    | inl gone ↦ goes (Waiting k left repeats) was gone.1 (is ∙ gone.0)
    | inr on ↦ waits_on k left repeats on.0 on.1 was (is ∙ on.2)
  ]

-- those whose T3470 a tick ends, and who wait no longer, have no place; all others are where they were
pub still_noted : (id : ℕ) (ks : List Known) → Rising known_id ks
    → still_there (due_ids ks) (noted Tick ks) id (place_at id ks) ≡ place_at id (noted Tick ks)
still_noted id ks rising = still_by id ks (noted Tick ks) (stranger_at id ks) refl (noted_at id Tick ks rising)

-- ---- one more of the ids

pub left_then : (i other : ℕ) (ks : List Known) (o : Option Connection) → is_some (wait_at i ks) ≡ false
    → cond (i == other) None o ≡ cond ((i == other) && not (is_some (wait_at i ks))) None o
left_then i other ks o none = by (i == other)
  where
    by : (b : Bool) → cond b None o ≡ cond (b && not (is_some (wait_at i ks))) None o
    by true = ap (λ (s : Bool). cond (not s) None o) (sym none)
    by false = refl

pub stays_then : (i other : ℕ) (ks : List Known) (o : Option Connection) → is_some (wait_at i ks) ≡ true
    → o ≡ cond ((i == other) && not (is_some (wait_at i ks))) None o
stays_then i other ks o some = by (i == other)
  where
    by : (b : Bool) → o ≡ cond (b && not (is_some (wait_at i ks))) None o
    by true = ap (λ (s : Bool). cond (not s) None o) (sym some)
    by false = refl
