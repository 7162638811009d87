-- What stays where nothing changes: what is there is put where it is.
use Rattle.std.proofs.Common.{◌≡◌, ℕ, ◌<◌, List, [], ◌∷◌, Bool, true, false, Option, Some, None, refl, ◌∙◌, ap, arith}
use Rattle.std.specs.Prelude.{◌==◌, cond, nat_lt, option_map}
use Rattle.std.proofs.lemmas.Bool.Decides.{nat_tests}
use Rattle.sorted_list.specs.Ordered.{Rising, at, put}
use Rattle.sorted_list.specs.Laws.{at_over, over_more, without_absent}
use Rattle.stranger_machine.specs.declared.state.Stranger.{Stranger}
use Rattle.stranger_machine.specs.declared.table.Known.{Known}
use Rattle.stranger_machine.specs.Table.{known_id, stranger_at, with_stranger}

put_past : (id : ℕ) (s : Stranger) (k : Known) (ks : List Known) (b : Bool) → nat_lt k.id id ≡ b → (k.id == id) ≡ false
    → Rising known_id (k ∷ ks)
    → stranger_at id ks ≡ Some s → put known_id (record { id = id; stranger = s }) ks ≡ ks
    → cond b (k ∷ put known_id (record { id = id; stranger = s }) ks) (record { id = id; stranger = s } ∷ k ∷ ks) ≡ k ∷ ks
put_past id s k ks true l e h is same = ap (λ zs. k ∷ zs) same
put_past id s k ks false l e h is same =
    let lt : id < k.id = grind (arith, nat_tests) in
    let none =
    ap (option_map (λ (x : Known). x.stranger)) (at_over known_id id ks (over_more known_id id k.id ks (omega arith) h.0)) in
    absurd cc

put_here : (id : ℕ) (s : Stranger) (k : Known) (ks : List Known) → k.id ≡ id → k.stranger ≡ s
    → put known_id (record { id = id; stranger = s }) (k ∷ ks) ≡ k ∷ ks
put_here id s k ks same own =
    let here : k ≡ record { id = id; stranger = s } =
    ap (λ n. record { id = n; stranger = k.stranger }) same ∙ ap (λ x. record { id = id; stranger = x }) own in
    grind (arith, nat_tests)

put_by : (id : ℕ) (s : Stranger) (k : Known) (ks : List Known) (b : Bool) → (k.id == id) ≡ b → Rising known_id (k ∷ ks)
    → option_map (λ (x : Known). x.stranger) (cond b (Some k) (at known_id id ks)) ≡ Some s
    → (stranger_at id ks ≡ Some s → put known_id (record { id = id; stranger = s }) ks ≡ ks)
    → put known_id (record { id = id; stranger = s }) (k ∷ ks) ≡ k ∷ ks
put_by id s k ks true e h is ih =
    let same : k.id ≡ id = grind (arith, nat_tests) in
    let own : k.stranger ≡ s = cc in
    put_here id s k ks same own
put_by id s k ks false e h is ih = rw e (put_past id s k ks (nat_lt k.id id) refl e h is (ih is))

pub put_there : (id : ℕ) (s : Stranger) (ks : List Known) → Rising known_id ks → stranger_at id ks ≡ Some s
    → put known_id (record { id = id; stranger = s }) ks ≡ ks
put_there id s [] h is = absurd cc
put_there id s (k ∷ ks) h is = put_by id s k ks (k.id == id) refl h is (put_there id s ks h.1)

none_at : (o : Option Known) → option_map (λ (k : Known). k.stranger) o ≡ None → o ≡ None
none_at None h = refl
none_at (Some k) h = absurd cc

there_by : (id : ℕ) (o : Option Stranger) (ks : List Known) → Rising known_id ks → stranger_at id ks ≡ o
    → with_stranger id o ks ≡ ks
there_by id None ks h is = without_absent known_id id ks (none_at (at known_id id ks) is)
there_by id (Some s) ks h is = put_there id s ks h is

pub with_there : (id : ℕ) (ks : List Known) → Rising known_id ks → with_stranger id (stranger_at id ks) ks ≡ ks
with_there id ks h = there_by id (stranger_at id ks) ks h refl
