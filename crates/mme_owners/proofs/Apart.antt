-- What it means for one change that with it no two have one id.
use Rattle.std.proofs.Common.{◌≡◌, ◌≢◌, ◌<◌, ℕ, zero, suc, List, [], ◌∷◌, length, Bool, true, false, cond, Option, Some, None, refl, sym, ◌∙◌, ap, subst, arith}
use Rattle.std.specs.Prelude.{◌==◌, if◌then◌else◌, slice_get, IsSome}
use Rattle.std.proofs.lemmas.Bool.{eq-eqb, eqb-true}
use Rattle.std.proofs.lemmas.Bool.Decides.{nat_tests}
use Rattle.std.proofs.lemmas.Option.{none-some, same_Some}
use Rattle.association_table.specs.declared.association.Association.{Association}
use Rattle.mme_types.specs.declared.connection.Connection.{Connection}
use Rattle.mme_tables.specs.declared.whereabouts.Whereabouts.{Whereabouts}
use Rattle.mme_tables.specs.Whereabouts.{connection_at, waits_at, NoneConnected}
use Rattle.emm_state.specs.declared.solo.Solo.{Solo}
use Rattle.emm_machine.specs.SubscriberView.{SubscriberView}
use Rattle.sorted_list.specs.Ordered.{Rising}
use Rattle.stranger_machine.specs.declared.state.Stranger.{Stranger}
use Rattle.stranger_machine.specs.declared.state.Stranger.TheVariants.{Waiting, Held}
use Rattle.stranger_machine.specs.declared.table.Known.{Known}
use Rattle.stranger_machine.specs.Laws.{with_at}
use Rattle.stranger_machine.specs.Table.{known_id, stranger_at, with_stranger}
use Rattle.mme_owners.specs.Changed.{changed_at}
use Rattle.mme_owners.specs.SubscriberLaws.{with_solo_is}
use Rattle.mme_owners.specs.SteppedView.{SteppedView}
use Rattle.mme_owners.specs.Subscribers.{in_state, with_solo}
use Rattle.mme_owners.specs.Touched.{all_whereabouts, Has}
use Rattle.mme_owners.specs.Owners.{with_one, IsFitIf, IsFreeIf}
use Rattle.mme_owners.specs.Placed.{place_at, place_if, place_in_state, AreApart, IsOn, NoneWaitsIf}
use Rattle.mme_owners.proofs.Touching.{has_at}

-- ---- who is connected once one has its new state

changed_here : (ws : List SubscriberView) (n : ℕ) (s : Solo) (k : Connection) → n < length ws → s.connection ≡ Some k
    → Has (changed_at n (in_state s) ws) n k
changed_here [] n s k lt is = absurd (omega arith)
changed_here (w ∷ ws) zero s k lt is = record { subscriber = in_state s w; there = refl; connected = is }
changed_here (w ∷ ws) (suc n) s k lt is =
    let h = changed_here ws n s k (omega arith) is in
    record { subscriber = h.subscriber; there = h.there; connected = h.connected }

changed_other : (ws : List SubscriberView) (n i : ℕ) (s : Solo) (l : Connection) (x : SubscriberView) → i ≢ n
    → slice_get ws i ≡ Some x → x.solo.connection ≡ Some l → Has (changed_at n (in_state s) ws) i l
changed_other [] n i s l x other there is = absurd (none-some x there)
changed_other (w ∷ ws) zero zero s l x other there is = absurd (other refl)
changed_other (w ∷ ws) zero (suc i) s l x other there is = record { subscriber = x; there = there; connected = is }
changed_other (w ∷ ws) (suc n) zero s l x other there is = record { subscriber = x; there = there; connected = is }
changed_other (w ∷ ws) (suc n) (suc i) s l x other there is =
    let h = changed_other ws n i s l x (λ same. other (ap suc same)) there is in
    record { subscriber = h.subscriber; there = h.there; connected = h.connected }

has_here : (ws : List SubscriberView) (x : SteppedView) (k : Connection) → x.slot < length ws → x.solo.connection ≡ Some k
    → Has (with_solo x.slot x.solo ws) x.slot k
has_here ws x k lt is =
    subst (λ (vs : List SubscriberView). Has vs x.slot k) (sym (with_solo_is x.slot x.solo ws)) (changed_here ws x.slot x.solo k lt is)

has_other : (ws : List SubscriberView) (x : SteppedView) (i : ℕ) (l : Connection) → i ≢ x.slot → Has ws i l
    → Has (with_solo x.slot x.solo ws) i l
has_other ws x i l other has =
    subst (λ (vs : List SubscriberView). Has vs i l) (sym (with_solo_is x.slot x.solo ws))
    (changed_other ws x.slot i x.solo l has.subscriber other has.there has.connected)

-- ---- no other subscriber has the id

free_by : (ks : List Known) (ws : List SubscriberView) (x : SteppedView) (i : ℕ) (k l : Connection) (b : Bool) → (i == x.slot) ≡ b
    → AreApart ks (with_solo x.slot x.solo ws) → x.slot < length ws → x.solo.connection ≡ Some k → Has ws i l
    → l.id ≡ k.id → i ≡ x.slot
free_by ks ws x i k l true same apart lt is has id = eqb-true i x.slot same
free_by ks ws x i k l false same apart lt is has id =
    let other : i ≢ x.slot = λ q. grind (arith, nat_tests) in
    apart.two i x.slot l k (has_other ws x i l other has) (has_here ws x k lt is) id

pub free_one : (ks : List Known) (ws : List SubscriberView) (called : Option SteppedView) → AreApart ks (with_one called ws)
    → IsFitIf ws called → IsFreeIf ws called
free_one ks ws None apart fits = tt
free_one ks ws (Some x) apart fits = λ i k l is has id. free_by ks ws x i k l (i == x.slot) refl apart fits.0 is has id

-- ---- and no stranger waits on it

pub alone_one : (ks : List Known) (ws : List SubscriberView) (es : List Association) (called : Option SteppedView)
    → ((id : ℕ) → waits_at id es ≡ place_at id ks) → AreApart ks (with_one called ws) → IsFitIf ws called
    → NoneWaitsIf called es
alone_one ks ws es None there apart fits = tt
alone_one ks ws es (Some x) there apart fits = λ k is. there k.id ∙ apart.waiting x.slot k (has_here ws x k fits.0 is)

-- where a stranger isn't what it was
place_cond : (id : ℕ) (b : Bool) (o p : Option Stranger) → place_if id (cond b o p) ≡ cond b (place_if id o) (place_if id p)
place_cond id true o p = refl
place_cond id false o p = refl

pub place_left : (id other : ℕ) (o : Option Stranger) (ks : List Known) → Rising known_id ks
    → place_at other (with_stranger id o ks) ≡ (if id == other then place_if other o else place_at other ks)
place_left id other o ks rising =
    ap (place_if other) (with_at other id o ks rising) ∙ place_cond other (id == other) o (stranger_at other ks)

module _ (id : ℕ) (o : Option Stranger) (ks : List Known) (ws : List SubscriberView) (es fs : List Association)
    (called : Option SteppedView) (rising : Rising known_id ks) (there : (other : ℕ) → waits_at other es ≡ place_at other ks)
    (left : (other : ℕ) → waits_at other fs ≡ (if id == other then None else waits_at other es))
    (apart : AreApart (with_stranger id o ks) (with_one called ws)) (fits : IsFitIf ws called) where
  none_by : (k : Connection) (b : Bool) → (id == k.id) ≡ b → place_at k.id (with_stranger id o ks) ≡ None
      → cond b None (waits_at k.id es) ≡ None
  none_by k true same none = refl
  none_by k false same none =
      there k.id ∙ ap (λ (b : Bool). cond b (place_if k.id o) (place_at k.id ks)) (sym same) ∙ sym (place_left id k.id o ks rising) ∙ none

  pub alone_left : NoneWaitsIf called fs
  alone_left = by called fits apart
    where
      by : (c : Option SteppedView) → IsFitIf ws c → AreApart (with_stranger id o ks) (with_one c ws) → NoneWaitsIf c fs
      by None f h = tt
      by (Some x) f h = λ k is. left k.id ∙ none_by k (id == k.id) refl (h.waiting x.slot k (has_here ws x k f.0 is))

-- ---- a stranger that waits

pub state_on : (id : ℕ) (s : Stranger) → IsOn id (place_in_state id s)
state_on id (Held slot) k is = absurd (none-some k is)
state_on id (Waiting kept left repeats) k is = ap (λ (l : Connection). l.id) (sym (same_Some _ k is))

some_none : {X : Type 0} (o : Option X) → IsSome o → o ≡ None → ⊥
some_none None some none = absurd (cc some)
some_none (Some x) some none = absurd (cc none)

-- no subscriber has its id
pub unconnected : (id : ℕ) (s : Stranger) (ks : List Known) (ws : List SubscriberView) (cs : List Whereabouts) → cs ≡ all_whereabouts ws
    → Rising known_id ks → AreApart (with_stranger id (Some s) ks) ws → IsSome (place_in_state id s) → NoneConnected id cs
unconnected id s ks ws cs phones rising apart some i k at same =
    let has = has_at ws i k (ap (connection_at i) (sym phones) ∙ at) in
    let none : place_at id (with_stranger id (Some s) ks) ≡ None =
    subst (λ (n : ℕ). place_at n (with_stranger id (Some s) ks) ≡ None) same (apart.waiting i k has) in
    let own : place_at id (with_stranger id (Some s) ks) ≡ place_in_state id s =
    place_left id id (Some s) ks rising
    ∙ ap (λ (b : Bool). cond b (place_in_state id s) (place_at id ks)) (eq-eqb id id refl) in
    some_none (place_in_state id s) some (sym own ∙ none)

-- and each waits where its state says
pub waits_left : (id other : ℕ) (o : Option Stranger) (ks : List Known) (es fs : List Association) → Rising known_id ks
    → waits_at other es ≡ place_at other ks → waits_at other fs ≡ (if id == other then place_if id o else waits_at other es)
    → waits_at other fs ≡ place_at other (with_stranger id o ks)
waits_left id other o ks es fs rising there left =
    left ∙ by (id == other) refl ∙ sym (place_left id other o ks rising)
  where
    by : (b : Bool) → (id == other) ≡ b
        → cond b (place_if id o) (waits_at other es) ≡ cond b (place_if other o) (place_at other ks)
    by true same = ap (λ (n : ℕ). place_if n o) (eqb-true id other same)
    by false same = there

-- one that had lost its place, and has another
pub place_again : (b : Bool) (p q x y : Option Connection) → x ≡ cond b None q → y ≡ cond b p x → y ≡ cond b p q
place_again true p q x y lost has = has
place_again false p q x y lost has = has ∙ lost
