-- Where the phones are after a new state, a tick and a newcomer, and whom an item of a station touches.
use Rattle.std.proofs.Common.{◌≡◌, ◌≢◌, ℕ, zero, suc, ◌+◌, ◌<◌, List, [], ◌∷◌, length, set, refl, sym, ◌∙◌, ap, subst, arith}
use Rattle.std.specs.Prelude.{slice_get, slice_set, Option, Some, None, Bool, true, false, cond, not, ◌&&◌, ◌||◌, ◌==◌, map}
use Rattle.std.proofs.lemmas.Bool.{eqb-true}
use Rattle.std.proofs.lemmas.Bool.Decides.{nat_tests}
use Rattle.std.proofs.lemmas.List.{get_or-set_same, get_or-set_other}
use Rattle.std.proofs.lemmas.Option.{none-some, same_Some}
use Rattle.mme_types.specs.declared.connection.Connection.{Connection}
use Rattle.mme_types.specs.Events.{ConnectionsGone, StationGone}
use Rattle.mme_types.specs.Listed.{ToReset, is_listed}
use Rattle.mme_tables.specs.declared.whereabouts.Whereabouts.{Whereabouts}
use Rattle.mme_tables.specs.Whereabouts.{connection_at, is_concerned, is_meant, is_meant_at, is_there, nowhere, slots_where, IsFree}
use Rattle.emm_state.specs.declared.solo.Solo.{Solo}
use Rattle.emm_machine.specs.Still.{is_elsewhere, is_unlisted, pages}
use Rattle.emm_machine.specs.SubscriberView.{SubscriberView}
use Rattle.emm_machine.specs.Ticks.{solo_aged}
use Rattle.sorted_list.specs.Ordered.{Every}
use Rattle.mme_owners.specs.SteppedView.{SteppedView}
use Rattle.mme_owners.specs.Changed.{changed_at}
use Rattle.mme_owners.specs.SubscriberLaws.{due_below, where_map, with_solo_is}
use Rattle.mme_owners.specs.Subscribers.{due_slots, in_state, one_less, slots_stepped, tick_settled, with_solo, with_stepped}
use Rattle.mme_owners.specs.Touched.{all_whereabouts, touched_slots, whereabouts, with_whereabouts, Has, IsFreeFor, KeepsConnection, KeepsPlace}

-- ---- where the phones are

pub set_is : {X : Type 0} (k : ℕ) (x : X) (xs : List X) → slice_set xs k x ≡ changed_at k (λ _. x) xs
set_is k x [] = refl
set_is zero x (y ∷ ys) = refl
set_is (suc k) x (y ∷ ys) = ap (λ zs. y ∷ zs) (set_is k x ys)

changed_there : (k : ℕ) (s : Solo) (ws : List SubscriberView)
    → all_whereabouts (changed_at k (in_state s) ws) ≡ changed_at k (λ _. whereabouts s) (all_whereabouts ws)
changed_there k s [] = refl
changed_there zero s (w ∷ ws) = refl
changed_there (suc k) s (w ∷ ws) = ap (λ cs. whereabouts w.solo ∷ cs) (changed_there k s ws)

pub settled_there : (k : ℕ) (s : Solo) (ws : List SubscriberView)
    → all_whereabouts (with_solo k s ws) ≡ slice_set (all_whereabouts ws) k (whereabouts s)
settled_there k s ws =
    ap all_whereabouts (with_solo_is k s ws) ∙ changed_there k s ws ∙ sym (set_is k (whereabouts s) (all_whereabouts ws))

pub stepped_there : (xs : List SteppedView) (ws : List SubscriberView)
    → all_whereabouts (with_stepped xs ws) ≡ with_whereabouts xs (all_whereabouts ws)
stepped_there [] ws = refl
stepped_there (x ∷ xs) ws =
    stepped_there xs (with_solo x.slot x.solo ws) ∙ ap (with_whereabouts xs) (settled_there x.slot x.solo ws)

less_there : (ws : List SubscriberView) → all_whereabouts (map one_less ws) ≡ all_whereabouts ws
unfolding solo_aged
less_there [] = refl
less_there (w ∷ ws) = ap (λ cs. whereabouts w.solo ∷ cs) (less_there ws)

pub ticked_there : (xs : List SteppedView) (ws : List SubscriberView)
    → all_whereabouts (tick_settled xs ws) ≡ with_whereabouts xs (all_whereabouts ws)
ticked_there xs ws = stepped_there xs (map one_less ws) ∙ ap (with_whereabouts xs) (less_there ws)

every_slot : (P : ℕ → Type 0) (xs : List SteppedView) → Every P (slots_stepped xs) → Every (λ (x : SteppedView). P x.slot) xs
every_slot P [] h = tt
every_slot P (x ∷ xs) h = (h.0, every_slot P xs h.1)

pub there_length : (ws : List SubscriberView) → length (all_whereabouts ws) ≡ length ws
there_length [] = refl
there_length (w ∷ ws) = ap suc (there_length ws)

pub slots_below : (xs : List SteppedView) (ws : List SubscriberView) (cs : List Whereabouts) → cs ≡ all_whereabouts ws
    → Every (λ (x : SteppedView). x.slot < length ws) xs → Every (λ (x : SteppedView). x.slot < length cs) xs
slots_below xs ws cs same each =
    let many : length ws ≡ length cs = sym (ap length same ∙ there_length ws) in
    subst (λ n. Every (λ (x : SteppedView). x.slot < n) xs) many each

-- the phones of those who are due have a place
pub places_below : (xs : List SteppedView) (ws : List SubscriberView) (cs : List Whereabouts) → cs ≡ all_whereabouts ws
    → slots_stepped xs ≡ due_slots ws → Every (λ (x : SteppedView). x.slot < length cs) xs
places_below xs ws cs same due =
    let many : length ws ≡ length cs = sym (ap length same ∙ there_length ws) in
    every_slot (λ k. k < length cs) xs
    (subst (λ n. Every (λ k. k < n) (slots_stepped xs)) many (subst (Every (λ k. k < length ws)) (sym due) (due_below ws)))

-- ---- who is connected

pub has_at : (ws : List SubscriberView) (i : ℕ) (k : Connection) → connection_at i (all_whereabouts ws) ≡ Some k → Has ws i k
has_at [] i k is = absurd (none-some k is)
has_at (w ∷ ws) zero k is = record { subscriber = w; there = refl; connected = is }
has_at (w ∷ ws) (suc i) k is =
    let h = has_at ws i k is in record { subscriber = h.subscriber; there = h.there; connected = h.connected }

pub at_has : (ws : List SubscriberView) (i : ℕ) (k : Connection) (x : SubscriberView) → slice_get ws i ≡ Some x
    → x.solo.connection ≡ Some k → connection_at i (all_whereabouts ws) ≡ Some k
at_has [] i k x there is = absurd (none-some x there)
at_has (w ∷ ws) zero k x there is = ap (λ (v : SubscriberView). v.solo.connection) (same_Some w x there) ∙ is
at_has (w ∷ ws) (suc i) k x there is = at_has ws i k x there is

pub free_there : (ws : List SubscriberView) (cs : List Whereabouts) (x : SteppedView) → cs ≡ all_whereabouts ws → IsFreeFor ws x
    → IsFree x.slot x.solo.connection cs
free_there ws cs x same free i k l is there id =
    free i k l is (has_at ws i l (ap (connection_at i) (sym same) ∙ there)) id

pub keeps_there : (xs : List SteppedView) (ws : List SubscriberView) (cs : List Whereabouts) → cs ≡ all_whereabouts ws
    → Every (KeepsPlace ws) xs → Every (KeepsConnection cs) xs
keeps_there [] ws cs same each = tt
keeps_there (x ∷ xs) ws cs same each = (
  λ k is. let h = each.0 k is in ap (connection_at x.slot) same ∙ at_has ws x.slot k h.subscriber h.there h.connected,
  keeps_there xs ws cs same each.1,
)

-- ---- connections that stay or end

-- each is one that was
abbrev pub AreKept : List Whereabouts → List Whereabouts → Type 0
AreKept old now = (i : ℕ) (k : Connection) → connection_at i now ≡ Some k → connection_at i old ≡ Some k

pub free_kept : (old now : List Whereabouts) (slot : ℕ) (o : Option Connection)
    → ((i : ℕ) → IsFree i (connection_at i old) old) → AreKept old now
    → ((k : Connection) → o ≡ Some k → connection_at slot old ≡ Some k) → IsFree slot o now
free_kept old now slot o apart kept keeps i k l is there same = apart slot i k l (keeps k is) (kept i l there) same

kept_by : (old now : List Whereabouts) (slot : ℕ) (w : Whereabouts) (i : ℕ) (k : Connection) (b : Bool) → (slot == i) ≡ b
    → slot < length now → AreKept old now → ((l : Connection) → w.connection ≡ Some l → connection_at slot old ≡ Some l)
    → connection_at i (set now slot w) ≡ Some k → connection_at i old ≡ Some k
kept_by old now slot w i k true same lt kept keeps is =
    let here : slot ≡ i = eqb-true slot i same in
    subst (λ (n : ℕ). connection_at n old ≡ Some k) here
    (keeps k (ap (λ (v : Whereabouts). v.connection) (sym (get_or-set_same now slot w nowhere lt))
    ∙ subst (λ (n : ℕ). connection_at n (set now slot w) ≡ Some k) (sym here) is))
kept_by old now slot w i k false same lt kept keeps is =
    let other : i ≢ slot = λ q. grind (arith, nat_tests) in
    kept i k (ap (λ (v : Whereabouts). v.connection) (sym (get_or-set_other now slot i w nowhere other)) ∙ is)

pub kept_set : (old now : List Whereabouts) (slot : ℕ) (w : Whereabouts) → slot < length now → AreKept old now
    → ((l : Connection) → w.connection ≡ Some l → connection_at slot old ≡ Some l) → AreKept old (set now slot w)
kept_set old now slot w lt kept keeps i k is = kept_by old now slot w i k (slot == i) refl lt kept keeps is

-- ---- whom an item of a station touches

where_same : {X : Type 0} (p q : X → Bool) (n : ℕ) (xs : List X) → ((x : X) → p x ≡ q x) → slots_where p n xs ≡ slots_where q n xs
where_same p q n [] h = refl
where_same p q n (x ∷ xs) h =
    ap (λ b. cond b (n ∷ slots_where p (n + 1) xs) (slots_where p (n + 1) xs)) (h x)
    ∙ ap (λ ks. cond (q x) (n ∷ ks) ks) (where_same p q (n + 1) xs h)

not_twice : (b : Bool) → not (not b) ≡ b
not_twice true = refl
not_twice false = refl

concerned_one : (e : ℕ) (paged : Bool) (k : Option Connection) → (paged || is_there e k) ≡ not (not paged && is_elsewhere e k)
concerned_one e true k = refl
concerned_one e false None = refl
concerned_one e false (Some k) = sym (not_twice (k.station == e))

pub concerned_is : (e : ℕ) (ws : List SubscriberView)
    → slots_where (is_concerned e) 0 (all_whereabouts ws) ≡ touched_slots (StationGone e) ws
concerned_is e ws =
    where_map (is_concerned e) (λ (w : SubscriberView). whereabouts w.solo) 0 ws
    ∙ where_same (λ (w : SubscriberView). is_concerned e (whereabouts w.solo)) _ 0 ws
    (λ w. concerned_one e (pages w.solo.repeat) w.solo.connection)

listed_one : (e : ℕ) (items : ToReset) (k : Option Connection) → is_meant_at e items k ≡ not (is_unlisted e items k)
listed_one e items None = refl
listed_one e items (Some k) = sym (not_twice (k.station == e && is_listed k.id k.enb_ue_id items))

pub listed_is : (e : ℕ) (items : ToReset) (ws : List SubscriberView)
    → slots_where (is_meant e items) 0 (all_whereabouts ws) ≡ touched_slots (ConnectionsGone e items) ws
listed_is e items ws =
    where_map (is_meant e items) (λ (w : SubscriberView). whereabouts w.solo) 0 ws
    ∙ where_same (λ (w : SubscriberView). is_meant e items (whereabouts w.solo)) _ 0 ws (λ w. listed_one e items w.solo.connection)
