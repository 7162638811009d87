-- At a tick, and at what happens to a station, each stays connected as it was or is no longer.
use Rattle.std.proofs.Common.{◌≡◌, inl, inr, List, [], ◌∷◌, Option, Some, true, false, refl, ap, ◌∙◌, sym, subst}
use Rattle.std.specs.Prelude.{slice_get}
use Rattle.mme_types.specs.declared.connection.Connection.{Connection}
use Rattle.emm_state.specs.declared.setting.Setting.{Setting}
use Rattle.emm_state.specs.declared.solo.Solo.{Solo}
use Rattle.emm_machine.specs.SubscriberView.{SubscriberView}
use Rattle.sorted_list.specs.Ordered.{Every}
use Rattle.stranger_machine.specs.Machine.{is_of_station}
use Rattle.stranger_machine.specs.declared.turn.Notice.{Notice}
use Rattle.stranger_machine.specs.declared.turn.Notice.TheVariants.{Gone, Listed, Tick}
use Rattle.mme_owners.specs.SteppedView.{SteppedView}
use Rattle.mme_owners.specs.Subscribers.{IsStepped}
use Rattle.mme_owners.specs.Touched.{touched_slots, KeepsPlace}
use Rattle.mme_owners.specs.Noticed.{ended_by, slots_noticed, OutlivesNotice}
use Rattle.mme_answering.specs.declared.prepared.Prepared.{Prepared}
use Rattle.mme_answering.specs.Settled.{IsApart, IsFor}
use Rattle.stranger_machine.specs.declared.table.Known.{Known}
use Rattle.mme_routing.specs.Destinations.{item_of_notice}
use Rattle.laws_subscriber.specs.Comes.{ends, Begins, ComesSo, ConnectionsComeSo, IsClaimed, Moves}
use Rattle.mme_answering.proofs.Stepping.{stepped_at}

-- a notice begins, claims and moves nothing
none_begins : (notice : Notice) (s : Setting) (solo : Solo) (k : Connection) → Begins s solo (item_of_notice notice) k → ⊥
none_begins Tick s solo k h = h
none_begins (Gone e) s solo k h = h
none_begins (Listed e items) s solo k h = h

none_claims : (notice : Notice) (k : Connection) → IsClaimed (item_of_notice notice) k → ⊥
none_claims Tick k h = h
none_claims (Gone e) k h = h
none_claims (Listed e items) k h = h

none_moves : (notice : Notice) (o : Option Connection) (k : Connection) → Moves o (item_of_notice notice) k → ⊥
none_moves Tick o k h = h
none_moves (Gone e) o k h = h
none_moves (Listed e items) o k h = h

was : (notice : Notice) (s : Setting) (solo : Solo) (k : Connection) → ComesSo s solo (item_of_notice notice) (Some k)
    → solo.connection ≡ Some k
was notice s solo k comes = elim comes [
  | inl stays ↦ stays.0
  | inr others ↦ elim others [
    | inl begins ↦ absurd (none_begins notice s solo k begins)
    | inr rest ↦ elim rest [
      | inl claimed ↦ absurd (none_claims notice k claimed)
      | inr moves ↦ absurd (none_moves notice solo.connection k moves)
    ]
  ]
]

-- and leaves none that it ends
ends_not : (notice : Notice) (k : Connection) → ends (item_of_notice notice) k ≡ false → ended_by notice (Some k) ≡ false
ends_not Tick k h = refl
ends_not (Gone e) k h = h
ends_not (Listed e items) k h = h

outlives : (notice : Notice) (s : Setting) (solo : Solo) (k : Connection) → ComesSo s solo (item_of_notice notice) (Some k)
    → ended_by notice (Some k) ≡ false
outlives notice s solo k comes = elim comes [
  | inl stays ↦ ends_not notice k stays.1
  | inr others ↦ elim others [
    | inl begins ↦ absurd (none_begins notice s solo k begins)
    | inr rest ↦ elim rest [
      | inl claimed ↦ absurd (none_claims notice k claimed)
      | inr moves ↦ absurd (none_moves notice solo.connection k moves)
    ]
  ]
]

keeps_one : ConnectionsComeSo → (notice : Notice) (ws : List SubscriberView) (x : SteppedView)
    → IsStepped (item_of_notice notice) ws x → OutlivesNotice notice ws x
keeps_one come notice ws x h k is =
    stepped_at (item_of_notice notice) x.solo (slice_get ws x.slot) h (λ w at same.
    let comes : ComesSo w.setting w.solo (item_of_notice notice) (Some k) =
    subst (ComesSo w.setting w.solo (item_of_notice notice)) (ap (λ (s : Solo). s.connection) same ∙ is) (come w.setting w.solo (item_of_notice notice)) in
    (record { subscriber = w; there = at; connected = was notice w.setting w.solo k comes }, outlives notice w.setting w.solo k comes))

pub outlive_all : ConnectionsComeSo → (notice : Notice) (ws : List SubscriberView) (xs : List SteppedView)
    → Every (IsStepped (item_of_notice notice) ws) xs → Every (OutlivesNotice notice ws) xs
outlive_all come notice ws [] h = tt
outlive_all come notice ws (x ∷ xs) h = (keeps_one come notice ws x h.0, outlive_all come notice ws xs h.1)

pub keep_all : ConnectionsComeSo → (notice : Notice) (ws : List SubscriberView) (xs : List SteppedView)
    → Every (IsStepped (item_of_notice notice) ws) xs → Every (KeepsPlace ws) xs
keep_all come notice ws [] h = tt
keep_all come notice ws (x ∷ xs) h = (λ k is. (keeps_one come notice ws x h.0 k is).0, keep_all come notice ws xs h.1)

-- those whom it touches, by the item that it is to them
pub noticed_are : (notice : Notice) (ws : List SubscriberView) → is_of_station notice ≡ true
    → touched_slots (item_of_notice notice) ws ≡ slots_noticed notice ws
noticed_are Tick ws h = absurd (cc)
noticed_are (Gone e) ws h = refl
noticed_are (Listed e items) ws h = refl

-- ---- what was prepared, where strangers and subscribers are as they were

pub for_there : {p q : Prepared} {ks ls : List Known} {ws vs : List SubscriberView} → p ≡ q → ls ≡ ks → vs ≡ ws → IsFor p ks ws
    → IsFor q ls vs
for_there {p} {q} {ks} {ls} {ws} {vs} is strangers subscribers h =
    subst (λ (ys : List Known). IsFor q ys vs) (sym strangers)
    (subst (λ (xs : List SubscriberView). IsFor q ks xs) (sym subscribers) (subst (λ (r : Prepared). IsFor r ks ws) is h))

-- with it no two have one id
pub apart_there : {p q : Prepared} {ks ls : List Known} {ws vs : List SubscriberView} → p ≡ q → ls ≡ ks → vs ≡ ws → IsApart p ks ws
    → IsApart q ls vs
apart_there {p} {q} {ks} {ls} {ws} {vs} is strangers subscribers h =
    subst (λ (ys : List Known). IsApart q ys vs) (sym strangers)
    (subst (λ (xs : List SubscriberView). IsApart q ks xs) (sym subscribers) (subst (λ (r : Prepared). IsApart r ks ws) is h))
