-- Where all are after a notice of a station.
use Rattle.std.proofs.Common.{◌≡◌, ℕ, zero, suc, ◌<◌, List, [], ◌∷◌, length, refl, sym, ◌∙◌, ap, subst}
use Rattle.std.specs.Prelude.{Option, Some, None, Bool, true, false, cond, map, slice_set, ◌||◌}
use Rattle.mme_types.specs.declared.connection.Connection.{Connection}
use Rattle.mme_types.specs.Events.{ConnectionsGone, StationGone}
use Rattle.mme_tables.specs.declared.whereabouts.Whereabouts.{Whereabouts}
use Rattle.mme_tables.specs.Whereabouts.{away_from, connection_at, is_concerned, is_meant, is_there, slots_where, unless}
use Rattle.emm_machine.specs.SubscriberView.{SubscriberView}
use Rattle.sorted_list.specs.Ordered.{Every, Rising}
use Rattle.stranger_machine.specs.declared.state.Stranger.{Stranger}
use Rattle.stranger_machine.specs.declared.state.Stranger.TheVariants.{Waiting, Held}
use Rattle.stranger_machine.specs.declared.table.Known.{Known}
use Rattle.stranger_machine.specs.declared.turn.Notice.{Notice}
use Rattle.stranger_machine.specs.declared.turn.Notice.TheVariants.{Tick, Gone, Listed}
use Rattle.stranger_machine.specs.Laws.{noted_at}
use Rattle.stranger_machine.specs.Machine.{closes, is_of_station}
use Rattle.stranger_machine.specs.StationLaws.{station_notes}
use Rattle.stranger_machine.specs.Table.{known_id, noted, stranger_at}
use Rattle.stranger_machine.specs.Turns.{Turn, closing, stays}
use Rattle.mme_owners.specs.SteppedView.{SteppedView}
use Rattle.mme_owners.specs.Changed.{changed_at, cleared}
use Rattle.mme_owners.specs.Matching.{AreOff, Match, cleared_all, match_changed}
use Rattle.mme_owners.specs.Noticed.{ended_by, slots_noticed, OutlivesNotice}
use Rattle.mme_owners.specs.Placed.{own_place, place_at, place_if}
use Rattle.mme_owners.specs.SubscriberLaws.{touched_below}
use Rattle.mme_owners.specs.Subscribers.{slots_stepped, with_stepped}
use Rattle.mme_owners.specs.Touched.{all_whereabouts, whereabouts, with_whereabouts, KeepsConnection}
use Rattle.mme_owners.proofs.Touching.{at_has, concerned_is, listed_is, set_is, stepped_there}

-- ---- phones

-- whom it touches, by where the phone is
abbrev touches : Notice → Whereabouts → Bool
touches Tick = λ w. false
touches (Gone e) = is_concerned e
touches (Listed e items) = is_meant e items

noticed_are : (notice : Notice) (ws : List SubscriberView) → is_of_station notice ≡ true
    → slots_noticed notice ws ≡ slots_where (touches notice) 0 (all_whereabouts ws)
noticed_are Tick ws h = absurd (cc)
noticed_are (Gone e) ws h = sym (concerned_is e ws)
noticed_are (Listed e items) ws h = sym (listed_is e items ws)

second : (a b : Bool) → (a || b) ≡ false → b ≡ false
second true b h = absurd (cc)
second false b h = h

stays_there : (test : Option Connection → Bool) (w : Whereabouts) → test w.connection ≡ false → away_from test w ≡ w
stays_there test w h =
    ap (λ b. let v : Whereabouts = record { connection = cond b None w.connection; is_paged = w.is_paged } in v) h

-- whom it doesn't touch stays where it is
untouched_stays : (notice : Notice) (w : Whereabouts) → touches notice w ≡ false → away_from (ended_by notice) w ≡ w
untouched_stays Tick w h = refl
untouched_stays (Gone e) w h = stays_there (is_there e) w (second w.is_paged (is_there e w.connection) h)
untouched_stays (Listed e items) w h = stays_there (ended_by (Listed e items)) w h

-- two are where the same is, or are still to be placed
abbrev IsAlike : Bool → Whereabouts → Whereabouts → Type 0
IsAlike true v w = Unit {0}
IsAlike false v w = v ≡ w

alike_by : (notice : Notice) (w : Whereabouts) (b : Bool) → touches notice w ≡ b → IsAlike b (away_from (ended_by notice) w) w
alike_by notice w true h = tt
alike_by notice w false h = untouched_stays notice w h

alike_away : (notice : Notice) (cs : List Whereabouts)
    → Match IsAlike (map (touches notice) cs) (map (away_from (ended_by notice)) cs) cs
alike_away notice [] = tt
alike_away notice (w ∷ cs) = (alike_by notice w (touches notice w) refl, alike_away notice cs)

alike_along : (xs : List SteppedView) (bs : List Bool) (vs cs : List Whereabouts) → Match IsAlike bs vs cs
    → Match IsAlike (cleared (slots_stepped xs) bs) (with_whereabouts xs vs) (with_whereabouts xs cs)
alike_along [] bs vs cs m = m
alike_along (x ∷ xs) bs vs cs m =
    let w = whereabouts x.solo in
    let own = match_changed IsAlike x.slot (λ _. w) (λ _. w) bs vs cs (λ b v k at h. refl) m in
    alike_along xs (changed_at x.slot (λ _. false) bs) (slice_set vs x.slot w) (slice_set cs x.slot w)
    (subst (λ (us : List Whereabouts). Match IsAlike (changed_at x.slot (λ _. false) bs) us (slice_set cs x.slot w)) (sym (set_is x.slot w vs))
    (subst (λ (us : List Whereabouts). Match IsAlike (changed_at x.slot (λ _. false) bs) (changed_at x.slot (λ _. w) vs) us) (sym (set_is x.slot w cs)) own))

alike_all : (bs : List Bool) (vs cs : List Whereabouts) → AreOff bs → Match IsAlike bs vs cs → vs ≡ cs
alike_all [] [] [] off m = refl
alike_all [] [] (c ∷ cs) off m = absurd m
alike_all [] (v ∷ vs) cs off m = absurd m
alike_all (b ∷ bs) [] cs off m = absurd m
alike_all (b ∷ bs) (v ∷ vs) [] off m = absurd m
alike_all (b ∷ bs) (v ∷ vs) (c ∷ cs) off m =
    let own : v ≡ c = subst (λ f. IsAlike f v c) off.0 m.0 in
    ap (λ x. x ∷ vs) own ∙ ap (λ xs. c ∷ xs) (alike_all bs vs cs off.1 m.1)

module _ (notice : Notice) (xs : List SteppedView) (ws : List SubscriberView) (cs vs : List Whereabouts)
    (of_station : is_of_station notice ≡ true) (phones : cs ≡ all_whereabouts ws)
    (slots : slots_stepped xs ≡ slots_noticed notice ws) (left : vs ≡ map (away_from (ended_by notice)) cs) where
  -- once those whom it touches are where their new states say, so is everybody
  pub noticed_there : with_whereabouts xs vs ≡ all_whereabouts (with_stepped xs ws)
  noticed_there =
      let all = all_whereabouts ws in
      let bs = map (touches notice) all in
      let off : AreOff (cleared (slots_stepped xs) bs) =
      subst (λ ks. AreOff (cleared ks bs)) (sym (slots ∙ noticed_are notice ws of_station)) (cleared_all (touches notice) all) in
      ap (with_whereabouts xs) (left ∙ ap (map (away_from (ended_by notice))) phones)
      ∙ alike_all (cleared (slots_stepped xs) bs) (with_whereabouts xs (map (away_from (ended_by notice)) all)) (with_whereabouts xs all) off
      (alike_along xs bs (map (away_from (ended_by notice)) all) all (alike_away notice all))
      ∙ sym (stepped_there xs ws)

-- ---- those who were prepared

every_slot : (n : ℕ) (xs : List SteppedView) → Every (λ k. k < n) (slots_stepped xs) → Every (λ (x : SteppedView). x.slot < n) xs
every_slot n [] h = tt
every_slot n (x ∷ xs) h = (h.0, every_slot n xs h.1)

noticed_below : (notice : Notice) (ws : List SubscriberView) → Every (λ k. k < length ws) (slots_noticed notice ws)
noticed_below Tick ws = tt
noticed_below (Gone e) ws = touched_below (StationGone e) ws
noticed_below (Listed e items) ws = touched_below (ConnectionsGone e items) ws

-- each has the slot of a subscriber
pub stepped_below : (notice : Notice) (xs : List SteppedView) (ws : List SubscriberView) → slots_stepped xs ≡ slots_noticed notice ws
    → Every (λ (x : SteppedView). x.slot < length ws) xs
stepped_below notice xs ws slots =
    every_slot (length ws) xs (subst (Every (λ k. k < length ws)) (sym slots) (noticed_below notice ws))

pub left_length : (f : Whereabouts → Whereabouts) (cs : List Whereabouts) → length (map f cs) ≡ length cs
left_length f [] = refl
left_length f (c ∷ cs) = ap suc (left_length f cs)

ends_nothing : (notice : Notice) → ended_by notice None ≡ false
ends_nothing Tick = refl
ends_nothing (Gone e) = refl
ends_nothing (Listed e items) = refl

connection_left : (notice : Notice) (cs : List Whereabouts) (i : ℕ)
    → connection_at i (map (away_from (ended_by notice)) cs) ≡ unless (ended_by notice) (connection_at i cs)
connection_left notice [] i = sym (ap (λ b. cond b None None) (ends_nothing notice))
connection_left notice (c ∷ cs) zero = refl
connection_left notice (c ∷ cs) (suc i) = connection_left notice cs i

-- and is connected where it is
pub outlives : (notice : Notice) (xs : List SteppedView) (ws : List SubscriberView) (cs vs : List Whereabouts) → cs ≡ all_whereabouts ws
    → vs ≡ map (away_from (ended_by notice)) cs
    → Every (OutlivesNotice notice ws) xs → Every (KeepsConnection vs) xs
outlives notice [] ws cs vs phones left each = tt
outlives notice (x ∷ xs) ws cs vs phones left each = (
  λ k is.
      let h = each.0 k is in
      let was : connection_at x.slot cs ≡ Some k =
      ap (connection_at x.slot) phones ∙ at_has ws x.slot k h.0.subscriber h.0.there h.0.connected in
      ap (connection_at x.slot) left ∙ connection_left notice cs x.slot ∙ ap (unless (ended_by notice)) was
      ∙ ap (λ b. cond b None (Some k)) h.1,
  outlives notice xs ws cs vs phones left each.1,
)

-- ---- strangers

ends_own : (notice : Notice) (id : ℕ) → ended_by notice (Some (own_place id)) ≡ closes id notice
ends_own Tick id = refl
ends_own (Gone e) id = refl
ends_own (Listed e items) id = refl

nowhere_by : (id : ℕ) (o : Option Stranger) (b c : Bool) → place_if id o ≡ None
    → cond b None None ≡ place_if id (let t : Turn = cond c (closing []) (stays o []) in t.stranger)
nowhere_by id o true true none = refl
nowhere_by id o true false none = sym none
nowhere_by id o false true none = refl
nowhere_by id o false false none = sym none

own_by : (id : ℕ) (o : Option Stranger) (b : Bool) → place_if id o ≡ Some (own_place id)
    → cond b None (Some (own_place id)) ≡ place_if id (let t : Turn = cond b (closing []) (stays o []) in t.stranger)
own_by id o true here = refl
own_by id o false here = sym here

left_by : (notice : Notice) (id : ℕ) (o : Option Stranger)
    → unless (ended_by notice) (place_if id o)
    ≡ place_if id (let t : Turn = cond (closes id notice) (closing []) (stays o []) in t.stranger)
left_by notice id None = nowhere_by id None (ended_by notice None) (closes id notice) refl
left_by notice id (Some (Held slot)) = nowhere_by id (Some (Held slot)) (ended_by notice None) (closes id notice) refl
left_by notice id (Some (Waiting k left repeats)) =
    ap (λ b. cond b None (Some (own_place id))) (ends_own notice id) ∙ own_by id (Some (Waiting k left repeats)) (closes id notice) refl

-- who is closed has no place, and all others have theirs
pub noticed_waits : (notice : Notice) (id : ℕ) (ks : List Known) → is_of_station notice ≡ true → Rising known_id ks
    → unless (ended_by notice) (place_at id ks) ≡ place_at id (noted notice ks)
noticed_waits notice id ks of_station rising =
    left_by notice id (stranger_at id ks)
    ∙ ap (λ (t : Turn). place_if id t.stranger) (sym (station_notes id (stranger_at id ks) notice of_station))
    ∙ ap (place_if id) (sym (noted_at id notice ks rising))
