-- What always holds of an MME holds from its beginning on, and after each event.
use Rattle.std.proofs.Common.{◌≡◌, ℕ, suc, ◌+◌, ◌==◌, Bool, true, false, cond, List, [], ◌∷◌, length, Option, Some, None, nat_lt, refl, ap, ◌∙◌}
use Rattle.std.specs.Prelude.{map, option_map}
use Rattle.std.proofs.lemmas.List.{length-replicate}
use Rattle.sorted_list.specs.Ordered.{Every, put, without}
use Rattle.identity_slots.specs.declared.profile.Profile.{Profile}
use Rattle.identity_slots.specs.declared.profile.Vector.{Vector}
use Rattle.mme_types.specs.declared.network.Network.{Network}
use Rattle.mme_types.specs.declared.stations.StationState.TheVariants.{Down}
use Rattle.mme_types.specs.Events.{Item}
use Rattle.mme_types.specs.Stations.{no_stations}
use Rattle.emm_state.specs.declared.setting.Setting.{Setting}
use Rattle.emm_machine.specs.Freshness.{IsInUse, StaysInUse}
use Rattle.emm_machine.specs.SubscriberView.{SubscriberView}
use Rattle.emm_machine.specs.Words.{fresh_solo}
use Rattle.stranger_machine.specs.declared.state.Stranger.{Stranger}
use Rattle.stranger_machine.specs.declared.table.Known.{Known}
use Rattle.stranger_machine.specs.declared.turn.Notice.{Notice}
use Rattle.stranger_machine.specs.Machine.{Input, Begins, Notes, Receives, notes, stranger_step}
use Rattle.stranger_machine.specs.Table.{known_id, known_if, noted, stranger_at, with_input, with_stranger}
use Rattle.mme_routing.specs.Destinations.{Destination, strangers_left}
use Rattle.mme_routing.specs.Destinations as to
use Rattle.laws_subscriber.specs.Sound.{IsSound, StaysSound}
use Rattle.laws_subscriber.specs.Clocked.{IsClocked, StaysClocked}
use Rattle.laws_subscriber.specs.Strangers.{IsTimed, StaysTimed}
use Rattle.mme_core.specs.declared.event.Event.{Event}
use Rattle.mme_core.specs.declared.event.StepFault.{StepFault}
use Rattle.mme_core.specs.Kept.{BeginsKept, HasNetwork, IsKept, IsKnownTimed, StaysKept, profile_of}
use Rattle.mme_core.specs.World.{World, each_after, event_fault, fresh_subscribers, happens, items_of, strangers_in, unless, world_after, world_moved}
use Rattle.mme_core.proofs.InUse.{each_in_use, fresh_in_use}
use Rattle.mme_core.proofs.Stations.{placed_many}
use Rattle.mme_core.proofs.Turns.{rising_next}

either : {A : Type 0} (Q : A → Type 0) {x y : A} (t : Bool) → Q x → Q y → Q (cond t x y)
either Q true f g = f
either Q false f g = g

either_way : {A : Type 0} (Q : A → Type 0) (o : Option StepFault) {x y : A} → Q x → Q y → Q (unless o x y)
either_way Q None h k = k
either_way Q (Some fault) h k = h

-- ---- each stranger in the table

every_put : (P : Known → Type 0) (k : Known) (ks : List Known) → P k → Every P ks → Every P (put known_id k ks)
every_put P k [] h each = (h, tt)
every_put P k (y ∷ ys) h each =
    either (Every P) (nat_lt (known_id y) (known_id k)) (each.0, every_put P k ys h each.1)
    (either (Every P) (known_id y == known_id k) (h, each.1) (h, each))

every_without : (P : Known → Type 0) (id : ℕ) (ks : List Known) → Every P ks → Every P (without known_id id ks)
every_without P id [] each = tt
every_without P id (y ∷ ys) each = either (Every P) (known_id y == id) each.1 (each.0, every_without P id ys each.1)

timed_at : (id : ℕ) (ks : List Known) → Every IsKnownTimed ks → IsTimed (stranger_at id ks)
timed_at id [] each = tt
timed_at id (k ∷ ks) each =
    either (λ (o : Option Known). IsTimed (option_map (λ x. x.stranger) o)) (known_id k == id) each.0 (timed_at id ks each.1)

timed_with : (id : ℕ) (s : Option Stranger) (ks : List Known) → IsTimed s → Every IsKnownTimed ks
    → Every IsKnownTimed (with_stranger id s ks)
timed_with id None ks h each = every_without IsKnownTimed id ks each
timed_with id (Some s) ks h each = every_put IsKnownTimed _ ks h each

-- what holds of a stranger that may be none
abbrev IfKnown : (Known → Type 0) → ℕ → Option Stranger → Type 0
IfKnown P id None = Unit {0}
IfKnown P id (Some s) = P (record { id = id; stranger = s })

every_known_if : (P : Known → Type 0) (id : ℕ) (s : Option Stranger) (ks : List Known) → IfKnown P id s → Every P ks
    → Every P (known_if id s ks)
every_known_if P id None ks h each = each
every_known_if P id (Some s) ks h each = (h, each)

if_timed : (id : ℕ) (s : Option Stranger) → IsTimed s → IfKnown IsKnownTimed id s
if_timed id None h = tt
if_timed id (Some s) h = h

module _ (stay : StaysTimed) where
  timed_input : (ps : List Profile) (id : ℕ) (input : Input) (ks : List Known) → Every IsKnownTimed ks
      → Every IsKnownTimed (with_input ps id input ks)
  timed_input ps id input ks each = timed_with id _ ks (stay ps id (stranger_at id ks) (input ∷ []) (timed_at id ks each)) each

  timed_notice : (id : ℕ) (s : Option Stranger) (notice : Notice) → IsTimed s → IsTimed (notes id s notice).stranger
  unfolding stranger_step
  timed_notice id s notice h = stay [] id s (Notes notice ∷ []) h

  timed_noted : (notice : Notice) (ks : List Known) → Every IsKnownTimed ks → Every IsKnownTimed (noted notice ks)
  timed_noted notice [] each = tt
  timed_noted notice (k ∷ ks) each =
      every_known_if IsKnownTimed k.id _ (noted notice ks) (if_timed k.id _ (timed_notice k.id (Some k.stranger) notice each.0))
      (timed_noted notice ks each.1)

  timed_next : (ps : List Profile) (d : Destination) (ks : List Known) → Every IsKnownTimed ks
      → Every IsKnownTimed (strangers_left ps d ks)
  timed_next ps (to.Beginner id m) ks each = timed_input ps id (Begins m) ks each
  timed_next ps (to.Stranger m) ks each = timed_input ps m.mme_ue_id (Receives m) ks each
  timed_next ps (to.Everyone notice) ks each = timed_noted notice ks each
  timed_next ps _ ks each = each

-- ---- the MME

as_many_after : (each : ℕ → Item) (n : ℕ) (xs : List SubscriberView) → length (each_after each n xs) ≡ length xs
as_many_after each n [] = refl
as_many_after each n (x ∷ xs) = ap suc (as_many_after each (n + 1) xs)

pub as_many_fresh : (n : Network) (slot : ℕ) (ps : List Profile) (vs : List (List Vector))
    → length (fresh_subscribers n slot ps vs) ≡ length ps
as_many_fresh n slot [] vs = refl
as_many_fresh n slot (p ∷ ps) vs = ap suc (as_many_fresh n (slot + 1) ps vs)

profiles_after : (each : ℕ → Item) (n : ℕ) (xs : List SubscriberView) → map profile_of (each_after each n xs) ≡ map profile_of xs
profiles_after each n [] = refl
profiles_after each n (x ∷ xs) = ap (λ (ps : List Profile). x.setting.profile ∷ ps) (profiles_after each (n + 1) xs)

networks_after : (m : Network) (each : ℕ → Item) (n : ℕ) (xs : List SubscriberView) → Every (HasNetwork m) xs
    → Every (HasNetwork m) (each_after each n xs)
networks_after m each n [] h = tt
networks_after m each n (x ∷ xs) h = (h.0, networks_after m each (n + 1) xs h.1)

profiles_fresh : (n : Network) (slot : ℕ) (ps : List Profile) (vs : List (List Vector))
    → map profile_of (fresh_subscribers n slot ps vs) ≡ ps
profiles_fresh n slot [] vs = refl
profiles_fresh n slot (p ∷ ps) vs = ap (λ (qs : List Profile). p ∷ qs) (profiles_fresh n (slot + 1) ps vs)

networks_fresh : (n : Network) (slot : ℕ) (ps : List Profile) (vs : List (List Vector))
    → Every (HasNetwork n) (fresh_subscribers n slot ps vs)
networks_fresh n slot [] vs = tt
networks_fresh n slot (p ∷ ps) vs = (refl, networks_fresh n (slot + 1) ps vs)

pub begins_kept : IsInUse fresh_solo → ((s : Setting) → IsSound s fresh_solo) → IsClocked fresh_solo → BeginsKept
unfolding no_stations
begins_kept used sound clocked config p = record {
  stations = length-replicate 128 Down;
  rising = tt;
  timed = tt;
  in_use = fresh_in_use used sound clocked config.network 0 p.profiles p.vectors;
  provisioned = as_many_fresh config.network 0 p.profiles p.vectors;
  profiles = profiles_fresh config.network 0 p.profiles p.vectors;
  networks = networks_fresh config.network 0 p.profiles p.vectors;
}

module _ (used : StaysInUse) (sound : StaysSound) (clocked : StaysClocked) (stay : StaysTimed) where
  moved_kept : (w : World) (event : Event) → IsKept w → IsKept (world_moved w event)
  moved_kept w event h =
      let items = items_of w.sight (strangers_in w) event in
      let d = (happens w.sight event).destination in record {
        stations = placed_many _ _ w.sight.stations ∙ h.stations;
        rising = rising_next w.sight.profiles d w.strangers h.rising;
        timed = timed_next stay w.sight.profiles d w.strangers h.timed;
        in_use = each_in_use used sound clocked items 0 w.subscribers h.in_use;
        provisioned = as_many_after items 0 w.subscribers ∙ h.provisioned;
        profiles = profiles_after items 0 w.subscribers ∙ h.profiles;
        networks = networks_after w.sight.config.network items 0 w.subscribers h.networks;
      }

  pub stays_kept : StaysKept
  stays_kept w [] h = h
  stays_kept w (event ∷ events) h =
      stays_kept (world_after w event) events (either_way IsKept (event_fault w.sight event) h (moved_kept w event h))
