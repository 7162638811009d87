-- A subscriber more, in a state that fits, whose connection is its own.
use Rattle.std.proofs.Common.{◌≡◌, ◌⊎◌, inl, inr, ℕ, zero, suc, ◌+◌, ◌<◌, ◌≤◌, List, [], ◌∷◌, ◌++◌, length, Bool, true, false, Option, Some, None, refl, sym, ◌∙◌, ap, subst, arith}
use Rattle.std.specs.Prelude.{◌==◌, ◌&&◌, ◌||◌, map, slice_get}
use Rattle.std.proofs.lemmas.Bool.Decides.{nat_tests}
use Rattle.std.proofs.lemmas.List.{length_push}
use Rattle.std.proofs.lemmas.Option.{same_Some}
use Rattle.sorted_list.specs.Ordered.{Every}
use Rattle.identity_slots.specs.declared.profile.Profile.{Profile}
use Rattle.identity_slots.specs.Ids.{enb_ue_ids, slot_in, slots, stranger_id}
use Rattle.mme_types.specs.declared.connection.Connection.{Connection}
use Rattle.mme_types.specs.declared.network.Network.{Network}
use Rattle.emm_machine.specs.Freshness.{IsInUse}
use Rattle.emm_machine.specs.SubscriberView.{SubscriberView}
use Rattle.stranger_machine.specs.declared.state.KeptEntry.{KeptEntry}
use Rattle.stranger_machine.specs.declared.state.Stranger.{Stranger}
use Rattle.stranger_machine.specs.declared.state.Stranger.TheVariants.{Waiting, Held}
use Rattle.stranger_machine.specs.declared.table.Known.{Known}
use Rattle.stranger_machine.specs.Table.{stranger_at}
use Rattle.mme_owners.specs.Placed.{AreApart, place_if}
use Rattle.laws_subscriber.specs.Clocked.{IsClocked}
use Rattle.laws_subscriber.specs.Sound.{IsSound}
use Rattle.laws_apart.specs.Apart.{IdsApart, IsApart, NoTwoShare, NoneHasWaiting, by_id}
use Rattle.mme_core.specs.FreshRuns.{AreInUse}
use Rattle.mme_core.specs.Kept.{HasNetwork, IsKept, profile_of}
use Rattle.mme_core.specs.Provisioning.{sight_added}
use Rattle.mme_core.specs.World.{World}
use Rattle.mme_snapshot.specs.Images.{is_held_by, is_placed}

-- ---- the list

in_use_push : (ws : List SubscriberView) (x : SubscriberView) → IsInUse x.solo → IsSound x.setting x.solo → IsClocked x.solo
    → AreInUse ws → AreInUse (ws ++ x ∷ [])
in_use_push [] x used sound clocked h = (used, sound, clocked, tt)
in_use_push (w ∷ ws) x used sound clocked h = (h.0, h.1, h.2, in_use_push ws x used sound clocked h.3)

profiles_push : (ws : List SubscriberView) (x : SubscriberView) → map profile_of (ws ++ x ∷ []) ≡ map profile_of ws ++ profile_of x ∷ []
profiles_push [] x = refl
profiles_push (w ∷ ws) x = ap (λ (ps : List Profile). w.setting.profile ∷ ps) (profiles_push ws x)

networks_push : (n : Network) (ws : List SubscriberView) (x : SubscriberView) → HasNetwork n x → Every (HasNetwork n) ws
    → Every (HasNetwork n) (ws ++ x ∷ [])
networks_push n [] x one h = (one, tt)
networks_push n (w ∷ ws) x one h = (h.0, networks_push n ws x one h.1)

-- who stands at a place stood there before, or is the last one
pushed : (ws : List SubscriberView) (slot : ℕ) (y x : SubscriberView) → slice_get (ws ++ y ∷ []) slot ≡ Some x
    → (slice_get ws slot ≡ Some x) ⊎ ((slot ≡ length ws) × (x ≡ y))
pushed [] zero y x at = inr (refl, sym (same_Some y x at))
pushed [] (suc slot) y x at = absurd (cc at)
pushed (w ∷ ws) zero y x at = inl at
pushed (w ∷ ws) (suc slot) y x at = elim (pushed ws slot y x at) [
  | inl before ↦ inl before
  | inr last ↦ inr (ap suc last.0, last.1)
]

-- ---- its connection

held : (slot : ℕ) (o : Option Stranger) → is_held_by slot o ≡ true → o ≡ Some (Held slot)
held slot None h = absurd (cc h)
held slot (Some (Waiting kept left repeats)) h = absurd (cc h)
held slot (Some (Held other)) h = let same : other ≡ slot = grind (arith, nat_tests) in ap (λ n. Some (Held n)) same

own_or : (ks : List Known) (slot : ℕ) (k : Connection) (b c : Bool) → (slot_in k.id == slot) ≡ b
    → (k.id == stranger_id k.station k.enb_ue_id) ≡ c → k.enb_ue_id < enb_ue_ids
    → b || (c && is_held_by slot (stranger_at k.id ks)) ≡ true → IsApart (by_id ks) slot k
own_or ks slot k true c own made fits h = inl (grind (arith, nat_tests))
own_or ks slot k false true own made fits h =
    inr (record { made = grind (arith, nat_tests); fits = fits }, held slot (stranger_at k.id ks) h)
own_or ks slot k false false own made fits h = absurd (cc h)

pub own : (ks : List Known) (slot : ℕ) (k : Connection) → k.enb_ue_id < enb_ue_ids → is_placed ks slot (Some k) ≡ true
    → IsApart (by_id ks) slot k
own ks slot k fits h = own_or ks slot k (slot_in k.id == slot) (k.id == stranger_id k.station k.enb_ue_id) refl refl fits h

-- ---- the MME with it

abbrev pub pushed_world : World → Profile → SubscriberView → World
pushed_world w p x = record { sight = sight_added p w.sight; strangers = w.strangers; subscribers = w.subscribers ++ x ∷ [] }

pub record IsFit (w : World) (p : Profile) (x : SubscriberView) : Type 0 where
  pub used : IsInUse x.solo
  pub sound : IsSound x.setting x.solo
  pub clocked : IsClocked x.solo
  pub profile : x.setting.profile ≡ p
  pub network : x.setting.network ≡ w.sight.config.network
  pub slot : x.setting.slot ≡ length w.subscribers
  pub placed : (k : Connection) → x.solo.connection ≡ Some k → IsApart (by_id w.strangers) (length w.subscribers) k

pub pushed_kept : (w : World) (p : Profile) (x : SubscriberView) → IsFit w p x → IsKept w → IsKept (pushed_world w p x)
pushed_kept w p x f h = record {
  stations = h.stations;
  rising = h.rising;
  timed = h.timed;
  in_use = in_use_push w.subscribers x f.used f.sound f.clocked h.in_use;
  provisioned = length_push w.subscribers x ∙ ap (λ n. n + 1) h.provisioned ∙ sym (length_push w.sight.profiles p);
  profiles = profiles_push w.subscribers x ∙ ap (λ (ps : List Profile). ps ++ profile_of x ∷ []) h.profiles
      ∙ ap (λ (q : Profile). w.sight.profiles ++ q ∷ []) f.profile;
  networks = networks_push w.sight.config.network w.subscribers x f.network h.networks;
}

pub pushed_apart : (ks : List Known) (ws : List SubscriberView) (x : SubscriberView) → length ws < slots
    → x.setting.slot ≡ length ws
    → ((k : Connection) → x.solo.connection ≡ Some k → IsApart (by_id ks) (length ws) k) → IdsApart ks ws
    → IdsApart ks (ws ++ x ∷ [])
pushed_apart ks ws x room slot placed h = record {
  few = subst (λ n. n ≤ slots) (sym (length_push ws x)) (omega (arith, room));
  numbered = λ n y at. elim (pushed ws n x y at) [
    | inl before ↦ h.numbered n y before
    | inr last ↦ ap (λ (z : SubscriberView). z.setting.slot) last.1 ∙ slot ∙ sym last.0
  ];
  rising = h.rising;
  waiting = h.waiting;
  apart = λ n y k at on. elim (pushed ws n x y at) [
    | inl before ↦ h.apart n y k before on
    | inr last ↦ subst (λ m. IsApart (by_id ks) m k) (sym last.0)
        (placed k (sym (ap (λ (z : SubscriberView). z.solo.connection) last.1) ∙ on))
  ];
}

-- ---- no two have one id

waits_by : (id : ℕ) (o : Option Stranger)
    → ((kept : KeptEntry) (left repeats : ℕ) → o ≡ Some (Waiting kept left repeats) → ⊥) → place_if id o ≡ None
waits_by id None none = refl
waits_by id (Some (Held slot)) none = refl
waits_by id (Some (Waiting kept left repeats)) none = absurd (none kept left repeats refl)

pub are_apart : (ks : List Known) (ws : List SubscriberView) → NoTwoShare → NoneHasWaiting → IdsApart ks ws → AreApart ks ws
are_apart ks ws two none h = record {
  two = λ i j k l here there same. two ks ws i j k l h here there same;
  waiting = λ i k here. waits_by k.id (stranger_at k.id ks) (λ kept left repeats is. none ks ws i k kept left repeats h here is);
}
