-- What is stored of a subscriber, where it fits: a state that a phone's machine can be in, with a connection of its own.
use Rattle.std.proofs.Common.{◌≡◌, ◌<◌, ◌++◌, ◌∷◌, [], ℕ, List, length, map, Bool, true, false, Option, Some, None, refl, sym, ◌∙◌, ap, subst}
use Rattle.std.specs.Prelude.{◌&&◌, IfSome}
use Rattle.std.proofs.lemmas.Option.{same_Some}
use Rattle.std.proofs.lemmas.List.{length-map}
use Rattle.per_bits.specs.Formats.{Value}
use Rattle.identity_slots.specs.Ids.{enb_ue_ids, slots}
use Rattle.identity_slots.specs.declared.profile.Profile.{Profile}
use Rattle.mme_types.specs.declared.connection.Connection.{Connection}
use Rattle.mme_types.specs.declared.network.Network.{Network}
use Rattle.emm_state.specs.declared.solo.Solo.{Solo}
use Rattle.emm_machine.specs.SubscriberView.{SubscriberView}
use Rattle.emm_machine.specs.TickLaws.{running_timed}
use Rattle.emm_machine.specs.Ticks.{countdowns}
use Rattle.mme_owners.specs.SubscriberLaws.{timed_in_range}
use Rattle.mme_owners.specs.Subscribers.{IsCounting}
use Rattle.stranger_machine.specs.declared.table.Known.{Known}
use Rattle.laws_apart.specs.Apart.{IdsApart}
use Rattle.laws_subscriber.specs.Clocked.{ClockedRuns, IsClocked}
use Rattle.mme_core.specs.World.{World}
use Rattle.snapshot_formats.specs.Formats.{saved_subscriber}
use Rattle.snapshot_states.specs.Fit.{fits}
use Rattle.snapshot_states.specs.Fitting.{FitsAreClocked, FitsAreInUse, FitsAreSound}
use Rattle.snapshot_states.specs.States.{named_vector}
use Rattle.mme_snapshot.specs.Images.{fits_subscriber, is_placed, setting_of, solo_of, subscriber_of}
use Rattle.mme_snapshot.proofs.Pushed.{IsFit, own, pushed_apart}

pub of_some : {A : Type 0} (P : A → Type 0) (o : Option A) (x : A) → o ≡ Some x → IfSome o P → P x
of_some P o x is h = subst (λ q. IfSome q P) is h

both : (a b : Bool) → a && b ≡ true → (a ≡ true) × (b ≡ true)
both true b h = (refl, h)
both false b h = absurd (cc h)

pub counting : (solo : Solo) → ClockedRuns → IsClocked solo → IsCounting solo
counting solo runs h = timed_in_range (countdowns solo) (running_timed solo (runs solo h))

pub numbered_by : (o : Option Connection) → IfSome o (λ (j : Connection). j.enb_ue_id < enb_ue_ids) → (k : Connection) → o ≡ Some k
    → k.enb_ue_id < enb_ue_ids
numbered_by None numbered k is = absurd (cc is)
numbered_by (Some j) numbered k is = subst (λ (i : Connection). i.enb_ue_id < enb_ue_ids) (same_Some j k is) numbered

pub joins : (ks : List Known) (ws : List SubscriberView) (x : SubscriberView) → length ws < slots → x.setting.slot ≡ length ws
    → IfSome x.solo.connection (λ (j : Connection). j.enb_ue_id < enb_ue_ids)
    → is_placed ks (length ws) x.solo.connection ≡ true → IdsApart ks ws → IdsApart ks (ws ++ x ∷ [])
joins ks ws x room slot numbered placed h =
    pushed_apart ks ws x room slot (λ k on. own ks (length ws) k (numbered_by x.solo.connection numbered k on)
    (ap (is_placed ks (length ws)) (sym on) ∙ placed)) h

module _ (v : Value saved_subscriber) (h : fits_subscriber v ≡ true) where
  state_fits : fits v.1.1.1.1.0 (length v.1.1.1.1.1.0) v.1.1.1.1.1.1.0 ≡ true
  state_fits = (both _ _ h).1

  pub clocked : FitsAreClocked → IsClocked (solo_of v)
  clocked all = all v.1.1.1.1.0 (length v.1.1.1.1.1.0) v.1.1.1.1.1.1.0 state_fits

  pub is_fit : (w : World) (n : Network) (slot : ℕ) (p : Profile) → FitsAreSound → FitsAreClocked → FitsAreInUse
      → n ≡ w.sight.config.network → slot ≡ length w.subscribers
      → ((k : Connection) → (solo_of v).connection ≡ Some k → k.enb_ue_id < enb_ue_ids)
      → is_placed w.strangers (length w.subscribers) (solo_of v).connection ≡ true → IsFit w p (subscriber_of n slot p v)
  is_fit w n slot p sound clock used network next numbered placed =
      let rest = map named_vector v.1.1.1.1.1.0 in
      let many : length rest ≡ length v.1.1.1.1.1.0 = length-map v.1.1.1.1.1.0 named_vector in
      let rest_fits : fits v.1.1.1.1.0 (length rest) v.1.1.1.1.1.1.0 ≡ true =
      ap (λ m. fits v.1.1.1.1.0 m v.1.1.1.1.1.1.0) many ∙ state_fits in
      record {
        used = used v.1.1.1.1.0 (length v.1.1.1.1.1.0) v.1.1.1.1.1.1.0 state_fits;
        sound = sound (setting_of n slot p v) v.1.1.1.1.0 rest v.1.1.1.1.1.1.0 rest_fits refl;
        clocked = clocked clock;
        profile = refl;
        network = network;
        slot = next;
        placed = λ k on. own w.strangers (length w.subscribers) k (numbered k on)
            (ap (is_placed w.strangers (length w.subscribers)) (sym on) ∙ placed);
      }
