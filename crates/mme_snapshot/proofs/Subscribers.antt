-- An MME that is put together, with a subscriber more.
use Rattle.std.proofs.Common.{◌≡◌, ◌≤◌, ◌<◌, ◌+◌, ℕ, List, [], ◌∷◌, ◌++◌, length, true, false, Option, Some, None, Result, Ok, Err, refl, sym, ◌∙◌, ap, arith}
use Rattle.std.specs.Prelude.{nat_lt, option_map}
use Rattle.std.specs.Option.{option_map_or}
use Rattle.std.proofs.lemmas.Bool.Decides.{nat_tests}
use Rattle.std.proofs.lemmas.Option.{same_Some}
use Rattle.per_bits.specs.Formats.{Value}
use Rattle.nas_elements.specs.Digits.{imsi_of}
use Rattle.identity_slots.specs.declared.profile.Profile.{Profile}
use Rattle.identity_slots.specs.declared.provision.ProvisionFault.{ProvisionFault}
use Rattle.identity_slots.specs.Provisioned.{add_fault}
use Rattle.mme_types.specs.declared.network.Network.{Network}
use Rattle.emm_machine.specs.SubscriberView.{SubscriberView}
use Rattle.stranger_machine.specs.declared.table.Known.{Known}
use Rattle.mme_owners.specs.Owners.{OwnersView}
use Rattle.mme_core.specs.Sight.{Sight}
use Rattle.mme_core.specs.World.{World, world_of}
use Rattle.snapshot_formats.specs.Formats.{saved_subscriber}
use Rattle.mme_snapshot.specs.declared.fault.RestoreFault.{RestoreFault}
use Rattle.mme_snapshot.specs.declared.fault.RestoreFault.TheVariants as faults
use Rattle.mme_snapshot.specs.Images.{fits_subscriber, hops_of, is_placed, named_profile, solo_of, subscriber_of, with_subscriber}
use Rattle.mme_snapshot.specs.Restored.{Built, known_or, profile_in, profiled_added, refusal_of, subscriber_added}

-- ---- the profile

module _ (w : World) (v : Value saved_subscriber) where
  abbrev Told : Option (List ℕ) → Result Profile RestoreFault
  Told o =
      option_map_or (λ imsi. known_or (add_fault (named_profile imsi v) w.sight.profiles) (length w.subscribers) (named_profile imsi v))
      o (Err (faults.Subscriber (length w.subscribers)))

  told : (p : Profile) (o : Option (List ℕ)) → Some p ≡ option_map (λ imsi. named_profile imsi v) o
      → Told o ≡ known_or (add_fault p w.sight.profiles) (length w.subscribers) p
  told p None is = absurd (cc is)
  told p (Some imsi) is =
      let same : named_profile imsi v ≡ p = sym (same_Some p (named_profile imsi v) is) in
      ap (λ (q : Profile). known_or (add_fault q w.sight.profiles) (length w.subscribers) q) same

  no_imsi : (o : Option (List ℕ)) → None ≡ option_map (λ imsi. named_profile imsi v) o → Told o ≡ Err (faults.Subscriber (length w.subscribers))
  no_imsi None is = refl
  no_imsi (Some imsi) is = absurd (cc is)

  pub profiled : (p : Profile) → Some p ≡ option_map (λ imsi. named_profile imsi v) (imsi_of v.0)
      → profile_in w v ≡ known_or (add_fault p w.sight.profiles) (length w.subscribers) p
  profiled p is = told p (imsi_of v.0) is

  pub unprofiled : None ≡ option_map (λ imsi. named_profile imsi v) (imsi_of v.0)
      → profile_in w v ≡ Err (faults.Subscriber (length w.subscribers))
  unprofiled is = no_imsi (imsi_of v.0) is

-- ---- the answers, by what was found of it

module _ (most : ℕ) (b : Built) (v : Value saved_subscriber) where
  pub no_imsi_so : None ≡ option_map (λ imsi. named_profile imsi v) (imsi_of v.0)
      → subscriber_added (Some most) b v ≡ Err (faults.Subscriber (length b.world.subscribers))
  no_imsi_so is = rw (unprofiled b.world v is) refl

  module _ (p : Profile) (has : Some p ≡ option_map (λ imsi. named_profile imsi v) (imsi_of v.0)) where
    pub repeated_so : (fault : ProvisionFault) → add_fault p b.world.sight.profiles ≡ Some fault
        → subscriber_added (Some most) b v ≡ Err (faults.Profile (length b.world.subscribers) fault)
    repeated_so fault is = rw (profiled b.world v p has, is) refl

    module _ (fresh : add_fault p b.world.sight.profiles ≡ None) where
      with_it : subscriber_added (Some most) b v ≡ profiled_added (Some most) b v p
      with_it = rw (profiled b.world v p has, fresh) refl

      pub over_so : most < b.hops + hops_of v → subscriber_added (Some most) b v ≡ Err faults.Work
      over_so over =
          let t : nat_lt most (b.hops + hops_of v) ≡ true = grind (arith, nat_tests) in
          with_it ∙ rw t refl

      within : b.hops + hops_of v ≤ most → nat_lt most (b.hops + hops_of v) ≡ false
      within few = grind (arith, nat_tests)

      pub refused_so : (fault : RestoreFault) → b.hops + hops_of v ≤ most
          → refusal_of b.world.strangers (length b.world.subscribers) v ≡ Some fault → subscriber_added (Some most) b v ≡ Err fault
      refused_so fault few is = with_it ∙ rw (within few, is) refl

      pub added_so : b.hops + hops_of v ≤ most → fits_subscriber v ≡ true
          → is_placed b.world.strangers (length b.world.subscribers) (solo_of v).connection ≡ true
          → subscriber_added (Some most) b v ≡ Ok (record { world = with_subscriber b.world p v; hops = b.hops + hops_of v })
      added_so few fits placed = with_it ∙ rw (within few, fits, placed) refl

-- ---- the MME that it makes

pub made_world : (s : Sight) (ps : List Profile) (o q : OwnersView) (shared : Network) (slot : ℕ) (p : Profile) (v : Value saved_subscriber)
    → shared ≡ s.config.network → slot ≡ length o.subscribers → ps ≡ s.profiles ++ p ∷ [] → q.strangers ≡ o.strangers
    → q.subscribers ≡ o.subscribers ++ subscriber_of shared slot p v ∷ []
    → world_of (record { config = s.config; clock = s.clock; stations = s.stations; profiles = ps }) q ≡ with_subscriber (world_of s o) p v
made_world s ps o q shared slot p v network next profiles strangers subscribers =
    ap (λ (qs : List Profile). world_of (record { config = s.config; clock = s.clock; stations = s.stations; profiles = qs }) q) profiles
    ∙ ap (λ (ks : List Known). record {
      sight = record { config = s.config; clock = s.clock; stations = s.stations; profiles = s.profiles ++ p ∷ [] };
      strangers = ks;
      subscribers = q.subscribers;
    }) strangers
    ∙ ap (λ (ws : List SubscriberView). record {
      sight = record { config = s.config; clock = s.clock; stations = s.stations; profiles = s.profiles ++ p ∷ [] };
      strangers = o.strangers;
      subscribers = ws;
    }) (subscribers ∙ ap (λ (n : Network). o.subscribers ++ subscriber_of n slot p v ∷ []) network
    ∙ ap (λ n. o.subscribers ++ subscriber_of s.config.network n p v ∷ []) next)
