-- A subscriber more for an MME that is put together, by what each call found of it.
use Rattle.std.proofs.Common.{◌≡◌, ◌≢◌, ◌≤◌, ◌<◌, ◌+◌, ◌^◌, ◌∷◌, ◌++◌, [], ℕ, List, length, true, Option, Some, None, Result, Ok, Err, refl, sym, ◌∙◌, ap, subst, arith}
use Rattle.std.specs.Prelude.{IfNone, IfSome, option_map}
use Rattle.std.proofs.lemmas.List.{length_push}
use Rattle.per_bits.specs.Formats.{Value}
use Rattle.nas_elements.specs.Digits.{imsi_of}
use Rattle.identity_slots.specs.Ids.{enb_ue_ids}
use Rattle.identity_slots.specs.declared.profile.Profile.{Profile}
use Rattle.identity_slots.specs.declared.provision.ProvisionFault.{ProvisionFault}
use Rattle.identity_slots.specs.declared.provision.ProvisionFault.TheVariants.{NoMemory}
use Rattle.identity_slots.specs.Provisioned.{add_fault}
use Rattle.mme_types.specs.declared.connection.Connection.{Connection}
use Rattle.mme_types.specs.declared.network.Network.{Network}
use Rattle.emm_machine.specs.SubscriberView.{SubscriberView}
use Rattle.mme_owners.specs.Owners.{OwnersView}
use Rattle.laws_apart.specs.Apart.{IdsApart}
use Rattle.mme_core.specs.Kept.{IsKept}
use Rattle.mme_core.specs.Sight.{Sight}
use Rattle.mme_core.specs.World.{World, world_of}
use Rattle.snapshot_formats.specs.Formats.{saved_subscriber}
use Rattle.snapshot_states.specs.Fitting.{FitsAreClocked, FitsAreInUse, FitsAreSound}
use Rattle.mme_snapshot.specs.declared.fault.RestoreFault.{RestoreFault}
use Rattle.mme_snapshot.specs.declared.fault.RestoreFault.TheVariants as faults
use Rattle.mme_snapshot.specs.Buildings.{IsBuilding}
use Rattle.mme_snapshot.specs.Images.{fits_subscriber, hops_of, is_placed, named_profile, solo_of, subscriber_of, with_subscriber}
use Rattle.mme_snapshot.specs.Restored.{Built, refusal_of, subscriber_added}
use Rattle.mme_snapshot.proofs.Fitting.{is_fit, numbered_by}
use Rattle.mme_snapshot.proofs.Pushed.{IsFit, pushed_kept}
use Rattle.mme_snapshot.proofs.Subscribers.{added_so, made_world, no_imsi_so, over_so, refused_so, repeated_so}

-- ---- whether it could be provisioned

pub fault_told : (o : Option ProvisionFault) (r : Result ℕ ProvisionFault) (fault : ProvisionFault) → r ≡ Err fault
    → IfSome o (λ (f : ProvisionFault). r ≡ Err f) → IfNone o (fault ≡ NoMemory) → fault ≢ NoMemory → o ≡ Some fault
fault_told None r fault is some none other = absurd (other none)
fault_told (Some f) r fault is some none other =
    let told : r ≡ Err f = some in
    let same : f ≡ fault = cc (told, is) in
    ap (λ (g : ProvisionFault). Some g) same

pub none_told : (o : Option ProvisionFault) (r : Result ℕ ProvisionFault) (slot : ℕ) → r ≡ Ok slot
    → IfSome o (λ (f : ProvisionFault). r ≡ Err f) → o ≡ None
none_told None r slot is some = refl
none_told (Some f) r slot is some = let told : r ≡ Err f = some in absurd (cc (told, is))

-- ---- whether its next hops are within the limit

pub over_sum : (most hops more stored n : ℕ) → most < n → n ≡ hops + more → more ≡ stored → most < hops + stored
over_sum most hops more stored n over sum same = omega arith

pub over_fit : (most hops more stored : ℕ) → (hops + more < 2 ^ 64 → ⊥) → most < 2 ^ 64 → more ≡ stored → most < hops + stored
over_fit most hops more stored over fits same = omega arith

-- ---- why it is refused

abbrev pub so_far : Sight → OwnersView → ℕ → Built
so_far s o hops = record { world = world_of s o; hops = hops }

module _ (most : ℕ) (s : Sight) (o : OwnersView) (hops : ℕ) (b : Built) (v : Value saved_subscriber) (view : so_far s o hops ≡ b) where
  pub no_imsi_at : (slot : ℕ) → slot ≡ length o.subscribers → None ≡ option_map (λ imsi. named_profile imsi v) (imsi_of v.0)
      → subscriber_added (Some most) b v ≡ Err (faults.Subscriber slot)
  no_imsi_at slot next is =
      subst (λ (x : Built). subscriber_added (Some most) x v ≡ Err (faults.Subscriber slot)) view
      (subst (λ (n : ℕ). subscriber_added (Some most) (so_far s o hops) v ≡ Err (faults.Subscriber n)) (sym next)
      (no_imsi_so most (so_far s o hops) v is))

  module _ (p : Profile) (has : Some p ≡ option_map (λ imsi. named_profile imsi v) (imsi_of v.0)) where
    pub repeated_at : (slot : ℕ) (fault : ProvisionFault) → slot ≡ length o.subscribers → add_fault p s.profiles ≡ Some fault
        → subscriber_added (Some most) b v ≡ Err (faults.Profile slot fault)
    repeated_at slot fault next is =
        subst (λ (x : Built). subscriber_added (Some most) x v ≡ Err (faults.Profile slot fault)) view
        (subst (λ (n : ℕ). subscriber_added (Some most) (so_far s o hops) v ≡ Err (faults.Profile n fault)) (sym next)
        (repeated_so most (so_far s o hops) v p has fault is))

    module _ (fresh : add_fault p s.profiles ≡ None) where
      pub over_at : most < hops + hops_of v → subscriber_added (Some most) b v ≡ Err faults.Work
      over_at over =
          subst (λ (x : Built). subscriber_added (Some most) x v ≡ Err faults.Work) view
          (over_so most (so_far s o hops) v p has fresh over)

      pub refused_at : (slot : ℕ) (fault : RestoreFault) → slot ≡ length o.subscribers → hops + hops_of v ≤ most
          → refusal_of o.strangers slot v ≡ Some fault → subscriber_added (Some most) b v ≡ Err fault
      refused_at slot fault next few is =
          subst (λ (x : Built). subscriber_added (Some most) x v ≡ Err fault) view
          (refused_so most (so_far s o hops) v p has fresh fault few
          (subst (λ (n : ℕ). refusal_of o.strangers n v ≡ Some fault) next is))

-- ---- what it makes of the MME

-- those who are provisioned, in what every owner may see
abbrev pub sight_with : Sight → List Profile → Sight
sight_with s ps = record { config = s.config; clock = s.clock; stations = s.stations; profiles = ps }

-- it was provisioned, and has the next slot and a connection of its own
pub record IsJoined (s : Sight) (ps : List Profile) (o q : OwnersView) (shared : Network) (slot : ℕ) (p : Profile)
    (v : Value saved_subscriber) : Type 0 where
  pub next : slot ≡ length o.subscribers
  pub profiles : ps ≡ s.profiles ++ p ∷ []
  pub clock : q.clock ≡ o.clock
  pub strangers : q.strangers ≡ o.strangers
  pub subscribers : q.subscribers ≡ o.subscribers ++ subscriber_of shared slot p v ∷ []
  pub fits : fits_subscriber v ≡ true
  pub placed : is_placed o.strangers slot (solo_of v).connection ≡ true
  pub numbered : IfSome (solo_of v).connection (λ (k : Connection). k.enb_ue_id < enb_ue_ids)
  pub apart : IdsApart q.strangers q.subscribers

module _ (s : Sight) (ps : List Profile) (o q : OwnersView) (shared : Network) (slot : ℕ) (p : Profile) (v : Value saved_subscriber)
    (j : IsJoined s ps o q shared slot p v) where
  after : shared ≡ s.config.network → world_of (sight_with s ps) q ≡ with_subscriber (world_of s o) p v
  after network = made_world s ps o q shared slot p v network j.next j.profiles j.strangers j.subscribers

  placed_next : is_placed o.strangers (length o.subscribers) (solo_of v).connection ≡ true
  placed_next = subst (λ (n : ℕ). is_placed o.strangers n (solo_of v).connection ≡ true) j.next j.placed

  pub joined_building : IsBuilding shared o.clock (world_of s o) → FitsAreSound → FitsAreClocked → FitsAreInUse
      → IsBuilding shared q.clock (world_of (sight_with s ps) q)
  joined_building h sound clocked used =
      let x : SubscriberView = subscriber_of s.config.network (length o.subscribers) p v in
      let fit : IsFit (world_of s o) p x =
      is_fit v j.fits (world_of s o) s.config.network (length o.subscribers) p sound clocked used refl refl
      (numbered_by (solo_of v).connection j.numbered) placed_next in
      record {
        kept = subst (λ (w : World). IsKept w) (sym (after h.network)) (pushed_kept (world_of s o) p x fit h.kept);
        apart = j.apart;
        clock = subst (λ (t : ℕ). t ≤ s.clock) (sym j.clock) h.clock;
        network = h.network;
      }

  pub joined_so : (most hops all : ℕ) (b : Built) → so_far s o hops ≡ b → shared ≡ s.config.network
      → Some p ≡ option_map (λ imsi. named_profile imsi v) (imsi_of v.0) → add_fault p s.profiles ≡ None → all ≡ hops + hops_of v
      → all ≤ most → subscriber_added (Some most) b v ≡ Ok (record { world = world_of (sight_with s ps) q; hops = all })
  joined_so most hops all b view network has fresh sum few =
      let within : hops + hops_of v ≤ most = subst (λ (n : ℕ). n ≤ most) sum few in
      let added = added_so most (so_far s o hops) v p has fresh within j.fits placed_next in
      subst (λ (x : Built). subscriber_added (Some most) x v ≡ Ok (record { world = world_of (sight_with s ps) q; hops = all })) view
      (subst (λ (n : ℕ). subscriber_added (Some most) (so_far s o hops) v ≡ Ok (record { world = world_of (sight_with s ps) q; hops = n }))
      (sym sum)
      (subst (λ (w : World). subscriber_added (Some most) (so_far s o hops) v ≡ Ok (record { world = w; hops = hops + hops_of v }))
      (sym (after network)) added))

  pub joined_count : length q.subscribers ≡ length o.subscribers + 1
  joined_count =
      ap (λ (ws : List SubscriberView). length ws) j.subscribers ∙ length_push o.subscribers (subscriber_of shared slot p v)
