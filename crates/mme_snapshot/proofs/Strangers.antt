-- An MME that is put together, with a stranger more.
use Rattle.std.proofs.Common.{◌≡◌, ◌≤◌, ℕ, List, [], ◌∷◌, ◌++◌, true, false, Ok, Err, sym, ◌∙◌, ap, subst}
use Rattle.sorted_list.specs.Ordered.{put}
use Rattle.per_bits.specs.Formats.{Value}
use Rattle.mme_types.specs.declared.network.Network.{Network}
use Rattle.emm_machine.specs.SubscriberView.{SubscriberView}
use Rattle.stranger_machine.specs.declared.table.Known.{Known}
use Rattle.stranger_machine.specs.Table.{known_id}
use Rattle.mme_owners.specs.Owners.{OwnersView}
use Rattle.mme_core.specs.Sight.{Sight}
use Rattle.mme_core.specs.World.{World, world_of}
use Rattle.snapshot_formats.specs.Formats.{saved_stranger}
use Rattle.mme_snapshot.specs.declared.fault.RestoreFault.{RestoreFault}
use Rattle.mme_snapshot.specs.declared.fault.RestoreFault.TheVariants as faults
use Rattle.mme_snapshot.specs.Buildings.{IsBuilding}
use Rattle.mme_snapshot.specs.Images.{fits_stranger, known_of, with_known}
use Rattle.mme_snapshot.specs.Restored.{Built, stranger_added}
use Rattle.mme_snapshot.proofs.Known.{fit, known_apart, known_kept, put_last}

module _ (s : Sight) (o q : OwnersView) (v : Value saved_stranger) where
  with_it : fits_stranger o.strangers v ≡ true → q.strangers ≡ put known_id (known_of v) o.strangers → q.subscribers ≡ o.subscribers
      → world_of s q ≡ with_known (world_of s o) v
  with_it fits strangers subscribers =
      let pushed : q.strangers ≡ o.strangers ++ known_of v ∷ [] =
      strangers ∙ put_last (known_of v) o.strangers (fit o.strangers v fits).below in
      ap (λ (ks : List Known). record { sight = s; strangers = ks; subscribers = q.subscribers }) pushed
      ∙ ap (λ (ws : List SubscriberView). record { sight = s; strangers = o.strangers ++ known_of v ∷ []; subscribers = ws }) subscribers

  pub still_building : (shared : Network) → IsBuilding shared o.clock (world_of s o) → fits_stranger o.strangers v ≡ true
      → o.subscribers ≡ [] → q.clock ≡ o.clock → q.strangers ≡ put known_id (known_of v) o.strangers → q.subscribers ≡ o.subscribers
      → IsBuilding shared q.clock (world_of s q)
  still_building shared h fits none clock strangers subscribers =
      let f = fit o.strangers v fits in
      subst (IsBuilding shared q.clock) (sym (with_it fits strangers subscribers)) (record {
        kept = known_kept (world_of s o) v f h.kept;
        apart = known_apart o.strangers o.subscribers v f none h.apart;
        clock = subst (λ t. t ≤ s.clock) (sym clock) h.clock;
        network = h.network;
      })

  pub added_so : (b : Built) (hops : ℕ) → record { world = world_of s o; hops = hops } ≡ b → fits_stranger o.strangers v ≡ true
      → q.strangers ≡ put known_id (known_of v) o.strangers → q.subscribers ≡ o.subscribers
      → stranger_added b v ≡ Ok (record { world = world_of s q; hops = hops })
  added_so b hops view fits strangers subscribers =
      subst (λ (x : Built). stranger_added x v ≡ Ok (record { world = world_of s q; hops = hops })) view
      (rw fits (ap (λ (w : World). Ok (record { world = w; hops = hops })) (sym (with_it fits strangers subscribers))))

  pub refused_so : (b : Built) (hops : ℕ) (fault : RestoreFault) → record { world = world_of s o; hops = hops } ≡ b
      → fits_stranger o.strangers v ≡ false → fault ≡ faults.Stranger v.0 → stranger_added b v ≡ Err fault
  refused_so b hops fault view unfit is =
      subst (λ (x : Built). stranger_added x v ≡ Err fault) view (rw unfit (ap (λ (f : RestoreFault). Err f) (sym is)))
