-- Which parts an MME has, why one isn't saved, and what octets are restored to.
use Rattle.std.proofs.Common.{◌≡◌, ◌⊎◌, inl, inr, ℕ, ◌<◌, ◌≤◌, true, false, List, [], Option, Some, None, Ok, Err, refl, sym, ap, ◌∙◌, arith}
use Rattle.std.specs.Prelude.{◌≢◌, ◌↔◌, nat_lt, IsNone, is_some}
use Rattle.std.proofs.lemmas.Bool.Decides.{leb_tells, nat_tests}
use lib.Dec.{leb}
use Rattle.emm_machine.specs.declared.subscriber.States.{States}
use Rattle.mme_core.specs.World.{World}
use Rattle.mme_snapshot.specs.declared.fault.RestoreFault.{RestoreFault}
use Rattle.mme_snapshot.specs.declared.fault.RestoreFault.TheVariants as restore
use Rattle.mme_snapshot.specs.declared.fault.SaveFault.{SaveFault}
use Rattle.mme_snapshot.specs.declared.fault.SaveFault.TheVariants as save
use Rattle.mme_snapshot.specs.Restored.{restored, restored_within}
use Rattle.trace_progress.specs.declared.progress.Progress.TheVariants.{Running}
use Rattle.c_session.specs.declared.refusal.Refusal.TheVariants.{NoMemory, NotSaved}
use Rattle.mme_c.specs.Snapshots.{IsResumed, fault_of, of_save, resumed}

-- somebody has a slot where there are states of it
pub known_slot : (o : Option States) (slot n : ℕ) → IsNone o ↔ (n ≤ slot) → is_some o ≡ nat_lt slot n
known_slot None slot n h = let low : n ≤ slot = h.0 refl in grind (arith, nat_tests)
known_slot (Some states) slot n h = by (leb_tells n slot)
  where
    by : ((leb n slot ≡ true) × (n ≤ slot)) ⊎ ((leb n slot ≡ false) × (slot < n)) → true ≡ nat_lt slot n
    by (inl low) = absurd (let never = h.1 low.1 in cc never)
    by (inr high) = let below = high.1 in grind (arith, nat_tests)

-- why a part isn't saved
pub not_saved : (fault : SaveFault) → (of_save fault ≡ NoMemory) ⊎ (of_save fault ≡ NotSaved)
not_saved save.First = inr refl
not_saved (save.Stranger id) = inr refl
not_saved (save.Subscriber slot) = inr refl
not_saved save.NoMemory = inl refl

-- ---- what is restored

pub resumed_kept : (octets : List ℕ) (work : ℕ) (w : World) → restored octets ≡ Ok w → restored_within (Some work) octets ≡ Ok w
    → IsResumed octets work (Ok (record { progress = Running w; replies = [] }))
resumed_kept octets work w h within = (ap resumed h, within ∙ sym h)

pub resumed_refused : (octets : List ℕ) (work : ℕ) (fault : RestoreFault)
    → (fault ≢ restore.NoMemory → fault ≢ restore.Work → restored octets ≡ Err fault)
    → (fault ≡ restore.Work → restored_within (Some work) octets ≡ Err restore.Work) → IsResumed octets work (Err (fault_of fault))
resumed_refused octets work restore.Work h k = inr (inl (refl, k refl))
resumed_refused octets work restore.NoMemory h k = inr (inr refl)
resumed_refused octets work (restore.Version v) h k = inl (ap resumed (h (λ e. absurd (cc e)) (λ e. absurd (cc e))))
resumed_refused octets work restore.Octets h k = inl (ap resumed (h (λ e. absurd (cc e)) (λ e. absurd (cc e))))
resumed_refused octets work restore.More h k = inl (ap resumed (h (λ e. absurd (cc e)) (λ e. absurd (cc e))))
resumed_refused octets work restore.Network h k = inl (ap resumed (h (λ e. absurd (cc e)) (λ e. absurd (cc e))))
resumed_refused octets work (restore.Profile slot why) h k = inl (ap resumed (h (λ e. absurd (cc e)) (λ e. absurd (cc e))))
resumed_refused octets work (restore.Subscriber slot) h k = inl (ap resumed (h (λ e. absurd (cc e)) (λ e. absurd (cc e))))
resumed_refused octets work (restore.Stranger id) h k = inl (ap resumed (h (λ e. absurd (cc e)) (λ e. absurd (cc e))))
resumed_refused octets work (restore.Id slot) h k = inl (ap resumed (h (λ e. absurd (cc e)) (λ e. absurd (cc e))))
