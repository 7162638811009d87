-- What the calls of an MME ensure of what it is given, in the words of `IsAdding` and `IsGiving`.
use Rattle.std.proofs.Common.{◌≡◌, ◌≢◌, ◌↔◌, ℕ, Bool, true, false, cond, Option, Some, None, Result, Ok, Err, IfErr, IfNone, IfSome, OnOk, refl, sym, ◌∙◌, ap}
use Rattle.identity_slots.specs.declared.provision.ProvisionFault.{ProvisionFault}
use Rattle.identity_slots.specs.declared.provision.ProvisionFault.TheVariants.{Full, NoMemory}
use Rattle.mme_owners.specs.Given.{is_stocked_at}
use Rattle.mme_core.specs.Provisioning.{give_fault}
use Rattle.mme_core.specs.World.{World}

-- ---- by the fault that there is

pub free_where_taken : {T : Type 0} (answer : Result T ProvisionFault) (o : Option ProvisionFault)
    → IfSome o (λ fault. answer ≡ Err fault) → OnOk answer (o ≡ None)
free_where_taken (Ok x) None h = refl
free_where_taken (Ok x) (Some fault) h = absurd (cc h)
free_where_taken (Err fault) o h = tt

pub fault_where_refused : {T : Type 0} (answer : Result T ProvisionFault) (o : Option ProvisionFault)
    → IfSome o (λ fault. answer ≡ Err fault) → IfNone o (IfErr answer (λ fault. fault ≡ NoMemory))
    → IfErr answer (λ fault. fault ≢ NoMemory → o ≡ Some fault)
fault_where_refused (Ok x) o h k = tt
fault_where_refused (Err fault) None h k = λ ne. absurd (ne k)
fault_where_refused (Err fault) (Some other) h k = λ ne. cc h

-- ---- full or not

not_full : {T : Type 0} (x : T) (b : Bool) → (cond b (Some Full) None ≡ Some Full → Ok x ≡ Err Full) → cond b (Some Full) None ≡ None
not_full x true h = absurd (cc (h refl))
not_full x false h = refl

pub free_where_given : {T : Type 0} (answer : Result T ProvisionFault) (slot : ℕ) (w : World)
    → ((answer ≡ Err Full) ↔ (give_fault slot w ≡ Some Full)) → OnOk answer (give_fault slot w ≡ None)
free_where_given (Ok x) slot w full = not_full x (is_stocked_at slot w.subscribers) full.1
free_where_given (Err fault) slot w full = tt

pub full_where_refused : {T : Type 0} (answer : Result T ProvisionFault) (slot : ℕ) (w : World)
    → ((answer ≡ Err Full) ↔ (give_fault slot w ≡ Some Full)) → IfErr answer (λ fault. fault ≢ NoMemory → fault ≡ Full)
    → IfErr answer (λ fault. fault ≢ NoMemory → give_fault slot w ≡ Some fault)
full_where_refused (Ok x) slot w full fault = tt
full_where_refused (Err x) slot w full fault =
    λ ne. full.0 (ap (λ (f : ProvisionFault). Err f) (fault ne)) ∙ sym (ap (λ (f : ProvisionFault). Some f) (fault ne))
