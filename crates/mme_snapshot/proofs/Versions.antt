-- The version of octets, and what they restore to by it.
use Rattle.std.proofs.Common.{◌≡◌, ◌≢◌, ℕ, List, Bool, cond, Option, Result, Ok, Err, sym, ◌∙◌, ap}
use Rattle.std.specs.Prelude.{◌==◌, if◌then◌else◌}
use Rattle.std.proofs.lemmas.Bool.{eq-eqb, ne_eqb}
use Rattle.per_streams.specs.declared.fault.PerFault.{PerFault}
use Rattle.per_streams.specs.Bits.{Place, start}
use Rattle.per_bits.specs.Formats.{Value, number}
use Rattle.mme_core.specs.World.{World}
use Rattle.mme_snapshot.specs.declared.fault.RestoreFault.{RestoreFault}
use Rattle.mme_snapshot.specs.declared.fault.RestoreFault.TheVariants as faults
use Rattle.mme_snapshot.specs.Restored.{◌>=>◌, as_octets, body_at, part_at, restored_within, version}

module _ (most : Option ℕ) (octets : List ℕ) (first : Place) (here : first ≡ start octets) where
  abbrev by_version : Result (Value (number 0 255) × Place) RestoreFault → Result World RestoreFault
  by_version r = r >=> λ v. if v.0 == version then body_at most v.1 else Err (faults.Version v.0)

  as_read : restored_within most octets ≡ by_version (as_octets (part_at (number 0 255) first))
  unfolding restored_within
  as_read = ap (λ (s : Place). by_version (as_octets (part_at (number 0 255) s))) (sym here)

  pub no_version_so : (fault : RestoreFault) → as_octets (part_at (number 0 255) first) ≡ Err fault → restored_within most octets ≡ Err fault
  no_version_so fault is = as_read ∙ ap by_version is

  module _ (n got : ℕ) (p : Place) (read : part_at (number 0 255) first ≡ Ok (n, p)) (is : got ≡ n) where
    with_version : restored_within most octets ≡ cond (got == version) (body_at most p) (Err (faults.Version got))
    with_version =
        as_read ∙ ap (λ (r : Result (Value (number 0 255) × Place) PerFault). by_version (as_octets r)) read
        ∙ ap (λ m. cond (m == version) (body_at most p) (Err (faults.Version m))) (sym is)

    pub other_version_so : got ≢ version → restored_within most octets ≡ Err (faults.Version got)
    other_version_so other =
        with_version ∙ ap (λ (b : Bool). cond b (body_at most p) (Err (faults.Version got))) (ne_eqb got version other)

    pub this_version_so : got ≡ version → restored_within most octets ≡ body_at most p
    this_version_so this =
        with_version ∙ ap (λ (b : Bool). cond b (body_at most p) (Err (faults.Version got))) (eq-eqb got version this)

-- Work is the answer to hops, and not to memory
pub not_memory : (fault : RestoreFault) → fault ≡ faults.Work → fault ≢ faults.NoMemory
not_memory fault work memory = absurd (cc (work, memory))
