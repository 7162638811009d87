use Rattle.std.proofs.Common.{◌≡◌, ℕ, ◌<◌, Some}
use Rattle.std.specs.Prelude.{slice_get}
use Rattle.identity_slots.specs.declared.profile.Profile.{Profile}
use Rattle.identity_slots.specs.declared.profile.Vector.{Vector}
use Rattle.identity_slots.specs.Provisioned.{vectors_at}
use Rattle.laws_network.specs.Ranges.{ProfileInRange, VectorInRange}
use Rattle.laws_network.proofs.provisioned.provisioned_is_in_range.Given as goal

-- those before the place
abbrev pub invariant-loop-place : goal.invariant-loop-place
invariant-loop-place l = record {
  profiles : (slot : ℕ) (x : Profile) → slot < l.place → slice_get l.provision.profiles slot ≡ Some x → ProfileInRange x;
  vectors : (slot place : ℕ) (v : Vector) → slot < l.place → slice_get (vectors_at slot l.provision.vectors) place ≡ Some v
      → VectorInRange v;
}
