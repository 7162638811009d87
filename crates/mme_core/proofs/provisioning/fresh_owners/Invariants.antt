use Rattle.std.proofs.Common.{◌≡◌, ◌≤◌, ◌++◌, [], ℕ, drop, length}
use Rattle.identity_slots.specs.Provisioned.{vectors_at}
use Rattle.mme_core.specs.World.{fresh_subscribers}
use Rattle.mme_core.proofs.provisioning.fresh_owners.Given as goal

-- who was made, and who is left with the vectors given
abbrev pub invariant-loop-place : goal.invariant-loop-place
invariant-loop-place l = record {
  clock : l.owners.clock ≡ 0;
  strangers : l.owners.strangers ≡ [];
  made : l.owners.subscribers
      ++ fresh_subscribers l.fn.network l.place (drop l.place l.fn.provision.profiles) l.fn.provision.vectors
      ≡ fresh_subscribers l.fn.network 0 l.fn.provision.profiles l.fn.provision.vectors;
  count : length l.owners.subscribers ≡ l.place;
  profiles : l.provision.profiles ≡ l.fn.provision.profiles;
  left : (k : ℕ) → l.place ≤ k → vectors_at k l.provision.vectors ≡ vectors_at k l.fn.provision.vectors;
}
