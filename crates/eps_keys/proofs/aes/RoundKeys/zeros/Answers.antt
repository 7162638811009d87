use Rattle.std.proofs.Common.{ap, arith, map}
use Rattle.eps_keys.specs.Lanes.{masked, moved, moved_key}
use Rattle.eps_keys.proofs.Octets.{octets_block}
use Rattle.eps_keys.proofs.OfZeros.{key_1, key_2, key_3, key_4, key_5, key_6, key_7, key_8, key_9, key_10}
use Rattle.eps_keys.proofs.aes.RoundKeys.zeros.Goals as goal

pub invariant_of-result : goal.invariant_of-result
unfolding moved
invariant_of-result c = record {
  octets = octets_block (λ _. 0) (λ _. omega arith);
  kept_1 = ap (map moved_key) key_1;
  kept_2 = ap (map moved_key) key_2;
  kept_3 = ap (map moved_key) key_3;
  kept_4 = ap (map moved_key) key_4;
  kept_5 = ap (map moved_key) key_5;
  kept_6 = ap (map moved_key) key_6;
  kept_7 = ap (map moved_key) key_7;
  kept_8 = ap (map moved_key) key_8;
  kept_9 = ap (map moved_key) key_9;
  last = ap (map masked) key_10;
}
