-- The first part of a key decides.
use Rattle.std.proofs.Common.{◌^◌, arith}
use Rattle.sorted_list.specs.Paired.{paired, paired_short, IsOrder}

pub long : IsOrder (2 ^ 64) paired
long a b c d p q = ((λ h. omega (arith, h, p, q)), (λ h. omega (arith, h)), (λ e. (omega (arith, e, p, q), omega (arith, e, p, q))))

pub short : IsOrder (2 ^ 32) paired_short
short a b c d p q = ((λ h. omega (arith, h, p, q)), (λ h. omega (arith, h)), (λ e. (omega (arith, e, p, q), omega (arith, e, p, q))))
