use Rattle.std.proofs.Common.{◌≡◌}
use Rattle.eps_keys.specs.Hmac.{hop_at}
use Rattle.eps_keys.proofs.kasme.Kasme.hop_at.Given as goal

abbrev pub invariant-loop-passed : goal.invariant-loop-passed
invariant-loop-passed l = l.hop ≡ hop_at l.passed l.fn.self l.fn.first
