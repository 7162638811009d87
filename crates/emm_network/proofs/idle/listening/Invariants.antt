use Rattle.std.proofs.Common.{◌≡◌, ◌++◌, drop}
use Rattle.emm_network.specs.Idle.{listening}
use Rattle.emm_network.proofs.idle.listening.Given as goal

abbrev pub invariant-loop-number : goal.invariant-loop-number
invariant-loop-number l = l.numbers.items ++ listening l.tai l.number (drop l.number l.states) ≡ listening l.tai 0 l.states
