use Rattle.std.proofs.Common.{◌+◌, ap}
use Rattle.mme_core.specs.Sight.{Sight}
use Rattle.mme_core.proofs.mme.Surroundings.pass_silently.Goals as goal

pub returns-clause-moved : goal.returns-clause-moved
returns-clause-moved c = ap (λ (s : Sight). record s { clock = s.clock + 1 }) c.self.view_is
