use Rattle.stranger_machine.proofs.Notices.{listed_left}
use Rattle.stranger_machine.proofs.state.Stranger.pass.Goals as goal

pub returns-in-Listed-default : goal.returns-in-Listed-default
returns-in-Listed-default c = λ id. listed_left c.args.notice.now id _ c.args.self.now _ c.in-Listed-default.is-0
