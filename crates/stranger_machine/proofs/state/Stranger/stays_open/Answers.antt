use Rattle.std.proofs.Common.{sym, ◌∙◌, ap}
use Rattle.std.specs.Prelude.{not}
use Rattle.stranger_machine.proofs.Notices.{listed_open}
use Rattle.stranger_machine.proofs.state.Stranger.stays_open.Goals as goal

pub returns-in-Listed-default : goal.returns-in-Listed-default
returns-in-Listed-default c =
    ap not c.is_meant.ensures ∙ sym (listed_open c.args.notice.now c.args.id _ c.args.self.now _ c.in-Listed-default.is-0)
