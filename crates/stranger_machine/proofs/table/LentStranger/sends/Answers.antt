use Rattle.std.proofs.Common.{◌≡◌, []}
use Rattle.std.specs.Prelude.{Some}
use Rattle.stranger_machine.specs.Lent.{lent_now}
use Rattle.stranger_machine.specs.Machine.{notes}
use Rattle.stranger_machine.proofs.Notices.{listed_sent}
use Rattle.stranger_machine.proofs.table.LentStranger.sends.Goals as goal

pub returns-in-Listed-default : goal.returns-in-Listed-default
returns-in-Listed-default c =
    let none : (notes c.args.id (Some (lent_now c.args.self.now)) c.args.notice.now).sent ≡ [] =
    listed_sent c.args.notice.now c.args.id _ (Some (lent_now c.args.self.now)) _ c.in-Listed-default.is-0 in
    cc
