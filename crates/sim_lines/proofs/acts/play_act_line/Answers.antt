use Rattle.std.proofs.Common.{◌≡◌, [], length, arith}
use Rattle.sim_lines.proofs.Further.{cut_back}
use Rattle.sim_lines.proofs.acts.play_act_line.Goals as goal

pub returns-in_default-clause-printed : goal.returns-in_default-clause-printed
returns-in_default-clause-printed c =
    let ok = c.args.out.now.ok in
    let n : c.len-before.result ≡ length c.args.out.now.items = omega arith in
    cut_back c.args.number [] c.truncate.new.self.items c.len-before.result c.play_act.ensures.goes n c.truncate.ensures.items
