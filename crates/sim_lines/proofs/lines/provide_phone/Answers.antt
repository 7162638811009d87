use Rattle.std.proofs.Common.{◌≡◌, length, arith}
use Rattle.trace_words.specs.declared.line.Line.TheVariants.{Sub}
use Rattle.sim_lines.proofs.Further.{cut_line, refused_line}
use Rattle.sim_lines.proofs.lines.provide_phone.Goals as goal

pub returns-in-Err-clause-printed : goal.returns-in-Err-clause-printed
returns-in-Err-clause-printed c =
    refused_line c.args.number (Sub c.args.profile) c.args.script.now.progress c.play_sub.new.progress c.args.out.now.items
    c.play_sub.new.out.items c.in-Err.fault c.in-Err.ensures.printed

pub returns-in-Err-add_phone-clause-printed : goal.returns-in-Err-add_phone-clause-printed
returns-in-Err-add_phone-clause-printed c =
    let ok = c.args.out.now.ok in
    let n : c.len-before.result ≡ length c.args.out.now.items = omega arith in
    cut_line c.args.number (Sub c.args.profile) c.args.script.now.progress c.play_sub.new.progress c.args.out.now.items
    c.play_sub.new.out.items c.truncate.new.self.items c.len-before.result c.in-Ok.ensures.printed n c.truncate.ensures.items

pub returns-in-Ok-add_phone-clause-plays : goal.returns-in-Ok-add_phone-clause-plays
returns-in-Ok-add_phone-clause-plays c =
    record { taken = c.in-Ok.ensures.printed.0; crowd_is = c.in-Ok-add_phone.ensures.ok; page_is = c.in-Ok.ensures.shown }
