use Rattle.std.proofs.Common.{◌≡◌, length, inl, refl, ap, ◌∙◌, arith}
use Rattle.trace_words.specs.declared.line.Line.TheVariants.{Vec}
use Rattle.sim_printing.specs.StopLaws.{IsFurther-same}
use Rattle.identity_slots.specs.declared.profile.Vector.{Vector}
use Rattle.sim_crowd.specs.Crowds.{with_vector_given}
use Rattle.sim_lines.proofs.Further.{cut_line, refused_line}
use Rattle.sim_lines.proofs.lines.provide_vector.Goals as goal

pub returns-in_default-clause-printed : goal.returns-in_default-clause-printed
returns-in_default-clause-printed c = (refl, inl (IsFurther-same c.args.script.now.progress))

pub returns-in-Err-clause-printed : goal.returns-in-Err-clause-printed
returns-in-Err-clause-printed c =
    refused_line c.args.number (Vec c.args.imsi c.args.vector) c.args.script.now.progress c.play_vec.new.progress c.args.out.now.items
    c.play_vec.new.out.items c.in-Err.fault c.in-Err.ensures.printed

pub returns-in-Err-give_vector-clause-printed : goal.returns-in-Err-give_vector-clause-printed
returns-in-Err-give_vector-clause-printed c =
    let ok = c.args.out.now.ok in
    let n : c.len-before.result ≡ length c.args.out.now.items = omega arith in
    cut_line c.args.number (Vec c.args.imsi c.args.vector) c.args.script.now.progress c.play_vec.new.progress c.args.out.now.items
    c.play_vec.new.out.items c.truncate.new.self.items c.len-before.result c.in-Ok-play_vec.ensures.printed n c.truncate.ensures.items

pub returns-in-Ok-give_vector-clause-plays : goal.returns-in-Ok-give_vector-clause-plays
returns-in-Ok-give_vector-clause-plays c =
    let crowd = c.args.script.now.crowd in
    record {
      taken = c.in-Ok-play_vec.ensures.printed.0;
      crowd_is =
          c.in-Ok-give_vector.ensures.ok ∙ ap (λ (v : Vector). with_vector_given c.args.imsi v crowd) c.in-Ok.ensures.cases;
      page_is = c.in-Ok-play_vec.ensures.shown;
    }
