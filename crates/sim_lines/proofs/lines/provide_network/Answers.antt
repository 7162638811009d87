use Rattle.trace_words.specs.declared.line.Line.TheVariants.{Mme}
use Rattle.std.proofs.Common.{ℕ, List, ap, ◌∙◌}
use Rattle.sim_crowd.specs.Crowds.{in_network}
use Rattle.sim_lines.proofs.Further.{refused_line}
use Rattle.sim_lines.proofs.lines.provide_network.Goals as goal

pub returns-in-Err-clause-printed : goal.returns-in-Err-clause-printed
returns-in-Err-clause-printed c =
    refused_line c.args.number (Mme c.args.network) c.args.script.now.progress c.play_mme.new.progress c.args.out.now.items
    c.play_mme.new.out.items c.in-Err.fault c.in-Err.ensures.printed

pub returns-clause-plays : goal.returns-clause-plays
returns-clause-plays c =
    let crowd = c.args.script.now.crowd in
    record {
      taken = c.in-Ok.ensures.printed.0;
      crowd_is = c.set_network.ensures ∙ ap (λ (v : List ℕ). in_network v crowd) c.get-plmn.ensures;
      page_is = c.in-Ok.ensures.shown;
    }
