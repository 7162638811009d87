use Rattle.std.proofs.Common.{ap, ◌∙◌}
use Rattle.trace_words.specs.Trace.{line_of}
use Rattle.trace_words.proofs.Reread.{written_is_read}
use Rattle.trace_words.proofs.written.write_line.Goals as goal

pub returns-clause-read : goal.returns-clause-read
returns-clause-read c =
    λ source h. ap line_of c.in_ok-text.ensures ∙ (written_is_read c.text_is_imsi.ensures source c.args.line.now h).again
