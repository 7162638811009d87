use Rattle.std.proofs.Common.{◌+◌, ◌*◌, ◌-◌, sym, ap, ◌∙◌, arith, get_or, drop}
use Rattle.trace_words.specs.Trace.{capped}
use Rattle.trace_words.proofs.Numbers.{capped-over, digit_more}
use Rattle.trace_words.proofs.fields.decimal.Goals as goal

pub returns-then-value-most : goal.returns-then-value-most
returns-then-value-most c =
    let text = c.args.text.now in
    let i = c.loop-byte.byte-index in
    let v = c.loop-byte.value in
    let more = digit_more v i text (omega arith) (cc) in
    sym (ap (capped c.args.most) (c.loop-byte.invariant.1 ∙ more) ∙ capped-over c.args.most (v * 10 + (get_or text i 0 - 48)) (drop (i + 1) text) (omega arith))
