use Rattle.std.proofs.Common.{◌≡◌, ◌<◌, true, ap, ◌∙◌, arith, rules, string_bytes}
use Rattle.std.specs.Prelude.{IfOk, Ok}
use Rattle.std.proofs.lemmas.Result.{IfOk-weaker}
use Rattle.trace_words.specs.Trace.{line_of, line_text}
use Rattle.trace_words.specs.Lines.{is_unbroken}
use Rattle.trace_words.specs.declared.line.Line.TheVariants.{Lost}
use Rattle.trace_words.proofs.Events.{lost_written}
use Rattle.trace_words.proofs.written.write_lost.Goals as goal

pub returns : goal.returns
unfolding line_text
returns c =
    let small : c.args.station < 128 = omega (arith, c.get.ensures.value, c.get.ensures.bound) in
    let line = lost_written c.args.station small in
    let made = c.write_number.result in
    let text : IfOk made (λ text. string_bytes text ≡ line_text (Lost c.args.station)) = search rules in
    record {
      text = text;
      read = IfOk-weaker made (λ text. string_bytes text ≡ line_text (Lost c.args.station)) (λ text. line_of (string_bytes text) ≡ Ok (Lost c.args.station)) (λ text e. ap line_of e ∙ line.again) text;
      unbroken = IfOk-weaker made (λ text. string_bytes text ≡ line_text (Lost c.args.station)) (λ text. is_unbroken (string_bytes text) ≡ true) (λ text e. ap is_unbroken e ∙ line.unbroken) text;
    }
