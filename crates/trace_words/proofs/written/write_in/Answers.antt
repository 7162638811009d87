use Rattle.std.proofs.Common.{◌≡◌, ◌<◌, ◌≤◌, true, length, ap, sym, subst, ◌∙◌, arith, rules, ℕ, List, string_bytes}
use Rattle.std.specs.Prelude.{IfOk, Ok}
use Rattle.std.proofs.lemmas.Result.{IfOk-weaker}
use Rattle.trace_words.specs.Trace.{line_of, line_text}
use Rattle.trace_words.specs.Lines.{is_unbroken}
use Rattle.trace_words.specs.declared.line.Line.TheVariants.{In}
use Rattle.trace_words.proofs.Events.{in_written, in_unbroken}
use Rattle.trace_words.proofs.written.write_in.Goals as goal

pub returns : goal.returns
unfolding line_text
returns c =
    let small : c.args.station < 128 = omega (arith, c.get-number.ensures.value, c.get-number.ensures.bound) in
    let line = In c.args.station c.args.octets.now in
    let made = c.format.result in
    let text : IfOk made (λ text. string_bytes text ≡ line_text (In c.args.station c.args.octets.now)) =
    rw (sym c.in_ok-hex.ensures, sym c.get-number.ensures.value) (search rules) in
    let reads = λ (short : length (line_text line) ≤ 40000). (in_written c.args.station c.args.octets.now small (λ i. let fits = c.type_inv.octets i in omega (arith, fits)) short).again in
    record {
      text = text;
      read = IfOk-weaker made (λ text. string_bytes text ≡ line_text line) (λ text. length (string_bytes text) ≤ 40000 → line_of (string_bytes text) ≡ Ok line) (λ text e short. ap line_of e ∙ reads (subst (λ (t : List ℕ). length t ≤ 40000) e short)) text;
      unbroken = IfOk-weaker made (λ text. string_bytes text ≡ line_text line) (λ text. is_unbroken (string_bytes text) ≡ true) (λ text e. ap is_unbroken e ∙ in_unbroken c.args.station c.args.octets.now small) text;
    }
