use Rattle.std.proofs.Common.{◌≡◌, ◌≤◌, drop}
use Rattle.trace_words.specs.Trace.{decimal_of, decimal_from}
use Rattle.trace_words.proofs.fields.decimal.Given as goal

abbrev pub invariant-loop-byte : goal.invariant-loop-byte
invariant-loop-byte l =
    (l.value ≤ l.most) × (decimal_of l.text ≡ decimal_from l.value (drop l.byte-index l.text))
