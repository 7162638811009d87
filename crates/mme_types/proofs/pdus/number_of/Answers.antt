use Rattle.std.proofs.Common.{◌≡◌, ◌+◌, ◌*◌, ◌-◌, ◌%◌, sym, ap, ◌∙◌, arith, get_or, drop}
use Rattle.mme_types.specs.Pdus.{number_from}
use Rattle.mme_types.proofs.Digits.{digit_more}
use Rattle.mme_types.proofs.pdus.number_of.Goals as goal

pub loop-digit-preserved : goal.loop-digit-preserved
loop-digit-preserved c =
    let text = c.args.digits.now in
    let i = c.loop-digit.digit-index in
    let v = c.loop-digit.number in
    let f = c.from.ensures in
    let s = c.saturating_sub.ensures in
    let r : c.saturating_sub.result ≡ get_or text i 0 - 48 = cc in
    (omega arith, ap (λ (n : _). number_from ((v * 10 + n) % 1024) (drop (i + 1) text) % 1024) r ∙ sym (digit_more v i text (omega arith)) ∙ c.loop-digit.invariant.1)
