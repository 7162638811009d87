use Rattle.std.proofs.Common.{ℕ, refl, arith, length-take, length-drop}
use Rattle.trace_words.proofs.SplitWords.{one_more, with_last}
use Rattle.trace_words.proofs.line.split_words.Goals as goal

pub loop-at-preserved : goal.loop-at-preserved
loop-at-preserved c = record {
  within = omega (arith, length-take {A = ℕ}, length-drop {A = ℕ});
  words = one_more c.loop-at.rest.now c.in-Some.at c.loop-at.words.items _ _ _ c.in-Some.ensures c.in_ok-push.ensures.items refl c.loop-at.invariant.words;
}

pub returns : goal.returns
returns c = with_last c.loop-at.rest.now c.loop-at.words.items _ _ _ c.in_default.ensures c.in_ok-push-2.ensures.items refl c.loop-at.invariant.words
