use Rattle.std.proofs.Common.{◌≡◌, ◌≤◌, ◌+◌, ◌++◌, length, map}
use Rattle.std.specs.Prelude.{vec_capacity}
use Rattle.mme_answering.specs.Sending.{owner_out}
use Rattle.mme_answering.specs.Short.{AreShort}
use Rattle.mme_answering.proofs.sending.push_each.Given as goal

-- what is put there, and what is left
abbrev pub invariant-loop-answer : goal.invariant-loop-answer
invariant-loop-answer l = record {
  room : length l.items.items + length l.answers ≤ vec_capacity l.items;
  short : AreShort l.items.items;
  sends : l.items.items ++ map (owner_out l.owner) l.answers ≡ l.fn.items.items ++ map (owner_out l.fn.owner) l.fn.answers;
}

abbrev pub decreases-loop-answer : goal.decreases-loop-answer
decreases-loop-answer l = length l.answers
