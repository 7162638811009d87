use Rattle.std.proofs.Common.{◌≡◌, ◌≤◌, ◌++◌, ◌==◌, length, map}
use Rattle.std.specs.List.{slice_split}
use Rattle.trace_words.proofs.line.split_words.Given as goal

abbrev pub invariant-loop-at : goal.invariant-loop-at
invariant-loop-at l = record {
  within : length l.rest ≤ length l.fn.line;
  words : map (λ w. w.now) l.words.items ++ slice_split (λ c. c == 32) l.rest ≡ slice_split (λ c. c == 32) l.fn.line;
}

abbrev pub decreases-loop-at : goal.decreases-loop-at
decreases-loop-at l = length l.rest
