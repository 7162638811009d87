use Rattle.std.proofs.Common.{◌≤◌, ◌+◌, length}
use Rattle.c_session.specs.Texts.{whole_lines}
use Rattle.c_session.proofs.Texts.{HasPlayed}
use Rattle.c_session.proofs.session.Session.play_text.Given as goal

abbrev pub invariant-loop-at : goal.invariant-loop-at
invariant-loop-at l = record {
  within : l.lines + length l.rest ≤ length l.fn.text;
  played : HasPlayed (whole_lines l.fn.text) l.initial.self l.room l.initial.answers.items l.lines l.self l.answers.items (whole_lines l.rest);
}

abbrev pub decreases-loop-at : goal.decreases-loop-at
decreases-loop-at l = length l.rest
