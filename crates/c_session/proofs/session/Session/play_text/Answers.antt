use Rattle.std.proofs.Common.{ℕ, arith, length-take, length-drop}
use Rattle.c_session.proofs.Texts.{all_played, line_played, line_stops_text, start_playing}
use Rattle.c_session.specs.Texts.{whole_lines}
use Rattle.c_session.proofs.session.Session.play_text.Goals as goal

pub loop-at-init : goal.loop-at-init
loop-at-init c = record {
  within = omega arith;
  played = start_playing (whole_lines c.args.text.now) c.args.self.now c.args.room c.args.answers.now.items;
}

pub loop-at-preserved : goal.loop-at-preserved
loop-at-preserved c = record {
  within = omega (arith, length-take {A = ℕ}, length-drop {A = ℕ}, c.in-Some.ensures.0.high);
  played = line_played c.args.text.now c.args.self.now c.loop-at.self c.say_text.new.self c.args.room c.loop-at.lines c.in-Some.at c.args.answers.now.items c.loop-at.answers.items c.say_text.new.answers.items c.loop-at.rest.now c.in-Some.ensures c.loop-at.invariant.played c.in-Ok.ensures;
}

pub returns-in-Err : goal.returns-in-Err
returns-in-Err c =
    line_stops_text c.args.text.now c.args.self.now c.loop-at.self c.say_text.new.self c.args.room c.loop-at.lines c.in-Some.at c.args.answers.now.items c.loop-at.answers.items c.say_text.new.answers.items c.loop-at.rest.now c.in-Err.stop c.in-Some.ensures c.loop-at.invariant.played c.in-Err.ensures

pub returns : goal.returns
returns c =
    all_played c.args.text.now c.args.self.now c.loop-at.self c.args.room c.loop-at.lines c.args.answers.now.items c.loop-at.answers.items c.loop-at.rest.now c.in_default.ensures c.loop-at.invariant.played
