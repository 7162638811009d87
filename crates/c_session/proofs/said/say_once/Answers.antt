use Rattle.std.proofs.Common.{Err, subst, sym}
use Rattle.trace_progress.specs.Effects.{event_played}
use Rattle.c_session.specs.Texts.{WorldSays, once}
use Rattle.c_session.specs.declared.said.LineStop.{LineStop}
use Rattle.c_session.proofs.Saying.{once_short}
use Rattle.c_session.proofs.said.say_once.Goals as goal

pub returns-in-Err : goal.returns-in-Err
returns-in-Err c =
    let w = c.args.mme.now in
    let e = c.args.event.now in
    let new = c.say_event.new.mme in
    let replies = c.say_event.new.replies in
    let said = c.say_event.new.answers.items in
    subst (λ (s : LineStop). WorldSays (event_played w e) (once w e) 1 c.args.room c.args.answers.now.items (Err s) new replies said)
    (sym c.stopped.ensures)
    (once_short w new e c.in-Err.short c.args.room c.args.answers.now.items said replies c.in-Err.ensures.short
    c.in-Err.ensures.unsaid)
