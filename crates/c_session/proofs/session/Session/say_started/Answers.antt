use Rattle.std.proofs.Common.{refl}
use Rattle.trace_words.specs.Trace.{◌>>=◌}
use Rattle.trace_progress.specs.Effects.{event_played, left, running}
use Rattle.c_session.specs.Texts.{once}
use Rattle.c_session.proofs.Texts.{says_started, says_unstarted}
use Rattle.c_session.proofs.session.Session.say_started.Goals as goal

pub returns-in-Err : goal.returns-in-Err
returns-in-Err c =
    let e = c.args.event.now in
    let p = c.args.self.now.progress in
    rw c.undone.ensures
    (says_unstarted c.args.self.now c.start.new.self c.in-Err.refusal (λ w. left (event_played w e))
    (λ n. running p >>= (λ w. left (once w e n))) 1 c.args.room c.args.answers.now.items c.in-Err.ensures)

pub returns : goal.returns
returns c =
    let e = c.args.event.now in
    says_started c.args.self.now c.start.new.self _ c.in-Running.mme c.say_once.new.mme (λ w. event_played w e) (λ w. once w e) 1
    c.args.room c.args.answers.now.items c.say_once.new.answers.items c.say_once.result c.in-Ok.ensures c.in-Running.is refl
    c.say_once.ensures
