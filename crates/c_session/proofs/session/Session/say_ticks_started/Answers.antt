use Rattle.std.proofs.Common.{refl}
use Rattle.trace_words.specs.Trace.{◌>>=◌}
use Rattle.trace_progress.specs.Effects.{left, running, ticked}
use Rattle.c_session.proofs.Texts.{says_started, says_unstarted}
use Rattle.c_session.proofs.session.Session.say_ticks_started.Goals as goal

pub returns-in-Err : goal.returns-in-Err
returns-in-Err c =
    let p = c.args.self.now.progress in
    rw c.undone.ensures
    (says_unstarted c.args.self.now c.start.new.self c.in-Err.refusal (λ w. left (ticked c.args.count w))
    (λ n. running p >>= (λ w. left (ticked n w))) c.args.count c.args.room c.args.answers.now.items c.in-Err.ensures)

pub returns : goal.returns
returns c =
    says_started c.args.self.now c.start.new.self _ c.in-Running.mme c.say_ticks.new.mme (λ w. ticked c.args.count w)
    (λ w n. ticked n w) c.args.count c.args.room c.args.answers.now.items c.say_ticks.new.answers.items c.say_ticks.result
    c.in-Ok.ensures c.in-Running.is refl c.say_ticks.ensures
