use Rattle.std.proofs.Common.{[], Ok, subst, sym}
use Rattle.trace_words.specs.declared.line.Line.{Line}
use Rattle.trace_progress.specs.Effects.{configured, effect_of}
use Rattle.c_session.specs.Refusals.{told}
use Rattle.c_session.specs.Texts.{Says, events_in, first_events, silent}
use Rattle.c_session.specs.declared.session.Session.{Session}
use Rattle.c_session.proofs.Texts.{says_octets, says_silent}
use Rattle.c_session.proofs.session.Session.say_line.Goals as goal

pub returns-in-In : goal.returns-in-In
returns-in-In c =
    says_octets c.args.self.now.progress c.in-In.station c.as_slice.result c.in-In.octets c.args.line c.args.self.now
    c.say_started-in-In.new.self c.args.room c.args.answers.now.items c.say_started-in-In.new.answers.items
    c.say_started-in-In.result c.as_slice.ensures c.in-In.is c.say_started-in-In.ensures

pub returns-in-Mme : goal.returns-in-Mme
unfolding effect_of
returns-in-Mme c =
    let s = c.args.self.now in
    let said = c.args.answers.now.items in
    let new : Session = record { progress = c.start.new.progress; replies = s.replies } in
    rw c.silent.ensures
    (rw c.told.ensures
    (subst (λ (l : Line). Says (effect_of s.progress l) (first_events s.progress l) (events_in l) s c.args.room said
    (silent (told c.start.result)) new said) (sym c.in-Mme.is)
    (says_silent s new (configured s.progress c.in-Mme.network) (λ n. Ok (s.progress, [])) 0 c.start.result c.args.room said
    c.start.ensures.acts c.start.ensures.fault c.start.ensures.err)))
