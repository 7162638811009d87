use Rattle.c_session.proofs.Texts.{says_unread}
use Rattle.c_session.proofs.session.Session.say_text.Goals as goal

pub returns-in-Err : goal.returns-in-Err
returns-in-Err c =
    rw c.undone.ensures
    (rw c.of_line.ensures
    (says_unread c.args.self.now.progress c.args.text.now c.in-Err.fault c.args.self.now c.args.room c.args.answers.now.items
    c.in-Err.ensures))
