-- What calls make of a session, by their answers.
use Rattle.std.proofs.Common.{◌≡◌, ◌⊎◌, inl, inr, ℕ, ◌≤◌, List, [], length, arith, Option, Some, None, Result, Ok, Err, refl, sym, subst, ap, ◌∙◌}
use Rattle.mme_core.specs.World.{World}
use Rattle.c_session.specs.declared.refusal.Refusal.{Refusal}
use Rattle.c_session.specs.declared.session.Session.{Session}
use Rattle.c_session.specs.Refusals.{number_of}
use Rattle.c_session.specs.declared.lines.LinesFault.{LinesFault}
use Rattle.c_session.specs.Lines.{IsShortOf, made_of}
use Rattle.c_session.specs.Sessions.{Leaves, Plays, Runs, Starts, nothing}
use Rattle.c_session.specs.declared.text.Stop.{Stop}
use Rattle.c_session.specs.Texts.{PlaysText}
use Rattle.mme_c.specs.declared.provisioning.LineFault.{LineFault}
use Rattle.mme_c.specs.declared.texts.TextPlayed.{TextPlayed}
use Rattle.mme_c.specs.Texts.{IsPlayed, IsText, session_of}
use Rattle.mme_c.specs.Calls.{IsAnswered, IsFirst, IsKept, IsLine, IsMade, IsNew, IsStarted, IsTicked, answer_number, line_fault}

pub is_answered : (wanted : Result Session Refusal) (s after : Session) (result : Result (Unit {0}) Refusal)
    → Leaves wanted s result after → IsAnswered wanted s (answer_number result) after
is_answered (Ok w) s after (Ok _) h = inl (refl, h)
is_answered (Ok w) s after (Err refusal) h = inr (ap number_of h.0, h.1)
is_answered (Err fault) s after (Ok _) h = absurd h
is_answered (Err fault) s after (Err refusal) h = (ap number_of h.0, h.1)

pub is_started : (wanted : Result Session Refusal) (s after : Session) (result : Result (Unit {0}) Refusal)
    → Starts wanted s result after → IsStarted wanted s (answer_number result) after
is_started (Ok w) s after (Ok _) h = inl (refl, h)
is_started (Ok w) s after (Err refusal) h = inr (ap number_of h.0, h.1)
is_started (Err fault) s after (Ok _) h = absurd h
is_started (Err fault) s after (Err refusal) h = (ap number_of h.0, h.1)

pub is_ticked : (wanted : Result World Refusal) (count : ℕ) (s after : Session) (result : Result (Unit {0}) Refusal)
    → Runs wanted count s result after → IsTicked wanted count s (answer_number result) after
is_ticked (Ok w) count s after (Ok _) h = inl (refl, h)
is_ticked (Ok w) count s after (Err refusal) h = inr (ap number_of h.0, h.1)
is_ticked (Err fault) count s after (Ok _) h = absurd h
is_ticked (Err fault) count s after (Err refusal) h = (ap number_of h.0, h.1)

-- the first call on an empty handle
pub is_first_kept : (wanted : Result Session Refusal) (s : Session) (answer : ℕ) (after : Option Session)
    → Leaves wanted nothing (Ok tt) s → IsKept s None answer after → IsFirst wanted answer after
is_first_kept (Ok w) s answer after h (inl k) = inl (k.0, k.1 ∙ ap Some h)
is_first_kept (Ok w) s answer after h (inr k) = inr k
is_first_kept (Err fault) s answer after h k = absurd h

pub is_first_refused : (wanted : Result Session Refusal) (s : Session) (refusal : Refusal)
    → Leaves wanted nothing (Err refusal) s → IsFirst wanted (number_of refusal) None
is_first_refused (Ok w) s refusal h = inr (ap number_of h.0, refl)
is_first_refused (Err fault) s refusal h = (ap number_of h.0, refl)

-- ---- lines

pub first_line_kept : (text : List ℕ) (s : Session) (answer : ℕ) (after : Option Session) → Plays text nothing (Ok tt) s
    → IsKept s None answer after → IsLine None text answer after
first_line_kept text s answer after p k = (Ok tt, s, p, k)

pub first_line_refused : (text : List ℕ) (s : Session) (refusal : Refusal) → Plays text nothing (Err refusal) s
    → IsLine None text (number_of refusal) None
first_line_refused text s refusal p = (Err refusal, s, p, (refl, refl))

pub line_played : (text : List ℕ) (s after : Session) (result : Result (Unit {0}) Refusal) → Plays text s result after
    → IsLine (Some s) text (answer_number result) (Some after)
line_played text s after result p = (result, p, refl)

-- ---- texts

pub within_room : (text : List ℕ) (s new : Session) (room : ℕ) (result : Result ℕ Stop) (answers : List ℕ)
    → PlaysText text s room [] result new answers → length answers ≤ room
within_room text s new room (Ok lines) answers h = let all = h.3.1 in all (omega arith)
within_room text s new room (Err stop) answers h = let all = h.2.1 in all (omega arith)

pub text_is_played : (old : Option Session) (text buffer buffer' : List ℕ) (answer : ℕ) (after : Session) (played played' : TextPlayed)
    → IsPlayed (session_of old) text buffer answer after played' buffer'
    → IsText old text played buffer answer (Some after) played' buffer'
text_is_played None text buffer buffer' answer after played played' h = h
text_is_played (Some s) text buffer buffer' answer after played played' h = h

-- ---- a new MME

pub new_kept : (text : List ℕ) (s : Session) (fault : LineFault) (answer : ℕ) (after : Option Session) → made_of text ≡ Ok s
    → IsKept s None answer after → IsNew None text fault answer after fault
new_kept text s fault answer after m k =
    let P : Result Session LinesFault → Type 0 = λ made. IsMade made answer after fault fault in
    inl (subst P (sym m) (k, refl))

pub new_refused : (text : List ℕ) (refused : LinesFault) (fault : LineFault)
    → IsShortOf text refused ⊎ (made_of text ≡ Err refused)
    → IsNew None text fault (number_of refused.refusal) None (line_fault refused)
new_refused text refused fault (inl m) = inr (refused, m, (refl, refl, refl))
new_refused text refused fault (inr m) =
    let P : Result Session LinesFault → Type 0 =
    λ made. IsMade made (number_of refused.refusal) None fault (line_fault refused) in
    inl (subst P (sym m) (refl, refl, refl))
