-- What is written of an event.
use Rattle.std.proofs.Common.{◌≡◌, inl, inr, ℕ, ◌+◌, ◌<◌, Bool, true, false, List, [], ◌++◌, length, take, drop, get_or, Result, Ok, Err, refl, sym, ap, subst, ◌∙◌, arith, append-nil, append_assoc, length-append}
use Rattle.std.proofs.lemmas.List.{take-append-drop}
use Rattle.mme_core.specs.World.{World, reply, world_after}
use Rattle.mme_core.specs.declared.event.Event.{Event}
use Rattle.mme_core.specs.declared.event.StepFault.{StepFault}
use Rattle.mme_answering.specs.declared.out.Out.{Out}
use Rattle.trace_answers.specs.Words.{answers_of, out_text}
use Rattle.trace_answers.specs.WordLaws.{answers_of-append, answers_of-more}
use Rattle.trace_progress.specs.Effects.{event_played, left_by}
use Rattle.trace_progress.specs.FrontLaws.{IsPrefix-cut}
use Rattle.trace_progress.specs.Replies.{reply_text}
use Rattle.c_session.specs.Kept.{Reply}
use Rattle.c_session.specs.Texts.{Adds, IsFor, IsLeft, IsPassed, IsShort, WorldSays, once, stopped}
use Rattle.c_session.specs.declared.said.Short.{Short}
use Rattle.c_session.specs.declared.refusal.Refusal.{Refusal}

-- ---- octets that are added

pub Adds-none : (room : ℕ) (before after : List ℕ) → after ≡ before → Adds room before [] after
Adds-none room before after e = (e ∙ sym (append-nil before), λ h. omega (arith, h, ap length e))

pub Adds-then : (room : ℕ) (a b c s t : List ℕ) → Adds room a s b → Adds room b t c → Adds room a (s ++ t) c
Adds-then room a b c s t p q = (q.0 ∙ ap (λ v. v ++ t) p.0 ∙ append_assoc a s t, λ h. q.1 (p.1 h))

pub Adds-same : (room : ℕ) (a s b c : List ℕ) → Adds room a s b → c ≡ b → Adds room a s c
Adds-same room a s b c p e = subst (λ (v : List ℕ). Adds room a s v) (sym e) p

-- the line of one message more
pub Adds-out : (room : ℕ) (outs : List Out) (i : ℕ) (out : Out) (before mid after : List ℕ) → i < length outs
    → out ≡ get_or outs i out → Adds room before (answers_of (take i outs)) mid → Adds room mid (out_text out) after
    → Adds room before (answers_of (take (i + 1) outs)) after
Adds-out room outs i out before mid after few is p q =
    subst (λ (v : List ℕ). Adds room before v after) (sym (answers_of-more outs i out few is))
    (Adds-then room before mid after (answers_of (take i outs)) (out_text out) p q)

-- what was added is cut off again
pub cut_back : (room n : ℕ) (before written mid all after : List ℕ) → Adds room before written mid → all ≡ mid → n ≡ length before
    → after ≡ take n all → after ≡ before
cut_back room n before written mid all after p same h is = IsPrefix-cut before all after n (written, same ∙ p.0) h is

-- where one message has no room, all of them have none
pub no_room_for_all : (room : ℕ) (outs : List Out) (i : ℕ) (out : Out) (before mid : List ℕ) (refusal : Refusal) → i < length outs
    → out ≡ get_or outs i out → Adds room before (answers_of (take i outs)) mid → IsFor refusal room mid (out_text out)
    → IsFor refusal room before (answers_of outs)
no_room_for_all room outs i out before mid refusal few is p (inl memory) = inl memory
no_room_for_all room outs i out before mid refusal few is p (inr full) =
    let front : List ℕ = answers_of (take i outs) in
    let others : List ℕ = answers_of (drop (i + 1) outs) in
    let all : answers_of outs ≡ (front ++ out_text out) ++ others =
    ap answers_of (sym (take-append-drop (i + 1) outs)) ∙ answers_of-append (take (i + 1) outs) (drop (i + 1) outs)
    ∙ ap (λ v. v ++ others) (answers_of-more outs i out few is) in
    inr (full.0, omega (arith, full.1, ap length p.0, length-append before front, ap length all, length-append (front ++ out_text out) others, length-append front (out_text out)))

-- ---- the one event of a line

pub once_said : (w new : World) (e : Event) (room : ℕ) (said said' : List ℕ) (replies : List Reply)
    → new ≡ left_by w e (reply w e) → Adds room said (reply_text (reply w e)) said'
    → WorldSays (event_played w e) (once w e) 1 room said (Ok tt) new replies said'
once_said w new e room said said' replies h a =
    let pair : World → World × List ℕ = λ v. (v, reply_text (reply w e)) in
    (reply_text (reply w e), ap pair (sym h), a)

-- what comes of the one event, whatever it is answered
coming : (w : World) (e : Event) → once w e (0 + 1) ≡ (left_by w e (reply w e), [] ++ reply_text (reply w e))
coming w e = refl

after_taken : (w new : World) (e : Event) (r : Result (List Out) StepFault) (outs : List Out) → r ≡ Ok outs
    → new ≡ world_after w e
    → new ≡ left_by w e r
after_taken w new e r outs is h = h ∙ sym (ap (left_by w e) is)

-- what is left of an event that isn't answered
pub left_short : (w new : World) (e : Event) (unsaid : Bool) (replies : List Reply) → IsLeft unsaid w e new replies
    → IsPassed unsaid w (left_by w e (reply w e)) new (reply_text (reply w e)) replies
left_short w new e false replies h = h
left_short w new e true replies h = (after_taken w new e (reply w e) h.0 h.1 h.2, (h.0, h.3, ap reply_text h.1))

pub once_short : (w new : World) (e : Event) (short : Short) (room : ℕ) (said said' : List ℕ) (replies : List Reply)
    → IsShort w e short room said new replies → said' ≡ said
    → WorldSays (event_played w e) (once w e) 1 room said (Err (stopped short 0)) new replies said'
once_short w new e short room said said' replies h same = (
  [],
  record {
    before = w;
    after = left_by w e (reply w e);
    next = reply_text (reply w e);
    within = omega arith;
    passed = refl;
    coming = coming w e;
    why = subst (λ (v : List ℕ). IsFor short.refusal room v (reply_text (reply w e))) (sym same) h.0;
    leaves = left_short w new e short.unsaid replies h.1;
  },
  Adds-none room said said' same,
)
