-- Lines that an MME is given: those printed for an owner are those of what it is told over their events.
use Rattle.std.proofs.Common.{◌≡◌, ℕ, zero, suc, ◌+◌, List, [], ◌∷◌, ◌++◌, map, Option, Some, None, Result, Ok, Err, refl, sym, ap, subst, ◌∙◌, append_assoc, append-nil}
use Rattle.std.specs.Prelude.{option_map}
use Rattle.emm_machine.specs.declared.subscriber.States.{States}
use Rattle.mme_answering.specs.declared.out.Out.{Out}
use Rattle.mme_answering.specs.declared.out.Owner.{Owner}
use Rattle.mme_core.specs.declared.event.Event.{Event}
use Rattle.mme_core.specs.declared.event.Event.TheVariants as event
use Rattle.mme_core.specs.declared.event.StepFault.{StepFault}
use Rattle.mme_core.specs.Laws.{in_order}
use Rattle.mme_core.specs.Projection.{told, told_in}
use Rattle.mme_core.specs.World.{World, event_fault, outputs, replies, reply, reply_of, unless, world_after, world_moved, world_run}
use Rattle.trace_words.specs.Trace.{◌>>=◌, line_of}
use Rattle.trace_words.specs.declared.line.Line.{Line}
use Rattle.trace_words.specs.declared.line.Line.TheVariants.{Skip, Mme, Sub, Vec, Up, Lost, In, Tick, Data, Cancel, Show}
use Rattle.trace_words.specs.declared.fault.TraceFault.{TraceFault}
use Rattle.trace_progress.specs.declared.progress.Progress.{Progress}
use Rattle.trace_progress.specs.declared.progress.Progress.TheVariants.{Running}
use Rattle.trace_progress.specs.Effects.{Effect, effect_of, event_played, in_event, left, left_by, states_of_imsi, states_shown, tick_then, ticked}
use Rattle.trace_progress.specs.Replies.{reply_text}
use Rattle.trace_progress.specs.Text.{Played, line_effect, play, then_play}
use Rattle.trace_progress.specs.TextLaws.{play-cons, play-nil}
use Rattle.laws_simulation.specs.Printed.{lines_for, told_line, told_lines}
use Rattle.laws_simulation.specs.TraceRuns.{events_in, line_events, seconds, text_events, then_events}
use Rattle.laws_simulation.proofs.Lines.{IsWhole, lines_for-append, lines_for-nil, whole_both, whole_nil}
use Rattle.laws_simulation.proofs.MessageLines.{ReplyAgrees, reply_for, reply_whole, states_for, states_whole}
use Rattle.laws_simulation.proofs.Names.{is_of}

-- ---- what an owner is told over events, as lines

abbrev pub lines_told : Owner → World → List Event → List (List ℕ)
lines_told o w events = told_lines o (told (is_of o) (replies w events))

-- of one reply
abbrev reply_lines : Owner → Result (List Out) StepFault → List (List ℕ)
reply_lines o r = map (told_line o) (told_in (is_of o) r)

map_both : {A B : Type 0} (f : A → B) (xs ys : List A) → map f (xs ++ ys) ≡ map f xs ++ map f ys
map_both f [] ys = refl
map_both f (x ∷ xs) ys = ap (λ zs. f x ∷ zs) (map_both f xs ys)

told-cons : (o : Owner) (w : World) (e : Event) (es : List Event)
    → lines_told o w (e ∷ es) ≡ reply_lines o (reply w e) ++ lines_told o (world_after w e) es
told-cons o w e es =
    map_both (told_line o) (told_in (is_of o) (reply w e)) (in_order (told (is_of o) (replies (world_after w e) es)))

told_both : (o : Owner) (w : World) (es ds : List Event)
    → lines_told o w (es ++ ds) ≡ lines_told o w es ++ lines_told o (world_run w es) ds
told_both o w [] ds = refl
told_both o w (e ∷ es) ds =
    let v = world_after w e in
    told-cons o w e (es ++ ds) ∙ ap (λ ls. reply_lines o (reply w e) ++ ls) (told_both o v es ds)
    ∙ sym (append_assoc (reply_lines o (reply w e)) (lines_told o v es) (lines_told o (world_run v es) ds))
    ∙ ap (λ ls. ls ++ lines_told o (world_run v es) ds) (sym (told-cons o w e es))

-- ---- replies with names that can be told apart

abbrev pub EachAgrees : Owner → List (Result (List Out) StepFault) → Type 0
EachAgrees o [] = Unit {0}
EachAgrees o (r ∷ rs) = ReplyAgrees o r × EachAgrees o rs

agrees_both : (o : Owner) (w : World) (es ds : List Event) → EachAgrees o (replies w (es ++ ds))
    → EachAgrees o (replies w es) × EachAgrees o (replies (world_run w es) ds)
agrees_both o w [] ds h = (tt, h)
agrees_both o w (e ∷ es) ds h = let two = agrees_both o (world_after w e) es ds h.1 in ((h.0, two.0), two.1)

-- ---- what a line leaves and prints

pub record IsPlayed (o : Owner) (w : World) (events : List Event) (new : Progress) (text : List ℕ) : Type 0 where
  pub leaves : new ≡ Running (world_run w events)
  pub whole : IsWhole text
  pub lines : EachAgrees o (replies w events) → lines_for o text ≡ lines_told o w events

abbrev pub Prints : Owner → World → Option (List Event) → Effect → Type 0
Prints o w None (Ok done) = ⊥
Prints o w None (Err fault) = Unit {0}
Prints o w (Some events) (Ok done) = IsPlayed o w events done.0 done.1
Prints o w (Some events) (Err fault) = ⊥

nothing_played : (o : Owner) (w : World) → IsPlayed o w [] (Running w) []
nothing_played o w = record { leaves = refl; whole = whole_nil; lines = λ h. lines_for-nil o }

-- ---- an event

left_either : (w : World) (e : Event) (f : Option StepFault) → event_fault w.sight e ≡ f
    → left_by w e (reply_of f (outputs w e)) ≡ world_after w e
left_either w e None is = refl
left_either w e (Some fault) is = sym (ap (λ o. unless o w (world_moved w e)) is)

event_printed : (o : Owner) (w : World) (e : Event) → Prints o w (Some (e ∷ [])) (left (event_played w e))
event_printed o w e = record {
  leaves = ap Running (left_either w e (event_fault w.sight e) refl);
  whole = reply_whole (reply w e);
  lines = λ h. reply_for o (reply w e) h.0 ∙ ap (map (told_line o)) (sym (append-nil (told_in (is_of o) (reply w e))));
}

-- ---- ticks

record IsTicked (o : Owner) (w : World) (n : ℕ) (done : World × List ℕ) : Type 0 where
  leaves : done.0 ≡ world_run w (seconds n)
  whole : IsWhole done.1
  lines : EachAgrees o (replies w (seconds n)) → lines_for o done.1 ≡ lines_told o w (seconds n)

-- after one that is refused, all are
all_refused : (o : Owner) (w : World) (fault : StepFault) → event_fault w.sight event.Tick ≡ Some fault → (n : ℕ)
    → (world_run w (seconds n) ≡ w) × (lines_told o w (seconds n) ≡ [])
all_refused o w fault is zero = (refl, refl)
all_refused o w fault is (suc n) =
    let stays : world_after w event.Tick ≡ w = ap (λ f. unless f w (world_moved w event.Tick)) is in
    let others = all_refused o w fault is n in (
      ap (λ v. world_run v (seconds n)) stays ∙ others.0,
      told-cons o w event.Tick (seconds n)
          ∙ ap (λ f. reply_lines o (reply_of f (outputs w event.Tick)) ++ lines_told o (world_after w event.Tick) (seconds n)) is
          ∙ ap (λ v. lines_told o v (seconds n)) stays ∙ others.1,
    )

tick_printed : (o : Owner) (w : World) (n : ℕ) (f : Option StepFault) → event_fault w.sight event.Tick ≡ f
    → IsTicked o (world_after w event.Tick) n (ticked n (world_after w event.Tick))
    → IsTicked o w (suc n) (tick_then w (reply_of f (outputs w event.Tick)) (λ after. ticked n after))
tick_printed o w n None is t =
    let v = world_after w event.Tick in
    let outs = outputs w event.Tick in
    let said : reply w event.Tick ≡ Ok outs = ap (λ f. reply_of f outs) is in
    record {
      leaves = t.leaves;
      whole = whole_both (reply_text (Ok outs)) (ticked n v).1 (reply_whole (Ok outs)) t.whole;
      lines = λ h. lines_for-append o (reply_text (Ok outs)) (ticked n v).1 (reply_whole (Ok outs))
          ∙ ap (λ ls. ls ++ lines_for o (ticked n v).1) (reply_for o (Ok outs) (subst (ReplyAgrees o) said h.0))
          ∙ ap (λ ls. reply_lines o (Ok outs) ++ ls) (t.lines h.1)
          ∙ sym (told-cons o w event.Tick (seconds n) ∙ ap (λ r. reply_lines o r ++ lines_told o v (seconds n)) said);
    }
tick_printed o w n (Some fault) is t =
    let refused = all_refused o w fault is (suc n) in
    record {
      leaves = sym refused.0;
      whole = reply_whole (Err fault);
      lines = λ h. reply_for o (Err fault) tt ∙ sym refused.1;
    }

ticks_printed : (o : Owner) (w : World) (n : ℕ) → IsTicked o w n (ticked n w)
unfolding ticked
ticks_printed o w zero = record { leaves = refl; whole = whole_nil; lines = λ h. lines_for-nil o }
ticks_printed o w (suc n) =
    tick_printed o w n (event_fault w.sight event.Tick) refl (ticks_printed o (world_after w event.Tick) n)

-- ---- a line

shown_printed : (o : Owner) (w : World) (imsi : List ℕ) (s : Option States)
    → Prints o w (option_map (λ states. []) s) (states_shown imsi w s)
shown_printed o w imsi None = tt
shown_printed o w imsi (Some s) =
    record { leaves = refl; whole = states_whole imsi s; lines = λ h. states_for o imsi s }

line_printed : (o : Owner) (w : World) (line : Line) → Prints o w (line_events w line) (effect_of (Running w) line)
unfolding effect_of
line_printed o w Skip = nothing_played o w
line_printed o w (Mme network) = tt
line_printed o w (Sub profile) = tt
line_printed o w (Vec imsi vector) = tt
line_printed o w (Up e) = event_printed o w (event.Up e)
line_printed o w (Lost e) = event_printed o w (event.Lost e)
line_printed o w (In e octets) = event_printed o w (in_event e octets)
line_printed o w (Tick n) =
    let t = ticks_printed o w n in record { leaves = ap Running t.leaves; whole = t.whole; lines = t.lines }
line_printed o w (Data imsi) = event_printed o w (event.Data imsi)
line_printed o w (Cancel imsi) = event_printed o w (event.Cancel imsi)
line_printed o w (Show imsi) = shown_printed o w imsi (states_of_imsi imsi w)

text_printed : (o : Owner) (w : World) (r : Result Line TraceFault) → Prints o w (text_events w r) (r >>= effect_of (Running w))
text_printed o w (Ok line) = line_printed o w line
text_printed o w (Err fault) = tt

-- ---- lines

then_printed : (o : Owner) (w : World) (n : ℕ) (es : Option (List Event)) (effect : Effect) (rest : Progress → Played)
    (others : World → List Event) → Prints o w es effect
    → ((v : World) → EachAgrees o (replies v (others v)) → lines_for o (rest (Running v)).text ≡ lines_told o v (others v))
    → EachAgrees o (replies w (then_events w es others))
    → lines_for o (then_play n effect rest).text ≡ lines_told o w (then_events w es others)
then_printed o w n None (Ok done) rest others p ih h = absurd p
then_printed o w n None (Err fault) rest others p ih h = lines_for-nil o
then_printed o w n (Some events) (Ok done) rest others p ih h =
    let v = world_run w events in
    let two = agrees_both o w events (others v) h in
    ap (λ new. lines_for o (done.1 ++ (rest new).text)) p.leaves ∙ lines_for-append o done.1 (rest (Running v)).text p.whole
    ∙ ap (λ ls. ls ++ lines_for o (rest (Running v)).text) (p.lines two.0) ∙ ap (λ ls. lines_told o w events ++ ls) (ih v two.1)
    ∙ sym (told_both o w events (others v))
then_printed o w n (Some events) (Err fault) rest others p ih h = absurd p

pub lines_printed : (o : Owner) (w : World) (n : ℕ) (texts : List (List ℕ)) → EachAgrees o (replies w (events_in w texts))
    → lines_for o (play (Running w) n texts).text ≡ lines_told o w (events_in w texts)
lines_printed o w n [] h = ap (λ (p : Played). lines_for o p.text) (play-nil (Running w) n) ∙ lines_for-nil o
lines_printed o w n (text ∷ texts) h =
    ap (λ (p : Played). lines_for o p.text) (play-cons (Running w) n text texts)
    ∙ then_printed o w n (text_events w (line_of text)) (line_effect (Running w) text) (λ new. play new (n + 1) texts)
    (λ after. events_in after texts) (text_printed o w (line_of text)) (λ v. lines_printed o v (n + 1) texts) h
