-- What is printed, message by message, and of an event whose line or octets stand elsewhere.
use Rattle.std.proofs.Common.{◌≡◌, ℕ, ◌+◌, ◌<◌, Bor, List, [], ◌∷◌, ◌++◌, length, take, get_or, codes, refl, sym, ap, ◌∙◌, subst}
use Rattle.std.specs.Fmt.{digits}
use Rattle.std.specs.List.{flat_map}
use Rattle.std.proofs.lemmas.List.{flat_map_more, take_more}
use Rattle.mme_core.specs.declared.event.Event.{Event}
use Rattle.mme_core.specs.declared.event.Event.TheVariants as event
use Rattle.mme_core.specs.mme_answering.declared.out.Out.{Out}
use Rattle.trace_words.specs.declared.line.Line.TheVariants.{Tick}
use Rattle.trace_words.specs.Trace.{line_text}
use Rattle.trace_answers.specs.Words.{out_text}
use Rattle.trace_progress.specs.declared.progress.Progress.{Progress}
use Rattle.trace_progress.specs.Effects.{in_event}
use Rattle.sim_printing.specs.Shown.{ShowsEvent, as_comment, sent_comments, with_reply}
use Rattle.sim_printing.proofs.Played.{reply-octets}

pub sent_comments-more : (before : List ℕ) (outs : List Out) (i : ℕ) (out : Out) → i < length outs → out ≡ get_or outs i out
    → (before ++ sent_comments (take i outs)) ++ as_comment (out_text out) ≡ before ++ sent_comments (take (i + 1) outs)
sent_comments-more before outs i out h e =
    let comment = λ (o : Out). as_comment (out_text o) in
    flat_map_more comment before (take i outs) out
    ∙ ap (λ (o : Out). before ++ flat_map comment (take i outs ++ o ∷ [])) e
    ∙ ap (λ (xs : List Out). before ++ flat_map comment xs) (sym (take_more outs i out h))

-- a line that is written anew
pub ShowsEvent-line : (old : Progress) (event : Event) (line same before after : List ℕ) → line ≡ same
    → ShowsEvent old event line before after → ShowsEvent old event same before after
ShowsEvent-line old event line same before after e h = subst (λ (v : List ℕ). ShowsEvent old event v before after) e h

-- where octets lie in memory is nothing to what is printed
pub ShowsEvent-octets : (old : Progress) (e : ℕ) (octets : Bor (List ℕ)) (line before after : List ℕ)
    → ShowsEvent old (event.In e octets) line before after → ShowsEvent old (in_event e octets.now) line before after
ShowsEvent-octets old e octets line before after h = λ world r.
    h world r ∙ ap (λ a. with_reply line a before) (sym (reply-octets world e octets))

pub tick_text : line_text (Tick 1) ≡ codes "tick 1"
unfolding line_text digits
tick_text = refl
