-- How far calls go: by each call that prints, and one after another.
use Rattle.std.proofs.Common.{◌≡◌, ℕ, ◌<◌, ◌≤◌, List, [], ◌∷◌, length, take, Result, Ok, Err, inl, inr, refl, sym, subst}
use Rattle.std.proofs.lemmas.Bool.{cases_lt}
use Rattle.mme_core.specs.declared.event.Event.{Event}
use Rattle.trace_words.specs.declared.line.Line.{Line}
use Rattle.trace_words.specs.declared.line.Line.TheVariants.{In}
use Rattle.trace_words.specs.declared.fault.TraceFault.{TraceFault}
use Rattle.trace_words.specs.Trace.{line_text}
use Rattle.trace_words.specs.Kept.{kept_line}
use Rattle.trace_progress.specs.Effects.{in_event}
use Rattle.trace_progress.specs.Stopping.{HasTaken, StopsWith}
use Rattle.trace_progress.specs.declared.fault.PlayFault.{PlayFault}
use Rattle.trace_progress.specs.declared.fault.PlayFault.TheVariants.{Trace, Read, Write, NoMemory}
use Rattle.trace_progress.specs.declared.progress.Progress.{Progress}
use Rattle.sim_printing.specs.Printed.{AddsComments, AfterEvent, IsBegun, PrintsLine, PrintsOn, PrintsScriptLine}
use Rattle.sim_printing.specs.Stopped.{IsFurther}
use Rattle.sim_printing.specs.StopLaws.{IsFurther-event, IsFurther-same, IsFurther-stopped, IsFurther-then}
use Rattle.trace_progress.specs.FrontLaws.{IsPrefix-all, IsPrefix-cut, IsPrefix-then}
use Rattle.sim_lines.specs.Further.{GoesFurther}

-- ---- calls

pub stays : {progress : Progress} {out : List ℕ} → GoesFurther progress out progress out
stays {progress} {out} = record { trace = IsFurther-same progress; output = IsPrefix-all out }

-- what was to be printed was refused
pub unprinted : {progress : Progress} {before after : List ℕ} → after ≡ before → GoesFurther progress before progress after
unprinted {progress} {before} {after} e =
    subst (λ (v : List ℕ). GoesFurther progress before progress v) (sym e) stays

-- something was printed
pub remarked : {progress : Progress} {before after : List ℕ} (said : List ℕ) → AddsComments before after said
    → GoesFurther progress before progress after
remarked {progress} {before} {after} said adds = record { trace = IsFurther-same progress; output = (adds.0, adds.1) }

pub then_on : {a b c : Progress} {s t u : List ℕ} → GoesFurther a s b t → GoesFurther b t c u → GoesFurther a s c u
then_on {a} {b} {c} {s} {t} {u} p q = record {
  trace = IsFurther-then a b c p.trace q.trace;
  output = IsPrefix-then s t u p.output q.output;
}

-- an event was answered
pub played : {old new : Progress} {before after : List ℕ} (event : Event) (kept : List (Result Line TraceFault)) → IsBegun old
    → PrintsOn old before new after kept → AfterEvent old event new → GoesFurther old before new after
played {old} {new} event kept begun prints h =
    record { trace = IsFurther-event event old new begun h; output = (prints.1.0, prints.1.1) }

-- a message was, if it wasn't too long
pub played_in : {old new : Progress} {before after : List ℕ} (e : ℕ) (octets : List ℕ) → IsBegun old
    → PrintsOn old before new after []
    → (length (line_text (In e octets)) ≤ 40000 → AfterEvent old (in_event e octets) new)
    → (40000 < length (line_text (In e octets)) → (new ≡ old) × (after ≡ before)) → GoesFurther old before new after
played_in {old} {new} e octets begun prints h unsent =
    record {
      trace = elim (cases_lt 40000 (length (line_text (In e octets)))) [
        | inl long ↦ subst (λ (v : Progress). IsFurther old v) (sym (unsent long).0) (IsFurther-same old)
        | inr short ↦ IsFurther-event (in_event e octets) old new begun (h short)
      ];
      output = (prints.1.0, prints.1.1);
    }

-- memory for an event was refused
pub stopped : {old new : Progress} {before after : List ℕ} (event : Event) → StopsWith (HasTaken (event ∷ [])) old new
    → after ≡ before → GoesFurther old before new after
stopped {old} {new} {before} {after} event h e =
    record { trace = IsFurther-stopped (event ∷ []) old new h; output = (unprinted {progress = old} e).output }

-- ---- lines

-- the output was cut back
pub cut_back : {old new : Progress} {before all : List ℕ} (number : ℕ) (kept : List (Result Line TraceFault)) (after : List ℕ) (n : ℕ)
    → GoesFurther old before new all → n ≡ length before → after ≡ take n all
    → PrintsScriptLine number kept old before (Err NoMemory) new after
cut_back {old} {new} {before} {all} number kept after n h e is = (IsPrefix-cut before all after n h.output e is, inl h.trace)

-- and the line, which provisions, was taken
pub cut_line : (number : ℕ) (line : Line) (old new : Progress) (before all after : List ℕ) (n : ℕ)
    → PrintsLine number line old before (Ok tt) new all → n ≡ length before → after ≡ take n all
    → PrintsScriptLine number (kept_line line) old before (Err NoMemory) new after
cut_line number line old new before all after n h e is =
    (IsPrefix-cut before all after n (h.1.0, h.1.1) e is, inr (line, refl, h.0))

-- such a line was refused
pub refused_line : (number : ℕ) (line : Line) (old new : Progress) (before after : List ℕ) (fault : PlayFault)
    → PrintsLine number line old before (Err fault) new after
    → PrintsScriptLine number (kept_line line) old before (Err fault) new after
refused_line number line old new before after (Trace place fault) h = (h.1, h.2)
refused_line number line old new before after NoMemory h = (
  h.1,
  elim h.2 [
    | inl same ↦ inl (subst (λ (v : Progress). IsFurther old v) (sym same) (IsFurther-same old))
    | inr taken ↦ inr (line, refl, taken)
  ],
)
refused_line number line old new before after Read h = h
refused_line number line old new before after Write h = h
