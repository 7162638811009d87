-- The octets that a station sends.
use Rattle.std.proofs.Common.{◌≡◌, ℕ, List, Result, Bor, refl, sym, ap, ◌∙◌, subst}
use Rattle.mme_core.specs.World.{happens}
use Rattle.mme_core.specs.declared.event.Event.TheVariants as event
use Rattle.trace_words.specs.declared.line.Line.{Line}
use Rattle.trace_words.specs.declared.line.Line.TheVariants.{In}
use Rattle.trace_progress.specs.declared.fault.PlayFault.{PlayFault}
use Rattle.trace_progress.specs.declared.progress.Progress.{Progress}
use Rattle.trace_progress.specs.Effects.{Effect, effect_of, happened, in_event}
use Rattle.trace_progress.specs.Acts.{Acts}

-- where octets lie in memory is nothing to the MME
happened-octets : (progress : Progress) (e : ℕ) (octets : Bor (List ℕ))
    → happened progress (event.In e octets) ≡ happened progress (in_event e octets.now)
unfolding happens
happened-octets progress e octets = refl

effect_of-in : (progress : Progress) (e : ℕ) (octets : List ℕ)
    → effect_of progress (In e octets) ≡ happened progress (in_event e octets)
unfolding effect_of
effect_of-in progress e octets = refl

pub octets-effect : (progress : Progress) (line : Line) (station number : ℕ) (octets : List ℕ) (slice : Bor (List ℕ))
    → line ≡ In station octets → number ≡ station → slice.now ≡ octets
    → happened progress (event.In number slice) ≡ effect_of progress line
octets-effect progress line station number octets slice l n o =
    happened-octets progress number slice ∙ ap (λ e. happened progress (in_event e slice.now)) n
    ∙ ap (λ v. happened progress (in_event station v)) o
    ∙ sym (ap (effect_of progress) l ∙ effect_of-in progress station octets)

pub Acts-effect : (line : ℕ) (effect same : Effect) (result : Result (Unit {0}) PlayFault) (new : Progress) (written : List ℕ)
    → effect ≡ same
    → Acts line effect result new written → Acts line same result new written
Acts-effect line effect same result new written e h = let P : Effect → Type 0 = λ v. Acts line v result new written in subst P e h
