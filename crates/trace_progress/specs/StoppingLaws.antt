-- Laws of an MME that has taken the first of some events.
use Rattle.std.proofs.Common.{◌≡◌, ℕ, zero, suc, List, [], ◌∷◌, take, Bor, refl, ◌∙◌, arith}
use Rattle.mme_core.specs.World.{World, happens, world_run}
use Rattle.mme_core.specs.declared.event.Event.{Event}
use Rattle.mme_core.specs.declared.event.Event.TheVariants as event
use Rattle.trace_progress.specs.declared.progress.Progress.{Progress}
use Rattle.trace_progress.specs.Effects.{in_event}
use Rattle.trace_progress.specs.Stopping.{HasTaken, RunsOn}

-- it has taken none
pub HasTaken-none : (events : List Event) (before after : World) → after ≡ before → HasTaken events before after
HasTaken-none events before after e = (0, omega arith, e)

taken-octets : (w : World) (e : ℕ) (octets : Bor (List ℕ)) (n : ℕ)
    → world_run w (take n (event.In e octets ∷ [])) ≡ world_run w (take n (in_event e octets.now ∷ []))
unfolding happens
taken-octets w e octets zero = refl
taken-octets w e octets (suc n) = refl

-- where octets lie in memory is nothing to the MME
pub HasTaken-octets : (e : ℕ) (octets : Bor (List ℕ)) (before after : World) → HasTaken (event.In e octets ∷ []) before after
    → HasTaken (in_event e octets.now ∷ []) before after
HasTaken-octets e octets before after (n, few, taken) = (n, few, taken ∙ taken-octets before e octets n)

-- what runs on so runs on with less too, if it follows
pub RunsOn-weaker : (R S : World → World → Type 0) → ((a b : World) → R a b → S a b) → (old new : Progress) → RunsOn R old new
    → RunsOn S old new
RunsOn-weaker R S f old new h = (h.0, h.1, h.2, h.3, f h.0 h.1 h.4)
