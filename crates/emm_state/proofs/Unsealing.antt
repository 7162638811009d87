-- What is sealed and then unsealed is as it was.
use Rattle.std.proofs.Common.{◌≡◌, ℕ, ◌^◌, Bool, true, false, cond, List, [], Option, Some, None, IfSome, nat_lt, refl, subst}
use Rattle.std.specs.Option.{option_map_or}
use Rattle.nas_messages.specs.declared.protection.SecurityHeader.{SecurityHeader}
use Rattle.emm_state.specs.declared.draft.Draft.{Draft}
use Rattle.emm_state.specs.declared.draft.Sealed.{Sealed}
use Rattle.emm_state.specs.declared.solo.Context.{Context}
use Rattle.emm_state.specs.Actions.{seal, sealed_under, unsealed}

-- a step with this context, if with one
abbrev having : Draft → Option Context → Draft
having d o = record d { solo = record d.solo { context = o } }

-- unsealed, what was sealed is this step
abbrev Unseals : Draft → Option (Sealed × Draft) → Type 0
Unseals d sealed = IfSome sealed (λ y. unsealed y.0.under y.1 ≡ d)

unseals_if : (d : Draft) (y : Sealed × Draft) (t : Bool) → unsealed y.0.under y.1 ≡ d → Unseals d (cond t (Some y) None)
unseals_if d y true h = h
unseals_if d y false h = tt

unseals_at : (header : SecurityHeader) (nas : List ℕ) (d : Draft) (o : Option Context)
    → Unseals (having d o)
    (option_map_or (sealed_under header nas (having d o)) o (Some (record { form = []; under = None }, having d o)))
unfolding unsealed
unseals_at header nas d None = refl
unseals_at header nas d (Some x) = unseals_if _ _ (nat_lt x.security.down_next (2 ^ 24)) refl

unseals : (header : SecurityHeader) (nas : List ℕ) (d : Draft) → Unseals d (seal header nas d)
unfolding seal
unseals header nas d = unseals_at header nas d d.solo.context

pub unsealed_after : (header : SecurityHeader) (nas : List ℕ) (d : Draft) (s : Sealed) (after : Draft)
    → seal header nas d ≡ Some (s, after) → unsealed s.under after ≡ d
unsealed_after header nas d s after e = subst (Unseals d) e (unseals header nas d)
