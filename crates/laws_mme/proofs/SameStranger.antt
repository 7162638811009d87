-- What is nothing to a stranger may be left out.
use Rattle.std.proofs.Common.{◌≡◌, ℕ, List, [], ◌∷◌, ◌++◌, map, Option, Some, None, refl, sym, ◌∙◌, ap}
use Rattle.identity_slots.specs.declared.profile.Profile.{Profile}
use Rattle.stranger_machine.specs.declared.state.Stranger.{Stranger}
use Rattle.stranger_machine.specs.Laws.{at_nothing}
use Rattle.stranger_machine.specs.Machine.{Input, Nothing, stranger_step}
use Rattle.stranger_machine.specs.Table.{stranger_at}
use Rattle.mme_core.specs.declared.event.Event.{Event}
use Rattle.mme_core.specs.declared.event.StepFault.{StepFault}
use Rattle.mme_core.specs.Laws.{RepliesSo, in_order}
use Rattle.mme_core.specs.Projection.{Told, answer_told, stranger_input, stranger_run, stranger_told}
use Rattle.mme_core.specs.Sight.{Sight}
use Rattle.mme_core.specs.World.{event_fault, sight_after, sight_moved, unless}
use Rattle.laws_mme.specs.Same.{SameStrangerFromMme, SameToStranger, busy_inputs, inputs_along}
use Rattle.laws_mme.proofs.OwnersAlone.{stranger_goes_alone, stranger_is_told}

-- ---- by the inputs

inputs_told : List Profile → ℕ → Option Stranger → List Input → List (List Told)
inputs_told ps id x [] = []
inputs_told ps id x (i ∷ is) =
    map answer_told (stranger_step ps id x i).sent ∷ inputs_told ps id (stranger_step ps id x i).stranger is

inputs_run : List Profile → ℕ → Option Stranger → List Input → Option Stranger
inputs_run ps id x [] = x
inputs_run ps id x (i ∷ is) = inputs_run ps id (stranger_step ps id x i).stranger is

profiles_by : (o : Option StepFault) (s t : Sight) → t.profiles ≡ s.profiles → (unless o s t).profiles ≡ s.profiles
profiles_by None s t h = h
profiles_by (Some fault) s t h = refl

profiles_once : (s : Sight) (e : Event) → (sight_after s e).profiles ≡ s.profiles
profiles_once s e = profiles_by (event_fault s e) s (sight_moved s e) refl

told_by_inputs : (s : Sight) (id : ℕ) (x : Option Stranger) (es : List Event)
    → stranger_told s id x es ≡ inputs_told s.profiles id x (inputs_along s id es)
unfolding inputs_told
told_by_inputs s id x [] = refl
told_by_inputs s id x (e ∷ es) =
    let t = stranger_step s.profiles id x (stranger_input s id e) in
    ap (λ zs. map answer_told t.sent ∷ zs) (told_by_inputs (sight_after s e) id t.stranger es
    ∙ ap (λ ps. inputs_told ps id t.stranger (inputs_along (sight_after s e) id es)) (profiles_once s e))

run_by_inputs : (s : Sight) (id : ℕ) (x : Option Stranger) (es : List Event)
    → stranger_run s id x es ≡ inputs_run s.profiles id x (inputs_along s id es)
unfolding inputs_run
run_by_inputs s id x [] = refl
run_by_inputs s id x (e ∷ es) =
    let t = stranger_step s.profiles id x (stranger_input s id e) in
    run_by_inputs (sight_after s e) id t.stranger es
    ∙ ap (λ ps. inputs_run ps id t.stranger (inputs_along (sight_after s e) id es)) (profiles_once s e)

-- ---- without what is nothing

told_busy : (ps : List Profile) (id : ℕ) (x : Option Stranger) (is : List Input)
    → in_order (inputs_told ps id x is) ≡ in_order (inputs_told ps id x (busy_inputs is))
unfolding inputs_told
told_busy ps id x [] = refl
told_busy ps id x (Nothing ∷ is) =
    ap (λ t. map answer_told t.sent ++ in_order (inputs_told ps id t.stranger is)) (at_nothing ps id x) ∙ told_busy ps id x is
told_busy ps id x (i ∷ is) =
    ap (λ zs. map answer_told (stranger_step ps id x i).sent ++ zs) (told_busy ps id (stranger_step ps id x i).stranger is)

run_busy : (ps : List Profile) (id : ℕ) (x : Option Stranger) (is : List Input)
    → inputs_run ps id x is ≡ inputs_run ps id x (busy_inputs is)
unfolding inputs_run
run_busy ps id x [] = refl
run_busy ps id x (Nothing ∷ is) = ap (λ t. inputs_run ps id t.stranger is) (at_nothing ps id x) ∙ run_busy ps id x is
run_busy ps id x (i ∷ is) = run_busy ps id (stranger_step ps id x i).stranger is

-- ---- the laws

told_by_busy : (s : Sight) (id : ℕ) (x : Option Stranger) (es : List Event)
    → in_order (stranger_told s id x es) ≡ in_order (inputs_told s.profiles id x (busy_inputs (inputs_along s id es)))
told_by_busy s id x es = ap in_order (told_by_inputs s id x es) ∙ told_busy s.profiles id x (inputs_along s id es)

run_by_busy : (s : Sight) (id : ℕ) (x : Option Stranger) (es : List Event)
    → stranger_run s id x es ≡ inputs_run s.profiles id x (busy_inputs (inputs_along s id es))
run_by_busy s id x es = run_by_inputs s id x es ∙ run_busy s.profiles id x (inputs_along s id es)

pub same_to_stranger : SameToStranger
same_to_stranger id s t x es ds ps same = (
  told_by_busy s id x es ∙ ap (λ is. in_order (inputs_told s.profiles id x is)) same
      ∙ ap (λ qs. in_order (inputs_told qs id x (busy_inputs (inputs_along t id ds)))) ps ∙ sym (told_by_busy t id x ds),
  run_by_busy s id x es ∙ ap (inputs_run s.profiles id x) same
      ∙ ap (λ qs. inputs_run qs id x (busy_inputs (inputs_along t id ds))) ps ∙ sym (run_by_busy t id x ds),
)

pub same_stranger_from_mme : RepliesSo → SameStrangerFromMme
same_stranger_from_mme so id w v es ds r q ps there same =
    let x = stranger_at id w.strangers in
    let both = same_to_stranger id w.sight v.sight x es ds ps same in (
      ap in_order (stranger_is_told so w es id r) ∙ both.0
          ∙ ap (λ y. in_order (stranger_told v.sight id y ds)) there ∙ sym (ap in_order (stranger_is_told so v ds id q)),
      stranger_goes_alone w es id r ∙ both.1 ∙ ap (λ y. stranger_run v.sight id y ds) there
          ∙ sym (stranger_goes_alone v ds id q),
    )
