-- The lines of a slot.
use Rattle.std.proofs.Common.{◌≡◌, ℕ, zero, suc, ◌<◌, List, [], ◌∷◌, length, map, Some, refl, sym, ap, subst, ◌∙◌, arith}
use Rattle.std.specs.Prelude.{slice_get}
use Rattle.emm_machine.specs.SubscriberView.{SubscriberView}
use Rattle.mme_answering.specs.declared.out.Owner.TheVariants.{Subscriber}
use Rattle.mme_core.specs.Apart.{AreApart, IdsBeginApart}
use Rattle.mme_core.specs.declared.event.Event.{Event}
use Rattle.mme_core.specs.Laws.{in_order}
use Rattle.mme_core.specs.Projection.{silence, subscriber_told}
use Rattle.laws_mme.specs.OwnersAlone.{NobodyIsTold, SlotIsTold, own_items}
use Rattle.trace_progress.specs.Text.{played_of}
use Rattle.laws_simulation.specs.OwnLines.{NobodyIsPrinted, NobodyIsPrintedFrom, SlotIsPrinted, SlotIsPrintedFrom}
use Rattle.laws_simulation.specs.Printed.{lines_for, told_line, told_lines}
use Rattle.laws_simulation.specs.TraceRuns.{Run, events_in}
use Rattle.laws_simulation.proofs.BegunRuns.{IsRunOf, run_printed}
use Rattle.laws_simulation.proofs.Owners.{slot_agrees}
use Rattle.laws_simulation.proofs.Played.{lines_printed}

there_is : (ws : List SubscriberView) (slot : ℕ) (x : SubscriberView) → slice_get ws slot ≡ Some x → slot < length ws
there_is [] slot x h = absurd (cc h)
there_is (w ∷ ws) zero x h = omega arith
there_is (w ∷ ws) (suc slot) x h = let below = there_is ws slot x h in omega (arith, below)

no_order : (events : List Event) → in_order (silence events) ≡ []
no_order [] = refl
no_order (e ∷ es) = no_order es

-- ---- from any MME

pub slot_is_printed_from : SlotIsTold → SlotIsPrintedFrom
slot_is_printed_from told w line texts slot x rising few there =
    let low = there_is w.subscribers slot x there in
    lines_printed (Subscriber slot) w line texts (slot_agrees slot (omega (arith, few, low)) w (events_in w texts) few)
    ∙ ap (told_lines (Subscriber slot)) (told w (events_in w texts) slot x rising there)

pub nobody_is_printed_from : NobodyIsTold → NobodyIsPrintedFrom
nobody_is_printed_from told w line texts slot rising few gone low =
    lines_printed (Subscriber slot) w line texts (slot_agrees slot (omega (arith, low)) w (events_in w texts) few)
    ∙ ap (told_lines (Subscriber slot)) (told w (events_in w texts) slot rising gone)
    ∙ ap (map (told_line (Subscriber slot))) (no_order (events_in w texts))

-- ---- of a trace

pub begins_apart : IdsBeginApart → (octets : List ℕ) (run : Run) → IsRunOf run (played_of octets) → AreApart run.mme
begins_apart begins octets run r =
    subst AreApart (sym r.fresh) (begins r.config.network r.provisioned.profiles r.provisioned.vectors r.few)

pub slot_is_printed : IdsBeginApart → SlotIsTold → SlotIsPrinted
slot_is_printed begins told octets run slot x is there =
    let r = run_printed octets run is in
    let apart = begins_apart begins octets run r in
    ap (lines_for (Subscriber slot)) r.printed
    ∙ slot_is_printed_from told run.mme r.number r.texts slot x apart.rising apart.few there
    ∙ ap (λ events. told_lines (Subscriber slot) (subscriber_told x (own_items slot run.mme events))) (sym r.events)

pub nobody_is_printed : IdsBeginApart → NobodyIsTold → NobodyIsPrinted
nobody_is_printed begins told octets run slot is gone low =
    let r = run_printed octets run is in
    let apart = begins_apart begins octets run r in
    ap (lines_for (Subscriber slot)) r.printed
    ∙ nobody_is_printed_from told run.mme r.number r.texts slot apart.rising apart.few gone low
