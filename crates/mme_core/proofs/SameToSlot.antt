-- What is nothing to a slot may be left out.
use Rattle.std.proofs.Common.{◌≡◌, List, [], ◌∷◌, ◌++◌, map, Some, refl, sym, ◌∙◌, ap}
use Rattle.mme_types.specs.Events.{Item, Nothing}
use Rattle.emm_machine.specs.SubscriberView.{SubscriberView}
use Rattle.mme_core.specs.Laws.{SameFromMme, SameToSlot, busy, in_order}
use Rattle.mme_core.specs.Projection.{alone_after, answer_told, projection, subscriber_told}
use Rattle.mme_core.specs.World.{strangers_in, subscriber_after, subscriber_step}
use Rattle.mme_core.proofs.Alone.{slots_end, slots_told}
use Rattle.mme_answering.specs.Laws.{at_nothing}

told_busy : (w : SubscriberView) (is : List Item) → in_order (subscriber_told w is) ≡ in_order (subscriber_told w (busy is))
told_busy w [] = refl
told_busy w (Nothing ∷ is) =
    ap (λ d. map answer_told d.sent ++ in_order (subscriber_told (record { setting = w.setting; solo = d.solo }) is)) (at_nothing w.setting w.solo) ∙ told_busy w is
told_busy w (i ∷ is) = ap (λ zs. map answer_told (subscriber_step w i).sent ++ zs) (told_busy (subscriber_after w i) is)

after_busy : (w : SubscriberView) (is : List Item) → alone_after w is ≡ alone_after w (busy is)
after_busy w [] = refl
after_busy w (Nothing ∷ is) =
    ap (λ d. alone_after (record { setting = w.setting; solo = d.solo }) is) (at_nothing w.setting w.solo) ∙ after_busy w is
after_busy w (i ∷ is) = after_busy (subscriber_after w i) is

pub same_to_slot : SameToSlot
same_to_slot slot s t g h es ds w same =
    let a = projection slot s g es in
    let b = projection slot t h ds in (
      told_busy w a ∙ ap (λ is. in_order (subscriber_told w is)) same ∙ sym (told_busy w b),
      after_busy w a ∙ ap (alone_after w) same ∙ sym (after_busy w b),
    )

pub same_from_mme : SameFromMme
same_from_mme slot w v es ds x r q h k same =
    let both = same_to_slot slot w.sight v.sight (strangers_in w) (strangers_in v) es ds x same in (
      ap in_order (slots_told w es slot x r h) ∙ both.0 ∙ sym (ap in_order (slots_told v ds slot x q k)),
      slots_end w es slot x r h ∙ ap Some both.1 ∙ sym (slots_end v ds slot x q k),
    )
