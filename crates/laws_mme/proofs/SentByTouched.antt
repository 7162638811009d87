-- What is sent by those alone whom a tick or an item reaches.
use Rattle.std.proofs.Common.{◌≡◌, [], true, map, ◌∙◌, ap}
use Rattle.mme_types.specs.Events.{Item, Tick}
use Rattle.emm_machine.specs.Laws.{still_stays}
use Rattle.emm_machine.specs.Still.{still}
use Rattle.emm_machine.specs.SubscriberView.{SubscriberView}
use Rattle.emm_state.specs.declared.draft.Draft.{Draft}
use Rattle.mme_owners.specs.SubscriberLaws.{all_give_as_due, all_give_as_touched, quiet_sent}
use Rattle.mme_owners.specs.Subscribers.{subscriber_step}
use Rattle.laws_mme.specs.SubscriberTables.{AllSendAsDue, AllSendAsTouched, sent_at}

pub all_send_as_due : AllSendAsDue
all_send_as_due ws = all_give_as_due (sent_at Tick) ws (λ slot w h. ap (map (λ a. (slot, a))) (quiet_sent w h))

still_sent : (w : SubscriberView) (item : Item) → still w.solo item ≡ true → (subscriber_step w item).sent ≡ []
still_sent w item h = ap (λ (d : Draft). d.sent) (still_stays w.setting w.solo item h)

pub all_send_as_touched : AllSendAsTouched
all_send_as_touched item ws =
    all_give_as_touched item (sent_at item) ws (λ slot w h. ap (map (λ a. (slot, a))) (still_sent w item h))
