-- A subscriber that is lent, as it is now.
use Rattle.emm_machine.specs.SubscriberView.{SubscriberView}
use Rattle.emm_machine.specs.Ticks.{solo_aged}
use Rattle.mme_owners.specs.declared.lent.LentSubscriber.{LentSubscriber}

abbrev pub lent_now : LentSubscriber → SubscriberView
lent_now l = record { setting = l.subscriber.now.setting; solo = solo_aged l.slept l.subscriber.now.solo }
