-- A tick that ends nobody's countdown: nobody sends anything, and each subscriber has a tick less.
use Rattle.std.proofs.Common.{◌≡◌, List, [], map, sym, ◌∙◌, ap}
use Rattle.mme_types.specs.Events.{Tick}
use Rattle.emm_machine.specs.SubscriberView.{SubscriberView}
use Rattle.sorted_list.specs.Ordered.{Rising}
use Rattle.stranger_machine.specs.declared.table.Known.{Known}
use Rattle.stranger_machine.specs.declared.turn.Notice.TheVariants as notices
use Rattle.stranger_machine.specs.Table.{known_id}
use Rattle.mme_tables.specs.StrangerLaws.{some_known_give}
use Rattle.mme_owners.specs.SubscriberLaws.{some_give}
use Rattle.mme_tables.specs.Waiting.{due_ids}
use Rattle.mme_owners.specs.Subscribers.{due_slots, each_after, one_less}
use Rattle.mme_routing.specs.Destinations.{for_all}
use Rattle.mme_answering.specs.Settled.{item_sent, known_sent}
use Rattle.mme_answering.specs.Sending.{each_known, each_sent}
use Rattle.mme_answering.proofs.Known.{due_known}
use Rattle.mme_answering.proofs.Stepping.{due_send, ticks_all}

pub quiet_known : (ks : List Known) → Rising known_id ks → due_ids ks ≡ [] → each_known notices.Tick ks ≡ []
quiet_known ks rising none = sym (due_known ks rising) ∙ ap (λ ids. some_known_give (known_sent notices.Tick) ids ks) none

pub quiet_slots : (ws : List SubscriberView) → due_slots ws ≡ [] → each_sent (for_all Tick) 0 ws ≡ []
quiet_slots ws none = sym (due_send ws) ∙ ap (λ slots. some_give (item_sent Tick) slots ws) none

pub quiet_after : (ws : List SubscriberView) → due_slots ws ≡ [] → map one_less ws ≡ each_after (for_all Tick) 0 ws
quiet_after ws none = ticks_all [] ws (sym none) tt
