-- Subscribers in use.
use Rattle.std.specs.Prelude.{List, [], ◌∷◌}
use Rattle.emm_machine.specs.Freshness.{IsInUse}
use Rattle.emm_machine.specs.SubscriberView.{SubscriberView}
use Rattle.laws_subscriber.specs.Sound.{IsSound}
use Rattle.laws_subscriber.specs.Clocked.{IsClocked}

-- no vector of a context that stands can become one again, each state is sound, and the countdown of its phase runs and no other
abbrev pub AreInUse : List SubscriberView → Type 0
AreInUse [] = Unit {0}
AreInUse (w ∷ ws) = IsInUse w.solo × IsSound w.setting w.solo × IsClocked w.solo × AreInUse ws
