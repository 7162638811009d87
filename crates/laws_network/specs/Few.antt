-- How much an MME sends at an event.
use Rattle.std.specs.Prelude.{◌≡◌, ◌≤◌, ℕ, ◌+◌, max, List, [], ◌∷◌, length, Ok}
use Rattle.emm_machine.specs.SubscriberView.{SubscriberView}
use Rattle.mme_answering.specs.declared.out.Out.{Out}
use Rattle.mme_core.specs.declared.event.Event.{Event}
use Rattle.mme_core.specs.declared.event.Event.TheVariants.{Up, Lost, In, Tick, Data, Cancel}
use Rattle.mme_core.specs.World.{World, reply}
use Rattle.laws_mme.specs.Work.{paged_again}

-- for each subscriber one, or one to each station that its phone was paged at
abbrev pub most_at_tick : List SubscriberView → ℕ
most_at_tick [] = 0
most_at_tick (x ∷ xs) = max 1 (paged_again x.solo.repeat) + most_at_tick xs

-- the most messages that an event makes an MME send
abbrev pub most_at : World → Event → ℕ
most_at w (Up e) = 0
most_at w (Lost e) = 0
most_at w (In e octets) = 3
most_at w Tick = length w.strangers + most_at_tick w.subscribers
most_at w (Data imsi) = length w.sight.stations
most_at w (Cancel imsi) = 1

abbrev pub EventsSendFew : Type 0
EventsSendFew = (w : World) (event : Event) (outs : List Out) → reply w event ≡ Ok outs → length outs ≤ most_at w event
