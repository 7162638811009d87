-- A tick that ends nobody's countdown: it is silent, and what always holds of an MME holds after it.
use Rattle.std.proofs.Common.{◌≡◌, ◌+◌, ◌<◌, ◌^◌, ◌++◌, List, [], ◌∷◌, Bool, true, false, not, true≢false, Option, None, Ok, refl, sym, ◌∙◌, ap, subst, arith}
use Rattle.std.specs.Prelude.{nat_lt}
use Rattle.std.proofs.lemmas.Bool.Decides.{nat_tests}
use Rattle.mme_types.specs.Events as items
use Rattle.emm_machine.specs.SubscriberView.{SubscriberView}
use Rattle.stranger_machine.specs.declared.table.Known.{Known}
use Rattle.stranger_machine.specs.declared.turn.Notice.TheVariants as notices
use Rattle.stranger_machine.specs.Table.{noted}
use Rattle.mme_owners.specs.Owners.{NobodyIsDue, OwnersView}
use Rattle.mme_routing.specs.Destinations.{for_all}
use Rattle.mme_answering.specs.declared.out.Out.{Out}
use Rattle.mme_core.specs.declared.event.Event.{Event}
use Rattle.mme_core.specs.declared.event.Event.TheVariants.{Tick}
use Rattle.mme_core.specs.declared.event.StepFault.{StepFault}
use Rattle.mme_core.specs.Apart.{AreApart, IdsStayApart}
use Rattle.mme_core.specs.Kept.{IsKept, StaysKept}
use Rattle.mme_core.specs.Quiet.{IsQuiet}
use Rattle.mme_core.specs.Sight.{Sight}
use Rattle.mme_core.specs.World.{World, each_after, each_known, each_sent, event_fault, happens, outputs, reply, reply_of, unless, world_after, world_moved, world_of}

pub not_refused : (s : Sight) → s.clock < 2 ^ 62 → event_fault s Tick ≡ None
not_refused s lt = let below : nat_lt s.clock (2 ^ 62) ≡ true = grind (arith, nat_tests) in rw below refl

pub quiet_reply : (s : Sight) (o : OwnersView) → s.clock < 2 ^ 62
    → each_known notices.Tick o.strangers ++ each_sent (for_all items.Tick) 0 o.subscribers ≡ [] → reply (world_of s o) Tick ≡ Ok []
unfolding happens
quiet_reply s o lt silent =
    ap (λ (f : Option StepFault). reply_of f (outputs (world_of s o) Tick)) (not_refused s lt)
    ∙ ap (λ (os : List Out). reply_of None os) silent

pub quiet_world : (s t : Sight) (o p : OwnersView) → s.clock < 2 ^ 62 → t ≡ record s { clock = s.clock + 1 }
    → p.strangers ≡ noted notices.Tick o.strangers → p.subscribers ≡ each_after (for_all items.Tick) 0 o.subscribers
    → world_of t p ≡ world_after (world_of s o) Tick
unfolding happens
quiet_world s t o p lt sight strangers subscribers =
    let next : Sight = record s { clock = s.clock + 1 } in
    ap (λ (x : Sight). world_of x p) sight
    ∙ ap (λ (ks : List Known). record { sight = next; strangers = ks; subscribers = p.subscribers }) strangers
    ∙ ap (λ (ws : List SubscriberView). record { sight = next; strangers = noted notices.Tick o.strangers; subscribers = ws }) subscribers
    ∙ ap (λ (f : Option StepFault). unless f (world_of s o) (world_moved (world_of s o) Tick)) (sym (not_refused s lt))

pub kept_once : (w v : World) (event : Event) → StaysKept → v ≡ world_after w event → IsKept w → IsKept v
kept_once w v event stays after h = subst IsKept (sym after) (stays w (event ∷ []) h)

pub apart_once : (w v : World) (event : Event) → IdsStayApart → v ≡ world_after w event → AreApart w → AreApart v
apart_once w v event stays after h = subst AreApart (sym after) (stays w (event ∷ []) h)

pub quiet_if : (w : World) (event : Event) (b : Bool) → event ≡ Tick → w.sight.clock < 2 ^ 62
    → (b ≡ false → NobodyIsDue w.strangers w.subscribers) → not b ≡ true → IsQuiet w event
quiet_if w event true tick before nobody told = absurd (true≢false (sym told))
quiet_if w event false tick before nobody told = record { tick = tick; before = before; nobody = nobody refl }
