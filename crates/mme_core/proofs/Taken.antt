-- What always holds of an MME holds once what was prepared is taken, or isn't.
use Rattle.std.proofs.Common.{◌≡◌, ◌≤◌, List, sym, ◌∙◌, ap, subst, arith}
use Rattle.emm_machine.specs.SubscriberView.{SubscriberView}
use Rattle.stranger_machine.specs.declared.table.Known.{Known}
use Rattle.mme_owners.specs.Owners.{OwnersView}
use Rattle.mme_answering.specs.Settled.{settled_strangers, settled_subscribers}
use Rattle.mme_core.specs.declared.mme.Ready.{Ready}
use Rattle.mme_core.specs.Apart.{AreApart}
use Rattle.mme_core.specs.Kept.{IsKept}
use Rattle.mme_core.specs.Ready.{ready_sight, ready_world}
use Rattle.mme_core.specs.Sight.{Sight}
use Rattle.mme_core.specs.World.{world_of}

-- of an MME with these owners
abbrev pub IsMme : Sight → OwnersView → Type 0
IsMme s o = (o.clock ≤ s.clock) × IsKept (world_of s o) × AreApart (world_of s o)

-- ---- it is taken

pub taken_world : (r : Ready) (s t : Sight) (o p : OwnersView) → t ≡ ready_sight r.moves s
    → p.strangers ≡ settled_strangers r.prepared o.strangers → p.subscribers ≡ settled_subscribers r.prepared o.subscribers
    → world_of t p ≡ ready_world r (world_of s o)
taken_world r s t o p sight strangers subscribers =
    let next : Sight = ready_sight r.moves s in
    let ks = settled_strangers r.prepared o.strangers in
    ap (λ (x : Sight). world_of x p) sight
    ∙ ap (λ (xs : List Known). record { sight = next; strangers = xs; subscribers = p.subscribers }) strangers
    ∙ ap (λ (xs : List SubscriberView). record { sight = next; strangers = ks; subscribers = xs }) subscribers

pub taken : (r : Ready) (s t : Sight) (o p : OwnersView) → world_of t p ≡ ready_world r (world_of s o) → p.clock ≤ t.clock
    → IsKept (ready_world r (world_of s o)) → AreApart (ready_world r (world_of s o)) → IsMme t p
taken r s t o p is le kept apart = (le, subst IsKept (sym is) kept, subst AreApart (sym is) apart)

-- ---- it isn't

pub same_world : (s : Sight) (o p : OwnersView) → p.strangers ≡ o.strangers → p.subscribers ≡ o.subscribers
    → world_of s p ≡ world_of s o
same_world s o p strangers subscribers =
    ap (λ (ks : List Known). record { sight = s; strangers = ks; subscribers = p.subscribers }) strangers
    ∙ ap (λ (ws : List SubscriberView). record { sight = s; strangers = o.strangers; subscribers = ws }) subscribers

pub left : (s : Sight) (o p : OwnersView) → p.strangers ≡ o.strangers → p.subscribers ≡ o.subscribers → p.clock ≡ o.clock
    → IsMme s o → IsMme s p
left s o p strangers subscribers clock h =
    let same : world_of s p ≡ world_of s o = same_world s o p strangers subscribers in
    let le = h.0 in
    (omega (arith, le, clock), subst IsKept (sym same) h.1, subst AreApart (sym same) h.2)
