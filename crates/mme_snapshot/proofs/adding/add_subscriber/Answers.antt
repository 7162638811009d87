use Rattle.std.proofs.Common.{◌≡◌, ◌<◌, ◌++◌, ◌∷◌, [], ℕ, Bool, List, length, true, sym, subst, ap, arith, ◌∙◌}
use Rattle.std.specs.Prelude.{IfSome}
use Rattle.identity_slots.specs.Ids.{enb_ue_ids, slots}
use Rattle.mme_types.specs.declared.connection.Connection.{Connection}
use Rattle.emm_state.specs.declared.solo.Solo.{Solo}
use Rattle.emm_state.specs.declared.draft.Draft.{Draft}
use Rattle.emm_machine.specs.SubscriberView.{SubscriberView}
use Rattle.stranger_machine.specs.declared.table.Known.{Known}
use Rattle.mme_owners.specs.declared.owners.Owners.TheInside.{Inside}
use Rattle.mme_owners.specs.Owners.{OwnersView}
use Rattle.mme_owners.specs.Subscribers.{IsCounting}
use Rattle.laws_apart.specs.Apart.{IdsApart}
use Rattle.snapshot_formats.specs.Subscribers.{typed_saved_subscriber}
use Rattle.mme_snapshot.specs.Images.{is_placed}
use Rattle.mme_snapshot.proofs.Fitting.{clocked, counting, joins, of_some}
use Rattle.mme_snapshot.proofs.Pushed.{are_apart}
use Rattle.mme_snapshot.proofs.adding.add_subscriber.Goals as goal
use Rattle.mme_snapshot.proofs.adding.add_subscriber.Goals.{After-settle-arg-1}

-- the connection of the state that is stored is its own
placed_by : {ks js : List Known} {slot n : ℕ} {d e : Draft} {found : Bool} → ks ≡ js → slot ≡ n → d ≡ e
    → found ≡ is_placed ks slot d.solo.connection → found ≡ true → is_placed js n e.solo.connection ≡ true
placed_by {ks = ks} {js = js} {slot = slot} {n = n} {d = d} {e = e} strangers next same by held =
    subst (λ (x : Draft). is_placed js n x.solo.connection ≡ true) same
    (subst (λ (m : ℕ). is_placed js m d.solo.connection ≡ true) next
    (subst (λ (hs : List Known). is_placed hs slot d.solo.connection ≡ true) strangers (sym by ∙ held)))

apart_by : (c : goal.After-settle-arg-1) → IdsApart c.args.owners.now.strangers
    (c.args.owners.now.subscribers ++ record { setting = c.in-Ok-Some.prepared.0.setting; solo = c.in-Ok-Some.prepared.1.value.solo } ∷ [])
apart_by c =
    let room : length c.args.owners.now.subscribers < slots = omega (arith, c.requires.next, c.prepare.auto.slot) in
    let slot : c.in-Ok-Some.prepared.0.setting.slot ≡ length c.args.owners.now.subscribers =
    ap (λ (x : SubscriberView). x.setting.slot) (of_some _ _ _ c.in-Ok-Some.field-0-is c.in-Ok-Some.ensures.subscriber) ∙ c.requires.next in
    let numbered : IfSome c.in-Ok-Some.prepared.1.value.solo.connection (λ (k : Connection). k.enb_ue_id < enb_ue_ids) =
    subst (λ (d : Draft). IfSome d.solo.connection (λ (k : Connection). k.enb_ue_id < enb_ue_ids)) c.deref.ensures c.is_placed.ensures.numbered in
    let strangers = ap (λ (i : Inside). i.records.strangers) c.owners-inside.view_is ∙ ap (λ (v : OwnersView). v.strangers) c.owners.view_is in
    let placed : is_placed c.args.owners.now.strangers (length c.args.owners.now.subscribers) c.in-Ok-Some.prepared.1.value.solo.connection ≡ true =
    placed_by strangers c.requires.next c.deref.ensures c.is_placed.ensures.placed c.if-not-is_placed.false in
    joins c.args.owners.now.strangers c.args.owners.now.subscribers
    (record { setting = c.in-Ok-Some.prepared.0.setting; solo = c.in-Ok-Some.prepared.1.value.solo }) room slot numbered placed c.requires.apart

pub settle-requires-clause-apart : goal.settle-requires-clause-apart
settle-requires-clause-apart c =
    are_apart c.args.owners.now.strangers _ c.no_two_share_an_id.ensures.two c.no_two_share_an_id.ensures.waiting (apart_by c)

pub settle-requires-clause-counting : goal.settle-requires-clause-counting
settle-requires-clause-counting c =
    subst (λ (s : Solo). IsCounting s) (sym (of_some _ _ _ c.in-Ok-Some.field-0-is c.in-Ok-Some.ensures.state))
    (counting _ c.clocks_are_kept.ensures.running
    (clocked (typed_saved_subscriber c.args.saved.now) (of_some _ _ _ c.in-Ok-Some.field-0-is c.in-Ok-Some.ensures.fits) c.states_that_fit.ensures.clocked))

pub returns-in-Ok-clause-apart : goal.returns-in-Ok-clause-apart
returns-in-Ok-clause-apart c =
    let before = apart_by (goal.at.returns-in-Ok-clause-apart c).After-settle-arg-1 in
    let one : IdsApart c.args.owners.now.strangers c.settle.new.owners.subscribers =
    subst (λ (ws : List SubscriberView). IdsApart c.args.owners.now.strangers ws) (sym c.in-Ok.ensures.subscribers) before in
    subst (λ (ks : List Known). IdsApart ks c.settle.new.owners.subscribers) (sym c.settle.ensures.strangers) one
