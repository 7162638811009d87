use Rattle.std.proofs.Common.{◌≡◌, ◌∙◌, ℕ, List, Some, true, refl, sym, ap, subst, rules}
use Rattle.std.specs.Prelude.{slice_get}
use Rattle.per_bits.specs.Spelling.{SpellsWhole}
use Rattle.nas_elements.specs.Digits.{is_imsi}
use Rattle.emm_state.specs.declared.setting.Setting.{Setting}
use Rattle.emm_state.specs.declared.solo.Solo.{Solo}
use Rattle.emm_machine.specs.SubscriberView.{SubscriberView}
use Rattle.emm_machine.specs.Ticks.{solo_aged}
use Rattle.stranger_machine.specs.declared.table.Known.{Known}
use Rattle.mme_owners.specs.Lent.{lent_now}
use Rattle.snapshot_formats.specs.Formats.{saved_subscriber}
use Rattle.snapshot_formats.specs.Subscribers.{typed_saved_state}
use Rattle.mme_snapshot.specs.Images.{is_placed}
use Rattle.mme_snapshot.specs.Stored.{stored_subscriber}
use Rattle.mme_snapshot.proofs.Fitting.{of_some}
use Rattle.mme_snapshot.proofs.SavedSubscribers.{own_key, subscriber_saved}
use Rattle.mme_snapshot.proofs.saving.save_subscriber.Goals as goal

same_connection : (n : ℕ) (solo : Solo) → (solo_aged n solo).connection ≡ solo.connection
unfolding solo_aged
same_connection n solo = refl

pub stored_subscriber-requires : goal.stored_subscriber-requires
stored_subscriber-requires c =
    let w = c.args.mme.now in
    let x : SubscriberView = lent_now c.in-Some.lent in
    let at : slice_get w.subscribers c.args.slot ≡ Some x =
    sym (c.in-Some.ensures ∙ ap (λ (ws : List SubscriberView). slice_get ws c.args.slot) c.parts.ensures.subscribers) in
    own_key w.subscribers c.args.slot x c.parts.ensures.kept.in_use at

pub returns-in-Ok : goal.returns-in-Ok
returns-in-Ok c =
    let w = c.args.mme.now in
    let slot = c.args.slot in
    let lent = c.in-Some.lent in
    let x : SubscriberView = lent_now lent in
    let at : slice_get w.subscribers slot ≡ Some x =
    sym (c.in-Some.ensures ∙ ap (λ (ws : List SubscriberView). slice_get ws slot) c.parts.ensures.subscribers) in
    let known : c.owners-inside.inside.0.0.strangers.strangers ≡ w.strangers =
    search rules in
    let imsi : is_imsi x.setting.profile.imsi ≡ true =
    subst (λ (s : Setting). is_imsi s.profile.imsi ≡ true) c.setting.ensures c.know_imsi.ensures in
    let connection : x.solo.connection ≡ c.solo.result.now.connection =
    same_connection lent.slept lent.subscriber.now.solo ∙ ap (λ (s : Solo). s.connection) (sym c.solo.ensures) in
    let placed : is_placed w.strangers slot x.solo.connection ≡ true =
    ap (is_placed w.strangers slot) connection
    ∙ ap (λ (ks : List Known). is_placed ks slot c.solo.result.now.connection) (sym known)
    ∙ sym c.is_placed.ensures.placed ∙ c.if-not-is_placed.false in
    let stored = c.in-Ok-Some.stored in
    let told = c.in-Ok-Some.ensures in
    let is = c.in-Ok-Some.field-0-is in
    let setting = of_some _ _ stored is told.subscriber in
    let spelled =
    subst (λ (s : Setting). SpellsWhole saved_subscriber (stored_subscriber s stored.spent (typed_saved_state stored.state))
    c.in-Ok.octets.items) setting c.in-Ok.ensures in (
      x,
      at,
      subscriber_saved w slot stored.spent stored.unspent x (typed_saved_state stored.state) c.in-Ok.octets.items
          (of_some _ _ stored is told.spent) (of_some _ _ stored is told.all) (of_some _ _ stored is told.state) at
          c.parts.ensures.kept c.parts.ensures.apart imsi (of_some _ _ stored is told.fits) placed spelled,
    )
