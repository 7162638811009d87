use Rattle.std.proofs.Common.{◌≡◌, ◌∙◌, ℕ, ap, subst, sym}
use Rattle.identity_slots.specs.Spending.{HasFrom}
use Rattle.emm_state.specs.Actions.{wipe}
use Rattle.emm_state.specs.declared.draft.Draft.{Draft}
use Rattle.emm_uplink.specs.Attaching.{asking}
use Rattle.emm_uplink.proofs.attaching.attach.Goals as goal

pub challenge-requires : goal.challenge-requires
unfolding asking wipe
challenge-requires c =
    let stays : c.asking.new.draft.solo.next_vector ≡ c.args.draft.now.solo.next_vector =
    ap (λ (d : Draft). d.solo.next_vector) c.asking.ensures ∙ ap (λ (d : Draft). d.solo.next_vector) c.wipe.ensures in
    subst (λ (n : ℕ). HasFrom n c.args.setting.now.vectors c.args.vectors.now) (sym stays) c.requires
