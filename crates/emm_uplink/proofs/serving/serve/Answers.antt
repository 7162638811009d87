use Rattle.std.proofs.Common.{◌∙◌, IsSome, Some, ap, refl, subst, sym}
use Rattle.emm_state.specs.Actions.{ended}
use Rattle.emm_state.specs.declared.draft.Draft.{Draft}
use Rattle.emm_uplink.specs.Attaching.{keyed}
use Rattle.emm_uplink.specs.Serving.{active, served}
use Rattle.emm_uplink.proofs.Connecting.{connect_keeps}
use Rattle.emm_uplink.proofs.serving.serve.Goals as goal

pub returns : goal.returns
unfolding served active ended
returns c x h =
    let moved = c.active.ensures ∙ ap (active _) c.in_ok-connect.ensures.after in
    let stands = ap (λ (d : Draft). d.solo.context) moved ∙ connect_keeps _ _ _ (Some x) _ h in
    rw (sym (c.keyed-kenb.ensures.kenb x stands), sym (c.keyed-kenb.ensures.keyed x stands ∙ ap (keyed x c.args.count) moved)) c.set_up_alone.ensures.after

pub keyed-kenb-requires : goal.keyed-kenb-requires
unfolding active ended
keyed-kenb-requires c =
    let moved = c.active.ensures ∙ ap (active _) c.in_ok-connect.ensures.after in
    let stands = ap (λ (d : Draft). d.solo.context) moved ∙ connect_keeps _ _ _ _ _ refl in
    subst IsSome (sym stands) c.requires
