use Rattle.std.proofs.Common.{rules, refl, Some}
use Rattle.emm_state.specs.Actions.{ended}
use Rattle.emm_uplink.specs.Attaching.{counted_up, keyed, took}
use Rattle.emm_uplink.specs.Serving.{active, served, served_by, service}
use Rattle.emm_uplink.proofs.Connecting.{connect_beside}
use Rattle.emm_uplink.proofs.serving.service.Goals as goal

pub returns-in-Ok : goal.returns-in-Ok
unfolding service served_by served active ended keyed took
returns-in-Ok c =
    let done = c.serve.ensures _ refl in
    let same =
    connect_beside c.args.setting.now.slot c.args.entry.now.station c.args.entry.now.enb_ue_id c.args.draft.now.accepted
    (Some (counted_up c.in-Some.context c.in-Ok.count)) c.args.draft.now in
    search rules
