use Rattle.std.proofs.Common.{rules, Some}
use Rattle.emm_uplink.specs.Attaching.{counted_up, took}
use Rattle.emm_uplink.specs.Serving.{initial_update, updated_by}
use Rattle.emm_uplink.proofs.Connecting.{connect_beside}
use Rattle.emm_uplink.proofs.serving.initial_update.Goals as goal

pub returns-in_ok-connect-in-Ok : goal.returns-in_ok-connect-in-Ok
unfolding initial_update updated_by took
returns-in_ok-connect-in-Ok c =
    let same =
    connect_beside c.args.setting.now.slot c.args.entry.now.station c.args.entry.now.enb_ue_id
    (Some c.in-Ok.mark)
    (Some (counted_up c.in-Some.context c.in-Ok.mark.count)) c.args.draft.now in
    search rules
