use Rattle.sim_lines.proofs.Further.{stays}
use Rattle.trace_words.specs.declared.act.ScriptAct.TheVariants.{Station, Up, Raw, Radio, Phone}
use Rattle.sim_crowd.specs.Acting.{acting, acting_there, adding_station}
use Rattle.sim_lines.specs.Plays.{PlaysMessage}
use Rattle.sim_lines.specs.Turns.{scene_of, uplink_of}
use Rattle.std.proofs.Common.{ℕ, List, OnOk, subst}
use Rattle.sim_lines.proofs.Playing.{PlaysAct-as, PlaysOutcome-as}
use Rattle.sim_lines.proofs.acts.play_act.Goals as goal

pub returns-in_err-acted-in-Station-clause-goes : goal.returns-in_err-acted-in-Station-clause-goes
returns-in_err-acted-in-Station-clause-goes c = stays

pub returns-in_err-acted-in-Radio-clause-goes : goal.returns-in_err-acted-in-Radio-clause-goes
returns-in_err-acted-in-Radio-clause-goes c = stays

pub returns-in_err-acted-in-Phone-clause-goes : goal.returns-in_err-acted-in-Phone-clause-goes
returns-in_err-acted-in-Phone-clause-goes c = stays

pub returns-in_ok-acted-in-Station-clause-plays : goal.returns-in_ok-acted-in-Station-clause-plays
returns-in_ok-acted-in-Station-clause-plays c =
    let old = c.args.script.now in
    let page = c.args.out.now.items in
    let new = scene_of c.play_acted.new.script c.play_acted.new.out.items in
    let line = c.in-Station.line in
    PlaysAct-as c.play_acted.result c.args.act (Station line) (scene_of old page) new c.in-Station.is
    (PlaysOutcome-as c.play_acted.result c.in_ok-acted-in-Station.acted old.progress old.crowd c.add_station.new.self page
    (adding_station line old.crowd) new c.in_ok-acted-in-Station.ensures.ok c.play_acted.ensures.plays)

pub returns-in-Up-clause-plays : goal.returns-in-Up-clause-plays
returns-in-Up-clause-plays c =
    PlaysAct-as c.play_connection.result c.args.act (Up c.in-Up.station) (scene_of c.args.script.now c.args.out.now.items)
    (scene_of c.play_connection.new.script c.play_connection.new.out.items) c.in-Up.is c.play_connection.ensures.plays

pub returns-in-Raw-clause-plays : goal.returns-in-Raw-clause-plays
returns-in-Raw-clause-plays c =
    let done = c.play_message in
    let n = c.in-Raw.station in
    let old = scene_of c.args.script.now c.args.out.now.items in
    let new = scene_of done.new.script done.new.out.items in
    PlaysAct-as done.result c.args.act (Raw n c.in-Raw.octets) old new c.in-Raw.is
    (subst (λ (v : List ℕ). OnOk done.result (PlaysMessage (uplink_of n v) old new)) c.as_slice.ensures done.ensures.plays)

pub returns-in_ok-acted-in-Radio-clause-plays : goal.returns-in_ok-acted-in-Radio-clause-plays
returns-in_ok-acted-in-Radio-clause-plays c =
    let old = c.args.script.now in
    let page = c.args.out.now.items in
    let done = c.play_acted-in-Radio in
    let new = scene_of done.new.script done.new.out.items in
    let at = c.in-Radio in
    PlaysAct-as done.result c.args.act (Radio at.word at.imsi at.place) (scene_of old page) new at.is
    (PlaysOutcome-as done.result c.in_ok-acted-in-Radio.acted old.progress old.crowd c.act_there.new.self page
    (acting_there at.word at.imsi at.place old.crowd) new c.in_ok-acted-in-Radio.ensures.ok done.ensures.plays)

pub returns-in_ok-acted-in-Phone-clause-plays : goal.returns-in_ok-acted-in-Phone-clause-plays
returns-in_ok-acted-in-Phone-clause-plays c =
    let old = c.args.script.now in
    let page = c.args.out.now.items in
    let done = c.play_acted-in-Phone in
    let new = scene_of done.new.script done.new.out.items in
    let at = c.in-Phone in
    PlaysAct-as done.result c.args.act (Phone at.word at.imsi) (scene_of old page) new at.is
    (PlaysOutcome-as done.result c.in_ok-acted-in-Phone.acted old.progress old.crowd c.act.new.self page
    (acting at.word at.imsi old.crowd) new c.in_ok-acted-in-Phone.ensures.ok done.ensures.plays)
