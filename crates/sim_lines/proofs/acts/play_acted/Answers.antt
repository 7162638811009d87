use Rattle.std.proofs.Common.{List, ℕ, [], OnOk, refl, ap, subst, sym, ◌∙◌}
use Rattle.sim_lines.proofs.Printing.{PrintsOn-none, PrintsOn-remark}
use Rattle.sim_lines.proofs.Further.{remarked, stays, unprinted}
use Rattle.sim_crowd.specs.declared.acted.Acted.TheVariants.{Skipped, Silent}
use Rattle.sim_crowd.specs.declared.acted.Acted.{Acted}
use Rattle.sim_crowd.specs.Uplinks.{UplinkView}
use Rattle.sim_lines.specs.Plays.{PlaysActed, PlaysMessage}
use Rattle.sim_lines.specs.Turns.{scene_of, uplink_of}
use Rattle.sim_lines.proofs.Playing.{PlaysActed-as, scene}
use Rattle.sim_lines.proofs.acts.play_acted.Goals as goal

pub returns-in_err-push_skipped-in-Skipped-clause-goes : goal.returns-in_err-push_skipped-in-Skipped-clause-goes
returns-in_err-push_skipped-in-Skipped-clause-goes c = unprinted c.in_err-push_skipped-in-Skipped.ensures.err

pub returns-in_ok-push_skipped-in-Skipped-clause-printed : goal.returns-in_ok-push_skipped-in-Skipped-clause-printed
returns-in_ok-push_skipped-in-Skipped-clause-printed c =
    PrintsOn-remark c.args.script.now.progress c.args.out.now.items c.push_skipped.new.out.items c.requires
    c.in_ok-push_skipped-in-Skipped.ensures.added

pub returns-in_ok-push_skipped-in-Skipped-clause-goes : goal.returns-in_ok-push_skipped-in-Skipped-clause-goes
returns-in_ok-push_skipped-in-Skipped-clause-goes c = remarked [] c.in_ok-push_skipped-in-Skipped.ensures.added

pub returns-in-Silent-clause-printed : goal.returns-in-Silent-clause-printed
returns-in-Silent-clause-printed c = PrintsOn-none c.args.script.now.progress c.args.out.now.items c.requires

pub returns-in-Silent-clause-goes : goal.returns-in-Silent-clause-goes
returns-in-Silent-clause-goes c = stays

pub returns-in_ok-push_skipped-in-Skipped-clause-plays : goal.returns-in_ok-push_skipped-in-Skipped-clause-plays
returns-in_ok-push_skipped-in-Skipped-clause-plays c =
    let old = c.args.script.now in
    PlaysActed-as c.args.acted Skipped (scene_of old c.args.out.now.items) (scene_of old c.push_skipped.new.out.items) c.in-Skipped.is
    (ap (λ (v : List ℕ). scene old.progress old.crowd v) c.in_ok-push_skipped-in-Skipped.ensures.text)

pub returns-in-Silent-clause-plays : goal.returns-in-Silent-clause-plays
returns-in-Silent-clause-plays c =
    let old = scene_of c.args.script.now c.args.out.now.items in
    PlaysActed-as c.args.acted Silent old old c.in-Silent.is refl

pub returns-in-Sends-clause-plays : goal.returns-in-Sends-clause-plays
returns-in-Sends-clause-plays c =
    let done = c.play_message in
    let n = c.uplink.inside.station in
    let old = scene_of c.args.script.now c.args.out.now.items in
    let new = scene_of done.new.script done.new.out.items in
    let same = ap (λ (v : List ℕ). uplink_of n v) c.as_slice-octets.ensures.value ∙ c.uplink.view_is in
    subst (λ (a : Acted). OnOk done.result (PlaysActed a old new)) (sym c.in-Sends.is)
    (subst (λ (u : UplinkView). OnOk done.result (PlaysMessage u old new)) same done.ensures.plays)
