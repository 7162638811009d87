use Rattle.std.proofs.Common.{◌-◌, length, take, drop, ap, ◌∙◌, arith}
use Rattle.std.proofs.lemmas.List.{length-drop}
use Rattle.std.specs.Io.KnownBytes.{Appends}
use Rattle.trace_run.specs.OctetLaws.{Appends-then, Appends-same, take_then_take, take_rest}
use Rattle.trace_run.specs.Watching.{moves_none-more}
use Rattle.trace_run.proofs.answers.write_whole.Goals as goal

pub loop-turn-preserved : goal.loop-turn-preserved
loop-turn-preserved g c =
    let at = c.loop-turn.at in
    let n = c.in-Ok.n in
    let octets = c.args.octets.now in
    let first = g.W.Write.contents c.args.writer.now.inner in
    let mid = g.W.Write.contents c.loop-turn.writer.inner in
    let last = g.W.Write.contents c.write.new.self.inner in
    let raw : Appends mid last (take n (take (length octets - at) (drop at octets))) = c.in-Ok.ensures.bytes in
    let bytes = Appends-same mid last _ _ (ap (take n) (take_rest at octets)) raw in
    let unfailed =
    c.in-Ok.ensures.failed ∙ moves_none-more c.loop-turn.writer.failed (length (take (length octets - at) (drop at octets))) n (omega arith)
    ∙ c.loop-turn.invariant.3 in (
      Appends-same first last _ _ (take_then_take at n octets (omega arith))
          (Appends-then first mid last (take at octets) (take n (drop at octets)) c.loop-turn.invariant.0 bytes),
      omega (arith, ap length (take_rest at octets), length-drop at octets, c.in-Ok.ensures.bound),
      omega arith,
      unfailed,
    )
