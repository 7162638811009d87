use Rattle.std.proofs.Common.{◌≡◌, ◌++◌, ◌∷◌, [], map}
use native.Mathlib.Nat.{sub-zero}
use Rattle.std.proofs.lemmas.Result.{err_from_is_err_and}
use Rattle.std.proofs.lemmas.List.{map_push}
use Rattle.per_bits.specs.Reading.{read_at}
use Rattle.per_streams.specs.Each.{times}
use Rattle.per_streams.specs.Times.{goes_on, ends, is_done, none_yet}
use Rattle.per_bits.proofs.items.read_times.Goals as goal

pub loop-init : goal.loop-init
loop-init g c =
    rw (c.new-values.ensures.items, sub-zero c.args.count)
    (none_yet (times (read_at g.T.Element.format) c.args.count c.args.reader.now))

pub returns-in_err-value : goal.returns-in_err-value
returns-in_err-value g c =
    let r = read_at g.T.Element.format in
    let p = err_from_is_err_and c.from_residual.result c.from_residual.ensures.1 in
    rw (p.1, p.2)
    (ends r c.in_err-value.field-0.0 (map g.T.Element.view c.loop.values.items) c.args.count c.loop.counter c.loop.reader
    (times r c.args.count c.args.reader.now) c.loop-test.true c.in_err-value.ensures c.loop.invariant)

pub loop-preserved : goal.loop-preserved
loop-preserved g c =
    let r = read_at g.T.Element.format in
    let n = c.in_ok-value.value in
    let e : map g.T.Element.view c.push.new.self.items ≡ map g.T.Element.view c.loop.values.items ++ g.T.Element.view n ∷ [] =
    rw c.in_ok-push.ensures.items (map_push _ c.loop.values.items n) in
    rw e
    (goes_on r (map g.T.Element.view c.loop.values.items) c.args.count c.loop.counter c.loop.reader (g.T.Element.view n) _
    (times r c.args.count c.args.reader.now) c.loop-test.true c.in_ok-value.ensures c.loop.invariant)

pub returns : goal.returns
returns g c =
    let r = read_at g.T.Element.format in
    is_done r (map g.T.Element.view c.loop.values.items) c.args.count c.loop.counter c.loop.reader
    (times r c.args.count c.args.reader.now) c.loop-test.false c.loop.invariant
