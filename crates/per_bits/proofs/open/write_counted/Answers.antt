use Rattle.std.proofs.Common.{ℕ, ◌-◌, ◌++◌, Bool, List, length, refl, ap, ◌∙◌, arith}
use Rattle.std.proofs.lemmas.List.{length-append}
use Rattle.std.proofs.lemmas.Result.{err_from_is_err_and}
use Rattle.per_streams.specs.Bits.{bits, pad}
use Rattle.per_streams.specs.BitLaws.{length-bits}
use Rattle.per_bits.specs.Writing.{write_at}
use Rattle.per_bits.proofs.OpenLaws.{StandsAfter, open_fails, open_room, open_written, place_before}
use Rattle.per_bits.proofs.Placed.{placed_at}
use Rattle.per_bits.proofs.open.write_counted.Goals as goal

pub returns-in_err-write : goal.returns-in_err-write
returns-in_err-write g c out left =
    let f = g.T.Element.format in
    let v = g.T.Element.view c.args.value.now in
    let p = err_from_is_err_and c.from_residual.result c.from_residual.ensures.1 in
    rw (p.1, p.2) (open_fails (write_at f) v (placed_at f v) out c.args.writer.now c.in_err-write.field-0.0 c.in_err-write.ensures)

-- the octet that was left was written
pub overflow_sub-place : goal.overflow_sub-place
overflow_sub-place g c =
    let front : List Bool = c.requires.0 ++ pad (length c.requires.0) in
    let size = ap length c.requires.1 ∙ length-append front (bits 8 0) in
    omega (arith, size, length-bits 8 0, c.octets-place.ensures)

pub count_after-requires : goal.count_after-requires
count_after-requires g c =
    let f = g.T.Element.format in
    let v = g.T.Element.view c.args.value.now in
    let place : ℕ = c.octets-place.result - 1 in
    let out : List Bool = c.requires.0 in
    let b : StandsAfter (write_at f v) out c.align.new.self place =
    record {
      front = out ++ pad (length out);
      one = c.args.writer.now;
      whole = c.write.new.writer;
      aligned = refl;
      at = place_before (out ++ pad (length out)) c.args.writer.now c.octets-place.result c.requires.1 c.octets-place.ensures;
      left = c.requires.1;
      put = c.in_ok-write.ensures;
      ends = c.in_ok-align.ensures.ok;
    } in
    open_room (write_at f v) (placed_at f v) out c.align.new.self place b

pub returns : goal.returns
returns g c out left =
    let f = g.T.Element.format in
    let v = g.T.Element.view c.args.value.now in
    let place : ℕ = c.octets-place.result - 1 in
    let b : StandsAfter (write_at f v) out c.align.new.self place =
    record {
      front = out ++ pad (length out);
      one = c.args.writer.now;
      whole = c.write.new.writer;
      aligned = refl;
      at = place_before (out ++ pad (length out)) c.args.writer.now c.octets-place.result left c.octets-place.ensures;
      left = left;
      put = c.in_ok-write.ensures;
      ends = c.in_ok-align.ensures.ok;
    } in
    open_written (write_at f) v
    (placed_at f v) out c.align.new.self c.count_after.new.writer place c.count_after.result b c.count_after.ensures
