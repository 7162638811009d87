use Rattle.std.proofs.Common.{◌≡◌, ◌+◌, ◌*◌, ◌++◌, length, ap, sym, refl, ◌∙◌, append_assoc}
use Rattle.std.proofs.lemmas.Result.{err_from_is_err_and}
use Rattle.per_streams.specs.Bits.{pad}
use Rattle.per_bits.proofs.Passing.{fails_then}
use Rattle.per_streams.specs.WholeOctets.{length-string}
use Rattle.per_bits.proofs.bit_string.BitStringElement.write.Goals as goal

pub returns-in_err-put_number : goal.returns-in_err-put_number
returns-in_err-put_number g c =
    let s = c.self.inside in
    let long : length c.args.self.now ≡ 8 * length s.octets.now + s.more =
    sym (ap length c.self.view_is) ∙ length-string s.octets.now s.more s.last in
    let p = err_from_is_err_and c.from_residual.result c.from_residual.ensures.1 in
    rw (p.1, p.2, long) (fails_then _ _ _ c.in_err-put_number.ensures)

pub returns : goal.returns
returns g c =
    let s = c.self.inside in
    let m = c.put_number.new.writer in
    let long : length c.args.self.now ≡ 8 * length s.octets.now + s.more =
    sym (ap length c.self.view_is) ∙ length-string s.octets.now s.more s.last in
    let text : m ++ (pad (length m) ++ c.args.self.now) ≡ c.put_bits.new.self =
    rw (c.in_ok-put_bits.ensures.ok, c.in_ok-put_octets.ensures.ok, c.in_ok-align.ensures.ok, ← c.self.view_is)
    (simp append_assoc) in
    rw (long, c.in_ok-put_number.ensures, text) refl
