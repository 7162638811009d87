use Rattle.std.proofs.Common.{◌++◌, Bool, List, refl, ap, ◌∙◌}
use Rattle.per_streams.specs.Bits.{bits}
use Rattle.per_bits.proofs.open.write_open.Goals as goal

pub write_counted-requires : goal.write_counted-requires
write_counted-requires g c k = (
  (refl, tt),
  (c.args.writer.now, c.in_ok-put_octet.ensures.ok ∙ ap (λ (l : List Bool). l ++ bits 8 0) c.in_ok-align.ensures.ok),
)

pub returns : goal.returns
returns g c =
    c.write_counted.ensures c.args.writer.now
    (c.in_ok-put_octet.ensures.ok ∙ ap (λ (l : List Bool). l ++ bits 8 0) c.in_ok-align.ensures.ok)
