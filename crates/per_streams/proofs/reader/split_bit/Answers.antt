use Rattle.std.proofs.Common.{◌-◌, ◌++◌, Bool, List, ap, ◌∙◌}
use Rattle.per_streams.specs.Bits.{bits}
use Rattle.per_streams.specs.PartLaws.{bit-is}
use Rattle.per_streams.proofs.reader.split_bit.Goals as goal

pub returns-clause-parts : goal.returns-clause-parts
returns-clause-parts c =
    let s = c.split-part.ensures in
    s.parts ∙ ap (λ (l : List Bool). l ++ bits (c.args.left - 1) c.split-part.result.1) (bit-is c.split-part.result.0 s.part)
