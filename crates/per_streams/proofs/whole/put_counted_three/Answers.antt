use Rattle.std.proofs.Common.{Bool, List, Ok, ap}
use Rattle.per_streams.specs.Bits.{bits}
use Rattle.per_streams.proofs.Octets.{counted, three_octets}
use Rattle.per_streams.proofs.whole.put_counted_three.Goals as goal

pub returns : goal.returns
returns c =
    ap (λ (l : List Bool). Ok l)
    (counted c.args.writer.now c.fill_octet.new.self (bits 8 c.in_ok-head.head) (bits 24 c.args.number) c.put_whole.new.self _
    c.args.wide 2 c.in_ok-head.ensures.ok
    c.in_ok-put_whole.ensures.ok (three_octets c.args.number c.requires.fits))
