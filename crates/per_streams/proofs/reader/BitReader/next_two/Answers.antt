use Rattle.std.proofs.Common.{◌++◌, drop}
use Rattle.per_streams.specs.Bits.{bits, octet_bits}
use Rattle.per_streams.specs.TwoOctets.{inside_octet, none_left, two_left}
use Rattle.per_streams.proofs.reader.BitReader.next_two.Goals.{then-self-ne0-via-then-self-ne0, then-self-ne0-via-else-self-ne0+then-self-lt2}
use Rattle.per_streams.proofs.reader.BitReader.next_two.Goals as goal

pub returns-then-self-ne0 : goal.returns-then-self-ne0
returns-then-self-ne0 c =
    let r = c.self.inside in
    let i = c.self.invariant in
    rw (← c.self.view_is) (
    elim c.then-self-ne0.branch [
      | then-self-ne0-via-then-self-ne0 w ↦
          inside_octet r.begun r.left (bits r.left r.current ++ octet_bits (drop r.begun r.octets.now)) i.1 i.2 w.if-self-ne0.true
      | then-self-ne0-via-else-self-ne0+then-self-lt2 w ↦
          none_left r.octets.now r.begun r.left r.current i.1 i.2 w.if-self-ne0.false i.0 w.if-self-lt2.true
    ])

pub returns : goal.returns
returns c =
    let r = c.self.inside in
    let i = c.self.invariant in
    rw (← c.self.view_is)
    (two_left r.octets.now r.begun r.left r.current i.4 i.1 i.2 c.if-self-ne0.false i.0 c.if-self-lt2.false)
