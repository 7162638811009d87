use Rattle.std.proofs.Common.{Bool, List, Result, refl, sym, subst}
use Rattle.per_streams.specs.declared.fault.PerFault.{PerFault}
use Rattle.per_streams.specs.Writing.{Wrote}
use Rattle.per_bits.proofs.Heads.{element_refused, element_written, head_after, headed}
use Rattle.per_bits.proofs.protocol_ie.put_element.Goals as goal

pub returns-then-criticality-gt-LAST_CRITICALITY : goal.returns-then-criticality-gt-LAST_CRITICALITY
returns-then-criticality-gt-LAST_CRITICALITY g c =
    let f = g.T.Element.format in
    let v = g.T.Element.view c.args.value.now in
    rw (element_refused c.args.id c.args.criticality f v c.args.writer.now c.ranges.id.fits
    c.if-criticality-gt-LAST_CRITICALITY.true) refl

pub write_counted-requires : goal.write_counted-requires
write_counted-requires g c κs =
    let old = c.args.writer.now in (
      (refl, tt),
      (
        head_after c.args.id c.args.criticality old,
        headed c.args.id c.args.criticality old c.align.new.self c.put_octets.new.self c.ranges.id.fits
            c.if-criticality-gt-LAST_CRITICALITY.false c.in_ok-align.ensures.ok c.in_ok-put_octets.ensures.ok,
      ),
    )

pub returns : goal.returns
returns g c =
    let f = g.T.Element.format in
    let v = g.T.Element.view c.args.value.now in
    let id = c.args.id in
    let k = c.args.criticality in
    let old = c.args.writer.now in
    let few = c.if-criticality-gt-LAST_CRITICALITY.false in
    subst (λ (q : Result (List Bool) PerFault). Wrote c.write_counted.result c.write_counted.new.writer q)
    (sym (element_written id k f v old c.ranges.id.fits few))
    (c.write_counted.ensures (head_after id k old)
    (headed id k old c.align.new.self c.put_octets.new.self c.ranges.id.fits few c.in_ok-align.ensures.ok
    c.in_ok-put_octets.ensures.ok))
