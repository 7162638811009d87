use Rattle.std.proofs.Common.{◌*◌, ◌/◌, ◌%◌, Bool, List, [], ◌∷◌, ◌++◌, Ok, refl, sym, ap, ◌∙◌}
use Rattle.per_streams.specs.Bits.{octet_bits}
use Rattle.s1ap_rows.specs.Criticalities.{criticality_number}
use Rattle.s1ap_rows.proofs.Criticalities.{criticality_few}
use Rattle.s1ap_rows.proofs.Fronts.{front_written, head_refused}
use Rattle.s1ap_rows.proofs.frame.put_front.Goals as goal

pub returns-then-kind-gt-LAST_KIND : goal.returns-then-kind-gt-LAST_KIND
returns-then-kind-gt-LAST_KIND c =
    rw (head_refused c.args.kind c.args.code (criticality_number c.args.criticality) c.if-kind-gt-LAST_KIND.true) refl

pub returns : goal.returns
returns c =
    let kind = c.args.kind in
    let code = c.args.code in
    let k = criticality_number c.args.criticality in
    let n = c.args.count in
    front_written kind code k n c.if-kind-gt-LAST_KIND.false c.ranges.code.fits (criticality_few c.args.criticality)
    c.ranges.count.fits
    ∙ ap (λ m. Ok (octet_bits (kind * 32 ∷ code ∷ m * 64 ∷ 0 ∷ 0 ∷ n / 256 ∷ n % 256 ∷ []))) (sym c.number.ensures)
    ∙ ap
    (λ (l : List Bool). Ok (l ++ octet_bits (kind * 32 ∷ code ∷ c.number.result * 64 ∷ 0 ∷ 0 ∷ n / 256 ∷ n % 256 ∷ [])))
    (sym c.requires)
    ∙ ap (λ (l : List Bool). Ok l) (sym c.in_ok-put_octets.ensures.ok)
