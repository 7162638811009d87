use Rattle.std.proofs.Common.{◌/◌, ◌%◌, ◌∷◌, [], Bool, List, ◌++◌, Ok, length, sym, ap, ◌∙◌, append_assoc}
use Rattle.per_streams.specs.Bits.{bits, octet_bits, pad}
use Rattle.per_streams.proofs.Octets.{two_octets}
use Rattle.per_streams.proofs.whole.put_two.Goals as goal

pub returns : goal.returns
returns c =
    let old = c.args.writer.now in
    ap (λ (l : List Bool). Ok l) (sym (append_assoc old (pad (length old)) (bits 16 c.args.number)))
    ∙ ap (λ (l : List Bool). Ok ((old ++ pad (length old)) ++ l)) (sym (two_octets c.args.number c.requires))
    ∙ ap (λ (l : List Bool). Ok (l ++ octet_bits (c.args.number / 256 ∷ c.args.number % 256 ∷ []))) (sym c.in_ok-align.ensures.ok)
    ∙ ap (λ (l : List Bool). Ok l) (sym c.in_ok-put_octets.ensures.ok)
