use Rattle.std.proofs.Common.{◌∙◌, ◌++◌, ◌∷◌, [], ap, List, Bool}
use Rattle.std.proofs.lemmas.List.{append-nil}
use Rattle.per_streams.specs.Bits.{bits, octet_bits}
use Rattle.per_streams.specs.PartLaws.{put_whole}
use Rattle.per_streams.proofs.writer.BitWriter.put_octet.Goals as goal

pub returns-then-self-eq0-clause-ok : goal.returns-then-self-eq0-clause-ok
returns-then-self-eq0-clause-ok c =
    let w = c.self.inside in
    rw (← c.self.view_is, c.in_ok-push.ensures.items)
    (put_whole w.octets.items (c.args.octet ∷ []) w.used w.current c.if-self-eq0.true
    ∙ ap (λ (l : List Bool). (octet_bits w.octets.items ++ bits w.used w.current) ++ l) (append-nil (bits 8 c.args.octet)))
