use Rattle.std.proofs.Common.{◌≡◌, ◌++◌, ◌∷◌, List, [], ap, arith, length, map, sym, ◌∙◌, append_assoc}
use Rattle.std.proofs.lemmas.List.{length_push}
use Rattle.mme_types.specs.declared.octets.Answer.{Answer}
use Rattle.mme_answering.specs.declared.out.Out.{Out}
use Rattle.mme_answering.specs.Sending.{owner_out}
use Rattle.mme_answering.proofs.Sent.{first_of}
use Rattle.mme_answering.proofs.Short.{short_push}
use Rattle.mme_answering.proofs.sending.push_each.Goals as goal

pub loop-answer-preserved : goal.loop-answer-preserved
loop-answer-preserved c =
    let l = c.loop-answer in
    let x = c.in-Some.answer in
    let left = c.take_first.new.self in
    let sent = owner_out c.args.owner.now in
    let put = c.push_reserved.ensures.items in
    let parted : l.answers ≡ x ∷ left =
    first_of l.answers x (sym c.take_first.ensures.item ∙ c.in-Some.is) ∙ ap (λ (rest : List Answer). x ∷ rest) (sym c.take_first.ensures.rest) in
    record {
      room = omega (arith, l.invariant.room, c.push_reserved.ensures.capacity, ap length put, length_push l.items.items c.out_of.result, ap length parted);
      short = rw (put, c.out_of.ensures) (short_push l.items.items (sent x) l.invariant.short c.is_short.ensures);
      sends = ap (λ (os : List Out). os ++ map sent left) put ∙ append_assoc l.items.items (c.out_of.result ∷ []) (map sent left)
          ∙ ap (λ (o : Out). l.items.items ++ (o ∷ map sent left)) c.out_of.ensures
          ∙ ap (λ (answers : List Answer). l.items.items ++ map sent answers) (sym parted) ∙ l.invariant.sends;
    }
