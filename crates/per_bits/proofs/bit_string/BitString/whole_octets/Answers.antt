use Rattle.std.proofs.Common.{length, refl, ap, sym, ◌∙◌, arith}
use Rattle.per_streams.specs.WholeOctets.{length-string, no_bits_more}
use Rattle.per_bits.proofs.bit_string.BitString.whole_octets.Goals as goal

pub returns-then-self-eq0-clause-value : goal.returns-then-self-eq0-clause-value
returns-then-self-eq0-clause-value g c =
    let s = c.self.inside in
    no_bits_more s.octets.now s.more s.last c.if-self-eq0.true ∙ c.self.view_is

pub returns-then-self-eq0-clause-some : goal.returns-then-self-eq0-clause-some
returns-then-self-eq0-clause-some g c =
    let s = c.self.inside in
    let long = sym (ap length c.self.view_is) ∙ length-string s.octets.now s.more s.last in
    let none = c.if-self-eq0.true in
    ((λ _. omega (arith, long, none)), (λ _. refl))

pub returns-else-self-eq0-clause-some : goal.returns-else-self-eq0-clause-some
returns-else-self-eq0-clause-some g c =
    let s = c.self.inside in
    let long = sym (ap length c.self.view_is) ∙ length-string s.octets.now s.more s.last in
    let some = c.if-self-eq0.false in
    let few = c.self.invariant.0 in
    ((λ e. absurd cc), (λ e. absurd (omega (arith, long, some, few, e))))
