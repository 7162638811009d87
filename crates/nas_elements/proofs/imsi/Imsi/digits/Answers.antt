use Rattle.nas_elements.specs.DigitLaws.{front_digits, all_digits}
use Rattle.nas_elements.proofs.imsi.Imsi.digits.Goals as goal

pub text_of-requires-clause-small : goal.text_of-requires-clause-small
text_of-requires-clause-small c = front_digits c.self.inside.digits c.self.invariant

pub text_of-requires-2-clause-small : goal.text_of-requires-2-clause-small
text_of-requires-2-clause-small c = all_digits c.self.inside.digits c.self.invariant c.if-self-eq15.false
