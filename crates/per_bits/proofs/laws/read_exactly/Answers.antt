use Rattle.std.proofs.Common.{◌≡◌, ◌∙◌, sym, Ok, Err}
use Rattle.per_bits.specs.FormatLaws.{complete_again, complete_takes}
use Rattle.per_bits.proofs.laws.read_exactly.Goals as goal

pub returns-clause-read : goal.returns-clause-read
returns-clause-read c = λ f v os m. complete_again f os v m

pub returns-clause-spelled : goal.returns-clause-spelled
returns-clause-spelled c = λ f v os e. complete_takes f os v e

pub returns-clause-refused : goal.returns-clause-refused
returns-clause-refused c f v os fault e s =
    let read = complete_again f os v s in
    let k : Ok v ≡ Err fault = sym read ∙ e in
    absurd cc
