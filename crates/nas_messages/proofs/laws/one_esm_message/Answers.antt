use Rattle.std.proofs.Common.{sym, ◌∙◌}
use Rattle.nas_elements.specs.RowLaws.{okay_is}
use Rattle.nas_messages.specs.EsmLaws as laws
use Rattle.nas_messages.proofs.laws.one_esm_message.Goals as goal

pub returns : goal.returns
returns c = λ m n os p q. okay_is m n (sym (laws.esm_again m os p) ∙ laws.esm_again n os q)
