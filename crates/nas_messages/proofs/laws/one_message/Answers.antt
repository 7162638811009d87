use Rattle.std.proofs.Common.{sym, ◌∙◌}
use Rattle.nas_elements.specs.RowLaws.{okay_is}
use Rattle.nas_messages.proofs.EmmLaws as laws
use Rattle.nas_messages.proofs.laws.one_message.Goals as goal

pub returns : goal.returns
returns c = λ direction m n os p q. okay_is m n (sym (laws.decoded_again direction m os p) ∙ laws.decoded_again direction n os q)
