use Rattle.laws_codecs.proofs.Formats.{all_others_are, each_is_spelled}
use Rattle.laws_codecs.proofs.components.components_are_spelled.Goals as goal

pub returns-clause-all : goal.returns-clause-all
returns-clause-all c = each_is_spelled

pub returns-clause-others : goal.returns-clause-others
returns-clause-others c = all_others_are
