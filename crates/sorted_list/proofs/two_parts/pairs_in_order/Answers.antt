use Rattle.sorted_list.proofs.Parts as parts
use Rattle.sorted_list.proofs.two_parts.pairs_in_order.Goals as goal

pub returns-clause-long : goal.returns-clause-long
returns-clause-long c = parts.long

pub returns-clause-short : goal.returns-clause-short
returns-clause-short c = parts.short
