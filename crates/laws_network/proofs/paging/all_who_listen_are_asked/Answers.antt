use Rattle.laws_network.proofs.PagedOnce.{all_who_listen}
use Rattle.laws_network.proofs.paging.all_who_listen_are_asked.Goals as goal

pub returns : goal.returns
returns c = all_who_listen
