use Rattle.std.proofs.Common.{rules, ◌==◌, not}
use Rattle.std.proofs.lemmas.Fn.{filter_same}
use Rattle.emm_state.proofs.solo.remove_from.Goals as goal

pub returns : goal.returns
returns c = filter_same _ (λ e. not (e == c.args.station)) _ (λ x b f' k. search rules) _ _ c.retain.ensures.filtered
