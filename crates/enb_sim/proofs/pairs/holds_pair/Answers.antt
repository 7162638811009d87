use Rattle.std.proofs.Common.{rules, tests, Bool, ◌∙◌, reverse, sym}
use Rattle.std.proofs.lemmas.Iterator.Adapters.{YieldsList-from_rev_slice}
use Rattle.std.proofs.lemmas.Iterator.Search.{any_from_yields_List}
use Rattle.std.proofs.lemmas.List.Sorted.{IsPermutation-reverse, list_any-IsPermutation}
use Rattle.s1ap_elements.specs.declared.phone.UeIdPair.{UeIdPair}
use Rattle.enb_sim.specs.Delivering.{is_pair}
use Rattle.enb_sim.proofs.pairs.holds_pair.Goals as goal

pub returns : goal.returns
returns c =
    let pairs = c.args.pairs.now in
    let is_it : UeIdPair → Bool = λ p. is_pair p c.args.pair.now in
    any_from_yields_List is_it _ _ c.any.result c.any.ensures.ran
    (YieldsList-from_rev_slice pairs (search rules)) (λ x b q k. search (rules, tests))
    ∙ sym (list_any-IsPermutation is_it pairs (reverse pairs) (IsPermutation-reverse pairs))
