use Rattle.laws_mme.proofs.Bidding.{commands_replay}
use Rattle.laws_mme.proofs.keys.capabilities_are_replayed.Goals as goal

pub returns : goal.returns
returns c =
    commands_replay c.what_is_encoded.ensures.decoded c.soundness_is_kept.ensures.run c.protected_forms_are_marked.ensures.each
