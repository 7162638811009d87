use Rattle.laws_network.proofs.Kept.{phones_keep_little}
use Rattle.laws_network.proofs.sending.a_phone_keeps_little.Goals as goal

pub returns : goal.returns
returns c =
    phones_keep_little c.everybody_is_placed.ensures.begins c.everybody_is_placed.ensures.stays c.runs_are_in_range.ensures.begins
    c.runs_are_in_range.ensures.stays
