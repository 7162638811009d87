use Rattle.laws_network.proofs.Paged.{paged_where_they_are}
use Rattle.laws_network.proofs.paging.phones_are_paged_where_they_are.Goals as goal

pub returns : goal.returns
returns c =
    paged_where_they_are c.what_is_encoded.ensures.decoded c.work_is_bounded.ensures c.what_stations_tell_is_in_range.ensures.entries
    c.everybody_is_placed.ensures.begins c.everybody_is_placed.ensures.stays
