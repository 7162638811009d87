use Rattle.trace_run.proofs.under_way.LineUnderWay.end_line.Goals as goal

pub play_line-requires : goal.play_line-requires
play_line-requires g c = rw (c.as_slice.ensures.value) c.requires.unbroken

pub returns-in-Ok-clause-played : goal.returns-in-Ok-clause-played
returns-in-Ok-clause-played g c =
    let played = rw c.as_slice.ensures.value at c.in-Ok.ensures.played in
    (played.0, played.1, played.2)

pub returns-in-Err-clause-played : goal.returns-in-Err-clause-played
returns-in-Err-clause-played g c =
    let played = rw c.as_slice.ensures.value at c.in-Err.ensures.played in
    (played.0, played.1, played.2)
