use Rattle.std.proofs.Common.{◌≡◌, length, drop, map, ◌∙◌, arith}
use Rattle.std.proofs.lemmas.List.{length-drop, length-map}
use Rattle.std.proofs.lemmas.Result.{err_from_is_err_and}
use Rattle.mme_snapshot.specs.Stored.{stored_vector}
use Rattle.mme_snapshot.proofs.VectorsWritten.{fails_then}
use Rattle.mme_snapshot.proofs.stored.write_vectors.Goals as goal

pub returns-in_err-put_number : goal.returns-in_err-put_number
returns-in_err-put_number c =
    let vs = c.args.stored.now.subscriber.now.setting.vectors in
    let spent = c.args.stored.now.spent in
    let many : length (map stored_vector (drop spent vs)) ≡ c.args.stored.now.unspent =
    length-map (drop spent vs) stored_vector
    ∙ (let d = length-drop spent vs in let all = c.requires.all in omega (arith, d, all)) in
    let p = err_from_is_err_and c.from_residual.result c.from_residual.ensures.1 in
    rw (p.1, p.2, many) (fails_then _ _ _ c.in_err-put_number.ensures)

pub returns : goal.returns
returns c =
    let vs = c.args.stored.now.subscriber.now.setting.vectors in
    let spent = c.args.stored.now.spent in
    let many : length (map stored_vector (drop spent vs)) ≡ c.args.stored.now.unspent =
    length-map (drop spent vs) stored_vector
    ∙ (let d = length-drop spent vs in let all = c.requires.all in omega (arith, d, all)) in
    rw (many, c.in_ok-put_number.ensures) c.write_each_vector.ensures
