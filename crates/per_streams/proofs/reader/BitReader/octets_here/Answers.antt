use Rattle.std.proofs.Common.{◌≡◌, ◌-◌, ◌<◌, ◌≤◌, ◌*◌, ◌%◌, length, arith, ap}
use Rattle.std.proofs.lemmas.List.{take_rest, length-drop}
use Rattle.per_streams.specs.BitLaws.{whole-octets, short-octets}
use Rattle.per_streams.proofs.reader.BitReader.octets_here.Goals as goal

pub returns-then-rest-count : goal.returns-then-rest-count
returns-then-rest-count c =
    let r = c.self.inside in
    let i = c.self.invariant in
    let at : 8 * r.begun - r.left ≡ c.args.self.now.at = ap (λ p. p.at) c.self.view_is in
    let whole : (8 * r.begun - r.left) % 8 ≡ 0 = omega (arith, at, c.requires) in
    let short : length r.octets.now - r.begun < c.args.count = let t =
    rw (take_rest r.octets.now r.begun) at c.if-rest-count.true in omega (arith, t, length-drop r.begun r.octets.now) in
    rw (← c.self.view_is) (short-octets r.begun r.left r.current c.args.count r.octets.now i.1 i.2 whole i.0 short)

pub returns : goal.returns
returns c =
    let r = c.self.inside in
    let i = c.self.invariant in
    let at : 8 * r.begun - r.left ≡ c.args.self.now.at = ap (λ p. p.at) c.self.view_is in
    let whole : (8 * r.begun - r.left) % 8 ≡ 0 = omega (arith, at, c.requires) in
    let room : c.args.count ≤ length r.octets.now - r.begun = let t =
    rw (take_rest r.octets.now r.begun) at c.if-rest-count.false in omega (arith, t, length-drop r.begun r.octets.now) in
    rw (← c.self.view_is, take_rest r.octets.now r.begun)
    (whole-octets r.begun r.left r.current c.args.count r.octets.now i.4 i.1 i.2 whole i.0 room)
