use Rattle.std.proofs.Common.{◌≡◌, ◌==◌, [], ◌∷◌, ◌++◌, Some, false, length, if◌then◌else◌, sym, ap, subst, ◌∙◌, arith}
use Rattle.std.specs.Prelude.{is_some}
use Rattle.sim_crowd.specs.Index.{place_under}
use Rattle.sim_crowd.specs.Sites.{new_site}
use Rattle.sim_crowd.specs.Stations.{IsStationIndex, site_of}
use Rattle.sim_crowd.proofs.Indexes.{station_added}
use Rattle.sim_crowd.proofs.stations.Stations.add.Goals as goal

pub invariant_of-self-2 : goal.invariant_of-self-2
invariant_of-self-2 c =
    let number = c.args.line.now.station in
    let new = new_site c.args.plmn c.args.line.now in
    let index = c.self.inside.numbers in
    let sites = c.self.inside.sites.items in
    let ok = c.self.inside.sites.ok in
    let count = c.len-place.ensures in
    let len : c.len-place.result ≡ length sites = omega arith in
    let added : c.push_reserved.new.self.items ≡ sites ++ new ∷ [] =
    c.push_reserved.ensures.items ∙ ap (λ xs. xs ++ c.new.result ∷ []) c.reserve.ensures.items
    ∙ ap (λ s. sites ++ s ∷ []) c.new.ensures in
    let none : is_some (site_of number sites) ≡ false =
    ap (λ xs. is_some (site_of number xs)) c.self.view_is ∙ sym c.has.ensures ∙ c.if-has.false in
    subst (IsStationIndex c.put.new.self) (sym added)
    (station_added index c.put.new.self new sites c.self.invariant none
    (λ k. c.in_ok-put.ensures.found k
    ∙ ap (λ n. if n == k then Some c.len-place.result else place_under k index) (c.from.ensures ∙ c.get.ensures.value)
    ∙ ap (λ n. if number == k then Some n else place_under k index) len))
