use Rattle.std.proofs.Common.{◌≡◌, sym, ap, ◌∙◌}
use Rattle.sorted_list.specs.Ordered.{add, at, without}
use Rattle.sim_crowd.specs.Index.{entry_key, place_under}
use Rattle.sim_crowd.proofs.Entries.{put_found}
use Rattle.sim_crowd.proofs.index.Index.put.Goals as goal

pub returns-clause-found : goal.returns-clause-found
returns-clause-found c =
    let key = c.args.key in
    let es = c.args.self.now in
    let left : c.take.new.self.items ≡ without entry_key key es =
    c.take.ensures.items ∙ ap (without entry_key key) (c.reserve.ensures.items ∙ c.self.view_is) in
    λ k. ap (place_under k) (c.insert_reserved.ensures.items ∙ ap (add entry_key (record { key = key; place = c.args.place })) left)
    ∙ put_found k key c.args.place es (sym (ap (at entry_key key) left) ∙ c.take.ensures.gone)
