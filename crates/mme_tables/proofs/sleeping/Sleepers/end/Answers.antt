use Rattle.std.proofs.Common.{sym, ◌∙◌, ap, subst}
use Rattle.sorted_list.specs.Ordered.{at}
use Rattle.sorted_list.specs.Laws.{at_key}
use Rattle.mme_tables.specs.Ended.{IsEndingIf, ended_at, sleeper_ended}
use Rattle.mme_tables.specs.KeptStrangers.{place_id, row_at, rows_of}
use Rattle.mme_tables.specs.StrangerRows.{sleeper_at, with_row}
use Rattle.mme_tables.proofs.Passing.{ended_none, ended_there, ending_there, place_none, place_sleeper}
use Rattle.mme_tables.proofs.sleeping.Sleepers.end.Goals as goal

pub end_one-requires-clause-there : goal.end_one-requires-clause-there
end_one-requires-clause-there c =
    let ps = c.self.inside.places.items in
    let found = sym c.find_place.ensures ∙ c.in-Some.is in
    ap (λ i. at place_id i ps) (at_key place_id c.args.id c.in-Some.place ps found) ∙ found

pub end_one-requires-clause-ending : goal.end_one-requires-clause-ending
end_one-requires-clause-ending c =
    let s = c.self.inside.slab in
    let ps = c.self.inside.places.items in
    let found = sym c.find_place.ensures ∙ c.in-Some.is in
    ending_there c.args.next c.args.id (row_at s c.in-Some.place).sleeper (rows_of s ps)
    (place_sleeper s c.args.id c.in-Some.place ps found)
    (subst (λ rs. IsEndingIf c.args.next (sleeper_at c.args.id rs)) (sym c.self.view_is) c.requires)

pub returns-in-Some : goal.returns-in-Some
returns-in-Some c =
    let s = c.self.inside.slab in
    let ps = c.self.inside.places.items in
    let x = (row_at s c.in-Some.place).sleeper in
    let found = sym c.find_place.ensures ∙ c.in-Some.is in
    let own = at_key place_id c.args.id c.in-Some.place ps found in
    c.end_one.ensures.rows ∙ ap (λ i. with_row i (sleeper_ended i c.args.next x) (rows_of s ps)) own
    ∙ ended_there c.args.next c.args.id x (rows_of s ps) (place_sleeper s c.args.id c.in-Some.place ps found)
    ∙ ap (ended_at c.args.id c.args.next) c.self.view_is

pub returns-in_default : goal.returns-in_default
returns-in_default c =
    let s = c.self.inside.slab in
    let ps = c.self.inside.places.items in
    let none = sym c.find_place.ensures ∙ c.in_default.is in
    ended_none c.args.next c.args.id c.args.self.now
    (ap (sleeper_at c.args.id) (sym c.self.view_is) ∙ place_none s c.args.id ps none)
