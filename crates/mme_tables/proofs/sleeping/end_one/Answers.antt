use Rattle.std.proofs.Common.{sym, ◌∙◌, ap, subst}
use Rattle.mme_tables.specs.Ended.{sleeper_ticked}
use Rattle.mme_tables.specs.KeptStrangers.{IsTable, row_at, rows_of}
use Rattle.mme_tables.proofs.KeptStrangers.{closed_table, put_table, there_some}
use Rattle.mme_tables.proofs.Passing.{open_rows, shut_rows}
use Rattle.mme_tables.proofs.sleeping.end_one.Goals as goal

pub end_at-requires-clause-there : goal.end_at-requires-clause-there
end_at-requires-clause-there c =
    there_some c.args.slab.now c.args.place.now.id c.args.place.now c.args.places.now.items c.requires.table c.requires.there

pub returns-then-end_at-clause-rows : goal.returns-then-end_at-clause-rows
returns-then-end_at-clause-rows c =
    open_rows c.args.slab.now c.end_at.new.slab c.args.next c.args.place.now c.args.places.now.items c.requires.table c.requires.there c.end_at.ensures.updates (sym c.end_at.ensures.open ∙ c.if-end_at.true)

pub returns-then-end_at-clause-table : goal.returns-then-end_at-clause-table
returns-then-end_at-clause-table c =
    put_table c.args.slab.now c.end_at.new.slab c.args.place.now.key (sleeper_ticked c.args.place.now.id c.args.next (row_at c.args.slab.now c.args.place.now).sleeper) c.args.places.now.items c.requires.table c.end_at.ensures.updates c.end_at.ensures.len

pub remove-requires : goal.remove-requires
remove-requires c =
    let table = put_table c.args.slab.now c.end_at.new.slab c.args.place.now.key (sleeper_ticked c.args.place.now.id c.args.next (row_at c.args.slab.now c.args.place.now).sleeper) c.args.places.now.items c.requires.table c.end_at.ensures.updates c.end_at.ensures.len in
    there_some c.end_at.new.slab c.args.place.now.id c.args.place.now c.args.places.now.items table c.requires.there

pub returns-clause-rows : goal.returns-clause-rows
returns-clause-rows c =
    ap (rows_of c.remove.new.slab) c.take_place.ensures.items
    ∙ shut_rows c.args.slab.now c.end_at.new.slab c.remove.new.slab c.args.next c.args.place.now c.args.places.now.items c.requires.table c.requires.there c.end_at.ensures.updates (sym c.end_at.ensures.open ∙ c.if-end_at.false) c.remove.ensures.updates

pub returns-clause-table : goal.returns-clause-table
returns-clause-table c =
    let table = put_table c.args.slab.now c.end_at.new.slab c.args.place.now.key (sleeper_ticked c.args.place.now.id c.args.next (row_at c.args.slab.now c.args.place.now).sleeper) c.args.places.now.items c.requires.table c.end_at.ensures.updates c.end_at.ensures.len in
    subst (IsTable c.remove.new.slab) (sym c.take_place.ensures.items)
    (closed_table c.end_at.new.slab c.remove.new.slab c.args.place.now.id c.args.place.now c.args.places.now.items table c.requires.there c.remove.ensures.updates c.remove.ensures.len)
