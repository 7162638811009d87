use Rattle.std.proofs.Common.{◌+◌, ◌<◌, ◌^◌, ◌∙◌, List, [], ◌∷◌, ◌++◌, ap, arith, length, subst, sym}
use Rattle.identity_slots.specs.declared.profile.Vector.{Vector}
use Rattle.identity_slots.specs.Spending.{IsWindow, KeptView}
use Rattle.identity_slots.proofs.Windows.{isnt_stocked, window_given, window_whole}
use Rattle.identity_slots.proofs.vectors.KeptVectors.push_from.Goals as goal

pub make_room-requires-clause-spent : goal.make_room-requires-clause-spent
make_room-requires-clause-spent c =
    let whole = window_whole c.self.inside.base c.self.inside.spent c.self.inside.given c.self.inside.items.items c.self.invariant in
    let within = c.self.invariant.within in
    let ok = c.self.inside.items.ok.0 in
    omega (arith, whole, within, ok)

pub make_room-requires-clause-unspent : goal.make_room-requires-clause-unspent
make_room-requires-clause-unspent c =
    let whole = window_whole c.self.inside.base c.self.inside.spent c.self.inside.given c.self.inside.items.items c.self.invariant in
    let few : length c.self.inside.given < c.self.inside.spent + 64 =
    subst (λ (v : KeptView). length v.given < v.spent + 64) (sym c.self.view_is)
    (isnt_stocked c.args.self.now c.is_stocked.result c.is_stocked.ensures c.if-is_stocked.false).0 in
    let based = c.self.invariant.based in
    let ok = c.self.inside.items.ok.0 in
    omega (arith, whole, few, based, ok)

pub invariant_of-self-2 : goal.invariant_of-self-2
invariant_of-self-2 c =
    let small : length c.self.inside.given < 2 ^ 62 =
    subst (λ (v : KeptView). length v.given < 2 ^ 62) (sym c.self.view_is)
    (isnt_stocked c.args.self.now c.is_stocked.result c.is_stocked.ensures c.if-is_stocked.false).1 in
    let window = window_given c.self.inside.base c.self.inside.spent c.in-Ok.gone c.self.inside.given c.self.inside.items.items
    c.make_room.new.items.items c.args.vector.now c.self.invariant c.in-Ok.ensures.items c.in-Ok.ensures.gone small in
    let pushed = c.push_reserved.ensures.items ∙ ap (λ (v : Vector). c.make_room.new.items.items ++ v ∷ []) c.take.ensures.vector in
    subst (λ (vs : List Vector). IsWindow (c.self.inside.base + c.in-Ok.gone) c.self.inside.spent vs c.push_reserved.new.self.items)
    (sym c.and-self-inside.ensures)
    (subst (λ (vs : List Vector). IsWindow (c.self.inside.base + c.in-Ok.gone) c.self.inside.spent (c.self.inside.given ++ c.args.vector.now ∷ []) vs)
    (sym pushed) window)
