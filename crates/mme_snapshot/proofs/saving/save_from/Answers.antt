use Rattle.std.proofs.Common.{◌≡◌, ◌∙◌, ◌+◌, ℕ, List, Some, ap, subst, sym, rules}
use Rattle.std.specs.Prelude.{option_map}
use Rattle.sorted_list.specs.Ordered.{Rising}
use Rattle.sorted_list.specs.Sorted.{lowest_from}
use Rattle.stranger_machine.specs.declared.table.Known.{Known}
use Rattle.stranger_machine.specs.Table.{known_id}
use Rattle.mme_snapshot.specs.declared.part.Part.TheVariants as part
use Rattle.mme_snapshot.specs.Saved.{IsStranger}
use Rattle.mme_snapshot.proofs.SavedStrangers.{next_stranger}
use Rattle.mme_snapshot.proofs.saving.save_from.Goals as goal

pub returns-in_ok-save_stranger-in-Some : goal.returns-in_ok-save_stranger-in-Some
returns-in_ok-save_stranger-in-Some c =
    let w = c.args.mme.now in
    let id = c.in-Some.id in
    let all : c.owners-inside.inside.0.0.strangers.strangers ≡ w.strangers =
    search rules in
    let one = c.in_ok-save_stranger-in-Some.ensures in
    next_stranger w c.args.least c.part_of.result.octets c.part_of.result.next id one.0
    (subst (λ (ks : List Known). Rising known_id ks) all c.in-Some.ensures.order)
    (c.in-Some.ensures.value ∙ ap (λ (ks : List Known). option_map known_id (lowest_from known_id c.args.least ks)) all)
    one.1
    (subst (λ (os : List ℕ). IsStranger (record { id = id; stranger = one.0 }) os) (sym c.part_of.ensures.octets) one.2)
    (c.part_of.ensures.next ∙ ap (λ n. Some (part.Stranger (n + 1))) (c.from.ensures ∙ c.get.ensures))
