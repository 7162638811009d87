use Rattle.std.proofs.Common.{◌≡◌, ◌+◌, ◌++◌, codes, drop, take, Some, Ok, inl, inr, sym, ap, ◌∙◌}
use Rattle.std.proofs.lemmas.List.{take_rest}
use Rattle.std.proofs.lemmas.Slice.Eq.{strip_prefix_is}
use Rattle.std.proofs.lemmas.Bool.Decides.{Decides-eqb}
use Rattle.trace_words.specs.Trace.{octets_field, station_field}
use Rattle.trace_words.proofs.GoodIn.{good_in}
use Rattle.trace_words.proofs.line.good_in.Goals as goal

pub returns-in-Ok-octets : goal.returns-in-Ok-octets
returns-in-Ok-octets c =
    let line = c.args.line.now in
    let fields = c.in-Some.fields.now in
    let at = c.in-Some-memchr.at in
    let is : line ≡ codes "in " ++ fields = strip_prefix_is Decides-eqb line c.as_slice.result.now (Some c.in-Some.fields) c.in-Some.ensures.cases ∙ ap (λ front. front ++ fields) c.as_slice.ensures in
    let station : station_field (take at fields) ≡ Ok c.in-Ok.from = sym c.in-Ok.ensures in
    let sent : octets_field (drop (at + 1) fields) ≡ Ok c.in-Ok-octets.sent =
    elim c.in-Ok-octets.ensures [ inl h ↦ absurd (cc h) | inr h ↦ sym (rw take_rest at h) ] in
    good_in line fields c.in-Ok-octets.sent at c.in-Ok.from is c.in-Some-memchr.ensures station sent
