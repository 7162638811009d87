use Rattle.std.proofs.Common.{◌≡◌, ℕ, List, Ok, refl}
use Rattle.std.proofs.lemmas.Bool.{eq-eqb}
use Rattle.std.proofs.lemmas.Result.{err_from_is_err_and}
use Rattle.per_streams.specs.declared.fault.PerError.{PerError}
use Rattle.per_streams.specs.declared.fault.PerError.TheVariants as errors
use Rattle.per_streams.specs.Bits.{Place, Fails, open_at}
use Rattle.per_streams.specs.BitLaws.{bind_ok}
use Rattle.per_streams.specs.Each.{times}
use Rattle.per_streams.specs.Reading.{number_at}
use Rattle.per_bits.specs.Formats.{Format, Value}
use Rattle.per_bits.specs.Reading.{complete_at, marked_at, read_at}
use Rattle.s1ap_elements.specs.Formats.{item}
use Rattle.s1ap_elements.proofs.container.ListedElement.read.Goals as goal

item_fails : (e : PerError) (id named c : ℕ) (f : Format) (s u t : Place) (os : List ℕ) → id ≡ named
    → number_at 0 65535 s ≡ Ok (id, u) → marked_at u ≡ Ok (os, t) → Fails e (complete_at f os)
    → Fails e (read_at (item named c f) s)
unfolding times
item_fails errors.NoMemory id named c f s u t os same p q r = tt
item_fails (errors.Fault d) id named c f s u t os same p q r =
    let a = bind_ok (number_at 0 2 u) (λ k. open_at k.1) (os, t) q in
    rw (p, eq-eqb id named same, a.1, a.2, r) refl

item_read : (id named c : ℕ) (f : Format) (s u t : Place) (os : List ℕ) (v : Value f) → id ≡ named
    → number_at 0 65535 s ≡ Ok (id, u) → marked_at u ≡ Ok (os, t) → complete_at f os ≡ Ok v
    → read_at (item named c f) s ≡ Ok ((v, tt), t)
unfolding times
item_read id named c f s u t os v same p q r =
    let a = bind_ok (number_at 0 2 u) (λ k. open_at k.1) (os, t) q in
    rw (p, eq-eqb id named same, a.1, a.2, r) refl

pub returns-in_err-value : goal.returns-in_err-value
returns-in_err-value g c =
    let p = err_from_is_err_and c.from_residual-in_err-value.result c.from_residual-in_err-value.ensures.1 in
    rw (p.1, p.2)
    (item_fails c.in_err-value.field-0.0 c.in_ok-id.id g.row.ID g.row.CRITICALITY g.T.Element.format c.args.reader.now
    c.take_id.new.reader c.take_marked.new.reader c.in_ok-octets.octets.now c.if-id.false c.in_ok-id.ensures c.in_ok-octets.ensures
    c.in_err-value.ensures)

pub returns : goal.returns
returns g c =
    item_read c.in_ok-id.id g.row.ID g.row.CRITICALITY g.T.Element.format c.args.reader.now c.take_id.new.reader
    c.take_marked.new.reader c.in_ok-octets.octets.now (g.T.Element.view c.in_ok-value.value) c.if-id.false c.in_ok-id.ensures
    c.in_ok-octets.ensures c.in_ok-value.ensures
