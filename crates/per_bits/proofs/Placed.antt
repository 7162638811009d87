-- Writing that puts some bits after what stands, the same wherever an octet is begun, or is refused as out of range.
use Rattle.std.proofs.Common.{◌≡◌, ℕ, ◌+◌, ◌&&◌, Bool, true, false, List, [], ◌++◌, length, Result, Ok, Err, refl, sym, ap, ◌∙◌}
use Rattle.std.proofs.lemmas.List.{append-nil}
use Rattle.per_streams.specs.declared.fault.PerFault.{PerFault}
use Rattle.per_streams.specs.declared.fault.PerFault.TheVariants.{Range}
use Rattle.per_streams.specs.Bits.{◌>>=◌}
use Rattle.per_bits.specs.Formats.{Format, Value}
use Rattle.per_bits.specs.Writing.{write_at}
use Rattle.per_bits.specs.Written.{writable, written}
use Rattle.per_bits.proofs.PlaceLaws.{IsSame, two, after, written_same}
use Rattle.per_bits.proofs.WrittenLaws.{put_if, put_after, both, writes}

pub record Placed (w : List Bool → Result (List Bool) PerFault) : Type 0 where
  pub fits : Bool
  pub text : ℕ → List Bool
  pub puts : (out : List Bool) → w out ≡ put_if fits out (text (length out))
  pub same : IsSame text

-- a value of a format
pub placed_at : (f : Format) (v : Value f) → Placed (write_at f v)
placed_at f v = record { fits = writable f v; text = written f v; puts = writes f v; same = written_same f v }

pub placed_nothing : Placed (λ out. Ok out)
placed_nothing =
    record { fits = true; text = λ at. []; puts = λ out. ap (λ (l : List Bool). Ok l) (sym (append-nil out)); same = λ a b h. refl }

-- one after another
pub placed_then : (w k : List Bool → Result (List Bool) PerFault) → Placed w → Placed k → Placed (λ out. w out >>= k)
placed_then w k p q = record {
  fits = p.fits && q.fits;
  text = λ at. p.text at ++ q.text (at + length (p.text at));
  puts = λ out. both p.fits q.fits out (p.text (length out)) q.text (w out) k (p.puts out) q.puts;
  same = two p.text q.text p.same q.same;
}

-- after some bits
pub placed_after : (w : List Bool → Result (List Bool) PerFault) (xs : List Bool) → Placed w → Placed (λ out. w (out ++ xs))
placed_after w xs p = record {
  fits = p.fits;
  text = λ at. xs ++ p.text (at + length xs);
  puts = λ out. p.puts (out ++ xs) ∙ put_after p.fits p.text out xs;
  same = after xs p.text p.same;
}

-- where it is refused anywhere, it is everywhere, as out of range
fault_is : (b : Bool) (out xs : List Bool) (f : PerFault) → put_if b out xs ≡ Err f → (b ≡ false) × (f ≡ Range)
fault_is true out xs f e = absurd cc
fault_is false out xs f e = (refl, cc)

pub refused : (w : List Bool → Result (List Bool) PerFault) (p : Placed w) (out : List Bool) (f : PerFault) → w out ≡ Err f
    → (p.fits ≡ false) × (f ≡ Range)
refused w p out f e = fault_is p.fits out (p.text (length out)) f (sym (p.puts out) ∙ e)

put_is : (b : Bool) (out xs new : List Bool) → put_if b out xs ≡ Ok new → (b ≡ true) × (out ++ xs ≡ new)
put_is true out xs new e = (refl, cc)
put_is false out xs new e = absurd cc

pub was_put : (w : List Bool → Result (List Bool) PerFault) (p : Placed w) (out new : List Bool) → w out ≡ Ok new
    → (p.fits ≡ true) × (out ++ p.text (length out) ≡ new)
was_put w p out new e = put_is p.fits out (p.text (length out)) new (sym (p.puts out) ∙ e)
