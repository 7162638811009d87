-- A subscriber's part, read at its place and added.
use Rattle.std.proofs.Common.{◌≡◌, ℕ, Some, Result, Ok, Err, refl, ◌∙◌, ap}
use Rattle.per_streams.specs.declared.fault.PerFault.{PerFault}
use Rattle.per_streams.specs.Bits.{Place, align_at}
use Rattle.per_bits.specs.Formats.{Format, Value}
use Rattle.per_bits.specs.Reading.{read_at}
use Rattle.snapshot_formats.specs.Formats.{saved_subscriber}
use Rattle.mme_snapshot.specs.declared.fault.RestoreFault.{RestoreFault}
use Rattle.mme_snapshot.specs.declared.fault.RestoreFault.TheVariants as faults
use Rattle.mme_snapshot.specs.Restored.{◌>=>◌, Built, as_octets, part_at, subscriber_added, subscriber_at_place}

-- ---- a part

module _ (f : Format) (from : Place) where
  pub no_value : (e : PerFault) → read_at f from ≡ Err e → part_at f from ≡ Err e
  unfolding part_at
  no_value e is = rw is refl

  module _ (v : Value f) (middle : Place) (read : read_at f from ≡ Ok (v, middle)) where
    pub no_end : (e : PerFault) → align_at middle ≡ Err e → part_at f from ≡ Err e
    unfolding part_at
    no_end e is = rw (read, is) refl

    pub a_part : (to : Place) → align_at middle ≡ Ok (tt, to) → part_at f from ≡ Ok (v, to)
    unfolding part_at
    a_part to is = rw (read, is) refl

-- ---- a subscriber

module _ (most : ℕ) (b : Built) (from : Place) where
  pub no_part_so : (e : PerFault) → part_at saved_subscriber from ≡ Err e → subscriber_at_place (Some most) (b, from) ≡ Err faults.Octets
  no_part_so e is =
      ap (λ (r : Result (Value saved_subscriber × Place) PerFault). as_octets r >=> λ v. subscriber_added (Some most) b v.0 >=> λ x. Ok (x, v.1)) is

  module _ (v : Value saved_subscriber) (to : Place) (read : part_at saved_subscriber from ≡ Ok (v, to)) where
    with_part : subscriber_at_place (Some most) (b, from) ≡ (subscriber_added (Some most) b v >=> λ x. Ok (x, to))
    with_part =
        ap (λ (r : Result (Value saved_subscriber × Place) PerFault). as_octets r >=> λ p. subscriber_added (Some most) b p.0 >=> λ x. Ok (x, p.1)) read

    pub refused_so : (fault : RestoreFault) → subscriber_added (Some most) b v ≡ Err fault
        → subscriber_at_place (Some most) (b, from) ≡ Err fault
    refused_so fault is = with_part ∙ ap (λ (r : Result Built RestoreFault). r >=> λ x. Ok (x, to)) is

    pub added_so : (more : Built) → subscriber_added (Some most) b v ≡ Ok more → subscriber_at_place (Some most) (b, from) ≡ Ok (more, to)
    added_so more is = with_part ∙ ap (λ (r : Result Built RestoreFault). r >=> λ x. Ok (x, to)) is
