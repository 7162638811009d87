use Rattle.std.proofs.Common.{◌≡◌, ℕ, Bool, List, [], Ok, sym, ap, subst}
use Rattle.std.proofs.lemmas.Result.{IfOk-weaker}
use Rattle.per_streams.specs.Bits.{padded}
use Rattle.per_bits.specs.Formats.{Format, Value}
use Rattle.per_bits.specs.Spelling.{SpellsWhole}
use Rattle.per_bits.specs.Writing.{write_at}
use Rattle.per_bits.specs.WritingLaws.{complete_written}
use Rattle.snapshot_formats.specs.Formats.{saved_subscriber}
use Rattle.snapshot_formats.specs.Subscribers.{typed_saved_state}
use Rattle.mme_snapshot.specs.Stored.{stored_subscriber}
use Rattle.mme_snapshot.proofs.saving.subscriber_octets.Goals as goal

finished : (f : Format) (v : Value f) (new : List Bool) (os : List ℕ) → write_at f v [] ≡ Ok new → os ≡ padded new
    → SpellsWhole f v os
finished f v new os wrote is = complete_written f v os (rw wrote (ap (λ (l : List ℕ). Ok l) (sym is)))

pub returns : goal.returns
returns c =
    let stored = c.args.stored.now in
    let value : Value saved_subscriber =
    stored_subscriber stored.subscriber.now.setting stored.spent (typed_saved_state stored.state) in
    let wrote : write_at saved_subscriber value [] ≡ Ok c.write_subscriber.new.writer =
    subst (λ (out : List Bool). write_at saved_subscriber value out ≡ Ok c.write_subscriber.new.writer) c.in_ok-writer.ensures.ok
    c.in_ok-write_subscriber.ensures in
    IfOk-weaker c.finish.result _ _ (λ v e. finished saved_subscriber value c.write_subscriber.new.writer v.items wrote e)
    c.finish.ensures.ok
