use Rattle.std.proofs.Common.{ℕ, ap, ◌∙◌}
use Rattle.std.proofs.lemmas.Result.{IfOk-weaker}
use Rattle.mme_core.specs.declared.config.Config.{Config}
use Rattle.snapshot_formats.specs.Heads.{typed_saved_head}
use Rattle.mme_snapshot.specs.declared.parts.Head.{Head}
use Rattle.mme_snapshot.proofs.saving.save_head.Goals as goal

abbrev head_from : Config → ℕ → Head
head_from config clock = record { config = config; clock = clock }

pub returns-in-Some : goal.returns-in-Some
returns-in-Some c =
    IfOk-weaker c.spelled.result _ _ (λ v h. (
      typed_saved_head c.in-Some.head,
      c.in-Some.ensures.head ∙ ap (λ (k : Config). head_from k c.parts-parts.result.clock) c.parts-parts.ensures.config
          ∙ ap (head_from c.args.mme.now.sight.config) c.parts-parts.ensures.clock,
      c.in-Some.ensures.label,
      h,
    )) c.spelled.ensures
