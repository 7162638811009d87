use Rattle.std.proofs.Common.{ap, refl, subst, true, map, ◌≡◌, ◌∙◌}
use Rattle.std.proofs.lemmas.Result.{IfOk-weaker}
use Rattle.clap.specs.Words.{App, FailsBy, app_of, fault_of, is_simple, is_simple_and_free, subcommand_of}
use Rattle.clap.proofs.OnLiterals.{clap_on_literals}
use Rattle.mme_command.specs.CommandLine.{mme_app}
use Rattle.mme_command.proofs.command_line.matched.Goals as goal

simple : is_simple mme_app ≡ true
unfolding clap_on_literals
simple = refl

simple_and_free : is_simple_and_free mme_app ≡ true
unfolding clap_on_literals
simple_and_free = refl

pub returns-in-Ok-clause-found : goal.returns-in-Ok-clause-found
returns-in-Ok-clause-found c =
    let mme_is : app_of c.in-Ok.mme ≡ mme_app = c.in-Ok.ensures in
    let parse = c.try_get_matches_from in
    IfOk-weaker parse.result _ _ (λ m h. (h (ap is_simple mme_is ∙ simple)).1 ∙ ap (λ (a : App). subcommand_of a (map (λ w. w.now) c.args.words.now)) mme_is) parse.ensures.matches

pub returns-in-Ok-clause-fails : goal.returns-in-Ok-clause-fails
returns-in-Ok-clause-fails c =
    let mme_is : app_of c.in-Ok.mme ≡ mme_app = c.in-Ok.ensures in
    let parse = c.try_get_matches_from in
    subst (λ (a : App). FailsBy (fault_of a (map (λ w. w.now) c.args.words.now)) parse.result) mme_is
    (parse.ensures.kinds (ap is_simple_and_free mme_is ∙ simple_and_free))
