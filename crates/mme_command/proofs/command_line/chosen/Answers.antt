use Rattle.std.proofs.Common.{◌≡◌, List, Option, Some, None, codes, refl, sym, ap, ◌∙◌, option_map}
use Rattle.clap.specs.Words.{Row, Text, first_of, first_value, found_of, rows_of, subcommand_name_of, subcommand_rows_of}
use Rattle.clap.specs.declared.parser.matches.ArgMatches.{ArgMatches}
use Rattle.clap.specs.declared.parser.matches.ArgMatches.TheViews.{out-ArgMatches}
use Rattle.clap.proofs.WalkLemmas.{first_value-rows}
use Rattle.mme_command.specs.CommandLine.{with_file}
use Rattle.mme_command.proofs.command_line.chosen.Goals as goal

both : {A B C : Type 0} (f : A → B) (g : B → C) (o : Option A) → option_map g (option_map f o) ≡ option_map (λ x. g (f x)) o
both f g None = refl
both f g (Some x) = refl

named : (m : ArgMatches) → option_map (λ (p : Text × List Row). p.0) (subcommand_rows_of m) ≡ subcommand_name_of m
named m = both _ (λ (p : Text × List Row). p.0) (out-ArgMatches m).subcommand

asked : (o : Option (Text × List Row)) (name : Text) (rows : List Row) (file : Option Text) → option_map (λ p. p.0) o ≡ Some name
    → option_map (λ p. p.1) o ≡ Some rows
    → first_of (codes "FILE") rows ≡ file → option_map with_file o ≡ Some (name, file)
asked None name rows file n e f = cc e
asked (Some p) name rows file n e f =
    let same_name : p.0 ≡ name = cc in
    let same_rows : p.1 ≡ rows = cc in
    let pair : Text → Option Text → Text × Option Text = λ x y. (x, y) in
    ap (λ v. Some (pair v (first_of (codes "FILE") p.1))) same_name
    ∙ ap (λ v. Some (pair name v)) (ap (first_of (codes "FILE")) same_rows ∙ f)

-- what is asked for, where the subcommand of that name was used and has that file
of_file : (m found : ArgMatches) (name : Text) (file : Option Text) → subcommand_name_of m ≡ Some name
    → option_map (λ (p : Text × List Row). p.1) (subcommand_rows_of m) ≡ Some (rows_of (found_of found))
    → file ≡ first_value (found_of found) (codes "FILE") → option_map with_file (subcommand_rows_of m) ≡ Some (name, file)
of_file m found name file n r f =
    asked (subcommand_rows_of m) name (rows_of (found_of found)) file (named m ∙ n) r
    (sym (first_value-rows (found_of found) (codes "FILE")) ∙ sym f)

pub returns-in-Some-clause-asked : goal.returns-in-Some-clause-asked
returns-in-Some-clause-asked c =
    let some = c.in-Some in
    of_file c.args.matches.now some.found.now (codes "play") _ (some.ensures.found.0 refl) some.ensures.rows c.get_str.ensures

pub returns-in-Some-subcommand_matches-clause-asked : goal.returns-in-Some-subcommand_matches-clause-asked
returns-in-Some-subcommand_matches-clause-asked c =
    let some = c.in-Some-subcommand_matches in
    of_file c.args.matches.now some.found.now (codes "sim") _
    (some.ensures.found.0 refl) some.ensures.rows c.get_str-in-Some-subcommand_matches.ensures
