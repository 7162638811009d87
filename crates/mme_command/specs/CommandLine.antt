-- The command line that the program takes.
use Rattle.std.specs.Prelude.{◌≡◌, ◌⊎◌, List, [], codes, Option, Some, option_map}
use Rattle.clap.specs.Words.{App, Text, Row, Kinds, fault_of, first_of, new_app, new_rule, subcommand_of, with_rule, with_subcommand}
use Rattle.mme_command.specs.declared.command_line.Choice.{Choice}
use Rattle.mme_command.specs.declared.command_line.Choice.TheVariants.{Play, Sim}

-- a subcommand of that name, which takes a FILE
abbrev pub file_app : Text → App
file_app name = with_rule (new_app name) (new_rule (codes "FILE"))

abbrev pub mme_app : App
mme_app = with_subcommand (with_subcommand (new_app (codes "mme")) (file_app (codes "play")).top) (file_app (codes "sim")).top

-- a subcommand with its FILE, where there is one
abbrev pub with_file : Text × List Row → Text × Option Text
with_file found = (found.0, first_of (codes "FILE") found.1)

-- what the words ask for, as the command line library reads them
abbrev pub asked_of : List Text → Option (Text × Option Text)
asked_of words = option_map with_file (subcommand_of mme_app words)

abbrev pub choice_of : Choice → Text × Option Text
choice_of (Play file) = (codes "play", option_map (λ s. s.now) file)
choice_of (Sim file) = (codes "sim", option_map (λ s. s.now) file)

-- what is wrong with the words, as the command line library reads them: nothing where there are no kinds of error
abbrev pub wrong_in : List Text → Kinds
wrong_in words = fault_of mme_app words

-- the words ask for something: nothing is wrong with them, and there is a subcommand that the program has
pub record AskFor (words : List Text) : Type 0 where
  pub right : wrong_in words ≡ []
  pub file : Option Text
  pub known : (asked_of words ≡ Some (codes "play", file)) ⊎ (asked_of words ≡ Some (codes "sim", file))
