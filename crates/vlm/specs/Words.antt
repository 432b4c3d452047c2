-- The command line: its words, the task that they name, and the kinds of error.
use Rattle.std.specs.Prelude.{◌≡◌, ◌≤◌, ◌⊎◌, ℕ, List, [], ◌∷◌, ◌++◌, Option, None, Some, true, codes, decimal, option_and_then, option_map, pos}
use Rattle.std.specs.Result.{result_ok}
use Rattle.std.specs.Str.Parse.{IsNumeral, digits_value, without_leading_plus}
use Rattle.clap.specs.Words.{App, IsAmong, Kinds, Rule, Text, fault_of, first_of, new_app, new_rule, one_of, subcommand_of, with_rule, with_subcommand}
use Rattle.clap.specs.declared.builder.value_parser.ValueParser.TheVariants.{Signed}
use Rattle.clap.specs.declared.error.kind.ErrorKind.{ErrorKind}
use Rattle.clap.specs.declared.error.kind.ErrorKind.TheVariants.{DisplayHelp, DisplayVersion, OutOfMemory}
use Rattle.vlm_words.specs.declared.resources.Domain.TheVariants.{Group, System}
use Rattle.vlm_words.specs.Names.{name_of}
use Rattle.vlm_lines.specs.Lines.{name_read}
use Rattle.vlm.specs.declared.arguments.Subject.{Subject}
use Rattle.vlm.specs.declared.arguments.Task.{Task}
use Rattle.vlm.specs.declared.arguments.Task.TheVariants.{Cluster, Play, Watch}

-- a command that needs one of its subcommands, except for its version
abbrev pub with_needed_subcommand : App → App
with_needed_subcommand app = record app { top = record app.top { has_version = true; subcommand_required = true } }

-- the option for the number of nodes, from 1 to 8; the default is 2
abbrev pub nodes_rule : Rule
nodes_rule = record (new_rule (codes "nodes")) {
  long = Some (codes "nodes");
  value_names = 1;
  defaults = codes "2" ∷ [];
  parser = Some (Signed (pos 1) (pos 8));
}

-- the command that has this option
abbrev pub cluster_command : App
cluster_command = with_rule (new_app (codes "cluster")) nodes_rule

-- the option of a resource's name, which has to be given
abbrev pub name_rule : Rule
name_rule = record (new_rule (codes "name")) {
  long = Some (codes "name");
  value_names = 1;
  required = true;
}

-- the option of a group, from 0 to 65,535
abbrev pub group_rule : Rule
group_rule = record (new_rule (codes "group")) {
  long = Some (codes "group");
  value_names = 1;
  parser = Some (Signed (pos 0) (pos 65535));
}

-- the command that has these two options
abbrev pub watch_command : App
watch_command = with_rule (with_rule (new_app (codes "watch")) name_rule) group_rule

-- a command that needs one of these: `play`, or `cluster`
abbrev pub play_or_cluster : App
play_or_cluster =
    with_subcommand
    (with_subcommand (with_needed_subcommand (new_app (codes "vlm"))) (new_app (codes "play")).top)
    cluster_command.top

-- the program's commands `play`, `cluster` and `watch`; one of them is needed
abbrev pub program_commands : App
program_commands = with_subcommand play_or_cluster watch_command.top

-- the kinds of error that the words may have: no error if they name a run
abbrev pub word_errors : List Text → Kinds
word_errors words = fault_of program_commands words

-- memory ran out over the words, or they get an error of this kind
abbrev pub IsErrorOf : List Text → ErrorKind → Type 0
IsErrorOf words kind = (kind ≡ OutOfMemory) ⊎ IsAmong kind (word_errors words)

-- the error is a wanted text: help or the version
abbrev pub IsHelp : ErrorKind → Type 0
IsHelp kind = (kind ≡ DisplayHelp) ⊎ (kind ≡ DisplayVersion)

-- the command that the words name
abbrev pub named_command : List Text → Option Text
named_command words = option_map (λ s. s.0) (subcommand_of program_commands words)

-- the number of nodes that the words give it, as they write it
abbrev pub named_nodes : List Text → Option Text
named_nodes words =
    option_and_then (λ s. one_of (codes "nodes") s.1) (subcommand_of program_commands words)

-- the text is the number in decimal digits, perhaps after zeros, and those perhaps after a plus
pub record Spells (text : Text) (n : ℕ) : Type 0 where
  pub numeral : IsNumeral 10 (without_leading_plus text)
  pub value : digits_value 10 (without_leading_plus text) ≡ n

-- the words name a cluster of this many nodes, in any spelling of the number
pub record AskForCluster (words : List Text) (nodes : ℕ) : Type 0 where
  pub command : named_command words ≡ Some (codes "cluster")
  pub least : 1 ≤ nodes
  pub most : nodes ≤ 8
  pub number : (n : ℕ) → 1 ≤ n → n ≤ 8 → named_nodes words ≡ Some (decimal n) → nodes ≡ n
  pub spelled : (text : Text) (n : ℕ) → Spells text n → 1 ≤ n → n ≤ 8 → named_nodes words ≡ Some text → nodes ≡ n

-- the name that a text gives as in a script, if a resource has such a one
abbrev pub name_given : Text → Option (List ℕ)
name_given text = option_and_then (λ given. result_ok (name_of given)) (name_read text)

-- the text that the words give as the name of a resource
abbrev pub named_resource : List Text → Option Text
named_resource words =
    option_and_then (λ s. first_of (codes "name") s.1) (subcommand_of program_commands words)

-- the name that the words give a resource, if a resource has such a one
abbrev pub watched_name : List Text → Option (List ℕ)
watched_name words = option_and_then name_given (named_resource words)

-- the group that the words give it, as they write it
abbrev pub named_group : List Text → Option Text
named_group words =
    option_and_then (λ s. one_of (codes "group") s.1) (subcommand_of program_commands words)

-- the words name this resource to watch: its name, and its group in any spelling of the number, or the system's domain
-- if they give no group
pub record AskForWatch (words : List Text) (subject : Subject) : Type 0 where
  pub command : named_command words ≡ Some (codes "watch")
  pub name : subject.name ≡ watched_name words
  pub group : (n : ℕ) → n ≤ 65535 → named_group words ≡ Some (decimal n) → subject.domain ≡ Group n
  pub spelled : (text : Text) (n : ℕ) → Spells text n → n ≤ 65535 → named_group words ≡ Some text
      → subject.domain ≡ Group n
  pub system : named_group words ≡ None → subject.domain ≡ System

-- the words ask for a run: they name no other command
pub record AskForPlay (words : List Text) : Type 0 where
  pub no_cluster : ¬ (named_command words ≡ Some (codes "cluster"))
  pub no_watch : ¬ (named_command words ≡ Some (codes "watch"))

-- the words ask for this: a cluster or a watch where they name it, and else a run
abbrev pub AskFor : List Text → Task → Type 0
AskFor words Play = AskForPlay words
AskFor words (Cluster nodes) = AskForCluster words nodes
AskFor words (Watch subject) = AskForWatch words subject

-- the words `NAME cluster --nodes N`, or `NAME cluster` for two nodes
abbrev pub AreClusterWords : Text → ℕ → List Text → Type 0
AreClusterWords name nodes words =
    (words ≡ name ∷ codes "cluster" ∷ codes "--nodes" ∷ decimal nodes ∷ [])
    ⊎ ((nodes ≡ 2) × (words ≡ name ∷ codes "cluster" ∷ []))

-- the words `NAME watch --name=RES`
abbrev pub AreWatchWords : Text → Text → List Text → Type 0
AreWatchWords name res words = words ≡ name ∷ codes "watch" ∷ (codes "--name=" ++ res) ∷ []
