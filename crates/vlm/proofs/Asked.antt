-- What the words ask for, by the matches that a parse of them gives.
use Rattle.std.proofs.Common.{◌≡◌, ◌∙◌, ◌<◌, ◌≤◌, ◌^◌, ℕ, List, Option, None, Some, Result, Ok, Err, true, ap, arith}
use Rattle.std.proofs.Common.{codes, decimal, option_map, refl, subst, sym}
use Rattle.std.specs.Prelude.{Box, option_and_then}
use Rattle.std.specs.Box.{box_value}
use Rattle.std.specs.Str.Parse.{ParsesUnsigned}
use Rattle.std.proofs.lemmas.Fmt.{parse-decimal}
use Rattle.clap.proofs.OnLiterals.{clap_on_literals}
use Rattle.clap.specs.Matches.{ReadsOne, subcommand_name_of}
use Rattle.clap.specs.Words.{App, HasMatchesOf, Row, Text, first_of, is_simple, one_of, subcommand_of, subcommand_rows, subcommand_rows_of}
use Rattle.clap.specs.declared.parser.matches.ArgMatches.{ArgMatches}
use Rattle.clap.specs.declared.parser.matches.ArgMatches.TheViews.{out-ArgMatches, out-SubCommand}
use Rattle.clap.specs.declared.parser.matches.SubCommand.{SubCommand}
use Rattle.vlm.specs.Words.{Spells, named_command, named_group, named_nodes, named_resource, program_commands}

is_known : is_simple program_commands ≡ true
unfolding clap_on_literals
is_known = refl

-- a subcommand's name is that of its rows
name_of_rows : {Z : Type 0} (o : Option (Box SubCommand Z))
    → option_map (λ b. (out-SubCommand (box_value b)).name.now) o ≡ option_map (λ s. s.0) (subcommand_rows o)
name_of_rows None = refl
name_of_rows (Some b) = refl

-- and so is the text of an option, however it is read
text_of_rows : (text : List Row → Option Text) (o : Option (Text × List Row)) (rows : List Row) → option_map (λ s. s.1) o ≡ Some rows
    → option_and_then (λ s. text s.1) o ≡ text rows
text_of_rows text None rows is = cc
text_of_rows text (Some s) rows is = let same : s.1 ≡ rows = cc in ap text same

module _ (app : App) (words : List Text) (m : ArgMatches) (same : app ≡ program_commands) (has : HasMatchesOf app words m) where
  rows_known : subcommand_rows_of m ≡ subcommand_of program_commands words
  rows_known = (has (ap is_simple same ∙ is_known)).1 ∙ ap (λ a. subcommand_of a words) same

  pub name_known : subcommand_name_of m ≡ named_command words
  name_known = name_of_rows (out-ArgMatches m).subcommand ∙ ap (option_map (λ s. s.0)) rows_known

  text_known : (text : List Row → Option Text) (rows : List Row) → option_map (λ s. s.1) (subcommand_rows_of m) ≡ Some rows
      → option_and_then (λ s. text s.1) (subcommand_of program_commands words) ≡ text rows
  text_known text rows is = ap (option_and_then (λ s. text s.1)) (sym rows_known) ∙ text_of_rows text (subcommand_rows_of m) rows is

  pub nodes_known : (rows : List Row) → option_map (λ s. s.1) (subcommand_rows_of m) ≡ Some rows → named_nodes words ≡ one_of (codes "nodes") rows
  nodes_known = text_known (one_of (codes "nodes"))

  pub resource_known : (rows : List Row) → option_map (λ s. s.1) (subcommand_rows_of m) ≡ Some rows → named_resource words ≡ first_of (codes "name") rows
  resource_known = text_known (first_of (codes "name"))

  pub group_known : (rows : List Row) → option_map (λ s. s.1) (subcommand_rows_of m) ≡ Some rows → named_group words ≡ one_of (codes "group") rows
  group_known = text_known (one_of (codes "group"))

-- what the text of a number of 16 bits is read as, which has so many bits
pub read_as_decimal : (E : Type 0) (G : List ℕ → Result ℕ E → Type 0) (bits n : ℕ) (r : Option ℕ) → ReadsOne G (decimal n) r
    → ((u : List ℕ) (x : Result ℕ E) → G u x → ParsesUnsigned bits 10 u x) → n < 2 ^ bits → n ≤ 65535 → r ≡ Some n
read_as_decimal E G bits n (Some v) reads only within most =
    let is = parse-decimal {E = E} bits n (decimal n) (Ok v) within (omega arith) refl (only (decimal n) (Ok v) reads) in
    cc
read_as_decimal E G bits n None reads only within most =
    let is = parse-decimal {E = E} bits n (decimal n) (Err reads.0) within (omega arith) refl (only (decimal n) (Err reads.0) reads.1) in
    cc

-- and of any text that spells the number
pub read_as_spelled : (E : Type 0) (G : List ℕ → Result ℕ E → Type 0) (bits n : ℕ) (text : List ℕ) (r : Option ℕ) → ReadsOne G text r
    → ((u : List ℕ) (x : Result ℕ E) → G u x → ParsesUnsigned bits 10 u x) → Spells text n → n < 2 ^ bits → r ≡ Some n
read_as_spelled E G bits n text (Some v) reads only spells within = ap Some ((only text (Ok v) reads).1 ∙ spells.value)
read_as_spelled E G bits n text None reads only spells within =
    absurd (only text (Err reads.0) reads.1 (spells.numeral, subst (λ (m : ℕ). m < 2 ^ bits) (sym spells.value) within))
