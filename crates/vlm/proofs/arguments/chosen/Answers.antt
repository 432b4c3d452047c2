use Rattle.std.proofs.Common.{◌∙◌, ap, Ok, refl, sym, codes}
use Rattle.std.specs.Prelude.{option_and_then}
use Rattle.clap.proofs.WalkLemmas.{first_value-rows, one_text-rows}
use Rattle.clap.specs.Words.{found_of}
use Rattle.vlm.proofs.Asked.{group_known, name_known, nodes_known, resource_known}
use Rattle.vlm.proofs.Errors.{errors_known}
use Rattle.vlm.specs.Words.{name_given}
use Rattle.vlm.proofs.arguments.chosen.Goals as goal

pub returns-in-Some-clause-fails : goal.returns-in-Some-clause-fails
returns-in-Some-clause-fails g c = errors_known _ _ (Ok c.in_ok-matches.matches) c.in_ok-command.ensures c.in_ok-matches.ensures.kinds

pub returns-in-Some-clause-asked : goal.returns-in-Some-clause-asked
returns-in-Some-clause-asked g c =
    let has = c.in_ok-matches.ensures.matches in
    let name = name_known _ _ c.in_ok-matches.matches c.in_ok-command.ensures has in
    let nodes = nodes_known _ _ c.in_ok-matches.matches c.in_ok-command.ensures has _ c.in-Some.ensures.rows in
    record {
      command = sym name ∙ c.in-Some.ensures.found.0 refl;
      least = c.nodes_of.ensures.within.0;
      most = c.nodes_of.ensures.within.1;
      number = λ n least most is. c.nodes_of.ensures.number n least most (one_text-rows (found_of c.in-Some.options.now) (codes "nodes") ∙ sym nodes ∙ is);
      spelled = λ text n spells least most is.
          c.nodes_of.ensures.spelled text n spells least most (one_text-rows (found_of c.in-Some.options.now) (codes "nodes") ∙ sym nodes ∙ is);
    }

pub returns-in-Some-subcommand_matches-clause-fails : goal.returns-in-Some-subcommand_matches-clause-fails
returns-in-Some-subcommand_matches-clause-fails g c = errors_known _ _ (Ok c.in_ok-matches.matches) c.in_ok-command.ensures c.in_ok-matches.ensures.kinds

pub returns-in-Some-subcommand_matches-clause-asked : goal.returns-in-Some-subcommand_matches-clause-asked
returns-in-Some-subcommand_matches-clause-asked g c =
    let has = c.in_ok-matches.ensures.matches in
    let options = c.in-Some-subcommand_matches.options.now in
    let name = name_known _ _ c.in_ok-matches.matches c.in_ok-command.ensures has in
    let resource = resource_known _ _ c.in_ok-matches.matches c.in_ok-command.ensures has _ c.in-Some-subcommand_matches.ensures.rows in
    let group = group_known _ _ c.in_ok-matches.matches c.in_ok-command.ensures has _ c.in-Some-subcommand_matches.ensures.rows in
    let group_text = one_text-rows (found_of options) (codes "group") ∙ sym group in
    record {
      command = sym name ∙ c.in-Some-subcommand_matches.ensures.found.0 refl;
      name = c.subject_of.ensures.name ∙ ap (option_and_then name_given) (first_value-rows (found_of options) (codes "name") ∙ sym resource);
      group = λ n most is. c.subject_of.ensures.group n most (group_text ∙ is);
      spelled = λ text n spells most is. c.subject_of.ensures.spelled text n spells most (group_text ∙ is);
      system = λ is. c.subject_of.ensures.system (group_text ∙ is);
    }

pub returns-clause-fails : goal.returns-clause-fails
returns-clause-fails g c = errors_known _ _ (Ok c.in_ok-matches.matches) c.in_ok-command.ensures c.in_ok-matches.ensures.kinds
