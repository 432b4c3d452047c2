use Rattle.std.proofs.Common.{rules, ap, ◌≡◌, ◌∙◌, ◌∷◌, [], Some, codes}
use Rattle.std.specs.Prelude.{pos}
use Rattle.clap.specs.Words.{Rule, new_rule, rule_of}
use Rattle.clap.specs.declared.builder.value_parser.ValueParser.TheVariants.{Signed}
use Rattle.vlm.proofs.arguments.nodes_option.Goals as goal

-- the option before it has a parser, with it, and with its default
pub returns-clause-rule : goal.returns-clause-rule
returns-clause-rule c =
    let made : c.range.result ≡ Signed (pos 1) (pos 8) = simp (c.value_parser.ensures, c.new-2.ensures.start, c.new-2.ensures.end) at c.range.ensures in
    let given = c.value_parser-2.ensures.given in
    let named : rule_of c.value_name.result ≡ record (new_rule (codes "nodes")) { long = Some (codes "nodes"); value_names = 1 } = search rules in
    let parsed : rule_of c.value_parser-2.result ≡ record (rule_of c.value_name.result) { parser = Some (Signed (pos 1) (pos 8)) } =
    ap rule_of c.value_parser-2.ensures.others ∙ ap (λ p. record (rule_of c.value_name.result) { parser = p }) (given.1 ∙ ap Some (given.2 ∙ made)) in
    let defaulted : rule_of c.help.result ≡ record (rule_of c.value_parser-2.result) { defaults = codes "2" ∷ [] } = search rules in
    defaulted
    ∙ ap (λ (r : Rule). record r { defaults = codes "2" ∷ [] }) (parsed ∙ ap (λ (r : Rule). record r { parser = Some (Signed (pos 1) (pos 8)) }) named)
