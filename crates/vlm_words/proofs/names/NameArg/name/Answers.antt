use Rattle.std.proofs.Common.{Ok, refl, sym, ap, ◌∙◌}
use Rattle.vlm_words.specs.Names.{name_of}
use Rattle.vlm_words.proofs.names.NameArg.name.Goals as goal

pub returns-then-is_name : goal.returns-then-is_name
unfolding name_of
returns-then-is_name c = rw (sym c.is_name.ensures ∙ c.if-is_name.true) (ap Ok c.checked.ensures)

pub returns-else-is_name : goal.returns-else-is_name
unfolding name_of
returns-else-is_name c = rw (sym c.is_name.ensures ∙ c.if-is_name.false) refl
