use Rattle.vlm_words.proofs.names.NameArg.of.Goals as goal

pub returns : goal.returns
returns c = c.of.ensures
