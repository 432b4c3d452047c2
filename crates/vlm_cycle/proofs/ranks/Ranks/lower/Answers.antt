use Rattle.vlm_cycle.proofs.ranks.Ranks.lower.Goals as goal

pub returns-then-low-note : goal.returns-then-low-note
returns-then-low-note c s are = c.put.ensures.there s are (c.ranked.ensures s (c.note-note.ensures.there s are))
