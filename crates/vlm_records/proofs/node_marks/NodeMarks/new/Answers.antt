use Rattle.vlm_records.proofs.NodesMarked.{none_marked}
use Rattle.vlm_records.proofs.node_marks.NodeMarks.new.Goals as goal

pub returns : goal.returns
returns c =
    rw (c.new.ensures, c.new-2.ensures, c.new-3.ensures, c.new-4.ensures, c.new-5.ensures, c.new-6.ensures, c.new-7.ensures, c.new-8.ensures) none_marked
