use Rattle.std.proofs.Common.{◌∙◌}
use Rattle.std.proofs.Math.Seq.{map-set_same}
use Rattle.vlm.specs.WatchedPorts.{posts_of}
use Rattle.vlm.proofs.monitor.watched.take_all.Goals as goal

pub loop-at-preserved : goal.loop-at-preserved
loop-at-preserved c =
    map-set_same posts_of c.loop-at.ports c.loop-at.at c.take_items-taken.new.port c.index-ports-at.result c.take_items-taken.ensures ∙ c.loop-at.invariant
