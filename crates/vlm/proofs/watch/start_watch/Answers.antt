use Rattle.std.proofs.Common.{refl}
use Rattle.vlm.specs.Ends.{output_of}
use Rattle.vlm.proofs.Names.{name_refused}
use Rattle.vlm.proofs.watch.start_watch.Goals as goal

pub returns-in-None : goal.returns-in-None
returns-in-None g c =
    name_refused c.args.subject.domain c.args.subject.name (g.R.Read.remaining c.args.reader.now)
    (output_of (g.W.Write.contents c.args.writer.now) (g.F.Write.contents c.args.faults.now))
    (output_of (g.W.Write.contents c.args.writer.now) (g.F.Write.contents c.refused_by.new.faults))
    c.refused_by.result c.in-None.is refl c.refused_by.ensures.faults c.refused_by.ensures.status
