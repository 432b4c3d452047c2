use Rattle.vlm_script.proofs.Shown.{parts_text-none, parts_text-some}
use Rattle.vlm_script.proofs.show.show.Goals as goal

-- there is no resource, and a line says so
pub returns-then-resource_count-eq0 : goal.returns-then-resource_count-eq0
returns-then-resource_count-eq0 c =
    rw (parts_text-none c.args.part c.args.core.now.resources c.resource_count.result c.resource_count.ensures
    c.if-resource_count-eq0.true) c.show_no_resources.ensures

-- there are resources, and the part of each is printed
pub returns-else-resource_count-eq0 : goal.returns-else-resource_count-eq0
returns-else-resource_count-eq0 c =
    rw (parts_text-some c.args.part c.args.core.now.resources c.resource_count.result c.resource_count.ensures
    c.if-resource_count-eq0.false) c.show_resources.ensures
