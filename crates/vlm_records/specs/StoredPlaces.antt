-- A place as a record keeps it.
use Rattle.vlm_records.specs.declared.handles.Place.{Place}
use Rattle.vlm_records.specs.declared.handles.Place.TheVariants.{Queued}
use Rattle.vlm_records.specs.declared.handles.StoredPlace.TheInside.{Inside}

-- the place that the parts show
abbrev pub place_shown : Inside → Place
place_shown p = Queued p.res p.queue

-- the parts of a place
abbrev pub place_parts : Place → Inside
place_parts (Queued res queue) = record { res = res; queue = queue }
