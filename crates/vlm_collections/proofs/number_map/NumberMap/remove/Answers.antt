use Rattle.std.proofs.Common.{◌∙◌, None, ap, nat_eq}
use Rattle.std.specs.Map.{lookup}
use Rattle.vlm_collections.specs.NumberMaps.{WritesOne, handles_by_number, pairs}
use Rattle.vlm_collections.specs.declared.number_map.Numbered.{Numbered}
use Rattle.vlm_collections.proofs.NumberMaps.{absent_not_found, removed_other}
use Rattle.vlm_collections.proofs.number_map.NumberMap.remove.Goals as goal

pub returns-clause-writes : goal.returns-clause-writes
returns-clause-writes g c =
    let k : Numbered g.row.Kind.Denot = record { number = c.args.number; at = 0; kind = record {} } in
    let writes : WritesOne c.args.number None (handles_by_number c.self.inside.numbered) (handles_by_number c.swap_remove.new.self) = record {
      this = absent_not_found k c.swap_remove.new.self.keys c.swap_remove.ensures.updates.1;
      others = λ other differs.
          ap (λ ks. lookup (nat_eq other) (pairs ks)) c.swap_remove.ensures.keys
          ∙ removed_other k c.self.inside.numbered.keys c.self.invariant other differs;
    } in
    rw (← c.self.view_is) writes
