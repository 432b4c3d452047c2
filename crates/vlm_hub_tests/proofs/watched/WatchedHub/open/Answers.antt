use Rattle.std.proofs.Common.{◌≡◌, ◌<◌, ◌-◌, List, ◌∷◌, ap, arith, get_or, length, map, sym, subst, ◌∙◌}
use Rattle.std.specs.Prelude.{All, vec_len}
use Rattle.std.specs.List.{slice_get}
use Rattle.std.specs.Vec.Iter.{into_iter_items}
use Rattle.std.proofs.lemmas.List.{get_or-map, length-map}
use Rattle.vlm_ports.specs.declared.port.Port.{Port}
use Rattle.vlm_ports.specs.Hubs.{IsPortOf}
use Rattle.vlm_ports.specs.Links.{node_rings_identity}
use Rattle.vlm_ports.specs.Watched.{board_name}
use Rattle.vlm_ports.specs.declared.watch.watcher.Watcher.{Watcher}
use Rattle.vlm_ports.specs.Watching.{IsNew}
use Rattle.vlm_hub_tests.specs.declared.onlookers.Onlooker.{Onlooker}
use Rattle.vlm_hub_tests.proofs.watched.WatchedHub.open.Goals as goal

pub invariant_of-result : goal.invariant_of-result
invariant_of-result g c =
    let port = c.in-Some.port in
    let hub = c.in-Ok-make.hub in
    let watched = c.watch.new.self in
    let told = c.in-Ok-watch.ensures in
    let rest : List Port = into_iter_items c.next.new.self in
    let ports : c.in-Ok-make.ports.items ≡ port ∷ rest = sym c.into_iter.ensures.rest ∙ c.in-Some.ensures.items in
    let ours : All (IsPortOf hub) (port ∷ rest) = subst (All (IsPortOf hub)) ports c.in-Ok-make.ensures.ours in
    let was : IsPortOf hub port = ours 0 port (omega arith) in
    let who : Onlooker → Watcher = λ o. o.watcher in
    let seated = c.seat.new.onlookers.items in
    let new : All (IsNew (board_name watched) (vec_len c.args.keys)) (map who seated) =
    subst (All (IsNew (board_name watched) (vec_len c.args.keys))) (sym c.seat.ensures) told.each in
    record {
      ours = (was.0, ap (λ lines. slice_get (map node_rings_identity lines.items) (port.node - 1)) told.same.1 ∙ was.1);
      watched = told.watched;
      places = omega (arith, c.len-count.ensures, ap length told.board.0);
      some = omega (arith, c.len-count.ensures, c.requires.keys);
      theirs = λ k d lt.
          let there : k < length (map who seated) = omega (arith, lt, length-map seated who) in
          let at : get_or (map who seated) k (who d) ≡ who (get_or seated k d) = get_or-map who seated k d (who d) lt in
          let one = subst (IsNew (board_name watched) (vec_len c.args.keys)) at (new k (who d) there) in
          (one.board_is, omega (arith, one.keys_are, ap length told.board.0));
    }
