use Rattle.std.proofs.Common.{◌≡◌, ◌∙◌, ◌∷◌, [], ◌<◌, ◌-◌, Some, Global, Vec, ap, arith, length, map, refl, rules, slice_index_or, subst, sym, vec_len}
use Rattle.vlm_ports.specs.declared.node_rings.NodeRings.{NodeRings}
use Rattle.vlm_ports.specs.Links.{node_rings_identity}
use Rattle.vlm_ports.specs.Watched.{board_name, watched_keys}
use Rattle.vlm_ports.specs.declared.watch.watcher.Watcher.{Watcher}
use Rattle.vlm_ports.specs.Watching.{IsNew}
use Rattle.vlm.proofs.Going.{ports_stay}
use Rattle.vlm.proofs.monitor.watched.MonitoredHub.open.Goals as goal

-- the last of the watchers that were made
last_is : (w x : Watcher) → Some w ≡ Some x → x ≡ w
last_is w x is = cc

-- the one watcher is the hub's, and has one key
pub invariant_of-result : goal.invariant_of-result
invariant_of-result g c =
    let watchers = c.in-Ok.watchers in
    let watcher = c.in-Some.watcher in
    let one : vec_len c.in_ok-subjects.subjects ≡ 1 = search rules in
    let within : vec_len watchers - 1 < length watchers.items = search rules in
    let some : 0 < vec_len watchers = omega (arith, c.in-Ok.ensures.count) in
    let last = last_is watcher (slice_index_or watchers.items (vec_len watchers - 1) watcher) (c.in-Some.ensures.value watcher some) in
    let each = c.in-Ok.ensures.each (vec_len watchers - 1) watcher within in
    let new : IsNew (board_name c.watch.new.self) (vec_len c.in_ok-subjects.subjects) watcher =
    subst (IsNew (board_name c.watch.new.self) (vec_len c.in_ok-subjects.subjects)) last each in
    let keys : length (watched_keys c.watch.new.self) ≡ vec_len c.in_ok-subjects.subjects = search rules in
    let hub = c.in_ok-hub.hub in let ports = c.in_ok-hub.ports.items in
    let subject : watched_keys c.watch.new.self ≡ c.args.key.now ∷ [] = search rules in
    record {
      watched = c.in-Ok.ensures.watched;
      ours = (new.board_is, new.keys_are ∙ sym keys);
      one = omega (arith, new.keys_are, one);
      subject = subject;
      linked = ports_stay hub c.watch.new.self ports ports
          (ap (λ (ls : Vec NodeRings Global). map node_rings_identity ls.items) c.watch.ensures.same.1) refl
          c.in_ok-hub.ensures.ours;
    }
