use Rattle.std.proofs.Common.{◌≡◌, ℕ, ◌*◌, ◌≤◌, ◌<◌}
use Rattle.vlm_ports.specs.Hubs.{Grew, AllNodeRingsLast, MayRestAt, base, bases, journal, rings, state}
use Rattle.vlm_ports.specs.Watched.{board}
use Rattle.vlm_ports.proofs.Asking.{AskedBelow}
use Rattle.vlm_ports.proofs.Delivering.{DeliveredBelow}
use Rattle.vlm_ports.proofs.hub.Hub.turn.Given as goal

abbrev pub invariant-loop-at : goal.invariant-loop-at
invariant-loop-at l = record {
  rings : rings l.self ≡ rings l.initial.self;
  base : base l.self ≡ base l.initial.self;
  board : board l.self ≡ board l.initial.self;
  bases : bases l.self ≡ bases l.initial.self;
  grew : Grew l.made (journal l.initial.self) (state l.initial.self) (journal l.self) (state l.self);
  once : AskedBelow l.at (journal l.initial.self) (journal l.self);
  delivers : DeliveredBelow l.at (journal l.initial.self) (journal l.self);
  known : AllNodeRingsLast l.initial.self l.self;
  most : l.made ≤ 2 * l.at;
  idle : l.made ≡ 0 → (k : ℕ) → k < l.at → MayRestAt l.self k;
}
