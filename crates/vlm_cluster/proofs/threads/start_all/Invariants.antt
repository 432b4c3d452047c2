use Rattle.std.proofs.Common.{◌≡◌, ◌+◌, ◌<◌, ◌≤◌, ℕ, get_or, vec_len}
use Rattle.std.specs.Prelude.{vec_capacity}
use Rattle.vlm_cluster.proofs.threads.start_all.Given as goal

abbrev pub invariant-loop : goal.invariant-loop
invariant-loop g l = record {
  started : vec_len l.children ≡ l.counter;
  room : vec_len l.initial.ports ≤ vec_capacity l.children;
  gates : vec_len l.gates + l.counter ≡ vec_len l.initial.gates;
  ports : vec_len l.ports + l.counter ≡ vec_len l.initial.ports;
  lists : vec_len l.lists + l.counter ≡ vec_len l.initial.lists;
  next_gate : (k : ℕ) (x : _) → get_or l.gates.items k x ≡ get_or l.initial.gates.items (l.counter + k) x;
  next_port : (k : ℕ) (p : _) → get_or l.ports.items k p ≡ get_or l.initial.ports.items (l.counter + k) p;
  next_list : (k : ℕ) (x : _) → get_or l.lists.items k x ≡ get_or l.initial.lists.items (l.counter + k) x;
  each_gate : (k : ℕ) (h : _) (x : _) → k < l.counter → (get_or l.children.items k h).promise.gate.value ≡ get_or l.initial.gates.items k x;
  each : (k : ℕ) (h : _) (p : _) (x : _) → k < l.counter
      → ((get_or l.children.items k h).promise.port.value ≡ get_or l.initial.ports.items k p)
      × ((get_or l.children.items k h).promise.list.value ≡ get_or l.initial.lists.items k x);
}
