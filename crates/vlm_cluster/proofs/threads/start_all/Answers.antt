use Rattle.std.proofs.Common.{◌≡◌, ℕ, ◌+◌, ◌<◌, List, length, get_or, arith, ap, sym, ◌∙◌, subst}
use Rattle.std.proofs.lemmas.List.{get_or_default}
use Rattle.std.specs.declared.alloc.Global.{Global}
use Rattle.std.specs.declared.thread.PromisedHandle.{PromisedHandle}
use Rattle.std.specs.declared.vec.Vec.{Vec}
use Rattle.vlm_words.specs.declared.steps.Step.{Step}
use Rattle.vlm_ports.specs.declared.port.Port.{Port}
use Rattle.vlm_cluster.specs.declared.threads.WorkerPromise.{WorkerPromise}
use Rattle.vlm_cluster.specs.declared.worker.WorkerResult.{WorkerResult}
use Rattle.vlm_cluster.proofs.Results.{all_more}
use Rattle.vlm_cluster.proofs.threads.start_all.Goals as goal

pub loop-preserved : goal.loop-preserved
loop-preserved g c =
    let at = c.loop.counter in let was = c.loop.invariant in let ports = c.args.inputs.ports.items in let lists = c.args.inputs.lists.items in
    let child = c.in-Ok.child in let old = c.loop.children.items in
    let G = g.row.G.Denot in let gates : List G = c.args.inputs.gates.items in
    let H = PromisedHandle (WorkerResult G) (WorkerPromise G) in
    let Q : ℕ → H → Type 0 = λ m h. (x : G) → h.promise.gate.value ≡ get_or gates m x in
    let P : ℕ → H → Type 0 = λ m h. (p : Port) (x : Vec Step Global) → (h.promise.port.value ≡ get_or ports m p) × (h.promise.list.value ≡ get_or lists m x) in
    let some_gate : at < length gates = (let n = c.requires.lens.0 in omega arith) in
    let some_port : at < length ports = omega arith in
    let some_list : at < length lists = omega arith in
    let long : length old ≡ at = (let ok = c.loop.children.ok in let n = was.started in omega arith) in
    let its_gate : Q at child = λ x.
    c.in-Ok.ensures.gate ∙ (c.remove-gate.ensures.value
    ∙ (was.next_gate 0 c.remove-gate.result
    ∙ (ap (λ (n : ℕ). get_or gates n c.remove-gate.result) (omega arith)
    ∙ get_or_default gates at c.remove-gate.result x some_gate))) in
    let here : P at child = λ p x. (
      c.in-Ok.ensures.port ∙ (c.remove-port.ensures.value
          ∙ (was.next_port 0 c.remove-port.result
          ∙ (ap (λ (n : ℕ). get_or ports n c.remove-port.result) (omega arith)
          ∙ get_or_default ports at c.remove-port.result p some_port))),
      c.in-Ok.ensures.list ∙ (c.remove-list.ensures.value
          ∙ (was.next_list 0 c.remove-list.result
          ∙ (ap (λ (n : ℕ). get_or lists n c.remove-list.result) (omega arith)
          ∙ get_or_default lists at c.remove-list.result x some_list))),
    ) in record {
      started = (let n = was.started in let m = c.push_reserved.ensures.len in omega arith);
      room = (let n = was.room in let m = c.push_reserved.ensures.capacity in omega arith);
      gates = (let n = was.gates in let m = c.remove-gate.ensures.len in omega arith);
      ports = (let n = was.ports in let m = c.remove-port.ensures.len in omega arith);
      lists = (let n = was.lists in let m = c.remove-list.ensures.len in omega arith);
      next_gate = λ k x. c.remove-gate.ensures.by_index.1 k x (omega arith) ∙ (was.next_gate (k + 1) x ∙ ap (λ (n : ℕ). get_or gates n x) (omega arith));
      next_port = λ k p. c.remove-port.ensures.by_index.1 k p (omega arith) ∙ (was.next_port (k + 1) p ∙ ap (λ (n : ℕ). get_or ports n p) (omega arith));
      next_list = λ k x. c.remove-list.ensures.by_index.1 k x (omega arith) ∙ (was.next_list (k + 1) x ∙ ap (λ (n : ℕ). get_or lists n x) (omega arith));
      each_gate = λ k h x below. subst (λ (hs : List H). Q k (get_or hs k h)) (sym c.push_reserved.ensures.items)
          (all_more Q old child (λ m e low y. was.each_gate m e y (omega (arith, low, long)))
          (subst (λ (m : ℕ). Q m child) (sym long) its_gate) k h (omega (arith, below, long))) x;
      each = λ k h p x below. subst (λ (hs : List H). P k (get_or hs k h)) (sym c.push_reserved.ensures.items)
          (all_more P old child (λ m e low y z. was.each m e y z (omega (arith, low, long)))
          (subst (λ (m : ℕ). P m child) (sym long) here) k h (omega (arith, below, long))) p x;
    }

pub returns-in_default-clause-each : goal.returns-in_default-clause-each
returns-in_default-clause-each g c k h p l lt = c.loop.invariant.each k h p l (let n = c.loop.invariant.started in omega (arith, lt, n))

pub returns-clause-each : goal.returns-clause-each
returns-clause-each g c k h p l lt = c.loop.invariant.each k h p l (let n = c.loop.invariant.started in omega (arith, lt, n))

pub returns-in_default-clause-gates : goal.returns-in_default-clause-gates
returns-in_default-clause-gates g c k h x lt = c.loop.invariant.each_gate k h x (let n = c.loop.invariant.started in omega (arith, lt, n))

pub returns-clause-gates : goal.returns-clause-gates
returns-clause-gates g c k h x lt = c.loop.invariant.each_gate k h x (let n = c.loop.invariant.started in omega (arith, lt, n))
