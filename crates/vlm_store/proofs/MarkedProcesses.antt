-- Which processes are marked, as processes come, go and are written.
use Rattle.std.proofs.Common.{◌≡◌, ◌≢◌, ℕ, ◌/◌, Bool, true, false, List, length, Option, None, Some, refl, sym, ap, ◌∙◌, subst, inl, inr}
use Rattle.std.specs.Prelude.{◌&&◌, nat_lt}
use Rattle.std.proofs.lemmas.Bool.{cases_eq}
use Rattle.std.proofs.lemmas.Option.{none-some, same_Some}
use Rattle.std.specs.Option.{option_map, option_map_or}
use Rattle.slab.specs.Slab.{Slab, get, ContainsKey, with_value}
use Rattle.slab.proofs.SlabLemmas.{Updates-with_value}
use Rattle.vlm_records.specs.NodeMarks.{Grows, HasRoomFor, Writes, is_marked, is_node}
use Rattle.vlm_words.specs.declared.asts.Ast.{Ast}
use Rattle.vlm_records.specs.declared.processes.Process.{Process}
use Rattle.vlm_records.specs.Kin.{but_order, but_own, pid_at, pid_of}
use Rattle.vlm_store.specs.Index.{Indexes, HandleMap, handle_by}
use Rattle.vlm_store.specs.Pending.{IsMarked, is_of_nodes, waits_in}
use Rattle.vlm_records.specs.Pending.{IsToldOf, OtherMarksStay, is_waiting}
use Rattle.vlm_records.specs.Shown.{SameBut}
use Rattle.vlm_records.proofs.PlacesOnLists.{by_part, through}
use Rattle.vlm_store.proofs.Kinship.{own_pids}

-- ---- one process

pub no_and : (b : Bool) → (b && false) ≡ false
no_and true = refl
no_and false = refl

pub and_true : (b : Bool) → (b && true) ≡ b
and_true true = refl
and_true false = refl

-- what one write leaves alone
pub written_others : (pid : ℕ) (value : Bool) (old new : List (List Bool)) → Writes pid value old new → OtherMarksStay pid old new
written_others pid value old new written = record { marks = written.others; room = written.room }

pub none_written : (pid : ℕ) (marks : List (List Bool)) → OtherMarksStay pid marks marks
none_written pid marks = record { marks = λ other differs. refl; room = λ other room. room }

-- a new process waits for nothing
pub waits_not : (p : Process) → length p.asts.pending ≡ 0 → is_waiting p ≡ false
waits_not p none = ap (λ n. is_node (p.pid / 65536) && nat_lt 0 n) none ∙ no_and (is_node (p.pid / 65536))

-- what is told of a process where as many ASTs are pending
pub waits_same : (was now : Process) → now.pid ≡ was.pid → now.asts.pending ≡ was.asts.pending → is_waiting now ≡ is_waiting was
waits_same was now pid pending = ap (λ x. is_node (x / 65536) && nat_lt 0 (length now.asts.pending)) pid
    ∙ ap (λ (asts : List Ast). is_node (was.pid / 65536) && nat_lt 0 (length asts)) pending

-- ---- all processes

-- what is told of a process does not depend on its locks, nor on its place in the order
pub waits-own : (slot : Option Process) → waits_in (option_map but_own slot) ≡ waits_in slot
waits-own None = refl
waits-own (Some p) = refl

waits-order : (slot : Option Process) → waits_in (option_map but_order slot) ≡ waits_in slot
waits-order None = refl
waits-order (Some p) = refl

pub waits_by_order : (a b : Option Process) → option_map but_order a ≡ option_map but_order b → waits_in a ≡ waits_in b
waits_by_order = by_part but_order waits_in waits-order

-- whether it is of a node depends on its ID alone
nodes_by_pid : (slot : Option Process) → is_of_nodes slot ≡ option_map_or (λ pid. is_node (pid / 65536)) (option_map pid_of slot) false
nodes_by_pid None = refl
nodes_by_pid (Some p) = refl

pub nodes_same : (a b : Option Process) → option_map pid_of a ≡ option_map pid_of b → is_of_nodes a ≡ is_of_nodes b
nodes_same a b pids = nodes_by_pid a ∙ ap (λ pid. option_map_or (λ x. is_node (x / 65536)) pid false) pids ∙ sym (nodes_by_pid b)

pub nodes_of_pid : (slot : Option Process) (pid : ℕ) → option_map pid_of slot ≡ Some pid → is_of_nodes slot ≡ is_node (pid / 65536)
nodes_of_pid slot pid is = nodes_by_pid slot ∙ ap (λ found. option_map_or (λ x. is_node (x / 65536)) found false) is

pub nodes-own : (slot : Option Process) → is_of_nodes (option_map but_own slot) ≡ is_of_nodes slot
nodes-own None = refl
nodes-own (Some p) = refl

-- no two processes have one ID
pub pids_apart : (processes : Slab Process) (index : HandleMap) → Indexes (handle_by index) (pid_at processes)
    → (a b pid : ℕ) → pid_at processes a ≡ Some pid → pid_at processes b ≡ Some pid → a ≡ b
pids_apart processes index kept a b pid here there = same_Some a b (sym (kept.complete pid a here) ∙ kept.complete pid b there)

-- nothing is there yet, and nothing is marked
pub empty_marked : (tells : Option Process → Bool) (processes : Slab Process) (marks : List (List Bool))
    → ((p : ℕ) → get processes p ≡ None) → ((pid : ℕ) → is_marked marks pid ≡ false) → IsMarked tells processes marks
empty_marked tells processes marks no_processes none = record {
  told = λ at pid is. absurd (none-some pid (sym (ap (option_map pid_of) (no_processes at)) ∙ is));
  room = λ at pid is. absurd (none-some pid (sym (ap (option_map pid_of) (no_processes at)) ∙ is));
  lives = λ pid is. (let never : true ≡ false = sym is ∙ none pid in cc);
}

-- no mark changes where processes tell what they told
pub kept_marked : (tells : Option Process → Bool) (old new : Slab Process) (marks : List (List Bool))
    → ((at : ℕ) → pid_at new at ≡ pid_at old at) → ((at : ℕ) → tells (get new at) ≡ tells (get old at))
    → IsMarked tells old marks → IsMarked tells new marks
kept_marked tells old new marks pids same marked = record {
  told = λ at pid is. marked.told at pid (sym (pids at) ∙ is) ∙ sym (same at);
  room = λ at pid is. marked.room at pid (sym (pids at) ∙ is);
  lives = λ pid is. (let living = marked.lives pid is in (living.0, pids living.0 ∙ living.1));
}

-- where their locks are written
pub own_marked : (tells : Option Process → Bool)
    → ((slot : Option Process) → tells (option_map but_own slot) ≡ tells slot)
    → (old new : Slab Process) (marks : List (List Bool)) → SameBut but_own old new
    → IsMarked tells old marks → IsMarked tells new marks
own_marked tells own old new marks same = kept_marked tells old new marks (own_pids old new same) (through but_own tells own old new same)

-- there is more room for marks
pub grown_marked : (tells : Option Process → Bool) (processes : Slab Process) (old new : List (List Bool))
    → Grows old new → IsMarked tells processes old → IsMarked tells processes new
grown_marked tells processes old new grows marked = record {
  told = λ at pid is. grows.marks pid ∙ marked.told at pid is;
  room = λ at pid is. grows.room pid (marked.room at pid is);
  lives = λ pid is. marked.lives pid (sym (grows.marks pid) ∙ is);
}

-- the process at a handle
pub told_of : (processes : Slab Process) (marks : List (List Bool)) (at : ℕ) (p : Process) → get processes at ≡ Some p
    → IsMarked waits_in processes marks → IsToldOf p marks
told_of processes marks at p here marked = record {
  told = marked.told at p.pid (ap (option_map pid_of) here) ∙ ap waits_in here;
  room = marked.room at p.pid (ap (option_map pid_of) here);
}

module _ (tells : Option Process → Bool) (old new : Slab Process) (at : ℕ) (pid_other : (p : ℕ) → p ≢ at
    → pid_at new p ≡ pid_at old p) (tells_other : (p : ℕ) → p ≢ at → tells (get new p) ≡ tells (get old p)) where
  -- a process comes, and its mark is written
  pub added_marked : (marks marks' : List (List Bool)) (mine : ℕ) → get old at ≡ None → pid_at new at ≡ Some mine → ((k : ℕ) → pid_at old k ≢ Some mine)
      → is_marked marks' mine ≡ tells (get new at) → HasRoomFor marks mine → OtherMarksStay mine marks marks'
      → IsMarked tells old marks → IsMarked tells new marks'
  added_marked marks marks' mine vacant here fresh told room others marked = record {
    told = λ k pid is. elim (cases_eq k at) [
      | inl same ↦ ap (is_marked marks') (sym (same_pid k pid same is)) ∙ told ∙ sym (ap (λ x. tells (get new x)) same)
      | inr differs ↦
          let was = sym (pid_other k differs) ∙ is in
          others.marks pid (λ same. fresh k (was ∙ ap Some same)) ∙ marked.told k pid was ∙ sym (tells_other k differs)
    ];
    room = λ k pid is. others.room pid (elim (cases_eq k at) [
      | inl same ↦ subst (HasRoomFor marks) (same_pid k pid same is) room
      | inr differs ↦ marked.room k pid (sym (pid_other k differs) ∙ is)
    ]);
    lives = λ pid is. elim (cases_eq pid mine) [
      | inl same ↦ (at, here ∙ ap Some (sym same))
      | inr other ↦
          let living = marked.lives pid (sym (others.marks pid other) ∙ is) in
          let differs : living.0 ≢ at = λ same. none-some pid (sym (ap (option_map pid_of) vacant) ∙ ap (pid_at old) (sym same) ∙ living.1) in
          (living.0, pid_other living.0 differs ∙ living.1)
    ];
  }
    where
      same_pid : (k pid : ℕ) → k ≡ at → pid_at new k ≡ Some pid → mine ≡ pid
      same_pid k pid same is = same_Some mine pid (sym here ∙ ap (pid_at new) (sym same) ∙ is)

  -- one that is not there is not marked
  pub unmarked : (marks : List (List Bool)) (mine : ℕ) → ((k : ℕ) → pid_at old k ≢ Some mine) → IsMarked tells old marks → is_marked marks mine ≡ false
  unmarked marks mine fresh marked = of_mark (is_marked marks mine) refl
    where
      of_mark : (mark : Bool) → is_marked marks mine ≡ mark → is_marked marks mine ≡ false
      of_mark true is = (let living = marked.lives mine is in absurd (fresh living.0 living.1))
      of_mark false is = is

  -- a process goes, with its mark
  pub removed_marked : (marks marks' : List (List Bool)) (pid : ℕ) → pid_at old at ≡ Some pid → get new at ≡ None → Writes pid false marks marks'
      → ((a b x : ℕ) → pid_at old a ≡ Some x → pid_at old b ≡ Some x → a ≡ b) → IsMarked tells old marks → IsMarked tells new marks'
  removed_marked marks marks' pid here gone written apart marked = record {
    told = λ k x is.
        let stays = still k x is in
        written.others x (λ same. stays.0 (apart k at x stays.1 (here ∙ ap Some (sym same)))) ∙ marked.told k x stays.1 ∙ sym (tells_other k stays.0);
    room = λ k x is. written.room x (marked.room k x (still k x is).1);
    lives = λ x is.
        let other : x ≢ pid = λ same. (let never : true ≡ false = sym is ∙ ap (is_marked marks') same ∙ written.this ∙ no_and (is_node (pid / 65536)) in cc) in
        let living = marked.lives x (sym (written.others x other) ∙ is) in
        let differs : living.0 ≢ at = λ same. other (same_Some x pid (sym living.1 ∙ ap (pid_at old) same ∙ here)) in
        (living.0, pid_other living.0 differs ∙ living.1);
  }
    where
      still : (k x : ℕ) → pid_at new k ≡ Some x → (k ≢ at) × (pid_at old k ≡ Some x)
      still k x is =
          let differs : k ≢ at = λ same. none-some x (sym (ap (option_map pid_of) gone) ∙ ap (pid_at new) (sym same) ∙ is) in
          (differs, sym (pid_other k differs) ∙ is)

-- a process is written, and its mark with it
pub written_marked : (processes : Slab Process) (marks marks' : List (List Bool)) (at : ℕ) (was now : Process)
    → get processes at ≡ Some was → now.pid ≡ was.pid → IsToldOf now marks' → OtherMarksStay was.pid marks marks'
    → ((a b x : ℕ) → pid_at processes a ≡ Some x → pid_at processes b ≡ Some x → a ≡ b)
    → IsMarked waits_in processes marks → IsMarked waits_in (with_value processes at now) marks'
written_marked processes marks marks' at was now here pid told others apart marked =
    let there : ContainsKey processes at = rw here refl in
    let updates = Updates-with_value processes at now there in
    let new = with_value processes at now in
    let pid_here : pid_at processes at ≡ Some was.pid = ap (option_map pid_of) here in
    let pid_now : pid_at new at ≡ Some now.pid = ap (option_map pid_of) updates.changed in
    let same_pid : (k x : ℕ) → k ≡ at → pid_at new k ≡ Some x
    → now.pid ≡ x = λ k x same is. same_Some now.pid x (sym pid_now ∙ ap (pid_at new) (sym same) ∙ is) in
    let pid_other : (k : ℕ) → k ≢ at → pid_at new k ≡ pid_at processes k = λ k differs. ap (option_map pid_of) (updates.others k differs) in
    record {
      told = λ k x is. elim (cases_eq k at) [
        | inl same ↦ ap (is_marked marks') (sym (same_pid k x same is)) ∙ told.told ∙ sym (ap (λ y. waits_in (get new y)) same ∙ ap waits_in updates.changed)
        | inr differs ↦
            let old_pid = sym (pid_other k differs) ∙ is in
            others.marks x (λ same. differs (apart k at x old_pid (pid_here ∙ ap Some (sym same))))
            ∙ marked.told k x old_pid ∙ sym (ap waits_in (updates.others k differs))
      ];
      room = λ k x is. elim (cases_eq k at) [
        | inl same ↦ subst (HasRoomFor marks') (same_pid k x same is) told.room
        | inr differs ↦ others.room x (marked.room k x (sym (pid_other k differs) ∙ is))
      ];
      lives = λ x is. elim (cases_eq x was.pid) [
        | inl same ↦ (at, pid_now ∙ ap Some (pid ∙ sym same))
        | inr other ↦
            let living = marked.lives x (sym (others.marks x other) ∙ is) in
            let differs : living.0 ≢ at = λ same. other (same_Some x was.pid (sym living.1 ∙ ap (pid_at processes) same ∙ pid_here)) in
            (living.0, pid_other living.0 differs ∙ living.1)
      ];
    }
