-- The first process of a node that lives, and the first that has an AST pending, as a caller sees them.
use Rattle.std.proofs.Common.{◌≡◌, ◌≢◌, ℕ, ◌/◌, Bool, true, false, length, List, Option, None, Some, IsSome, refl, sym, ap, ◌∙◌, inl, inr, eq-eqb, ne_eqb}
use Rattle.std.specs.Prelude.{◌&&◌, nat_lt}
use Rattle.std.proofs.lemmas.Bool.{cases_eq}
use Rattle.slab.specs.Slab.{get}
use Rattle.vlm_collections.specs.Lists.{IsIn}
use Rattle.vlm_records.specs.NodeMarks.{IsFirstMarked, is_marked, is_node}
use Rattle.vlm_words.specs.State.{Process as PlainProcess}
use Rattle.vlm_records.specs.declared.processes.Process.{Process}
use Rattle.vlm_store.specs.declared.store.Store.TheInside.{Inside}
use Rattle.vlm_store.specs.Holdings.{process_face_in}
use Rattle.vlm_store.specs.Kept.{IsKept, records_shown}
use Rattle.vlm_store.specs.Pending.{IsFirst, IsFirstLiving, IsFirstPending, IsMarked, is_of_nodes, lives_on, waits_in, waits_on}
use Rattle.vlm_store.specs.Records.{StoredProcess}
use Rattle.vlm_store.proofs.LivingProcesses.{finds_process, process_named, shown_among}
use Rattle.vlm_store.proofs.MarkedProcesses.{and_true, no_and}

-- the process is of one of the eight nodes, and has an AST pending
abbrev waits : PlainProcess → Bool
waits p = is_node (p.pid / 65536) && nat_lt 0 (length p.asts)

-- the process is of one of the eight nodes
abbrev is_named : PlainProcess → Bool
is_named p = is_node (p.pid / 65536)

-- of its own node a process waits where it waits at all, and of no other; and so it lives
waits_here : (node : ℕ) (p : PlainProcess) → p.pid / 65536 ≡ node → waits_on node p ≡ waits p
waits_here node p same = rw (eq-eqb (p.pid / 65536) node same) (ap (λ n. is_node n && nat_lt 0 (length p.asts)) (sym same))

waits_elsewhere : (node : ℕ) (p : PlainProcess) → p.pid / 65536 ≢ node → waits_on node p ≡ false
waits_elsewhere node p differs = rw (ne_eqb (p.pid / 65536) node differs) (no_and (is_node node))

lives_here : (node : ℕ) (p : PlainProcess) → p.pid / 65536 ≡ node → lives_on node p ≡ is_named p
lives_here node p same = rw (eq-eqb (p.pid / 65536) node same) (and_true (is_node node) ∙ ap is_node (sym same))

lives_elsewhere : (node : ℕ) (p : PlainProcess) → p.pid / 65536 ≢ node → lives_on node p ≡ false
lives_elsewhere node p differs = rw (ne_eqb (p.pid / 65536) node differs) (no_and (is_node node))

-- what the record of a process tells
waits_told : (slot : Option Process) → IsSome slot → waits_in slot ≡ waits (process_face_in slot).plain
waits_told None there = cc
waits_told (Some p) there = refl

named_told : (slot : Option Process) → IsSome slot → is_of_nodes slot ≡ is_named (process_face_in slot).plain
named_told None there = cc
named_told (Some p) there = refl

module _ (s : Inside) (kept : IsKept s) (tells : Option Process → Bool) (told : PlainProcess → Bool) (on : ℕ
    → PlainProcess → Bool) (marks : List (List Bool)) (marked : IsMarked tells s.processes marks)
    (by_slot : (slot : Option Process) → IsSome slot → tells slot ≡ told (process_face_in slot).plain)
    (here : (node : ℕ) (p : PlainProcess) → p.pid / 65536 ≡ node → on node p ≡ told p)
    (elsewhere : (node : ℕ) (p : PlainProcess) → p.pid / 65536 ≢ node → on node p ≡ false) where
  -- a process that a caller sees is marked where this is to be told of it
  marked_as : (p : StoredProcess) → IsIn p (records_shown s).processes → is_marked marks p.process.pid ≡ told p.process
  marked_as p among =
      let named = process_named s kept p.at p.process.pid (p, (among, refl, refl)) in
      marked.told p.at p.process.pid named.1 ∙ by_slot (get s.processes p.at) named.0
      ∙ ap (λ (x : StoredProcess). told x.process) (shown_among s kept p among).1

  first_told : (node : ℕ) (result : Option ℕ) → IsFirstMarked marks node result → IsFirst (on node) (records_shown s).processes result
  first_told node None none = λ p among.
      elim (cases_eq (p.process.pid / 65536) node) [
        | inl same ↦ here node p.process same ∙ sym (marked_as p among) ∙ none p.process.pid same
        | inr differs ↦ elsewhere node p.process differs
      ]
  first_told node (Some first) is =
      let living = marked.lives first is.0 in
      let found = finds_process s kept first (Some living.0) (sym (kept.processes.complete first living.0 living.1)) in
      let p = found.0 in
      let pid : p.process.pid ≡ first = found.1.2 in (
        (
          p,
          (
            found.1.0,
            pid,
            here node p.process (ap (λ n. n / 65536) pid ∙ is.1) ∙ sym (marked_as p found.1.0) ∙ ap (is_marked marks) pid ∙ is.0,
          ),
        ),
        λ q among waiting.
            elim (cases_eq (q.process.pid / 65536) node) [
              | inl same ↦ is.2 q.process.pid same (marked_as q among ∙ sym (here node q.process same) ∙ waiting)
              | inr differs ↦ (let never : true ≡ false = sym waiting ∙ elsewhere node q.process differs in cc)
            ],
      )

module _ (s : Inside) (kept : IsKept s) (node : ℕ) (result : Option ℕ) where
  pub first_pending_shown : IsFirstMarked s.pending node result → IsFirstPending node (records_shown s).processes result
  first_pending_shown = first_told s kept waits_in waits waits_on s.pending kept.marked waits_told waits_here waits_elsewhere node result

  pub first_living_shown : IsFirstMarked s.living node result → IsFirstLiving node (records_shown s).processes result
  first_living_shown = first_told s kept is_of_nodes is_named lives_on s.living kept.living named_told lives_here lives_elsewhere node result
