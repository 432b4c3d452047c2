-- The processes of a node end one by one.
use Rattle.std.proofs.Common.{◌≡◌, ◌+◌, ◌≤◌, ℕ, Bool, true, false, not, cond, List, [], ◌∷◌, map, length, Option, None}
use Rattle.std.proofs.Common.{Some, refl, sym, ap, ◌∙◌, subst, inl, inr, arith, eq-eqb}
use Rattle.std.specs.Prelude.{◌==◌, ◌&&◌, ◌||◌}
use Rattle.vlm_words.specs.declared.locks.LockState.{LockState}
use Rattle.vlm_words.specs.declared.resources.ValueBlock.{ValueBlock}
use Rattle.vlm_words.specs.Steps.{is_of_node}
use Rattle.vlm_model.specs.Rundown.{processes_but}
use Rattle.vlm_words.specs.State.{Process, Resource}
use Rattle.vlm_words.specs.ValueBlocks.{invalid_value_block}
use Rattle.vlm_model.specs.Withdrawals.{is_writer}
use Rattle.vlm_collections.specs.Lists.{IsIn}
use Rattle.vlm_store.specs.Plain.{plain_processes, plain_resources}
use Rattle.std.proofs.lemmas.Bool.Decides.{nat_tests}
use Rattle.std.proofs.lemmas.Option.{none-some, same_Some}
use Rattle.vlm_model.specs.Declare.{is_node}
use Rattle.vlm_store.specs.Pending.{IsFirstLiving}
use Rattle.vlm_store.specs.Records.{FindsProcess, IsSound, Records, StoredProcess, Stores}
use Rattle.vlm_locks.specs.Left.{has_writer_among, resource_left, rows_left}
use Rattle.vlm_locks.specs.RunningDown.{AreEnded, CanEndProcesses, resource_after_rundown}
use Rattle.vlm_locks.specs.Touched.{AreStillNoted, OnlyTouched, Touches, touched_handles}
use Rattle.vlm_locks.proofs.InOrder.{handle_among, touch_of}
use Rattle.vlm_locks.proofs.ReleasedResources.{assoc, swap}
use Rattle.vlm_locks.proofs.RunsDown.{none_goes}

-- the processes end so far: what is left without theirs is what was there without theirs
pub record AreEnding (is_one : ℕ → Bool) (old s : Records) (before touched : Touches) : Type 0 where
  pub resources : map (resource_after_rundown is_one) (plain_resources s) ≡ map (resource_after_rundown is_one) (plain_resources old)
  pub processes : processes_but is_one (plain_processes s) ≡ processes_but is_one (plain_processes old)
  pub kept : AreStillNoted before.noted touched.noted
  pub only_touched : OnlyTouched touched.noted old s
  pub same_room : touched.room ≡ before.room
  pub can_end : CanEndProcesses touched s

pub none_ended : (is_one : ℕ → Bool) (s : Records) (touched : Touches) → CanEndProcesses touched s → AreEnding is_one s s touched touched
none_ended is_one s touched can_end = record {
  resources = refl;
  processes = refl;
  kept = λ t there. there;
  only_touched = λ r there untouched. there;
  same_room = refl;
  can_end = can_end;
}

-- ---- one more ends

module _ (goes first : LockState → Bool) (within : (row : LockState) → first row ≡ true → goes row ≡ true) where
  but_both : (rows : List LockState) → rows_left goes (rows_left first rows) ≡ rows_left goes rows
  but_both [] = refl
  but_both (row ∷ rows) = of_test (first row) refl (but_both rows)
    where
      of_test : (b : Bool) → first row ≡ b → rows_left goes (rows_left first rows) ≡ rows_left goes rows
          → rows_left goes (cond (not b) (row ∷ rows_left first rows) (rows_left first rows))
          ≡ cond (not (goes row)) (row ∷ rows_left goes rows) (rows_left goes rows)
      of_test true is rest = rw (within row is) rest
      of_test false is rest = ap (λ (kept : List LockState). cond (not (goes row)) (row ∷ kept) kept) rest

  -- a writer that goes is one of the first or of the others
  writer_of_both : (rows : List LockState) → has_writer_among goes rows ≡ (has_writer_among first rows || has_writer_among goes (rows_left first rows))
  writer_of_both [] = refl
  writer_of_both (row ∷ rows) = of_test (first row) refl (writer_of_both rows)
    where
      of_test : (b : Bool) → first row ≡ b → has_writer_among goes rows ≡ (has_writer_among first rows || has_writer_among goes (rows_left first rows))
          → ((goes row && is_writer row.held) || has_writer_among goes rows)
          ≡ (((b && is_writer row.held) || has_writer_among first rows)
          || has_writer_among goes (cond (not b) (row ∷ rows_left first rows) (rows_left first rows)))
      of_test true is rest =
          rw (within row is, rest) (assoc (is_writer row.held) (has_writer_among first rows) (has_writer_among goes (rows_left first rows)))
      of_test false is rest =
          rw rest (swap (goes row && is_writer row.held) (has_writer_among first rows) (has_writer_among goes (rows_left first rows)))

  resource_of_both : (r : Resource) → resource_left goes true (resource_left first true r) ≡ resource_left goes true r
  unfolding resource_left
  resource_of_both r =
      rw (but_both r.granted, but_both r.converting, but_both r.waiting, writer_of_both r.granted, writer_of_both r.converting)
      (ap (λ (block : ValueBlock). record r {
        value_block = block;
        granted = rows_left goes r.granted;
        converting = rows_left goes r.converting;
        waiting = rows_left goes r.waiting;
      })
      (of_tests (has_writer_among first r.granted) (has_writer_among first r.converting)
      (has_writer_among goes (rows_left first r.granted)) (has_writer_among goes (rows_left first r.converting))))
    where
      invalid : ValueBlock
      invalid = invalid_value_block r.value_block

      of_tests : (a b c d : Bool) → cond (c || d) (invalid_value_block (cond (a || b) invalid r.value_block)) (cond (a || b) invalid r.value_block)
          ≡ cond ((a || c) || (b || d)) invalid r.value_block
      of_tests true true true d = refl
      of_tests true true false true = refl
      of_tests true true false false = refl
      of_tests true false true d = refl
      of_tests true false false true = refl
      of_tests true false false false = refl
      of_tests false true true d = refl
      of_tests false true false true = refl
      of_tests false true false false = refl
      of_tests false false true d = refl
      of_tests false false false true = refl
      of_tests false false false false = refl

  each_of_both : (rs : List Resource) → map (resource_left goes true) (map (resource_left first true) rs) ≡ map (resource_left goes true) rs
  each_of_both [] = refl
  each_of_both (r ∷ rs) =
      let here = resource_of_both r in
      let behind = each_of_both rs in
      cc

module _ (is_one is_first : ℕ → Bool) (within : (pid : ℕ) → is_first pid ≡ true → is_one pid ≡ true) where
  processes_of_both : (ps : List Process) → processes_but is_one (processes_but is_first ps) ≡ processes_but is_one ps
  processes_of_both [] = refl
  processes_of_both (p ∷ ps) = of_test (is_first p.pid) refl (processes_of_both ps)
    where
      of_test : (b : Bool) → is_first p.pid ≡ b
          → processes_but is_one (processes_but is_first ps) ≡ processes_but is_one ps
          → processes_but is_one (cond (not b) (p ∷ processes_but is_first ps) (processes_but is_first ps))
          ≡ cond (not (is_one p.pid)) (p ∷ processes_but is_one ps) (processes_but is_one ps)
      of_test true is rest = rw (within p.pid is) rest
      of_test false is rest = ap (λ (kept : List Process). cond (not (is_one p.pid)) (p ∷ kept) kept) rest

  pub one_more_ends : (old s new : Records) (before touched noted : Touches) → AreEnding is_one old s before touched → AreEnded is_first s new touched noted
      → CanEndProcesses noted new → AreEnding is_one old new before noted
  one_more_ends old s new before touched noted so_far ended can_end = record {
    resources = ap (map (resource_after_rundown is_one)) ended.resources
        ∙ each_of_both (λ row. is_one row.pid) (λ row. is_first row.pid) (λ row. within row.pid) (plain_resources s)
        ∙ so_far.resources;
    processes = ap (processes_but is_one) ended.processes ∙ processes_of_both (plain_processes s) ∙ so_far.processes;
    kept = λ t there. ended.kept t (so_far.kept t there);
    only_touched = λ r there untouched.
        so_far.only_touched r (ended.only_touched r there untouched) (λ among. untouched (noted_still r.at among));
    same_room = ended.same_room ∙ so_far.same_room;
    can_end = can_end;
  }
    where
      noted_still : (handle : ℕ) → IsIn handle (touched_handles touched.noted) → IsIn handle (touched_handles noted.noted)
      noted_still handle among =
          let found = touch_of handle touched.noted among in
          subst (λ h. IsIn h (touched_handles noted.noted)) found.1.1 (handle_among noted.noted found.0 (ended.kept found.0 found.1.0))

-- fewer processes are left
pub fewer_left : (pid : ℕ) (s new : Records) → plain_processes new ≡ processes_but (λ p. p == pid) (plain_processes s)
    → (p : StoredProcess) → IsIn p s.processes → p.process.pid ≡ pid → length new.processes + 1 ≤ length s.processes
fewer_left pid s new left p there its =
    omega (
      arith,
      as_many new.processes,
      as_many s.processes,
      ap (λ (ps : List Process). length ps) left,
      one_out s.processes there,
    )
  where
    as_many : (ps : List StoredProcess) → length (map (λ (x : StoredProcess). x.process) ps) ≡ length ps
    as_many [] = refl
    as_many (x ∷ ps) = omega (arith, as_many ps)

    its_left : List StoredProcess → List Process
    its_left ps = processes_but (λ q. q == pid) (map (λ (x : StoredProcess). x.process) ps)

    no_more : (ps : List StoredProcess) → length (its_left ps) ≤ length ps
    no_more [] = omega arith
    no_more (x ∷ ps) = of_test (x.process.pid == pid) (no_more ps)
      where
        of_test : (b : Bool) → length (its_left ps) ≤ length ps → length (cond (not b) (x.process ∷ its_left ps) (its_left ps)) ≤ length (x ∷ ps)
        of_test true rest = omega (arith, rest)
        of_test false rest = omega (arith, rest)

    one_out : (ps : List StoredProcess) → IsIn p ps → length (its_left ps) + 1 ≤ length ps
    one_out [] none = absurd none
    one_out (x ∷ ps) (inl here) =
        let same : (x.process.pid == pid) ≡ true = eq-eqb x.process.pid pid (ap (λ (y : StoredProcess). y.process.pid) here ∙ its) in
        rw same (omega (arith, no_more ps))
    one_out (x ∷ ps) (inr behind) = of_test (x.process.pid == pid) (one_out ps behind)
      where
        of_test : (b : Bool) → length (its_left ps) + 1 ≤ length ps → length (cond (not b) (x.process ∷ its_left ps) (its_left ps)) + 1 ≤ length (x ∷ ps)
        of_test true rest = omega (arith, rest)
        of_test false rest = omega (arith, rest)

-- ---- none is left

-- where no process of theirs is left, neither is a lock of theirs
pub all_ended : (is_one : ℕ → Bool) (old s : Records) (before touched : Touches) → IsSound s → AreEnding is_one old s before touched
    → ((p : StoredProcess) → IsIn p s.processes → is_one p.process.pid ≡ false) → AreEnded is_one old s before touched
all_ended is_one old s before touched sound so_far none = record {
  resources = sym (none_goes s sound (λ row. is_one row.pid) true none_stored) ∙ so_far.resources;
  processes = sym (none_out s.processes none) ∙ so_far.processes;
  kept = so_far.kept;
  only_touched = so_far.only_touched;
  same_room = so_far.same_room;
}
  where
    none_stored : (at : ℕ) (row : LockState) → Stores s at row → is_one row.pid ≡ false
    none_stored at row stored =
        let owned = sound.owned.owned at row (inl stored) in
        ap is_one (sym owned.2.1) ∙ none owned.0 owned.2.0

    none_out : (ps : List StoredProcess) → ((p : StoredProcess) → IsIn p ps → is_one p.process.pid ≡ false)
        → processes_but is_one (map (λ (x : StoredProcess). x.process) ps) ≡ map (λ (x : StoredProcess). x.process) ps
    none_out [] each = refl
    none_out (x ∷ ps) each = rw (each x (inl refl)) (ap (λ (kept : List Process). x.process ∷ kept) (none_out ps (λ p there. each p (inr there))))

-- ---- the first process that lives

-- the first that lives is a process of the node
pub living_first : (node : ℕ) (result : Option ℕ) (ps : List StoredProcess) → IsFirstLiving node ps result → (pid : ℕ) → result ≡ Some pid
    → (p : StoredProcess) × (IsIn p ps × (p.process.pid ≡ pid) × (is_of_node node pid ≡ true))
living_first node None ps first pid is = absurd (none-some pid is)
living_first node (Some found) ps first pid is =
    let p = first.0.0 in
    let its : p.process.pid ≡ pid = first.0.1.1 ∙ same_Some found pid is in
    (p, (first.0.1.0, its, ap (is_of_node node) (sym its) ∙ second_of (is_node node) (is_of_node node p.process.pid) first.0.1.2))
  where
    second_of : (a b : Bool) → (a && b) ≡ true → b ≡ true
    second_of true b is = is
    second_of false b is = cc

-- where none is first none is of the node
pub none_lives : (node : ℕ) (result : Option ℕ) (ps : List StoredProcess) → 1 ≤ node → node ≤ 8 → IsFirstLiving node ps result → result ≡ None
    → (p : StoredProcess) → IsIn p ps → is_of_node node p.process.pid ≡ false
none_lives node None ps above below none is p there = of_node (is_node node) (is_one_of_eight node above below) (none p there)
  where
    of_node : (b : Bool) → b ≡ true → (b && is_of_node node p.process.pid) ≡ false → is_of_node node p.process.pid ≡ false
    of_node true is_so never = never
    of_node false is_so never = cc

    is_one_of_eight : (n : ℕ) → 1 ≤ n → n ≤ 8 → is_node n ≡ true
    is_one_of_eight n from to = grind (arith, nat_tests, from, to)
none_lives node (Some pid) ps above below first is p there = absurd (none-some pid (sym is))

-- a process that lives is found
pub not_found : (pid : ℕ) (s : Records) (result : Option ℕ) → FindsProcess s pid result → result ≡ None
    → (p : StoredProcess) → IsIn p s.processes → p.process.pid ≡ pid → ⊥
not_found pid s None none is p there its = none p there its
not_found pid s (Some at) found is p there its = absurd (none-some at (sym is))
