-- A process after a write by its handle: its status blocks, its ASTs, and how many are reserved.
use Rattle.std.proofs.Common.{◌≡◌, ◌-◌, ℕ, Bool, true, false, cond, get_or, List, [], ◌∷◌, map, Option, None, Some}
use Rattle.std.proofs.Common.{refl, sym, ap, subst, ◌∙◌, inl, inr, eq-eqb, ne_eqb}
use Rattle.std.specs.Prelude.{nat_lt, slice_get, unwrap_or}
use Rattle.std.proofs.lemmas.Bool.{cases_eq}
use Rattle.std.proofs.lemmas.Option.{unwrap_or-slice_get}
use Rattle.std.specs.Option.{IfSome, option_map_or}
use Rattle.vlm_words.specs.declared.asts.Ast.{Ast}
use Rattle.vlm_words.specs.declared.blocks.Block.{Block}
use Rattle.vlm_model.specs.Asts.{asts_of, process_after_queueing, process_after_take, processes_after_queueing, processes_after_take}
use Rattle.vlm_words.specs.Processes.{oldest, with_ast, without_oldest_ast, new_status_block, process_with_block}
use Rattle.vlm_words.specs.State.{Process}
use Rattle.vlm_model.specs.StatusBlocks.{process_after_write, processes_after_write, status_block_at, status_block_of, status_blocks_of}
use Rattle.vlm_collections.specs.Lists.{IsIn}
use Rattle.vlm_records.specs.StatusBlocks.{block_or_new as stored_block, with_changed_block}
use Rattle.vlm_store.specs.Plain.{plain_processes}
use Rattle.vlm_store.specs.Records.{DueChanges, IsProcess, IsSound, Records, SameButNotices, StoredProcess, but_notices}
use Rattle.vlm_store.specs.Records.{changed_process, on_process, on_stored, process_at, with_owed_ast}
use Rattle.vlm_store.proofs.PlainProcesses.{plain-on_stored, process_at-stored, process_of-stored, shown-on_stored}
use Rattle.vlm_store.proofs.Dues.{due-on_stored}

-- the status blocks of the process at the handle
pub blocks_are : (s : Records) (at pid : ℕ) (blocks : List Block) → IsSound s → IsProcess at pid s
    → IfSome (process_at at s.processes) (λ p. blocks ≡ p.process.blocks)
    → blocks ≡ status_blocks_of (plain_processes s) pid
blocks_are s at pid blocks sound is read =
    let found : process_at at s.processes ≡ Some is.0 = ap (λ x. process_at x s.processes) (sym is.1.1)
    ∙ process_at-stored is.0 s.processes sound.processes_apart is.1.0 in
    let told = rw found at read in
    let named = ap (λ o. option_map_or (λ (p : Process). p.blocks) o []) (process_of-stored is.0 s.processes sound.processes_apart is.1.0) in
    told ∙ sym named ∙ ap (λ x. status_blocks_of (plain_processes s) x) is.1.2

-- a status block that is read, or a new one where the process does not have it
pub block_or_new : (read : Option Block) (processes : List Process) (pid n : ℕ) → read ≡ status_block_at processes pid n
    → unwrap_or read new_status_block ≡ status_block_of processes pid n
unfolding status_block_at
block_or_new read processes pid n is = ap (λ (o : Option Block). unwrap_or o new_status_block) is ∙ of_number (nat_lt 0 n)
  where
    blocks : List Block
    blocks = status_blocks_of processes pid

    of_number : (named : Bool)
        → unwrap_or (cond named (slice_get blocks (n - 1)) None) new_status_block ≡ cond named
        (get_or blocks (n - 1) new_status_block) new_status_block
    of_number true = unwrap_or-slice_get blocks (n - 1) new_status_block
    of_number false = refl

-- the ASTs of the process at the handle
pub asts_are : (s : Records) (at pid : ℕ) (asts : List Ast) → IsSound s → IsProcess at pid s → IfSome (process_at at s.processes) (λ p. asts ≡ p.process.asts)
    → asts ≡ asts_of (plain_processes s) pid
asts_are s at pid asts sound is read =
    let found : process_at at s.processes ≡ Some is.0 = ap (λ x. process_at x s.processes) (sym is.1.1)
    ∙ process_at-stored is.0 s.processes sound.processes_apart is.1.0 in
    let told = rw found at read in
    let named = ap (λ o. option_map_or (λ (p : Process). p.asts) o []) (process_of-stored is.0 s.processes sound.processes_apart is.1.0) in
    told ∙ sym named ∙ ap (λ x. asts_of (plain_processes s) x) is.1.2

-- what is taken is the oldest of them
pub oldest_is : (s : Records) (at pid : ℕ) (taken : Option Ast) → IsSound s → IsProcess at pid s
    → IfSome (process_at at s.processes) (λ p. taken ≡ oldest p.process.asts)
    → taken ≡ oldest (asts_of (plain_processes s) pid)
oldest_is s at pid taken sound is read =
    let found : process_at at s.processes ≡ Some is.0 = ap (λ x. process_at x s.processes) (sym is.1.1)
    ∙ process_at-stored is.0 s.processes sound.processes_apart is.1.0 in
    (rw found at read) ∙ ap oldest (asts_are s at pid is.0.process.asts sound is (rw found refl))

-- and the others are left
pub others_left : (s : Records) (at pid : ℕ) → IsSound s → IsProcess at pid s
    → map (λ (p : StoredProcess). p.process) (on_process at without_oldest_ast s.processes) ≡ processes_after_take pid (plain_processes s)
unfolding process_after_take
others_left s at pid sound is =
    ap (λ x. map (λ (p : StoredProcess). p.process) (on_process x without_oldest_ast s.processes)) (sym is.1.1)
    ∙ plain-on_stored is.0 (changed_process without_oldest_ast) without_oldest_ast (λ x. refl) s.processes sound.processes_apart is.1.0
    ∙ ap (λ x. processes_after_take x (plain_processes s)) is.1.2

-- the write of a status block
pub written_blocks : (s : Records) (at pid n : ℕ) (block : Block) → IsSound s → IsProcess at pid s
    → map (λ (p : StoredProcess). p.process) (on_process at (process_with_block n block) s.processes) ≡ processes_after_write pid n block (plain_processes s)
unfolding process_after_write
written_blocks s at pid n block sound is =
    ap (λ x. map (λ (p : StoredProcess). p.process) (on_process x (process_with_block n block) s.processes)) (sym is.1.1)
    ∙ plain-on_stored is.0 (changed_process (process_with_block n block)) (process_with_block n block) (λ x. refl) s.processes sound.processes_apart is.1.0
    ∙ ap (λ x. processes_after_write x n block (plain_processes s)) is.1.2

-- two changes of the process at the handle that make the same of it
same_change : (at : ℕ) (one other : StoredProcess → StoredProcess) (ps : List StoredProcess) → ((x : StoredProcess) → IsIn x ps → x.at ≡ at → one x ≡ other x)
    → on_stored at one ps ≡ on_stored at other ps
same_change at one other [] same = refl
same_change at one other (x ∷ ps) same =
    let rest = same_change at one other ps (λ y there. same y (inr there)) in
    elim (cases_eq x.at at) [
      | inl is ↦ rw (eq-eqb x.at at is) (ap (λ y. y ∷ on_stored at one ps) (same x (inl refl) is) ∙ ap (λ ys. other x ∷ ys) rest)
      | inr differs ↦ rw (ne_eqb x.at at differs) (ap (λ ys. x ∷ ys) rest)
    ]

-- the change of a status block in its place
pub changed_block : (s : Records) (at pid n : ℕ) (change : Block → Block) → IsSound s → IsProcess at pid s
    → map (λ (p : StoredProcess). p.process) (on_process at (with_changed_block n change) s.processes)
    ≡ processes_after_write pid n (change (status_block_of (plain_processes s) pid n)) (plain_processes s)
changed_block s at pid n change sound is =
    ap (λ ps. map (λ (p : StoredProcess). p.process) ps)
    (same_change at (changed_process (with_changed_block n change))
    (changed_process (process_with_block n changed)) s.processes alike)
    ∙ written_blocks s at pid n changed sound is
    ∙ ap (λ blocks. processes_after_write pid n (change (stored_block n blocks)) (plain_processes s))
    (blocks_are s at pid is.0.process.blocks sound is (rw found refl))
  where
    changed : Block
    changed = change (stored_block n is.0.process.blocks)

    found : process_at at s.processes ≡ Some is.0
    found = ap (λ x. process_at x s.processes) (sym is.1.1) ∙ process_at-stored is.0 s.processes sound.processes_apart is.1.0

    alike : (x : StoredProcess) → IsIn x s.processes → x.at ≡ at
        → changed_process (with_changed_block n change) x ≡ changed_process (process_with_block n changed) x
    alike x there here =
        let one : Some x ≡ Some is.0 = sym (process_at-stored x s.processes sound.processes_apart there) ∙ ap (λ y. process_at y s.processes) here ∙ found in
        let it : x ≡ is.0 = cc in
        subst (λ y. changed_process (with_changed_block n change) y ≡ changed_process (process_with_block n changed) y) (sym it) refl

-- ---- what a process is owed

-- a change of what the process at the handle is owed
pub owed_changes : (change : StoredProcess → StoredProcess) (due : ℕ → ℕ)
    → ((x : StoredProcess) → (change x).process.pid ≡ x.process.pid)
    → ((x : StoredProcess) → (change x).due ≡ due x.due)
    → (s : Records) (at pid : ℕ) → IsSound s → IsProcess at pid s → DueChanges pid due s (record s { processes = on_stored at change s.processes })
owed_changes change due named changes s at pid sound is =
    subst (λ x. DueChanges x due s (record s { processes = on_stored at change s.processes })) is.1.2
    (due-on_stored at change named due changes is.0 is.1.1 s sound.processes_apart is.1.0)

-- an AST that is queued by the handle of its process
pub queued_ast : (s : Records) (at pid : ℕ) (ast : Ast) → IsSound s → IsProcess at pid s
    → map (λ (p : StoredProcess). p.process) (on_stored at (with_owed_ast ast) s.processes) ≡ processes_after_queueing pid ast (plain_processes s)
unfolding process_after_queueing
queued_ast s at pid ast sound is =
    ap (λ x. map (λ (p : StoredProcess). p.process) (on_stored x (with_owed_ast ast) s.processes)) (sym is.1.1)
    ∙ plain-on_stored is.0 (with_owed_ast ast) (with_ast ast) (λ x. refl) s.processes sound.processes_apart is.1.0
    ∙ ap (λ x. processes_after_queueing x ast (plain_processes s)) is.1.2

-- a change of notices alone
pub notices_alone : (s : Records) (at : ℕ) (change : StoredProcess → StoredProcess) → ((p : StoredProcess) → but_notices (change p) ≡ but_notices p)
    → SameButNotices s (record s { processes = on_stored at change s.processes })
notices_alone s at change same = record {
  resources = refl;
  room = refl;
  keys = refl;
  processes = shown-on_stored but_notices at change same s.processes;
}

-- a change that the plain machine does not see
pub plain_stay : (s : Records) (at : ℕ) (change : StoredProcess → StoredProcess) → ((p : StoredProcess) → (change p).process ≡ p.process)
    → plain_processes (record s { processes = on_stored at change s.processes }) ≡ plain_processes s
plain_stay s at change same = shown-on_stored (λ (p : StoredProcess). p.process) at change same s.processes
