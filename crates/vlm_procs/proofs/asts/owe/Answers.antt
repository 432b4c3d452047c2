use Rattle.std.proofs.Common.{◌≡◌, ◌+◌, ℕ, refl, subst, sym}
use Rattle.std.proofs.lemmas.Result.{on_ok_weaker}
use Rattle.vlm_store.specs.Plain.{plain_processes}
use Rattle.vlm_store.specs.Records.{DueChanges, IsProcess, Records, SameButNotices, on_stored, owed_more}
use Rattle.vlm_procs.proofs.WrittenProcesses.{notices_alone, owed_changes, plain_stay}
use Rattle.vlm_procs.proofs.asts.owe.Goals as goal

pub returns-clause-processes : goal.returns-clause-processes
returns-clause-processes c =
    let s = c.args.store.now in
    on_ok_weaker c.owe.result
    (λ (is : c.owe.new.self ≡ record s {
      processes =
          on_stored c.args.at (owed_more c.args.count) s.processes;
    }). let P : Records
    → Type 0 = λ t. plain_processes t ≡ plain_processes s in
    subst P (sym is) (plain_stay s c.args.at (owed_more c.args.count) (λ p. refl)))
    c.owe.ensures.owed

pub returns-clause-owed : goal.returns-clause-owed
returns-clause-owed c =
    let s = c.args.store.now in
    on_ok_weaker c.owe.result
    (λ (is : c.owe.new.self ≡ record s {
      processes =
          on_stored c.args.at (owed_more c.args.count) s.processes;
    }). let P : Records → Type 0 = λ t. (pid : ℕ)
    → IsProcess c.args.at pid s → DueChanges pid (λ due. due + c.args.count) s t in
    subst P (sym is) (λ pid is_it. owed_changes (owed_more c.args.count) (λ due. due + c.args.count) (λ x. refl)
    (λ x. refl) s c.args.at pid c.owe.ensures.sound is_it))
    c.owe.ensures.owed

pub returns-clause-only_notices : goal.returns-clause-only_notices
returns-clause-only_notices c =
    let s = c.args.store.now in
    on_ok_weaker c.owe.result
    (λ (is : c.owe.new.self ≡ record s { processes = on_stored c.args.at (owed_more c.args.count) s.processes }). subst
    (SameButNotices s) (sym is) (notices_alone s c.args.at (owed_more c.args.count) (λ p. refl)))
    c.owe.ensures.owed
