use Rattle.std.proofs.Common.{◌≡◌, true, false, sym, ◌∙◌, subst}
use Rattle.std.proofs.lemmas.Bool.{OnFalse_from, OnTrue_from}
use Rattle.vlm_words.specs.declared.resources.Queue.TheVariants.{Granted, Conversion, Waiting}
use Rattle.vlm_queue.proofs.Idle.{IsTold, busy_told, idle_told}
use Rattle.vlm_queue.proofs.queues.is_idle.Goals as goal
use Rattle.vlm_queue.proofs.queues.is_idle.Goals.{then-is_empty, else-is_empty}

pub returns-then-is_empty-2-clause-idle : goal.returns-then-is_empty-2-clause-idle
returns-then-is_empty-2-clause-idle c =
    OnTrue_from c.is_empty-then-is_empty-2.result _ (λ waits. elim c.if-is_empty.branch [
      | then-is_empty w ↦
          idle_told c.args.res c.args.store.now
          (subst (IsTold c.args.res c.args.store.now Granted) w.if-is_empty.true c.is_empty.ensures.empty)
          (subst (IsTold c.args.res c.args.store.now Conversion) (sym w.value-is ∙ c.if-is_empty-2.true) w.is_empty-then-is_empty.ensures.empty)
          (subst (IsTold c.args.res c.args.store.now Waiting) waits c.is_empty-then-is_empty-2.ensures.empty)
      | else-is_empty w ↦ (let no : false ≡ true = sym w.if-is_empty.false ∙ sym w.value-is ∙ c.if-is_empty-2.true in cc)
    ])

pub returns-then-is_empty-2-clause-busy : goal.returns-then-is_empty-2-clause-busy
returns-then-is_empty-2-clause-busy c =
    OnFalse_from c.is_empty-then-is_empty-2.result _ (λ filled. busy_told c.args.res c.args.store.now Waiting c.requires
    (subst (IsTold c.args.res c.args.store.now Waiting) filled c.is_empty-then-is_empty-2.ensures.empty))

pub returns-else-is_empty-2-clause-busy : goal.returns-else-is_empty-2-clause-busy
returns-else-is_empty-2-clause-busy c =
    OnFalse_from c.if-is_empty.value _ (λ filled. elim c.if-is_empty.branch [
      | then-is_empty w ↦
          busy_told c.args.res c.args.store.now Conversion c.requires
          (subst (IsTold c.args.res c.args.store.now Conversion) (sym w.value-is ∙ filled) w.is_empty-then-is_empty.ensures.empty)
      | else-is_empty w ↦
          busy_told c.args.res c.args.store.now Granted c.requires
          (subst (IsTold c.args.res c.args.store.now Granted) w.if-is_empty.false c.is_empty.ensures.empty)
    ])
