use Rattle.std.proofs.Common.{◌∙◌, Some, None, ap, refl, subst, sym}
use Rattle.vlm_model.specs.Deadlocks.{IsDeadlocked}
use Rattle.vlm_records.specs.NodeMarks.{is_marked}
use Rattle.vlm_cycle.specs.declared.scratch.Scratch.{Scratch}
use Rattle.vlm_cycle.specs.Marking.{TakesNext}
use Rattle.vlm_cycle.specs.Waiting.{searched}
use Rattle.vlm_cycle.proofs.MarksOneByOne.{roomy_still}
use Rattle.vlm_cycle.proofs.Searched.{IsSearched, led_back, less_to_go, none_left, not_found, searched_begun, searched_on}
use Rattle.vlm_cycle.proofs.deadlocks.is_deadlocked.Goals as goal

pub loop-pid-init : goal.loop-pid-init
loop-pid-init c = (
  searched_begun c.args.store.now c.requires.located.sound c.args.waiting.now c.requires.located c.clear.new.self
      c.find_waited_for.new.scratch c.clear.ensures.clear c.find_waited_for.ensures
      (roomy_still c.args.store.now c.clear.new.self c.find_waited_for.new.scratch c.find_waited_for.ensures.room
      (roomy_still c.args.store.now c.args.scratch.now c.clear.new.self c.clear.ensures.room c.requires.roomy)),
  λ pid room. room,
  refl,
)

-- one process less to go to
pub loop-pid-smaller : goal.loop-pid-smaller
loop-pid-smaller c =
    less_to_go c.args.store.now c.requires.located.sound c.args.waiting.now c.loop-pid.scratch c.take.new.self
    c.find_behind.new.scratch c.in-Some.pid c.loop-pid.invariant.0
    (subst (λ o. TakesNext o c.loop-pid.scratch c.take.new.self) c.in-Some.is c.take.ensures) c.find_behind.ensures

pub loop-pid-preserved : goal.loop-pid-preserved
loop-pid-preserved c =
    let taken : TakesNext (Some c.in-Some.pid) c.loop-pid.scratch c.take.new.self =
    subst (λ o. TakesNext o c.loop-pid.scratch c.take.new.self) c.in-Some.is c.take.ensures in (
      searched_on c.args.store.now c.requires.located.sound c.args.waiting.now c.loop-pid.scratch c.take.new.self
          c.find_behind.new.scratch c.in-Some.pid c.loop-pid.invariant.0 taken c.find_behind.ensures,
      λ pid room. c.find_behind.ensures.room pid (taken.4 pid (c.loop-pid.invariant.1 pid room)),
      c.find_behind.ensures.ranks ∙ taken.5 ∙ c.loop-pid.invariant.2,
    )

-- whoever is led to is found
pub returns-clause-no : goal.returns-clause-no
returns-clause-no c =
    let s = c.args.store.now in
    let row = c.args.waiting.now.row in
    let none : TakesNext None c.loop-pid.scratch c.take.new.self =
    subst (λ o. TakesNext o c.loop-pid.scratch c.take.new.self) c.in_default.is c.take.ensures in
    not_found (IsDeadlocked (searched s) row) c.has-2.result (is_marked c.take.new.self.seen row.pid) (rw c.pid-2.ensures at c.has-2.ensures)
    (λ dead. ap (λ (m : Scratch). is_marked m.seen row.pid) none.0
    ∙ none_left s c.requires.located.sound c.args.waiting.now c.requires.located c.loop-pid.scratch
    c.loop-pid.invariant.0 none.1 dead)

-- the search has come back to where it began
pub returns-then-has-clause-yes : goal.returns-then-has-clause-yes
returns-then-has-clause-yes c =
    let s = c.args.store.now in
    let row = c.args.waiting.now.row in
    let taken : TakesNext (Some c.in-Some.pid) c.loop-pid.scratch c.take.new.self =
    subst (λ o. TakesNext o c.loop-pid.scratch c.take.new.self) c.in-Some.is c.take.ensures in
    let on : IsSearched s c.args.waiting.now c.find_behind.new.scratch =
    searched_on s c.requires.located.sound c.args.waiting.now c.loop-pid.scratch c.take.new.self
    c.find_behind.new.scratch c.in-Some.pid c.loop-pid.invariant.0 taken c.find_behind.ensures in
    led_back s row (on.led row.pid (sym (rw c.pid.ensures at c.has.ensures) ∙ c.if-has.true))
