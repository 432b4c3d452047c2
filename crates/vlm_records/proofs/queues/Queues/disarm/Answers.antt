use Rattle.std.proofs.Common.{◌∙◌, None, Some, ap, rules}
use Rattle.vlm_words.specs.declared.locks.LockState.{LockState}
use Rattle.vlm_records.specs.Shown.{rows}
use Rattle.vlm_records.proofs.Arming.{armed_but_one, armed_lists, disarmed_granted, out_unlisted, unarmed_unlisted}
use Rattle.vlm_records.proofs.queues.Queues.disarm.Goals as goal

pub returns-clause-handles : goal.returns-clause-handles
returns-clause-handles c p = c.rewrite.ensures.handles p ∙ c.leave_armed.ensures.places.handles p

pub returns-clause-laid_out : goal.returns-clause-laid_out
returns-clause-laid_out c = record {
  placed = c.rewrite.ensures.placed;
  tallied = c.rewrite.ensures.tallied;
  armed = λ which.
      let q1 = c.leave_armed.new.self in
      let q2 = c.rewrite.new.self in
      let rewrites = c.rewrite.ensures in
      armed_but_one which q1 q2 (Some c.args.at) None c.args.at (c.leave_armed.ensures.armed which)
      (out_unlisted which q1 c.args.at (c.leave_armed.ensures.armed which))
      (armed_lists which q1.resources q2.resources rewrites.kept.rest) (λ k _. rewrites.kept.kin k)
      (disarmed_granted which q1 q2 c.args.at rewrites.rows rewrites.handles
      (unarmed_unlisted which (rows q2 c.args.at) (ap (λ (r : LockState). r.armed) (rewrites.row ∙ c.disarmed-row.ensures))));
}

pub returns-clause-kept : goal.returns-clause-kept
returns-clause-kept c = record {
  kin = search rules;
  rest = search rules;
  locks_room = c.rewrite.ensures.kept.locks_room ∙ c.leave_armed.ensures.places.records.locks_room;
  resources_room = c.rewrite.ensures.kept.resources_room ∙ c.leave_armed.ensures.places.records.resources_room;
}
