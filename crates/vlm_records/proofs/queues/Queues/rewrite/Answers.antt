use Rattle.std.proofs.Common.{◌≡◌, ◌≢◌, ◌∙◌, ℕ, None, Some, ap, rules, subst, sym}
use Rattle.slab.specs.Slab.{get}
use Rattle.vlm_records.specs.declared.handles.Place.{Place}
use Rattle.vlm_records.specs.Kept.{Recounts}
use Rattle.vlm_records.specs.Shown.{handles_at, noted, noted_in, room_in, row_in, rows}
use Rattle.vlm_records.proofs.Counting.{recounted}
use Rattle.vlm_records.proofs.PlacesOnLists.{counted_handles, counted_placed, noted_written, written_handles, written_placed}
use Rattle.vlm_records.proofs.queues.Queues.rewrite.Goals as goal

pub returns : goal.returns
returns c =
    let q = c.args.self.now in
    let q1 = c.recount.new.self in
    let q2 = c.write_row.new.self in
    let counts = c.recount.ensures.counts in
    let writes = c.write_row.ensures in
    let placed1 = counted_placed q q1 None c.requires.placed counts.rest counts.locks in
    let placed2 = written_placed q1 q2 None placed1 writes.rest writes.lock.resources in
    let handles2 : (p : Place)
    → handles_at q2 p ≡ handles_at q p = λ p. written_handles q1 q2 None placed1 writes.rest writes.lock.resources p
    ∙ counted_handles q q1 None c.requires.placed counts.rest counts.locks p in
    let rows2 : (k : ℕ) → k ≢ c.args.at → rows q2 k ≡ rows q k = λ k differs. ap row_in (writes.lock.others k differs)
    ∙ ap (λ s. row_in (get s k)) counts.locks in
    let notes2 = noted_written q1.locks q2.locks writes.rest c.args.at ∙ ap (λ s. noted_in (get s c.args.at)) counts.locks in
    let recounts : (place : Place) → noted q c.args.at ≡ Some place → Recounts place (rows q c.args.at) c.args.row.now q.resources q2.resources = λ place is.
    subst (λ s. Recounts place (rows q c.args.at) c.args.row.now q.resources s) (sym writes.lock.resources) (c.recount.ensures.change place is) in
    record {
      placed = placed2;
      tallied = recounted q q2 c.args.at c.args.row.now c.requires.placed placed2 c.requires.in_queue handles2 rows2
          writes.here notes2 recounts c.requires.tallied;
      handles = handles2;
      row = writes.here;
      rows = rows2;
      kept = record {
        kin = search rules;
        rest = search rules;
        locks_room = writes.lock.locks_room ∙ ap room_in counts.locks;
        resources_room = ap room_in writes.lock.resources ∙ counts.resources_room;
      };
    }
