use Rattle.std.proofs.Common.{◌≡◌, Some, refl, sym, ap, ◌∙◌, subst}
use Rattle.vlm_words.specs.declared.locks.Request.{Request}
use Rattle.vlm_words.specs.declared.locks.LockState.{LockState}
use Rattle.vlm_model.specs.Enqueue.{enq_request, enq_row}
use Rattle.vlm_store.specs.Records.{IsParentOf}
use Rattle.vlm_machine.specs.Admissions.{IsChecked}
use Rattle.vlm_machine.specs.Machine.{MachineState, kept, plain_state}
use Rattle.vlm_machine.proofs.records.Machine.new_lock.Goals as goal

pub returns : goal.returns
returns c =
    let e = c.args.request.now in
    let m = kept c.self.inside in
    let checked = c.args.checked.now in
    let is = subst (λ (k : MachineState). IsChecked k e checked) (sym c.self.view_is) c.requires.checked in
    let request : Request = record (enq_request (plain_state m) e) { flags = checked.flags } in
    let asked : request ≡ enq_request (plain_state m) e =
    ap (λ bits. record (enq_request (plain_state m) e) { flags = record { 0 = bits } }) is.flags in
    let row : record (enq_row (plain_state m) e) { parent = checked.parent_lkid; want = Some request } ≡ enq_row (plain_state m) e =
    ap (λ lkid. record (enq_row (plain_state m) e) { parent = lkid; want = Some request }) is.parent_lkid
    ∙ ap (λ q. record (enq_row (plain_state m) e) { want = Some q }) asked in
    rw (← c.self.view_is)
    (record {
      entered = record {
        row = row;
        owner = is.owner;
        parent = subst (λ (r : LockState). IsParentOf checked.parent r c.self.inside.store) (sym row) is.parent;
        site = is.site;
        keyed = is.keyed;
        hash = is.hash;
        serial = refl;
        found = is.found;
        at_once = is.at_once;
      };
      lkid = is.lkid;
      number = is.number;
    })
