use Rattle.vlm_store.specs.Plain.{plain_resource}
use Rattle.vlm_store.specs.Records.{IsSameLock, StoredResource}
use Rattle.std.proofs.Common.{◌≡◌, IfSome, refl, sym, ◌∙◌, subst, rules}
use Rattle.vlm_words.specs.declared.resources.Queue.TheVariants.{Conversion, Granted}
use Rattle.vlm_words.specs.declared.locks.LockState.{LockState}
use Rattle.vlm_model.specs.Convert.{converts_at_once}
use Rattle.vlm_words.specs.Rows.{granted_row}
use Rattle.vlm_locks.specs.Converting.{IsConverted, IsConvertedAtOnce, blocks_granted, moved_in, processes_converting}
use Rattle.vlm_locks.specs.Rest.{IsReplaced}
use Rattle.vlm_locks.proofs.Converted.{converted_later, converted_now}
use Rattle.vlm_locks.proofs.MovedToEnd.{none_joins_by_moving}
use Rattle.vlm_locks.proofs.GrantsKeepResources.{none_joins_under_block}
use Rattle.vlm_locks.proofs.ReplacedResource.{others_stay, rests, still_there}
use Rattle.vlm_locks.proofs.ReservedByRequests.{paid_at_once, paid_later, wanting_fits}
use Rattle.vlm_locks.proofs.QueuedLocks.{stored}
use Rattle.vlm_locks.proofs.conversions.convert_owed.Goals as goal

pub returns-then-at_once : goal.returns-then-at_once
returns-then-at_once c = record {
  converted =
      let s = c.args.store.now in
      let f = c.args.located.now in
      let located = c.requires.located in
      let asked = c.args.asked.now in
      let new = c.convert_now.new.store in
      let done = subst (λ (row : LockState). IsConvertedAtOnce f row (processes_converting f asked s) located.resource s new) c.wanting-row.ensures
      (subst (λ o. IfSome o
      (λ r. IsConvertedAtOnce f c.wanting-row.result
      (processes_converting f asked s) r s new)) located.found c.convert_now.ensures.granted) in
      let at_once = subst (λ o. IfSome o (λ r. c.args.at_once ≡ converts_at_once asked f.row.lkid (plain_resource r))) located.found c.requires.at_once in
      subst (λ o. IfSome o (λ r. IsConverted f asked (processes_converting f asked s) r s new)) (sym located.found)
      (converted_now s c.requires.located.sound f located asked (processes_converting f asked s) new c.requires.granted (sym at_once ∙ c.if-at_once.true) done);
  beside =
      let s = c.args.store.now in
      let f = c.args.located.now in
      let located = c.requires.located in
      let asked = c.args.asked.now in
      let row = granted_row c.wanting-row.result in
      let moved = moved_in f row Granted located.resource in
      let block = (blocks_granted c.wanting-row.result located.resource (processes_converting f asked s)).value_block in
      let left : StoredResource = record moved { value_block = block } in
      let new = c.convert_now.new.store in
      let replaced = (subst
      (λ o. IfSome o (λ r. IsConvertedAtOnce f c.wanting-row.result
      (processes_converting f asked s) r s new)) located.found c.convert_now.ensures.granted).replaced in
      let same = subst (λ (r : LockState). IsSameLock f.row (granted_row r)) (sym c.wanting-row.ensures) (record { lkid = refl; pid = refl; parent = refl }) in
      record {
        others = others_stay f.res located.resource left s new replaced;
        locks = c.convert_now.ensures.locks;
        there = still_there f.res located.resource left s new replaced;
        rest = rests f.res located.resource left s new replaced
            (none_joins_under_block located.resource moved block
            (none_joins_by_moving s f located row Granted same)) c.convert_now.ensures.sound c.requires.rest;
      };
  own_locks = search rules;
  paid =
      paid_at_once c.args.located.now.row c.args.asked.now c.requires.wants_nothing c.wanting-row.result c.wanting-row.ensures c.args.store.now c.requires.owed
      c.convert_now.new.store c.convert_now.ensures.due c.convert_now.ensures.owed;
}

pub returns-else-at_once : goal.returns-else-at_once
returns-else-at_once c = record {
  converted =
      let s = c.args.store.now in
      let f = c.args.located.now in
      let located = c.requires.located in
      let asked = c.args.asked.now in
      let new = c.convert_later.new.store in
      let done = subst (λ (row : LockState). IsReplaced f.res located.resource (moved_in f row Conversion located.resource) s new) c.wanting-row.ensures
      (subst (λ o. IfSome o (λ r. IsReplaced f.res r (moved_in f c.wanting-row.result Conversion r) s new)) located.found c.convert_later.ensures.replaced) in
      let at_once = subst (λ o. IfSome o (λ r. c.args.at_once ≡ converts_at_once asked f.row.lkid (plain_resource r))) located.found c.requires.at_once in
      subst (λ o. IfSome o (λ r. IsConverted f asked (processes_converting f asked s) r s new)) (sym located.found)
      (converted_later s c.requires.located.sound f located asked
      (processes_converting f asked s) new c.requires.granted (sym at_once
      ∙ c.if-at_once.false) done c.convert_later.ensures.statuses);
  beside =
      let s = c.args.store.now in
      let f = c.args.located.now in
      let located = c.requires.located in
      let row = c.wanting-row.result in
      let left = moved_in f row Conversion located.resource in
      let new = c.convert_later.new.store in
      let replaced = subst (λ o. IfSome o (λ r. IsReplaced f.res r (moved_in f row Conversion r) s new)) located.found c.convert_later.ensures.replaced in
      let same = subst (IsSameLock f.row) (sym c.wanting-row.ensures) (record { lkid = refl; pid = refl; parent = refl }) in
      record {
        others = others_stay f.res located.resource left s new replaced;
        locks = c.convert_later.ensures.locks;
        there = still_there f.res located.resource left s new replaced;
        rest = rests f.res located.resource left s new replaced
            (none_joins_by_moving s f located row Conversion same) c.convert_later.ensures.sound c.requires.rest;
      };
  own_locks = search rules;
  paid =
      paid_later c.args.located.now.row c.args.asked.now c.requires.wants_nothing c.wanting-row.result c.wanting-row.ensures c.args.store.now c.requires.owed
      c.convert_later.new.store c.convert_later.ensures.due c.convert_later.ensures.dues;
}

pub convert_now-requires-clause-owed : goal.convert_now-requires-clause-owed
convert_now-requires-clause-owed c =
    let f = c.args.located.now in
    wanting_fits f.row c.args.asked.now c.requires.wants_nothing c.wanting-row.result c.wanting-row.ensures c.args.store.now c.requires.owed
    c.requires.located.sound f.lock (stored c.args.store.now f c.requires.located)
