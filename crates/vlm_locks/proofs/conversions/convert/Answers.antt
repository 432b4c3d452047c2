use Rattle.std.proofs.Common.{◌≡◌, IfSome, Some, sym, ap, ◌∙◌, subst, rules}
use Rattle.vlm_model.specs.Convert.{converts_at_once}
use Rattle.vlm_words.specs.Dues.{routines_of}
use Rattle.vlm_model.specs.StatusBlocks.{processes_after_acceptance}
use Rattle.vlm_store.specs.Plain.{plain_resource}
use Rattle.vlm_store.specs.Records.{resource_at, without_resource}
use Rattle.vlm_locks.proofs.ChangedResource.{rests_still}
use Rattle.vlm_locks.proofs.AcceptedRequests.{converted_accepted, stands_accepted}
use Rattle.vlm_locks.proofs.FoundByHandle.{process_there}
use Rattle.vlm_locks.proofs.OtherLocks.{locks_stay_over, statuses_alone}
use Rattle.vlm_locks.proofs.ReservedByRequests.{owes_more}
use Rattle.vlm_locks.proofs.conversions.convert.Goals as goal

pub owe_routines-requires : goal.owe_routines-requires
owe_routines-requires c =
    let s = c.args.store.now in
    let f = c.args.located.now in
    process_there s c.args.located.now.owner f.row.pid
    c.requires.located.owner

pub convert_owed-requires-clause-rest : goal.convert_owed-requires-clause-rest
convert_owed-requires-clause-rest c =
    rests_still c.args.store.now c.owe_routines.new.store
    c.in_ok-owe_routines.ensures.only_notices c.requires.rest

pub convert_owed-requires-clause-located : goal.convert_owed-requires-clause-located
convert_owed-requires-clause-located c =
    stands_accepted c.args.located.now c.args.store.now c.owe_routines.new.store
    c.in_ok-owe_routines.ensures.only_notices c.requires.located

pub convert_owed-requires-clause-at_once : goal.convert_owed-requires-clause-at_once
convert_owed-requires-clause-at_once c =
    subst (λ rs. IfSome (resource_at c.args.located.now.res rs)
    (λ r. c.args.at_once ≡ converts_at_once c.args.asked.now c.args.located.now.row.lkid (plain_resource r)))
    (sym c.in_ok-owe_routines.ensures.only_notices.resources) c.requires.at_once

pub convert_owed-requires-clause-owed : goal.convert_owed-requires-clause-owed
convert_owed-requires-clause-owed c =
    let f = c.args.located.now in
    owes_more f.row.pid (routines_of (Some c.args.asked.now)) c.args.store.now c.owe_routines.new.store c.requires.paid
    (c.in_ok-owe_routines.ensures.owed f.row.pid c.requires.located.owner)
    c.in_ok-owe_routines.ensures.only_notices

pub returns-clause-done : goal.returns-clause-done
returns-clause-done c = record {
  converted =
      let f = c.args.located.now in
      converted_accepted f c.args.asked.now c.args.store.now c.owe_routines.new.store c.convert_owed.new.store c.in_ok-owe_routines.ensures.only_notices
      (ap (processes_after_acceptance f.row.pid c.args.asked.now.block f.row.lkid) c.in_ok-owe_routines.ensures.processes)
      c.convert_owed.ensures.converted;
  beside =
      let s = c.args.store.now in
      let f = c.args.located.now in
      let beside = c.convert_owed.ensures.beside in
      let same = c.in_ok-owe_routines.ensures.only_notices in
      record {
        others = beside.others ∙ ap (without_resource f.res) same.resources;
        locks = locks_stay_over f.lock s c.owe_routines.new.store c.convert_owed.new.store (statuses_alone f.lock s c.owe_routines.new.store same) beside.locks;
        there = beside.there;
        rest = beside.rest;
      };
  own_locks =
      c.convert_owed.ensures.own_locks
      ∙ c.in_ok-owe_routines.ensures.only_notices.processes;
  paid = search rules;
}
