use Rattle.vlm_records.proofs.Rooms.{room_relinked, room_given_back}
use Rattle.std.proofs.Common.{◌∙◌, refl, subst, ap, ◌+◌, ℕ}
use Rattle.vlm_collections.specs.Lists.{IsIn}
use Rattle.vlm_collections.proofs.Keeping.{updated-handles, updated-linked}
use Rattle.vlm_collections.proofs.HandleLists.{IsIn-without}
use Rattle.vlm_records.specs.Kin.{process_links, with_process_links}
use Rattle.vlm_records.proofs.processes.take_out.Goals as goal

pub returns-clause-linked : goal.returns-clause-linked
returns-clause-linked c =
    updated-linked process_links c.unlink.new.nodes c.remove.new.self c.args.at _ c.remove.ensures.updates c.unlink.new.self c.unlink.ensures.linked
    (λ found. (IsIn-without c.args.at c.args.at _ (subst (IsIn c.args.at) c.unlink.ensures.handles found)).1 refl)

pub returns-clause-order : goal.returns-clause-order
returns-clause-order c =
    updated-handles process_links c.unlink.new.nodes c.remove.new.self c.args.at _ c.remove.ensures.updates c.unlink.new.self c.unlink.ensures.linked
    (λ found. (IsIn-without c.args.at c.args.at _ (subst (IsIn c.args.at) c.unlink.ensures.handles found)).1 refl)
    ∙ c.unlink.ensures.handles

pub returns-clause-given_back : goal.returns-clause-given_back
returns-clause-given_back c =
    room_given_back c.unlink.new.nodes c.remove.new.self c.args.at c.remove.ensures.room c.remove.ensures.len
    c.remove.ensures.capacity c.remove.ensures.key_is_next
    ∙ ap (λ (p : ℕ × ℕ). (p.0 + 1, c.args.at)) (room_relinked with_process_links c.args.processes.now c.unlink.new.nodes c.unlink.ensures.relinks)
