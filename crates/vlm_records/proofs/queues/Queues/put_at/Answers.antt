use Rattle.std.proofs.Common.{◌∙◌, ◌++◌, ◌∷◌, [], ap, rules, subst, sym}
use Rattle.vlm_records.specs.Shown.{IsThere, but_place, room_in}
use Rattle.vlm_records.proofs.PlacesOnLists.{lists_same, noted-handles, noted-placed, there_through}
use Rattle.vlm_records.proofs.queues.Queues.put_at.Goals as goal

pub push_at-requires-clause-placed : goal.push_at-requires-clause-placed
push_at-requires-clause-placed c =
    let q1 = c.set_place.new.self in
    let wrote = c.set_place.ensures in
    noted-placed c.args.self.now q1 c.args.at c.requires.placed wrote.rest wrote.lock.others (lists_same c.args.self.now q1 wrote.lock.resources)

pub push_at-requires-clause-present : goal.push_at-requires-clause-present
push_at-requires-clause-present c =
    there_through but_place c.args.self.now.locks c.set_place.new.self.locks c.set_place.ensures.rest c.args.at
    c.requires.present

pub push_at-requires-clause-there : goal.push_at-requires-clause-there
push_at-requires-clause-there c = subst (λ s. IsThere s c.args.place) (sym c.set_place.ensures.lock.resources) c.requires.there

pub returns-clause-here : goal.returns-clause-here
returns-clause-here c =
    let q1 = c.set_place.new.self in
    let wrote = c.set_place.ensures in
    c.push_at.ensures.here
    ∙ ap (λ ks. ks ++ c.args.at ∷ [])
    (noted-handles c.args.self.now q1 c.args.at c.requires.placed wrote.rest wrote.lock.others
    (lists_same c.args.self.now q1 wrote.lock.resources) c.args.place)

pub returns-clause-elsewhere : goal.returns-clause-elsewhere
returns-clause-elsewhere c p differs =
    let q1 = c.set_place.new.self in
    let wrote = c.set_place.ensures in
    c.push_at.ensures.elsewhere p differs
    ∙ noted-handles c.args.self.now q1 c.args.at c.requires.placed wrote.rest wrote.lock.others (lists_same c.args.self.now q1 wrote.lock.resources) p

pub returns-clause-kept : goal.returns-clause-kept
returns-clause-kept c = record {
  kin = search rules;
  rest = search rules;
  locks_room = c.push_at.ensures.kept.locks_room ∙ c.set_place.ensures.lock.locks_room;
  resources_room = c.push_at.ensures.kept.resources_room ∙ ap room_in c.set_place.ensures.lock.resources;
}
