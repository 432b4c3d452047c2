use Rattle.vlm_collections.specs.declared.hashers.HashKeys.{HashKeys}
use Rattle.vlm_store.specs.Index.{hash_key}
use Rattle.vlm_store.proofs.LivingProcesses.{is_sound}
use Rattle.std.proofs.Common.{◌≡◌, ◌∙◌, ap}
use Rattle.vlm_store.proofs.KeptRecords.{finds_resource, found_there}
use Rattle.vlm_store.specs.Kept.{beside_shown, found_in}
use Rattle.vlm_store.specs.Store.{tables}
use Rattle.vlm_store.proofs.Kinship.{records_keys}
use Rattle.vlm_store.proofs.HashedKeys.{by_keys, found_hashed, main_there}
use Rattle.vlm_store.proofs.store.Store.resource.Goals as goal

pub get-requires : goal.get-requires
get-requires c = main_there (hash_key c.self.inside.keys) c.self.inside.resource_index c.self.inside.queues c.self.invariant.resources c.args.hash

pub returns-clause-found : goal.returns-clause-found
returns-clause-found c =
    let s = c.self.inside in
    let kept = c.self.invariant in
    let hash_known : c.args.hash ≡ hash_key s.keys c.args.key.now = (rw (← c.self.view_is) at c.requires)
    ∙ ap (λ (h : HashKeys). hash_key h c.args.key.now) (records_keys (tables s.queues s.order (beside_shown s))) in
    rw (← c.self.view_is) (finds_resource s.queues s.order (beside_shown s) kept.placed kept.linked kept.ordered
    (found_in s) (by_keys (hash_key s.keys) s.resource_index s.queues kept.resources) c.args.key.now c.get.result
    (found_hashed s.keys s.resource_index s.queues.resources c.args.key.now c.args.hash c.get.result hash_known c.get.ensures))

pub returns-clause-there : goal.returns-clause-there
returns-clause-there c =
    let s = c.self.inside in
    let kept = c.self.invariant in
    let hash_known : c.args.hash ≡ hash_key s.keys c.args.key.now = (rw (← c.self.view_is) at c.requires)
    ∙ ap (λ (h : HashKeys). hash_key h c.args.key.now) (records_keys (tables s.queues s.order (beside_shown s))) in
    rw (← c.self.view_is)
    (found_there s.queues s.order (beside_shown s) kept.placed kept.linked kept.ordered (found_in s)
    (by_keys (hash_key s.keys) s.resource_index s.queues kept.resources) c.args.key.now c.get.result
    (found_hashed s.keys s.resource_index s.queues.resources c.args.key.now c.args.hash c.get.result hash_known c.get.ensures))

pub returns-clause-sound : goal.returns-clause-sound
returns-clause-sound c = rw (← c.self.view_is) (is_sound c.self.inside c.self.invariant)
