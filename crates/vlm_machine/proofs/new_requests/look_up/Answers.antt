use Rattle.std.proofs.Common.{◌≡◌, IsSome, Option, None, Some, refl, sym, ap, ◌∙◌, subst, find, unwrap_or}
use Rattle.vlm_words.specs.declared.resources.Key.{Key}
use Rattle.vlm_model.specs.Enqueue.{is_at_once}
use Rattle.vlm_words.specs.Resources.{is_at, new_resource}
use Rattle.vlm_store.specs.Plain.{plain_resources}
use Rattle.vlm_store.specs.Records.{FindsResource, StoredResource, resource_at}
use Rattle.vlm_locks.proofs.Keyed.{finds_none, finds_one}
use Rattle.vlm_machine.proofs.Entries.{is_at_once-new}
use Rattle.vlm_machine.proofs.new_requests.look_up.Goals as goal

pub returns-in-None-clause-at_once : goal.returns-in-None-clause-at_once
returns-in-None-clause-at_once c asked serial site flags mode same keyed =
    let s = c.args.store.now in
    let none = finds_none site.domain site.key keyed s c.requires (subst (λ (k : Key). FindsResource s k None) (sym same) c.in-None.ensures.found) in
    sym (ap (λ o. is_at_once asked (unwrap_or o (new_resource serial site))) none ∙ is_at_once-new serial site asked)

pub returns-in-Some-clause-at_once : goal.returns-in-Some-clause-at_once
returns-in-Some-clause-at_once c asked serial site flags mode same keyed =
    of_found (resource_at c.in-Some.res c.args.store.now.resources) refl c.in-Some.ensures.there
  where
    found : FindsResource c.args.store.now site.key (Some c.in-Some.res)
    found = subst (λ (k : Key). FindsResource c.args.store.now k (Some c.in-Some.res)) (sym same) c.in-Some.ensures.found

    of_found : (o : Option StoredResource) → resource_at c.in-Some.res c.args.store.now.resources ≡ o → IsSome o
        → c.enters_at_once.result ≡ is_at_once asked (unwrap_or (find (is_at site.key) (plain_resources c.args.store.now)) (new_resource serial site))
    of_found None is there = cc
    of_found (Some r) is there =
        c.enters_at_once.ensures r asked is flags mode
        ∙ sym (ap (λ o. is_at_once asked (unwrap_or o (new_resource serial site)))
        (finds_one site.domain site.key keyed c.args.store.now c.requires c.resource.ensures.sound c.in-Some.res found r is))
