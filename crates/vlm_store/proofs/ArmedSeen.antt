-- What a caller sees of the armed locks of a resource.
use Rattle.std.proofs.Common.{◌≡◌, ℕ, List, [], ◌∷◌, map, cond, true, false, Some, refl, sym, ap, ◌∙◌, subst}
use Rattle.slab.specs.Slab.{get, ContainsKey}
use Rattle.vlm_collections.specs.Lists.{IsIn, handles_of}
use Rattle.vlm_words.specs.declared.locks.LockState.{LockState}
use Rattle.vlm_words.specs.declared.resources.Queue.TheVariants.{Granted}
use Rattle.vlm_records.specs.declared.handles.Armed.{Armed}
use Rattle.vlm_records.specs.declared.handles.Place.TheVariants.{Queued}
use Rattle.vlm_records.specs.declared.resources.Resource.{Resource}
use Rattle.vlm_store.specs.declared.store.Store.TheInside.{Inside}
use Rattle.vlm_store.specs.Armed.{IsArmedAt, armed_among, armed_at}
use Rattle.vlm_records.specs.Armed.{armed_handles, armed_links, armed_list_handles, armed_list_in, is_listed, list_of}
use Rattle.vlm_store.specs.Kept.{IsKept, beside_shown, records_shown}
use Rattle.vlm_store.specs.Records.{HasResource}
use Rattle.vlm_records.specs.Shown.{handles_at, rows}
use Rattle.vlm_store.specs.Store.{tables, under_handle}
use Rattle.vlm_store.proofs.Layouts.{HasResource-order, locks_at-seen, under_handle-among}

-- those of the locks under these handles that are armed
pub armed-seen : (which : Armed) (rows : ℕ → LockState) (ks : List ℕ)
    → armed_among which (map (under_handle rows) ks) ≡ map (under_handle rows) (armed_handles which rows ks)
armed-seen which rows [] = refl
armed-seen which rows (k ∷ ks) =
    elim (is_listed which (rows k)) as
    (λ b. cond b (under_handle rows k ∷ armed_among which (map (under_handle rows) ks))
    (armed_among which (map (under_handle rows) ks)) ≡ map (under_handle rows)
    (cond b (k ∷ armed_handles which rows ks) (armed_handles which rows ks))) [
      | true ↦ ap (λ rest. under_handle rows k ∷ rest) (armed-seen which rows ks)
      | false ↦ armed-seen which rows ks
    ]

module _ (s : Inside) (kept : IsKept s) (res : ℕ) (has : HasResource res (records_shown s)) where
  pub resource_is_there : ContainsKey s.queues.resources res
  resource_is_there = kept.linked.present res (HasResource-order (tables s.queues s.order (beside_shown s)) res has)

  module _ (which : Armed) where
    -- the list of the record is that of the resource
    pub armed_listed : (r : Resource) → get s.queues.resources res ≡ Some r
        → handles_of (armed_links which) s.queues.locks (list_of which r) ≡ armed_list_handles which s.queues res
    armed_listed r is = sym (ap (λ slot. handles_of (armed_links which) s.queues.locks (armed_list_in which slot)) is)

    -- it holds just what a caller sees
    pub armed_shown : armed_at which res (records_shown s) ≡ map (under_handle (rows s.queues)) (armed_list_handles which s.queues res)
    armed_shown =
        let l = tables s.queues s.order (beside_shown s) in
        ap (armed_among which) (locks_at-seen l (Queued res Granted) (HasResource-order l res has))
        ∙ armed-seen which (rows s.queues) (handles_at s.queues (Queued res Granted))
        ∙ ap (map (under_handle (rows s.queues))) (sym ((kept.armed which).order res))

    pub armed_at_listed : (at : ℕ) → IsArmedAt which res at (records_shown s) → IsIn at (armed_list_handles which s.queues res)
    armed_at_listed at armed =
        (under_handle-among (rows s.queues) (armed_list_handles which s.queues res) (record { at = at; row = armed.0 })
        (subst (IsIn (record { at = at; row = armed.0 })) armed_shown armed.1)).0
