-- A granted lock has no queued request.
use Rattle.std.proofs.Common.{◌≡◌, List, [], ◌∷◌, map, None, subst, inl, inr}
use Rattle.std.specs.List.{All}
use Rattle.std.proofs.lemmas.List.Elements.{All-head, All-tail}
use Rattle.vlm_words.specs.declared.resources.Queue.{Queue}
use Rattle.vlm_words.specs.declared.resources.Queue.TheVariants.{Granted}
use Rattle.vlm_model.specs.Laws.{IsHeld, RowsFit}
use Rattle.vlm_collections.specs.Lists.{IsIn}
use Rattle.vlm_store.specs.Plain.{plain_resource, plain_resources}
use Rattle.vlm_store.specs.Records.{Records, StoredLock, queued}
use Rattle.vlm_locks.specs.declared.located_locks.LocatedLock.{LocatedLock}
use Rattle.vlm_locks.specs.Standing.{IsLocated}
use Rattle.vlm_locks.proofs.QueuedLocks.{resource_among}

-- what each one of these images has, that of one of these has
pub each_of : {A B : Type 0} (f : A → B) (P : B → Type 0) (xs : List A) → All P (map f xs) → (one : A) → IsIn one xs → P (f one)
each_of f P [] all one among = absurd among
each_of {A} f P (x ∷ rest) all one among =
    elim among [
      | inl here ↦ subst (λ (y : A). P (f y)) here (All-head P (f x) (map f rest) all)
      | inr there ↦ each_of f P rest (All-tail P (f x) (map f rest) all) one there
    ]

-- a granted lock wants nothing, where each lock stands in the queue that fits it
pub wants_nothing : (s : Records) → All RowsFit (plain_resources s) → (f : LocatedLock) → IsLocated f s → f.queue ≡ Granted → f.row.want ≡ None
wants_nothing s fit f located granted =
    let own = located.resource in
    let fits : RowsFit (plain_resource own) = each_of plain_resource RowsFit s.resources fit own (resource_among f.res s.resources own located.found) in
    let held : IsHeld f.row =
    each_of (λ (k : StoredLock). k.row) IsHeld own.granted fits.granted (record { at = f.lock; row = f.row })
    (subst (λ (queue : Queue). IsIn (record { at = f.lock; row = f.row }) (queued queue own)) granted located.among) in
    held.1
