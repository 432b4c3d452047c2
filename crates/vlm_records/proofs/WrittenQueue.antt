-- A queue of a resource is written.
use Rattle.std.proofs.Common.{◌≡◌, ◌≢◌, ℕ, Some, refl, sym, ap, ◌∙◌, inl, inr}
use Rattle.std.proofs.lemmas.Bool.{cases_eq}
use Rattle.std.specs.Option.{option_map}
use Rattle.slab.proofs.SlabLemmas.{Updates-with_value}
use Rattle.slab.specs.Slab.{Slab, get, ContainsKey, with_value}
use Rattle.vlm_collections.specs.declared.lists.LinkedList.{LinkedList}
use Rattle.vlm_words.specs.declared.resources.Queue.{Queue}
use Rattle.vlm_words.specs.declared.resources.Queue.TheVariants.{Granted, Conversion, Waiting}
use Rattle.vlm_records.specs.declared.handles.Place.{Place}
use Rattle.vlm_records.specs.declared.handles.Place.TheVariants.{Queued}
use Rattle.vlm_records.specs.declared.locks.InQueue.{InQueue}
use Rattle.vlm_records.specs.declared.locks.Lock.{Lock}
use Rattle.vlm_records.specs.declared.queues.Queues.{Queues}
use Rattle.vlm_records.specs.declared.resources.Resource.{Resource}
use Rattle.vlm_records.specs.Shown.{SameBut, but_lists, list_at, list_in, queue_list, with_queue_list}

-- a list is written, and each other of the resource is what it was
other_list : (kind queue : Queue) (list : LinkedList InQueue) (r : Resource) → kind ≢ queue → queue_list kind (with_queue_list queue list r) ≡ queue_list kind r
other_list Granted Granted list r differs = absurd (differs refl)
other_list Granted Conversion list r differs = refl
other_list Granted Waiting list r differs = refl
other_list Conversion Granted list r differs = refl
other_list Conversion Conversion list r differs = absurd (differs refl)
other_list Conversion Waiting list r differs = refl
other_list Waiting Granted list r differs = refl
other_list Waiting Conversion list r differs = refl
other_list Waiting Waiting list r differs = absurd (differs refl)

lists_apart : (queue : Queue) (list : LinkedList InQueue) (r : Resource) → but_lists (with_queue_list queue list r) ≡ but_lists r
lists_apart Granted list r = refl
lists_apart Conversion list r = refl
lists_apart Waiting list r = refl

-- the locks and the resources, where those of the locks and one of the resources are written
abbrev pub relisted : Queues → Slab Lock → ℕ → Resource → Queues
relisted q locks' res r' = record { locks = locks'; resources = with_value q.resources res r' }

-- the list of a place, by the resource that is there
pub list_found : (q : Queues) (place : Place) (res : ℕ) (queue : Queue) (r : Resource) → place ≡ Queued res queue
    → get q.resources res ≡ Some r → list_at q place ≡ queue_list queue r
list_found q place res queue r parts was = ap (list_at q) parts ∙ ap (list_in queue) was

module _ (q : Queues) (locks' : Slab Lock) (place : Place) (res : ℕ) (queue : Queue) (r r' : Resource) (parts : place ≡ Queued res queue)
    (there : ContainsKey q.resources res) (was : get q.resources res ≡ Some r) (is : r' ≡ with_queue_list queue (queue_list queue r') r) where
  -- the locks and the resources then
  abbrev now : Queues
  now = relisted q locks' res r'

  pub list_is : list_at now place ≡ queue_list queue r'
  list_is = ap (list_at now) parts ∙ ap (list_in queue) (Updates-with_value q.resources res r' there).changed

  pub list_elsewhere : (other : Place) → other ≢ place → list_at now other ≡ list_at q other
  list_elsewhere (Queued at kind) differs =
      elim (cases_eq at res) [
        | inl same ↦
            ap (λ k. list_in kind (get now.resources k)) same ∙ ap (list_in kind) (Updates-with_value q.resources res r' there).changed
            ∙ ap (queue_list kind) is
            ∙ other_list kind queue (queue_list queue r') r (λ e. differs (ap (λ k. Queued k kind) same ∙ ap (Queued res) e ∙ sym parts))
            ∙ sym (ap (λ k. list_in kind (get q.resources k)) same ∙ ap (list_in kind) was)
        | inr apart ↦ ap (list_in kind) ((Updates-with_value q.resources res r' there).others at apart)
      ]

  pub lists_alone : SameBut but_lists q.resources now.resources
  lists_alone k =
      elim (cases_eq k res) [
        | inl same ↦
            ap (λ x. option_map but_lists (get now.resources x)) same ∙ ap (option_map but_lists) (Updates-with_value q.resources res r' there).changed
            ∙ ap (λ x. Some (but_lists x)) is ∙ ap Some (lists_apart queue (queue_list queue r') r)
            ∙ sym (ap (λ x. option_map but_lists (get q.resources x)) same ∙ ap (option_map but_lists) was)
        | inr apart ↦ ap (option_map but_lists) ((Updates-with_value q.resources res r' there).others k apart)
      ]
