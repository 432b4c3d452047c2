-- Families of lists: lists of one kind that run through the locks, where each lock notes which list it is in.
use Rattle.std.specs.Prelude.{◌≡◌, ◌≢◌, ℕ, Option, Some}
use Rattle.slab.specs.Slab.{Slab, get}
use Rattle.vlm_collections.specs.declared.link.Links.{Links}
use Rattle.vlm_collections.specs.declared.lists.LinkedList.{LinkedList}
use Rattle.vlm_collections.specs.Lists.{IsIn, IsLinked, handles_of}
use Rattle.vlm_records.specs.declared.locks.Lock.{Lock}

module _ {I Kind : Type 0} (links : Lock → Links) (noted : Option Lock → Option I) (locks : Slab Lock)
    (lists : I → LinkedList Kind) where
  -- each list is linked and has exactly the locks that note it, except one lock that was taken out
  pub record IsFamily (out : Option ℕ) : Type 0 where
    pub linked : (i : I) → IsLinked links locks (lists i)
    pub listed : (i : I) (at : ℕ) → IsIn at (handles_of links locks (lists i)) → noted (get locks at) ≡ Some i
    pub stands : (i : I) (at : ℕ) → Some at ≢ out → noted (get locks at) ≡ Some i
        → IsIn at (handles_of links locks (lists i))
    pub gone : (i : I) (at : ℕ) → Some at ≡ out → ¬ IsIn at (handles_of links locks (lists i))
