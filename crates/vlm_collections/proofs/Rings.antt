-- What joining and leaving make of a list that runs through a slab.
use Rattle.std.proofs.Common.{◌≡◌, ◌≢◌, ℕ, ◌+◌, ◌-◌, ◌<◌, ◌≤◌, List, [], ◌∷◌, ◌++◌, length, Option, Some, None, IsSome}
use Rattle.std.proofs.Common.{refl, sym, ap, ◌∙◌, subst, inl, inr, arith, length-append}
use Rattle.std.proofs.lemmas.Bool.{cases_eq}
use Rattle.std.proofs.lemmas.Option.{none-some, same_Some}
use Rattle.slab.specs.Slab.{Slab, get, ContainsKey, with_value}
use Rattle.slab.proofs.SlabLemmas.{Updates-with_value}
use Rattle.vlm_collections.specs.declared.link.TheConstants.{LAST_HANDLE}
use Rattle.vlm_collections.specs.declared.link.Links.{Links}
use Rattle.vlm_collections.specs.declared.lists.LinkedList.{LinkedList}
use Rattle.vlm_collections.specs.Lists.{without, IsIn, IsApart, IsNoList, Joins, Spot, first_handle, handle_after}
use Rattle.vlm_collections.specs.Lists.{handle_before, handles_from, last_handle, IsChain, IsLinked, IsRelinked}
use Rattle.vlm_collections.specs.Lists.{Relinks, next_in, next_of, prev_in, prev_of, handles_of, written_links}
use Rattle.vlm_collections.proofs.HandleLists.{IsIn-without, IsApart-without, length-without, IsIn-push, IsApart-push, length-below}
use Rattle.vlm_collections.proofs.Chains.{IsOn, Inserts, IsChain-skip, IsChain-push, IsChain-kept, handles_from-chain}
use Rattle.vlm_collections.proofs.Chains.{next_is_first, next_is_after, prev_is_last, prev_is_before, prev_on, next_on}
use Rattle.vlm_collections.proofs.Chains.{prev_end_on}

module _ {T : Type 0} (links : T → Links) {Kind : Type 0} (nodes : Slab T) (list : LinkedList Kind) where
  -- a chain of as many handles as are counted is the list
  handles_of_chain : (handles : List ℕ) → IsChain (next_of links nodes list) (prev_of links nodes list) None handles
      → length handles ≡ list.len → handles_of links nodes list ≡ handles
  handles_of_chain handles chain count =
      ap (λ n. handles_from (next_of links nodes list) n None) (sym count)
      ∙ handles_from-chain (next_of links nodes list) (prev_of links nodes list) None handles chain

  IsLinked-chain : (handles : List ℕ) → IsChain (next_of links nodes list) (prev_of links nodes list) None handles → length handles ≡ list.len → IsApart handles
      → ((handle : ℕ) → IsIn handle handles → ContainsKey nodes handle)
      → ((handle : ℕ) → IsIn handle handles → handle ≤ LAST_HANDLE) → IsLinked links nodes list
  IsLinked-chain handles chain count apart present within =
      let same = handles_of_chain handles chain count in
      record { chained = rw same chain; apart = rw same apart; present = rw same present; within = rw same within; counted = rw same count }

  -- a spot on the list is the end or the handle of a record
  pub on_present : IsLinked links nodes list → (at : Spot) → IsOn None (handles_of links nodes list) at → (handle : ℕ)
      → at ≡ Some handle → ContainsKey nodes handle
  on_present linked at on handle is =
      elim on [
        | inl here ↦ absurd (none-some handle (sym here ∙ is))
        | inr there ↦ linked.present handle (subst (λ k. IsIn k (handles_of links nodes list)) (same_Some there.0 handle (sym there.2 ∙ is)) there.1)
      ]

  -- the neighbours of a handle are on its list, and so is the last spot
  pub prev_is_on : (handle : ℕ) (prev : Spot) → IsLinked links nodes list → IsIn handle (handles_of links nodes list)
      → prev_of links nodes list (Some handle) ≡ prev → IsOn None (handles_of links nodes list) prev
  prev_is_on handle prev linked listed was =
      rw was at (prev_on (next_of links nodes list) (prev_of links nodes list) None
      (handles_of links nodes list) handle linked.chained listed)

  pub next_is_on : (handle : ℕ) (next : Spot) → IsLinked links nodes list → IsIn handle (handles_of links nodes list)
      → next_of links nodes list (Some handle) ≡ next → IsOn None (handles_of links nodes list) next
  next_is_on handle next linked listed was =
      rw was at (next_on (next_of links nodes list) (prev_of links nodes list) None
      (handles_of links nodes list) handle linked.chained listed)

  pub last_is_on : IsLinked links nodes list → IsOn None (handles_of links nodes list) list.last
  last_is_on linked = prev_end_on (next_of links nodes list) (prev_of links nodes list) None (handles_of links nodes list) linked.chained

  -- what the list tells of its handles
  pub first_is : IsLinked links nodes list → list.first ≡ first_handle (handles_of links nodes list)
  first_is linked = next_is_first (next_of links nodes list) (prev_of links nodes list) None (handles_of links nodes list) linked.chained

  pub after_is : IsLinked links nodes list → (handle : ℕ) → IsIn handle (handles_of links nodes list)
      → next_in links (get nodes handle) ≡ handle_after handle (handles_of links nodes list)
  after_is linked handle listed = next_is_after (next_of links nodes list) (prev_of links nodes list) None
      (handles_of links nodes list) handle linked.chained linked.apart listed

  pub last_is : IsLinked links nodes list → list.last ≡ last_handle (handles_of links nodes list)
  last_is linked = prev_is_last (next_of links nodes list) (prev_of links nodes list) None (handles_of links nodes list) linked.chained

  pub before_is : IsLinked links nodes list → (handle : ℕ) → IsIn handle (handles_of links nodes list)
      → prev_in links (get nodes handle) ≡ handle_before handle (handles_of links nodes list)
  before_is linked handle listed = prev_is_before (next_of links nodes list) (prev_of links nodes list) None
      (handles_of links nodes list) handle linked.chained listed

  -- a list and one more handle count less than a number of four bytes holds
  pub room_for : IsLinked links nodes list → (handle : ℕ) → handle ≤ LAST_HANDLE → ¬ IsIn handle (handles_of links nodes list) → list.len + 1 ≤ LAST_HANDLE + 1
  room_for linked handle low apart =
      let all = handles_of links nodes list ++ handle ∷ [] in
      let low_all : (k : ℕ) → IsIn k all → k < LAST_HANDLE + 1 = λ k found.
      let le : k ≤ LAST_HANDLE =
      elim (IsIn-push handle k _ found) [
        | inl old ↦ linked.within k old
        | inr new ↦ subst
            (λ x. x ≤ LAST_HANDLE) new low
      ] in omega arith in
      omega (
        arith,
        length-below (LAST_HANDLE + 1) all (IsApart-push handle _ linked.apart apart) low_all,
        length-append (handles_of links nodes list) (handle ∷ []),
        linked.counted,
      )

-- what a record tells
pub told_next : {T : Type 0} (links : T → Links) (slot : Option T) (r : T) (pair : Links) → slot ≡ Some r → pair ≡ links r → next_in links slot ≡ pair.next
told_next links slot r pair here told = ap (next_in links) here ∙ ap (λ (p : Links). p.next) (sym told)

pub told_prev : {T : Type 0} (links : T → Links) (slot : Option T) (r : T) (pair : Links) → slot ≡ Some r → pair ≡ links r → prev_in links slot ≡ pair.prev
told_prev links slot r pair here told = ap (prev_in links) here ∙ ap (λ (p : Links). p.prev) (sym told)

-- how joins compose
Joins-after : (old new later : Spot → Spot) (from to : Spot) → Joins old new from to → ((at : Spot) → later at ≡ new at) → Joins old later from to
Joins-after old new later from to joins same = record { here = same from ∙ joins.here; others = λ at differs. same at ∙ joins.others at differs }

Joins-before : (old mid new : Spot → Spot) (from to : Spot) → ((at : Spot) → mid at ≡ old at) → Joins mid new from to → Joins old new from to
Joins-before old mid new from to same joins = record { here = joins.here; others = λ at differs. joins.others at differs ∙ same at }

-- a handle that is not on the list is not one of its spots
pub off_list : (handles : List ℕ) (at : Spot) (other : ℕ) → IsOn None handles at → ¬ IsIn other handles → Some other ≢ at
off_list handles at other on absent same =
    elim on [
      | inl here ↦ none-some other (sym here ∙ sym same)
      | inr there ↦ absent (subst (λ k. IsIn k handles) (sym (same_Some other there.0 (same ∙ there.2))) there.1)
    ]

-- the other lists and what records hold besides their neighbours
module _ {T : Type 0} (with_links : T → Links → T) where
  relinked_there : (old new : Option T) → IsRelinked with_links old new → IsSome old → IsSome new
  relinked_there None new is there = cc
  relinked_there (Some r) new is there = rw is.1 refl

  -- a record that was there is there
  pub still_present : (old new : Slab T) → Relinks with_links old new → (handle : ℕ) → ContainsKey old handle → ContainsKey new handle
  still_present old new relinks handle there = relinked_there (get old handle) (get new handle) (relinks.records handle) there

  -- a record that is there tells what was written
  pub written_next : (links : T → Links) → ((r : T) (pair : Links) → links (with_links r pair) ≡ pair) → (old new : Option T) (pair : Links) → IsSome old
      → new ≡ written_links with_links pair old → next_in links new ≡ pair.next
  written_next links written None new pair there is = cc
  written_next links written (Some r) new pair there is = ap (next_in links) is ∙ ap (λ (p : Links). p.next) (written r pair)

  pub written_prev : (links : T → Links) → ((r : T) (pair : Links) → links (with_links r pair) ≡ pair) → (old new : Option T) (pair : Links) → IsSome old
      → new ≡ written_links with_links pair old → prev_in links new ≡ pair.prev
  written_prev links written None new pair there is = cc
  written_prev links written (Some r) new pair there is = ap (prev_in links) is ∙ ap (λ (p : Links). p.prev) (written r pair)

  module _ (links : T → Links) (as_was : (r : T) → with_links r (links r) ≡ r) where
    same_relinked : (old new : Option T) → new ≡ old → IsRelinked with_links old new
    same_relinked None new same = same
    same_relinked (Some r) new same = (links r, same ∙ ap Some (sym (as_was r)))

    pub nothing_relinked : (nodes : Slab T) → Relinks with_links nodes nodes
    nothing_relinked nodes = record { records = λ handle. same_relinked (get nodes handle) (get nodes handle) refl; vacant_key = refl; capacity = refl }

    written_relinked : (pair : Links) (old new : Option T) → new ≡ written_links with_links pair old → IsRelinked with_links old new
    written_relinked pair None new is = is
    written_relinked pair (Some r) new is = (pair, is)

    -- the neighbours of one record are written
    pub one_relinked : (old : Slab T) (handle : ℕ) (r value : T) (pair : Links) → ContainsKey old handle
        → get old handle ≡ Some r → value ≡ with_links r pair → Relinks with_links old (with_value old handle value)
    one_relinked old handle r value pair there here is =
        let updates = Updates-with_value old handle value there in
        record {
          records = λ k. elim (cases_eq k handle) [
            | inl same ↦
                let was : get old k ≡ Some r = ap (get old) same ∙ here in
                written_relinked pair (get old k) (get (with_value old handle value) k)
                (ap (get (with_value old handle value)) same ∙ updates.changed ∙ ap Some is ∙ ap (written_links with_links pair) (sym was))
            | inr differs ↦ same_relinked (get old k) (get (with_value old handle value) k) (updates.others k differs)
          ];
          vacant_key = refl;
          capacity = refl;
        }

  module _ (twice : (r : T) (a b : Links) → with_links (with_links r a) b ≡ with_links r b) where
    relinked_again : (a b c : Option T) → IsRelinked with_links a b → IsRelinked with_links b c → IsRelinked with_links a c
    relinked_again None b c first second = relinked_none b c first second
      where
        relinked_none : (b c : Option T) → b ≡ None → IsRelinked with_links b c → c ≡ None
        relinked_none None c is then = then
        relinked_none (Some r) c is then = absurd (none-some r (sym is))
    relinked_again (Some r) b c first second =
        let then = subst (λ x. IsRelinked with_links x c) first.1 second in
        (then.0, then.1 ∙ ap Some (twice r first.0 then.0))

    pub relinked_twice : (a b c : Slab T) → Relinks with_links a b → Relinks with_links b c → Relinks with_links a c
    relinked_twice a b c first second = record {
      records = λ handle. relinked_again (get a handle) (get b handle) (get c handle) (first.records handle) (second.records handle);
      vacant_key = second.vacant_key ∙ first.vacant_key;
      capacity = second.capacity ∙ first.capacity;
    }

module _ {T : Type 0} (links : T → Links) {Kind : Type 0} where
  -- a handle leaves
  module _ (nodes nodes' : Slab T) (list list' : LinkedList Kind) (handle : ℕ) (linked : IsLinked links nodes list)
      (listed : IsIn handle (handles_of links nodes list))
      (nexts : Joins (next_of links nodes list) (next_of links nodes' list') (prev_of links nodes list (Some handle)) (next_of links nodes list (Some handle)))
      (prevs : Joins (prev_of links nodes list) (prev_of links nodes' list') (next_of links nodes list (Some handle)) (prev_of links nodes list (Some handle)))
      (there : (k : ℕ) → ContainsKey nodes k → ContainsKey nodes' k) (count : list'.len ≡ list.len - 1) where
    chain-left : IsChain (next_of links nodes' list') (prev_of links nodes' list') None (without handle (handles_of links nodes list))
    chain-left = IsChain-skip _ _ _ _ None _ handle linked.chained linked.apart (λ k found same. none-some k same) listed nexts prevs

    count-left : length (without handle (handles_of links nodes list)) ≡ list'.len
    count-left = omega (arith, length-without handle (handles_of links nodes list) linked.apart listed, linked.counted)

    pub handles-left : handles_of links nodes' list' ≡ without handle (handles_of links nodes list)
    handles-left = handles_of_chain links nodes' list' _ chain-left count-left

    pub IsLinked-left : IsLinked links nodes' list'
    IsLinked-left =
        IsLinked-chain links nodes' list' _ chain-left count-left (IsApart-without handle _ linked.apart)
        (λ k found. there k (linked.present k (IsIn-without handle k _ found).0)) (λ k found. linked.within k (IsIn-without handle k _ found).0)

  -- a handle joins
  module _ (nodes nodes' : Slab T) (list list' : LinkedList Kind) (handle : ℕ) (linked : IsLinked links nodes list)
      (present : ContainsKey nodes handle) (low : handle ≤ LAST_HANDLE)
      (apart : ¬ IsIn handle (handles_of links nodes list))
      (inserts : Inserts (next_of links nodes list) (prev_of links nodes list) (next_of links nodes' list') (prev_of links nodes' list') handle)
      (there : (k : ℕ) → ContainsKey nodes k → ContainsKey nodes' k) (count : list'.len ≡ list.len + 1) where
    chain-joined : IsChain (next_of links nodes' list') (prev_of links nodes' list') None (handles_of links nodes list ++ handle ∷ [])
    chain-joined = IsChain-push _ _ _ _ None _ handle linked.chained linked.apart (λ k found same. none-some k same) apart (none-some handle) inserts

    count-joined : length (handles_of links nodes list ++ handle ∷ []) ≡ list'.len
    count-joined = omega (arith, length-append (handles_of links nodes list) (handle ∷ []), linked.counted)

    pub handles-joined : handles_of links nodes' list' ≡ handles_of links nodes list ++ handle ∷ []
    handles-joined = handles_of_chain links nodes' list' _ chain-joined count-joined

    pub IsLinked-joined : IsLinked links nodes' list'
    IsLinked-joined =
        IsLinked-chain links nodes' list' _ chain-joined count-joined (IsApart-push handle _ linked.apart apart)
        (λ k found. there k (elim (IsIn-push handle k _ found) [ inl old ↦ linked.present k old | inr new ↦ subst (ContainsKey nodes) new present ]))
        (λ k found. elim (IsIn-push handle k _ found) [ inl old ↦ linked.within k old | inr new ↦ subst (λ x. x ≤ LAST_HANDLE) new low ])

  -- the ends of a list but for its count, or its last spot
  next_of-len : (nodes : Slab T) (list : LinkedList Kind) (n : ℕ) (at : Spot) → next_of links nodes (record list { len = n }) at ≡ next_of links nodes list at
  next_of-len nodes list n None = refl
  next_of-len nodes list n (Some handle) = refl

  prev_of-len : (nodes : Slab T) (list : LinkedList Kind) (n : ℕ) (at : Spot) → prev_of links nodes (record list { len = n }) at ≡ prev_of links nodes list at
  prev_of-len nodes list n None = refl
  prev_of-len nodes list n (Some handle) = refl

  next_of-last : (nodes : Slab T) (list : LinkedList Kind) (last : Spot) (n : ℕ) (at : Spot)
      → next_of links nodes (record list { last = last; len = n }) at ≡ next_of links nodes list at
  next_of-last nodes list last n None = refl
  next_of-last nodes list last n (Some handle) = refl

  -- the two writes by which a handle leaves
  module _ (n0 n1 n2 : Slab T) (e0 e1 e2 : LinkedList Kind) (handle : ℕ) (prev next : Spot)
      (linked : IsLinked links n0 e0) (listed : IsIn handle (handles_of links n0 e0))
      (was_prev : prev_of links n0 e0 (Some handle) ≡ prev) (was_next : next_of links n0 e0 (Some handle) ≡ next)
      (next1 : Joins (next_of links n0 e0) (next_of links n1 e1) prev next) (prev1 : (at : Spot)
      → prev_of links n1 e1 at ≡ prev_of links n0 e0 at) (len1 : e1.len ≡ e0.len)
      (prev2 : Joins (prev_of links n1 e1) (prev_of links n2 e2) next prev) (next2 : (at : Spot)
      → next_of links n2 e2 at ≡ next_of links n1 e1 at) (len2 : e2.len ≡ e1.len)
      (there : (k : ℕ) → ContainsKey n0 k → ContainsKey n2 k) where
    nexts : Joins (next_of links n0 e0) (next_of links n2 (record e2 { len = e2.len - 1 }))
        (prev_of links n0 e0 (Some handle)) (next_of links n0 e0 (Some handle))
    nexts = rw (was_prev, was_next) (Joins-after _ _ _ prev next next1 (λ at. next_of-len n2 e2 (e2.len - 1) at ∙ next2 at))

    prevs : Joins (prev_of links n0 e0) (prev_of links n2 (record e2 { len = e2.len - 1 }))
        (next_of links n0 e0 (Some handle)) (prev_of links n0 e0 (Some handle))
    prevs = rw (was_prev, was_next) (Joins-after _ _ _ next prev (Joins-before _ _ _ next prev prev1 prev2) (λ at. prev_of-len n2 e2 (e2.len - 1) at))

    pub left-handles : handles_of links n2 (record e2 { len = e2.len - 1 }) ≡ without handle (handles_of links n0 e0)
    left-handles = handles-left n0 n2 e0 (record e2 { len = e2.len - 1 }) handle linked listed nexts prevs there (omega arith)

    pub left-linked : IsLinked links n2 (record e2 { len = e2.len - 1 })
    left-linked = IsLinked-left n0 n2 e0 (record e2 { len = e2.len - 1 }) handle linked listed nexts prevs there (omega arith)

  -- the two writes by which a handle joins
  module _ (n0 n1 n2 : Slab T) (e0 e2 : LinkedList Kind) (handle : ℕ) (linked : IsLinked links n0 e0)
      (present : ContainsKey n0 handle) (low : handle ≤ LAST_HANDLE)
      (apart : ¬ IsIn handle (handles_of links n0 e0))
      (prev1 : prev_in links (get n1 handle) ≡ e0.last) (next1 : next_in links (get n1 handle) ≡ None)
      (others1 : (other : ℕ) → other ≢ handle → get n1 other ≡ get n0 other)
      (next2 : Joins (next_of links n1 e0) (next_of links n2 e2) e0.last (Some handle)) (prev2 : (at : Spot)
      → prev_of links n2 e2 at ≡ prev_of links n1 e0 at) (len2 : e2.len ≡ e0.len)
      (there : (k : ℕ) → ContainsKey n0 k → ContainsKey n2 k) where
    next_as : (other : Spot) → other ≢ Some handle → next_of links n1 e0 other ≡ next_of links n0 e0 other
    next_as None differs = refl
    next_as (Some k) differs = ap (next_in links) (others1 k (λ same. differs (ap Some same)))

    prev_as : (other : Spot) → other ≢ None → other ≢ Some handle
        → prev_of links n2 (record e2 { last = Some handle; len = e2.len + 1 }) other ≡ prev_of links n0 e0 other
    prev_as None here differs = absurd (here refl)
    prev_as (Some k) here differs = prev2 (Some k) ∙ ap (prev_in links) (others1 k (λ same. differs (ap Some same)))

    inserts : Inserts (next_of links n0 e0) (prev_of links n0 e0)
        (next_of links n2 (record e2 { last = Some handle; len = e2.len + 1 }))
        (prev_of links n2 (record e2 { last = Some handle; len = e2.len + 1 })) handle
    inserts = record {
      into = next_of-last n2 e2 (Some handle) (e2.len + 1) e0.last ∙ next2.here;
      out = next2.others (Some handle) (off_list (handles_of links n0 e0) e0.last handle (last_is_on links n0 e0 linked) apart) ∙ next1;
      back_into = refl;
      back_out = prev2 (Some handle) ∙ prev1;
      nexts = λ other not_last not_handle. next_of-last n2 e2 (Some handle) (e2.len + 1) other ∙ next2.others other not_last ∙ next_as other not_handle;
      prevs = prev_as;
    }

    pub joined-handles : handles_of links n2 (record e2 { last = Some handle; len = e2.len + 1 }) ≡ handles_of links n0 e0 ++ handle ∷ []
    joined-handles = handles-joined n0 n2 e0 (record e2 { last = Some handle; len = e2.len + 1 }) handle linked present low apart inserts there (omega arith)

    pub joined-linked : IsLinked links n2 (record e2 { last = Some handle; len = e2.len + 1 })
    joined-linked = IsLinked-joined n0 n2 e0 (record e2 { last = Some handle; len = e2.len + 1 }) handle linked present low apart inserts there (omega arith)

  -- the list has the handles that it had
  abbrev HandlesStay : Slab T → Slab T → LinkedList Kind → Type 0
  HandlesStay nodes nodes' list = handles_of links nodes' list ≡ handles_of links nodes list

  -- a list stays where its records keep their neighbours
  module _ (nodes nodes' : Slab T) (list : LinkedList Kind) (linked : IsLinked links nodes list)
      (nexts : (handle : ℕ) → IsIn handle (handles_of links nodes list) → next_in links (get nodes' handle) ≡ next_in links (get nodes handle))
      (prevs : (handle : ℕ) → IsIn handle (handles_of links nodes list) → prev_in links (get nodes' handle) ≡ prev_in links (get nodes handle))
      (there : (handle : ℕ) → IsIn handle (handles_of links nodes list) → ContainsKey nodes handle → ContainsKey nodes' handle) where
    next_kept : (at : Spot) → IsOn None (handles_of links nodes list) at → next_of links nodes' list at ≡ next_of links nodes list at
    next_kept None on = refl
    next_kept (Some handle) on =
        nexts handle (elim on [
          | inl here ↦ absurd (none-some handle (sym here))
          | inr found ↦ subst (λ k. IsIn k (handles_of links nodes list)) (same_Some found.0 handle (sym found.2)) found.1
        ])

    prev_kept : (at : Spot) → IsOn None (handles_of links nodes list) at → prev_of links nodes' list at ≡ prev_of links nodes list at
    prev_kept None on = refl
    prev_kept (Some handle) on =
        prevs handle (elim on [
          | inl here ↦ absurd (none-some handle (sym here))
          | inr found ↦ subst (λ k. IsIn k (handles_of links nodes list)) (same_Some found.0 handle (sym found.2)) found.1
        ])

    chain-kept : IsChain (next_of links nodes' list) (prev_of links nodes' list) None (handles_of links nodes list)
    chain-kept = IsChain-kept _ _ _ _ None (handles_of links nodes list) linked.chained next_kept prev_kept

    pub kept-handles : HandlesStay nodes nodes' list
    kept-handles = handles_of_chain links nodes' list _ chain-kept linked.counted

    pub kept-linked : IsLinked links nodes' list
    kept-linked = IsLinked-chain links nodes' list _ chain-kept linked.counted linked.apart (λ k found. there k found (linked.present k found)) linked.within

  -- the same where the records are the same
  module _ (nodes nodes' : Slab T) (list : LinkedList Kind) (linked : IsLinked links nodes list)
      (same : (handle : ℕ) → IsIn handle (handles_of links nodes list) → get nodes' handle ≡ get nodes handle) where
    pub same-handles : HandlesStay nodes nodes' list
    same-handles = kept-handles nodes nodes' list linked (λ k found. ap (next_in links) (same k found))
        (λ k found. ap (prev_in links) (same k found)) (λ k found here. rw (same k found) here)

    pub same-linked : IsLinked links nodes' list
    same-linked = kept-linked nodes nodes' list linked (λ k found. ap (next_in links) (same k found))
        (λ k found. ap (prev_in links) (same k found)) (λ k found here. rw (same k found) here)

  -- no handle is in an empty list
  pub no_list-linked : (nodes : Slab T) (list : LinkedList Kind) → IsNoList list → IsLinked links nodes list × (handles_of links nodes list ≡ [])
  no_list-linked nodes list none =
      let chain : IsChain (next_of links nodes list) (prev_of links nodes list) None [] = (none.no_first, none.no_last) in
      let nothing : (handle : ℕ) → IsIn handle [] → ContainsKey nodes handle = λ handle found. absurd found in (
        IsLinked-chain links nodes list [] chain (sym none.no_handles) tt nothing (λ handle found. absurd found),
        handles_of_chain links nodes list [] chain (sym none.no_handles),
      )
