-- After every run each queue is in the order of its requests.
use Rattle.std.proofs.Common.{◌≡◌, ◌<◌, ◌+◌, ℕ, zero, suc, Bool, true, List, [], ◌∷◌, ◌++◌, drop, Option, None, Some, refl, sym, subst, ap, arith}
use Rattle.std.specs.List.{AllByRecursion, filter, find}
use Rattle.std.proofs.lemmas.Bool.{cond_both}
use Rattle.std.proofs.lemmas.List.Elements.{All-from_recursion}
use Rattle.vlm_words.specs.declared.locks.Request.{Request}
use Rattle.vlm_words.specs.declared.locks.LockState.{LockState}
use Rattle.vlm_words.specs.declared.resources.ValueBlock.{ValueBlock}
use Rattle.vlm_words.specs.declared.steps.Conversion.{Conversion}
use Rattle.vlm_words.specs.declared.steps.NewRequest.{NewRequest}
use Rattle.vlm_words.specs.State.{Resource, State}
use Rattle.vlm_model.specs.Effects.{with_value_block}
use Rattle.vlm_model.specs.Grants.{resource_after_grant}
use Rattle.vlm_model.specs.Sweeps.{served_with, state_after_sweep}
use Rattle.vlm_words.specs.Rows.{is_lock_of, wanting_row}
use Rattle.vlm_words.specs.Resources.{is_at, new_resource}
use Rattle.vlm_model.specs.Trees.{enq_site}
use Rattle.vlm_model.specs.Declare.{declare_change}
use Rattle.vlm_model.specs.SetValue.{set_change}
use Rattle.vlm_model.specs.Take.{take_change}
use Rattle.vlm_model.specs.Enqueue.{enq_at_once, enq_change, enq_row, resource_after_entry}
use Rattle.vlm_model.specs.Convert.{ConversionAdmission, convert_admission, convert_blocks, convert_change}
use Rattle.vlm_model.specs.Convert.{convert_lkid, convert_request, resource_after_conversion}
use Rattle.vlm_model.specs.Convert.{resource_after_conversion_of, resource_without_granted}
use Rattle.vlm_model.specs.Withdrawals.{Withdrawal, is_held_by_writer, resource_after_cancel, resource_after_going}
use Rattle.vlm_model.specs.Withdrawals.{resource_after_withdrawals, resource_after_writer, resource_without}
use Rattle.vlm_model.specs.Withdrawals.{state_after_withdrawals, value_block_after_writer}
use Rattle.vlm_model.specs.Rundown.{rundowns, state_after_rundown}
use Rattle.vlm_model.specs.Runs.{History, Run}
use Rattle.vlm_model.specs.Asts.{resource_after_warning}
use Rattle.vlm_model.specs.Deadlocks.{wanted_number}
use Rattle.vlm_model.specs.QueueOrder.{IsInOrderOfRequests, NumbersRise, QueuesAreInOrderOfRequests}
use Rattle.vlm_model.proofs.Each.{each_append, each_drop, each_filter, each_map, each_weaker}
use Rattle.vlm_model.proofs.EachResource.{each_entered_at, each_swept}
use Rattle.vlm_model.proofs.Pairs.{AllPairs-from_recursion, EachPair, each_pair_filter}
use Rattle.vlm_model.proofs.Admissions.{admitted_request}
use Rattle.vlm_model.proofs.Always.{always, kept_by_stepped}
use Rattle.vlm_model.proofs.Withdrawing.{kept_withdrawn}
use Rattle.vlm_model.proofs.InOrder.{service_in_order}

-- the request of the first row has the lower number
abbrev IsOlder : LockState → LockState → Type 0
IsOlder a b = wanted_number a < wanted_number b

-- the row's request has a number below this one
abbrev IsBelow : ℕ → LockState → Type 0
IsBelow next row = wanted_number row < next

-- the numbers rise along the rows, by recursion
record Rises (next : ℕ) (rows : List LockState) : Type 0 where
  pairs : EachPair IsOlder rows
  given : AllByRecursion (IsBelow next) rows

-- they rise along both queues
record Ordered (next : ℕ) (r : Resource) : Type 0 where
  converting : Rises next r.converting
  waiting : Rises next r.waiting

-- ---- one queue

-- pairs behind the first rows
pairs_drop : (n : ℕ) (rows : List LockState) → EachPair IsOlder rows → EachPair IsOlder (drop n rows)
pairs_drop zero rows pairs = pairs
pairs_drop (suc n) [] pairs = tt
pairs_drop (suc n) (row ∷ rows) pairs = pairs_drop n rows pairs.1

-- the rows behind the first ones
rises_drop : (next n : ℕ) (rows : List LockState) → Rises next rows → Rises next (drop n rows)
rises_drop next n rows rises = record { pairs = pairs_drop n rows rises.pairs; given = each_drop (IsBelow next) n rows rises.given }

-- the rows that a filter keeps
rises_filter : (next : ℕ) (test : LockState → Bool) (rows : List LockState) → Rises next rows → Rises next (filter test rows)
rises_filter next test rows rises = record { pairs = each_pair_filter IsOlder test rows rises.pairs; given = each_filter (IsBelow next) test rows rises.given }

-- below the number after the next
given_more : (next : ℕ) (rows : List LockState) → AllByRecursion (IsBelow next) rows → AllByRecursion (IsBelow (next + 1)) rows
given_more next rows given = each_weaker (IsBelow next) (IsBelow (next + 1)) (λ row below. omega (arith, below)) rows given

-- as the next number is given
rises_more : (next : ℕ) (rows : List LockState) → Rises next rows → Rises (next + 1) rows
rises_more next rows rises = record { pairs = rises.pairs; given = given_more next rows rises.given }

-- with the request of the next number at the end
pairs_push : (next : ℕ) (rows : List LockState) (last : LockState) → wanted_number last ≡ next → AllByRecursion (IsBelow next) rows → EachPair IsOlder rows
    → EachPair IsOlder (rows ++ last ∷ [])
pairs_push next [] last is given pairs = (tt, tt)
pairs_push next (row ∷ rows) last is given pairs = (
  each_append (IsOlder row) rows (last ∷ []) pairs.0 (subst (λ (n : ℕ). wanted_number row < n) (sym is) given.0, tt),
  pairs_push next rows last is given.1 pairs.1,
)

rises_push : (next : ℕ) (rows : List LockState) (last : LockState) → wanted_number last ≡ next → Rises next rows → Rises (next + 1) (rows ++ last ∷ [])
rises_push next rows last is rises = record {
  pairs = pairs_push next rows last is rises.given rises.pairs;
  given =
      each_append (IsBelow (next + 1)) rows (last ∷ []) (given_more next rows rises.given)
      (subst (λ (n : ℕ). n < next + 1) (sym is) (omega arith), tt);
}

-- ---- one resource

-- service grants the first rows of the queues
served_ordered : (next : ℕ) (block : ValueBlock) (r : Resource) → Ordered next r → Ordered next (served_with block r)
unfolding resource_after_warning
served_ordered next block r ordered =
    let order = service_in_order r in
    record {
      converting = subst (Rises next) (sym order.converting) (rises_drop next order.conversions r.converting ordered.converting);
      waiting = subst (Rises next) (sym order.waiting) (rises_drop next order.new_requests r.waiting ordered.waiting);
    }

-- a lock enters
entered_ordered : (next : ℕ) (row : LockState) → wanted_number row ≡ next → (at_once : Bool) (r : Resource) → Ordered next r
    → Ordered (next + 1) (resource_after_entry row at_once r)
unfolding resource_after_entry
entered_ordered next row is at_once r ordered =
    cond_both at_once (resource_after_grant r row) (record r { waiting = r.waiting ++ row ∷ [] }) (Ordered (next + 1))
    (λ _. record { converting = rises_more next r.converting ordered.converting; waiting = rises_more next r.waiting ordered.waiting })
    (λ _. record { converting = rises_more next r.converting ordered.converting; waiting = rises_push next r.waiting row is ordered.waiting })

-- a lock converts
found_ordered : (next : ℕ) (request : Request) → request.number ≡ next
    → (at_once : Bool) (lkid : ℕ) (block : ValueBlock) (r : Resource) (found : Option LockState)
    → Ordered next r → Ordered (next + 1) (resource_after_conversion_of request at_once lkid block r found)
found_ordered next request is at_once lkid block r None ordered =
    record { converting = rises_more next r.converting ordered.converting; waiting = rises_more next r.waiting ordered.waiting }
found_ordered next request is at_once lkid block r (Some row) ordered =
    cond_both at_once (with_value_block block (resource_after_grant (resource_without_granted lkid r) (wanting_row row request)))
    (record (resource_without_granted lkid r) { converting = r.converting ++ wanting_row row request ∷ [] }) (Ordered (next + 1))
    (λ _. record { converting = rises_more next r.converting ordered.converting; waiting = rises_more next r.waiting ordered.waiting })
    (λ _. record {
      converting = rises_push next r.converting (wanting_row row request) is ordered.converting;
      waiting = rises_more next r.waiting ordered.waiting;
    })

converted_ordered : (next : ℕ) (request : Request) → request.number ≡ next → (at_once : Bool) (pid lkid : ℕ) (block : ValueBlock) (r : Resource)
    → Ordered next r → Ordered (next + 1) (resource_after_conversion request at_once pid lkid block r)
unfolding resource_after_conversion
converted_ordered next request is at_once pid lkid block r ordered =
    found_ordered next request is at_once lkid block r (find (is_lock_of pid lkid) r.granted) ordered

-- a lock leaves something in the value block
left_ordered : (next : ℕ) (w : Withdrawal) (r : Resource) → Ordered next r → Ordered next (resource_after_writer w r)
left_ordered next w r ordered =
    cond_both (is_held_by_writer w.lkid r) (record r { value_block = value_block_after_writer w r.value_block }) r (Ordered next)
    (λ _. record { converting = ordered.converting; waiting = ordered.waiting }) (λ _. ordered)

-- a lock goes, or its request is cancelled
gone_ordered : (next : ℕ) (w : Withdrawal) (r : Resource) → Ordered next r → Ordered next (resource_after_going w r)
unfolding resource_without resource_after_cancel
gone_ordered next w r ordered =
    cond_both w.stays (resource_after_cancel w.lkid r) (resource_without w.lkid r) (Ordered next)
    (λ _. record { converting = rises_filter next _ r.converting ordered.converting; waiting = rises_filter next _ r.waiting ordered.waiting })
    (λ _. record { converting = rises_filter next _ r.converting ordered.converting; waiting = rises_filter next _ r.waiting ordered.waiting })

-- locks are withdrawn
withdrawn_ordered : (next : ℕ) (withdrawals : List Withdrawal) (r : Resource) → Ordered next r → Ordered next (resource_after_withdrawals withdrawals r)
withdrawn_ordered next = kept_withdrawn (Ordered next) (left_ordered next) (gone_ordered next)

-- ---- all resources

-- each resource is in order
abbrev AllOrdered : ℕ → List Resource → Type 0
AllOrdered next resources = AllByRecursion (Ordered next) resources

-- as the next number is given
ordered_more : (next : ℕ) (r : Resource) → Ordered next r → Ordered (next + 1) r
ordered_more next r ordered = record { converting = rises_more next r.converting ordered.converting; waiting = rises_more next r.waiting ordered.waiting }

-- an accepted request
request_ordered : (s : State) (e : NewRequest) → AllOrdered s.next_request s.resources → AllOrdered (s.next_request + 1) (enq_change s e).resources
unfolding enq_change
request_ordered s e each =
    let next = s.next_request in
    let row = enq_row s e in
    let site = enq_site s e in
    let empty : Rises next [] = record { pairs = tt; given = tt } in
    each_entered_at (Ordered (next + 1)) s.next_serial site row (enq_at_once s e)
    (entered_ordered next row refl (enq_at_once s e) (new_resource s.next_serial site) (record { converting = empty; waiting = empty }))
    s.resources
    (each_weaker (Ordered next) (λ r. is_at site.key r ≡ true → Ordered (next + 1) (resource_after_entry row (enq_at_once s e) r))
    (λ r ordered _. entered_ordered next row refl (enq_at_once s e) r ordered) s.resources each)
    (each_weaker (Ordered next) (Ordered (next + 1)) (ordered_more next) s.resources each)

-- an accepted conversion
conversion_ordered : (s : State) (c : Conversion) (a : ConversionAdmission) → convert_admission s c ≡ Some a → AllOrdered s.next_request s.resources
    → AllOrdered (s.next_request + 1) (convert_change s c a).resources
unfolding convert_change convert_admission
conversion_ordered s c a is each =
    let asks : a.request ≡ convert_request s c = admitted_request (convert_request s c) c.pid (convert_lkid s c) a s.resources is in
    each_map (Ordered s.next_request) (Ordered (s.next_request + 1))
    (resource_after_conversion a.request a.at_once c.pid (convert_lkid s c) (convert_blocks s c a).value_block)
    (converted_ordered s.next_request a.request (ap (λ (q : Request). q.number) asks) a.at_once c.pid (convert_lkid s c) (convert_blocks s c a).value_block)
    s.resources each

-- a sweep
swept_ordered : (t : State) → AllOrdered t.next_request t.resources → AllOrdered t.next_request (state_after_sweep t).resources
swept_ordered t = each_swept (Ordered t.next_request) (Ordered t.next_request) (served_ordered t.next_request) t.processes t.resources

-- after every run each resource is in order
ordered_always : (history : History) (last : State) → Run history last → AllOrdered last.next_request last.resources
unfolding declare_change set_change take_change enq_change convert_change state_after_rundown
ordered_always =
    always (λ _ s. AllOrdered s.next_request s.resources) tt
    (λ history s _ each.
    kept_by_stepped (λ _ t. AllOrdered t.next_request t.resources) history.endings s each
    (λ d _. swept_ordered (declare_change s d) each)
    (λ v _. swept_ordered (set_change s v) each)
    (λ taker _. swept_ordered (take_change s taker) each)
    (λ e _. swept_ordered (enq_change s e) (request_ordered s e each))
    (λ c a _ is. swept_ordered (convert_change s c a) (conversion_ordered s c a is each))
    (λ withdrawals _. swept_ordered (state_after_withdrawals withdrawals s)
    (each_map (Ordered s.next_request) (Ordered s.next_request) (resource_after_withdrawals withdrawals)
    (withdrawn_ordered s.next_request withdrawals) s.resources each))
    (λ is_one nodes _. swept_ordered (state_after_rundown is_one nodes s)
    (each_map (Ordered s.next_request) (Ordered s.next_request) (resource_after_withdrawals (rundowns is_one s))
    (withdrawn_ordered s.next_request (rundowns is_one s)) s.resources each)))

-- rows that rise by recursion rise by places
rise : (next : ℕ) (rows : List LockState) → Rises next rows → NumbersRise next rows
rise next rows rises = record {
  rising = AllPairs-from_recursion IsOlder rows rises.pairs;
  given = All-from_recursion (IsBelow next) rows rises.given;
}

-- after every run each queue is in the order of its requests
pub queue_order_always : (history : History) (last : State) → Run history last → QueuesAreInOrderOfRequests last
queue_order_always history last run =
    All-from_recursion (IsInOrderOfRequests last.next_request) last.resources
    (each_weaker (Ordered last.next_request) (IsInOrderOfRequests last.next_request)
    (λ r ordered. record {
      converting = rise last.next_request r.converting ordered.converting;
      waiting = rise last.next_request r.waiting ordered.waiting;
    })
    last.resources (ordered_always history last run))
