-- What each check that refuses says of the rule of its condition.
use Rattle.std.proofs.Common.{◌≡◌, ◌≢◌, ◌<◌, ◌/◌, ◌&&◌, ◌||◌, ℕ, Bool, true, false, cond, List, [], ◌∷◌, ◌++◌, length}
use Rattle.std.proofs.Common.{Option, None, Some, inl, inr, refl, sym, ap, subst, ◌∙◌, arith}
use Rattle.std.specs.Prelude.{◌==◌, All, Any, is_some, nat_le, nat_lt}
use Rattle.std.specs.List.{AllByRecursion, find, list_any}
use Rattle.std.proofs.lemmas.Bool.{and_cases, and_parts, eq-eqb, eqb-true, true≢false}
use Rattle.std.proofs.lemmas.Bool.Decides.{nat_tests}
use Rattle.std.proofs.lemmas.List.Elements.{All-from_recursion, recursion_from_All}
use Rattle.std.proofs.lemmas.List.Folds.{Any-from_list_any, list_any-append, list_any-from_Any}
use Rattle.vlm_words.specs.declared.conditions.Cond.TheVariants.{Accvio, Departed, Ivlockid, Nonexpr}
use Rattle.vlm_words.specs.declared.conditions.Cond.{Cond}
use Rattle.vlm_words.specs.declared.locks.LockState.{LockState}
use Rattle.vlm_words.specs.declared.steps.Which.TheVariants.{Id, Block}
use Rattle.vlm_words.specs.declared.steps.Which.{Which}
use Rattle.vlm_words.specs.State.{Process, Resource, State, node_at, process_of}
use Rattle.vlm_model.specs.StatusBlocks.{status_blocks_of}
use Rattle.vlm_words.specs.Rows.{is_lock_of}
use Rattle.vlm_model.specs.Checks.{caller_refusal, has_departed, holds_lock, lock_refusal, or_else, status_block_refusal, which_refusal}
use Rattle.vlm_model.specs.Laws.{StandsOn}
use Rattle.vlm_model.specs.Reasons.{HasDeparted, HasLock, HasNoBlock, IsAmong, IsGrantedSomewhere, IsNamedByNoBlock, IsNobody}
use Rattle.vlm_model.proofs.Each.{Any-here, Any-there, Any-weaker}
use Rattle.vlm_model.proofs.PassedChecks.{test_passes}
use Rattle.vlm_model.proofs.Holders.{is_lock, stands_held}

-- ---- a check and its rule

-- what the refusals of a check say
abbrev pub Says : (Cond → Type 0) → Option Cond → Type 0
Says B refusal = (c : Cond) → refusal ≡ Some c → B c

-- what two conditions that are the same say
same_cond : (B : Cond → Type 0) (a b : Cond) → Some a ≡ Some b → B a → B b
same_cond B a b same at = let is : a ≡ b = cc in subst B is at

-- none refuses
pub says_none : (B : Cond → Type 0) → Says B None
says_none B c is = cc

-- one refuses
pub says_some : (B : Cond → Type 0) (refusal : Cond) → B refusal → Says B (Some refusal)
says_some B refusal at c is = same_cond B refusal c is at

-- the first of two checks that refuses
pub says_either : (B : Cond → Type 0) (first later : Option Cond) → Says B first → (first ≡ None → Says B later) → Says B (or_else first later)
says_either B None later at_first at_later c is = at_later refl c is
says_either B (Some refusal) later at_first at_later c is = at_first c is

-- a check that passes where its test does
pub says_unless : (B : Cond → Type 0) (test : Bool) (refusal : Cond) → (test ≡ false → B refusal) → Says B (cond test None (Some refusal))
says_unless B true refusal at = says_none B
says_unless B false refusal at = says_some B refusal (at refl)

-- a check that refuses where its test passes
pub says_where : (B : Cond → Type 0) (test : Bool) (refusal : Cond) → (test ≡ true → B refusal) → Says B (cond test (Some refusal) None)
says_where B true refusal at = says_some B refusal (at refl)
says_where B false refusal at = says_none B

-- ---- lists

-- what is found is one of which it holds
pub Any_found : {X : Type 0} (P : X → Type 0) (test : X → Bool) (xs : List X) (z : X) → find test xs ≡ Some z → P z → Any P xs
Any_found P test [] z is at = cc
Any_found {X} P test (x ∷ xs) z is at = of_test (test x) is (λ later. Any_found P test xs z later at)
  where
    of_test : (b : Bool) → cond b (Some x) (find test xs) ≡ Some z → (find test xs ≡ Some z → Any P xs) → Any P (x ∷ xs)
    of_test true first behind = let same : z ≡ x = cc in Any-here P x xs (subst P same at)
    of_test false later behind = Any-there P x xs (behind later)

-- what is so of each is not otherwise of any
pub all_or_any : {X : Type 0} (P Q : X → Type 0) → ((x : X) → P x → Q x → ⊥) → (xs : List X) → All P xs → Any Q xs → ⊥
all_or_any P Q never xs all any = never any.1 (subst P any.3 (all any.0 any.1 any.2)) any.4

-- where a test finds nothing, no element passes it
pub none_found : {X : Type 0} (test : X → Bool) (xs : List X) → find test xs ≡ None → AllByRecursion (λ x. test x ≡ false) xs
none_found test [] is = tt
none_found {X} test (x ∷ xs) is = of_test (test x) refl is (none_found test xs)
  where
    of_test : (b : Bool) → test x ≡ b → cond b (Some x) (find test xs) ≡ None → (find test xs ≡ None → AllByRecursion (λ y. test y ≡ false) xs)
        → AllByRecursion (λ y. test y ≡ false) (x ∷ xs)
    of_test true here found behind = cc
    of_test false here found behind = (here, behind found)

-- a test that no element passes finds nothing
pub finds_none : {X : Type 0} (test : X → Bool) (xs : List X) → AllByRecursion (λ x. test x ≡ true → ⊥) xs → (z : X) → find test xs ≡ Some z → ⊥
finds_none test [] none z is = cc
finds_none {X} test (x ∷ xs) none z is = of_test (test x) refl is (finds_none test xs none.1 z)
  where
    of_test : (b : Bool) → test x ≡ b → cond b (Some x) (find test xs) ≡ Some z → (find test xs ≡ Some z → ⊥) → ⊥
    of_test true here found behind = none.0 here
    of_test false here found behind = behind found

-- ---- the caller

-- the test of a departed node
departed_node : (s : State) (node : ℕ) → has_departed s.nodes node ≡ true → HasDeparted s node
departed_node s node is =
    let parts = and_parts (nat_lt 0 node) (node_at s.nodes node).departed is in (grind (arith, nat_tests, parts.0), parts.1)

-- where the test fails, it has not
pub node_departed : (s : State) (node : ℕ) → has_departed s.nodes node ≡ false → HasDeparted s node → ⊥
node_departed s node is departed =
    elim (and_cases (nat_lt 0 node) (node_at s.nodes node).departed is) [
      | inl none ↦ (let first : 0 < node = departed.0 in grind (arith, nat_tests, none, first))
      | inr here ↦ true≢false (sym departed.1 ∙ here)
    ]

-- what the refusal of a departed node says
pub says_departed : (B : Cond → Type 0) (s : State) (node : ℕ) → (HasDeparted s node → B Departed)
    → (later : Option Cond) → (has_departed s.nodes node ≡ false → Says B later) → Says B (cond (has_departed s.nodes node) (Some Departed) later)
says_departed B s node departed later at_later = of_test (has_departed s.nodes node) refl
  where
    of_test : (b : Bool) → has_departed s.nodes node ≡ b → Says B (cond b (Some Departed) later)
    of_test true is = says_some B Departed (departed (departed_node s node is))
    of_test false is = at_later is

-- the caller that is none
pub nobody : (s : State) (pid : ℕ) → is_some (process_of s.processes pid) ≡ false → IsNobody s pid
nobody s pid is =
    All-from_recursion (λ p. p.pid ≢ pid) s.processes
    (of_found (process_of s.processes pid) is refl)
  where
    not_same : (processes : List Process) → AllByRecursion (λ p. (p.pid == pid) ≡ false) processes → AllByRecursion (λ p. p.pid ≢ pid) processes
    not_same [] each = tt
    not_same (p ∷ rest) each = ((λ same. true≢false (sym (eq-eqb p.pid pid same) ∙ each.0)), not_same rest each.1)

    of_found : (found : Option Process) → is_some found ≡ false → process_of s.processes pid ≡ found → AllByRecursion (λ p. p.pid ≢ pid) s.processes
    of_found None none is = not_same s.processes (none_found (λ p. p.pid == pid) s.processes is)
    of_found (Some p) none is = cc

-- what the refusal of a caller says
pub says_caller : (B : Cond → Type 0) (s : State) (pid : ℕ) → (HasDeparted s (pid / 65536) → B Departed) → (IsNobody s pid → B Nonexpr)
    → Says B (caller_refusal s pid)
unfolding caller_refusal
says_caller B s pid departed none =
    says_departed B s (pid / 65536) departed (cond (is_some (process_of s.processes pid)) None (Some Nonexpr))
    (λ _. says_unless B (is_some (process_of s.processes pid)) Nonexpr (λ is. none (nobody s pid is)))

-- a caller that passes
pub record IsCaller (s : State) (pid : ℕ) : Type 0 where
  pub caller : Process
  pub lives : process_of s.processes pid ≡ Some caller
  pub stays : HasDeparted s (pid / 65536) → ⊥

-- it is somebody
pub is_somebody : (s : State) (pid : ℕ) → IsCaller s pid → IsNobody s pid → ⊥
is_somebody s pid caller none =
    finds_none (λ p. p.pid == pid) s.processes (each s.processes (recursion_from_All (λ p. p.pid ≢ pid) s.processes none)) caller.caller caller.lives
  where
    each : (processes : List Process) → AllByRecursion (λ p. p.pid ≢ pid) processes → AllByRecursion (λ p. (p.pid == pid) ≡ true → ⊥) processes
    each [] all = tt
    each (p ∷ rest) all = ((λ same. all.0 (eqb-true p.pid pid same)), each rest all.1)

-- where the check of the caller passes, it is there
pub caller_passes : (s : State) (pid : ℕ) → caller_refusal s pid ≡ None → IsCaller s pid
unfolding caller_refusal
caller_passes s pid passed = of_tests (has_departed s.nodes (pid / 65536)) (process_of s.processes pid) refl refl passed
  where
    of_tests : (departed : Bool) (found : Option Process) → has_departed s.nodes (pid / 65536) ≡ departed → process_of s.processes pid ≡ found
        → cond departed (Some Departed) (cond (is_some found) None (Some Nonexpr)) ≡ None → IsCaller s pid
    of_tests true found left is passed = cc
    of_tests false None left is passed = cc
    of_tests false (Some p) left is passed = record { caller = p; lives = is; stays = node_departed s (pid / 65536) left }

-- ---- status blocks

-- the test that the process has a status block of this number
abbrev pub has_block : State → ℕ → ℕ → Bool
has_block s pid block = nat_lt 0 block && nat_le block (length (status_blocks_of s.processes pid))

-- where the test fails, it has none
no_block : (s : State) (pid block : ℕ) → IsCaller s pid → has_block s pid block ≡ false → HasNoBlock s pid block
no_block s pid block caller is =
    let blocks : length (status_blocks_of s.processes pid) ≡ length caller.caller.blocks = rw (caller.lives) refl in (
      caller.caller,
      caller.lives,
      elim (and_cases (nat_lt 0 block) (nat_le block (length (status_blocks_of s.processes pid))) is) [
        | inl none ↦ inl (grind (arith, nat_tests, none))
        | inr past ↦ inr (grind (arith, nat_tests, past, blocks))
      ],
    )

-- and where it passes, it has it
some_block : (s : State) (pid block : ℕ) → has_block s pid block ≡ true → HasNoBlock s pid block → ⊥
some_block s pid block is broken =
    let blocks : length (status_blocks_of s.processes pid) ≡ length broken.0.blocks = rw (broken.1) refl in
    let parts = and_parts (nat_lt 0 block) (nat_le block (length (status_blocks_of s.processes pid))) is in
    elim (broken.2) [
      | inl is_0 ↦ grind (arith, nat_tests, parts.0, is_0)
      | inr past ↦ grind (arith, nat_tests, parts.1, past, blocks)
    ]

-- what the refusal of a status block says
pub says_block : (B : Cond → Type 0) (s : State) (pid block : ℕ) → IsCaller s pid → (HasNoBlock s pid block → B Accvio)
    → Says B (status_block_refusal s pid block)
unfolding status_block_refusal
says_block B s pid block caller at = says_unless B (has_block s pid block) Accvio (λ is. at (no_block s pid block caller is))

-- where the check passes, it has it
pub block_passes : (s : State) (pid block : ℕ) → status_block_refusal s pid block ≡ None → HasNoBlock s pid block → ⊥
unfolding status_block_refusal
block_passes s pid block passed = some_block s pid block (test_passes (has_block s pid block) Accvio passed)

-- what the refusal of the naming of a lock says
pub says_which : (B : Cond → Type 0) (s : State) (pid : ℕ) (which : Which) → IsCaller s pid → (IsNamedByNoBlock s pid which → B Accvio)
    → Says B (which_refusal s pid which)
unfolding which_refusal
says_which B s pid (Id lkid) caller at = says_none B
says_which B s pid (Block number) caller at = says_block B s pid number caller at

-- where the check passes, it is named otherwise, or by a status block that is there
pub which_passes : (s : State) (pid : ℕ) (which : Which) → which_refusal s pid which ≡ None → IsNamedByNoBlock s pid which → ⊥
unfolding which_refusal
which_passes s pid (Id lkid) passed broken = broken
which_passes s pid (Block number) passed broken = block_passes s pid number passed broken

-- ---- locks

-- a lock stands where the law says, if the test says so
pub lock_is : (pid lkid : ℕ) (row : LockState) → is_lock_of pid lkid row ≡ true → (row.lkid ≡ lkid) × (row.pid ≡ pid)
lock_is pid lkid row is =
    let parts = and_parts (row.lkid == lkid) (row.pid == pid) is in (eqb-true row.lkid lkid parts.0, eqb-true row.pid pid parts.1)

-- a lock is among the rows, if the test says so
pub among : (pid lkid : ℕ) (rows : List LockState) → list_any (is_lock_of pid lkid) rows ≡ true → IsAmong lkid pid rows
among pid lkid rows there =
    Any-weaker (λ (row : LockState). is_lock_of pid lkid row ≡ true) (λ row. (row.lkid ≡ lkid) × (row.pid ≡ pid)) (lock_is pid lkid) rows
    (Any-from_list_any (is_lock_of pid lkid) rows there)

-- and the test says so where it is
pub among_found : (pid lkid : ℕ) (rows : List LockState) → IsAmong lkid pid rows → list_any (is_lock_of pid lkid) rows ≡ true
among_found pid lkid rows there =
    list_any-from_Any (is_lock_of pid lkid) rows
    (Any-weaker (λ (row : LockState). (row.lkid ≡ lkid) × (row.pid ≡ pid)) (λ row. is_lock_of pid lkid row ≡ true) (is_lock pid lkid) rows there)

-- a test of the rows of all three queues
pub over_queues : (test : LockState → Bool) (r : Resource)
    → list_any test (r.granted ++ r.converting ++ r.waiting) ≡ (list_any test r.granted || list_any test r.converting || list_any test r.waiting)
over_queues test r =
    list_any-append test (r.granted ++ r.converting) r.waiting
    ∙ ap (λ (b : Bool). b || list_any test r.waiting) (list_any-append test r.granted r.converting)

-- and so on a resource
pub held_stands : (pid lkid : ℕ) (r : Resource) → holds_lock pid lkid r ≡ true → StandsOn lkid pid r
held_stands pid lkid r held = among pid lkid (r.granted ++ r.converting ++ r.waiting) (over_queues (is_lock_of pid lkid) r ∙ held)

-- a test that some resource passes, some does
pub any_resource : (P : Resource → Type 0) (test : Resource → Bool) → ((r : Resource) → test r ≡ true → P r) → (resources : List Resource)
    → list_any test resources ≡ true → Any P resources
any_resource P test so resources any = Any-weaker (λ r. test r ≡ true) P so resources (Any-from_list_any test resources any)

-- and the other way round
pub resource_any : (P : Resource → Type 0) (test : Resource → Bool) → ((r : Resource) → P r → test r ≡ true) → (resources : List Resource)
    → Any P resources → list_any test resources ≡ true
resource_any P test so resources any = list_any-from_Any test resources (Any-weaker P (λ r. test r ≡ true) so resources any)

-- a test that fails, nothing passes
pub no_resource : (P : Resource → Type 0) (test : Resource → Bool) → ((r : Resource) → P r → test r ≡ true) → (resources : List Resource)
    → list_any test resources ≡ false → Any P resources → ⊥
no_resource P test so resources none any = true≢false (sym (resource_any P test so resources any) ∙ none)

-- what the refusal of a lock that is none of the caller's says
pub says_lock : (B : Cond → Type 0) (s : State) (pid lkid : ℕ) → ((HasLock s pid lkid → ⊥) → B Ivlockid) → Says B (lock_refusal s pid lkid)
unfolding lock_refusal
says_lock B s pid lkid at =
    says_unless B (list_any (holds_lock pid lkid) s.resources) Ivlockid
    (λ is. at (no_resource (StandsOn lkid pid) (holds_lock pid lkid) (stands_held pid lkid) s.resources is))

-- where it passes, the lock is the caller's
pub lock_passes : (s : State) (pid lkid : ℕ) → lock_refusal s pid lkid ≡ None → HasLock s pid lkid
unfolding lock_refusal
lock_passes s pid lkid passed =
    any_resource (StandsOn lkid pid) (holds_lock pid lkid) (held_stands pid lkid) s.resources
    (test_passes (list_any (holds_lock pid lkid) s.resources) Ivlockid passed)

-- the test that a granted queue has the lock
abbrev pub is_granted_on : ℕ → ℕ → Resource → Bool
is_granted_on pid lkid r = list_any (is_lock_of pid lkid) r.granted

-- what it says
pub granted_somewhere : (s : State) (pid lkid : ℕ) → list_any (is_granted_on pid lkid) s.resources ≡ true → IsGrantedSomewhere s pid lkid
granted_somewhere s pid lkid is =
    any_resource (λ r. IsAmong lkid pid r.granted) (is_granted_on pid lkid) (λ r here. among pid lkid r.granted here) s.resources is

-- and what it says where it fails
pub granted_nowhere : (s : State) (pid lkid : ℕ) → list_any (is_granted_on pid lkid) s.resources ≡ false → IsGrantedSomewhere s pid lkid → ⊥
granted_nowhere s pid lkid is =
    no_resource (λ r. IsAmong lkid pid r.granted) (is_granted_on pid lkid) (λ r here. among_found pid lkid r.granted here) s.resources is
