-- What a new request that is refused breaks, and that one that is accepted breaks nothing.
use Rattle.std.proofs.Common.{◌≡◌, ◌≢◌, ◌≤◌, ◌<◌, ◌^◌, ◌&&◌, ◌||◌, ℕ, zero, suc, Bool, true, false, not, cond, List, []}
use Rattle.std.proofs.Common.{◌∷◌, length, Option, None, Some, inl, inr, refl, sym, ap, subst, ◌∙◌, arith}
use Rattle.std.specs.Prelude.{◌==◌, Any, nat_le, nat_lt, unwrap_or, Ok, Err}
use Rattle.std.specs.List.{AllByRecursion, find, list_all, list_any}
use Rattle.std.specs.Result.{result_err}
use Rattle.std.proofs.lemmas.Bool.{and_cases, and_from, and_parts, cond-false, eq-eqb, eqb-true, ne_eqb, not-false, not-true, or_parts, or_right, true≢false}
use Rattle.std.proofs.lemmas.Bool.Decides.{nat_tests}
use Rattle.std.proofs.lemmas.List.Elements.{recursion_from_All}
use Rattle.vlm_words.specs.declared.conditions.Cond.TheVariants.{Accvio, Badparam, Departed, Exdepth, Exenqlm, Ivbuflen}
use Rattle.vlm_words.specs.declared.conditions.Cond.TheVariants.{Ivlockid, Nolockid, Nonexpr, Nosyslck, Notqueued}
use Rattle.vlm_words.specs.declared.conditions.Cond.TheVariants.{Parnotgrant, Unsupported}
use Rattle.vlm_words.specs.declared.conditions.Cond.{Cond}
use Rattle.vlm_words.specs.declared.locks.Request.{Request}
use Rattle.vlm_words.specs.declared.locks.LockState.{LockState}
use Rattle.vlm_words.specs.declared.modes.Mode.{Mode}
use Rattle.vlm_words.specs.declared.resources.Domain.{Domain}
use Rattle.vlm_words.specs.declared.resources.Domain.TheVariants.{Group, System}
use Rattle.vlm_words.specs.declared.steps.NewRequest.{NewRequest}
use Rattle.vlm_words.specs.Names.{is_name, name_of}
use Rattle.vlm_words.specs.Modes.{rank}
use Rattle.vlm_words.specs.Flags.{enq_bits, expedite, has_flag, is_known, noqueue, system}
use Rattle.vlm_words.specs.State.{Process, Resource, State, process_of}
use Rattle.vlm_words.specs.Rows.{fits, is_beside, is_lock_of}
use Rattle.vlm_words.specs.Resources.{is_at, key_name, key_parent, new_resource}
use Rattle.vlm_model.specs.Checks.{caller_refusal, holds_lock, lock_refusal, numbers_refusal, or_else, queue_refusal}
use Rattle.vlm_model.specs.Checks.{request_flags_refusal, status_block_refusal, which_refusal}
use Rattle.vlm_model.specs.Quotas.{locks_of, quota_of, quota_refusal}
use Rattle.vlm_model.specs.Trees.{caller_group, depth_refusal, enq_site, has_syslck, parent_lkid, parent_refusal}
use Rattle.vlm_model.specs.Trees.{parent_resource, privilege_refusal, root_domain, site_below, site_refusal}
use Rattle.vlm_model.specs.Trees.{waiting_refusal}
use Rattle.vlm_model.specs.Enqueue.{enq_at_once, enq_form_refusal, enq_key, enq_limit_refusal, enq_refusal, enq_request}
use Rattle.vlm_model.specs.Enqueue.{enq_resource, expedite_refusal, is_at_once, is_free_for, name_refusal}
use Rattle.vlm_model.specs.Laws.{IsAskedFor, IsBeside, IsFreeFor, IsRootDomain, StandsAsAskedFor, StandsOn}
use Rattle.vlm_model.specs.Reasons.{HasLock, IsAmong, RequestBreaks}
use Rattle.vlm_model.proofs.Each.{Any-weaker, found_at}
use Rattle.vlm_model.proofs.PassedChecks.{both_pass, enq_passes, expedited_is_null, second_fails, test_fails, test_passes, three_pass}
use Rattle.vlm_model.proofs.IdsApart.{Apart}
use Rattle.vlm_model.proofs.Holders.{IsHolder, only_holder}
use Rattle.vlm_model.proofs.Keys.{Placed, enq_keyed, key_at}
use Rattle.vlm_model.proofs.GrantsAtOnce.{enters_in_turn, found_pid, no_zero, parent_by_lkid}
use Rattle.vlm_model.proofs.Quotas.{all_counted, room_left}
use Rattle.vlm_model.proofs.NewlyRooted.{any_found}
use Rattle.vlm_model.proofs.FlagBits.{request_flag_unknown, request_flags_known}
use Rattle.vlm_model.proofs.ReasonsOfConversions.{beside_passes}
use Rattle.vlm_model.proofs.Refusals.{Any_found, IsCaller, Says, all_or_any, among, among_found, block_passes}
use Rattle.vlm_model.proofs.Refusals.{caller_passes, held_stands, is_somebody, lock_passes, says_block, says_caller}
use Rattle.vlm_model.proofs.Refusals.{says_either, says_lock, says_none, says_some, says_unless, says_where, says_which}
use Rattle.vlm_model.proofs.Refusals.{which_passes}

-- ---- the parent lock

-- a number that is not tested 0 is not 0
not_zero : (n : ℕ) → (n == 0) ≡ false → n ≢ 0
not_zero n is same = true≢false (sym (eq-eqb n 0 same) ∙ is)

-- the resource of a parent lock that is named is the one on which it is found
named_resource : (s : State) (pid lkid : ℕ) → (lkid == 0) ≡ false → parent_resource s pid lkid ≡ find (holds_lock pid lkid) s.resources
unfolding parent_resource
named_resource s pid lkid is = cond-false (lkid == 0) None (find (holds_lock pid lkid) s.resources) is

-- what the refusal of a parent lock that waits says
says_waiting : (B : Cond → Type 0) (s : State) (pid lkid : ℕ) → (lkid == 0) ≡ false → (Any (λ r. IsAmong lkid pid r.waiting) s.resources → B Parnotgrant)
    → Says B (waiting_refusal pid lkid (parent_resource s pid lkid))
unfolding waiting_refusal
says_waiting B s pid lkid named at = of_parent (parent_resource s pid lkid) refl
  where
    of_parent : (parent : Option Resource) → parent_resource s pid lkid ≡ parent → Says B (waiting_refusal pid lkid parent)
    of_parent None is = says_none B
    of_parent (Some up) is =
        says_where B (list_any (is_lock_of pid lkid) up.waiting) Parnotgrant
        (λ waits. at (Any_found (λ r. IsAmong lkid pid r.waiting) (holds_lock pid lkid) s.resources up (sym (named_resource s pid lkid named) ∙ is)
        (among pid lkid up.waiting waits)))

-- what the refusal of the lowest level says
says_depth : (B : Cond → Type 0) (s : State) (pid lkid : ℕ) → (lkid == 0) ≡ false
    → (Any (λ r. StandsOn lkid pid r × (15 ≤ r.level)) s.resources → B Exdepth) → Says B (depth_refusal (parent_resource s pid lkid))
unfolding depth_refusal
says_depth B s pid lkid named at = of_parent (parent_resource s pid lkid) refl
  where
    of_parent : (parent : Option Resource) → parent_resource s pid lkid ≡ parent → Says B (depth_refusal parent)
    of_parent None is = says_none B
    of_parent (Some up) is =
        let found : find (holds_lock pid lkid) s.resources ≡ Some up = sym (named_resource s pid lkid named) ∙ is in
        says_unless B (nat_lt up.level 15) Exdepth
        (λ low. at (Any_found (λ r. StandsOn lkid pid r × (15 ≤ r.level)) (holds_lock pid lkid) s.resources up found
        (held_stands pid lkid up (found_at (holds_lock pid lkid) s.resources up found).passes, grind (arith, nat_tests, low))))

-- what the refusal of the parent says
parent_breaks : (s : State) (e : NewRequest) → Says (RequestBreaks s e) (parent_refusal s e.pid (parent_lkid s e))
unfolding parent_refusal
parent_breaks s e = of_test (parent_lkid s e == 0) refl
  where
    B : Cond → Type 0
    B = RequestBreaks s e

    of_test : (b : Bool) → (parent_lkid s e == 0) ≡ b
        → Says B (cond b None (or_else (lock_refusal s e.pid (parent_lkid s e))
        (or_else (waiting_refusal e.pid (parent_lkid s e) (parent_resource s e.pid (parent_lkid s e)))
        (depth_refusal (parent_resource s e.pid (parent_lkid s e))))))
    of_test true is = says_none B
    of_test false is =
        says_either B (lock_refusal s e.pid (parent_lkid s e)) _
        (says_lock B s e.pid (parent_lkid s e) (λ none. (not_zero (parent_lkid s e) is, none)))
        (λ _. says_either B (waiting_refusal e.pid (parent_lkid s e) (parent_resource s e.pid (parent_lkid s e)))
        (depth_refusal (parent_resource s e.pid (parent_lkid s e)))
        (says_waiting B s e.pid (parent_lkid s e) is (λ waits. (not_zero (parent_lkid s e) is, waits)))
        (λ _. says_depth B s e.pid (parent_lkid s e) is (λ low. (not_zero (parent_lkid s e) is, low))))

-- the parent lock of an accepted request: it is its caller's, does not wait, and is above the lowest level
record ParentPasses (s : State) (pid lkid : ℕ) : Type 0 where
  has : HasLock s pid lkid
  there : (up : Resource) × (find (holds_lock pid lkid) s.resources ≡ Some up)
  waits : Any (λ r. IsAmong lkid pid r.waiting) s.resources → ⊥
  low : Any (λ r. StandsOn lkid pid r × (15 ≤ r.level)) s.resources → ⊥

-- where its checks pass
parent_passes : (s : State) (pid lkid : ℕ) → Apart s → parent_refusal s pid lkid ≡ None → (lkid == 0) ≡ false → ParentPasses s pid lkid
unfolding parent_refusal waiting_refusal depth_refusal lock_refusal
parent_passes s pid lkid apart passed named =
    let each = three_pass (lock_refusal s pid lkid) (waiting_refusal pid lkid (parent_resource s pid lkid)) (depth_refusal (parent_resource s pid lkid))
    (subst (λ (b : Bool). cond b None (or_else (lock_refusal s pid lkid)
    (or_else (waiting_refusal pid lkid (parent_resource s pid lkid)) (depth_refusal (parent_resource s pid lkid)))) ≡ None) named passed) in
    record {
      has = lock_passes s pid lkid each.0;
      there = any_found (holds_lock pid lkid) s.resources (test_passes (list_any (holds_lock pid lkid) s.resources) Ivlockid each.0);
      waits = λ any.
          let up : IsHolder pid lkid (λ r. IsAmong lkid pid r.waiting) s.resources =
          only_holder pid lkid (λ r. IsAmong lkid pid r.waiting) s.resources (apart.one_row lkid)
          (Any-weaker (λ r. IsAmong lkid pid r.waiting) (λ r. StandsOn lkid pid r
          × IsAmong lkid pid r.waiting) (λ r so. (waits_on r so, so)) s.resources any) in
          true≢false (sym (among_found pid lkid up.holder.waiting up.so)
          ∙ test_fails (list_any (is_lock_of pid lkid) up.holder.waiting) Parnotgrant
          (subst (λ (parent : Option Resource). waiting_refusal pid lkid parent ≡ None) (named_resource s pid lkid named ∙ up.found) each.1));
      low = λ any.
          let up : IsHolder pid lkid (λ r. 15 ≤ r.level) s.resources =
          only_holder pid lkid (λ r. 15 ≤ r.level) s.resources (apart.one_row lkid) any in
          let above : nat_lt up.holder.level 15 ≡ true =
          test_passes (nat_lt up.holder.level 15) Exdepth
          (subst (λ (parent : Option Resource). depth_refusal parent ≡ None) (named_resource s pid lkid named ∙ up.found) each.2) in
          grind (arith, nat_tests, above, up.so);
    }
  where
    waits_on : (r : Resource) → IsAmong lkid pid r.waiting → StandsOn lkid pid r
    waits_on r so = held_stands pid lkid r (or_right (list_any (is_lock_of pid lkid) r.granted || list_any (is_lock_of pid lkid) r.converting)
        (list_any (is_lock_of pid lkid) r.waiting) (among_found pid lkid r.waiting so))

-- ---- its turn

-- the domain of a root
in_domain : (s : State) (e : NewRequest) (p : Process) → process_of s.processes e.pid ≡ Some p → (flagged : Bool) (domain : Domain)
    → domain ≡ cond flagged System (Group (caller_group s e.pid)) → IsRootDomain flagged p domain
in_domain s e p lives true domain is = is
in_domain s e p lives false domain is = let group : caller_group s e.pid ≡ p.group = rw lives refl in is ∙ ap Group group

-- what stands under the key of a request is what it asks for
pub asked_for : (s : State) (e : NewRequest) (r : Resource) → IsCaller s e.pid → Apart s → Placed s
    → parent_refusal s e.pid (parent_lkid s e) ≡ None → is_at (enq_key s e) r ≡ true → IsAskedFor s e r
asked_for s e r caller apart placed passed at =
    let all = of_lkid (parent_lkid s e) refl in
    record { caller = caller.caller; lives = caller.lives; name = all.1; stands = all.0 }
  where
    facts : (parent : Option Resource) → parent_resource s e.pid (parent_lkid s e) ≡ parent
        → (r.parent ≡ key_parent (site_below (root_domain s e.pid e.flags) e.name parent).key)
        × (r.parent ≡ 0 → r.domain ≡ (site_below (root_domain s e.pid e.flags) e.name parent).domain)
        × (r.name ≡ key_name (site_below (root_domain s e.pid e.flags) e.name parent).key)
    facts parent is =
        subst (λ (p : Option Resource). (r.parent ≡ key_parent (site_below (root_domain s e.pid e.flags) e.name p).key)
        × (r.parent ≡ 0 → r.domain ≡ (site_below (root_domain s e.pid e.flags) e.name p).domain)
        × (r.name ≡ key_name (site_below (root_domain s e.pid e.flags) e.name p).key)) is
        (key_at (enq_site s e).domain (enq_key s e) r (enq_keyed s e placed) at)

    of_lkid : (lkid : ℕ) → parent_lkid s e ≡ lkid → StandsAsAskedFor s e caller.caller lkid r × (r.name ≡ e.name)
    of_lkid zero is =
        let root = facts None (parent_by_lkid s e 0 is) in
        ((root.0, in_domain s e caller.caller caller.lives (has_flag e.flags system) r.domain (root.1 root.0)), root.2)
    of_lkid (suc n) is =
        let named : (parent_lkid s e == 0) ≡ false = ap (λ (m : ℕ). m == 0) is ∙ no_zero n in
        let there = (parent_passes s e.pid (parent_lkid s e) apart passed named).there in
        let sub = facts (Some there.0) (named_resource s e.pid (parent_lkid s e) named ∙ there.1) in
        let stands : StandsOn (suc n) caller.caller.pid there.0 =
        subst (λ (lkid : ℕ). StandsOn lkid caller.caller.pid there.0) is
        (subst (λ (pid : ℕ). StandsOn (parent_lkid s e) pid there.0) (sym (found_pid e.pid s.processes caller.caller caller.lives))
        (held_stands e.pid (parent_lkid s e) there.0 (found_at (holds_lock e.pid (parent_lkid s e)) s.resources there.0 there.1).passes)) in (
          Any_found (λ up. StandsOn (suc n) caller.caller.pid up × (r.parent ≡ up.serial)) (holds_lock e.pid (parent_lkid s e)) s.resources there.0 there.1
              (stands, sub.0),
          sub.2,
        )

-- a mode that may be held beside each row passes
all_beside : (mode : Mode) (rows : List LockState) → AllByRecursion (λ row. IsBeside mode row.held) rows → list_all (λ row. is_beside mode row.held) rows ≡ true
all_beside mode [] each = refl
all_beside mode (row ∷ rows) each =
    and_from (is_beside mode row.held) (list_all (λ x. is_beside mode x.held) rows) (beside_passes mode row.held each.0) (all_beside mode rows each.1)

-- a resource that is free for the mode
pub free_passes : (request : Request) (r : Resource) → IsFreeFor request.mode r → is_free_for request r ≡ true
unfolding fits
free_passes request r free =
    let granted : list_all (λ row. is_beside request.mode row.held) r.granted ≡ true =
    all_beside request.mode r.granted (recursion_from_All (λ row. IsBeside request.mode row.held) r.granted free.beside) in
    rw (granted, free.no_conversions, free.nobody_waits) refl

-- a new resource is free
pub new_is_free : (request : Request) (s : State) (e : NewRequest) → is_free_for request (new_resource s.next_serial (enq_site s e)) ≡ true
unfolding fits
new_is_free request s e = refl

-- a request that is not granted at once asks for a resource that is not free
not_free : (s : State) (e : NewRequest) → IsCaller s e.pid → Apart s → Placed s → parent_refusal s e.pid (parent_lkid s e) ≡ None
    → is_free_for (enq_request s e) (enq_resource s e) ≡ false → Any (λ r. IsAskedFor s e r × (IsFreeFor e.mode r → ⊥)) s.resources
unfolding enq_resource
not_free s e caller apart placed passed taken = of_found (find (is_at (enq_key s e)) s.resources) refl taken
  where
    of_found : (found : Option Resource) → find (is_at (enq_key s e)) s.resources ≡ found
        → is_free_for (enq_request s e) (unwrap_or found (new_resource s.next_serial (enq_site s e))) ≡ false
        → Any (λ r. IsAskedFor s e r × (IsFreeFor e.mode r → ⊥)) s.resources
    of_found None is taken = absurd (true≢false (sym (new_is_free (enq_request s e) s e) ∙ taken))
    of_found (Some r) is taken =
        Any_found (λ x. IsAskedFor s e x × (IsFreeFor e.mode x → ⊥)) (is_at (enq_key s e)) s.resources r is (
          asked_for s e r caller apart placed passed (found_at (is_at (enq_key s e)) s.resources r is).passes,
          λ free. true≢false (sym (free_passes (enq_request s e) r free) ∙ taken),
        )

-- what the refusal to queue says
queue_breaks : (s : State) (e : NewRequest) → IsCaller s e.pid → Apart s → Placed s → parent_refusal s e.pid (parent_lkid s e) ≡ None
    → (has_flag e.flags noqueue && not (enq_at_once s e)) ≡ true → RequestBreaks s e Notqueued
unfolding is_at_once
queue_breaks s e caller apart placed passed both =
    let parts = and_parts (has_flag e.flags noqueue) (not (enq_at_once s e)) both in
    let waits = or_parts (has_flag e.flags expedite) (is_free_for (enq_request s e) (enq_resource s e)) (not-true (enq_at_once s e) parts.1) in
    (parts.0, waits.0, not_free s e caller apart placed passed waits.1)

-- an accepted request with NOQUEUE asks for no resource that is not free
queue_keeps : (s : State) (e : NewRequest) → Apart s → Placed s → enq_refusal s e ≡ None
    → (has_flag e.flags noqueue && not (enq_at_once s e)) ≡ false → RequestBreaks s e Notqueued → ⊥
queue_keeps s e apart placed passed queue broken =
    let at_once : enq_at_once s e ≡ true = not-false (enq_at_once s e) (second_fails (has_flag e.flags noqueue) (not (enq_at_once s e)) queue broken.0) in
    elim (enters_in_turn s e apart placed passed at_once) [
      | inl all ↦ all_or_any (λ r. IsAskedFor s e r → IsFreeFor e.mode r) (λ r. IsAskedFor s e r × (IsFreeFor e.mode r → ⊥))
          (λ r free so. so.1 (free so.0)) s.resources all broken.2
      | inr expedited ↦ true≢false (sym expedited.0 ∙ broken.1)
    ]

-- ---- its rules

-- what the refusal of a name says
name_breaks : (s : State) (e : NewRequest) → Says (RequestBreaks s e) (name_refusal e.name)
unfolding name_refusal name_of
name_breaks s e = of_test (is_name e.name) refl
  where
    of_test : (b : Bool) → is_name e.name ≡ b → Says (RequestBreaks s e) (result_err (cond b (Ok e.name) (Err Ivbuflen)))
    of_test true is = says_none (RequestBreaks s e)
    of_test false is =
        says_some (RequestBreaks s e) Ivbuflen
        (elim (and_cases (nat_lt 0 (length e.name)) (nat_le (length e.name) 31) is) [
          | inl none ↦ inl (grind (arith, nat_tests, none))
          | inr long ↦ inr (grind (arith, nat_tests, long))
        ])

-- an accepted name has 1 to 31 bytes
name_keeps : (s : State) (e : NewRequest) → name_refusal e.name ≡ None → RequestBreaks s e Ivbuflen → ⊥
unfolding name_refusal name_of
name_keeps s e passed = of_test (is_name e.name) refl passed
  where
    of_test : (b : Bool) → is_name e.name ≡ b → result_err (cond b (Ok e.name) (Err Ivbuflen)) ≡ None → RequestBreaks s e Ivbuflen → ⊥
    of_test true is passed (inl none) =
        let parts = and_parts (nat_lt 0 (length e.name)) (nat_le (length e.name) 31) is in grind (arith, nat_tests, parts.0, none)
    of_test true is passed (inr long) =
        let parts = and_parts (nat_lt 0 (length e.name)) (nat_le (length e.name) 31) is in grind (arith, nat_tests, parts.1, long)
    of_test false is passed broken = cc

-- the group of checks of the request itself
form_breaks : (s : State) (e : NewRequest) → IsCaller s e.pid → Says (RequestBreaks s e) (enq_form_refusal s e)
unfolding enq_form_refusal request_flags_refusal expedite_refusal
form_breaks s e caller =
    says_either B (request_flags_refusal e.flags) _
    (says_unless B (is_known enq_bits e.flags) Badparam (λ is. request_flag_unknown e.flags is))
    (λ _. says_either B (status_block_refusal s e.pid e.block) _ (says_block B s e.pid e.block caller (λ broken. inl broken))
    (λ _. says_either B (which_refusal s e.pid e.parent) _ (says_which B s e.pid e.parent caller (λ broken. inr broken))
    (λ _. says_either B (name_refusal e.name) (expedite_refusal e.flags e.mode) (name_breaks s e)
    (λ _. says_where B (has_flag e.flags expedite && not (rank e.mode == 0)) Unsupported
    (λ is. let parts = and_parts (has_flag e.flags expedite) (not (rank e.mode == 0)) is in
    (parts.0, λ null. true≢false (sym (ap (λ (mode : Mode). rank mode == 0) null) ∙ not-true (rank e.mode == 0) parts.1)))))))
  where
    B : Cond → Type 0
    B = RequestBreaks s e

-- the group of checks of where its resource stands
site_breaks : (s : State) (e : NewRequest) → IsCaller s e.pid → Says (RequestBreaks s e) (site_refusal s e.pid e.flags (parent_lkid s e))
unfolding site_refusal privilege_refusal
site_breaks s e caller =
    says_either B (parent_refusal s e.pid (parent_lkid s e)) (privilege_refusal s e.pid e.flags (parent_lkid s e)) (parent_breaks s e)
    (λ _. says_where B ((parent_lkid s e == 0) && has_flag e.flags system && not (has_syslck s e.pid)) Nosyslck
    (λ is.
    let parts = and_parts ((parent_lkid s e == 0) && has_flag e.flags system) (not (has_syslck s e.pid)) is in
    let first = and_parts (parent_lkid s e == 0) (has_flag e.flags system) parts.0 in (
      eqb-true (parent_lkid s e) 0 first.0,
      first.1,
      (
        caller.caller,
        caller.lives,
        let same : has_syslck s e.pid ≡ caller.caller.syslck = rw (caller.lives) refl in sym same ∙ not-true (has_syslck s e.pid) parts.1,
      ),
    )))
  where
    B : Cond → Type 0
    B = RequestBreaks s e

-- the group of checks of what is used up, or in the way
limit_breaks : (s : State) (e : NewRequest) → IsCaller s e.pid → Apart s → Placed s → parent_refusal s e.pid (parent_lkid s e) ≡ None
    → Says (RequestBreaks s e) (enq_limit_refusal s e)
unfolding enq_limit_refusal quota_refusal numbers_refusal
limit_breaks s e caller apart placed passed =
    says_either B (quota_refusal s e.pid) _
    (says_unless B (nat_lt (locks_of e.pid s.resources) (quota_of s.processes e.pid)) Exenqlm
    (λ full.
    let quota : quota_of s.processes e.pid ≡ caller.caller.quota = rw (caller.lives) refl in
    let most : quota_of s.processes e.pid ≤ locks_of e.pid s.resources = grind (arith, nat_tests, full) in
    (caller.caller, caller.lives, omega (arith, quota, most, all_counted e.pid s.resources))))
    (λ _. says_either B (numbers_refusal s) (queue_refusal e.flags (enq_at_once s e))
    (says_unless B (nat_lt s.next_lkid (2 ^ 32) && nat_lt s.next_request (2 ^ 64)) Nolockid
    (λ is. elim (and_cases (nat_lt s.next_lkid (2 ^ 32)) (nat_lt s.next_request (2 ^ 64)) is) [
      | inl lkids ↦ inl (grind (arith, nat_tests, lkids))
      | inr requests ↦ inr (grind (arith, nat_tests, requests))
    ]))
    (λ _. says_where B (has_flag e.flags noqueue && not (enq_at_once s e)) Notqueued (queue_breaks s e caller apart placed passed)))
  where
    B : Cond → Type 0
    B = RequestBreaks s e

-- a refused request breaks the rule of its condition
pub request_breaks : (s : State) (e : NewRequest) → Apart s → Placed s → Says (RequestBreaks s e) (enq_refusal s e)
unfolding enq_refusal site_refusal
request_breaks s e apart placed =
    says_either B (caller_refusal s e.pid) _ (says_caller B s e.pid (λ departed. departed) (λ none. none))
    (λ caller. says_either B (enq_form_refusal s e) _ (form_breaks s e (caller_passes s e.pid caller))
    (λ _. says_either B (site_refusal s e.pid e.flags (parent_lkid s e)) (enq_limit_refusal s e) (site_breaks s e (caller_passes s e.pid caller))
    (λ site. limit_breaks s e (caller_passes s e.pid caller) apart placed
    (both_pass (parent_refusal s e.pid (parent_lkid s e)) (privilege_refusal s e.pid e.flags (parent_lkid s e)) site).0)))
  where
    B : Cond → Type 0
    B = RequestBreaks s e

-- an accepted request breaks none
pub request_keeps : (s : State) (e : NewRequest) → Apart s → Placed s → enq_refusal s e ≡ None → (c : Cond) → RequestBreaks s e c → ⊥
unfolding enq_form_refusal request_flags_refusal expedite_refusal site_refusal privilege_refusal enq_limit_refusal numbers_refusal
request_keeps s e apart placed passed =
    let groups = enq_passes s e passed in
    let argument = both_pass (request_flags_refusal e.flags) _ groups.1 in
    let block = both_pass (status_block_refusal s e.pid e.block) _ argument.1 in
    let which = both_pass (which_refusal s e.pid e.parent) _ block.1 in
    let name = both_pass (name_refusal e.name) (expedite_refusal e.flags e.mode) which.1 in
    let site = both_pass (parent_refusal s e.pid (parent_lkid s e)) (privilege_refusal s e.pid e.flags (parent_lkid s e)) groups.2 in
    let quota = both_pass (quota_refusal s e.pid) _ groups.3 in
    let numbers = both_pass (numbers_refusal s) (queue_refusal e.flags (enq_at_once s e)) quota.1 in
    of_cond (caller_passes s e.pid groups.0) (test_passes (is_known enq_bits e.flags) Badparam argument.0) block.0 which.0 name.0 site.0
    (test_fails ((parent_lkid s e == 0) && has_flag e.flags system && not (has_syslck s e.pid)) Nosyslck site.1)
    (test_passes (nat_lt s.next_lkid (2 ^ 32) && nat_lt s.next_request (2 ^ 64)) Nolockid numbers.0)
    (test_fails (has_flag e.flags noqueue && not (enq_at_once s e)) Notqueued numbers.1)
  where
    named : parent_lkid s e ≢ 0 → (parent_lkid s e == 0) ≡ false
    named other = ne_eqb (parent_lkid s e) 0 other

    of_cond : IsCaller s e.pid → is_known enq_bits e.flags ≡ true → status_block_refusal s e.pid e.block ≡ None
        → which_refusal s e.pid e.parent ≡ None → name_refusal e.name ≡ None → parent_refusal s e.pid (parent_lkid s e) ≡ None
        → ((parent_lkid s e == 0) && has_flag e.flags system && not (has_syslck s e.pid)) ≡ false
        → (nat_lt s.next_lkid (2 ^ 32) && nat_lt s.next_request (2 ^ 64)) ≡ true
        → (has_flag e.flags noqueue && not (enq_at_once s e)) ≡ false → (c : Cond) → RequestBreaks s e c → ⊥
    of_cond caller built block which name parent privilege numbers queue Badparam broken = request_flags_known e.flags built broken
    of_cond caller built block which name parent privilege numbers queue Accvio (inl none) = block_passes s e.pid e.block block none
    of_cond caller built block which name parent privilege numbers queue Accvio (inr none) = which_passes s e.pid e.parent which none
    of_cond caller built block which name parent privilege numbers queue Ivbuflen broken = name_keeps s e name broken
    of_cond caller built block which name parent privilege numbers queue Unsupported broken = broken.1 (expedited_is_null s e passed broken.0)
    of_cond caller built block which name parent privilege numbers queue Ivlockid broken =
        broken.1 (parent_passes s e.pid (parent_lkid s e) apart parent (named broken.0)).has
    of_cond caller built block which name parent privilege numbers queue Parnotgrant broken =
        (parent_passes s e.pid (parent_lkid s e) apart parent (named broken.0)).waits broken.1
    of_cond caller built block which name parent privilege numbers queue Exdepth broken =
        (parent_passes s e.pid (parent_lkid s e) apart parent (named broken.0)).low broken.1
    of_cond caller built block which name parent privilege numbers queue Nosyslck broken =
        let none : has_syslck s e.pid ≡ broken.2.0.syslck = rw (broken.2.1) refl in
        true≢false (sym (and_from ((parent_lkid s e == 0) && has_flag e.flags system) (not (has_syslck s e.pid))
        (and_from (parent_lkid s e == 0) (has_flag e.flags system) (eq-eqb (parent_lkid s e) 0 broken.0) broken.1)
        (ap not (none ∙ broken.2.2))) ∙ privilege)
    of_cond caller built block which name parent privilege numbers queue Exenqlm broken =
        let quota : quota_of s.processes e.pid ≡ broken.0.quota = rw (broken.1) refl in
        let most : broken.0.quota ≤ locks_of e.pid s.resources = omega (arith, broken.2, all_counted e.pid s.resources) in
        let room : locks_of e.pid s.resources < quota_of s.processes e.pid = room_left s e passed in
        omega (arith, quota, most, room)
    of_cond caller built block which name parent privilege numbers queue Nolockid broken =
        let parts = and_parts (nat_lt s.next_lkid (2 ^ 32)) (nat_lt s.next_request (2 ^ 64)) numbers in
        elim broken [ inl lkids ↦ grind (arith, nat_tests, parts.0, lkids) | inr requests ↦ grind (arith, nat_tests, parts.1, requests) ]
    of_cond caller built block which name parent privilege numbers queue Notqueued broken = queue_keeps s e apart placed passed queue broken
    of_cond caller built block which name parent privilege numbers queue Departed broken = caller.stays broken
    of_cond caller built block which name parent privilege numbers queue Nonexpr broken = is_somebody s e.pid caller broken
    of_cond caller built block which name parent privilege numbers queue c broken = broken
