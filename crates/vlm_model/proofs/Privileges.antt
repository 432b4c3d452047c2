-- After every run a step makes a root in the system's domain only for a caller with the privilege.
use Rattle.std.proofs.Common.{◌≡◌, ◌⊎◌, ◌&&◌, Bool, true, false, not, cond, List, [], ◌∷◌, map, Option, None, Some, inl}
use Rattle.std.proofs.Common.{inr, refl, sym, ap, subst, ◌∙◌, arith, ℕ}
use Rattle.std.specs.Prelude.{◌==◌, Any}
use Rattle.std.specs.List.{AllByRecursion}
use Rattle.std.proofs.lemmas.Bool.{and_from, eq-eqb, not-false}
use Rattle.std.proofs.lemmas.List.Elements.{All-from_recursion}
use Rattle.vlm_words.specs.declared.conditions.Cond.TheVariants.{Nosyslck}
use Rattle.vlm_words.specs.declared.conditions.Cond.{Cond}
use Rattle.vlm_words.specs.declared.locks.LockState.{LockState}
use Rattle.vlm_words.specs.declared.resources.Domain.TheVariants.{Group, System}
use Rattle.vlm_words.specs.declared.steps.NewRequest.{NewRequest}
use Rattle.vlm_words.specs.declared.steps.Step.TheVariants.{Declare, SetValue, Enq, Convert, Deq, Rundown, Leave, Search, Take}
use Rattle.vlm_words.specs.declared.steps.Step.{Step}
use Rattle.vlm_words.specs.Flags.{has_flag, system}
use Rattle.vlm_words.specs.State.{Resource, State, Node}
use Rattle.vlm_words.specs.Resources.{new_resource}
use Rattle.vlm_model.specs.Sweeps.{state_after_sweep}
use Rattle.vlm_model.specs.Trees.{caller_group, enq_site, has_syslck, parent_lkid, parent_refusal, parent_resource}
use Rattle.vlm_model.specs.Trees.{privilege_refusal, root_domain, site_below, site_refusal}
use Rattle.vlm_model.specs.Declare.{declare_change}
use Rattle.vlm_model.specs.SetValue.{set_change}
use Rattle.vlm_model.specs.Take.{take_change}
use Rattle.vlm_model.specs.Enqueue.{enq_at_once, enq_change, enq_refusal, enq_row, resource_after_entry}
use Rattle.vlm_model.specs.Convert.{ConversionAdmission, convert_blocks, convert_change, convert_lkid, resource_after_conversion}
use Rattle.vlm_model.specs.Dequeue.{deq_change, withdrawals_of}
use Rattle.vlm_model.specs.Withdrawals.{resource_after_withdrawals}
use Rattle.vlm_model.specs.Stepped.{IsChoice, conversion_change, refused_or, step_change, step_refusal, stepped, stepped_after_sweep, end_of_processes}
use Rattle.vlm_model.specs.Runs.{History, Run}
use Rattle.vlm_model.specs.Laws.{IsSameResource}
use Rattle.vlm_model.specs.Privileges.{IsPrivileged, IsPrivilegedStep, IsSystemRoot, SystemRootsArePrivileged, WasSystemRoot}
use Rattle.vlm_model.proofs.Each.{Any-here, Any-there, Any-weaker, each_map, each_weaker}
use Rattle.vlm_model.proofs.PassedChecks.{both_pass, enq_passes, second_fails, test_fails}
use Rattle.vlm_model.proofs.Always.{admission_of}
use Rattle.vlm_model.proofs.EachResource.{each_entered_among, each_swept}
use Rattle.vlm_model.proofs.Keys.{KeepsPlace, Placed, WasGiven, conversion_keeps_place, entry_keeps_place, of_found}
use Rattle.vlm_model.proofs.Keys.{placed_always, service_keeps_place, withdrawals_keep_place}
use Rattle.vlm_model.proofs.Refusals.{IsCaller, caller_passes}
use Rattle.vlm_model.proofs.NewlyRooted.{HasParent, parent_of}
use Rattle.vlm_model.specs.Rundown.{is_ended_by, nodes_after_departure, rundowns, state_after_rundown}
use Rattle.vlm_words.specs.Steps.{is_of_node}
use Rattle.vlm_model.specs.Search.{victim_withdrawals, search_change}

-- a root in the system's domain was one before, or the step may make one
abbrev IsRightly : State → Type 0 → Resource → Type 0
IsRightly s May r = IsSystemRoot r → WasSystemRoot s r ⊎ May

-- each resource was there before
each_was : (s : State) (May : Type 0) → AllByRecursion (IsRightly s May) s.resources
each_was s May =
    each_weaker (λ r. Any (λ before. before ≡ r) s.resources) (IsRightly s May)
    (λ r was root. inl (Any-weaker (λ before. before ≡ r) (λ before. IsSystemRoot before × (before.serial ≡ r.serial))
    (λ before same. (subst IsSystemRoot (sym same) root, ap (λ (x : Resource). x.serial) same)) s.resources was))
    s.resources (each_self s.resources)
  where
    each_self : (resources : List Resource) → AllByRecursion (λ r. Any (λ before. before ≡ r) resources) resources
    each_self [] = tt
    each_self (r ∷ rest) = (
      Any-here (λ before. before ≡ r) r rest refl,
      each_weaker (λ x. Any (λ before. before ≡ x) rest) (λ x. Any (λ before. before ≡ x) (r ∷ rest))
          (λ x any. Any-there (λ before. before ≡ x) r rest any) rest (each_self rest),
    )

-- a change that keeps the place keeps that
rightly_kept : (s : State) (May : Type 0) (before after : Resource) → IsSameResource before after → IsRightly s May before → IsRightly s May after
rightly_kept s May before after same rightly root =
    elim (rightly (record { parent = sym same.parent ∙ root.parent; domain = sym same.domain ∙ root.domain })) [
      | inl was ↦ inl (Any-weaker (λ x. IsSystemRoot x × (x.serial ≡ before.serial)) (λ x. IsSystemRoot x × (x.serial ≡ after.serial))
          (λ x so. (so.0, so.1 ∙ sym same.serial)) s.resources was)
      | inr may ↦ inr may
    ]

-- and so does a sweep
rightly_swept : (s t : State) (May : Type 0) → AllByRecursion (IsRightly s May) t.resources → AllByRecursion (IsRightly s May) (state_after_sweep t).resources
rightly_swept s t May =
    each_swept (IsRightly s May) (IsRightly s May)
    (λ block r rightly. rightly_kept s May r _ (service_keeps_place block r) rightly) t.processes t.resources

-- and a change of each resource
rightly_changed : (s : State) (May : Type 0) (change : Resource → Resource) → KeepsPlace change
    → AllByRecursion (IsRightly s May) (map change s.resources)
rightly_changed s May change keeps =
    each_map (IsRightly s May) (IsRightly s May) change (λ r rightly. rightly_kept s May r (change r) (keeps r) rightly) s.resources (each_was s May)

-- an accepted request for a root in the system's domain is privileged
privileged : (s : State) (e : NewRequest) → enq_refusal s e ≡ None → parent_lkid s e ≡ 0 → root_domain s e.pid e.flags ≡ System → IsPrivileged s e
unfolding site_refusal privilege_refusal
privileged s e passed root domain =
    let groups = enq_passes s e passed in
    let caller : IsCaller s e.pid = caller_passes s e.pid groups.0 in
    let site = both_pass (parent_refusal s e.pid (parent_lkid s e)) (privilege_refusal s e.pid e.flags (parent_lkid s e)) groups.2 in
    let flagged : has_flag e.flags system ≡ true = asked (has_flag e.flags system) refl domain in
    let granted : has_syslck s e.pid ≡ true =
    not-false (has_syslck s e.pid)
    (second_fails ((parent_lkid s e == 0) && has_flag e.flags system) (not (has_syslck s e.pid))
    (test_fails ((parent_lkid s e == 0) && has_flag e.flags system && not (has_syslck s e.pid)) Nosyslck site.1)
    (and_from (parent_lkid s e == 0) (has_flag e.flags system) (eq-eqb (parent_lkid s e) 0 root) flagged)) in
    let own : has_syslck s e.pid ≡ caller.caller.syslck = rw (caller.lives) refl in
    record { flagged = flagged; caller = caller.caller; lives = caller.lives; syslck = sym own ∙ granted }
  where
    asked : (b : Bool) → has_flag e.flags system ≡ b → cond b System (Group (caller_group s e.pid)) ≡ System → b ≡ true
    asked true is same = refl
    asked false is same = cc

-- a resource that a request makes is made rightly
made_rightly : (s : State) (e : NewRequest) → Placed s → enq_refusal s e ≡ None → IsRightly s (IsPrivileged s e) (new_resource s.next_serial (enq_site s e))
made_rightly s e placed passed root =
    elim (parent_of s e passed) [ inl none ↦ inr (of_root none.0 none.1) | inr up ↦ absurd (of_parent up.0 up.1) ]
  where
    made : (parent : Option Resource) → parent_resource s e.pid (parent_lkid s e) ≡ parent
        → IsSystemRoot (new_resource s.next_serial (site_below (root_domain s e.pid e.flags) e.name parent))
    made parent is =
        subst (λ (p : Option Resource). IsSystemRoot (new_resource s.next_serial (site_below (root_domain s e.pid e.flags) e.name p))) is root

    of_root : parent_lkid s e ≡ 0 → parent_resource s e.pid (parent_lkid s e) ≡ None → IsPrivileged s e
    of_root zero none = privileged s e passed zero (made None none).domain

    of_parent : (up : Resource) → HasParent s e up → ⊥
    of_parent up has =
        let given : WasGiven s.next_serial up = of_found (WasGiven s.next_serial) _ s.resources up placed.given has.found in
        let zero : up.serial ≡ 0 = (made (Some up) has.is).parent in
        omega (arith, given.0, zero)

-- a request keeps what is there, and makes rightly what it makes
entered_rightly : (s : State) (e : NewRequest) → Placed s → enq_refusal s e ≡ None → AllByRecursion (IsRightly s (IsPrivileged s e)) (enq_change s e).resources
unfolding enq_change
entered_rightly s e placed passed =
    each_entered_among (IsRightly s (IsPrivileged s e)) s.next_serial (enq_site s e) (enq_row s e) (enq_at_once s e) (made_rightly s e placed passed)
    (λ r rightly. rightly_kept s (IsPrivileged s e) r (resource_after_entry (enq_row s e) (enq_at_once s e) r)
    (entry_keeps_place (enq_row s e) (enq_at_once s e) r) rightly) s.resources (each_was s (IsPrivileged s e))

-- ends of processes keep what is there
rightly_ended : (s : State) (is_one : ℕ → Bool) (nodes : List Node)
    → AllByRecursion (IsRightly s ⊥) (stepped_after_sweep (end_of_processes is_one nodes s)).state.resources
unfolding state_after_rundown
rightly_ended s is_one nodes =
    rightly_swept s (state_after_rundown is_one nodes s) ⊥
    (rightly_changed s ⊥ (resource_after_withdrawals (rundowns is_one s)) (withdrawals_keep_place (rundowns is_one s)))

-- after an accepted step each root in the system's domain is there rightly
accepted_rightly : (s : State) → Placed s → (step : Step) (choice : Option LockState) → step_refusal s step ≡ None
    → AllByRecursion (IsRightly s (IsPrivilegedStep s step)) (stepped_after_sweep (step_change s step choice)).state.resources
unfolding declare_change set_change take_change convert_change deq_change search_change
accepted_rightly s placed (Declare d) choice passed = rightly_swept s (declare_change s d) ⊥ (each_was s ⊥)
accepted_rightly s placed (SetValue v) choice passed = rightly_swept s (set_change s v) ⊥ (each_was s ⊥)
accepted_rightly s placed (Enq e) choice passed = rightly_swept s (enq_change s e) (IsPrivileged s e) (entered_rightly s e placed passed)
accepted_rightly s placed (Convert c) choice passed =
    let admitted = admission_of s c passed in
    let a : ConversionAdmission = admitted.0 in
    subst (λ (found : Option ConversionAdmission). AllByRecursion (IsRightly s ⊥) (stepped_after_sweep (conversion_change s c found)).state.resources)
    (sym admitted.1)
    (rightly_swept s (convert_change s c a) ⊥
    (rightly_changed s ⊥ (resource_after_conversion a.request a.at_once c.pid (convert_lkid s c) (convert_blocks s c a).value_block)
    (conversion_keeps_place a.request a.at_once c.pid (convert_lkid s c) (convert_blocks s c a).value_block)))
accepted_rightly s placed (Deq d) choice passed =
    rightly_swept s (deq_change s d) ⊥
    (rightly_changed s ⊥ (resource_after_withdrawals (withdrawals_of s d)) (withdrawals_keep_place (withdrawals_of s d)))
accepted_rightly s placed (Rundown pid) choice passed = rightly_ended s (is_ended_by pid) s.nodes
accepted_rightly s placed (Leave node) choice passed = rightly_ended s (is_of_node node) (nodes_after_departure s.nodes node)
accepted_rightly s placed (Search node) choice passed =
    rightly_swept s (search_change s choice) ⊥
    (rightly_changed s ⊥ (resource_after_withdrawals (victim_withdrawals choice)) (withdrawals_keep_place (victim_withdrawals choice)))
accepted_rightly s placed (Take pid) choice passed = rightly_swept s (take_change s pid) ⊥ (each_was s ⊥)

-- after every run a step makes a root in the system's domain only for a caller with the privilege
pub privileges_always : (history : History) (old : State) → Run history old
    → (step : Step) (choice : Option LockState) → IsChoice old step choice → SystemRootsArePrivileged old step choice
privileges_always history old run step choice chosen =
    All-from_recursion (IsRightly old (IsPrivilegedStep old step)) (stepped old step choice).state.resources
    (of_refusal (step_refusal old step) refl)
  where
    of_refusal : (refusal : Option Cond) → step_refusal old step ≡ refusal
        → AllByRecursion (IsRightly old (IsPrivilegedStep old step)) (refused_or refusal old (step_change old step choice)).state.resources
    of_refusal None passed = accepted_rightly old (placed_always history old run) step choice passed
    of_refusal (Some refusal) is = each_was old (IsPrivilegedStep old step)
