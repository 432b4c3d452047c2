-- After every run a step breaks no rule and is accepted, or is refused with the condition of a rule that it breaks.
use Rattle.std.proofs.Common.{◌≡◌, ◌<◌, ◌⊎◌, ◌&&◌, ℕ, Bool, true, false, not, cond, List, ◌++◌, Option, None, Some, inl, inr, refl, sym, ap, subst, ◌∙◌, arith}
use Rattle.std.specs.Prelude.{◌==◌, Any, nat_le, nat_lt, is_some, IsSome, ◌||◌}
use Rattle.std.specs.List.{list_any}
use Rattle.std.proofs.lemmas.Bool.{and_cases, and_parts, eq-eqb, eqb-true, eqb-false}
use Rattle.std.proofs.lemmas.Bool.Decides.{nat_tests}
use Rattle.std.proofs.lemmas.List.Folds.{Any-from_list_any, list_any-from_Any}
use Rattle.vlm_words.specs.declared.conditions.Cond.TheVariants.{Cancelgrant, Sublocks, Ivlockid, Badparam, Accvio, Nonexpr, Departed}
use Rattle.vlm_words.specs.declared.conditions.Cond.{Cond}
use Rattle.vlm_words.specs.declared.locks.LockState.{LockState}
use Rattle.vlm_words.specs.declared.steps.Declaration.{Declaration}
use Rattle.vlm_words.specs.declared.steps.Dequeue.{Dequeue}
use Rattle.vlm_words.specs.declared.steps.Step.TheVariants.{Declare, SetValue, Enq, Convert, Deq, Rundown, Leave, Search, Take}
use Rattle.vlm_words.specs.declared.steps.Step.{Step}
use Rattle.vlm_words.specs.declared.steps.ValueSetting.{ValueSetting}
use Rattle.vlm_words.specs.Flags.{cancel, deq_bits, has_flag, is_known, deqall}
use Rattle.vlm_words.specs.State.{Resource, State, node_at}
use Rattle.vlm_model.specs.Checks.{caller_refusal, has_departed, lock_refusal, status_block_refusal, which_refusal}
use Rattle.vlm_model.specs.Declare.{declare_refusal, is_node}
use Rattle.vlm_model.specs.SetValue.{set_refusal}
use Rattle.vlm_model.specs.Dequeue.{cancel_refusal, deq_flags_refusal, deq_refusal, dequeue_lkid, has_sublock_on}
use Rattle.vlm_model.specs.Dequeue.{is_granted, sublocks_refusal, dequeued_lock_refusal, is_mixed, leaves_none}
use Rattle.vlm_model.specs.Convert.{ConversionAdmission}
use Rattle.vlm_model.specs.Stepped.{IsChoice, Stepped, conversion_change, refused_or, step_change, step_refusal, stepped, stepped_after_sweep}
use Rattle.vlm_model.specs.Runs.{History, Run}
use Rattle.vlm_model.specs.Reasons.{Breaks, CallerBreaks, DeclarationBreaks, DequeueBreaks, RefusalHasItsReason, SettingBreaks, DepartureBreaks}
use Rattle.vlm_model.proofs.Each.{Any-weaker}
use Rattle.vlm_model.proofs.Always.{admission_of}
use Rattle.vlm_model.proofs.IdsApart.{Apart, apart_always}
use Rattle.vlm_model.proofs.Keys.{Placed, placed_always}
use Rattle.vlm_model.proofs.ReasonsOfConversions.{conversion_breaks, conversion_keeps}
use Rattle.vlm_model.proofs.ReasonsOfRequests.{request_breaks, request_keeps}
use Rattle.vlm_model.proofs.PassedChecks.{both_pass, second_fails, test_fails, test_passes, given_none}
use Rattle.vlm_model.proofs.Acceptances.{IsAnswered, conversion_answers, request_answers}
use Rattle.vlm_model.proofs.FlagBits.{dequeue_known, dequeue_unknown}
use Rattle.vlm_model.proofs.Refusals.{IsCaller, Says, any_resource, block_passes, caller_passes, granted_nowhere}
use Rattle.vlm_model.proofs.Refusals.{granted_somewhere, is_somebody, lock_passes, no_resource, node_departed}
use Rattle.vlm_model.proofs.Refusals.{over_queues, says_block, says_caller, says_departed, says_either, says_lock}
use Rattle.vlm_model.proofs.Refusals.{says_some, says_unless, says_where, says_which, which_passes, says_none}
use Rattle.vlm_model.specs.Rundown.{leave_refusal}

-- ---- what every caller breaks

-- a caller that passes breaks no rule of callers
pub caller_keeps : (s : State) (pid : ℕ) → IsCaller s pid → (c : Cond) → CallerBreaks s pid c → ⊥
caller_keeps s pid caller Departed broken = caller.stays broken
caller_keeps s pid caller Nonexpr broken = is_somebody s pid caller broken
caller_keeps s pid caller c broken = broken

-- ---- declarations

-- what is the number of a node
some_node : (node : ℕ) → is_node node ≡ true → (node ≡ 0) ⊎ (8 < node) → ⊥
some_node node is (inl none) = let parts = and_parts (nat_le 1 node) (nat_le node 8) is in grind (arith, nat_tests, parts.0, none)
some_node node is (inr past) = let parts = and_parts (nat_le 1 node) (nat_le node 8) is in grind (arith, nat_tests, parts.1, past)

-- and what is none
no_node : (node : ℕ) → is_node node ≡ false → (node ≡ 0) ⊎ (8 < node)
no_node node is =
    elim (and_cases (nat_le 1 node) (nat_le node 8) is) [
      | inl low ↦ inl (grind (arith, nat_tests, low))
      | inr high ↦ inr (grind (arith, nat_tests, high))
    ]

-- a refused declaration breaks the rule of its condition
declaration_breaks : (s : State) (d : Declaration) → Says (DeclarationBreaks s d) (declare_refusal s d)
unfolding declare_refusal
declaration_breaks s d = of_node (is_node d.node) refl
  where
    left : ℕ
    left = (node_at s.nodes d.node).declared

    rest : Says (DeclarationBreaks s d)
        (cond (has_departed s.nodes d.node) (Some Departed)
        (cond (nat_lt (node_at s.nodes d.node).declared 65535) None (Some Badparam)))
    rest =
        says_departed (DeclarationBreaks s d) s d.node (λ departed. departed)
        (cond (nat_lt (node_at s.nodes d.node).declared 65535) None (Some Badparam))
        (λ _. says_unless (DeclarationBreaks s d) (nat_lt (node_at s.nodes d.node).declared 65535) Badparam
        (λ full. inr (inr (grind (arith, nat_tests, full)))))

    of_node : (b : Bool) → is_node d.node ≡ b
        → Says (DeclarationBreaks s d)
        (cond (not b) (Some Badparam)
        (cond (has_departed s.nodes d.node) (Some Departed)
        (cond (nat_lt (node_at s.nodes d.node).declared 65535) None (Some Badparam))))
    of_node true is = rest
    of_node false is = says_some (DeclarationBreaks s d) Badparam (elim (no_node d.node is) [ inl none ↦ inl none | inr past ↦ inr (inl past) ])

-- an accepted declaration breaks none
pub declaration_keeps : (s : State) (d : Declaration) → declare_refusal s d ≡ None → (c : Cond) → DeclarationBreaks s d c → ⊥
unfolding declare_refusal
declaration_keeps s d passed = of_tests (is_node d.node) (has_departed s.nodes d.node) (nat_lt (node_at s.nodes d.node).declared 65535) refl refl refl passed
  where
    of_cond : is_node d.node ≡ true → has_departed s.nodes d.node ≡ false → nat_lt (node_at s.nodes d.node).declared 65535 ≡ true
        → (c : Cond) → DeclarationBreaks s d c → ⊥
    of_cond node stays left Badparam (inl none) = some_node d.node node (inl none)
    of_cond node stays left Badparam (inr (inl past)) = some_node d.node node (inr past)
    of_cond node stays left Badparam (inr (inr full)) = grind (arith, nat_tests, left, full)
    of_cond node stays left Departed broken = node_departed s d.node stays broken
    of_cond node stays left c broken = broken

    of_tests : (a b c : Bool) → is_node d.node ≡ a → has_departed s.nodes d.node ≡ b → nat_lt (node_at s.nodes d.node).declared 65535 ≡ c
        → cond (not a) (Some Badparam) (cond b (Some Departed) (cond c None (Some Badparam))) ≡ None → (cond : Cond) → DeclarationBreaks s d cond → ⊥
    of_tests true false true node stays left passed = of_cond node stays left
    of_tests true false false node stays left passed = cc
    of_tests true true c node stays left passed = cc
    of_tests false b c node stays left passed = cc

-- ---- the settings of values

-- a refused setting breaks the rule of its condition
setting_breaks : (s : State) (v : ValueSetting) → Says (SettingBreaks s v) (set_refusal s v)
unfolding set_refusal
setting_breaks s v =
    says_either (SettingBreaks s v) (caller_refusal s v.pid) (status_block_refusal s v.pid v.block)
    (says_caller (SettingBreaks s v) s v.pid (λ departed. departed) (λ none. none))
    (λ called. says_block (SettingBreaks s v) s v.pid v.block (caller_passes s v.pid called) (λ broken. broken))

-- an accepted setting breaks none
setting_keeps : (s : State) (v : ValueSetting) → set_refusal s v ≡ None → (c : Cond) → SettingBreaks s v c → ⊥
unfolding set_refusal
setting_keeps s v passed =
    let parts = both_pass (caller_refusal s v.pid) (status_block_refusal s v.pid v.block) passed in
    of_cond (caller_passes s v.pid parts.0) parts.1
  where
    of_cond : IsCaller s v.pid → status_block_refusal s v.pid v.block ≡ None → (c : Cond) → SettingBreaks s v c → ⊥
    of_cond caller block Accvio broken = block_passes s v.pid v.block block broken
    of_cond caller block Departed broken = caller.stays broken
    of_cond caller block Nonexpr broken = is_somebody s v.pid caller broken
    of_cond caller block c broken = broken

-- ---- dequeues

-- the test of a sublock on a resource, and what it says
sublock_on : (lkid : ℕ) (r : Resource) → has_sublock_on lkid r ≡ true → Any (λ row. row.parent ≡ lkid) (r.granted ++ r.converting ++ r.waiting)
sublock_on lkid r is =
    let test : LockState → Bool = λ row. row.parent == lkid in
    Any-weaker (λ (row : LockState). (row.parent == lkid) ≡ true) (λ row. row.parent ≡ lkid) (λ row here. eqb-true row.parent lkid here)
    (r.granted ++ r.converting ++ r.waiting)
    (Any-from_list_any test (r.granted ++ r.converting ++ r.waiting) (over_queues test r ∙ is))

-- and it passes where there is one
on_sublock : (lkid : ℕ) (r : Resource) → Any (λ row. row.parent ≡ lkid) (r.granted ++ r.converting ++ r.waiting) → has_sublock_on lkid r ≡ true
on_sublock lkid r there =
    let test : LockState → Bool = λ row. row.parent == lkid in
    sym (over_queues test r)
    ∙ list_any-from_Any test (r.granted ++ r.converting ++ r.waiting)
    (Any-weaker (λ (row : LockState). row.parent ≡ lkid) (λ row. (row.parent == lkid) ≡ true) (λ row here. eq-eqb row.parent lkid here)
    (r.granted ++ r.converting ++ r.waiting) there)

-- what of a dequeue's flags is refused: an unknown bit, or what does not go together
flags_break : (s : State) (d : Dequeue) → (is_known deq_bits d.flags && not (is_mixed d)) ≡ false → DequeueBreaks s d Badparam
flags_break s d fails =
    of_tests (is_known deq_bits d.flags) refl (has_flag d.flags deqall) refl (has_flag d.flags cancel) refl (is_some d.value) refl (is_some d.tail) refl fails
  where
    alone : is_some d.tail ≡ true → is_some d.value ≡ false → DequeueBreaks s d Badparam
    alone some none = inr (inr (some, given_none d.value none))

    of_tests : (known : Bool) → is_known deq_bits d.flags ≡ known → (all : Bool) → has_flag d.flags deqall ≡ all
        → (cancels : Bool) → has_flag d.flags cancel ≡ cancels → (given : Bool) → is_some d.value ≡ given → (tail : Bool) → is_some d.tail ≡ tail
        → (known && not ((all && (cancels || given)) || (tail && not given))) ≡ false → DequeueBreaks s d Badparam
    of_tests false unknown all is_all cancels is_cancel given is_given tail is_tail none = inl (dequeue_unknown d.flags unknown)
    of_tests true known true is_all true is_cancel given is_given tail is_tail none = inr (inl (is_all, inl is_cancel))
    of_tests true known true is_all false is_cancel true is_given tail is_tail none = inr (inl (is_all, inr is_given))
    of_tests true known all is_all cancels is_cancel false is_given true is_tail none = alone is_tail is_given
    of_tests true known true is_all false is_cancel false is_given false is_tail none = cc
    of_tests true known false is_all cancels is_cancel false is_given false is_tail none = cc
    of_tests true known false is_all cancels is_cancel true is_given true is_tail none = cc
    of_tests true known false is_all cancels is_cancel true is_given false is_tail none = cc

flags_pass : (s : State) (d : Dequeue) → (is_known deq_bits d.flags && not (is_mixed d)) ≡ true → DequeueBreaks s d Badparam → ⊥
flags_pass s d passes (inl unknown) = dequeue_known d.flags (and_parts (is_known deq_bits d.flags) (not (is_mixed d)) passes).0 unknown
flags_pass s d passes (inr (inl mixed)) = of_mixed (and_parts (is_known deq_bits d.flags) (not (is_mixed d)) passes).1 mixed.0 mixed.1
  where
    both : (all cancels given alone : Bool) → not ((all && (cancels || given)) || alone) ≡ true → all ≡ true → (cancels ≡ true) ⊎ (given ≡ true) → ⊥
    both true true given alone none is some = cc
    both true false true alone none is some = cc
    both true false false alone none is (inl first) = cc
    both true false false alone none is (inr second) = cc
    both false cancels given alone none is some = cc

    of_mixed : not (is_mixed d) ≡ true → has_flag d.flags deqall ≡ true → (has_flag d.flags cancel ≡ true) ⊎ IsSome d.value → ⊥
    of_mixed none all some =
        both (has_flag d.flags deqall) (has_flag d.flags cancel) (is_some d.value) (is_some d.tail && not (is_some d.value)) none all some
flags_pass s d passes (inr (inr alone)) =
    of_alone (has_flag d.flags deqall && (has_flag d.flags cancel || is_some d.value)) (is_some d.tail) (is_some d.value)
    (and_parts (is_known deq_bits d.flags) (not (is_mixed d)) passes).1 alone.0 (ap (λ (value : Option (List ℕ)). is_some value) alone.1)
  where
    of_alone : (mixed tail given : Bool) → not (mixed || (tail && not given)) ≡ true → tail ≡ true → given ≡ false → ⊥
    of_alone true true false passes is none = cc
    of_alone false true false passes is none = cc
    of_alone mixed false given passes is none = cc
    of_alone mixed true true passes is none = cc

-- a lock that is not the caller's is refused, where one is named
says_dequeued_lock : (s : State) (d : Dequeue) → Says (DequeueBreaks s d) (dequeued_lock_refusal s d)
unfolding dequeued_lock_refusal
says_dequeued_lock s d = of_test (has_flag d.flags deqall) (dequeue_lkid s d == 0) refl refl
  where
    of_test : (all none : Bool) → has_flag d.flags deqall ≡ all → (dequeue_lkid s d == 0) ≡ none
        → Says (DequeueBreaks s d) (cond (all && none) None (lock_refusal s d.pid (dequeue_lkid s d)))
    of_test true true is zero = says_none (DequeueBreaks s d)
    of_test true false is named =
        says_lock (DequeueBreaks s d) s d.pid (dequeue_lkid s d) (λ broken. (λ _. eqb-false (dequeue_lkid s d) 0 named, broken))
    of_test false none is named =
        says_lock (DequeueBreaks s d) s d.pid (dequeue_lkid s d) (λ broken. ((λ all zero. no (sym is ∙ all)), broken))
      where
        no : false ≡ true → ⊥
        no e = cc

dequeued_lock_passes : (s : State) (d : Dequeue) → dequeued_lock_refusal s d ≡ None → DequeueBreaks s d Ivlockid → ⊥
unfolding dequeued_lock_refusal
dequeued_lock_passes s d passed broken = of_test (has_flag d.flags deqall) (dequeue_lkid s d == 0) refl refl passed
  where
    of_test : (all none : Bool) → has_flag d.flags deqall ≡ all → (dequeue_lkid s d == 0) ≡ none
        → cond (all && none) None (lock_refusal s d.pid (dequeue_lkid s d)) ≡ None → ⊥
    of_test true true is zero lock = broken.0 is (eqb-true (dequeue_lkid s d) 0 zero)
    of_test true false is named lock = broken.1 (lock_passes s d.pid (dequeue_lkid s d) lock)
    of_test false none is named lock = broken.1 (lock_passes s d.pid (dequeue_lkid s d) lock)

-- neither of two tests passes
neither : (a b : Bool) → not (a || b) ≡ true → (a ≡ false) × (b ≡ false)
neither true b none = cc
neither false true none = cc
neither false false none = (refl, refl)

-- a refused dequeue breaks the rule of its condition
pub dequeue_breaks : (s : State) (d : Dequeue) → Says (DequeueBreaks s d) (deq_refusal s d)
unfolding deq_refusal deq_flags_refusal cancel_refusal sublocks_refusal
dequeue_breaks s d =
    says_either B (caller_refusal s d.pid) _ (says_caller B s d.pid (λ departed. departed) (λ none. none))
    (λ called. says_either B (deq_flags_refusal d) _ (says_unless B (is_known deq_bits d.flags && not (is_mixed d)) Badparam (flags_break s d))
    (λ _. says_either B (which_refusal s d.pid d.lock) _ (says_which B s d.pid d.lock (caller_passes s d.pid called) (λ broken. broken))
    (λ _. says_either B (dequeued_lock_refusal s d) _ (says_dequeued_lock s d)
    (λ _. says_either B (cancel_refusal s d) (sublocks_refusal s (leaves_none d) lkid)
    (says_where B (has_flag d.flags cancel && is_granted d.pid lkid s.resources) Cancelgrant
    (λ is. let parts = and_parts (has_flag d.flags cancel) (is_granted d.pid lkid s.resources) is in
    (parts.0, granted_somewhere s d.pid lkid parts.1)))
    (λ _. says_where B (not (leaves_none d) && list_any (has_sublock_on lkid) s.resources) Sublocks
    (λ is. let parts = and_parts (not (leaves_none d)) (list_any (has_sublock_on lkid) s.resources) is in
    let plain = neither (has_flag d.flags cancel) (has_flag d.flags deqall) parts.0 in (
      plain.0,
      plain.1,
      any_resource (λ r. Any (λ row. row.parent ≡ lkid) (r.granted ++ r.converting ++ r.waiting)) (has_sublock_on lkid) (sublock_on lkid) s.resources parts.1,
    )))))))
  where
    B : Cond → Type 0
    B = DequeueBreaks s d

    lkid : ℕ
    lkid = dequeue_lkid s d

-- an accepted dequeue breaks none
dequeue_keeps : (s : State) (d : Dequeue) → deq_refusal s d ≡ None → (c : Cond) → DequeueBreaks s d c → ⊥
unfolding deq_refusal deq_flags_refusal cancel_refusal sublocks_refusal
dequeue_keeps s d passed =
    let lkid : ℕ = dequeue_lkid s d in
    let first = both_pass (caller_refusal s d.pid) _ passed in
    let flags = both_pass (deq_flags_refusal d) _ first.1 in
    let which = both_pass (which_refusal s d.pid d.lock) _ flags.1 in
    let lock = both_pass (dequeued_lock_refusal s d) _ which.1 in
    let last = both_pass (cancel_refusal s d) (sublocks_refusal s (leaves_none d) lkid) lock.1 in
    of_cond (caller_passes s d.pid first.0) (test_passes (is_known deq_bits d.flags && not (is_mixed d)) Badparam flags.0) which.0 lock.0
    (test_fails (has_flag d.flags cancel && is_granted d.pid lkid s.resources) Cancelgrant last.0)
    (test_fails (not (leaves_none d) && list_any (has_sublock_on lkid) s.resources) Sublocks last.1)
  where
    none_left : (cancels all : Bool) → cancels ≡ false → all ≡ false → not (cancels || all) ≡ true
    none_left true all is plain = cc
    none_left false true is plain = cc
    none_left false false is plain = refl

    of_cond : IsCaller s d.pid → (is_known deq_bits d.flags && not (is_mixed d)) ≡ true → which_refusal s d.pid d.lock ≡ None
        → dequeued_lock_refusal s d ≡ None
        → (has_flag d.flags cancel && is_granted d.pid (dequeue_lkid s d) s.resources) ≡ false
        → (not (leaves_none d) && list_any (has_sublock_on (dequeue_lkid s d)) s.resources) ≡ false
        → (c : Cond) → DequeueBreaks s d c → ⊥
    of_cond caller known which lock cancels gives Badparam broken = flags_pass s d known broken
    of_cond caller known which lock cancels gives Accvio broken = which_passes s d.pid d.lock which broken
    of_cond caller known which lock cancels gives Ivlockid broken = dequeued_lock_passes s d lock broken
    of_cond caller known which lock cancels gives Cancelgrant broken =
        granted_nowhere s d.pid (dequeue_lkid s d)
        (second_fails (has_flag d.flags cancel) (is_granted d.pid (dequeue_lkid s d) s.resources) cancels broken.0) broken.1
    of_cond caller known which lock cancels gives Sublocks broken =
        no_resource (λ r. Any (λ row. row.parent ≡ dequeue_lkid s d) (r.granted ++ r.converting ++ r.waiting)) (has_sublock_on (dequeue_lkid s d))
        (on_sublock (dequeue_lkid s d)) s.resources
        (second_fails (not (leaves_none d)) (list_any (has_sublock_on (dequeue_lkid s d)) s.resources) gives
        (none_left (has_flag d.flags cancel) (has_flag d.flags deqall) broken.0 broken.1)) broken.2
    of_cond caller known which lock cancels gives Departed broken = caller.stays broken
    of_cond caller known which lock cancels gives Nonexpr broken = is_somebody s d.pid caller broken
    of_cond caller known which lock cancels gives c broken = broken

-- ---- departures

-- a refused departure breaks the rule of its condition
departure_breaks : (s : State) (node : ℕ) → Says (DepartureBreaks s node) (leave_refusal s node)
unfolding leave_refusal
departure_breaks s node = of_test (is_node node) refl
  where
    of_test : (b : Bool) → is_node node ≡ b
        → Says (DepartureBreaks s node) (cond (not b) (Some Badparam) (cond (has_departed s.nodes node) (Some Departed) None))
    of_test true is = says_departed (DepartureBreaks s node) s node (λ departed. departed) None (λ _. says_none (DepartureBreaks s node))
    of_test false is = says_some (DepartureBreaks s node) Badparam (no_node node is)

-- an accepted departure breaks none
departure_keeps : (s : State) (node : ℕ) → leave_refusal s node ≡ None → (c : Cond) → DepartureBreaks s node c → ⊥
unfolding leave_refusal
departure_keeps s node passed = of_tests (is_node node) refl (has_departed s.nodes node) refl passed
  where
    of_cond : is_node node ≡ true → has_departed s.nodes node ≡ false → (c : Cond) → DepartureBreaks s node c → ⊥
    of_cond is stays Badparam broken = some_node node is broken
    of_cond is stays Departed broken = node_departed s node stays broken
    of_cond is stays c broken = broken

    of_tests : (b : Bool) → is_node node ≡ b → (departed : Bool) → has_departed s.nodes node ≡ departed
        → cond (not b) (Some Badparam) (cond departed (Some Departed) None) ≡ None → (c : Cond) → DepartureBreaks s node c → ⊥
    of_tests true is false stays pass = of_cond is stays
    of_tests true is true stays pass = cc
    of_tests false is departed stays pass = cc

-- ---- every step

-- a refused step breaks the rule of its condition
step_breaks : (s : State) → Apart s → Placed s → (step : Step) → Says (Breaks s step) (step_refusal s step)
step_breaks s apart placed (Declare d) = declaration_breaks s d
step_breaks s apart placed (SetValue v) = setting_breaks s v
step_breaks s apart placed (Enq e) = request_breaks s e apart placed
step_breaks s apart placed (Convert c) = conversion_breaks s c apart
step_breaks s apart placed (Deq d) = dequeue_breaks s d
step_breaks s apart placed (Rundown pid) = says_caller (CallerBreaks s pid) s pid (λ departed. departed) (λ none. none)
step_breaks s apart placed (Leave node) = departure_breaks s node
step_breaks s apart placed (Search node) = departure_breaks s node
step_breaks s apart placed (Take pid) = says_caller (CallerBreaks s pid) s pid (λ departed. departed) (λ none. none)

-- an accepted step breaks no rule
step_keeps : (s : State) → Apart s → Placed s → (step : Step) → step_refusal s step ≡ None → (c : Cond) → Breaks s step c → ⊥
step_keeps s apart placed (Declare d) passed = declaration_keeps s d passed
step_keeps s apart placed (SetValue v) passed = setting_keeps s v passed
step_keeps s apart placed (Enq e) passed = request_keeps s e apart placed passed
step_keeps s apart placed (Convert c) passed =
    let admitted = admission_of s c passed in conversion_keeps s c apart passed admitted.0 admitted.1
step_keeps s apart placed (Deq d) passed = dequeue_keeps s d passed
step_keeps s apart placed (Rundown pid) passed = caller_keeps s pid (caller_passes s pid passed)
step_keeps s apart placed (Leave node) passed = departure_keeps s node passed
step_keeps s apart placed (Search node) passed = departure_keeps s node passed
step_keeps s apart placed (Take pid) passed = caller_keeps s pid (caller_passes s pid passed)

-- an accepted step answers so
step_answers : (s : State) (step : Step) (choice : Option LockState) → step_refusal s step ≡ None
    → IsAnswered s step (stepped_after_sweep (step_change s step choice))
step_answers s (Declare d) choice passed = tt
step_answers s (SetValue v) choice passed = tt
step_answers s (Enq e) choice passed = request_answers s e
step_answers s (Convert c) choice passed =
    let admitted = admission_of s c passed in
    subst (λ (a : Option ConversionAdmission). IsAnswered s (Convert c) (stepped_after_sweep (conversion_change s c a))) (sym admitted.1)
    (conversion_answers s c admitted.0 admitted.1)
step_answers s (Deq d) choice passed = tt
step_answers s (Rundown pid) choice passed = tt
step_answers s (Leave node) choice passed = tt
step_answers s (Search node) choice passed = tt
step_answers s (Take pid) choice passed = tt

-- after every run a step breaks no rule and is accepted, or is refused for one that it breaks
pub reasons_always : (history : History) (old : State) → Run history old
    → (step : Step) (choice : Option LockState) → IsChoice old step choice → RefusalHasItsReason old step choice
reasons_always history old run step choice chosen = of_refusal (step_refusal old step) refl
  where
    apart : Apart old
    apart = apart_always history old run

    placed : Placed old
    placed = placed_always history old run

    made_so : {refusal : Option Cond} → step_refusal old step ≡ refusal → stepped old step choice ≡ refused_or refusal old (step_change old step choice)
    made_so is = ap (λ (refusal : Option Cond). refused_or refusal old (step_change old step choice)) is

    of_refusal : (refusal : Option Cond) → step_refusal old step ≡ refusal → RefusalHasItsReason old step choice
    of_refusal None passed =
        inl (record {
          keeps = step_keeps old apart placed step passed;
          answered = subst (IsAnswered old step) (sym (made_so passed)) (step_answers old step choice passed);
        })
    of_refusal (Some refusal) is =
        inr (record {
          told = refusal;
          breaks = step_breaks old apart placed step refusal is;
          answered = ap (λ (made : Stepped). made.answer) (made_so is);
          unchanged = ap (λ (made : Stepped). made.state) (made_so is);
          none_ends = ap (λ (made : Stepped). made.endings) (made_so is);
        })
