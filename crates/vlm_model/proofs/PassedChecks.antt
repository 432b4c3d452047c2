-- What is known after the checks of a step have refused nothing.
use Rattle.std.proofs.Common.{◌≡◌, ℕ, Bool, true, false, not, ◌&&◌, ◌||◌, cond, List, Option, None, Some, refl, subst}
use Rattle.std.specs.Prelude.{◌==◌, is_some}
use Rattle.std.proofs.lemmas.Bool.{not-false}
use Rattle.vlm_words.specs.declared.conditions.Cond.TheVariants.{Unsupported, Badparam}
use Rattle.vlm_words.specs.declared.conditions.Cond.{Cond}
use Rattle.vlm_words.specs.declared.modes.Mode.TheVariants.{Nl, Cr, Cw, Pr, Pw, Ex}
use Rattle.vlm_words.specs.declared.modes.Mode.{Mode}
use Rattle.vlm_words.specs.declared.steps.Conversion.{Conversion}
use Rattle.vlm_words.specs.declared.steps.NewRequest.{NewRequest}
use Rattle.vlm_words.specs.Modes.{rank}
use Rattle.vlm_words.specs.Flags.{expedite, has_flag, cancel, deq_bits, deqall, is_known}
use Rattle.vlm_words.specs.State.{State}
use Rattle.vlm_model.specs.Checks.{caller_refusal, lock_refusal, or_else, queue_refusal, request_flags_refusal}
use Rattle.vlm_model.specs.Checks.{request_numbers_refusal, status_block_refusal, which_refusal}
use Rattle.vlm_model.specs.Trees.{parent_lkid, site_refusal}
use Rattle.vlm_model.specs.Enqueue.{enq_form_refusal, enq_limit_refusal, enq_refusal, expedite_refusal, name_refusal}
use Rattle.vlm_model.specs.Convert.{ConversionAdmission, admission_refusal, convert_admission, convert_lkid, convert_refusal, pair_refusal}
use Rattle.vlm_words.specs.declared.steps.Dequeue.{Dequeue}
use Rattle.vlm_model.specs.Dequeue.{cancel_refusal, deq_flags_refusal, deq_refusal, dequeue_lkid, dequeued_lock_refusal}
use Rattle.vlm_model.specs.Dequeue.{is_mixed, leaves_none, sublocks_refusal}

-- where neither of two checks refuses, each passes
pub both_pass : (first later : Option Cond) → or_else first later ≡ None → (first ≡ None) × (later ≡ None)
both_pass None later passed = (refl, passed)
both_pass (Some refusal) later passed = cc

-- where a check passes, its test fails
pub test_fails : (test : Bool) (refusal : Cond) → cond test (Some refusal) None ≡ None → test ≡ false
test_fails true refusal passed = cc
test_fails false refusal passed = refl

-- where a check passes, its test passes
pub test_passes : (test : Bool) (refusal : Cond) → cond test None (Some refusal) ≡ None → test ≡ true
test_passes true refusal passed = refl
test_passes false refusal passed = cc

-- the weakest mode is NL
rank_zero : (mode : Mode) → (rank mode == 0) ≡ true → mode ≡ Nl
rank_zero Nl is = refl
rank_zero Cr is = cc
rank_zero Cw is = cc
rank_zero Pr is = cc
rank_zero Pw is = cc
rank_zero Ex is = cc

-- the second of two tests fails where both do not pass and the first does
pub second_fails : (a b : Bool) → (a && b) ≡ false → a ≡ true → b ≡ false
second_fails true b both first = both
second_fails false b both first = cc

-- the first of two tests fails where the first passes only with the second, and the second fails
pub first_fails : (a b : Bool) → (a && not b) ≡ false → b ≡ false → a ≡ false
first_fails false b both second = refl
first_fails true true both second = cc
first_fails true false both second = cc

-- where none of three checks refuses, each passes
pub three_pass : (a b c : Option Cond) → or_else a (or_else b c) ≡ None → (a ≡ None) × (b ≡ None) × (c ≡ None)
three_pass None None c passed = (refl, refl, passed)
three_pass None (Some refusal) c passed = cc
three_pass (Some refusal) b c passed = cc

-- where none of four checks refuses, each passes
four_pass : (a b c d : Option Cond) → or_else a (or_else b (or_else c d)) ≡ None → (a ≡ None) × (b ≡ None) × (c ≡ None) × (d ≡ None)
four_pass None None None d passed = (refl, refl, refl, passed)
four_pass None None (Some refusal) d passed = cc
four_pass None (Some refusal) c d passed = cc
four_pass (Some refusal) b c d passed = cc

-- where none of five checks refuses, the last passes
fifth_passes : (a b c d e : Option Cond) → or_else a (or_else b (or_else c (or_else d e))) ≡ None → e ≡ None
fifth_passes None None None None e passed = passed
fifth_passes None None None (Some refusal) e passed = cc
fifth_passes None None (Some refusal) d e passed = cc
fifth_passes None (Some refusal) c d e passed = cc
fifth_passes (Some refusal) b c d e passed = cc

-- the four groups of checks of an accepted request pass
pub enq_passes : (s : State) (e : NewRequest) → enq_refusal s e ≡ None
    → (caller_refusal s e.pid ≡ None) × (enq_form_refusal s e ≡ None) × (site_refusal s e.pid e.flags (parent_lkid s e) ≡ None) × (enq_limit_refusal s e ≡ None)
unfolding enq_refusal
enq_passes s e passed =
    four_pass (caller_refusal s e.pid) (enq_form_refusal s e) (site_refusal s e.pid e.flags (parent_lkid s e))
    (enq_limit_refusal s e) passed

-- where none of six checks refuses, the last passes
pub sixth_passes : (a b c d e last : Option Cond) → or_else a (or_else b (or_else c (or_else d (or_else e last)))) ≡ None → last ≡ None
sixth_passes None None None None e last passed = (both_pass e last passed).1
sixth_passes None None None (Some refusal) e last passed = cc
sixth_passes None None (Some refusal) d e last passed = cc
sixth_passes None (Some refusal) c d e last passed = cc
sixth_passes (Some refusal) b c d e last passed = cc

-- an accepted request with EXPEDITE asks for NL
pub expedited_is_null : (s : State) (e : NewRequest) → enq_refusal s e ≡ None → has_flag e.flags expedite ≡ true → e.mode ≡ Nl
unfolding enq_form_refusal expedite_refusal
expedited_is_null s e passed flagged =
    rank_zero e.mode
    (not-false (rank e.mode == 0)
    (second_fails (has_flag e.flags expedite) (not (rank e.mode == 0))
    (test_fails (has_flag e.flags expedite && not (rank e.mode == 0)) Unsupported
    (fifth_passes (request_flags_refusal e.flags) (status_block_refusal s e.pid e.block) (which_refusal s e.pid e.parent) (name_refusal e.name)
    (cond (has_flag e.flags expedite && not (rank e.mode == 0)) (Some Unsupported) None) (enq_passes s e passed).1)) flagged))

-- an admission that is not refused is there
pub some_admission : (s : State) (c : Conversion) (admission : Option ConversionAdmission) → admission_refusal s c admission ≡ None
    → (a : ConversionAdmission) × (admission ≡ Some a)
some_admission s c None passed = cc
some_admission s c (Some a) passed = (a, refl)

-- the admission of an accepted conversion is not refused
pub admission_passes : (s : State) (c : Conversion) → convert_refusal s c ≡ None
    → admission_refusal s c (convert_admission s c) ≡ None
unfolding convert_refusal
admission_passes s c passed =
    sixth_passes (caller_refusal s c.pid) (request_flags_refusal c.flags) (status_block_refusal s c.pid c.block) (which_refusal s c.pid c.lock)
    (lock_refusal s c.pid (convert_lkid s c)) (admission_refusal s c (convert_admission s c)) passed

-- QUECVT goes with an accepted conversion, if it is asked for
pub pair_passes : (s : State) (c : Conversion) (a : ConversionAdmission) → convert_refusal s c ≡ None → convert_admission s c ≡ Some a
    → pair_refusal c a.row ≡ None
pair_passes s c a passed admitted =
    (both_pass (pair_refusal c a.row) (or_else (request_numbers_refusal s) (queue_refusal c.flags a.at_once))
    (subst (λ (found : Option ConversionAdmission). admission_refusal s c found ≡ None) admitted (admission_passes s c passed))).0

-- where one of two tests passes, and the negated first does not, the second does
pub second_passes : (a b : Bool) → (not a || b) ≡ true → a ≡ true → b ≡ true
second_passes true b one first = one
second_passes false b one first = cc

-- the checks of a dequeue that follow those of its flags
abbrev later_checks : State → Dequeue → Option Cond
later_checks s d =
    or_else (which_refusal s d.pid d.lock)
    (or_else (dequeued_lock_refusal s d) (or_else (cancel_refusal s d) (sublocks_refusal s (leaves_none d) (dequeue_lkid s d))))

-- what DEQALL goes with, where the checks of a dequeue do not refuse it
not_mixed : (s : State) (d : Dequeue) → deq_refusal s d ≡ None → (is_known deq_bits d.flags && not (is_mixed d)) ≡ true
unfolding deq_refusal deq_flags_refusal
not_mixed s d passed =
    test_passes (is_known deq_bits d.flags && not (is_mixed d)) Badparam
    (both_pass (cond (is_known deq_bits d.flags && not (is_mixed d)) None (Some Badparam)) (later_checks s d)
    (both_pass (caller_refusal s d.pid) (or_else (cond (is_known deq_bits d.flags && not (is_mixed d)) None (Some Badparam)) (later_checks s d)) passed).1).0

-- DEQALL goes with no cancel
pub flags_go_together : (s : State) (d : Dequeue) → deq_refusal s d ≡ None → has_flag d.flags deqall ≡ true → has_flag d.flags cancel ≡ false
flags_go_together s d passed all =
    of_tests (is_known deq_bits d.flags) (has_flag d.flags deqall) (has_flag d.flags cancel) (is_some d.value) (is_some d.tail && not (is_some d.value)) all
    (not_mixed s d passed)
  where
    of_tests : (known all cancels given alone : Bool) → all ≡ true → (known && not ((all && (cancels || given)) || alone)) ≡ true → cancels ≡ false
    of_tests true true true given alone is passed = cc
    of_tests false true true given alone is passed = cc
    of_tests known true false given alone is passed = refl
    of_tests known false cancels given alone is passed = cc

-- nor with a value
pub no_value_goes : (s : State) (d : Dequeue) → deq_refusal s d ≡ None → has_flag d.flags deqall ≡ true → is_some d.value ≡ false
no_value_goes s d passed all =
    of_tests (is_known deq_bits d.flags) (has_flag d.flags deqall) (has_flag d.flags cancel) (is_some d.value) (is_some d.tail && not (is_some d.value)) all
    (not_mixed s d passed)
  where
    of_tests : (known all cancels given alone : Bool) → all ≡ true → (known && not ((all && (cancels || given)) || alone)) ≡ true → given ≡ false
    of_tests known true cancels false alone is passed = refl
    of_tests true true true true alone is passed = cc
    of_tests true true false true alone is passed = cc
    of_tests false true cancels true alone is passed = cc
    of_tests known false cancels given alone is passed = cc

-- what is not given is none
pub given_none : (given : Option (List ℕ)) → is_some given ≡ false → given ≡ None
given_none None is = refl
given_none (Some bytes) is = cc
