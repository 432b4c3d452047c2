-- What is printed of a status and a number.
use Rattle.std.proofs.Common.{◌≡◌, ℕ, Option, Some, None, refl, sym, ap, ◌∙◌, rules}
use Rattle.vlm_words.specs.declared.conditions.Cond.{Cond}
use Rattle.vlm_words.specs.declared.conditions.Cond.TheVariants.{Normal, Synch, Notqueued, Abort, Cancel, Deadlock}
use Rattle.vlm_words.specs.declared.conditions.Cond.TheVariants.{Valnotvalid, Cancelgrant, Sublocks, Ivlockid}
use Rattle.vlm_words.specs.declared.conditions.Cond.TheVariants.{Cvtungrant, Parnotgrant, Exdepth, Exenqlm, Nolockid}
use Rattle.vlm_words.specs.declared.conditions.Cond.TheVariants.{Insfmem, Ivbuflen, Badparam, Unsupported, Nosyslck}
use Rattle.vlm_words.specs.declared.conditions.Cond.TheVariants.{Accvio, Nonexpr, Departed, Widenotvalid}
use Rattle.vlm_words.specs.declared.steps.Answer.{Answer}
use Rattle.vlm_words.specs.declared.steps.Answer.TheVariants.{Process, Lock, Victim, Taken, Plain}
use Rattle.vlm_words.specs.Conditions.{condition_number}
use Rattle.vlm_capi.specs.Printed.{IsToldOf, answer_told, condition_of}

-- a condition has its number alone
pub condition_back : (cond : Cond) → condition_of (condition_number cond) ≡ Some cond
unfolding condition_of
condition_back Normal = refl
condition_back Synch = refl
condition_back Notqueued = refl
condition_back Abort = refl
condition_back Cancel = refl
condition_back Deadlock = refl
condition_back Valnotvalid = refl
condition_back Cancelgrant = refl
condition_back Sublocks = refl
condition_back Ivlockid = refl
condition_back Cvtungrant = refl
condition_back Parnotgrant = refl
condition_back Exdepth = refl
condition_back Exenqlm = refl
condition_back Nolockid = refl
condition_back Insfmem = refl
condition_back Ivbuflen = refl
condition_back Badparam = refl
condition_back Unsupported = refl
condition_back Nosyslck = refl
condition_back Accvio = refl
condition_back Nonexpr = refl
condition_back Departed = refl
condition_back Widenotvalid = refl

or_normal : Option Cond → Cond
or_normal (Some cond) = cond
or_normal None = Normal

pub same_condition : (a b : Cond) → condition_number a ≡ condition_number b → a ≡ b
unfolding or_normal
same_condition a b same = ap or_normal (sym (condition_back a) ∙ ap condition_of same ∙ condition_back b)

pub told_back : (kind : ℕ) (cond : Cond) (number : ℕ) (answer : Answer) → IsToldOf kind cond number answer → answer_told kind cond number ≡ answer
unfolding answer_told
told_back kind cond number (Process pid) is = let same = same_condition Normal cond is.1 in search rules
told_back kind cond number (Lock c lkid) is = let same = same_condition c cond is.1 in search rules
told_back kind cond number (Victim (Some lkid)) is = let same = same_condition Normal cond is.1 in search rules
told_back kind cond number (Victim None) is = let same = same_condition Normal cond is.1 in search rules
told_back kind cond number (Taken ast) is = absurd is.0
told_back kind cond number (Plain c) is = let same = same_condition c cond is.1 in search rules
