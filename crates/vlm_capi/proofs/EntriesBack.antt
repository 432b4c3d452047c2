-- The step that an entry of the journal tells.
use Rattle.std.proofs.Common.{◌≡◌, ℕ, ◌-◌, ◌≤◌, nat_le, true, List, length, replicate, take, Option, Some, None, refl}
use Rattle.std.proofs.Common.{ap, ◌∙◌, rules, take_at, take_all, le-leb}
use Rattle.vlm_words.specs.declared.modes.Mode.{Mode}
use Rattle.vlm_words.specs.declared.modes.Mode.TheVariants.{Nl, Cr, Cw, Pr, Pw, Ex}
use Rattle.vlm_words.specs.declared.steps.Step.{Step}
use Rattle.vlm_words.specs.declared.steps.Step.TheVariants.{Convert, Declare, Deq, Enq, Leave, Rundown, Search, SetValue, Take}
use Rattle.vlm_words.specs.declared.steps.Which.{Which}
use Rattle.vlm_words.specs.declared.steps.Which.TheVariants.{Id, Block}
use Rattle.vlm_words.specs.declared.steps.NewRequest.{NewRequest}
use Rattle.vlm_words.specs.declared.steps.Conversion.{Conversion}
use Rattle.vlm_words.specs.declared.steps.Dequeue.{Dequeue}
use Rattle.vlm_words.specs.Names.{is_name}
use Rattle.vlm_words.specs.Padding.{padded}
use Rattle.vlm_journal.specs.declared.entries.Entry.{Entry}
use Rattle.vlm_capi.specs.declared.entries.VlmEntry.{VlmEntry}
use Rattle.vlm_capi.specs.Entries.{entry_of}
use Rattle.vlm_capi.specs.Replay.{FitsStructs, HasNumber, step_of}
use Rattle.vlm_capi.specs.ScriptLines.{name_or_none}
use Rattle.vlm_capi.specs.StepStructs.{conversion_struct, dequeue_struct, given_or, mark, named_lock, request_struct}
use Rattle.vlm_capi.specs.Structs.{conversion_of, declaration_of, dequeue_of, given, mode_of, mode_number, request_of, setting_of, which_of}

pub mode_back : (mode : Mode) → mode_of (mode_number (Some mode)) ≡ Some mode
unfolding mode_of
mode_back Nl = refl
mode_back Cr = refl
mode_back Cw = refl
mode_back Pr = refl
mode_back Pw = refl
mode_back Ex = refl

pub which_back : (lock : Which) → HasNumber lock → which_of (named_lock lock).0 (named_lock lock).1 ≡ Some lock
unfolding which_of
which_back (Id lkid) fits = refl
which_back (Block block) fits = search rules

pub given_back : {A : Type 0} (value : Option A) (other : A) → given (mark value) (given_or value other) ≡ value
given_back (Some x) other = refl
given_back None other = refl

pub mark_fits : {A : Type 0} (value : Option A) → nat_le (mark value) 1 ≡ true
mark_fits (Some x) = refl
mark_fits None = refl

name_fits : (name : List ℕ) → is_name name ≡ true → length name ≤ 32
name_fits name is = search rules

name_there : (name : List ℕ) → is_name name ≡ true → name_or_none name ≡ name
name_there name is = rw is refl

pub request_back : (r : NewRequest) → FitsStructs (Enq r) → request_of (request_struct r) r.name ≡ Some r
unfolding request_of
request_back r fits =
    rw (
      fits.0,
      fits.1,
      mark_fits r.ast,
      mark_fits r.bast,
      mode_back r.mode,
      which_back r.parent fits.2,
      take_all 32 r.name (name_fits r.name fits.3),
      given_back r.ast 0,
      given_back r.bast 0,
    ) refl

pub conversion_back : (c : Conversion) → FitsStructs (Convert c) → conversion_of (conversion_struct c) ≡ Some c
unfolding conversion_of
conversion_back c fits =
    rw (fits.0, fits.1, mark_fits c.ast, mark_fits c.bast, mode_back c.mode, which_back c.lock fits.2, given_back c.ast 0, given_back c.bast 0) refl

pub dequeue_back : (d : Dequeue) → FitsStructs (Deq d) → dequeue_of (dequeue_struct d) ≡ Some d
unfolding dequeue_of
dequeue_back d fits =
    rw (fits.0, mark_fits d.value, mark_fits d.tail, which_back d.lock fits.1, given_back d.value (replicate 16 0), given_back d.tail (replicate 48 0)) refl

pub named_back : (name : List ℕ) → is_name name ≡ true → take (length (name_or_none name)) (padded 32 (name_or_none name)) ≡ name
named_back name is =
    rw (name_there name is) (take_at name (replicate (32 - length name) 0) (length name) refl)

short_back : (name : List ℕ) → is_name name ≡ true → nat_le (length (name_or_none name)) 32 ≡ true
short_back name is = rw (name_there name is) (le-leb (length name) 32 (name_fits name is))

pub step_back : (entry : Entry) (step : Step) → FitsStructs step → step_of (entry_of (record entry { step = step })) ≡ Some step
unfolding step_of declaration_of setting_of
step_back entry (Declare d) fits = search rules
step_back entry (SetValue s) fits = let tail = given_back s.tail (replicate 48 0) in search rules
step_back entry (Enq r) fits =
    rw (short_back r.name fits.3, named_back r.name fits.3, request_back r fits) refl
step_back entry (Convert c) fits = rw (conversion_back c fits) refl
step_back entry (Deq d) fits = rw (dequeue_back d fits) refl
step_back entry (Rundown pid) fits = refl
step_back entry (Leave node) fits = search rules
step_back entry (Search node) fits = search rules
step_back entry (Take pid) fits = refl

pub entry_back : (cells : VlmEntry) (made : Entry) → FitsStructs made.step → cells ≡ entry_of made → step_of cells ≡ Some made.step
entry_back cells made fits is = ap step_of is ∙ step_back made made.step fits
