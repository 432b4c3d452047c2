-- The structs by which C passes a step.
use Rattle.std.specs.Prelude.{ℕ, Bool, true, false, Option, Some, None, replicate}
use Rattle.vlm_words.specs.declared.steps.Which.{Which}
use Rattle.vlm_words.specs.declared.steps.Which.TheVariants.{Id, Block}
use Rattle.vlm_words.specs.declared.steps.NewRequest.{NewRequest}
use Rattle.vlm_words.specs.declared.steps.Conversion.{Conversion}
use Rattle.vlm_words.specs.declared.steps.Dequeue.{Dequeue}
use Rattle.vlm_words.specs.declared.steps.Declaration.{Declaration}
use Rattle.vlm_words.specs.declared.steps.ValueSetting.{ValueSetting}
use Rattle.vlm_capi.specs.declared.arguments.VlmDeclaration.{VlmDeclaration}
use Rattle.vlm_capi.specs.declared.arguments.VlmDequeue.{VlmDequeue}
use Rattle.vlm_capi.specs.declared.arguments.VlmRequest.{VlmRequest}
use Rattle.vlm_capi.specs.declared.arguments.VlmSetting.{VlmSetting}
use Rattle.vlm_capi.specs.Structs.{mode_number}

-- 1 for a value that is given
abbrev pub mark : {A : Type 0} → Option A → ℕ
mark (Some x) = 1
mark None = 0

abbrev pub given_or : {A : Type 0} → Option A → A → A
given_or (Some x) other = x
given_or None other = other

-- how a lock is named: its number, and 0 for an ID or 1 for a status block
abbrev pub named_lock : Which → ℕ × ℕ
named_lock (Id lkid) = (lkid, 0)
named_lock (Block block) = (block, 1)

abbrev pub bit : Bool → ℕ
bit true = 1
bit false = 0

abbrev pub declaration_struct : Declaration → VlmDeclaration
declaration_struct d = record {
  size = 32;
  node = d.node;
  group = d.group;
  syslck = bit d.syslck;
  quota = d.quota;
  blocks = d.blocks;
  reserved = replicate 2 0;
}

abbrev pub setting_struct : ValueSetting → VlmSetting
setting_struct s = record {
  size = 96;
  pid = s.pid;
  block = s.block;
  has_tail = mark s.tail;
  value = s.value;
  tail = given_or s.tail (replicate 48 0);
  reserved = replicate 4 0;
}

abbrev pub request_struct : NewRequest → VlmRequest
request_struct r = record {
  size = 128;
  pid = r.pid;
  mode = mode_number (Some r.mode);
  flags = r.flags;
  block = r.block;
  lock = (named_lock r.parent).0;
  lock_kind = (named_lock r.parent).1;
  has_ast = mark r.ast;
  ast = given_or r.ast 0;
  has_bast = mark r.bast;
  bast = given_or r.bast 0;
  param = r.param;
  reserved = replicate 20 0;
}

abbrev pub conversion_struct : Conversion → VlmRequest
conversion_struct c = record {
  size = 128;
  pid = c.pid;
  mode = mode_number (Some c.mode);
  flags = c.flags;
  block = c.block;
  lock = (named_lock c.lock).0;
  lock_kind = (named_lock c.lock).1;
  has_ast = mark c.ast;
  ast = given_or c.ast 0;
  has_bast = mark c.bast;
  bast = given_or c.bast 0;
  param = c.param;
  reserved = replicate 20 0;
}

abbrev pub dequeue_struct : Dequeue → VlmDequeue
dequeue_struct d = record {
  size = 128;
  pid = d.pid;
  flags = d.flags;
  lock = (named_lock d.lock).0;
  lock_kind = (named_lock d.lock).1;
  has_value = mark d.value;
  has_tail = mark d.tail;
  value = given_or d.value (replicate 16 0);
  tail = given_or d.tail (replicate 48 0);
  reserved = replicate 9 0;
}

-- the structs of no step
abbrev pub no_declaration : VlmDeclaration
no_declaration =
    record { size = 0; node = 0; group = 0; syslck = 0; quota = 0; blocks = 0; reserved = replicate 2 0 }

abbrev pub no_setting : VlmSetting
no_setting = record {
  size = 0;
  pid = 0;
  block = 0;
  has_tail = 0;
  value = replicate 16 0;
  tail = replicate 48 0;
  reserved = replicate 4 0;
}

abbrev pub no_request : VlmRequest
no_request = record {
  size = 0;
  pid = 0;
  mode = 0;
  flags = 0;
  block = 0;
  lock = 0;
  lock_kind = 0;
  has_ast = 0;
  ast = 0;
  has_bast = 0;
  bast = 0;
  param = 0;
  reserved = replicate 20 0;
}

abbrev pub no_dequeue : VlmDequeue
no_dequeue = record {
  size = 0;
  pid = 0;
  flags = 0;
  lock = 0;
  lock_kind = 0;
  has_value = 0;
  has_tail = 0;
  value = replicate 16 0;
  tail = replicate 48 0;
  reserved = replicate 9 0;
}
