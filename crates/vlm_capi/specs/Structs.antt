-- The steps that the structs and numbers of C name.
use Rattle.std.specs.Prelude.{◌≡◌, ℕ, ◌/◌, List, Bool, ◌==◌, ◌&&◌, nat_lt, nat_le, take, Option, Some, None, if◌then◌else◌}
use Rattle.std.specs.List.{list_all}
use Rattle.std.specs.Hash.DefaultHasher.{initial as empty, write}
use Rattle.vlm_collections.specs.declared.hashers.HashKeys.{HashKeys}
use Rattle.vlm_collections.specs.Hashing.{key_words}
use Rattle.vlm_collections.specs.Sip.{initial}
use Rattle.vlm_words.specs.declared.modes.Mode.{Mode}
use Rattle.vlm_words.specs.declared.modes.Mode.TheVariants.{Nl, Cr, Cw, Pr, Pw, Ex}
use Rattle.vlm_words.specs.declared.steps.Which.{Which}
use Rattle.vlm_words.specs.declared.steps.Which.TheVariants.{Id, Block}
use Rattle.vlm_words.specs.declared.steps.NewRequest.{NewRequest}
use Rattle.vlm_words.specs.declared.steps.Conversion.{Conversion}
use Rattle.vlm_words.specs.declared.steps.Dequeue.{Dequeue}
use Rattle.vlm_words.specs.declared.steps.Declaration.{Declaration}
use Rattle.vlm_words.specs.declared.steps.ValueSetting.{ValueSetting}
use Rattle.vlm_capi.specs.declared.arguments.VlmDeclaration.{VlmDeclaration}
use Rattle.vlm_capi.specs.declared.arguments.VlmOptions.{VlmOptions}
use Rattle.vlm_capi.specs.declared.arguments.VlmSetting.{VlmSetting}
use Rattle.vlm_capi.specs.declared.arguments.VlmRequest.{VlmRequest}
use Rattle.vlm_capi.specs.declared.arguments.VlmDequeue.{VlmDequeue}

unfoldable pub mode_of : ℕ → Option Mode
mode_of n =
    if n == 0 then Some Nl
    else (if n == 1 then Some Cr
    else (if n == 2 then Some Cw
    else (if n == 3 then Some Pr
    else (if n == 4 then Some Pw
    else (if n == 5 then Some Ex else None)))))

-- 255 is no mode
abbrev pub mode_number : Option Mode → ℕ
mode_number (Some Nl) = 0
mode_number (Some Cr) = 1
mode_number (Some Cw) = 2
mode_number (Some Pr) = 3
mode_number (Some Pw) = 4
mode_number (Some Ex) = 5
mode_number None = 255

-- the lock of this number: of kind 0 an ID, of kind 1 a status block
unfoldable pub which_of : ℕ → ℕ → Option Which
which_of lock kind =
    if kind == 0 then Some (Id lock)
    else (if (kind == 1) && nat_lt lock 256 then Some (Block lock) else None)

-- every byte passes; the core checks that it is a node
abbrev pub node_of : ℕ → Option ℕ
node_of n = if nat_le n 255 then Some n else None

abbrev pub is_blank : List ℕ → Bool
is_blank fields = list_all (λ w. w == 0) fields

-- mark 1 says that the value is given
abbrev pub given : {A : Type 0} → ℕ → A → Option A
given mark x = if mark == 1 then Some x else None

-- the struct has its size and a version that begins as this one, its reserved fields are 0, and its mark is 0 or 1
unfoldable pub is_options : VlmOptions → Bool
is_options w = (w.size == 64) && (w.version / 256 == 2) && is_blank w.reserved && nat_le w.has_keys 1

-- the keys are the 16 bytes that the options give, or the fixed keys
pub record AreKeysOf (w : VlmOptions) (keys : HashKeys) : Type 0 where
  pub given : w.has_keys ≡ 1
      → (keys.words ≡ initial (key_words w.keys).0 (key_words w.keys).1) × (keys.bytes ≡ write empty w.keys)
  pub fixed : w.has_keys ≡ 0 → (keys.words ≡ initial 0 0) × (keys.bytes ≡ empty)

-- the struct has its size, its reserved fields are 0 and its numbers fit
abbrev pub is_declaration : VlmDeclaration → Bool
is_declaration w =
    (w.size == 32) && is_blank w.reserved && nat_le w.node 255 && nat_le w.group 65535 && nat_le w.syslck 1
    && nat_le w.quota 65535 && nat_le w.blocks 255

unfoldable pub declaration_of : VlmDeclaration → Option Declaration
declaration_of w =
    if is_declaration w
    then Some (record { node = w.node; group = w.group; syslck = w.syslck == 1; quota = w.quota; blocks = w.blocks })
    else None

unfoldable pub setting_of : VlmSetting → Option ValueSetting
setting_of w =
    if (w.size == 96) && is_blank w.reserved && nat_le w.block 255 && nat_le w.has_tail 1
    then Some (record { pid = w.pid; block = w.block; value = w.value; tail = given w.has_tail w.tail }) else None

-- the struct has its size, its reserved fields are 0 and its numbers fit
abbrev pub is_request : VlmRequest → Bool
is_request w =
    (w.size == 128) && is_blank w.reserved && nat_le w.flags 65535 && nat_le w.block 255 && nat_le w.has_ast 1
    && nat_le w.has_bast 1

-- a new request needs a mode and a parent
abbrev pub request_with : VlmRequest → List ℕ → Option Mode → Option Which → Option NewRequest
request_with w name (Some mode) (Some parent) = Some (record {
  pid = w.pid;
  mode = mode;
  name = take 32 name;
  block = w.block;
  parent = parent;
  flags = w.flags;
  ast = given w.has_ast w.ast;
  bast = given w.has_bast w.bast;
  param = w.param;
})
request_with w name (Some mode) None = None
request_with w name None parent = None

unfoldable pub request_of : VlmRequest → List ℕ → Option NewRequest
request_of w name = if is_request w then request_with w name (mode_of w.mode) (which_of w.lock w.lock_kind) else None

-- a conversion needs a mode and a lock
abbrev pub conversion_with : VlmRequest → Option Mode → Option Which → Option Conversion
conversion_with w (Some mode) (Some lock) = Some (record {
  pid = w.pid;
  lock = lock;
  mode = mode;
  block = w.block;
  flags = w.flags;
  ast = given w.has_ast w.ast;
  bast = given w.has_bast w.bast;
  param = w.param;
})
conversion_with w (Some mode) None = None
conversion_with w None lock = None

unfoldable pub conversion_of : VlmRequest → Option Conversion
conversion_of w = if is_request w then conversion_with w (mode_of w.mode) (which_of w.lock w.lock_kind) else None

-- a dequeue needs a lock
abbrev pub dequeue_with : VlmDequeue → Option Which → Option Dequeue
dequeue_with w (Some lock) = Some (record {
  pid = w.pid;
  lock = lock;
  value = given w.has_value w.value;
  tail = given w.has_tail w.tail;
  flags = w.flags;
})
dequeue_with w None = None

unfoldable pub dequeue_of : VlmDequeue → Option Dequeue
dequeue_of w =
    if (w.size == 128) && is_blank w.reserved && nat_le w.flags 65535 && nat_le w.has_value 1 && nat_le w.has_tail 1
    then dequeue_with w (which_of w.lock w.lock_kind) else None
