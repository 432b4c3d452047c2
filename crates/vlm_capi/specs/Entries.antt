-- What C gets of the journal.
use Rattle.std.specs.Prelude.{ℕ, List, [], ◌++◌, drop, length, map, Some, replicate}
use Rattle.vlm_words.specs.declared.steps.Step.{Step}
use Rattle.vlm_words.specs.declared.steps.Step.TheVariants.{Convert, Declare, Deq, Enq, Leave, Rundown, Search, SetValue, Take}
use Rattle.vlm_words.specs.declared.steps.Answer.{Answer}
use Rattle.vlm_words.specs.declared.steps.Answer.TheVariants.{Taken}
use Rattle.vlm_words.specs.Padding.{padded}
use Rattle.vlm_journal.specs.declared.entries.Entry.{Entry}
use Rattle.vlm_capi.specs.ScriptLines.{name_or_none}
use Rattle.vlm_capi.specs.declared.arguments.VlmDeclaration.{VlmDeclaration}
use Rattle.vlm_capi.specs.declared.arguments.VlmDequeue.{VlmDequeue}
use Rattle.vlm_capi.specs.declared.arguments.VlmRequest.{VlmRequest}
use Rattle.vlm_capi.specs.declared.arguments.VlmSetting.{VlmSetting}
use Rattle.vlm_capi.specs.declared.replies.VlmAst.{VlmAst}
use Rattle.vlm_capi.specs.Replies.{answer_number, answer_status, ast_of, no_ast}
use Rattle.vlm_capi.specs.StepStructs.{conversion_struct, declaration_struct, dequeue_struct, no_declaration}
use Rattle.vlm_capi.specs.StepStructs.{no_dequeue, no_request, no_setting, request_struct, setting_struct}
use Rattle.vlm_capi.specs.declared.entries.VlmEntry.{VlmEntry}

abbrev pub step_number : Step → ℕ
step_number (Declare d) = 1
step_number (SetValue s) = 2
step_number (Enq r) = 3
step_number (Convert c) = 4
step_number (Deq d) = 5
step_number (Rundown pid) = 6
step_number (Leave node) = 7
step_number (Search node) = 8
step_number (Take pid) = 9

-- the process that a Rundown or a Take names
abbrev pub named_process : Step → ℕ
named_process (Rundown pid) = pid
named_process (Take pid) = pid
named_process step = 0

-- the node that a Leave or a Search names
abbrev pub named_node : Step → ℕ
named_node (Leave node) = node
named_node (Search node) = node
named_node step = 0

-- the AST that a Take got
abbrev pub ast_in : Answer → VlmAst
ast_in (Taken (Some ast)) = ast_of ast
ast_in answer = no_ast

-- the name of a new request, or no bytes if it is no name
abbrev pub name_in : Step → List ℕ
name_in (Enq r) = name_or_none r.name
name_in step = []

abbrev pub declaration_in : Step → VlmDeclaration
declaration_in (Declare d) = declaration_struct d
declaration_in step = no_declaration

abbrev pub setting_in : Step → VlmSetting
setting_in (SetValue s) = setting_struct s
setting_in step = no_setting

abbrev pub request_in : Step → VlmRequest
request_in (Enq r) = request_struct r
request_in (Convert c) = conversion_struct c
request_in step = no_request

abbrev pub dequeue_in : Step → VlmDequeue
dequeue_in (Deq d) = dequeue_struct d
dequeue_in step = no_dequeue

-- the step and the answer of an entry, each in the members that belong to it
abbrev pub entry_of : Entry → VlmEntry
entry_of e = record {
  size = 512;
  sender = e.sender;
  step = step_number e.step;
  pid = named_process e.step;
  node = named_node e.step;
  status = answer_status e.answer;
  number = answer_number e.answer;
  name_len = length (name_in e.step);
  ast = ast_in e.answer;
  name = padded 32 (name_in e.step);
  declaration = declaration_in e.step;
  setting = setting_in e.step;
  request = request_in e.step;
  dequeue = dequeue_in e.step;
  reserved = replicate 8 0;
}

-- the entries in the first elements; the others stay
abbrev pub written : List Entry → List VlmEntry → List VlmEntry
written entries old = map entry_of entries ++ drop (length entries) old
