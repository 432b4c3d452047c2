-- The lines of a script, as C gets them.
use Rattle.std.specs.Prelude.{ℕ, List, [], length, replicate, Result, Ok, Err, if◌then◌else◌}
use Rattle.vlm_words.specs.Padding.{padded}
use Rattle.vlm_words.specs.Names.{is_name}
use Rattle.vlm_words.specs.declared.steps.NewRequest.{NewRequest}
use Rattle.vlm_lines.specs.declared.faults.LineFault.{LineFault}
use Rattle.vlm_lines.specs.declared.faults.LineFault.TheVariants.{TooLong, UnknownCommand, WrongWord, NumberOutOfRange, UnknownName, NameUsed}
use Rattle.vlm_lines.specs.declared.lines.Line.{Line}
use Rattle.vlm_lines.specs.declared.lines.Line.TheVariants.{Empty, Declare, Enq, Cvt, Deq, Set, End, Leave, Search, Ast, Block, Tail, Show, Tails}
use Rattle.vlm_capi.specs.declared.script_lines.VlmLine.{VlmLine}
use Rattle.vlm_capi.specs.StepStructs.{conversion_struct, declaration_struct, dequeue_struct, no_declaration}
use Rattle.vlm_capi.specs.StepStructs.{no_dequeue, no_request, no_setting, request_struct, setting_struct}

-- the number of a fault
abbrev pub fault_number : LineFault → ℕ
fault_number TooLong = 1
fault_number UnknownCommand = 2
fault_number WrongWord = 3
fault_number NumberOutOfRange = 4
fault_number UnknownName = 5
fault_number NameUsed = 6

-- a line of this kind, with nothing else
abbrev pub line_of_kind : ℕ → VlmLine
line_of_kind kind = record {
  size = 464;
  kind = kind;
  fault = 0;
  number = 0;
  name_len = 0;
  resource_len = 0;
  name = replicate 16 0;
  resource = replicate 32 0;
  declaration = no_declaration;
  setting = no_setting;
  request = no_request;
  dequeue = no_dequeue;
  reserved = replicate 2 0;
}

-- a line of this kind under a process's name
abbrev pub named_line : ℕ → List ℕ → VlmLine
named_line kind name = record (line_of_kind kind) { name_len = length name; name = padded 16 name }

-- the bytes of a name, or no bytes if they are no name
abbrev pub name_or_none : List ℕ → List ℕ
name_or_none bytes = if is_name bytes then bytes else []

-- a request's line has the name of its resource
abbrev pub with_request : VlmLine → NewRequest → VlmLine
with_request line request = record line {
  resource_len = length (name_or_none request.name);
  resource = padded 32 (name_or_none request.name);
  request = request_struct request;
}

-- the struct of a line; its step has no process yet
abbrev pub line_struct : Line → VlmLine
line_struct Empty = line_of_kind 0
line_struct (Declare name declaration) = record (named_line 1 name) { declaration = declaration_struct declaration }
line_struct (Set name setting) = record (named_line 2 name) { setting = setting_struct setting }
line_struct (Enq name request) = with_request (named_line 3 name) request
line_struct (Cvt name conversion) = record (named_line 4 name) { request = conversion_struct conversion }
line_struct (Deq name dequeue) = record (named_line 5 name) { dequeue = dequeue_struct dequeue }
line_struct (End name) = named_line 6 name
line_struct (Leave node) = record (line_of_kind 7) { number = node }
line_struct (Search node) = record (line_of_kind 8) { number = node }
line_struct (Ast name) = named_line 9 name
line_struct (Block name number) = record (named_line 10 name) { number = number }
line_struct (Tail name number) = record (named_line 11 name) { number = number }
line_struct Show = line_of_kind 12
line_struct Tails = line_of_kind 13

-- what C gets of a line that was read
abbrev pub read_struct : Result Line LineFault → VlmLine
read_struct (Ok line) = line_struct line
read_struct (Err fault) = record (line_of_kind 0) { fault = fault_number fault }
