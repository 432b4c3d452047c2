-- The parts of a packed request.
use Rattle.std.specs.Prelude.{ℕ, Option, None, Some}
use Rattle.vlm_words.specs.declared.locks.Request.{Request}
use Rattle.vlm_words.specs.declared.modes.Mode.TheVariants.{Nl}
use Rattle.vlm_records.specs.declared.rows.RequestTerms.{RequestTerms}
use Rattle.vlm_records.specs.declared.rows.RequestTag.{RequestTag}
use Rattle.vlm_records.specs.declared.rows.RequestTag.TheVariants.{Nothing, NoRoutine, Completion, Blocking, Both}
use Rattle.vlm_records.specs.declared.rows.Routines.{Routines}

-- the request with these parts and routines
abbrev pub request_with : ℕ → Option ℕ → Option ℕ → Routines → RequestTerms → Request
request_with number completion blocking routines asked = record {
  number = number;
  completion = completion;
  blocking = blocking;
  param = routines.param;
  flags = asked.flags;
  mode = asked.mode;
  block = asked.block;
}

-- the completion routine of a packed request, if it names one
abbrev pub completion_shown : RequestTag → Routines → Option ℕ
completion_shown Nothing routines = None
completion_shown NoRoutine routines = None
completion_shown Completion routines = Some routines.completion
completion_shown Blocking routines = None
completion_shown Both routines = Some routines.completion

-- the blocking routine of a packed request, if it names one
abbrev pub blocking_shown : RequestTag → Routines → Option ℕ
blocking_shown Nothing routines = None
blocking_shown NoRoutine routines = None
blocking_shown Completion routines = None
blocking_shown Blocking routines = Some routines.blocking
blocking_shown Both routines = Some routines.blocking

-- the request that the parts show, if there is one
abbrev pub request_shown : RequestTag → ℕ → Routines → RequestTerms → Option Request
request_shown Nothing number routines asked = None
request_shown NoRoutine number routines asked = Some (request_with number None None routines asked)
request_shown Completion number routines asked = Some (request_with number
    (Some routines.completion) None routines asked)
request_shown Blocking number routines asked = Some (request_with number None (Some routines.blocking) routines asked)
request_shown Both number routines asked = Some (request_with number (Some routines.completion)
    (Some routines.blocking) routines asked)

-- which of two routines are named
abbrev pub named_routines : Option ℕ → Option ℕ → RequestTag
named_routines None None = NoRoutine
named_routines (Some completion) None = Completion
named_routines None (Some blocking) = Blocking
named_routines (Some completion) (Some blocking) = Both

-- whether there is a request, and which routines it names
abbrev pub tag_of : Option Request → RequestTag
tag_of None = Nothing
tag_of (Some request) = named_routines request.completion request.blocking

-- the number of a request; 0 without one
abbrev pub packed_number : Option Request → ℕ
packed_number None = 0
packed_number (Some request) = request.number

-- the number of a routine; 0 without one
abbrev pub routine_kept : Option ℕ → ℕ
routine_kept None = 0
routine_kept (Some routine) = routine

-- the routines and the parameter of a request; zeros for what is missing
abbrev pub packed_routines : Option Request → Routines
packed_routines None = record { completion = 0; blocking = 0; param = 0 }
packed_routines (Some request) = record {
  completion = routine_kept request.completion;
  blocking = routine_kept request.blocking;
  param = request.param;
}

-- flags, mode and status block of a request; NL and zeros without one
abbrev pub packed_terms : Option Request → RequestTerms
packed_terms None = record { flags = record { 0 = 0 }; mode = Nl; block = 0 }
packed_terms (Some request) = record { flags = request.flags; mode = request.mode; block = request.block }
