-- The lines and words of a script.
use Rattle.std.specs.Prelude.{ℕ, Bool, true, false, not, ◌&&◌, ◌||◌, ◌==◌, ◌+◌, ◌-◌, ◌*◌, ◌%◌, nat_le, List, [], ◌∷◌}
use Rattle.std.specs.Prelude.{filter, take, drop, length, codes, fold, Option, None, Some, Result, Ok, Err, unwrap_or}
use Rattle.std.specs.Prelude.{if◌then◌else◌}
use Rattle.std.specs.List.{list_all, starts_with}
use Rattle.std.specs.Cmp.Lexicographic.{pointwise}
use Rattle.std.specs.Char.{is_ascii_digit, is_ascii_alphabetic, is_ascii_alphanumeric, is_ascii_hexdigit}
use Rattle.std.specs.Int.RustNames.{bit_or}
use Rattle.vlm_words.specs.declared.modes.Mode.{Mode}
use Rattle.vlm_words.specs.declared.modes.Mode.TheVariants.{Nl, Cr, Cw, Pr, Pw, Ex}
use Rattle.vlm_words.specs.declared.steps.Declaration.{Declaration}
use Rattle.vlm_words.specs.declared.steps.Which.{Which}
use Rattle.vlm_words.specs.declared.steps.Which.TheVariants.{Id, Block}
use Rattle.vlm_lines.specs.declared.keyed.DeclareWords.{DeclareWords}
use Rattle.vlm_lines.specs.declared.keyed.DeqWords.{DeqWords}
use Rattle.vlm_lines.specs.declared.keyed.RequestWords.{RequestWords}
use Rattle.vlm_lines.specs.declared.keyed.EnqWords.{EnqWords}
use Rattle.vlm_lines.specs.declared.keyed.SetWords.{SetWords}
use Rattle.vlm_lines.specs.declared.keyed.NodeWords.{NodeWords}
use Rattle.vlm_lines.specs.declared.flags.FlagWords.{FlagWords}
use Rattle.vlm_lines.specs.declared.lines.Line.{Line}
use Rattle.vlm_lines.specs.declared.lines.Line.TheVariants.{Empty, Declare, Enq, Cvt, Deq, Set, End, Leave, Search, Ast}
use Rattle.vlm_lines.specs.declared.lines.Line.TheVariants.{Block as block_words, Tail as tail_words, Show, Tails}
use Rattle.vlm_lines.specs.declared.faults.LineFault.{LineFault}
use Rattle.vlm_lines.specs.declared.faults.LineFault.TheVariants.{TooLong, UnknownCommand, WrongWord, NumberOutOfRange}
use Rattle.vlm_words.specs.Flags.{cancel, deqall, expedite, has_flag, invvalblk, nodlckblk, nodlckwt, noqueue, quecvt, syncsts, system, valblk, wide}

-- the byte goes to the front of the first piece
abbrev pub onto : ℕ → List (List ℕ) → List (List ℕ)
onto byte [] = (byte ∷ []) ∷ []
onto byte (piece ∷ pieces) = (byte ∷ piece) ∷ pieces

-- the piece before each separator, and the piece after the last one if it has any bytes
abbrev pub pieces : (ℕ → Bool) → List ℕ → List (List ℕ)
pieces ends [] = []
pieces ends (byte ∷ bytes) = if ends byte then [] ∷ pieces ends bytes else onto byte (pieces ends bytes)

-- a line ends at a line feed
abbrev pub is_line_feed : ℕ → Bool
is_line_feed byte = byte == 10

-- the lines of a script
abbrev pub lines_of : List ℕ → List (List ℕ)
lines_of bytes = pieces is_line_feed bytes

-- space, tab and carriage return separate words
abbrev pub is_blank : ℕ → Bool
is_blank byte = (byte == 32) || (byte == 9) || (byte == 13)

-- the text has no bytes
abbrev pub is_nothing : List ℕ → Bool
is_nothing [] = true
is_nothing (byte ∷ bytes) = false

-- the words of a line: its longest runs of bytes that are not blank
abbrev pub words_of : List ℕ → List (List ℕ)
words_of bytes = filter (λ word. not (is_nothing word)) (pieces is_blank bytes)

-- the two texts are the same
abbrev pub is_text : List ℕ → List ℕ → Bool
is_text a b = pointwise ◌==◌ a b

-- reading goes on with the value read, or ends at the first fault
infixl 10 ◌>>=◌
abbrev pub ◌>>=◌ : {A B : Type 0} → Result A LineFault → (A → Result B LineFault) → Result B LineFault
(Ok x) >>= f = f x
(Err fault) >>= f = Err fault

-- the number of these decimal digits
abbrev pub decimal_value : List ℕ → ℕ
decimal_value digits = fold (λ n digit. 10 * n + (digit - 48)) 0 digits

-- one or more decimal digits
abbrev pub is_number : List ℕ → Bool
is_number word = not (is_nothing word) && list_all is_ascii_digit word

-- a number of at most ten digits and at most this limit
unfoldable pub number_within : ℕ → List ℕ → Result ℕ LineFault
number_within limit word =
    if is_number word then (
    if nat_le (length word) 10 then (
    if nat_le (decimal_value word) limit then Ok (decimal_value word) else Err NumberOutOfRange
    ) else Err NumberOutOfRange
    ) else Err WrongWord

-- a byte of a process's name
abbrev pub is_name_byte : ℕ → Bool
is_name_byte byte = is_ascii_alphanumeric byte || (byte == 95)

-- the word begins with a letter
abbrev pub begins_with_letter : List ℕ → Bool
begins_with_letter [] = false
begins_with_letter (byte ∷ bytes) = is_ascii_alphabetic byte

-- a process's name in a script: 1 to 15 letters, digits and underscores, the first a letter
unfoldable pub process_name : List ℕ → Result (List ℕ) LineFault
process_name word =
    if begins_with_letter word && nat_le (length word) 15 && list_all is_name_byte word then Ok word else Err WrongWord

-- the word of a mode
unfoldable pub mode_of : List ℕ → Result Mode LineFault
mode_of word =
    if is_text word (codes "NL") then Ok Nl
    else if is_text word (codes "CR") then Ok Cr
    else if is_text word (codes "CW") then Ok Cw
    else if is_text word (codes "PR") then Ok Pr
    else if is_text word (codes "PW") then Ok Pw
    else if is_text word (codes "EX") then Ok Ex
    else Err WrongWord

-- the word begins with this key
abbrev pub has_key : List ℕ → List ℕ → Bool
has_key key word = starts_with ◌==◌ word key

-- the part of the word after the key
abbrev pub after_key : List ℕ → List ℕ → List ℕ
after_key key word = drop (length key) word

-- the value of a word, if no word before it had the same key
abbrev pub once : {A : Type 0} → Option A → Result A LineFault → Result (Option A) LineFault
once None read = read >>= λ value. Ok (Some value)
once (Some earlier) read = Err WrongWord

-- the values of the words, from left to right
abbrev pub all_words : {A : Type 0} → (A → List ℕ → Result A LineFault) → A → List (List ℕ) → Result A LineFault
all_words with_word given [] = Ok given
all_words with_word given (word ∷ words) = with_word given word >>= λ more. all_words with_word more words

-- the number of a hexadecimal digit of either case
abbrev pub digit_value : ℕ → ℕ
digit_value digit = if nat_le digit 57 then digit - 48 else if nat_le digit 70 then digit - 55 else digit - 87

-- the byte of each two hexadecimal digits
unfoldable pub hex_value : List ℕ → List ℕ
hex_value [] = []
hex_value (digit ∷ []) = []
hex_value (high ∷ low ∷ digits) = (digit_value high * 16 + digit_value low) ∷ hex_value digits

-- a name in hexadecimal digits, cut to 32 bytes; None if the number of digits is odd or a byte is no digit
unfoldable pub hex_name : List ℕ → Option (List ℕ)
hex_name digits =
    if (length digits % 2 == 0) && list_all is_ascii_hexdigit digits then Some (take 32 (hex_value digits)) else None

-- a resource's name as a script writes it, cut to 32 bytes: `x:` and hexadecimal digits, or the bytes of the name
unfoldable pub name_read : List ℕ → Option (List ℕ)
name_read bytes = if has_key (codes "x:") bytes then hex_name (after_key (codes "x:") bytes) else Some (take 32 bytes)

-- N bytes, written in exactly two hexadecimal digits each
unfoldable pub bytes_of : ℕ → List ℕ → Result (List ℕ) LineFault
bytes_of count word =
    if (length word == 2 * count) && list_all is_ascii_hexdigit word then Ok (hex_value word) else Err WrongWord

-- a value block: exactly 32 hexadecimal digits
abbrev pub value_of : List ℕ → Result (List ℕ) LineFault
value_of word = bytes_of 16 word

-- the tail of a value block: exactly 96 hexadecimal digits
abbrev pub tail_of : List ℕ → Result (List ℕ) LineFault
tail_of word = bytes_of 48 word

-- a lock: `@N` is the lock in status block N, and a number is the ID of the lock
unfoldable pub lock_named : List ℕ → Result Which LineFault
lock_named word =
    if has_key (codes "@") word then number_within 255 (after_key (codes "@") word) >>= (λ n. Ok (Block n))
    else number_within 4294967295 word >>= (λ lkid. Ok (Id lkid))

-- an ID that no process has: a line names its process instead
abbrev pub unnamed_process : ℕ
unnamed_process = 0

-- a declare line before its keyed words
abbrev pub no_declare_words : DeclareWords
no_declare_words = record { node = None; group = None; quota = None; blocks = None; syslck = false }

-- adds one keyed word of a declare line
unfoldable pub declare_word : DeclareWords → List ℕ → Result DeclareWords LineFault
declare_word d word =
    if has_key (codes "node=") word then
    once d.node (number_within 255 (after_key (codes "node=") word)) >>= (λ n. Ok (record d { node = n }))
    else if has_key (codes "group=") word then
    once d.group (number_within 65535 (after_key (codes "group=") word)) >>= (λ n. Ok (record d { group = n }))
    else if has_key (codes "quota=") word then
    once d.quota (number_within 65535 (after_key (codes "quota=") word)) >>= (λ n. Ok (record d { quota = n }))
    else if has_key (codes "blocks=") word then
    once d.blocks (number_within 255 (after_key (codes "blocks=") word)) >>= (λ n. Ok (record d { blocks = n }))
    else if is_text word (codes "syslck") && not d.syslck then Ok (record d { syslck = true })
    else Err WrongWord

-- a word that must be there
abbrev pub given : {A : Type 0} → Option A → Result A LineFault
given None = Err WrongWord
given (Some value) = Ok value

-- a declare line needs all four numbers
unfoldable pub declaration_of : DeclareWords → Result Declaration LineFault
declaration_of d =
    given d.node >>= λ node.
    given d.group >>= λ group.
    given d.quota >>= λ quota.
    given d.blocks >>= λ blocks.
    Ok (record { node = node; group = group; syslck = d.syslck; quota = quota; blocks = blocks })

-- the next word, and the words after it
abbrev pub next_word : List (List ℕ) → Result (List ℕ × List (List ℕ)) LineFault
next_word [] = Err WrongWord
next_word (word ∷ words) = Ok (word, words)

-- no word is left
abbrev pub no_more : {A : Type 0} → A → List (List ℕ) → Result A LineFault
no_more value [] = Ok value
no_more value (word ∷ words) = Err WrongWord

-- declare NAME node=N group=N quota=N blocks=N [syslck]
unfoldable pub declare_line : List (List ℕ) → Result Line LineFault
declare_line words =
    next_word words >>= λ first.
    process_name first.0 >>= λ name.
    all_words declare_word no_declare_words first.1 >>= λ d.
    declaration_of d >>= λ declaration.
    Ok (Declare name declaration)

-- the flag of a word of an enq or cvt line
unfoldable pub enq_flag : List ℕ → Option ℕ
enq_flag word =
    if is_text word (codes "valblk") then Some valblk
    else if is_text word (codes "noqueue") then Some noqueue
    else if is_text word (codes "syncsts") then Some syncsts
    else if is_text word (codes "system") then Some system
    else if is_text word (codes "expedite") then Some expedite
    else if is_text word (codes "quecvt") then Some quecvt
    else if is_text word (codes "nodlckwt") then Some nodlckwt
    else if is_text word (codes "nodlckblk") then Some nodlckblk
    else if is_text word (codes "wide") then Some wide
    else None

-- the flag of a word of a deq line
unfoldable pub deq_flag : List ℕ → Option ℕ
deq_flag word =
    if is_text word (codes "deqall") then Some deqall
    else if is_text word (codes "cancel") then Some cancel
    else if is_text word (codes "invvalblk") then Some invvalblk
    else None

-- adds a flag to those before it; a flag that came before, or a word that is no flag, is a fault
unfoldable pub flag_once : ℕ → Option ℕ → Result ℕ LineFault
flag_once flags None = Err WrongWord
flag_once flags (Some flag) = if has_flag flags flag then Err WrongWord else Ok (bit_or flags flag)

-- no flag word and no bits yet
abbrev pub no_flag_words : FlagWords
no_flag_words = record { words = 0; bits = None }

-- adds one flag word, or the bits of flags as a number
unfoldable pub flag_word : FlagWords → List ℕ → Option ℕ → Result FlagWords LineFault
flag_word f word flag =
    if has_key (codes "bits=") word then
    once f.bits (number_within 65535 (after_key (codes "bits=") word)) >>= (λ n. Ok (record f { bits = n }))
    else flag_once f.words flag >>= (λ words. Ok (record f { words = words }))

-- the flags of a step: its flag words and its bits together
unfoldable pub flags_of : FlagWords → ℕ
flags_of f = bit_or f.words (unwrap_or f.bits 0)

-- no keyed word yet that enq and cvt lines share
abbrev pub no_request_words : RequestWords
no_request_words = record { block = None; ast = None; bast = None; param = None; flags = no_flag_words }

-- adds one keyed word or flag that enq and cvt lines share
unfoldable pub request_word : RequestWords → List ℕ → Result RequestWords LineFault
request_word r word =
    if has_key (codes "block=") word then
    once r.block (number_within 255 (after_key (codes "block=") word)) >>= (λ n. Ok (record r { block = n }))
    else if has_key (codes "ast=") word then
    once r.ast (number_within 4294967295 (after_key (codes "ast=") word)) >>= (λ n. Ok (record r { ast = n }))
    else if has_key (codes "bast=") word then
    once r.bast (number_within 4294967295 (after_key (codes "bast=") word)) >>= (λ n. Ok (record r { bast = n }))
    else if has_key (codes "param=") word then
    once r.param (number_within 4294967295 (after_key (codes "param=") word)) >>= (λ n. Ok (record r { param = n }))
    else flag_word r.flags word (enq_flag word) >>= (λ flags. Ok (record r { flags = flags }))

-- without the word the parameter is 0
abbrev pub param_of : RequestWords → ℕ
param_of r = unwrap_or r.param 0

-- an enq line before its keyed words
abbrev pub no_enq_words : EnqWords
no_enq_words = record { resource = None; parent = None; request = no_request_words }

-- adds one keyed word or flag of an enq line
unfoldable pub enq_word : EnqWords → List ℕ → Result EnqWords LineFault
enq_word e word =
    if has_key (codes "name=") word then
    once e.resource (given (name_read (after_key (codes "name=") word))) >>= (λ r. Ok (record e { resource = r }))
    else if has_key (codes "parent=") word then
    once e.parent (lock_named (after_key (codes "parent=") word)) >>= (λ lock. Ok (record e { parent = lock }))
    else request_word e.request word >>= (λ r. Ok (record e { request = r }))

-- without the word the ID 0 names no parent
abbrev pub parent_named : EnqWords → Which
parent_named e = unwrap_or e.parent (Id 0)

-- enq NAME MODE name=RES block=N [parent=LOCK] [ast=N] [bast=N] [param=N] [flags] [bits=N]
unfoldable pub enq_line : List (List ℕ) → Result Line LineFault
enq_line words =
    next_word words >>= λ first.
    process_name first.0 >>= λ name.
    next_word first.1 >>= λ second.
    mode_of second.0 >>= λ mode.
    all_words enq_word no_enq_words second.1 >>= λ e.
    given e.resource >>= λ resource.
    given e.request.block >>= λ block.
    Ok (Enq name (record {
      pid = unnamed_process;
      mode = mode;
      name = resource;
      block = block;
      parent = parent_named e;
      flags = flags_of e.request.flags;
      ast = e.request.ast;
      bast = e.request.bast;
      param = param_of e.request;
    }))

-- cvt NAME LOCK MODE block=N [ast=N] [bast=N] [param=N] [flags] [bits=N]
unfoldable pub cvt_line : List (List ℕ) → Result Line LineFault
cvt_line words =
    next_word words >>= λ first.
    process_name first.0 >>= λ name.
    next_word first.1 >>= λ second.
    lock_named second.0 >>= λ lock.
    next_word second.1 >>= λ third.
    mode_of third.0 >>= λ mode.
    all_words request_word no_request_words third.1 >>= λ r.
    given r.block >>= λ block.
    Ok (Cvt name (record {
      pid = unnamed_process;
      lock = lock;
      mode = mode;
      block = block;
      flags = flags_of r.flags;
      ast = r.ast;
      bast = r.bast;
      param = param_of r;
    }))

-- a deq line before its keyed words
abbrev pub no_deq_words : DeqWords
no_deq_words = record { value = None; tail = None; flags = no_flag_words }

-- adds one keyed word or flag of a deq line
unfoldable pub deq_word : DeqWords → List ℕ → Result DeqWords LineFault
deq_word d word =
    if has_key (codes "value=") word then
    once d.value (value_of (after_key (codes "value=") word)) >>= (λ value. Ok (record d { value = value }))
    else if has_key (codes "tail=") word then
    once d.tail (tail_of (after_key (codes "tail=") word)) >>= (λ tail. Ok (record d { tail = tail }))
    else flag_word d.flags word (deq_flag word) >>= (λ flags. Ok (record d { flags = flags }))

-- deq NAME LOCK [value=HEX] [tail=HEX] [flags] [bits=N]
unfoldable pub deq_line : List (List ℕ) → Result Line LineFault
deq_line words =
    next_word words >>= λ first.
    process_name first.0 >>= λ name.
    next_word first.1 >>= λ second.
    lock_named second.0 >>= λ lock.
    all_words deq_word no_deq_words second.1 >>= λ d.
    Ok (Deq name (record {
      pid = unnamed_process;
      lock = lock;
      value = d.value;
      tail = d.tail;
      flags = flags_of d.flags;
    }))

-- a set line before its keyed words
abbrev pub no_set_words : SetWords
no_set_words = record { block = None; value = None; tail = None }

-- adds one keyed word of a set line
unfoldable pub set_word : SetWords → List ℕ → Result SetWords LineFault
set_word s word =
    if has_key (codes "block=") word then
    once s.block (number_within 255 (after_key (codes "block=") word)) >>= (λ n. Ok (record s { block = n }))
    else if has_key (codes "value=") word then
    once s.value (value_of (after_key (codes "value=") word)) >>= (λ value. Ok (record s { value = value }))
    else if has_key (codes "tail=") word then
    once s.tail (tail_of (after_key (codes "tail=") word)) >>= (λ tail. Ok (record s { tail = tail }))
    else Err WrongWord

-- set NAME block=N value=HEX [tail=HEX]
unfoldable pub set_line : List (List ℕ) → Result Line LineFault
set_line words =
    next_word words >>= λ first.
    process_name first.0 >>= λ name.
    all_words set_word no_set_words first.1 >>= λ s.
    given s.block >>= λ block.
    given s.value >>= λ value.
    Ok (Set name (record { pid = unnamed_process; block = block; value = value; tail = s.tail }))

-- NAME and no other word
unfoldable pub name_alone : List (List ℕ) → Result (List ℕ) LineFault
name_alone words =
    next_word words >>= λ first.
    process_name first.0 >>= λ name.
    no_more name first.1

-- a leave or search line before its keyed word
abbrev pub no_node_words : NodeWords
no_node_words = record { node = None }

-- adds the keyed word of a leave or search line
unfoldable pub node_word : NodeWords → List ℕ → Result NodeWords LineFault
node_word w word =
    if has_key (codes "node=") word then
    once w.node (number_within 255 (after_key (codes "node=") word)) >>= (λ n. Ok (record w { node = n }))
    else Err WrongWord

-- node=N and no other word
unfoldable pub node_alone : List (List ℕ) → Result ℕ LineFault
node_alone words =
    all_words node_word no_node_words words >>= λ w.
    given w.node

-- NAME N and no other word: a process, and the number of one of its status blocks
unfoldable pub block_alone : List (List ℕ) → Result (List ℕ × ℕ) LineFault
block_alone words =
    next_word words >>= λ first.
    process_name first.0 >>= λ name.
    next_word first.1 >>= λ second.
    number_within 255 second.0 >>= λ number.
    no_more (name, number) second.1

-- a line by its command
unfoldable pub command_line : List ℕ → List (List ℕ) → Result Line LineFault
command_line command words =
    if is_text command (codes "declare") then declare_line words
    else if is_text command (codes "enq") then enq_line words
    else if is_text command (codes "cvt") then cvt_line words
    else if is_text command (codes "deq") then deq_line words
    else if is_text command (codes "set") then set_line words
    else if is_text command (codes "end") then name_alone words >>= (λ name. Ok (End name))
    else if is_text command (codes "leave") then node_alone words >>= (λ node. Ok (Leave node))
    else if is_text command (codes "search") then node_alone words >>= (λ node. Ok (Search node))
    else if is_text command (codes "ast") then name_alone words >>= (λ name. Ok (Ast name))
    else if is_text command (codes "block") then block_alone words >>= (λ block. Ok (block_words block.0 block.1))
    else if is_text command (codes "tail") then block_alone words >>= (λ block. Ok (tail_words block.0 block.1))
    else if is_text command (codes "show") then no_more Show words
    else if is_text command (codes "tails") then no_more Tails words
    else Err UnknownCommand

-- a blank line, or a comment: its first word begins with `#`
unfoldable pub line_of : List (List ℕ) → Result Line LineFault
line_of [] = Ok Empty
line_of (word ∷ words) = if has_key (codes "#") word then Ok Empty else command_line word words

-- the reading of a line: its length first, then the command, then the words from left to right
unfoldable pub line_read : List ℕ → Result Line LineFault
line_read bytes = if nat_le (length bytes) 255 then line_of (words_of bytes) else Err TooLong
