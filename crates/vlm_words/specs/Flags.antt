-- The flag bits of requests and dequeues.
use Rattle.std.specs.Prelude.{ℕ, Bool, ◌==◌, ◌+◌}
use Rattle.std.specs.Int.RustNames.{bit_and}
use Rattle.vlm_words.specs.declared.flags.DeqFlags.{DeqFlags}
use Rattle.vlm_words.specs.declared.flags.EnqFlags.{EnqFlags}

-- a grant returns the value block to the status block, or a conversion writes it from there
abbrev pub valblk : ℕ
valblk = 1

-- a request that cannot be granted at once is refused
abbrev pub noqueue : ℕ
noqueue = 2

-- a request that is granted at once answers SYNCH, and queues no completion AST
abbrev pub syncsts : ℕ
syncsts = 4

-- a root is in the system's domain, which needs SYSLCK
abbrev pub system : ℕ
system = 8

-- a new request at NL is granted at once, whatever is queued
abbrev pub expedite : ℕ
expedite = 16

-- a conversion is granted at once only if no conversion is queued
abbrev pub quecvt : ℕ
quecvt = 32

-- in a search for a deadlock, the queued request waits for nobody
abbrev pub nodlckwt : ℕ
nodlckwt = 64

-- in a search for a deadlock, nobody waits for the request, neither while it is queued nor once it is granted
abbrev pub nodlckblk : ℕ
nodlckblk = 128

-- with VALBLK, the value block's tail is returned or written too
abbrev pub wide : ℕ
wide = 256

-- all flags of new requests and conversions
abbrev pub enq_bits : ℕ
enq_bits = valblk + noqueue + syncsts + system + expedite + quecvt + nodlckwt + nodlckblk + wide

-- gives up all locks below a lock, or with lock 0 all locks of the caller
abbrev pub deqall : ℕ
deqall = 1

-- cancels a request
abbrev pub cancel : ℕ
cancel = 2

-- marks the value block invalid as a lock that holds PW or EX goes
abbrev pub invvalblk : ℕ
invvalblk = 4

-- all flags of dequeues
abbrev pub deq_bits : ℕ
deq_bits = deqall + cancel + invvalblk

-- the flag is set
unfoldable pub has_flag : ℕ → ℕ → Bool
has_flag bits flag = bit_and bits flag == flag

-- every bit is a known flag
unfoldable pub is_known : ℕ → ℕ → Bool
is_known built bits = bit_and bits built == bits

-- the bits of a request's flags
abbrev pub flag_bits : EnqFlags → ℕ
flag_bits flags = flags.0

-- the bits of a dequeue's flags
abbrev pub deq_flag_bits : DeqFlags → ℕ
deq_flag_bits flags = flags.0
