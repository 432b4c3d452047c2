-- The ring of an end.
use Rattle.std.specs.Prelude.{ℕ}
use Rattle.std.specs.declared.alloc.Global.{Global}
use denote.RawPtr.{Ptr}
use Rattle.rtrb.specs.declared.consumer.Consumer.{Consumer}
use Rattle.rtrb.specs.declared.producer.Producer.{Producer}

-- the identity of a ring
abbrev pub RingName : Type 0
RingName = Ptr × Ptr × (ℕ × (ℕ × ℕ)) × Global

-- the ring of the end that pushes
abbrev pub push_ring : {T P : Type 0} → Producer T Global P → RingName
push_ring p = (p.end.words, p.end.slots, p.end.names, p.end.heap)

-- the ring of the end that pops
abbrev pub pop_ring : {T P : Type 0} → Consumer T Global P → RingName
pop_ring c = (c.end.words, c.end.slots, c.end.names, c.end.heap)
