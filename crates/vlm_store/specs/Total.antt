-- The numbers of all locks and of all queued requests.
use Rattle.std.specs.Prelude.{ℕ, ◌+◌, length, sum_by}
use Rattle.vlm_store.specs.Records.{Records}

-- how many locks exist, on all resources
abbrev pub lock_total : Records → ℕ
lock_total s = sum_by (λ r. length r.granted + length r.converting + length r.waiting) s.resources

-- how many requests are queued, on all resources
abbrev pub queued_total : Records → ℕ
queued_total s = sum_by (λ r. length r.converting + length r.waiting) s.resources
