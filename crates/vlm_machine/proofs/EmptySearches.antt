-- A search that finds no victim changes nothing.
use Rattle.std.proofs.Common.{◌≡◌, None, refl}
use Rattle.std.proofs.lemmas.List.{map-id}
use Rattle.vlm_model.specs.Search.{search_change}
use Rattle.vlm_words.specs.State.{State}

-- without a victim nothing changes
pub no_victim : (s : State) → search_change s None ≡ s
unfolding search_change
no_victim s = rw (map-id s.resources) refl
