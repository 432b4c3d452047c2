-- The notes on processes, as a later search reads them.
use Rattle.std.proofs.Common.{◌≡◌, ◌<◌, ℕ, zero, suc, List, [], ◌∷◌, map, refl, sym, ap, ◌∙◌, subst, arith, eq-eqb, ne_eqb}
use Rattle.std.specs.List.{All}
use Rattle.std.specs.Prelude.{slice_index_or, slice_set}
use Rattle.std.proofs.lemmas.List.{get_or_past, map-set}
use Rattle.std.proofs.lemmas.List.Elements.{All-map}
use Rattle.vlm_store.specs.Records.{Records}
use Rattle.vlm_cycle.specs.declared.ranks.DatedNode.{DatedNode}
use Rattle.vlm_cycle.specs.declared.ranks.TarjanNode.{TarjanNode}
use Rattle.vlm_cycle.specs.Notes.{AreNotes, IsTarjanNode}
use Rattle.vlm_cycle.specs.Ranks.{Ranks, blank_node, note_read}
use Rattle.vlm_cycle.proofs.NotedProcesses.{none_there}

-- a search reads blank what an earlier one wrote
read_blank : (search : ℕ) (dated : DatedNode) → dated.search < search → note_read search dated ≡ blank_node
read_blank search dated earlier = rw (ne_eqb dated.search search (λ same. omega (arith, earlier, same))) refl

pub all_blank : (search : ℕ) (notes : List DatedNode) → All (λ dated. dated.search < search) notes
    → All (λ note. note ≡ blank_node) (map (note_read search) notes)
all_blank search notes earlier =
    All-map (λ note. note ≡ blank_node) (note_read search) notes (λ k d within. read_blank search (slice_index_or notes k d) (earlier k d within))

-- and reads what it wrote itself
pub read_own : (search : ℕ) (notes : List DatedNode) (at : ℕ) (note : TarjanNode)
    → map (note_read search) (slice_set notes at (record { search = search; note = note })) ≡ slice_set (map (note_read search) notes) at note
read_own search notes at note =
    map-set (note_read search) notes at (record { search = search; note = note })
    ∙ ap (slice_set (map (note_read search) notes) at) (rw (eq-eqb search search refl) refl)

-- a blank note names nothing
pub blank_there : (s : Records) → IsTarjanNode s blank_node
blank_there s = record { tree_parent = none_there _; stack_next = none_there _; own = none_there _; at = none_there _ }

-- all blank ones name nothing
pub blanks_there : (s : Records) (notes : Ranks) → All (λ note. note ≡ blank_node) notes → AreNotes s notes
blanks_there s notes blank k d within = subst (IsTarjanNode s) (sym (blank k d within)) (blank_there s)

-- what is noted of a process, if anything is, is there
pub note_there : (s : Records) (notes : Ranks) (at : ℕ) → AreNotes s notes → IsTarjanNode s (slice_index_or notes at blank_node)
note_there s [] at are = subst (IsTarjanNode s) (sym (get_or_past [] at blank_node (omega arith))) (blank_there s)
note_there s (note ∷ notes) zero are = are 0 blank_node (omega arith)
note_there s (note ∷ notes) (suc at) are = note_there s notes at (λ k d within. are (suc k) d (omega (arith, within)))
