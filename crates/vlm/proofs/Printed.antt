-- What is printed of nodes and their items, one by one.
use Rattle.std.proofs.Common.{◌≡◌, ◌≤◌, ◌+◌, ℕ, List, [], ◌∷◌, ◌++◌, length, drop, append_assoc, arith, drop_of_length-le, length-append}
use Rattle.vlm_journal.specs.declared.entries.Item.{Item}
use Rattle.vlm_journal.specs.declared.entries.Part.{Part}
use Rattle.vlm_cluster.specs.Headline.{Items}
use Rattle.vlm_cluster.specs.Parts.{entries_in}
use Rattle.vlm.specs.Clusters.{item_line, items_text, nodes_text}

-- an item is printed, and the others are left
pub item_printed : (node count : ℕ) (item : Item) (rest left : List Item) (a b : List ℕ) → left ≡ item ∷ rest → b ≡ a ++ item_line node (count + 1) item
    → b ++ items_text node (count + 1) rest ≡ a ++ items_text node count left
item_printed node count item rest left a b one printed =
    rw (one, printed) (append_assoc a (item_line node (count + 1) item) (items_text node (count + 1) rest))

-- a node is printed, and the others are left
pub node_printed : (count : ℕ) (items : Items) (rest left : List Items) (a b : List ℕ) → left ≡ items ∷ rest → b ≡ a ++ items_text (count + 1) 0 items.items
    → b ++ nodes_text (count + 1) rest ≡ a ++ nodes_text count left
node_printed count items rest left a b one printed =
    rw (one, printed) (append_assoc a (items_text (count + 1) 0 items.items) (nodes_text (count + 1) rest))

-- a part is counted, and the others are left
pub part_counted : (part : Part) (rest left : List Part) (a b : ℕ) → left ≡ part ∷ rest → b ≡ a + length part.entries.items
    → b + length (entries_in rest) ≡ a + length (entries_in left)
part_counted part rest left a b one counted =
    rw one (omega (arith, length-append part.entries.items (entries_in rest)))

-- the rest stands behind the parts
pub length-entries : (parts : List Part) (rest : Part) → length (entries_in (parts ++ rest ∷ [])) ≡ length rest.entries.items + length (entries_in parts)
length-entries [] rest = omega (arith, length-append rest.entries.items [])
length-entries (part ∷ parts) rest =
    omega (
      arith,
      length-append part.entries.items (entries_in (parts ++ rest ∷ [])),
      length-append part.entries.items (entries_in parts),
      length-entries parts rest,
    )

-- behind the last part all entries are counted
pub parts_counted : (parts : List Part) (rest : Part) (i count first : ℕ) → length parts ≤ i → first ≡ length rest.entries.items
    → count + length (entries_in (drop i parts)) ≡ first + length (entries_in parts) → count ≡ length (entries_in (parts ++ rest ∷ []))
parts_counted parts rest i count first past is left =
    let none : drop i parts ≡ [] = drop_of_length-le parts past in
    let counted : count + 0 ≡ first + length (entries_in parts) = rw none at left in
    omega (arith, length-entries parts rest)
