-- The result of a script that several nodes serve, and its printed text.
use Rattle.std.specs.Prelude.{◌≡◌, ◌+◌, ℕ, List, [], ◌∷◌, ◌++◌, Option, Result, Ok, Err, IfSome, IsOkAnd, length, map}
use Rattle.vlm_lines.specs.Lines.{lines_of}
use Rattle.vlm_journal.specs.declared.entries.Item.{Item}
use Rattle.vlm_journal.specs.declared.entries.Item.TheVariants.{Answer, Ast}
use Rattle.vlm_cluster.specs.declared.report.Report.{Report}
use Rattle.vlm_cluster.specs.Headline.{AreAllPosted, AreServed, GrantsKeepOrder, Items, ModesStayCompatible, RequestsEndOnce, StepList}
use Rattle.vlm_cluster.specs.Reports.{entries_of}
use Rattle.vlm_script.specs.declared.faults.PlayFault.{PlayFault}
use Rattle.vlm_script.specs.declared.faults.PlayFault.TheVariants.{Line, Memory, Read, Write, Long}
use Rattle.vlm_script.specs.Plays.{PassesPart, Wrote}
use Rattle.vlm_script.specs.Shares.{StopsShares, no_shares, shared_out}
use Rattle.vlm_script.specs.Texts.{answer_item_line, ast_item_line, journal_line}

-- the line of an item, by its node and its number
abbrev pub item_line : ℕ → ℕ → Item → List ℕ
item_line node number (Answer answer) = answer_item_line node number answer
item_line node number (Ast pid ast) = ast_item_line node number pid ast

-- the lines of a node's items after the first `count`
abbrev pub items_text : ℕ → ℕ → List Item → List ℕ
items_text node count [] = []
items_text node count (item ∷ items) =
    item_line node (count + 1) item ++ items_text node (count + 1) items

-- the lines of the nodes after the first `count`
abbrev pub nodes_text : ℕ → List Items → List ℕ
nodes_text count [] = []
nodes_text count (items ∷ nodes) =
    items_text (count + 1) 0 items.items ++ nodes_text (count + 1) nodes

-- the printed text of a report: the items of each node, node 1 first, and how many entries the journal has
abbrev pub report_text : Report → List ℕ
report_text r = nodes_text 0 r.items.items ++ journal_line (length (entries_of r))

-- each list is served whole: each node got the items that the journal has for its list and its departure, and the laws
-- hold at each place of the journal
pub record IsServedText (lists : List StepList) (r : Report) : Type 0 where
  pub served : AreServed lists r
  pub posted : AreAllPosted lists r
  pub modes : ModesStayCompatible (entries_of r) r.core
  pub once : RequestsEndOnce (entries_of r) r.core
  pub order : GrantsKeepOrder (entries_of r) r.core

-- the text of a script that this many nodes served: its steps were shared out to their lists, and all lists are served
pub record IsClusterText (nodes : ℕ) (script : Option (List ℕ)) (text : List ℕ) : Type 0 where
  pub lists : List StepList
  pub report : Report
  pub count : length lists ≡ nodes
  pub shared : IfSome script (λ input. IsOkAnd (shared_out nodes (no_shares nodes) 0 (lines_of input))
      (λ s. s.lists ≡ map (λ l. l.items) lists))
  pub served : IsServedText lists report
  pub printed : text ≡ report_text report

-- why a script was not served by this many nodes; nothing was written
pub record StopsCluster (nodes : ℕ) (script : Option (List ℕ)) (fault : PlayFault) : Type 0 where
  pub stopped : IfSome script
      (λ input. StopsShares input (shared_out nodes (no_shares nodes) 0 (lines_of input)) fault)
  pub no_write : ¬ (fault ≡ Write)

-- nothing was written: this fault came first
abbrev pub PrintsNothing : ℕ → Option (List ℕ) → PlayFault → Option (List ℕ) → Option (List ℕ)
    → Type 0
PrintsNothing nodes script fault old new = StopsCluster nodes script fault × (new ≡ old)

-- the standard output of a script that nodes serve: its text, only a first part of it if a write fails, and nothing for
-- any other fault
abbrev pub PrintsCluster : ℕ → Option (List ℕ) → Result (Unit {0}) PlayFault
    → Option (List ℕ) → Option (List ℕ) → Type 0
PrintsCluster nodes script (Ok done) old new = Wrote old new (IsClusterText nodes script)
PrintsCluster nodes script (Err Write) old new =
    (text : List ℕ) × IsClusterText nodes script text × PassesPart old new text
PrintsCluster nodes script (Err (Line number fault)) old new =
    PrintsNothing nodes script (Line number fault) old new
PrintsCluster nodes script (Err Memory) old new = PrintsNothing nodes script Memory old new
PrintsCluster nodes script (Err Read) old new = PrintsNothing nodes script Read old new
PrintsCluster nodes script (Err Long) old new = PrintsNothing nodes script Long old new
