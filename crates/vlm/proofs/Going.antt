-- What a hub that is watched goes through, and the row that is seen of it.
use Rattle.std.proofs.Common.{◌≡◌, ◌∙◌, ◌+◌, ◌-◌, ◌<◌, ◌≤◌, ◌∷◌, ◌++◌, ◌==◌, ℕ, Bool, true, false, List, [], Option}
use Rattle.std.proofs.Common.{None, Some, Global, Vec, ap, append-nil, arith, get_or, if◌then◌else◌, length, map}
use Rattle.std.proofs.Common.{option_map, refl, set, subst, sym, take}
use Rattle.std.specs.List.{All, slice_get}
use Rattle.std.specs.Vec.{with_items}
use Rattle.std.proofs.Math.Seq.{map-set_same}
use Rattle.std.proofs.lemmas.Bool.{eqb-true}
use Rattle.std.proofs.lemmas.List.{append_cancel_left, get_or-map, length-map, nil_from_length, with_items_is}
use Rattle.vlm_words.specs.declared.steps.Step.{Step}
use Rattle.vlm_words.specs.State.{State}
use Rattle.vlm_queue.specs.Views.{usage}
use Rattle.vlm_core.specs.Readers.{root_of}
use Rattle.vlm_journal.specs.declared.entries.Entry.{Entry}
use Rattle.vlm_journal.specs.Accounts.{Account, made}
use Rattle.vlm_journal.specs.Journals.{JournalFrom}
use Rattle.vlm_journal.specs.Told.{asked}
use Rattle.vlm_ports.specs.declared.hub.Hub.{Hub}
use Rattle.vlm_ports.specs.declared.port.Port.{Port}
use Rattle.vlm_ports.specs.Hubs.{IsAsWritten, IsPortOf, asked_before, journal, rings, state}
use Rattle.vlm_ports.specs.Links.{Base, no_base}
use Rattle.vlm_ports.specs.Ports.{identity, posted}
use Rattle.vlm_ports.proofs.Resting.{grew_add, grew_none}
use Rattle.vlm_ports.specs.declared.watch.rows.Change.{Change}
use Rattle.vlm_ports.specs.declared.watch.rows.RootKey.{RootKey}
use Rattle.vlm_ports.specs.declared.watch.rows.Row.{Row}
use Rattle.vlm_ports.specs.Rows.{IsChangeOf, row_of, row_with}
use Rattle.vlm_ports.specs.Sheets.{no_row, row_in, row_shown}
use Rattle.vlm_ports.proofs.Sheets.{last-of-sheet}
use Rattle.vlm.specs.declared.monitor.watched.MonitoredHub.{MonitoredHub}
use Rattle.vlm.specs.MonitoredHubs.{HasLeftAt, standing}
use Rattle.vlm.specs.WatchedPorts.{HasGrown, Name, Posts, posts_of}
use Rattle.vlm.specs.Watches.{Makes, printed_row, row_at, steps_asked}
use Rattle.vlm_journal.proofs.Lists.{element}

-- ---- entries

-- a hub whose journal and state are the same has put none at its end
pub written : (old new : Hub) → IsAsWritten old new → HasGrown old new
written old new same = (0, grew_none (journal old) (journal new) (state old) (state new) same.0 same.1)

pub grown_then : (a b c : Hub) → HasGrown a b → HasGrown b c → HasGrown a c
grown_then a b c first more = (first.0 + more.0, grew_add first.1 more.1)

-- one entry more, which the hub made or a node asked for
step_more : (step : Step) (nodes all : List Step) → length nodes ≤ length all → (hub node : Bool) → (hub ≡ true → node ≡ true → ⊥)
    → length (if node then step ∷ nodes else nodes) ≤ length (if hub then all else step ∷ all)
step_more step nodes all within true true never = absurd (never refl refl)
step_more step nodes all within true false never = within
step_more step nodes all within false true never = omega (arith, within)
step_more step nodes all within false false never = omega (arith, within)

step_alone : (step own : Step) (nodes all : List Step) → length nodes ≤ length all → (nodes ≡ step ∷ [] → length all ≡ 1 → all ≡ step ∷ []) → (hub node : Bool)
    → (hub ≡ true → node ≡ true → ⊥) → (if node then own ∷ nodes else nodes) ≡ step ∷ [] → length (if hub then all else own ∷ all) ≡ 1
    → (if hub then all else own ∷ all) ≡ step ∷ []
step_alone step own nodes all within rest true true never asks one = absurd (never refl refl)
step_alone step own nodes all within rest true false never asks one = rest asks one
step_alone step own nodes all within rest false true never asks one =
    let same : own ≡ step = cc in
    let none : all ≡ [] = nil_from_length all (omega (arith, one)) in
    ap (λ (ss : List Step). own ∷ ss) none ∙ ap (λ (s : Step). s ∷ []) same
step_alone step own nodes all within rest false false never asks one =
    let long : length nodes ≡ 1 = ap (λ (ss : List Step). length ss) asks in
    absurd (omega (arith, long, within, one))

module _ (node : ℕ) (some : 0 < node) where
  not_both : (sender : ℕ) → (sender == 0) ≡ true → (sender == node) ≡ true → ⊥
  not_both sender hub own =
      let none = eqb-true sender 0 hub in let same = eqb-true sender node own in
      omega (arith, none, same, some)

  -- a node asks for no more than all nodes do
  asked_within : (entries : List Entry) → length (asked node entries) ≤ length (steps_asked entries)
  asked_within [] = omega arith
  asked_within (e ∷ es) =
      step_more e.step (asked node es) (steps_asked es) (asked_within es) (e.sender == 0) (e.sender == node) (not_both e.sender)

  -- where a node asks for this step, and all nodes for no more than one, they ask for it alone
  pub asked_alone : (step : Step) (entries : List Entry) → asked node entries ≡ step ∷ [] → length (steps_asked entries) ≡ 1 → steps_asked entries ≡ step ∷ []
  asked_alone step [] asks one = absurd (omega (arith, one))
  asked_alone step (e ∷ es) asks one =
      step_alone step e.step (asked node es) (steps_asked es) (asked_within es) (asked_alone step es) (e.sender == 0)
      (e.sender == node) (not_both e.sender) asks one

-- ---- ports

as_many : (xs ys : List Port) → map posts_of ys ≡ map posts_of xs → length ys ≡ length xs
as_many xs ys same = sym (length-map ys posts_of) ∙ ap (λ (ps : List Posts). length ps) same ∙ length-map xs posts_of

pub within_still : (old new : MonitoredHub) → standing new ≡ standing old → (place : ℕ) → place < length old.ports.items → place < length new.ports.items
within_still old new same place within =
    let n = as_many old.ports.items new.ports.items (ap (λ s. s.1) same) in
    omega (arith, n, within)

-- a port was settled and written back at its place
pub settled : (key : RootKey) (ports : List Port) (place : ℕ) (was port : Port) (bs cs : List Base)
    → was ≡ get_or ports place was → identity port ≡ identity was → posted port ≡ posted was
    → cs ≡ bs → (let before : RootKey × List Posts × List Base = (key, map posts_of ports, bs) in (key, map posts_of (set ports place port), cs) ≡ before)
settled key ports place was port bs cs here name steps same =
    let posts : posts_of port ≡ posts_of was = ap (λ (n : Name). (n, posted port)) name ∙ ap (λ (ss : List Step). (identity was, ss)) steps in
    rw (map-set_same posts_of ports place port was (posts ∙ ap posts_of here), same) refl

-- the ports were lent, and nothing was posted
pub lent : (ports : Vec Port Global) (new : List Port) → map posts_of new ≡ map posts_of ports.items
    → map posts_of (with_items ports new).items ≡ map posts_of ports.items
lent ports new same =
    ap (λ (ps : List Port). map posts_of ps) (with_items_is ports new (as_many ports.items new same ∙ sym ports.ok.0)) ∙ same

-- the same was posted at each place
posts_at : (xs ys : List Port) → map posts_of ys ≡ map posts_of xs → (k : ℕ) (d : Port) → k < length ys → posts_of (get_or ys k d) ≡ posts_of (get_or xs k d)
posts_at xs ys same k d lt =
    let n = as_many xs ys same in
    sym (get_or-map posts_of ys k d (posts_of d) lt) ∙ ap (λ (ps : List Posts). get_or ps k (posts_of d)) same
    ∙ get_or-map posts_of xs k d (posts_of d) (omega (arith, n, lt))

-- the ports stay those of the hub
pub ports_stay : (h i : Hub) (xs ys : List Port) → rings i ≡ rings h → map posts_of ys ≡ map posts_of xs → All (IsPortOf h) xs → All (IsPortOf i) ys
ports_stay h i xs ys same_rings same are k d lt =
    let n = as_many xs ys same in
    let P : List Name → Name → Type 0 = λ rs port. (0 < port.0) × (slice_get rs (port.0 - 1) ≡ Some port) in
    let port : identity (get_or ys k d) ≡ identity (get_or xs k d) = ap (λ (p : Posts). p.0) (posts_at xs ys same k d lt) in
    subst (λ rs. P rs (identity (get_or ys k d))) (sym same_rings) (subst (λ p. P (rings h) p) (sym port) (are k d (omega (arith, n, lt))))

-- a step that was posted, and is left no more, was asked for
asked_then : (step : Step) (place : ℕ) (old new : MonitoredHub) → standing new ≡ standing old → journal old.hub ≡ []
    → HasLeftAt old place (step ∷ []) → HasLeftAt new place [] → (d : Port)
    → place < length new.ports.items → asked (get_or new.ports.items place d).node (journal new.hub) ≡ step ∷ []
asked_then step place old new same quiet posted_before made d within =
    let was : Port = get_or old.ports.items place d in let is : Port = get_or new.ports.items place d in
    let kept : posts_of is ≡ posts_of was = posts_at old.ports.items new.ports.items (ap (λ s. s.1) same) place d within in
    let node : is.node ≡ was.node = ap (λ (p : Posts). p.0.0) kept in
    let before = asked_before new.hub is.node in let now = asked is.node (journal new.hub) in
    let first : asked_before old.hub was.node ≡ before =
    ap (λ (n : ℕ). asked_before old.hub n) (sym node) ∙ ap (λ (bs : List Base). (get_or bs (is.node - 1) no_base).asked_before) (sym (ap (λ s. s.2) same)) in
    append_cancel_left before now (step ∷ [])
    (sym (append-nil (before ++ now)) ∙ sym (made d) ∙ ap (λ (p : Posts). p.1) kept ∙ posted_before d
    ∙ ap (λ (es : List Entry). (asked_before old.hub was.node ++ asked was.node es) ++ step ∷ []) quiet
    ∙ ap (λ (ss : List Step). ss ++ step ∷ []) (append-nil (asked_before old.hub was.node) ∙ first))

-- where a hub has nothing in its journal, and makes what was posted at a place, it makes that step alone
pub makes : (step : Step) (place : ℕ) (first : Hub) (old new : MonitoredHub) → journal first ≡ [] → IsAsWritten first old.hub → standing new ≡ standing old
    → HasGrown old.hub new.hub → HasLeftAt old place (step ∷ []) → HasLeftAt new place []
    → place < length old.ports.items → length (steps_asked (journal new.hub)) ≡ 1
    → Makes step (state first) (state new.hub)
makes step place first old new quiet same still grown posted_before made low one =
    let within = within_still old new still place low in
    let d = element new.ports.items place within in
    let quiet_then : journal old.hub ≡ [] = same.0 ∙ quiet in
    let asks = asked_then step place old new still quiet_then posted_before made d within in
    let is = get_or new.ports.items place d in
    let alone : steps_asked (journal new.hub) ≡ step ∷ [] = asked_alone is.node (new.linked place d within).0 step (journal new.hub) asks one in
    let entries : grown.1.more ≡ journal new.hub = sym (grown.1.is ∙ ap (λ (es : List Entry). es ++ grown.1.more) quiet_then) in record {
      entries = grown.1.more;
      legal = subst (λ (s : State). JournalFrom s grown.1.more (state new.hub)) same.1 grown.1.legal;
      asked = ap (λ (es : List Entry). steps_asked es) entries ∙ alone;
      takes = grown.1.takes;
    }

-- ---- rows

-- the number of entries is not printed
same_print : (o : Option _) (m n : ℕ) → printed_row (row_with o m) ≡ printed_row (row_with o n)
same_print None m n = refl
same_print (Some u) m n = refl

first_of : (rows : List Row) (row : Row) → take 1 rows ≡ row ∷ [] → get_or rows 0 no_row ≡ row
first_of [] row is = cc
first_of (r ∷ rows) row is = ap (λ (rs : List Row). get_or rs 0 no_row) is

-- the row of the one key in the last of the changes
pub shown_last : (journaled : Account) (key : RootKey) (keys : List RootKey) (changes : List Change) (change : Change)
    → keys ≡ key ∷ [] → IsChangeOf journaled keys change
    → row_shown (changes ++ change ∷ []) 0 ≡ row_of journaled key
shown_last journaled key keys changes change one is =
    let first : take 1 change.rows ≡ row_of journaled key ∷ [] =
    subst (λ (ks : List RootKey). take (length ks) change.rows ≡ map (row_of journaled) ks) one is in
    ap (λ (o : Option Change). row_in o 0) (last-of-sheet changes (Some change)) ∙ first_of change.rows (row_of journaled key) first

pub printed_at : (journaled : Account) (key : RootKey) → printed_row (row_of journaled key) ≡ row_at journaled.state key
printed_at journaled key =
    same_print (option_map usage (root_of journaled.state.resources key.domain key.name)) (made journaled)
    (made (record { entries = []; state = journaled.state; base = 0; room = 0 }))
