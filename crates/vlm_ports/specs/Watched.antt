-- The words of contracts about a watched hub.
use Rattle.std.specs.Prelude.{◌≡◌, ◌++◌, ◌∷◌, List, [], length, Option, None, Some, IsNone, IsSome}
use Rattle.logbook.specs.Pages.{Book}
use Rattle.vlm_ports.specs.declared.hub.Hub.{Hub}
use Rattle.vlm_ports.specs.declared.watch.board.Board.{Board}
use Rattle.vlm_ports.specs.declared.watch.rows.Change.{Change}
use Rattle.vlm_ports.specs.declared.watch.rows.RootKey.{RootKey}
use Rattle.vlm_ports.specs.declared.watch.watcher.Watcher.{Watcher}
use Rattle.vlm_ports.specs.Rows.{IsChangeOf}
use Rattle.vlm_ports.specs.Watching.{board_of, keys_of, name_of, published as published_on}

-- the board of the hub's watchers, once the hub is watched
abbrev pub board : Hub → Option Board
board h = h.board

-- the hub is watched
abbrev pub IsWatched : Hub → Type 0
IsWatched h = IsSome (board h)

-- the hub is not watched
abbrev pub IsUnwatched : Hub → Type 0
IsUnwatched h = IsNone (board h)

-- no board
abbrev pub no_name : Book
no_name = record { number = 0; log_name = 0; cells_name = 0 }

-- the identity of a board, if there is one
abbrev pub name_in : Option Board → Book
name_in None = no_name
name_in (Some board) = name_of board

-- the keys of a board, if there is one
abbrev pub keys_in : Option Board → List RootKey
keys_in None = []
keys_in (Some board) = keys_of board

-- the changes that a board has published, if there is one
abbrev pub published_in : Option Board → List Change
published_in None = []
published_in (Some board) = published_on board

-- the identity of a watched hub
abbrev pub board_name : Hub → Book
board_name h = name_in (board h)

-- the keys under which it is watched
abbrev pub watched_keys : Hub → List RootKey
watched_keys h = keys_in (board h)

-- the changes that it has published, the oldest first
abbrev pub published : Hub → List Change
published h = published_in (board h)

-- its journal, its core, its rings and what it knows of them are the same
abbrev pub IsSameHub : Hub → Hub → Type 0
IsSameHub old new = (new.journaled ≡ old.journaled) × (new.all_node_rings ≡ old.all_node_rings)

-- it has the same watchers and the same keys as before
abbrev pub IsWatchedAsBefore : Hub → Hub → Type 0
IsWatchedAsBefore old new =
    IsWatched new × (board_name new ≡ board_name old) × (watched_keys new ≡ watched_keys old)

-- it has published one more change: the rows of its keys in the present state of its core, with the number of entries
-- so far
abbrev pub HasPublished : Hub → Hub → Type 0
HasPublished old new =
    (change : Change) × IsChangeOf old.journaled (watched_keys old) change
    × (published new ≡ published old ++ change ∷ [])

-- the watcher watches this hub, under as many keys
abbrev pub Watches : Hub → Watcher → Type 0
Watches h w = (board_of w ≡ board_name h) × (w.keys ≡ length (watched_keys h))
