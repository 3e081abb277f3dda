-- How entries are made of what is kept, and back. These words are used inside the crate only.
use Rattle.std.specs.Prelude.{◌≡◌, ℕ, suc, ◌+◌, ◌*◌, ◌<◌, ◌≤◌, true, cond, List, [], ◌∷◌, ◌++◌, length, get_or, map, filter, All, Vec}
use Rattle.tw_rows.specs.Kinds.{cell_kind_of}
use Rattle.tw_rows.specs.declared.kind.Kind.{Kind}
use Rattle.tw_rows.specs.Bag.{SameBag}
use Rattle.tw_rows.specs.declared.edge.Edge.{Edge}
use Rattle.tw_rows.specs.declared.kind.CellKind.{CellKind}
use Rattle.edge_stream.specs.declared.saved.SavedEntry.{SavedEntry}
use Rattle.edge_history.specs.Order.{is_real}
use Rattle.edge_stream.specs.Entries.{entries_of, saved_edge}
use Rattle.ingress.specs.declared.opens.OpenKey.{OpenKey}
use Rattle.ingress.specs.declared.opens.OpenStart.{OpenStart}
use Rattle.ingress.specs.Fits.{AreFit}
use Rattle.ingress.specs.Keeping.{CellOpen, is_named}
use Rattle.row_reader.specs.Printed.{IsEnd}
use Rattle.ingress.specs.OpenKeys.{starts_in}
use Rattle.ingress.specs.Saving.{waiting_of, opens_of, IsSoundEntry, IsSound}
use Rattle.ingress.specs.declared.held_streams.HeldStreams.{HeldStreams}

-- the entry of an open start
abbrev pub entry_of_open : CellOpen → SavedEntry
entry_of_open o = record { part = 3 * o.key.stream + cond o.state.dropped 2 1; sync = o.state.start; other = o.key.given; cells = o.key.cells }

-- the entries of lists of edges that wait, of the streams from s on
abbrev pub waits_from : ℕ → List (List Edge) → List SavedEntry
waits_from s [] = []
waits_from s (w ∷ ws) = entries_of (3 * s) w ++ waits_from (suc s) ws

-- what was taken up of entries: the edges of each stream, in any order, and the open starts of each key in order
pub record Loads (cells : List (List CellKind)) (last : ℕ) (saved : List SavedEntry) (waiting : List (List Edge))
    (starts : OpenKey → List OpenStart) : Type 0 where
  pub long : length waiting ≡ length cells
  pub waits : (s : ℕ) → s < length cells → SameBag (get_or waiting s []) (waiting_of saved s)
  pub queued : (k : OpenKey) → starts k ≡ map (λ o. o.state) (filter (is_named k) (opens_of saved))
  pub fit : AreFit cells waiting
  pub each : All (IsSoundEntry cells last) saved

-- the first of the entries were taken up, where all of them are a state of so many streams
abbrev pub LoadsAll : ℕ → List SavedEntry → List SavedEntry → HeldStreams → Type 0
LoadsAll streams all some h = (cells : List (List CellKind)) (last : ℕ) → length cells ≡ streams → All (IsSoundEntry cells last) all →
    Loads cells last some h.waiting.items (starts_in h.opens.starts)

-- an entry was taken up behind others
abbrev pub TakesUp : SavedEntry → HeldStreams → HeldStreams → Type 0
TakesUp e old new = (cells : List (List CellKind)) (last : ℕ) (saved : List SavedEntry) →
    Loads cells last saved old.waiting.items (starts_in old.opens.starts) → IsSoundEntry cells last e →
    Loads cells last (saved ++ e ∷ []) new.waiting.items (starts_in new.opens.starts)

-- how cells of columns of these kinds are stored, stream by stream
abbrev pub cells_of_kinds : {S : Type 0} → List (Vec Kind S) → List (List CellKind)
cells_of_kinds kinds = map (λ k. map cell_kind_of k) (map (λ k. k.items) kinds)

-- an entry is an edge that can wait from the time on
abbrev pub IsSoundEdge : ℕ → SavedEntry → Type 0
IsSoundEdge last e = (is_real (saved_edge e) ≡ true) × (last ≤ e.sync)

-- an open start that was dropped has the start that was given
abbrev pub IsGivenStart : SavedEntry → Type 0
IsGivenStart e = e.sync ≡ e.other

-- the times of an entry of that role, 0 for an edge and 2 for a start that was dropped
abbrev pub IsSoundAs : ℕ → ℕ → SavedEntry → Type 0
IsSoundAs role last e = (role ≡ 0 → IsSoundEdge last e) × (role ≡ 2 → IsGivenStart e)

-- a stream can have this bound and this mark at the punctuation
abbrev pub IsSoundMark : ℕ → ℕ → ℕ → Type 0
IsSoundMark last bound mark = IsEnd bound × IsEnd mark × (last ≤ bound) × (mark ≤ bound)

-- and so can each
abbrev pub AreSoundMarks : ℕ → List ℕ → List ℕ → Type 0
AreSoundMarks last bounds marks = (s : ℕ) → s < length bounds → IsSoundMark last (get_or bounds s 0) (get_or marks s 0)

-- the entries, bounds and marks of so many streams are a state at the punctuation
abbrev pub IsState : List (List CellKind) → List SavedEntry → List ℕ → List ℕ → ℕ → Type 0
IsState cells saved bounds marks last = IsSound cells saved (λ s. get_or bounds s 0) (λ s. get_or marks s 0) last
