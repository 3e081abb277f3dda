-- What an output saves, as entries: one for each row that is alive just before a time, with its end where that is known.
use Rattle.std.specs.Prelude.{◌≡◌, ℕ, suc, ◌<◌, ◌≤◌, nat_lt, Bool, false, cond, None, List, [], ◌∷◌, ◌++◌, length, map, filter, flat_map, All}
use Rattle.std.specs.List.Sorted.{IsNonDecreasing}
use Rattle.tw_rows.specs.Instant.{inf}
use Rattle.tw_rows.specs.Event.{alive}
use Rattle.tw_rows.specs.Kinds.{cell_kind_of}
use Rattle.tw_rows.specs.Cells.{datum_kind, ArePlaced}
use Rattle.tw_rows.specs.SameCells.{same_cells}
use Rattle.tw_rows.specs.declared.cells.Datum.{Datum}
use Rattle.tw_rows.specs.declared.kind.Kind.{Kind}
use Rattle.tw_rows.specs.declared.edge.Edge.{Edge}
use Rattle.edge_stream.specs.declared.saved.SavedEntry.{SavedEntry}
use Rattle.edge_history.specs.Order.{failing, is_below, IsHistory}
use Rattle.edge_history.specs.History.{of}
use Rattle.edge_history.specs.Balance.{news}
use Rattle.plan_laws.specs.Places.{read_events, AreDistinct, EdgesArePlaced}
use Rattle.plan_model.specs.Opens.{before}
use Rattle.egress.specs.Instants.{AreOpen}
use Rattle.indexmap.specs.IndexMap.{IndexMap}
use Rattle.std.specs.declared.collections.VecDeque.{VecDeque}
use Rattle.synopsis.specs.Kept.{since_at}
use Rattle.plan_laws.specs.RowCells.{cells_of}
use Rattle.egress.specs.Output.{Holds}
use Rattle.egress.specs.Showing.{AreNone}
use Rattle.egress.specs.Waiting.{edges_at, waiting_in, SameMoves}
use Rattle.egress.specs.declared.egress.Egress.{Egress}

-- the entries of a row, by its cells
abbrev pub entries_of : List SavedEntry → List Datum → List SavedEntry
entries_of saved cells = filter (λ e. same_cells e.cells cells) saved

-- the open starts of a row in entries, and its ends, infinity for one that is not known. Of the entries [1, 9) and [3, inf)
-- of one row: 1 and 3, and 9 and infinity
abbrev pub starts_of : List SavedEntry → List Datum → List ℕ
starts_of saved cells = map (λ e. e.sync) (entries_of saved cells)

abbrev pub others_of : List SavedEntry → List Datum → List ℕ
others_of saved cells = map (λ e. e.other) (entries_of saved cells)

-- the end edge of an entry whose end is known. Which start it had is not told
abbrev pub end_of : SavedEntry → List Edge
end_of e = cond (nat_lt e.other inf) (record { sync = e.other; other = 0; cells = e.cells } ∷ []) []

abbrev pub ends_of : List SavedEntry → List Edge
ends_of saved = flat_map end_of saved

-- an entry of a row of the kinds that began before the time and has not ended before it: at 3, [1, 3) and not [3, 9)
pub record IsKept (kinds : List Kind) (closed : ℕ) (e : SavedEntry) : Type 0 where
  pub part : e.part ≡ 0
  pub cells : map datum_kind e.cells ≡ map cell_kind_of kinds
  pub begun : e.sync < closed
  pub going : closed ≤ e.other
  pub bounded : e.other ≤ inf

-- an output can have the entry after those of these starts and ends
pub record MayFollow {S H : Type 0} (kinds : List Kind) (closed : ℕ) (starts ends : IndexMap (List Datum) (VecDeque ℕ S) H) (e : SavedEntry) : Type 0 where
  pub kept : IsKept kinds closed e
  pub starts_rise : IsNonDecreasing (since_at starts e.cells ++ e.sync ∷ [])
  pub ends_rise : IsNonDecreasing (since_at ends e.cells ++ e.other ∷ [])

-- entries that an output can have at a time: among equal rows neither the starts nor the ends fall from entry to entry.
-- Of a row with the open starts 1 and 3 and a known end at 9: [1, 9), and then [3, inf)
pub record IsSound (kinds : List Kind) (saved : List SavedEntry) (closed : ℕ) : Type 0 where
  pub high : closed ≤ inf
  pub each : All (IsKept kinds closed) saved
  pub starts : (cells : List Datum) → IsNonDecreasing (starts_of saved cells)
  pub others : (cells : List Datum) → IsNonDecreasing (others_of saved cells)

-- such entries are what an output keeps at the time after the edges h: their starts are those that are open, and their ends
-- those that the events of h have from then on. They have no cells but those of h. At 3, of a start at 1 and its end at 9: the
-- entry [1, 9)
pub record Resumes (kinds : List Kind) (saved : List SavedEntry) (closed : ℕ) (texts : List (List ℕ)) (h : List Edge) : Type 0 where
  pub sound : IsSound kinds saved closed
  pub history : IsHistory h
  pub opened : AreOpen (alive (read_events texts (of h))) closed (λ r. starts_of saved (cells_of texts r))
  pub ends : (t : ℕ) → closed ≤ t → t < inf → SameMoves (edges_at t (ends_of saved)) (news t (suc t) (of h))
  pub cells : (p : List Datum → Bool) → failing (λ e. p e.cells) h ≡ 0 → failing (λ e. p e.cells) saved ≡ 0

-- each place in the entries is that of a text of the table
abbrev pub EntriesArePlaced : List (List ℕ) → List SavedEntry → Type 0
EntriesArePlaced texts saved = All (λ e. ArePlaced texts e.cells) saved

-- the edges h were taken up to c, and all of it is rendered
pub record StandsAt (texts : List (List ℕ)) (h : List Edge) (c : ℕ) (o : Egress) : Type 0 where
  pub distinct : AreDistinct texts
  pub placed : EdgesArePlaced texts h
  pub typed : All (λ e. map datum_kind e.cells ≡ map cell_kind_of o.rows.kinds.items) h
  pub below : failing (is_below c) h ≡ 0
  pub holds : Holds texts h c c o

-- the entries resume it, whatever edges were taken
abbrev pub SavesAs : Egress → List SavedEntry → Type 0
SavesAs o saved = (texts : List (List ℕ)) (h : List Edge) (c : ℕ) → StandsAt texts h c o → Resumes o.rows.kinds.items saved c texts h

-- there are as many entries as rows are alive just before the time up to which edges were taken
abbrev pub AreOpenRows : Egress → List SavedEntry → Type 0
AreOpenRows o saved = (texts : List (List ℕ)) (h : List Edge) (c : ℕ) → StandsAt texts h c o → length saved ≡ length (before (alive (read_events texts (of h))) c)

-- it has taken the edges that the entries resume
abbrev pub LoadsAs : Egress → List SavedEntry → ℕ → Egress → Type 0
LoadsAs old saved closed new = (texts : List (List ℕ)) (h : List Edge) → Resumes old.rows.kinds.items saved closed texts h → Holds texts h closed closed new

-- nothing is open, nothing waits, nothing is to be rendered, and it was not out of memory: as `new` makes it
pub record IsOpening (o : Egress) : Type 0 where
  pub closed : AreNone o.rows.starts
  pub none : (t : ℕ) → waiting_in o.waiting t ≡ None
  pub empty : o.rows.lines.items ≡ []
  pub works : o.failed ≡ false
