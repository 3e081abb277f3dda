-- What the code keeps of the lines that were admitted.
use Rattle.std.specs.Prelude.{◌≡◌, ℕ, ◌<◌, ◌≤◌, All, List, [], length, get_or, map, take, filter, Result, Ok, Err}
use Rattle.tw_rows.specs.Instant.{inf}
use Rattle.tw_rows.specs.Bag.{SameBag}
use Rattle.tw_rows.specs.Cells.{ArePlaced, read_cells, datum_kind, with_row}
use Rattle.tw_rows.specs.Kinds.{cell_kind_of}
use Rattle.tw_rows.specs.declared.edge.Edge.{Edge}
use Rattle.tw_rows.specs.declared.kind.Kind.{Kind}
use Rattle.tw_rows.specs.declared.kind.CellKind.{CellKind}
use Rattle.tw_rows.specs.declared.schema.StreamDef.{StreamDef}
use Rattle.edge_history.specs.Order.{is_below, Rises}
use Rattle.edge_history.specs.History.{CellEvent}
use Rattle.edge_stream.specs.Listing.{EdgeListView}
use Rattle.edge_stream.specs.Lists.{edges_at}
use Rattle.plan_laws.specs.Places.{read_events, EventsArePlaced}
use Rattle.admission.specs.declared.policy.Policy.{Policy}
use Rattle.row_reader.specs.Interned.{row_read}
use Rattle.row_reader.specs.declared.entry.Entry.{Entry}
use Rattle.row_reader.specs.declared.entry.Entry.TheVariants.{Skip, Punct, Event}
use Rattle.admission.specs.Admission.{Admission, Open, Outcome, Taken, WasLate, Unmatched, admit}
use Rattle.admission.specs.Answers.{answer}
use Rattle.admission.specs.declared.policy.Admitted.{Admitted}
use Rattle.ingress.specs.OpenKeys.{starts_in}
use Rattle.ingress.specs.Keeping.{CellOpen, Keeps}
use Rattle.ingress.specs.Changes.{SameHeld}
use Rattle.ingress.specs.Streams.{bound_in, mark_in}
use Rattle.ingress.specs.Fits.{stream_kinds, stream_cells}
use Rattle.ingress.specs.declared.ingress.Ingress.{Ingress}
use Rattle.ingress.specs.declared.ingress.Refusal.{Refusal}
use Rattle.ingress.specs.declared.ingress.Refusal.TheVariants.{Late, NoStart, Memory}

-- the kinds of the columns of each stream, and how their cells are stored
abbrev pub kinds_of : Ingress → List (List Kind)
kinds_of i = map (λ k. k.items) i.kinds.items

abbrev pub cells_of : Ingress → List (List CellKind)
cells_of i = map (λ k. map cell_kind_of k) (kinds_of i)

-- what stays: it is for these streams, under this policy, with batches of this capacity
pub record IsFor (streams : List StreamDef) (rules : Policy) (rows : ℕ) (i : Ingress) : Type 0 where
  pub policy : i.policy ≡ rules
  pub kinds : kinds_of i ≡ stream_kinds streams
  pub cells : cells_of i ≡ stream_cells streams
  pub count : length i.kinds.items ≡ length streams
  pub capacity : i.capacity ≡ rows

-- the same streams, policy and capacity
pub record SameFixed (old new : Ingress) : Type 0 where
  pub policy : new.policy ≡ old.policy
  pub kinds : new.kinds ≡ old.kinds
  pub capacity : new.capacity ≡ old.capacity

-- there is a list for each stream, of its kinds and of this capacity
pub record AreListsOf (i : Ingress) (lists : List EdgeListView) : Type 0 where
  pub kinds : map (λ l. l.kinds) lists ≡ kinds_of i
  pub capacity : All (λ l. l.capacity ≡ i.capacity) lists

-- the edges of the lists are those that wait below t, stream by stream, in order
pub record AreReleased (t : ℕ) (waiting : List (List Edge)) (lists : List EdgeListView) : Type 0 where
  pub edges : (s : ℕ) → SameBag (edges_at lists s) (filter (is_below t) (get_or waiting s []))
  pub order : (s : ℕ) → Rises 0 (edges_at lists s)

-- an open start with its cells read. With the text `a` at place 0, that of the place 0 is one of `a`
abbrev pub read_open : List (List ℕ) → CellOpen → Open
read_open texts o = record {
  stream = o.key.stream;
  row = read_cells texts o.key.cells;
  given = o.key.given;
  start = o.state.start;
  dropped = o.state.dropped;
}

-- the cells of an open start are stored as those of its stream are
abbrev pub IsStored : List (List CellKind) → CellOpen → Type 0
IsStored cells o = map datum_kind o.key.cells ≡ get_or cells o.key.stream []

-- of the lines that were admitted, which gave `a`, and of the edges given so far, the code keeps the bounds and the marks, the
-- rows in cells, the open starts, and the edges that wait; all places are in the table, and of streams that were not declared
-- there is nothing
pub record Follows (texts : List (List ℕ)) (a : Admission) (given : ℕ → List Edge) (i : Ingress) : Type 0 where
  pub instant : i.released ≤ inf
  pub bounds : (s : ℕ) → s < length i.kinds.items → a.bound s ≡ bound_in i.watermarks.streams.items s
  pub marks : (s : ℕ) → s < length i.kinds.items → a.mark s ≡ mark_in i.watermarks.streams.items s
  pub made : ℕ → List CellEvent
  pub opens : List CellOpen
  pub reads_made : (s : ℕ) → a.made s ≡ read_events texts (made s)
  pub reads_opens : a.opens ≡ map (read_open texts) opens
  pub made_placed : (s : ℕ) → EventsArePlaced texts (made s)
  pub opens_placed : All (λ o. ArePlaced texts o.key.cells) opens
  pub keeps : Keeps i.released i.held.waiting.items (starts_in i.held.opens.starts) made opens given
  pub declared : All (λ o. o.key.stream < length i.kinds.items) opens
  pub stored : All (IsStored (cells_of i)) opens
  pub none_made : (s : ℕ) → length i.kinds.items ≤ s → made s ≡ []
  pub none_given : (s : ℕ) → length i.kinds.items ≤ s → given s ≡ []

-- the same, and no stream is given up to a time above its bound, so that lines can follow
pub record Admits (texts : List (List ℕ)) (a : Admission) (given : ℕ → List Edge) (i : Ingress) : Type 0 where
  pub follows : Follows texts a given i
  pub low : (s : ℕ) → s < length i.kinds.items → i.released ≤ a.bound s

-- why an entry was refused, by what became of it. Where there was no memory nothing is said
abbrev pub Refuses : Outcome → Refusal → Type 0
Refuses o (Late time bound) = o ≡ WasLate time bound
Refuses o NoStart = o ≡ Unmatched
Refuses o Memory = Unit {0}

-- whatever lines are followed: with the table, with what they gave and with the edges given so far
abbrev pub WhateverFollowed : Ingress → (List (List ℕ) → Admission → (ℕ → List Edge) → Type 0) → Type 0
WhateverFollowed i P = (texts : List (List ℕ)) (a : Admission) (given : ℕ → List Edge) → Follows texts a given i → P texts a given

-- the same lines can be followed as before, in a table that may have grown
abbrev pub StillAdmits : List (List ℕ) → List (List ℕ) → Ingress → Ingress → Type 0
StillAdmits before after old new = (a : Admission) (given : ℕ → List Edge) → Admits before a given old → Admits after a given new

-- the entry was taken, and this was answered
abbrev pub Takes : List (List ℕ) → List (List ℕ) → Entry → Ingress → Ingress → Admitted → Type 0
Takes before after e old new x = (a : Admission) (given : ℕ → List Edge) → Admits before a given old →
    (b : Admission) × ((admit old.policy a e ≡ Taken b) × Admits after b given new × (x ≡ answer old.policy a e))

-- the entry was refused, for this cause
abbrev pub IsRefused : List (List ℕ) → Entry → Ingress → Refusal → Type 0
IsRefused texts e old refusal = (a : Admission) (given : ℕ → List Edge) → Admits texts a given old → Refuses (admit old.policy a e) refusal

-- an event line that is neither late and refused nor, with a row of at most 4 values, an end without a start
abbrev pub IsTaken : ℕ → Outcome → Type 0
IsTaken values (Taken after) = Unit {0}
IsTaken values (WasLate time bound) = ⊥
IsTaken values Unmatched = 4 < values

abbrev pub IsTakenEvent : Policy → Admission → Entry → Type 0
IsTakenEvent policy a Skip = ⊥
IsTakenEvent policy a (Punct stream time) = ⊥
IsTakenEvent policy a (Event s form sync other row) = IsTaken (length row) (admit policy a (Event s form sync other row))

-- memory is taken for such a line alone: a late line is never told as one for which there was no memory. What an end line of
-- more than 4 values names takes memory, also where no start has it
abbrev pub WantsMemory : List (List ℕ) → Entry → Ingress → Type 0
WantsMemory texts e old = (a : Admission) (given : ℕ → List Edge) → Admits texts a given old → IsTakenEvent old.policy a e

-- what a refusal leaves: all as it was; where there was no memory, the edges that wait may stand in another order
abbrev pub IsLeft : Refusal → Ingress → Ingress → Type 0
IsLeft (Late time bound) old new = (new.held ≡ old.held) × (new.watermarks ≡ old.watermarks)
IsLeft NoStart old new = (new.held ≡ old.held) × (new.watermarks ≡ old.watermarks)
IsLeft Memory old new = SameHeld old.held new.held × (new.watermarks ≡ old.watermarks)

-- the texts of the entry's row are in the table, whatever became of the entry; where there was no memory, those of its first values
abbrev pub LeavesTexts : List (List ℕ) → List (List ℕ) → Result Admitted Refusal → Entry → Type 0
LeavesTexts old new (Err Memory) e = (n : ℕ) × (new ≡ with_row old (take n (row_read (Ok e))))
LeavesTexts old new (Ok x) e = new ≡ with_row old (row_read (Ok e))
LeavesTexts old new (Err (Late time bound)) e = new ≡ with_row old (row_read (Ok e))
LeavesTexts old new (Err NoStart) e = new ≡ with_row old (row_read (Ok e))

-- the bounds and the marks of the declared streams are these
abbrev pub AreMarksOf : Ingress → Admission → (ℕ → ℕ) → (ℕ → ℕ) → Type 0
AreMarksOf i a bounds marks = (s : ℕ) → s < length i.kinds.items → (a.bound s ≡ bounds s) × (a.mark s ≡ marks s)
