-- How a line changes what is held of all streams.
use Rattle.std.specs.Prelude.{◌≡◌, ℕ, ◌<◌, ◌≤◌, ◌⊎◌, Option, List, [], ◌∷◌, ◌++◌, length, get_or, map}
use Rattle.tw_rows.specs.Bag.{SameBag}
use Rattle.tw_rows.specs.Cells.{datum_kind}
use Rattle.tw_rows.specs.declared.cells.Datum.{Datum}
use Rattle.tw_rows.specs.declared.edge.Edge.{Edge}
use Rattle.tw_rows.specs.declared.kind.CellKind.{CellKind}
use Rattle.key_nodes.specs.Joins.{with_life}
use Rattle.edge_history.specs.History.{CellEvent}
use Rattle.row_reader.specs.declared.form.Form.{Form}
use Rattle.row_reader.specs.declared.form.Form.TheVariants.{Interval, Start, End}
use Rattle.admission.specs.declared.policy.Admitted.{Admitted}
use Rattle.ingress.specs.Entering.{key_of, HasEntered}
use Rattle.ingress.specs.Fits.{AreFit}
use Rattle.ingress.specs.Keeping.{CellOpen, kept_state, Keeps, HasEnded, more_rows, first_of, is_named}
use Rattle.ingress.specs.OpenKeys.{starts_in}
use Rattle.ingress.specs.declared.entering.EventLine.{EventLine}
use Rattle.ingress.specs.declared.held_streams.HeldStreams.{HeldStreams}
use Rattle.ingress.specs.declared.opens.OpenKey.{OpenKey}
use Rattle.ingress.specs.declared.opens.OpenStart.{OpenStart}

-- what is held follows these rows and open starts, of whose edges these were given, all below p
abbrev pub KeepsIn : ℕ → HeldStreams → (ℕ → List CellEvent) → List CellOpen → (ℕ → List Edge) → Type 0
KeepsIn p h made opens given = Keeps p h.waiting.items (starts_in h.opens.starts) made opens given

-- the same edges wait, in any order, and each key names the same open starts. A start edge that was put and taken out again may
-- leave another order
pub record SameHeld (old new : HeldStreams) : Type 0 where
  pub edges : (s : ℕ) → SameBag (get_or new.waiting.items s []) (get_or old.waiting.items s [])
  pub starts : (k : OpenKey) → starts_in new.opens.starts k ≡ starts_in old.opens.starts k

-- a row of stream s came, with its lifetime
abbrev pub AddsRow : ℕ → List Datum → ℕ → ℕ → HeldStreams → HeldStreams → Type 0
AddsRow s cells start end old new = (p : ℕ) (made : ℕ → List CellEvent) (opens : List CellOpen) (given : ℕ → List Edge) → p ≤ start →
    KeepsIn p old made opens given → KeepsIn p new (more_rows s (with_life cells start end) made) opens given

-- an open start came, of which this state is kept
abbrev pub AddsStart : OpenKey → OpenStart → HeldStreams → HeldStreams → Type 0
AddsStart key state old new = (st : OpenStart) (p : ℕ) (made : ℕ → List CellEvent) (opens : List CellOpen) (given : ℕ → List Edge) →
    kept_state key.given st ≡ state → p ≤ st.start → KeepsIn p old made opens given →
    KeepsIn p new made (opens ++ record { key = key; state = st } ∷ []) given

-- the first open start that the key names has ended at that time, and is answered; where there is none, nothing is
abbrev pub EndsStart : OpenKey → ℕ → HeldStreams → HeldStreams → Option OpenStart → Type 0
EndsStart key at old new answer = (p : ℕ) (made : ℕ → List CellEvent) (opens : List CellOpen) (given : ℕ → List Edge) →
    p ≤ at → KeepsIn p old made opens given →
    HasEnded key at p new.waiting.items (starts_in new.opens.starts) made opens given answer (first_of (is_named key) opens)

-- an event line of that form was entered
abbrev pub Enters : Form → EventLine → List Datum → HeldStreams → HeldStreams → Option Admitted → Type 0
Enters form line cells old new answer = (p : ℕ) (made : ℕ → List CellEvent) (opens : List CellOpen) (given : ℕ → List Edge) →
    p ≤ line.at → KeepsIn p old made opens given →
    HasEntered form line cells p new.waiting.items (starts_in new.opens.starts) made opens given answer

-- the edges of each stream are stored as its cells are, as those of this line of stream s are
abbrev pub StaysFit : ℕ → List Datum → HeldStreams → HeldStreams → Type 0
StaysFit s cells old new = (kinds : List (List CellKind)) →
    AreFit kinds old.waiting.items → map datum_kind cells ≡ get_or kinds s [] → AreFit kinds new.waiting.items

-- an end line names an open start, or has more than 4 cells; of other lines nothing is said
abbrev pub NamesStart : Form → EventLine → List Datum → HeldStreams → Type 0
NamesStart End line cells h = (0 < length (starts_in h.opens.starts (key_of line.stream line.other cells))) ⊎ (4 < length cells)
NamesStart Interval line cells h = Unit {0}
NamesStart Start line cells h = Unit {0}
