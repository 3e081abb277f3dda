-- Of which edges an `Egress` has the changes.
use Rattle.std.specs.Prelude.{◌≡◌, ℕ, ◌-◌, ◌≤◌, Bool, Option, List, [], ◌∷◌, ◌++◌}
use Rattle.tw_rows.specs.Instant.{inf}
use Rattle.tw_rows.specs.Event.{Event, AreEvents, alive}
use Rattle.tw_rows.specs.Rows.{Row}
use Rattle.tw_rows.specs.declared.cells.Datum.{Datum}
use Rattle.tw_rows.specs.declared.edge.Edge.{Edge}
use Rattle.edge_history.specs.Order.{failing, is_from, IsHistory}
use Rattle.edge_history.specs.History.{CellEvent, of}
use Rattle.plan_laws.specs.Standing.{StandsRead}
use Rattle.plan_model.specs.Changes.{changes}
use Rattle.synopsis.specs.Kept.{since_at, EachIsOpen}
use Rattle.egress.specs.Kept.{since_in}
use Rattle.egress.specs.Waiting.{waiting_in, HavePassed, WaitingArePlaced, Swept}
use Rattle.egress.specs.Print.{print, punctuation_if}
use Rattle.egress.specs.declared.egress.Egress.{Egress}

-- its lines have the changes of the events, read, from a up to t, and all that happens from t on waits
abbrev pub HasSwept : List (List ℕ) → List CellEvent → ℕ → ℕ → Egress → Type 0
HasSwept texts events a t o = Swept texts o.rows.kinds.items events a t (since_in texts o.rows.starts) (waiting_in o.waiting) o.rows.lines.items

-- the cells of each row that it has open, and of each edge that waits, pass the test
abbrev pub AllPassed : (List Datum → Bool) → Egress → Type 0
AllPassed p o = HavePassed p (since_at o.rows.starts) (waiting_in o.waiting)

-- the edges h were taken, and of their events, read, the changes from a up to c are the text: what was rendered has those
-- before a, and those from c on are still to come. At first no edge was taken, and a and c are 0. What is kept has no cells
-- but those of the edges, and no row is kept once it has ended
pub record Holds (texts : List (List ℕ)) (h : List Edge) (a c : ℕ) (o : Egress) : Type 0 where
  pub high : c ≤ inf
  pub history : IsHistory h
  pub swept : HasSwept texts (of h) a c o
  pub cells : (p : List Datum → Bool) → failing (λ e. p e.cells) h ≡ 0 → AllPassed p o
  pub kept : EachIsOpen o.rows.starts

-- each place in the edges that wait is that of a text of the table
abbrev pub IsPlacedIn : List (List ℕ) → Egress → Type 0
IsPlacedIn texts o = WaitingArePlaced texts (waiting_in o.waiting)

-- the edges were taken after those before, and their changes are worked out up to `to`
abbrev pub GoesOn : List (List ℕ) → List Edge → ℕ → Egress → Egress → Type 0
GoesOn texts edges to old new = (h : List Edge) (a c : ℕ) → Holds texts h a c old → IsHistory (h ++ edges) → failing (is_from c) edges ≡ 0 → c ≤ to →
    Holds texts (h ++ edges) a to new

-- one edge was taken, and the changes are worked out up to a time that is not after it
abbrev pub GoesOnWith : List (List ℕ) → Edge → ℕ → Egress → Egress → Type 0
GoesOnWith texts edge due old new = (h : List Edge) (a c : ℕ) → Holds texts h a c old → IsHistory (h ++ edge ∷ []) → c ≤ due → due ≤ edge.sync →
    Holds texts (h ++ edge ∷ []) a due new

-- what was due before `to` was shown, of whatever events the rows are
pub record ShowsTo (texts : List (List ℕ)) (to : ℕ) (old new : Egress) : Type 0 where
  pub within : to ≤ inf
  pub swept : (events : List CellEvent) (a c : ℕ) → AreEvents events → c ≤ to → HasSwept texts events a c old → HasSwept texts events a to new
  pub placed : IsPlacedIn texts new
  pub passed : (p : List Datum → Bool) → AllPassed p old → AllPassed p new
  pub kept : EachIsOpen old.rows.starts → EachIsOpen new.rows.starts

-- the bytes are the lines of the changes that were not yet rendered, of whatever events the edges stand for, and the
-- punctuation line
abbrev pub IsText : Egress → Option ℕ → List ℕ → Type 0
IsText o punctuation bytes = (texts : List (List ℕ)) (h : List Edge) (a c : ℕ) (events : List (Event Row)) → Holds texts h a c o → StandsRead texts c h events →
    bytes ≡ print o.rows.kinds.items (changes (alive events) a (c - a)) ++ punctuation_if punctuation

-- all that was taken is rendered
abbrev pub IsRendered : Egress → Egress → Type 0
IsRendered old new = (texts : List (List ℕ)) (h : List Edge) (a c : ℕ) → Holds texts h a c old → Holds texts h c c new
