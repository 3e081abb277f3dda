-- The pending edges of each instant, and how far the output has come.
use Rattle.std.specs.Prelude.{◌≡◌, ℕ, suc, ◌+◌, ◌<◌, ◌≤◌, nat_eq, Bool, cond, Option, Some, None, List, [], ◌∷◌, ◌++◌, filter, length, Vec}
use Rattle.std.specs.Ordering.{nat_cmp}
use Rattle.std.specs.BTreeMap.{get, btree_map_len, BTreeMap}
use Rattle.tw_rows.specs.Instant.{inf}
use Rattle.tw_rows.specs.Bag.{SameBag}
use Rattle.tw_rows.specs.Event.{alive}
use Rattle.tw_rows.specs.Rows.{Row}
use Rattle.tw_rows.specs.declared.cells.Datum.{Datum}
use Rattle.tw_rows.specs.declared.edge.Edge.{Edge}
use Rattle.tw_rows.specs.declared.kind.Kind.{Kind}
use Rattle.edge_history.specs.History.{CellEvent}
use Rattle.edge_history.specs.Order.{failing}
use Rattle.edge_history.specs.Balance.{news}
use Rattle.edge_history.specs.Opens.{bare, ended_rows, started_rows}
use Rattle.plan_laws.specs.Places.{read_events, EdgesArePlaced}
use Rattle.egress.specs.Kept.{OpensPass}
use Rattle.egress.specs.Reached.{Reached}
use Rattle.egress.specs.declared.waiting.Pending.{Pending}

-- the edges that wait for each instant, and None for an instant for which none was put
abbrev pub Waiting : Type 0
Waiting = ℕ → Option (List Edge)

abbrev pub edges_if : Option (List Edge) → List Edge
edges_if None = []
edges_if (Some es) = es

abbrev pub items_if : {A : Type 0} → Option (Vec Edge A) → Option (List Edge)
items_if None = None
items_if (Some v) = Some v.items

-- what waits by a map from the numbers of instants
abbrev pub later_in : {A : Type 0} → BTreeMap ℕ (Vec Edge A) → Waiting
later_in later t = items_if (get nat_cmp later t)

-- those that wait, and these after them. With none of both, None
abbrev pub joined : Option (List Edge) → List Edge → Option (List Edge)
joined o [] = o
joined o (e ∷ es) = Some (edges_if o ++ e ∷ es)

-- what waits, and the edges of the instant at hand with it
abbrev pub with_now : ℕ → List Edge → Waiting → Waiting
with_now at now later t = cond (nat_eq at t) (joined (later t) now) (later t)

abbrev pub waiting_in : Pending → Waiting
waiting_in w = with_now w.at w.at_hand.items (later_in w.later)

-- with each instant that is taken out it falls
abbrev pub pending_len : Pending → ℕ
pending_len w = length w.at_hand.items + btree_map_len w.later

-- the edges of an instant. Of edges at 3, 5 and 3 those of 3 are the first and the last
abbrev pub edges_at : ℕ → List Edge → List Edge
edges_at t es = filter (λ e. nat_eq e.sync t) es

-- edges were put to those that wait: for each instant its own of them come last, and where there are none, None stays
pub record ArePut (old new : Waiting) (es : List Edge) : Type 0 where
  pub edges : (t : ℕ) → edges_if (new t) ≡ edges_if (old t) ++ edges_at t es
  pub none : (t : ℕ) → old t ≡ None → edges_at t es ≡ [] → new t ≡ None

-- the edges of the first instant for which some wait were taken out. Of edges at 5 and 7 those at 5
pub record ArePopped (old new : Waiting) (at : ℕ) (es : List Edge) : Type 0 where
  pub there : old at ≡ Some es
  pub first : (t : ℕ) → t < at → old t ≡ None
  pub left : (t : ℕ) → new t ≡ cond (nat_eq at t) None (old t)

-- each place in what waits is that of a text of the table
abbrev pub WaitingArePlaced : List (List ℕ) → Waiting → Type 0
WaitingArePlaced texts waiting = (t : ℕ) → EdgesArePlaced texts (edges_if (waiting t))

-- the edges end the same rows, each as often, and start the same rows: the end at 9 of the lifetime [1, 9) moves what that of
-- [3, 9) of the same row moves
pub record SameMoves (xs ys : List Edge) : Type 0 where
  pub ended : SameBag (bare (ended_rows xs)) (bare (ended_rows ys))
  pub started : SameBag (bare (started_rows xs)) (bare (started_rows ys))

-- the cells of each row that is open, and of each edge that waits, pass the test, as that of being placed in a table
pub record HavePassed (p : List Datum → Bool) (since : List Datum → List ℕ) (waiting : Waiting) : Type 0 where
  pub opens : OpensPass p since
  pub waits : (t : ℕ) → failing (λ e. p e.cells) (edges_if (waiting t)) ≡ 0

-- the text has the changes of the events, read, from a up to t, t not, and all that happens from t on is pending. With the
-- lifetime [3, 5), from 0 to 4: the text has the start line, and the end edge is pending until 5
pub record Swept (texts : List (List ℕ)) (kinds : List Kind) (events : List CellEvent) (a t : ℕ)
    (since : Row → List ℕ) (waiting : Waiting) (text : List ℕ) : Type 0 where
  pub waits : (v : ℕ) → t ≤ v → v < inf → SameMoves (edges_if (waiting v)) (news v (suc v) events)
  pub none : (v : ℕ) → v < t → waiting v ≡ None
  pub reached : Reached (alive (read_events texts events)) kinds a t since text
