-- Edges of cells that stand, each place read as its text, for events of rows.
use Rattle.std.specs.Prelude.{◌≡◌, ℕ, ◌<◌, List}
use Rattle.tw_rows.specs.Event.{Event, Known}
use Rattle.tw_rows.specs.Rows.{Row}
use Rattle.tw_rows.specs.declared.edge.Edge.{Edge}
use Rattle.edge_history.specs.Order.{is_below, failing, IsHistory}
use Rattle.plan_model.specs.declared.node.Node.{Node}
use Rattle.plan_model.specs.Meaning.{Sources, closes, events}
use Rattle.plan_laws.specs.Places.{read_of, EdgesArePlaced}

-- the edges, read, stand for the events below c: they are a history with syncs below c alone, all their places are
-- those of texts, and of their events, read, the same is known below c as of these. With the text `a`, below 4 a start
-- at 3 of the place 0 stands for `a` over [3, 5), and below 6 it needs its end at 5
pub record StandsRead (texts : List (List ℕ)) (c : ℕ) (h : List Edge) (events : List (Event Row)) : Type 0 where
  pub history : IsHistory h
  pub below : failing (is_below c) h ≡ 0
  pub placed : EdgesArePlaced texts h
  pub known : Known c (read_of texts h) events

-- the list of each stream stands, read, for the events of the stream below the punctuation p. At p = 0, empty lists do
abbrev pub SourcesStandRead : List (List ℕ) → ℕ → Sources → (ℕ → List Edge) → Type 0
SourcesStandRead texts p source given = (stream : ℕ) → StandsRead texts p (given stream) (source stream)

-- the list of each of the first n nodes stands, read, for the events of the node below its closing at the punctuation
-- p. Of no nodes it always holds
abbrev pub AllStandRead : List (List ℕ) → List Node → ℕ → Sources → (ℕ → List Edge) → ℕ → Type 0
AllStandRead texts nodes p source lists n = (i : ℕ) → i < n →
    StandsRead texts (closes nodes i p) (lists i) (events source nodes i)
