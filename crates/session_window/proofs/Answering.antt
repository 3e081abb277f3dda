-- The events of a Session are those of its node, with the columns of its rows.
use Rattle.std.specs.Prelude.{◌≡◌, ℕ, ◌≤◌, nat_lt, Bool, true, false, cond, List, [], refl}
use Rattle.std.proofs.Common.{sym, ◌∙◌, ap, arith}
use Rattle.std.proofs.lemmas.Bool.Decides.{nat_tests}
use Rattle.tw_rows.specs.SameCells.{same_cells}
use Rattle.tw_rows.specs.declared.kind.CellKind.{CellKind}
use Rattle.tw_rows.proofs.Bags.{total-map}
use Rattle.edge_history.specs.History.{CellEvent}
use Rattle.key_nodes.specs.Sessions.{session}
use Rattle.plan_model.specs.declared.node.Node.TheVariants.{Session}
use Rattle.plan_model.specs.Nodes.{node_in}
use Rattle.plan_laws.specs.Keeping.{plain_cells}
use Rattle.sweep_laws.specs.Saving.{store_all}
use Rattle.sweep_sides.specs.Sweeping.{AreStored}
use Rattle.synopsis.specs.Held.{key_of}
use Rattle.session_window.specs.Windows.{windows}

windows_stored : (kinds : List CellKind) (columns : List ℕ) (timeout : ℕ) (a : List CellEvent) → AreStored kinds a → AreStored kinds (windows columns timeout a)
windows_stored kinds columns timeout a h = total-map (λ (e : CellEvent). cond {A = ℕ} (store_all kinds e.row) 0 1) (session (key_of columns) same_cells timeout a) a ∙ h

-- the node of a timeout of 0 has no events
pub node_stored : (kinds : List CellKind) (columns : List ℕ) (timeout : ℕ) (a b : List CellEvent) → AreStored kinds a → AreStored kinds (node_in plain_cells (Session 0 timeout columns) a b)
node_stored kinds columns timeout a b h = go (nat_lt 0 timeout)
  where
    go : (some : Bool) → AreStored kinds (cond some (windows columns timeout a) [])
    go true = windows_stored kinds columns timeout a h
    go false = refl

-- the events of the node
pub windows_are : (columns : List ℕ) (timeout : ℕ) (a b : List CellEvent) → 1 ≤ timeout → windows columns timeout a ≡ node_in plain_cells (Session 0 timeout columns) a b
windows_are columns timeout a b pos = sym (ap (λ c. cond c (windows columns timeout a) []) (above timeout pos))
  where
    above : (n : ℕ) → 1 ≤ n → nat_lt 0 n ≡ true
    above n l = grind (arith, nat_tests)
