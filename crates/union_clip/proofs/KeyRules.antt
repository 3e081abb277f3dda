-- The keys stay, and what is swept and kept by keys that are the same.
use Rattle.std.specs.Prelude.{ℕ, List, refl}
use Rattle.std.proofs.Common.{sym, ◌∙◌, subst}
use Rattle.tw_rows.specs.declared.edge.Edge.{Edge}
use Rattle.tw_rows.specs.declared.edge.HeldRow.{HeldRow}
use Rattle.edge_history.specs.History.{CellEvent}
use Rattle.sweep_laws.specs.Sweeps.{Tells}
use Rattle.union_clip.specs.declared.sweep.ClipRows.{ClipRows}
use Rattle.union_clip.specs.Clipped.{clips}
use Rattle.union_clip.specs.Holding.{ClipHeld, ClipKeeps}
use Rattle.union_clip.specs.Keys.{SameKeys}

pub keys_stay : (s : ClipRows) → SameKeys s s
keys_stay s = record { left = refl; right = refl }

pub keys_then : (s now later : ClipRows) → SameKeys s now → SameKeys now later → SameKeys s later
keys_then s now later h k = record { left = k.left ∙ h.left; right = k.right ∙ h.right }

-- what is swept by the keys as they are then is swept by those at first
pub same_swept : (s now : ClipRows) (a b : List CellEvent) (t u : ℕ) (left later : List HeldRow) (answer0 answer1 : List Edge) → SameKeys s now →
    ClipHeld s.left.key s.right_key.columns a b t left →
    (ClipHeld now.left.key now.right_key.columns a b t left → ClipHeld now.left.key now.right_key.columns a b u later × Tells (clips now.left.key now.right_key.columns a b) t u answer0 answer1) →
    ClipHeld s.left.key s.right_key.columns a b u later × Tells (clips s.left.key s.right_key.columns a b) t u answer0 answer1
same_swept s now a b t u left later answer0 answer1 k held step =
    subst (λ (l : List ℕ). ClipHeld l s.right_key.columns a b u later × Tells (clips l s.right_key.columns a b) t u answer0 answer1) k.left
    (subst (λ (r : List ℕ). ClipHeld now.left.key r a b u later × Tells (clips now.left.key r a b) t u answer0 answer1) k.right
    (step (subst (λ (l : List ℕ). ClipHeld l now.right_key.columns a b t left) (sym k.left) (subst (λ (r : List ℕ). ClipHeld s.left.key r a b t left) (sym k.right) held))))

pub kept_by : (s later : ClipRows) (left : List HeldRow) (left_waiting right_waiting : List Edge) (to : ℕ) (hl hr out : List Edge) → SameKeys s later →
    ClipKeeps s.left.key s.right_key.columns left left_waiting right_waiting to hl hr out → ClipKeeps later.left.key later.right_key.columns left left_waiting right_waiting to hl hr out
kept_by s later left left_waiting right_waiting to hl hr out k h =
    subst (λ (l : List ℕ). ClipKeeps l later.right_key.columns left left_waiting right_waiting to hl hr out) (sym k.left)
    (subst (λ (r : List ℕ). ClipKeeps s.left.key r left left_waiting right_waiting to hl hr out) (sym k.right) h)
