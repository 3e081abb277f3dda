-- The keys and the time stay, and what is swept by those that are the same.
use Rattle.std.specs.Prelude.{ℕ, List, refl}
use Rattle.std.proofs.Common.{sym, ◌∙◌, subst}
use Rattle.tw_rows.specs.declared.edge.Edge.{Edge}
use Rattle.tw_rows.specs.declared.edge.HeldRow.{HeldRow}
use Rattle.tw_rows.specs.declared.kind.CellKind.{CellKind}
use Rattle.edge_history.specs.History.{CellEvent}
use Rattle.follow_op.specs.declared.rows.FollowRows.{FollowRows}
use Rattle.follow_op.specs.Followed.{follows}
use Rattle.follow_op.specs.Waits.{FollowHeld}
use Rattle.follow_op.specs.Intervals.{TellsAhead}
use Rattle.follow_op.specs.Keys.{SameKeys}
use Rattle.follow_op.specs.States.{KeepsFollow}

pub keys_stay : (s : FollowRows) → SameKeys s s
keys_stay s = record { left = refl; right = refl; within = refl }

pub keys_then : (s now later : FollowRows) → SameKeys s now → SameKeys now later → SameKeys s later
keys_then s now later h k = record { left = k.left ∙ h.left; right = k.right ∙ h.right; within = k.within ∙ h.within }

-- what is kept by some keys is kept by those that are the same
pub held_by : (s now : FollowRows) (a b : List CellEvent) (v u : ℕ) (rows queue : List HeldRow) → SameKeys s now →
    FollowHeld s.left.key s.right_key.columns s.within a b v u rows queue → FollowHeld now.left.key now.right_key.columns now.within a b v u rows queue
held_by s now a b v u rows queue k h =
    subst (λ (l : List ℕ). FollowHeld l now.right_key.columns now.within a b v u rows queue) (sym k.left)
    (subst (λ (r : List ℕ). FollowHeld s.left.key r now.within a b v u rows queue) (sym k.right)
    (subst (λ (n : ℕ). FollowHeld s.left.key s.right_key.columns n a b v u rows queue) (sym k.within) h))

pub held_back : (s now : FollowRows) (a b : List CellEvent) (v u : ℕ) (rows queue : List HeldRow) → SameKeys s now →
    FollowHeld now.left.key now.right_key.columns now.within a b v u rows queue → FollowHeld s.left.key s.right_key.columns s.within a b v u rows queue
held_back s now a b v u rows queue k h =
    subst (λ (l : List ℕ). FollowHeld l s.right_key.columns s.within a b v u rows queue) k.left
    (subst (λ (r : List ℕ). FollowHeld now.left.key r s.within a b v u rows queue) k.right
    (subst (λ (n : ℕ). FollowHeld now.left.key now.right_key.columns n a b v u rows queue) k.within h))

pub told_back : (s now : FollowRows) (a b : List CellEvent) (t u : ℕ) (answer0 answer1 : List Edge) → SameKeys s now →
    TellsAhead (follows now.left.key now.right_key.columns now.within a b) t u answer0 answer1 → TellsAhead (follows s.left.key s.right_key.columns s.within a b) t u answer0 answer1
told_back s now a b t u answer0 answer1 k h =
    subst (λ (l : List ℕ). TellsAhead (follows l s.right_key.columns s.within a b) t u answer0 answer1) k.left
    (subst (λ (r : List ℕ). TellsAhead (follows now.left.key r s.within a b) t u answer0 answer1) k.right
    (subst (λ (n : ℕ). TellsAhead (follows now.left.key now.right_key.columns n a b) t u answer0 answer1) k.within h))

pub kept_by : (s now : FollowRows) (lc rc : List CellKind) (texts : List (List ℕ)) (x y : ℕ) (rows queue : List HeldRow) (lw rws hl hr out : List Edge) → SameKeys s now →
    KeepsFollow s.left.key s.right_key.columns s.within lc rc texts x y rows queue lw rws hl hr out → KeepsFollow now.left.key now.right_key.columns now.within lc rc texts x y rows queue lw rws hl hr out
kept_by s now lc rc texts x y rows queue lw rws hl hr out k h =
    subst (λ (l : List ℕ). KeepsFollow l now.right_key.columns now.within lc rc texts x y rows queue lw rws hl hr out) (sym k.left)
    (subst (λ (r : List ℕ). KeepsFollow s.left.key r now.within lc rc texts x y rows queue lw rws hl hr out) (sym k.right)
    (subst (λ (n : ℕ). KeepsFollow s.left.key s.right_key.columns n lc rc texts x y rows queue lw rws hl hr out) (sym k.within) h))
