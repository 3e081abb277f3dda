-- Edges of one instant that are written over in place, and the open starts that their ends have.
use Rattle.std.specs.Prelude.{◌≡◌, ℕ, zero, suc, ◌+◌, ◌-◌, ◌<◌, ◌≤◌, Bool, true, cond, List, [], ◌∷◌, drop, replicate, length, get_or, set, refl}
use Rattle.std.proofs.Common.{sym, ◌∙◌, ap, subst, arith}
use Rattle.std.proofs.lemmas.List.{drop-drop, drop-set-lt, get_or-drop, length-append, length-drop, length-replicate}
use Rattle.tw_rows.specs.SameCells.{same_itself}
use Rattle.tw_rows.specs.declared.edge.Edge.{Edge}
use Rattle.edge_history.specs.Order.{is_end}
use Rattle.key_nodes.specs.Coalesced.{how_often, rows_before}
use Rattle.sweep_laws.specs.Queues.{Cells, rise, fall, open_starts}
use Rattle.synopsis.specs.Holding.{HaveStarts, move_of, moves_of}
use Rattle.synopsis.proofs.Telling.{sum_at, net_ends}

-- what stands behind the edges that are written
pub same_at : {X : Type 0} (xs ys : List X) (i : ℕ) (d : X) → drop i xs ≡ drop i ys → get_or xs i d ≡ get_or ys i d
same_at {X} xs ys i d e =
    let z : i ≡ i + 0 = omega arith in
    ap (λ k. get_or xs k d) z
    ∙ (sym (get_or-drop i xs 0 d)
    ∙ (ap (λ (l : List X). get_or l 0 d) e
    ∙ (get_or-drop i ys 0 d ∙ ap (λ k. get_or ys k d) (sym z))))

pub rest_set : {X : Type 0} (xs ys : List X) (i : ℕ) (y : X) → drop i xs ≡ drop i ys → drop (i + 1) (set xs i y) ≡ drop (i + 1) ys
rest_set {X} xs ys i y e =
    drop-set-lt (i + 1) xs i y (omega arith) ∙ (sym (drop-drop 1 i xs) ∙ (ap (λ (l : List X). drop 1 l) e ∙ drop-drop 1 i ys))

-- the row of an end among the edges
pub start_at : (old : Cells → List ℕ) (es : List Edge) (i : ℕ) (x : Edge) → HaveStarts old es → i < length es → x ≡ get_or es i x → is_end x ≡ true → 1 ≤ length (old x.cells)
start_at old [] i x have low is end = absurd (omega (arith, low))
start_at old (e ∷ es) zero x have low is end = subst (λ (y : Edge). 1 ≤ length (old y.cells)) (sym is) (have.0 (sym (ap is_end is) ∙ end))
start_at old (e ∷ es) (suc i) x have low is end = start_at old es i x have.1 (omega (arith, low)) is end

-- ends of rows that end more often than they start have open starts, where such rows have
pub have_starts : (old : Cells → List ℕ) (es : List Edge) → ((c : Cells) → 1 ≤ sum_at net_ends (moves_of es) c → 1 ≤ length (old c)) → HaveStarts old es
have_starts old [] h = tt
have_starts old (x ∷ es) h = (
  λ end.
      let a = ap (λ b. cond {A = ℕ} b (net_ends (move_of x)) 0) (same_itself x.cells) in
      let b = ap (λ b. cond {A = ℕ} b 1 0 - cond {A = ℕ} b 0 1) end in
      h x.cells (omega (arith, a, b)),
  have_starts old es (λ c low. h c (omega (arith, low))),
)

-- a row has as many open starts as it stood there just before
pub open_count : (same : Cells → Cells → Bool) (f : ℕ → List Cells) (r : Cells) (t : ℕ) → length (open_starts same f r t) ≡ how_often same r (rows_before f t)
open_count same f r zero = refl
open_count same f r (suc t) =
    let h = open_count same f r t in
    let a = length-append (drop (fall same f r t) (open_starts same f r t)) (replicate (rise same f r t) t) in
    let b = length-drop (fall same f r t) (open_starts same f r t) in
    let c = length-replicate (rise same f r t) t in
    omega (arith, h, a, b, c)
