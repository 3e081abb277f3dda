-- Several lists of edges that are read in turn.
use Rattle.std.proofs.Common.{◌≡◌, ◌≤◌, ◌<◌, ℕ, zero, suc, ◌+◌, false, List, [], ◌∷◌, ◌++◌, map, length, get_or, set, refl, ap, subst, arith}
use Rattle.std.specs.Prelude.{All, IsSome}
use Rattle.std.proofs.lemmas.List.Elements.{All-nil, All-cons, All-head, All-tail}
use Rattle.std.proofs.lemmas.Bool.Decides.{nat_tests}
use Rattle.tw_rows.specs.Bag.{total}
use Rattle.tw_rows.specs.declared.edge.Edge.{Edge}
use Rattle.tw_rows.specs.declared.kind.CellKind.{CellKind}
use Rattle.batch.specs.PoolsView.{PoolsView, IsPartTaken}
use Rattle.edge_history.specs.Order.{rank, KeepsOrder}
use Rattle.edge_stream.specs.Listing.{EdgeListView, cells_of}
use Rattle.edge_stream.specs.Reading.{Unread, rank_ahead, is_below_rank}
use Rattle.edge_stream.specs.Taking.{batches_taken, AreBatchesTaken}
use Rattle.edge_stream.proofs.Ahead.{head_is}
use Rattle.edge_stream.proofs.Merging.{order_other}

-- a list none of whose edges are read yet
abbrev pub unread_of : EdgeListView → Unread
unread_of l = record { edges = l.edges; kinds = cells_of l }

pub All-unread : (P : Unread → Type 0) (ls : List EdgeListView) → All (λ l. P (unread_of l)) ls → All P (map unread_of ls)
All-unread P [] h = All-nil P
All-unread P (l ∷ ls) h =
    All-cons P (unread_of l) (map unread_of ls) (All-head (λ x. P (unread_of x)) l ls h) (All-unread P ls (All-tail (λ x. P (unread_of x)) l ls h))

-- what a list weighs where an item of it is replaced
pub total-set : {X : Type 0} (w : X → ℕ) (xs : List X) (i : ℕ) (new d : X) → i < length xs → total w (set xs i new) + w (get_or xs i d) ≡ total w xs + w new
total-set w [] i new d low = absurd (omega (arith, low))
total-set w (x ∷ xs) zero new d low = omega arith
total-set w (x ∷ xs) (suc i) new d low =
    let rest = total-set w xs i new d (omega (arith, low)) in
    omega (arith, rest)

later_edges : (x : Edge) (xs ys : List Edge) → is_below_rank (rank_ahead ys) (rank_ahead (x ∷ xs)) ≡ false → (y : Edge) (rest : List Edge) → ys ≡ y ∷ rest → rank x ≤ rank y
later_edges x xs [] h y rest is = absurd (cc)
later_edges x xs (z ∷ zs) h y rest is =
    let low : rank x ≤ rank z = grind (arith, nat_tests, h) in
    let same = head_is z y zs rest is in
    omega (arith, low, ap rank same)

-- the first edge of least rank goes over, and all edges still come after what is there
pub order_all : (out new : List Edge) (x : Edge) (rest : List Edge) → new ≡ out ++ x ∷ [] → KeepsOrder (out ++ x ∷ rest) → (cs : List Unread) →
    All (λ c. KeepsOrder (out ++ c.edges)) cs → All (λ c. is_below_rank (rank_ahead c.edges) (rank_ahead (x ∷ rest)) ≡ false) cs →
    All (λ c. KeepsOrder (new ++ c.edges)) cs
order_all out new x rest added here cs all least k d low =
    let c = get_or cs k d in
    order_other out new x rest rest added refl c.edges here (all k d low) (later_edges x rest c.edges (least k d low))

-- a rank that is there is that of a first edge
pub some_ahead : (es : List Edge) → IsSome (rank_ahead es) → es ≡ [] → ⊥
some_ahead [] some e = absurd (cc)
some_ahead (x ∷ xs) some e = absurd (cc)

-- where no edge is left, nothing weighs
pub total_none : (w : Edge → ℕ) (cs : List Unread) → All (λ c. c.edges ≡ []) cs → total (λ c. total w c.edges) cs ≡ 0
total_none w [] h = refl
total_none w (c ∷ cs) h =
    let rest = total_none w cs (All-tail (λ x. x.edges ≡ []) c cs h) in
    let here = ap (total w) (All-head (λ x. x.edges ≡ []) c cs h) in
    omega (arith, rest, here)

-- some batches are taken, and then some first part of one more
pub part_taken : (old s new : PoolsView) (n : ℕ) (own kinds : List CellKind) → s ≡ batches_taken n old kinds → own ≡ kinds → IsPartTaken s new own →
    AreBatchesTaken old new kinds
part_taken old s new n own kinds is same part = record { whole = n; part = subst (λ x. IsPartTaken x new kinds) is (subst (IsPartTaken s new) same part) }
