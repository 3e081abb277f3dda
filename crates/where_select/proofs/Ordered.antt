-- The order of edges that pass a test, and of edges that are projected.
use Rattle.std.proofs.Common.{◌≡◌, ℕ, ◌+◌, ◌*◌, ◌<◌, ◌≤◌, Bool, true, false, cond, List, [], ◌∷◌, map, ap, ap₂, sym, ◌∙◌, subst, arith}
use Rattle.std.specs.Prelude.{All, filter, nat_lt}
use Rattle.std.proofs.lemmas.List.Elements.{All-nil, All-cons, All-head, All-tail, All-filter}
use Rattle.tw_rows.specs.Instant.{inf}
use Rattle.tw_rows.specs.declared.edge.Edge.{Edge}
use Rattle.plan_model.specs.declared.expr.ExprNode.{ExprNode}
use Rattle.edge_history.specs.Order.{rank, Rises, IsReal, KeepsOrder}
use Rattle.edge_history.proofs.Rising.{Rises-less}
use Rattle.where_select.specs.Projects.{Read, read_edge, projected_edge}

filter_rises : (passes : Edge → Bool) (r : ℕ) (es : List Edge) → Rises r es → Rises r (filter passes es)
filter_rises passes r [] h = tt
filter_rises passes r (e ∷ es) h =
    elim (passes e) as (λ b. Rises r (cond b (e ∷ filter passes es) (filter passes es))) [
      | true ↦ (h.0, filter_rises passes (rank e) es h.1)
      | false ↦ Rises-less (rank e) r (filter passes es) h.0 (filter_rises passes (rank e) es h.1)
    ]

pub filter_keeps : (passes : Edge → Bool) (es : List Edge) → KeepsOrder es → KeepsOrder (filter passes es)
filter_keeps passes es h = record { rises = filter_rises passes 0 es h.rises; real = All-filter passes IsReal es h.real }

heads : {X : Type 0} (x y : X) (xs ys : List X) → x ∷ xs ≡ y ∷ ys → x ≡ y
heads x y xs ys e = cc

tails : {X : Type 0} (x y : X) (xs ys : List X) → x ∷ xs ≡ y ∷ ys → xs ≡ ys
tails x y xs ys e = cc

module _ (texts : List (List ℕ)) (exprs : List (List ExprNode)) where
  same_rank : (n e : Edge) → read_edge texts n ≡ projected_edge texts exprs e → rank n ≡ rank e
  same_rank n e h = ap₂ (λ s o. 2 * s + cond (nat_lt o s) 0 1) (ap (λ (r : Read). r.sync) h) (ap (λ (r : Read). r.other) h)

  same_real : (n e : Edge) → read_edge texts n ≡ projected_edge texts exprs e → IsReal e → IsReal n
  same_real n e h real =
      let sync : n.sync ≡ e.sync = ap (λ (r : Read). r.sync) h in
      let other : n.other ≡ e.other = ap (λ (r : Read). r.other) h in
      record {
        instant = subst (λ s. s < inf) (sym sync) real.instant;
        bounded = subst (λ s. s ≤ inf) (sym other) real.bounded;
        apart = λ same. real.apart (sym other ∙ same ∙ sync);
      }

  projection_rises : (r : ℕ) (old new : List Edge) → map (read_edge texts) new ≡ map (projected_edge texts exprs) old → Rises r old → Rises r new
  projection_rises r old [] h rises = tt
  projection_rises r [] (n ∷ ns) h rises = absurd (cc)
  projection_rises r (e ∷ es) (n ∷ ns) h rises =
      let one = same_rank n e (heads _ _ _ _ h) in
      (subst (λ k. r ≤ k) (sym one) rises.0, subst (λ k. Rises k ns) (sym one) (projection_rises (rank e) es ns (tails _ _ _ _ h) rises.1))

  projection_real : (old new : List Edge) → map (read_edge texts) new ≡ map (projected_edge texts exprs) old → All IsReal old → All IsReal new
  projection_real old [] h real = All-nil IsReal
  projection_real [] (n ∷ ns) h real = absurd (cc)
  projection_real (e ∷ es) (n ∷ ns) h real =
      All-cons IsReal n ns (same_real n e (heads _ _ _ _ h) (All-head IsReal e es real)) (projection_real es ns (tails _ _ _ _ h) (All-tail IsReal e es real))

  pub projection_keeps : (old new : List Edge) → map (read_edge texts) new ≡ map (projected_edge texts exprs) old → KeepsOrder old → KeepsOrder new
  projection_keeps old new h order = record { rises = projection_rises 0 old new h order.rises; real = projection_real old new h order.real }
