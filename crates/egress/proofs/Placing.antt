-- Places in the edges that wait.
use Rattle.std.specs.Prelude.{ℕ, nat_eq, ◌||◌, Bool, true, false, cond, None, List, [], ◌∷◌, All}
use Rattle.std.proofs.Common.{sym, subst}
use Rattle.std.proofs.lemmas.List.Elements.{All-nil, All-cons, All-head, All-tail, All-append, All-filter}
use Rattle.tw_rows.specs.Instant.{inf}
use Rattle.tw_rows.specs.Cells.{ArePlaced}
use Rattle.tw_rows.specs.declared.edge.Edge.{Edge}
use Rattle.edge_history.specs.Order.{is_end}
use Rattle.edge_history.specs.Balance.{given, start_edge, end_edge}
use Rattle.edge_history.specs.Opens.{singles_of, singles}
use Rattle.plan_laws.specs.Places.{EdgesArePlaced}
use Rattle.egress.specs.Waiting.{Waiting, edges_if, edges_at, ArePut, ArePopped, WaitingArePlaced}

module _ (texts : List (List ℕ)) where
  abbrev placed : Edge → Type 0
  placed e = ArePlaced texts e.cells

  one_placed : (e : Edge) → placed e → All placed (singles_of e)
  one_placed e p = pick (is_end e || nat_eq e.other inf)
    where
      pick : (b : Bool) → All placed (cond b (e ∷ []) (start_edge (given e) ∷ end_edge (given e) ∷ []))
      pick true = All-cons placed e [] p (All-nil placed)
      pick false = All-cons placed (start_edge (given e)) (end_edge (given e) ∷ []) p (All-cons placed (end_edge (given e)) [] p (All-nil placed))

  singles_placed : (h : List Edge) → EdgesArePlaced texts h → EdgesArePlaced texts (singles h)
  singles_placed [] p = All-nil placed
  singles_placed (e ∷ es) p = All-append placed (singles_of e) (singles es) (one_placed e (All-head placed e es p)) (singles_placed es (All-tail placed e es p))

  pub put_placed : (old new : Waiting) (es : List Edge) → ArePut old new (singles es) → WaitingArePlaced texts old → EdgesArePlaced texts es → WaitingArePlaced texts new
  put_placed old new es put w p t =
      subst (EdgesArePlaced texts) (sym (put.edges t))
      (All-append placed (edges_if (old t)) (edges_at t (singles es)) (w t) (All-filter (λ x. nat_eq x.sync t) placed (singles es) (singles_placed es p)))

  module _ (old new : Waiting) (at : ℕ) (es : List Edge) (popped : ArePopped old new at es) (w : WaitingArePlaced texts old) where
    pub rest_placed : WaitingArePlaced texts new
    rest_placed t = subst (λ o. EdgesArePlaced texts (edges_if o)) (sym (popped.left t)) (pick (nat_eq at t))
      where
        pick : (b : Bool) → EdgesArePlaced texts (edges_if (cond b None (old t)))
        pick true = All-nil placed
        pick false = w t

    pub popped_placed : EdgesArePlaced texts es
    popped_placed = subst (λ o. EdgesArePlaced texts (edges_if o)) popped.there (w at)
