-- An instant with one edge touches one row.
use Rattle.std.specs.Prelude.{◌≡◌, ℕ, suc, ◌+◌, ◌-◌, ◌||◌, Bool, true, false, cond, List, [], ◌∷◌, ◌++◌, take, drop, map, replicate, length, refl}
use Rattle.std.specs.List.Sorted.{IsStrictlySortedBy}
use Rattle.std.specs.Ordering.{eq_by_cmp}
use Rattle.std.specs.declared.collections.VecDeque.{VecDeque}
use Rattle.indexmap.specs.IndexMap.{IndexMap}
use Rattle.std.proofs.Common.{sym, ◌∙◌, ap, arith, get_or}
use Rattle.std.proofs.lemmas.List.{append-nil}
use Rattle.tw_rows.specs.Event.{AreEvents, alive}
use Rattle.tw_rows.specs.Rows.{Row, row_cmp}
use Rattle.tw_rows.specs.Cells.{ArePlaced, read_cells}
use Rattle.tw_rows.specs.SameCells.{same_cells}
use Rattle.tw_rows.specs.declared.cells.Datum.{Datum}
use Rattle.tw_rows.specs.declared.kind.Kind.{Kind}
use Rattle.tw_rows.specs.declared.edge.Edge.{Edge}
use Rattle.edge_history.specs.History.{CellEvent}
use Rattle.edge_history.specs.Balance.{news}
use Rattle.edge_history.specs.Order.{is_end}
use Rattle.edge_history.specs.Opens.{bare, ended_of, started_of}
use Rattle.plan_laws.specs.Places.{read_events, AreDistinct}
use Rattle.plan_model.specs.Opens.{how_often}
use Rattle.plan_model.specs.Changes.{Started, Ended, changes_at}
use Rattle.plan_model.proofs.InOrder.{row_itself}
use Rattle.egress.specs.Instants.{instant_lines, AreMoves, AreOpen, AreTouched}
use Rattle.synopsis.specs.Kept.{since_at}
use Rattle.egress.specs.Kept.{since_in}
use Rattle.egress.specs.Print.{print}
use Rattle.egress.specs.Waiting.{SameMoves}
use Rattle.egress.proofs.Counted.{either_way}
use Rattle.egress.proofs.Moving.{edges_move}
use Rattle.egress.proofs.Reading.{stands_itself, since_set, since_own}
use Rattle.egress.proofs.Tallied.{end_ends, end_starts, start_ends, start_starts}
use Rattle.egress.proofs.Touched.{lines_are, open_then}

often_self : (k : Row) → how_often k (k ∷ []) ≡ 1
often_self k = ap (λ b. cond {A = ℕ} b 1 0 + 0) (row_itself k)

often_other : (k r : Row) (b : Bool) → eq_by_cmp row_cmp k r ≡ b → how_often r (k ∷ []) ≡ cond {A = ℕ} b 1 0 + 0
often_other k r b e = ap (λ c. cond {A = ℕ} c 1 0 + 0) (either_way r k ∙ e)

one_touched : (k : Row) (ends starts : Row → ℕ) → ((r : Row) → how_often r (k ∷ []) ≡ 0 → ends r ≡ starts r) → AreTouched ends starts (k ∷ [])
unfolding IsStrictlySortedBy
one_touched k ends starts h = record {
  order = (tt, tt);
  others = λ r e. h r (none (eq_by_cmp row_cmp r k) e);
}
  where
    none : (b : Bool) → (b || false) ≡ false → cond {A = ℕ} b 1 0 + 0 ≡ 0
    none true e = absurd (cc)
    none false e = refl

-- an instant at which one row ends once, or starts once
module _ (rows : ℕ → List Row) (at : ℕ) (k : Row) (since : Row → List ℕ) (opened : AreOpen rows at since) where
  module _ (moves : AreMoves rows at (λ r. how_often r (k ∷ [])) (λ r. 0)) where
    pub one_ended : changes_at rows at ≡ map (λ s. Ended at s k) (take 1 (since k))
    unfolding instant_lines
    one_ended =
        lines_are rows at (λ r. how_often r (k ∷ [])) (λ r. 0) moves since opened (k ∷ []) (one_touched k (λ r. how_often r (k ∷ [])) (λ r. 0) (λ r e. e))
        ∙ ap (λ n. (map (λ s. Ended at s k) (take (n - 0) (since k)) ++ []) ++ (replicate (0 - n) (Started at k) ++ [])) (often_self k)
        ∙ append-nil (map (λ s. Ended at s k) (take 1 (since k)) ++ []) ∙ append-nil (map (λ s. Ended at s k) (take 1 (since k)))

    pub ended_open : (since2 : Row → List ℕ) → ((r : Row) → since2 r ≡ cond (eq_by_cmp row_cmp k r) (drop 1 (since r)) (since r)) → AreOpen rows (suc at) since2
    ended_open since2 set r = set r ∙ pick (eq_by_cmp row_cmp k r) refl ∙ open_then rows at (λ q. how_often q (k ∷ [])) (λ q. 0) moves since opened r
      where
        pick : (b : Bool) → eq_by_cmp row_cmp k r ≡ b → cond b (drop 1 (since r)) (since r) ≡ drop (how_often r (k ∷ []) - 0) (since r) ++ replicate (0 - how_often r (k ∷ [])) at
        pick true e = sym (append-nil (drop 1 (since r))) ∙ ap (λ n. drop (n - 0) (since r) ++ replicate (0 - n) at) (sym (often_other k r true e))
        pick false e = sym (append-nil (since r)) ∙ ap (λ n. drop (n - 0) (since r) ++ replicate (0 - n) at) (sym (often_other k r false e))

  module _ (moves : AreMoves rows at (λ r. 0) (λ r. how_often r (k ∷ []))) where
    pub one_started : changes_at rows at ≡ replicate 1 (Started at k)
    unfolding instant_lines
    one_started =
        lines_are rows at (λ r. 0) (λ r. how_often r (k ∷ [])) moves since opened (k ∷ []) (one_touched k (λ r. 0) (λ r. how_often r (k ∷ [])) (λ r e. sym e))
        ∙ ap (λ n. (map (λ s. Ended at s k) (take (0 - n) (since k)) ++ []) ++ (replicate (n - 0) (Started at k) ++ [])) (often_self k)

    pub started_open : (since2 : Row → List ℕ) → ((r : Row) → since2 r ≡ cond (eq_by_cmp row_cmp k r) (since r ++ replicate 1 at) (since r)) → AreOpen rows (suc at) since2
    started_open since2 set r = set r ∙ pick (eq_by_cmp row_cmp k r) refl ∙ open_then rows at (λ q. 0) (λ q. how_often q (k ∷ [])) moves since opened r
      where
        pick : (b : Bool) → eq_by_cmp row_cmp k r ≡ b → cond b (since r ++ replicate 1 at) (since r) ≡ drop (0 - how_often r (k ∷ [])) (since r) ++ replicate (how_often r (k ∷ []) - 0) at
        pick true e = ap (λ n. drop (0 - n) (since r) ++ replicate (n - 0) at) (sym (often_other k r true e))
        pick false e = sym (append-nil (since r)) ∙ ap (λ n. drop (0 - n) (since r) ++ replicate (n - 0) at) (sym (often_other k r false e))

-- the edge of an instant with one ends its row or starts it
module _ (texts : List (List ℕ)) (events : List CellEvent) (valid : AreEvents events) (at : ℕ) (e : Edge) (same : SameMoves (e ∷ []) (news at (suc at) events)) where
  pub end_moves : is_end e ≡ true → AreMoves (alive (read_events texts events)) at (λ r. how_often r (read_cells texts e.cells ∷ [])) (λ r. 0)
  end_moves h r =
      let m = edges_move texts events at (e ∷ []) valid same r in
      let a = ap (λ l. how_often r (map (read_cells texts) (bare l))) (append-nil (ended_of e)) ∙ end_ends texts r e h in
      let b = ap (λ l. how_often r (map (read_cells texts) (bare l))) (append-nil (started_of e)) ∙ end_starts texts r e h in
      omega (arith, m, a, b)

  pub start_moves : is_end e ≡ false → AreMoves (alive (read_events texts events)) at (λ r. 0) (λ r. how_often r (read_cells texts e.cells ∷ []))
  start_moves h r =
      let m = edges_move texts events at (e ∷ []) valid same r in
      let a = ap (λ l. how_often r (map (read_cells texts) (bare l))) (append-nil (ended_of e)) ∙ start_ends texts r e h in
      let b = ap (λ l. how_often r (map (read_cells texts) (bare l))) (append-nil (started_of e)) ∙ start_starts texts r e h in
      omega (arith, m, a, b)

-- the line of that edge, and what is open after it, by the cells of its row
module _ (texts : List (List ℕ)) (apart : AreDistinct texts) (events : List CellEvent) (valid : AreEvents events) (at : ℕ) (e : Edge)
    (placed : ArePlaced texts e.cells) (same : SameMoves (e ∷ []) (news at (suc at) events)) where
  abbrev rows : ℕ → List Row
  rows = alive (read_events texts events)

  abbrev own : Row
  own = read_cells texts e.cells

  module _ {S H : Type 0} (m n : IndexMap (List Datum) (VecDeque ℕ S) H) (opened : AreOpen rows at (since_in texts m)) where
    own_starts : since_at m e.cells ≡ since_in texts m own
    own_starts = since_own texts apart own e.cells (stands_itself texts e.cells placed) m n

    pub end_line : is_end e ≡ true → (kinds : List Kind) (before after : List ℕ) →
        after ≡ before ++ print kinds (map (λ s. Ended at s own) (take 1 (since_at m e.cells))) → after ≡ before ++ print kinds (changes_at rows at)
    end_line ended kinds before after is =
        is ∙ ap (λ l. before ++ print kinds (map (λ s. Ended at s own) (take 1 l))) own_starts
        ∙ ap (λ l. before ++ print kinds l) (sym (one_ended rows at own (since_in texts m) opened (end_moves texts events valid at e same ended)))

    pub end_open : is_end e ≡ true → ((c : List Datum) → since_at n c ≡ cond (same_cells e.cells c) (drop 1 (since_at m c)) (since_at m c)) →
        AreOpen rows (suc at) (since_in texts n)
    end_open ended set =
        ended_open rows at own (since_in texts m) opened (end_moves texts events valid at e same ended) (since_in texts n)
        (since_set texts apart own e.cells (stands_itself texts e.cells placed) m n (drop 1) set)

    pub start_line : is_end e ≡ false → (kinds : List Kind) (before after : List ℕ) →
        after ≡ before ++ print kinds (replicate 1 (Started at own)) → after ≡ before ++ print kinds (changes_at rows at)
    start_line starts kinds before after is =
        is ∙ ap (λ l. before ++ print kinds l) (sym (one_started rows at own (since_in texts m) opened (start_moves texts events valid at e same starts)))

    pub start_open : is_end e ≡ false →
        ((c : List Datum) → since_at n c ≡ cond (same_cells e.cells c) (since_at m c ++ replicate 1 at) (since_at m c)) → AreOpen rows (suc at) (since_in texts n)
    start_open starts set =
        started_open rows at own (since_in texts m) opened (start_moves texts events valid at e same starts) (since_in texts n)
        (since_set texts apart own e.cells (stands_itself texts e.cells placed) m n (λ l. l ++ replicate 1 at) set)

-- a list of one element
pub only : {X : Type 0} (xs : List X) (x : X) → length xs ≡ 1 → x ≡ get_or xs 0 x → xs ≡ x ∷ []
only [] x one is = absurd (omega (arith, one))
only (y ∷ []) x one is = ap (λ z. z ∷ []) (sym is)
only (y ∷ z ∷ rest) x one is = absurd (omega (arith, one))
