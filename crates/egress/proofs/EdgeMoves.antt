-- The moves of edges of which each is of a row of its own.
use Rattle.std.specs.Prelude.{◌≡◌, ℕ, ◌+◌, ◌-◌, ◌<◌, ◌≤◌, Bool, true, All, cond, List, [], ◌∷◌, ◌++◌, length, map, take, get_or, refl}
use Rattle.std.specs.List.{dedup}
use Rattle.std.specs.Ordering.{eq_by_cmp}
use Rattle.std.proofs.Common.{sym, ◌∙◌, ap, subst, arith}
use Rattle.std.proofs.lemmas.List.{get_or-map, length-map, map-append, take_all, take_more}
use Rattle.std.proofs.lemmas.List.Elements.{All-get_or, All-map}
use Rattle.tw_rows.specs.Cells.{ArePlaced, read_cells}
use Rattle.tw_rows.specs.Rows.{Row, row_cmp}
use Rattle.tw_rows.specs.declared.cells.Datum.{Datum}
use Rattle.tw_rows.specs.declared.edge.Edge.{Edge}
use Rattle.tw_rows.proofs.Bags.{total-map, total_same}
use Rattle.edge_history.specs.Opens.{bare, ended_of, started_of, ended_rows, started_rows}
use Rattle.edge_history.specs.Order.{failing}
use Rattle.edge_history.proofs.Sums.{failing-All}
use Rattle.plan_laws.specs.Places.{AreDistinct, EdgesArePlaced}
use Rattle.egress.specs.declared.moves.Moves.{Moves}
use Rattle.egress.specs.Kept.{ends_in, starts_in, moves_of, rows_of, KeepCells}
use Rattle.egress.proofs.Counted.{ended_by, started_by}
use Rattle.egress.proofs.Gathered.{same, rows_grow, rows_apart}
use Rattle.egress.proofs.Moving.{weigh_ended, weigh_started}
use Rattle.egress.proofs.Tallied.{ended_often, started_often}

-- an edge's own moves stand at its place
module _ (es : List Edge) (i : ℕ) (e : Edge) (low : i < length es) where
  pub single_low : i < length (map moves_of es)
  single_low = let n = length-map es moves_of in omega (arith, n, low)

  pub single_at : e ≡ get_or es i e → moves_of e ≡ get_or (map moves_of es) i (moves_of e)
  single_at is = ap moves_of is ∙ sym (get_or-map moves_of es i e (moves_of e) low)

pub singles_placed : (texts : List (List ℕ)) (es : List Edge) → EdgesArePlaced texts es → All (λ m. ArePlaced texts m.cells) (map moves_of es)
singles_placed texts es h = All-map (λ (m : Moves). ArePlaced texts m.cells) moves_of es h

pub singles_keep : (p : List Datum → Bool) (es : List Edge) → failing (λ e. p e.cells) es ≡ 0 → KeepCells p (map moves_of es)
singles_keep p es none = All-map (λ (m : Moves). p m.cells ≡ true) moves_of es ((failing-All (λ (e : Edge). p e.cells) es).0 none)

-- the moves of edges are as often as the edges tell
module _ (texts : List (List ℕ)) (r : Row) where
  abbrev often_of : Row → ℕ
  often_of x = cond (eq_by_cmp row_cmp r x) 1 0

  pub singles_ended : (es : List Edge) → ends_in texts (map moves_of es) r ≡ ended_often texts r es
  singles_ended es =
      total-map (λ (m : Moves). cond (eq_by_cmp row_cmp r (read_cells texts m.cells)) m.ends 0) moves_of es
      ∙ total_same _ _ es (λ e. sym (ended_by texts r e) ∙ total-map often_of (read_cells texts) (bare (ended_of e)))
      ∙ sym (weigh_ended (λ c. often_of (read_cells texts c)) es) ∙ sym (total-map often_of (read_cells texts) (bare (ended_rows es)))

  pub singles_started : (es : List Edge) → starts_in texts (map moves_of es) r ≡ started_often texts r es
  singles_started es =
      total-map (λ (m : Moves). cond (eq_by_cmp row_cmp r (read_cells texts m.cells)) m.starts 0) moves_of es
      ∙ total_same _ _ es (λ e. sym (started_by texts r e) ∙ total-map often_of (read_cells texts) (bare (started_of e)))
      ∙ sym (weigh_started (λ c. often_of (read_cells texts c)) es) ∙ sym (total-map often_of (read_cells texts) (bare (started_rows es)))

-- the rows of edges
abbrev pub rows_in : List (List ℕ) → List Edge → List Row
rows_in texts es = map (λ e. read_cells texts e.cells) es

pub singles_rows : (texts : List (List ℕ)) (es : List Edge) → rows_of texts (map moves_of es) ≡ rows_in texts es
singles_rows texts [] = refl
singles_rows texts (e ∷ es) = ap (λ l. read_cells texts e.cells ∷ l) (singles_rows texts es)

-- the rows so far stand once each
abbrev pub StandOnce : List Edge → Type 0
StandOnce es = (texts : List (List ℕ)) → AreDistinct texts → EdgesArePlaced texts es → dedup same (rows_in texts es) ≡ rows_in texts es

abbrev pub StandOnceTo : List Edge → ℕ → Type 0
StandOnceTo es i = (texts : List (List ℕ)) → AreDistinct texts → EdgesArePlaced texts es → dedup same (rows_in texts (take i es)) ≡ rows_in texts (take i es)

pub single_first : (es : List Edge) → StandOnceTo es 1
single_first [] texts distinct placed = refl
single_first (e ∷ es) texts distinct placed = refl

pub single_last : (es : List Edge) (i : ℕ) → length es ≤ i → StandOnceTo es i → StandOnce es
single_last es i high h texts distinct placed =
    let all = take_all i es high in
    subst (λ l. dedup same (rows_in texts l) ≡ rows_in texts l) all (h texts distinct placed)

pub single_next : (es : List Edge) (i : ℕ) (a b : Edge) → 1 ≤ i → i < length es → a ≡ get_or es (i - 1) a → b ≡ get_or es i b → (a.cells ≡ b.cells → ⊥) → StandOnceTo es i → StandOnceTo es (i + 1)
single_next es i a b one low is_a is_b apart h texts distinct placed =
    let f = λ (e : Edge). read_cells texts e.cells in
    let low_a : i - 1 < length es = omega (arith, one, low) in
    let back : i - 1 + 1 ≡ i = omega (arith, one) in
    let now : take (i + 1) es ≡ take i es ++ b ∷ [] = take_more es i b low ∙ ap (λ e. take i es ++ e ∷ []) (sym is_b) in
    let old : take i es ≡ take (i - 1) es ++ a ∷ [] = ap (λ n. take n es) (sym back) ∙ take_more es (i - 1) a low_a ∙ ap (λ e. take (i - 1) es ++ e ∷ []) (sym is_a) in
    let rows_now : rows_in texts (take (i + 1) es) ≡ rows_in texts (take i es) ++ f b ∷ [] = ap (rows_in texts) now ∙ map-append f (take i es) (b ∷ []) in
    let rows_old : rows_in texts (take i es) ≡ rows_in texts (take (i - 1) es) ++ f a ∷ [] = ap (rows_in texts) old ∙ map-append f (take (i - 1) es) (a ∷ []) in
    let own_a = subst (λ (e : Edge). ArePlaced texts e.cells) (sym is_a) (All-get_or (λ (e : Edge). ArePlaced texts e.cells) es (i - 1) a low_a placed) in
    let own_b = subst (λ (e : Edge). ArePlaced texts e.cells) (sym is_b) (All-get_or (λ (e : Edge). ArePlaced texts e.cells) es i b low placed) in
    let grown = rows_grow (rows_in texts (take i es)) (rows_in texts (take (i - 1) es)) (f a) (f b) (sym rows_old ∙ sym (h texts distinct placed)) (rows_apart texts distinct a.cells b.cells own_a own_b apart) in
    ap (dedup same) rows_now ∙ sym grown ∙ ap (λ l. l ++ f b ∷ []) (sym rows_old) ∙ sym rows_now
