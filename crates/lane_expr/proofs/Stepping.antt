-- The data of the steps, one after another.
use Rattle.std.proofs.Common.{◌≡◌, ℕ, zero, suc, ◌+◌, ◌-◌, ◌<◌, ◌≤◌, List, [], ◌∷◌, ◌++◌, map, take, length, get_or, pos, refl, ap, sym, ◌∙◌, arith, append-nil, append_assoc}
use Rattle.std.proofs.lemmas.List.{length-map, map-append, take_more, take_all}
use Rattle.tw_rows.specs.declared.cells.Datum.{Datum}
use Rattle.tw_rows.specs.declared.cells.Datum.TheVariants.{Int as IntDatum}
use Rattle.tw_rows.specs.declared.row.Value.{Value}
use Rattle.tw_rows.specs.declared.kind.CellKind.{CellKind}
use Rattle.tw_rows.specs.Cells.{datum_kind, read_datum, read_cells, IsPlaced, ArePlaced}
use Rattle.plan_model.specs.Fold.{results_from, by_number}
use Rattle.plan_model.specs.Expr.{node_value, zero_value, value}
use Rattle.lane_expr.specs.declared.step.Step.{Step}
use Rattle.lane_expr.specs.Steps.{node_of, expr_of, step_kind}
use Rattle.lane_expr.specs.Running.{operand}
use Rattle.lane_expr.proofs.Typing.{length-expr_of}

pub ArePlaced-at : (texts : List (List ℕ)) (ds : List Datum) (i : ℕ) (d : Datum) → ArePlaced texts ds → i < length ds → IsPlaced texts (get_or ds i d)
ArePlaced-at texts [] i d h lt = absurd (omega arith)
ArePlaced-at texts (x ∷ ds) zero d h lt = h.0
ArePlaced-at texts (x ∷ ds) (suc i) d h lt = ArePlaced-at texts ds i d h.1 (omega arith)

-- a cell, or the int 0 where there is none, is placed
pub ArePlaced-or_zero : (texts : List (List ℕ)) (ds : List Datum) (i : ℕ) → ArePlaced texts ds → IsPlaced texts (get_or ds i (IntDatum (pos 0)))
ArePlaced-or_zero texts [] i h = tt
ArePlaced-or_zero texts (x ∷ ds) zero h = h.0
ArePlaced-or_zero texts (x ∷ ds) (suc i) h = ArePlaced-or_zero texts ds i h.1

pub ArePlaced-push : (texts : List (List ℕ)) (ds : List Datum) (d : Datum) → ArePlaced texts ds → IsPlaced texts d → ArePlaced texts (ds ++ d ∷ [])
ArePlaced-push texts [] d h p = (p, tt)
ArePlaced-push texts (x ∷ ds) d h p = (h.0, ArePlaced-push texts ds d h.1 p)

-- the value of a datum, or of the int 0 where there is none
pub read-get_or : (texts : List (List ℕ)) (ds : List Datum) (i : ℕ) → get_or (map (read_datum texts) ds) i zero_value ≡ read_datum texts (get_or ds i (IntDatum (pos 0)))
read-get_or texts [] i = refl
read-get_or texts (x ∷ ds) zero = refl
read-get_or texts (x ∷ ds) (suc i) = read-get_or texts ds i

-- the results of one node more
results_from-push : {N R : Type 0} (step : N → List R → R) (done : List R) (ns : List N) (n : N) → results_from step done (ns ++ n ∷ []) ≡ results_from step done ns ++ step n (done ++ results_from step done ns) ∷ []
results_from-push step done [] n = ap (λ l. step n l ∷ []) (sym (append-nil done))
results_from-push step done (m ∷ ns) n =
    ap (λ l. step m done ∷ l) (results_from-push step (done ++ step m done ∷ []) ns n
    ∙ ap (λ l. results_from step (done ++ step m done ∷ []) ns ++ step n l ∷ []) (append_assoc done (step m done ∷ []) (results_from step (done ++ step m done ∷ []) ns)))

-- the values of the nodes that steps stand for, on a row of cells
abbrev pub values_of : List (List ℕ) → List Datum → List Step → List Value
values_of texts cells ss = results_from (by_number zero_value (node_value (read_cells texts cells))) [] (expr_of texts ss)

-- what the data of the first k steps are
pub record Stands (texts : List (List ℕ)) (columns : List CellKind) (cells : List Datum) (ss : List Step) (k : ℕ) (done : List Datum) : Type 0 where
  pub values : map (read_datum texts) done ≡ values_of texts cells (take k ss)
  pub kinds : map datum_kind done ≡ map (step_kind columns) (take k ss)
  pub placed : ArePlaced texts done

module _ (texts : List (List ℕ)) (columns : List CellKind) (cells : List Datum) (ss : List Step) where
  pub Stands-none : (done : List Datum) → done ≡ [] → Stands texts columns cells ss 0 done
  Stands-none done e = rw e (record { values = refl; kinds = refl; placed = tt })

  module _ (k : ℕ) (done : List Datum) (stands : Stands texts columns cells ss k done) (lt : k < length ss) (d : Step) where
    more : take (k + 1) ss ≡ take k ss ++ get_or ss k d ∷ []
    more = take_more ss k d lt

    pub Stands-next : (x : Datum) → read_datum texts x ≡ node_value (read_cells texts cells) (node_of texts (get_or ss k d)) (operand texts done) → datum_kind x ≡ step_kind columns (get_or ss k d) → IsPlaced texts x
        → Stands texts columns cells ss (k + 1) (done ++ x ∷ [])
    Stands-next x value_is kind_is placed_is =
        let step = by_number zero_value (node_value (read_cells texts cells)) in
        let s = get_or ss k d in
        record {
          values = map-append (read_datum texts) done (x ∷ [])
              ∙ ap (λ v. map (read_datum texts) done ++ v ∷ []) value_is
              ∙ ap (λ vs. vs ++ step (node_of texts s) vs ∷ []) stands.values
              ∙ sym (results_from-push step [] (expr_of texts (take k ss)) (node_of texts s))
              ∙ ap (results_from step []) (sym (map-append (node_of texts) (take k ss) (s ∷ [])))
              ∙ ap (values_of texts cells) (sym more);
          kinds = map-append datum_kind done (x ∷ [])
              ∙ ap (λ v. map datum_kind done ++ v ∷ []) kind_is
              ∙ ap (λ vs. vs ++ step_kind columns s ∷ []) stands.kinds
              ∙ sym (map-append (step_kind columns) (take k ss) (s ∷ []))
              ∙ ap (map (step_kind columns)) (sym more);
          placed = ArePlaced-push texts done x stands.placed placed_is;
        }

  module _ (k : ℕ) (done : List Datum) (stands : Stands texts columns cells ss k done) where
    pub length-Stands : length done ≡ length (take k ss)
    length-Stands = sym (length-map done datum_kind) ∙ ap length stands.kinds ∙ length-map (take k ss) (step_kind columns)

    -- the last datum
    module _ (past : length ss ≤ k) (some : 0 < length ss) where
      abbrev last : Datum
      last = get_or done (length ss - 1) (IntDatum (pos 0))

      pub Stands-value : read_datum texts last ≡ value (expr_of texts ss) (read_cells texts cells)
      Stands-value =
          sym (read-get_or texts done (length ss - 1))
          ∙ ap (λ vs. get_or vs (length ss - 1) zero_value) (stands.values ∙ ap (values_of texts cells) (take_all k ss past))
          ∙ ap (λ n. get_or (values_of texts cells ss) (n - 1) zero_value) (sym (length-expr_of texts ss))

      pub Stands-placed : IsPlaced texts last
      Stands-placed = ArePlaced-or_zero texts done (length ss - 1) stands.placed
