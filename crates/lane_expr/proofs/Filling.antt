-- The registers of constants.
use Rattle.std.proofs.Common.{◌≡◌, ℕ, zero, suc, ◌<◌, List, [], ◌∷◌, ◌++◌, length, refl, ap, sym, ◌∙◌, subst, arith}
use Rattle.tw_rows.specs.declared.cells.Datum.{Datum}
use Rattle.tw_rows.specs.declared.cells.Datum.TheVariants.{Int, Bool as Flag, Text}
use Rattle.tw_rows.specs.declared.kind.CellKind.{CellKind}
use Rattle.tw_rows.specs.declared.row.Value.{Value}
use Rattle.tw_rows.specs.Cells.{datum_kind, read_datum, IsPlaced}
use Rattle.tw_rows.specs.Rows.{Row}
use Rattle.plan_model.specs.Expr.{node_value}
use Rattle.lane_expr.specs.declared.registers.Register.{Register}
use Rattle.lane_expr.specs.declared.step.Step.{Step}
use Rattle.lane_expr.specs.declared.step.Step.TheVariants.{Constant}
use Rattle.lane_expr.specs.Steps.{node_of, step_kind}
use Rattle.lane_expr.specs.Registers.{datum_of, datum_at, AreFilled}

-- a register more, which holds its constant if its step is one
pub filled_push : (ss : List Step) (rs : List Register) (s : Step) (r : Register) → length rs ≡ length ss → AreFilled ss rs → ((d : Datum) → s ≡ Constant d → (j : ℕ) → j < 64 → datum_at j r ≡ d) → AreFilled (ss ++ s ∷ []) (rs ++ r ∷ [])
filled_push [] [] s r long filled own zero j lt d e = own d e j lt
filled_push [] [] s r long filled own (suc i) j lt d e = absurd (cc)
filled_push [] (q ∷ rs) s r long filled own i j lt d e = absurd (omega (arith, long))
filled_push (t ∷ ss) [] s r long filled own i j lt d e = absurd (omega (arith, long))
filled_push (t ∷ ss) (q ∷ rs) s r long filled own zero j lt d e = filled zero j lt d e
filled_push (t ∷ ss) (q ∷ rs) s r long filled own (suc i) j lt d e = filled_push ss rs s r (omega (arith, long)) (λ k. filled (suc k)) own i j lt d e

pub constant_kind : (columns : List CellKind) (d : Datum) → datum_kind d ≡ step_kind columns (Constant d)
constant_kind columns (Int x) = refl
constant_kind columns (Flag x) = refl
constant_kind columns (Text x) = refl

module _ (texts : List (List ℕ)) (columns : List CellKind) (d : Datum) (r : Register) (j : ℕ) (kind : r.kind ≡ step_kind columns (Constant d)) (held : datum_at j r ≡ d) where
  is : datum_of (step_kind columns (Constant d)) r j ≡ d
  is = ap (λ k. datum_of k r j) (sym kind) ∙ held

  pub constant_value : (row : Row) (at : ℕ → Value) → read_datum texts (datum_of (step_kind columns (Constant d)) r j) ≡ node_value row (node_of texts (Constant d)) at
  constant_value row at = ap (read_datum texts) is ∙ of d
    where
      of : (x : Datum) → read_datum texts x ≡ node_value row (node_of texts (Constant x)) at
      of (Int x) = refl
      of (Flag x) = refl
      of (Text x) = refl

  pub constant_placed : IsPlaced texts d → IsPlaced texts (datum_of (step_kind columns (Constant d)) r j)
  constant_placed h = subst (IsPlaced texts) (sym is) h
