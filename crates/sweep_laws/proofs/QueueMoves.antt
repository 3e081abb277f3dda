-- What moves the rows of a Coalesce and of a Top.
use Rattle.std.specs.Prelude.{◌≡◌, ℕ, zero, suc, ◌+◌, ℤ, Bool, cond, List, [], ◌∷◌, ◌++◌, refl}
use Rattle.std.proofs.Common.{sym, ◌∙◌, ap, arith}
use Rattle.std.proofs.lemmas.Bool.Decides.{nat_tests}
use Rattle.tw_rows.specs.Bag.{total, SameBag}
use Rattle.tw_rows.specs.Event.{alive}
use Rattle.tw_rows.specs.declared.edge.Edge.{Edge}
use Rattle.tw_rows.specs.declared.edge.HeldRow.{HeldRow}
use Rattle.tw_rows.proofs.Bags.{total-map, SameBag-trans, SameBag-sym, SameBag-map, SameBag-flat_map, SameBag-refl}
use Rattle.edge_history.specs.History.{CellEvent}
use Rattle.edge_history.specs.Opens.{open_of, opens, bare, ended_of, started_of, ended_rows, started_rows}
use Rattle.edge_history.specs.Balance.{news}
use Rattle.edge_history.specs.Order.{failing}
use Rattle.edge_history.proofs.Opening.{opens_step, alive_is_open}
use Rattle.edge_history.proofs.Telling.{is_event}
use Rattle.key_nodes.specs.Coalesced.{how_often, rows_before}
use Rattle.key_nodes.specs.Tops.{top_rows}
use Rattle.key_nodes.proofs.Topping.{top_rows_same}
use Rattle.sweep_laws.specs.Queues.{Cells, AreMoves}

-- just before the first instant nothing is open
none_open : (a : List CellEvent) → opens 0 a ≡ []
none_open [] = refl
none_open (e ∷ a) = ap (λ l. l ++ opens 0 a) (none e.start e.end) ∙ none_open a
  where
    none : (s n : ℕ) → open_of 0 (record { row = e.row; start = s; end = n }) ≡ []
    none s n = grind (arith, nat_tests)

-- the rows that are open just before an instant are those that were alive at the one before
before_is : (a : List CellEvent) (t : ℕ) → SameBag (rows_before (alive a) t) (bare (opens t a))
before_is a zero = record { weigh = λ w. sym (ap (λ l. total w (bare l)) (none_open a)) }
before_is a (suc t) = alive_is_open t a

module _ (same : Cells → Cells → Bool) where
  abbrev times : Cells → List Cells → ℕ
  times r xs = how_often same r xs

  -- a Coalesce is moved by the edges of its child as they come
  pub edges_move : (a : List CellEvent) (t : ℕ) (now : List Edge) → failing is_event a ≡ 0 → SameBag now (news t (suc t) a) →
      AreMoves same (alive a) t (λ r. times r (bare (ended_rows now))) (λ r. times r (bare (started_rows now)))
  edges_move a t now valid is = λ r.
      let v : Cells → ℕ = λ x. cond {A = ℕ} (same r x) 1 0 in
      let w : HeldRow → ℕ = λ x. v x.cells in
      let s = opens_step w t (suc t) a (omega arith) valid in
      let x = (alive_is_open t a).weigh v ∙ total-map v (λ (y : HeldRow). y.cells) (opens (suc t) a) in
      let y = (before_is a t).weigh v ∙ total-map v (λ (y : HeldRow). y.cells) (opens t a) in
      let e = total-map v (λ (y : HeldRow). y.cells) (ended_rows now) ∙ (SameBag-flat_map ended_of ended_of now (news t (suc t) a) is (λ z. SameBag-refl (ended_of z))).weigh w in
      let b = total-map v (λ (y : HeldRow). y.cells) (started_rows now) ∙ (SameBag-flat_map started_of started_of now (news t (suc t) a) is (λ z. SameBag-refl (started_of z))).weigh w in
      omega (arith, s, x, y, e, b)

  -- a Top by what its keys lost and won
  module _ (meets : Cells → Cells → Bool) (value : Cells → ℤ) (count : ℕ) (a : List CellEvent) where
    abbrev shows : ℕ → List Cells
    shows t = top_rows meets value count (alive a t)

    shown_before : (t : ℕ) (rows : List HeldRow) → SameBag rows (opens t a) → SameBag (rows_before shows t) (top_rows meets value count (bare rows))
    shown_before zero rows is =
        let e : SameBag (bare rows) [] = SameBag-trans _ _ _ (SameBag-map (λ r. r.cells) rows (opens 0 a) is) (SameBag-sym _ _ (before_is a 0)) in
        SameBag-sym _ _ (top_rows_same meets value count (bare rows) [] e)
    shown_before (suc t) rows is =
        top_rows_same meets value count (alive a t) (bare rows) (SameBag-trans _ _ _ (alive_is_open t a) (SameBag-sym _ _ (SameBag-map (λ r. r.cells) rows (opens (suc t) a) is)))

    pub shown_move : (t : ℕ) (rows0 rows1 : List HeldRow) → SameBag rows0 (opens t a) → SameBag rows1 (opens (suc t) a) → (shown0 shown1 lost won : List Cells) →
        SameBag shown0 (top_rows meets value count (bare rows0)) → SameBag shown1 (top_rows meets value count (bare rows1)) →
        ((w : Cells → ℕ) → total w shown1 + total w lost ≡ total w shown0 + total w won) →
        AreMoves same shows t (λ r. times r lost) (λ r. times r won)
    shown_move t rows0 rows1 h0 h1 shown0 shown1 lost won s0 s1 moved = λ r.
        let v : Cells → ℕ = λ x. cond {A = ℕ} (same r x) 1 0 in
        let m = moved v in
        let x = s0.weigh v in
        let y = s1.weigh v in
        let p = (shown_before t rows0 h0).weigh v in
        let q = (shown_before (suc t) rows1 h1).weigh v in
        omega (arith, m, x, y, p, q)
