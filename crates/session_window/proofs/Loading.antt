-- What is put in where nothing was.
use Rattle.std.specs.Prelude.{◌≡◌, ℕ, ◌+◌, List, [], refl}
use Rattle.std.proofs.Common.{sym, ap, subst, arith}
use Rattle.tw_rows.specs.Bag.{SameBag, total}
use Rattle.tw_rows.specs.declared.edge.HeldRow.{HeldRow}
use Rattle.edge_history.specs.Order.{failing}
use Rattle.end_queue.specs.Pending.{Pending}
use Rattle.session_window.specs.Kept.{HasOne, is_placed_at}

none_yet : (columns : List ℕ) → HasOne columns [] []
none_yet columns k = refl

pub none_one : (columns : List ℕ) (rows : List HeldRow) (ends : List Pending) → rows ≡ [] → ends ≡ [] → HasOne columns rows ends
none_one columns rows ends e f = subst (λ (l : List HeldRow). HasOne columns l ends) (sym e) (subst (λ (l : List Pending). HasOne columns [] l) (sym f) (none_yet columns))

pub none_placed : (t : ℕ) (ends : List Pending) → ends ≡ [] → failing (is_placed_at t) ends ≡ 0
none_placed t ends e = ap (λ (l : List Pending). failing (is_placed_at t) l) e

pub rows_same : (rows2 rows0 rows : List HeldRow) → rows0 ≡ [] → ((w : HeldRow → ℕ) → total w rows2 ≡ total w rows0 + total w rows) → SameBag rows2 rows
rows_same rows2 rows0 rows e h = record { weigh = λ w. (let a = h w in let b = ap (total w) e in omega (arith, a, b)) }
