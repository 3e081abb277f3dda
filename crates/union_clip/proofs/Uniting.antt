-- A step of a Union.
use Rattle.std.specs.Prelude.{◌≡◌, ℕ, ◌≤◌, min, List, ◌++◌, filter}
use Rattle.tw_rows.specs.Instant.{inf}
use Rattle.tw_rows.specs.Bag.{SameBag}
use Rattle.tw_rows.specs.declared.edge.Edge.{Edge}
use Rattle.edge_history.specs.Order.{is_below, is_from, failing, KeepsOrder}
use Rattle.edge_stream.specs.Steps.{MayCome, ComeBetween}
use Rattle.plan_laws.specs.Uniting.{KeepsUnion}
use Rattle.plan_laws.proofs.Unions.{union_between, union_step}

-- both sides are parted at the lesser time, and what is below it is answered
module _ (x y u v d : ℕ) (left_carried right_carried l r left_all right_all left_due right_due answer : List Edge) (lesser : d ≡ min u v)
    (left_same : SameBag left_all (left_carried ++ l)) (right_same : SameBag right_all (right_carried ++ r))
    (ld : left_due ≡ filter (is_below d) left_all) (rd : right_due ≡ filter (is_below d) right_all) (both : SameBag answer (left_due ++ right_due)) where
  parts : SameBag answer (filter (is_below (min u v)) left_all ++ filter (is_below (min u v)) right_all)
  parts = rw (ld, rd, lesser) at both

  pub between : failing (is_from (min x y)) left_carried ≡ 0 → failing (is_from (min x y)) right_carried ≡ 0 → failing (is_from x) l ≡ 0 → failing (is_from y) r ≡ 0 →
      ComeBetween (min x y) (min u v) answer
  between left_late right_late come_left come_right =
      let b = union_between x y u v left_carried right_carried l r left_all right_all answer left_same right_same parts left_late right_late come_left come_right in
      record { from = b.0; below = b.1 }

  pub united : (texts : List (List ℕ)) (left right out left_rest right_rest : List Edge) → x ≤ u → u ≤ inf → y ≤ v → v ≤ inf →
      KeepsUnion texts x y left_carried right_carried left right out → MayCome texts x left l → MayCome texts y right r →
      left_rest ≡ filter (is_from d) left_all → right_rest ≡ filter (is_from d) right_all → KeepsOrder answer →
      KeepsUnion texts u v left_rest right_rest (left ++ l) (right ++ r) (out ++ answer)
  united texts left right out left_rest right_rest xu lu yv lv k ml mr lr rr order =
      rw (lr, rr, lesser) (union_step texts x y u v left_carried right_carried left right out l r left_all right_all answer xu lu yv lv k
      ml.history mr.history ml.placed mr.placed ml.from mr.from left_same right_same order parts)
