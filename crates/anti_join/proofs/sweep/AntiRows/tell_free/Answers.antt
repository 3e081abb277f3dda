use Rattle.std.specs.Prelude.{filter}
use Rattle.std.proofs.Common.{◌≡◌, ◌∙◌, ◌++◌, ◌∷◌, ◌≤◌, sym, ap, arith, map, length, drop, refl, not, None}
use Rattle.tw_rows.specs.declared.edge.HeldRow.{HeldRow}
use Rattle.edge_history.specs.Order.{many}
use Rattle.synopsis.specs.Held.{key_of, is_of_key}
use Rattle.tw_rows.specs.SameCells.{cells_are_same}
use Rattle.anti_join.specs.Free.{told_since}
use Rattle.anti_join.proofs.Keys.{kept_length, first_passes, is_none, head_is}
use Rattle.anti_join.proofs.Changes.{set_since, set_early, set_few, set_none}
use Rattle.anti_join.proofs.RowKeys.{keys_stay}
use Rattle.anti_join.proofs.Begun.{times_set}
use Rattle.anti_join.proofs.sweep.AntiRows.tell_free.Goals as goal

pub returns-then-is_empty : goal.returns-then-is_empty
returns-then-is_empty c =
    let s = c.args.self.now in
    let v = s.right_key.values in
    let found = c.rows_of-rows.ensures ∙ ap (λ k. filter (is_of_key s.left.key k) s.left.rows) c.values.ensures in
    let none : many (is_of_key s.left.key v) s.left.rows ≡ 0 =
    let n = kept_length (is_of_key s.left.key v) s.left.rows in
    let e = ap (λ l. length l) (sym found ∙ is_none c.rows_of-rows.result.now (sym c.is_empty.ensures ∙ c.if-is_empty.true)) in
    omega (arith, n, e) in
    record {
      told = c.in_ok-tell.ensures ∙ ap (λ l. c.args.answer.now.items ++ map (told_since None c.args.t) l) found;
      times = λ by. record {
        since = λ k some. set_none s.left.key s.left.rows v k c.args.t _ none some;
        early = λ k low. low;
        few = λ k z. (omega arith);
      };
      begun = λ kinds to low left times. times;
      left = refl;
      right = refl;
      keys = keys_stay s;
    }

pub returns : goal.returns
returns c =
    let s = c.args.self.now in
    let v = s.right_key.values in
    let row = c.index-rows-0.result in
    let found = c.rows_of-rows.ensures ∙ ap (λ k. filter (is_of_key s.left.key k) s.left.rows) c.values.ensures in
    let head : filter (is_of_key s.left.key v) s.left.rows ≡ row ∷ drop 1 c.rows_of-rows.result.now = sym found ∙ head_is c.rows_of-rows.result.now row (sym c.is_empty.ensures ∙ c.if-is_empty.false) c.index-rows-0.is in
    let own : key_of s.left.key c.in_ok-clone.field-0 ≡ v = ap (key_of s.left.key) (c.in_ok-clone.ensures.cases ∙ ap (λ (r : HeldRow). r.cells) (sym c.index-rows-0.is)) ∙ cells_are_same (key_of s.left.key row.cells) v (first_passes (is_of_key s.left.key v) s.left.rows _ row head) in
    let some : 1 ≤ many (is_of_key s.left.key v) s.left.rows =
    let n = kept_length (is_of_key s.left.key v) s.left.rows in
    let e = ap (λ l. length l) head in
    omega (arith, n, e) in
    record {
      told = c.in_ok-tell.ensures ∙ ap (λ l. c.args.answer.now.items ++ map (told_since None c.args.t) l) found;
      times = λ by. record {
        since = λ k z. set_since s.left.key s.times.key v c.in_ok-clone.field-0 c.args.t s.times.rows c.set.new.self.rows by own c.in_ok-set.ensures.ok k;
        early = set_early s.left.key s.times.key v c.in_ok-clone.field-0 c.args.t s.times.rows c.set.new.self.rows by own c.in_ok-set.ensures.ok;
        few = λ k z. set_few s.left.key s.times.key v c.in_ok-clone.field-0 c.args.t s.times.rows c.set.new.self.rows by own c.in_ok-set.ensures.ok s.left.rows k some z;
      };
      begun = λ kinds to low.
          times_set kinds to c.args.t (is_of_key s.left.key v) (λ r. not (is_of_key s.times.key (key_of s.times.key c.in_ok-clone.field-0) r)) s.left.rows (drop 1 c.rows_of-rows.result.now) s.times.rows c.set.new.self.rows row c.in_ok-clone.field-0
          low head (c.in_ok-clone.ensures.cases ∙ ap (λ (r : HeldRow). r.cells) (sym c.index-rows-0.is)) c.in_ok-set.ensures.ok;
      left = refl;
      right = refl;
      keys = record { left_key = refl; right_key = refl; left = refl; right = refl; times = c.in_ok-set.ensures.key };
    }
