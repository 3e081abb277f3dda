use Rattle.std.proofs.Common.{◌≡◌, ◌<◌, ◌-◌, ◌+◌, ℕ, suc, List, length, drop, get_or, ◌∷◌, sym, ◌∙◌, ap, subst, arith, drop-cons}
use Rattle.std.proofs.lemmas.List.{drop_all}
use Rattle.tw_rows.specs.declared.cells.Datum.{Datum}
use Rattle.row_reader.specs.Drafted.{HaveNoText}
use Rattle.row_reader.proofs.value.texts_end.Goals as goal

none_left : (row : List Datum) → HaveNoText (drop (length row - 0) row)
none_left row = subst HaveNoText (sym (drop_all (length row - 0) row (omega arith))) tt

-- one datum more, before those that are no texts
one_more : (row : List Datum) (i : ℕ) (d : Datum) → i < length row → HaveNoText (get_or row (length row - i - 1) d ∷ drop (length row - i) row) → HaveNoText (drop (length row - (i + 1)) row)
one_more row i d low h =
    let k = length row - i - 1 in
    let next : suc k ≡ length row - i = omega (arith, low) in
    let same : length row - (i + 1) ≡ k = omega arith in
    let cons : drop k row ≡ get_or row k d ∷ drop (length row - i) row = drop-cons row k d (omega (arith, low)) ∙ ap (λ n. get_or row k d ∷ drop n row) next in
    rw same (subst HaveNoText (sym cons) h)

pub loop-i-init : goal.loop-i-init
loop-i-init c = none_left c.args.row.now

pub loop-i-preserved : goal.loop-i-preserved
loop-i-preserved c = one_more c.args.row.now c.loop-i.i _ c.loop-i-test.true (c.is_text.ensures _ c.if-is_text.false c.loop-i.invariant)
