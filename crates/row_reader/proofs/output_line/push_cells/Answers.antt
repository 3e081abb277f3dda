use Rattle.std.proofs.Common.{◌≡◌, ◌<◌, ◌+◌, ℕ, [], ◌∷◌, ◌++◌, length, drop, subst, sym, ◌∙◌, ap, arith, rules, inl, inr, ◌≤◌, min}
use Rattle.std.specs.Prelude.{◌⊎◌}
use Rattle.std.proofs.lemmas.Bool.{cases_lt}
use Rattle.std.proofs.lemmas.List.{length-append, length-map, get_or-map}
use Rattle.std.proofs.lemmas.Slice.Zip.{zip_turn, zip_end}
use Rattle.csv.specs.Writing.{default_writer, fields_text}
use Rattle.tw_rows.specs.Cells.{IsPlaced, read_datum, read_cells}
use Rattle.row_reader.specs.FieldTexts.{row_texts}
use Rattle.row_reader.proofs.Begin.{Begins-trans, Begins-more}
use Rattle.row_reader.proofs.Pieces.{values_more, values_all, placed_at}
use Rattle.row_reader.proofs.output_line.push_cells.Goals as goal

pub push_datum-requires : goal.push_datum-requires
push_datum-requires c =
    let turn = zip_turn c.args.kinds.now c.args.cells.now c.loop-kind.yielded c.into_iter-kind-iterator.result c.loop-kind.kind-iterator c.next.new.self c.next.result (search rules) (search rules) c.loop-kind.yielded_by (c.in-Some.kind, c.in-Some.datum) c.in-Some.is c.next.ensures.steps in
    subst (IsPlaced c.args.texts.now) (sym (turn.3 c.in-Some.datum.now)) (placed_at c.args.texts.now c.args.cells.now (length c.loop-kind.yielded) c.in-Some.datum.now c.requires turn.1)

pub loop-kind-preserved : goal.loop-kind-preserved
loop-kind-preserved c =
    let turn = zip_turn c.args.kinds.now c.args.cells.now c.loop-kind.yielded c.into_iter-kind-iterator.result c.loop-kind.kind-iterator c.next.new.self c.next.result (search rules) (search rules) c.loop-kind.yielded_by (c.in-Some.kind, c.in-Some.datum) c.in-Some.is c.next.ensures.steps in
    let next : length (c.loop-kind.yielded ++ (c.in-Some.kind, c.in-Some.datum) ∷ []) ≡ length c.loop-kind.yielded + 1 = length-append c.loop-kind.yielded ((c.in-Some.kind, c.in-Some.datum) ∷ []) in
    let row = read_cells c.args.texts.now c.args.cells.now in
    let value = read_datum c.args.texts.now c.in-Some.datum.now in
    let low = turn.1 in
    let long = length-map c.args.cells.now (read_datum c.args.texts.now) in
    let inside : length c.loop-kind.yielded < length row = omega (arith, low, long) in
    let at = ap (read_datum c.args.texts.now) (turn.3 c.in-Some.datum.now) ∙ sym (get_or-map (read_datum c.args.texts.now) c.args.cells.now (length c.loop-kind.yielded) c.in-Some.datum.now value turn.1) in
    let step = values_more c.args.kinds.now row (length c.loop-kind.yielded) c.in-Some.kind.now value _ _ _ _ turn.0 inside (turn.2 _) at
    c.loop-kind.invariant.items c.in_ok-push.ensures.items c.in_ok-push_datum.ensures.ok in
    record {
      can = (tt, tt);
      ends = tt;
      items = subst (λ n. c.push_datum.new.out.items ++ fields_text default_writer (row_texts (drop n c.args.kinds.now) (drop n row)) ≡ c.args.out.now.items ++ fields_text default_writer (row_texts c.args.kinds.now row)) (sym next) step;
      begins = Begins-trans _ _ _ (Begins-trans _ _ _ c.loop-kind.invariant.begins (Begins-more _ _ _ c.in_ok-push.ensures.items)) (Begins-more _ _ _ c.in_ok-push_datum.ensures.ok);
    }

past : (m n k : ℕ) → k ≡ min m n → (m ≤ k) ⊎ (n ≤ k)
past m n k e = elim (cases_lt m n) [ inl h ↦ inl (omega (arith, e, h)) | inr h ↦ inr (omega (arith, e, h)) ]

pub returns-clause-ok : goal.returns-clause-ok
returns-clause-ok c =
    let end = zip_end c.args.kinds.now c.args.cells.now c.loop-kind.yielded c.into_iter-kind-iterator.result c.loop-kind.kind-iterator c.next.new.self c.next.result (search rules) (search rules) c.loop-kind.yielded_by c.in-None.is c.next.ensures.steps in
    let row = read_cells c.args.texts.now c.args.cells.now in
    let long = length-map c.args.cells.now (read_datum c.args.texts.now) in
    let last : length c.loop-kind.yielded ≡ min (length c.args.kinds.now) (length row) = end ∙ ap (min (length c.args.kinds.now)) (sym long) in
    values_all c.args.kinds.now row (length c.loop-kind.yielded) _ _ (past (length c.args.kinds.now) (length row) (length c.loop-kind.yielded) last) c.loop-kind.invariant.items
