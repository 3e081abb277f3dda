use Rattle.std.specs.Prelude.{◌≡◌, ◌+◌, true, false, [], ◌∷◌, ◌++◌, length, refl}
use Rattle.std.proofs.Common.{sym, ◌∙◌, ap, arith}
use Rattle.std.proofs.lemmas.List.{map-append, nil_from_length}
use Rattle.tw_rows.specs.Cells.{read_cells}
use Rattle.edge_history.specs.Opens.{ended_of, started_of}
use Rattle.egress.specs.declared.moves.Moves.{Moves}
use Rattle.egress.specs.Kept.{rows_of}
use Rattle.egress.proofs.Counted.{ended_by, started_by, counted_new, counted_more}
use Rattle.egress.proofs.Gathered.{rows_stay, rows_more, left_kept, push_kept}
use Rattle.egress.proofs.moves.count_edge.Goals as goal

-- a row of its own
pub returns-then-not-is_last-clause-ends : goal.returns-then-not-is_last-clause-ends
returns-then-not-is_last-clause-ends c = λ texts r.
    counted_new (λ m. m.ends) texts c.args.edge.now (length (ended_of c.args.edge.now)) c.args.touched.now.items c.args.touched.now.items c.push_moves.new.touched.items _
    refl c.in_ok-push_moves.ensures refl c.counts_of-counts.ensures.ends r _ (ended_by texts r c.args.edge.now)

pub returns-then-not-is_last-clause-starts : goal.returns-then-not-is_last-clause-starts
returns-then-not-is_last-clause-starts c = λ texts r.
    counted_new (λ m. m.starts) texts c.args.edge.now (length (started_of c.args.edge.now)) c.args.touched.now.items c.args.touched.now.items c.push_moves.new.touched.items _
    refl c.in_ok-push_moves.ensures refl c.counts_of-counts.ensures.starts r _ (started_by texts r c.args.edge.now)

pub returns-then-not-is_last-clause-rows : goal.returns-then-not-is_last-clause-rows
returns-then-not-is_last-clause-rows c = λ texts distinct before placed own is.
    let made : Moves = record { cells = c.args.edge.now.cells; ends = c.counts_of-counts.result.ends; starts = c.counts_of-counts.result.starts } in
    ap (rows_of texts) c.in_ok-push_moves.ensures
    ∙ rows_more texts distinct before c.args.touched.now.items made placed own is
    (λ rest last at cells. let z : false ≡ true = (c.if-not-is_last.ensures.same rest last (c.deref.ensures.value ∙ at)).1 cells in absurd (cc))

pub returns-then-not-is_last-clause-cells : goal.returns-then-not-is_last-clause-cells
returns-then-not-is_last-clause-cells c = λ p own keeps. push_kept p c.args.touched.now.items c.push_moves.new.touched.items _ c.in_ok-push_moves.ensures keeps own

-- that there are no moves is told by the test
pub returns-in_default-clause-ends : goal.returns-in_default-clause-ends
returns-in_default-clause-ends c = absurd (c.if-not-is_last.ensures.some refl (c.deref.ensures.value ∙ nil_from_length c.args.touched.now.items (omega (arith, c.in_default.ensures.cases))))

pub returns-in_default-clause-starts : goal.returns-in_default-clause-starts
returns-in_default-clause-starts c = absurd (c.if-not-is_last.ensures.some refl (c.deref.ensures.value ∙ nil_from_length c.args.touched.now.items (omega (arith, c.in_default.ensures.cases))))

pub returns-in_default-clause-rows : goal.returns-in_default-clause-rows
returns-in_default-clause-rows c = absurd (c.if-not-is_last.ensures.some refl (c.deref.ensures.value ∙ nil_from_length c.args.touched.now.items (omega (arith, c.in_default.ensures.cases))))

pub returns-in_default-clause-cells : goal.returns-in_default-clause-cells
returns-in_default-clause-cells c = absurd (c.if-not-is_last.ensures.some refl (c.deref.ensures.value ∙ nil_from_length c.args.touched.now.items (omega (arith, c.in_default.ensures.cases))))

-- the row of the last moves
pub returns-clause-ends : goal.returns-clause-ends
returns-clause-ends c = λ texts r.
    let same = (c.if-not-is_last.ensures.same c.pop.new.self.items c.in-Some.last (c.deref.ensures.value ∙ c.in-Some.ensures.items)).0 refl in
    counted_more (λ m. m.ends) texts c.args.edge.now (length (ended_of c.args.edge.now)) c.args.touched.now.items c.pop.new.self.items c.push.new.self.items c.in-Some.last c.in_ok-more.more
    c.in-Some.ensures.items c.in_ok-push.ensures.items c.in_ok-more.ensures.cells same
    (c.in_ok-more.ensures.ends ∙ ap (λ n. c.in-Some.last.ends + n) c.counts_of-counts.ensures.ends) r _ (ended_by texts r c.args.edge.now)

pub returns-clause-starts : goal.returns-clause-starts
returns-clause-starts c = λ texts r.
    let same = (c.if-not-is_last.ensures.same c.pop.new.self.items c.in-Some.last (c.deref.ensures.value ∙ c.in-Some.ensures.items)).0 refl in
    counted_more (λ m. m.starts) texts c.args.edge.now (length (started_of c.args.edge.now)) c.args.touched.now.items c.pop.new.self.items c.push.new.self.items c.in-Some.last c.in_ok-more.more
    c.in-Some.ensures.items c.in_ok-push.ensures.items c.in_ok-more.ensures.cells same
    (c.in_ok-more.ensures.starts ∙ ap (λ n. c.in-Some.last.starts + n) c.counts_of-counts.ensures.starts) r _ (started_by texts r c.args.edge.now)

pub returns-clause-rows : goal.returns-clause-rows
returns-clause-rows c = λ texts distinct before placed own is.
    let mid = c.pop.new.self.items in
    let last : Moves = c.in-Some.last in
    let same = (c.if-not-is_last.ensures.same mid last (c.deref.ensures.value ∙ c.in-Some.ensures.items)).0 refl in
    ap (rows_of texts) c.in_ok-push.ensures.items ∙ map-append (λ (m : Moves). read_cells texts m.cells) mid (c.in_ok-more.more ∷ [])
    ∙ ap (λ cells. rows_of texts mid ++ read_cells texts cells ∷ []) c.in_ok-more.ensures.cells
    ∙ rows_stay before (rows_of texts mid) (read_cells texts last.cells) (read_cells texts c.args.edge.now.cells)
    (sym (ap (rows_of texts) c.in-Some.ensures.items ∙ map-append (λ (m : Moves). read_cells texts m.cells) mid (last ∷ [])) ∙ is)
    (ap (read_cells texts) same)

pub returns-clause-cells : goal.returns-clause-cells
returns-clause-cells c = λ p own keeps.
    let same = (c.if-not-is_last.ensures.same c.pop.new.self.items c.in-Some.last (c.deref.ensures.value ∙ c.in-Some.ensures.items)).0 refl in
    push_kept p c.pop.new.self.items c.push.new.self.items c.in_ok-more.more c.in_ok-push.ensures.items (left_kept p c.args.touched.now.items c.pop.new.self.items (c.in-Some.last ∷ []) c.in-Some.ensures.items keeps)
    (ap p (c.in_ok-more.ensures.cells ∙ same) ∙ own)
