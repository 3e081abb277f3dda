use Rattle.std.specs.Prelude.{◌≡◌, ◌++◌, [], ◌∷◌, List, All, map, suc, ◌*◌, refl}
use Rattle.std.proofs.Common.{◌∙◌, sym, ap, subst, rules}
use Rattle.std.proofs.lemmas.List.Elements.{All-cons, All-head, All-tail}
use Rattle.tw_rows.specs.Cells.{datum_kind}
use Rattle.tw_rows.specs.declared.edge.Edge.{Edge}
use Rattle.edge_history.specs.Order.{failing, is_from, Rises, IsReal}
use Rattle.sweep_sides.specs.Waiting.{queued}
use Rattle.snapshot_agg.specs.Living.{to_come, bare_start}
use Rattle.snapshot_agg.specs.Words.{key_data}
use Rattle.snapshot_agg.proofs.Beginning.{touches_none, touches_more, begun_none, begun_more, first_starts, rises_behind}
use Rattle.snapshot_agg.proofs.intervals.start_rows.Goals as goal

pub loop-edge-init : goal.loop-edge-init
loop-edge-init c =
    let g = c.args.groups.now in
    record {
      counted = c.requires.counted;
      order = c.requires.order;
      real = c.requires.real;
      begun = ([], begun_none c.args.t g.rows.rows.held (to_come g.rows.rows.ends c.args.waiting.now c.args.cursor.now.edges), touches_none (key_data g.key.items) g.touched.items);
      own = λ h. h;
      late = λ h. h;
      kinds = refl;
      cells = λ h. h;
      same_key = refl;
      same_aggs = refl;
    }

pub start_row-requires : goal.start_row-requires
start_row-requires c =
    let e = c.in-Some.edge in
    let first : c.loop-edge.cursor.edges ≡ e ∷ c.next_at.new.cursor.edges = search rules in
    let at : e.sync ≡ c.args.t = search rules in
    record {
      counted = c.loop-edge.invariant.counted;
      start = first_starts c.args.t e c.next_at.new.cursor.edges at (subst (Rises (suc (2 * c.args.t))) first c.loop-edge.invariant.order);
      real = All-head IsReal e c.next_at.new.cursor.edges (subst (All IsReal) first c.loop-edge.invariant.real);
    }

pub loop-edge-preserved : goal.loop-edge-preserved
loop-edge-preserved c =
    let g = c.args.groups.now in
    let g1 = c.loop-edge.groups in
    let g2 = c.start_row.new.groups in
    let e = c.in-Some.edge in
    let edges = c.loop-edge.cursor.edges in
    let rest = c.next_at.new.cursor.edges in
    let first : c.loop-edge.cursor.edges ≡ e ∷ rest = search rules in
    let at : e.sync ≡ c.args.t = search rules in
    let kind : map datum_kind e.cells ≡ c.loop-edge.cursor.kinds = search rules in
    let real = subst (All IsReal) first c.loop-edge.invariant.real in
    let i = c.loop-edge.invariant.begun in
    let s = c.in_ok-start_row.ensures in
    record {
      counted = s.counted;
      order = rises_behind (suc (2 * c.args.t)) e rest (subst (Rises (suc (2 * c.args.t))) first c.loop-edge.invariant.order);
      real = All-tail IsReal e rest real;
      begun = (
        i.0 ++ bare_start e ∷ [],
        begun_more i.0 e c.args.t g.rows.rows.held g1.rows.rows.held g2.rows.rows.held (to_come g.rows.rows.ends c.args.waiting.now c.args.cursor.now.edges)
            g1.rows.rows.ends g2.rows.rows.ends c.loop-edge.waiting c.start_row.new.waiting edges rest i.1 first at (All-head IsReal e rest real).instant s.rows s.pending,
        touches_more (key_data g.key.items) g.touched.items g1.touched.items g2.touched.items i.0 (bare_start e) (key_data g1.key.items e.cells)
            (ap (λ k. key_data k.items e.cells) c.loop-edge.invariant.same_key) i.2 s.touched,
      );
      own = λ h. s.own (c.loop-edge.invariant.own h);
      late = λ h. subst (λ n. failing (is_from (suc n)) (queued c.start_row.new.waiting) ≡ 0) at
          (s.late (subst (λ n. failing (is_from (suc n)) (queued c.loop-edge.waiting) ≡ 0) (sym at) (c.loop-edge.invariant.late h)));
      kinds = c.next_at.ensures.kinds ∙ c.loop-edge.invariant.kinds;
      cells = λ h. c.loop-edge.invariant.cells
          (subst (λ (l : List Edge). All (λ e. map datum_kind e.cells ≡ c.args.cursor.now.kinds) l) (sym first)
          (All-cons (λ (e : Edge). map datum_kind e.cells ≡ c.args.cursor.now.kinds) e rest (kind ∙ c.loop-edge.invariant.kinds) h));
      same_key = c.start_row.ensures.key ∙ c.loop-edge.invariant.same_key;
      same_aggs = c.start_row.ensures.aggs ∙ c.loop-edge.invariant.same_aggs;
    }
