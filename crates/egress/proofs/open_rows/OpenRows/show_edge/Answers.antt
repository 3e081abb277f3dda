use Rattle.synopsis.specs.Kept.{since_at}
use Rattle.egress.proofs.Passing.{dropped_pass, added_pass}
use Rattle.egress.proofs.Single.{end_line, end_open, start_line, start_open}
use Rattle.egress.proofs.Tallied.{is_end_from, no_end_from}
use Rattle.egress.proofs.Taking.{first_passes}
use Rattle.egress.proofs.open_rows.OpenRows.show_edge.Goals as goal

pub returns-then-is_end-clause-instant : goal.returns-then-is_end-clause-instant
returns-then-is_end-clause-instant c =
    let row = c.in_ok-end_row.ensures.row in
    let ends = is_end_from c.is_end.result c.args.edge.now c.is_end.ensures c.if-is_end.true in
    record {
      shown = λ events valid same opened. record {
        lines = end_line c.args.texts.now c.len.ensures.distinct events valid c.args.at c.args.edge.now c.requires same c.args.self.now.starts c.end_row.new.self.starts opened ends
            c.args.self.now.kinds.items c.args.self.now.lines.items c.end_row.new.self.lines.items row.lines;
        opened = end_open c.args.texts.now c.len.ensures.distinct events valid c.args.at c.args.edge.now c.requires same c.args.self.now.starts c.end_row.new.self.starts opened ends row.starts;
      };
      passed = λ p own h. dropped_pass p (since_at c.args.self.now.starts) (since_at c.end_row.new.self.starts) h c.args.edge.now.cells 1 row.starts;
      kept = row.kept;
    }

pub returns-clause-instant : goal.returns-clause-instant
returns-clause-instant c =
    let row = c.in_ok-start_row.ensures.row in
    let starts = no_end_from c.is_end.result c.args.edge.now c.is_end.ensures c.if-is_end.false in
    record {
      shown = λ events valid same opened. record {
        lines = start_line c.args.texts.now c.len.ensures.distinct events valid c.args.at c.args.edge.now c.requires same c.args.self.now.starts c.start_row.new.self.starts opened starts
            c.args.self.now.kinds.items c.args.self.now.lines.items c.start_row.new.self.lines.items row.lines;
        opened = start_open c.args.texts.now c.len.ensures.distinct events valid c.args.at c.args.edge.now c.requires same c.args.self.now.starts c.start_row.new.self.starts opened starts row.starts;
      };
      passed = λ p none h. added_pass p (since_at c.args.self.now.starts) (since_at c.start_row.new.self.starts) h c.args.edge.now.cells _ (first_passes (p c.args.edge.now.cells) 0 none).0 row.starts;
      kept = row.kept;
    }
