use Rattle.std.specs.Prelude.{◌≡◌, ◌++◌, flat_map, map}
use Rattle.std.proofs.Common.{subst}
use Rattle.egress.specs.Instants.{start_lines}
use Rattle.egress.specs.Kept.{moves_of, ends_in, starts_in, rows_of, since_in}
use Rattle.egress.specs.Print.{print}
use Rattle.egress.proofs.Shown.{shown, open_shown}
use Rattle.egress.proofs.open_rows.OpenRows.show_singles.Goals as goal

pub returns-clause-instant : goal.returns-clause-instant
returns-clause-instant c =
    let ends = c.in_ok-end_edges.ensures.rows in
    let starts = c.in_ok-start_edges.ensures.rows in
    let since = since_in c.args.texts.now c.args.self.now.starts in
    record {
      shown = λ rows moves opened. record {
        lines = shown c.args.texts.now (map moves_of c.args.edges.now) c.args.at c.requires.ordered since rows moves opened c.args.self.now.kinds.items c.args.self.now.lines.items _ _ ends.lines
            (subst (λ ks. c.start_edges.new.self.lines.items ≡ c.end_edges.new.self.lines.items
            ++ print ks.items (flat_map (start_lines (ends_in c.args.texts.now (map moves_of c.args.edges.now)) (starts_in c.args.texts.now (map moves_of c.args.edges.now)) c.args.at) (rows_of c.args.texts.now (map moves_of c.args.edges.now)))) c.end_edges.ensures.kinds starts.lines);
        opened = open_shown c.args.texts.now (map moves_of c.args.edges.now) c.args.at c.requires.ordered since rows moves opened (since_in c.args.texts.now c.end_edges.new.self.starts) _ ends.starts starts.starts;
      };
      passed = λ p keeps h. starts.passed p keeps (ends.passed p h);
      kept = λ h. starts.kept (ends.kept h);
    }
