use Rattle.std.proofs.Common.{sym, ◌∙◌, ap}
use Rattle.tw_rows.specs.declared.edge.Edge.{Edge}
use Rattle.tw_rows.specs.declared.cells.Datum.{Datum}
use Rattle.std.specs.Prelude.{List}
use Rattle.egress.specs.Waiting.{waiting_in}
use Rattle.egress.proofs.Entries.{none_put, known_put}
use Rattle.egress.proofs.loading.put_end.Goals as goal

pub returns-then-not-known : goal.returns-then-not-known
returns-then-not-known c = none_put (waiting_in c.args.waiting.now) c.args.entry.now (cc)

pub returns : goal.returns
returns c =
    let end : List Datum → Edge = λ k. record { sync = c.args.entry.now.other; other = 0; cells = k } in
    known_put (waiting_in c.args.waiting.now) (waiting_in c.put.new.self) c.args.entry.now (end c.in_ok-cells.cells)
    (sym c.is_instant-known.ensures ∙ c.if-not-known.false) (ap end c.in_ok-cells.ensures.cases) c.in_ok-put.ensures
