use Rattle.std.specs.Prelude.{◌++◌, map}
use Rattle.std.proofs.Common.{sym, ◌∙◌, ap}
use Rattle.std.proofs.lemmas.List.{append-nil}
use Rattle.egress.specs.Saved.{entry_at}
use Rattle.egress.proofs.saving.save_end.Goals as goal

pub returns-in_default-clause-entries : goal.returns-in_default-clause-entries
returns-in_default-clause-entries c =
    sym (append-nil c.args.saved.now) ∙ ap (λ l. c.args.saved.now ++ map (entry_at c.args.at c.args.edge.now.cells) l) c.in_default.ensures.first

pub returns-clause-entries : goal.returns-clause-entries
returns-clause-entries c =
    c.in_ok-push_cells.ensures.ok
    ∙ ap (λ l. c.args.saved.now ++ map (entry_at c.args.at c.args.edge.now.cells) l) c.in-Some.ensures.first
