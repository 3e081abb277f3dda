use Rattle.std.specs.Prelude.{◌++◌}
use Rattle.std.proofs.Common.{sym, ◌∙◌, ap}
use Rattle.std.proofs.lemmas.List.{append_assoc}
use Rattle.edge_stream.specs.Entries.{entries_of}
use Rattle.sweep_laws.specs.Saving.{starts_of}
use Rattle.synopsis.specs.Kept.{rows_in}
use Rattle.synopsis.proofs.Saved.{saved_append}
use Rattle.synopsis.proofs.row_queues.RowQueues.save.Goals as goal

pub returns : goal.returns
returns c =
    let few = c.self.inside.held.few in
    let rows = rows_in c.self.inside.held.starts.entries in
    let part = c.args.part in
    let was = c.args.saved.now in
    c.in_ok-save_starts.ensures
    ∙ (ap (λ l. l ++ entries_of part (starts_of rows)) c.in_ok-save.ensures
    ∙ (append_assoc was (entries_of part (starts_of few)) (entries_of part (starts_of rows))
    ∙ (ap (λ l. was ++ l) (sym (saved_append part few rows))
    ∙ ap (λ r. was ++ entries_of part (starts_of r)) c.self.view_is)))
