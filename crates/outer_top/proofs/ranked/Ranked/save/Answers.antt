use Rattle.std.specs.Prelude.{◌++◌}
use Rattle.std.proofs.Common.{◌∙◌, ap, sym}
use Rattle.std.proofs.lemmas.List.{append_assoc}
use Rattle.edge_stream.specs.Entries.{entries_of}
use Rattle.sweep_laws.specs.Saving.{starts_of}
use Rattle.synopsis.proofs.Saved.{saved_append}
use Rattle.outer_top.specs.Ranks.{rows_in}
use Rattle.outer_top.proofs.ranked.Ranked.save.Goals as goal

pub returns : goal.returns
returns c =
    let s = c.args.self.now in
    let part = c.args.part in
    let a = rows_in s.shown.entries in
    let b = rows_in s.hidden.entries in
    c.in_ok-save_groups-2.ensures ∙ ap (λ l. l ++ entries_of part (starts_of b)) c.in_ok-save_groups.ensures
    ∙ append_assoc c.args.saved.now (entries_of part (starts_of a)) (entries_of part (starts_of b))
    ∙ ap (λ l. c.args.saved.now ++ l) (sym (saved_append part a b))
