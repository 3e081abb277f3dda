use Rattle.std.specs.Prelude.{not, filter}
use Rattle.std.proofs.Common.{◌∙◌, ap, map}
use Rattle.std.proofs.lemmas.List.{map-append}
use Rattle.std.proofs.lemmas.List.Elements.{filter-append}
use Rattle.edge_history.specs.Order.{is_end}
use Rattle.edge_history.specs.History.{begun_one}
use Rattle.edge_history.proofs.Ending.{end_all-append}
use Rattle.edge_history.proofs.side_laws.lists_are_taken_in_turn.Goals as goal

pub returns-clause-ends : goal.returns-clause-ends
returns-clause-ends c = end_all-append

pub returns-clause-begins : goal.returns-clause-begins
returns-clause-begins c = λ h new.
    ap (map begun_one) (filter-append (λ e. not (is_end e)) h new)
    ∙ map-append begun_one (filter (λ e. not (is_end e)) h) (filter (λ e. not (is_end e)) new)
