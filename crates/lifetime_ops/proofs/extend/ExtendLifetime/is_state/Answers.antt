use Rattle.std.proofs.Common.{rules, ◌≡◌, ◌∙◌}
use Rattle.std.specs.List.{list_all}
use Rattle.edge_history.specs.Order.{is_end}
use Rattle.edge_stream.specs.Entries.{part_of}
use Rattle.lifetime_ops.proofs.Loading.{ends_of_part}
use Rattle.lifetime_ops.proofs.extend.ExtendLifetime.is_state.Goals as goal

pub returns-then-is_edge_part-2 : goal.returns-then-is_edge_part-2
returns-then-is_edge_part-2 c =
    let ends : c.are_ends_of_part.result ≡ list_all is_end (part_of 1 c.args.saved.now) = c.are_ends_of_part.ensures ∙ ends_of_part 1 c.args.saved.now in search rules
