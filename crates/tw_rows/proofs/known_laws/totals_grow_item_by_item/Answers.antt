use Rattle.tw_rows.proofs.Fronts.{total_more, total_part, total_flat_more}
use Rattle.tw_rows.proofs.known_laws.totals_grow_item_by_item.Goals as goal

pub returns : goal.returns
returns g c = record { more = total_more; part = total_part; flat = total_flat_more }
