use Rattle.synopsis.proofs.Keyed.{blocks_flat}
use Rattle.session_window.proofs.open_rows.OpenRows.block_count.Goals as goal

pub returns-clause-rows : goal.returns-clause-rows
returns-clause-rows c = rw (← c.self.view_is) (blocks_flat c.self.inside.sessions.entries)
