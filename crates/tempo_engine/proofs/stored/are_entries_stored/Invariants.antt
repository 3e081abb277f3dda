-- The entries before this one are stored so.
use Rattle.std.proofs.Common.{All, take}
use Rattle.frozen_state.specs.Formed.{IsStoredIn}
use Rattle.tempo_engine.proofs.stored.are_entries_stored.Given as goal

abbrev pub invariant-loop-entry : goal.invariant-loop-entry
invariant-loop-entry l = All (IsStoredIn l.form.rows) (take l.entry-index l.entries)
