-- What one more saved entry leaves of what was taken up.
use Rattle.edge_stream.specs.declared.saved.SavedEntry.{SavedEntry}
use Rattle.synopsis.specs.Kept.{EachIsOpen}
use Rattle.egress.specs.Kept.{HasAdded}
use Rattle.egress.specs.Waiting.{waiting_in, ArePut}
use Rattle.egress.specs.Saving.{end_of}
use Rattle.egress.specs.declared.loading.Loaded.{Loaded}

-- the start of the entry's row came to the open starts, its end to the ends, and where the end is known, its edge waits
pub record HasTaken (e : SavedEntry) (old new : Loaded) : Type 0 where
  pub starts : HasAdded e.cells e.sync 1 old.starts new.starts
  pub ends : HasAdded e.cells e.other 1 old.ends new.ends
  pub kept : EachIsOpen old.starts → EachIsOpen new.starts
  pub waiting : ArePut (waiting_in old.waiting) (waiting_in new.waiting) (end_of e)
