-- What stays of the sessions that go on.
use Rattle.std.specs.Prelude.{◌≡◌}
use Rattle.session_window.specs.declared.sessions.Sessions.{Sessions}

-- the timeout and the key columns stay
pub record IsLike (old new : Sessions) : Type 0 where
  pub timeout : new.timeout ≡ old.timeout
  pub key : new.rows.key ≡ old.rows.key
