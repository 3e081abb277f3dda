use Rattle.std.proofs.Common.{sym, subst, Some, None}
use Rattle.synopsis.proofs.Keyed.{rows_found}
use Rattle.session_window.specs.Lasts.{IsLastStart}
use Rattle.session_window.proofs.open_rows.last_of.Goals as goal

pub returns-in-Some : goal.returns-in-Some
returns-in-Some c = record {
  some = λ columns keyed.
      subst (IsLastStart c.last.result) (rows_found c.args.sessions.now.entries c.args.key.now (Some c.in-Some.session.now) c.in-Some.ensures.value c.len.ensures.unique columns keyed) c.last.ensures;
  none = tt;
}

pub returns-in-None : goal.returns-in-None
returns-in-None c = record {
  some = tt;
  none = λ columns keyed. sym (rows_found c.args.sessions.now.entries c.args.key.now None c.in-None.ensures.value c.len.ensures.unique columns keyed);
}
