use Rattle.edge_history.proofs.Retaining.{AreEvents-none_fails}
use Rattle.edge_history.proofs.Opening.{ends_there, starts_new, rows_after}
use Rattle.edge_history.proofs.open_laws.edges_of_an_instant_change_the_open_rows.Goals as goal

pub returns : goal.returns
returns c = record {
  there = λ events t now rows valid is h. ends_there events t now rows (AreEvents-none_fails events valid) is h;
  new = λ events t now is. starts_new t events now is;
  after = λ events t now rows later valid is h moved. rows_after events t now rows later (AreEvents-none_fails events valid) is h moved;
}
