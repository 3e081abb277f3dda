use Rattle.edge_history.proofs.Retaining.{AreEvents-none_fails}
use Rattle.sweep_laws.proofs.AntiSteps.{anti_one, stays_are, anti_rows}
use Rattle.sweep_laws.proofs.life_laws.antis_tell_an_instant.Goals as goal

pub returns : goal.returns
returns g c = record {
  run = λ meets b e t st low since h. (anti_one meets (λ x. 0) b e t st low since h).1;
  stay = λ t a rows stay now valid. stays_are t a rows stay now (AreEvents-none_fails a valid);
  told = λ key meets a b t status free low valid. anti_rows key meets a b t status free low (AreEvents-none_fails a valid);
}
