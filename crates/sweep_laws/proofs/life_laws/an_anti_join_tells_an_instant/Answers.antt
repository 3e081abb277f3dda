use Rattle.edge_history.proofs.Retaining.{AreEvents-none_fails}
use Rattle.sweep_laws.proofs.AntiTelling.{anti_then, anti_told_then, anti_between}
use Rattle.sweep_laws.proofs.life_laws.an_anti_join_tells_an_instant.Goals as goal

pub returns : goal.returns
returns g c = record {
  told = λ key meets a b t now_left now_right left stay left2 right right2 status free answer0 answer1 answer2 answer3 answer4 low va vb il ir h l1 l2 r2 frees a1 a2 a3 a4.
      let v = AreEvents-none_fails a va in
      let u = AreEvents-none_fails b vb in (
        anti_then key meets a b t now_left now_right left stay left2 right right2 status free answer0 answer1 answer2 answer3 answer4 low v u il ir h l1 l2 r2 frees a1 a2 a3 a4,
        anti_told_then key meets a b t now_left now_right left stay left2 right right2 status free answer0 answer1 answer2 answer3 answer4 low v u il ir h l1 l2 r2 frees a1 a2 a3 a4,
      );
  between = λ key meets a b u t left right status low high va vb. anti_between key meets a b u t left right status low high (AreEvents-none_fails a va) (AreEvents-none_fails b vb);
}
