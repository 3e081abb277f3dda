use Rattle.sweep_laws.proofs.JoinTelling.{held_then, told_then}
use Rattle.sweep_laws.proofs.join_laws.a_join_tells_an_instant.Goals as goal

pub returns : goal.returns
returns c meets pair a b t now_left now_right left0 left1 left2 right0 right1 right2 answer0 answer1 answer2 answer3 answer4 low va vb nl nr held l1 a1 r1 a2 l2 a3 r2 a4 = (
  held_then meets pair a b t now_left now_right left0 left1 left2 right0 right1 right2 answer0 answer1 answer2 answer3 answer4 low va vb nl nr held l1 a1 r1 a2 l2 a3 r2 a4,
  told_then meets pair a b t now_left now_right left0 left1 left2 right0 right1 right2 answer0 answer1 answer2 answer3 answer4 low va vb nl nr held l1 a1 r1 a2 l2 a3 r2 a4,
)
