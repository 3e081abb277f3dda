use Rattle.edge_history.proofs.Retaining.{AreEvents-none_fails}
use Rattle.key_nodes.proofs.Clipping.{clipped_valid}
use Rattle.sweep_laws.proofs.ClipTelling.{clips_then, clips_told, clipped_is_gone, unclipped_is_held, clips_between}
use Rattle.sweep_laws.proofs.life_laws.a_clip_tells_an_instant.Goals as goal

pub returns : goal.returns
returns c = record {
  told = λ meets t a b rows stay gone h s1 g now rest later ended answer0 answer1 answer2 answer3 low valid is s2 e come a1 a2 a3.
      let v = AreEvents-none_fails a valid in
      let s = AreEvents-none_fails _ (clipped_valid meets a b valid) in (
        clips_then meets t a b rows stay gone h s1 g now rest later ended answer0 answer1 answer2 answer3 low v s is s2 e come a1 a2 a3,
        clips_told meets t a b rows stay gone h s1 g now rest later ended answer0 answer1 answer2 answer3 low v s is s2 e come a1 a2 a3,
      );
  clipped = λ meets t a b rows stay gone h s1 g now i x mid valid. clipped_is_gone meets t a b rows stay gone h s1 g now i x mid (AreEvents-none_fails a valid);
  held = λ meets t a b rows stay gone h s1 g now i x mid valid. unclipped_is_held meets t a b rows stay gone h s1 g now i x mid (AreEvents-none_fails a valid);
  between = λ meets u t a b rows low va vb. clips_between meets u t a b rows low (AreEvents-none_fails a va) (AreEvents-none_fails b vb) (AreEvents-none_fails _ (clipped_valid meets a b va));
}
