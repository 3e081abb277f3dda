use Rattle.checkpoint.proofs.Valued.{has_text}
use Rattle.checkpoint.proofs.values.formed_has_text.Goals as goal

pub returns : goal.returns
returns c = λ query workers policy plan formed few. has_text query workers policy plan c.args.frozen.now formed few c.see_frozen.ensures
