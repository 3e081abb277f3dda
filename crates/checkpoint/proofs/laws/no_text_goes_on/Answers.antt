use Rattle.frozen_state.proofs.Names.{parts_apart}
use Rattle.checkpoint.specs.Form.{form_of}
use Rattle.checkpoint.proofs.Unfinished.{one_front}
use Rattle.checkpoint.proofs.laws.no_text_goes_on.Goals as goal

pub returns : goal.returns
returns c = λ query workers policy plan f g rest of_f of_g same. one_front (form_of query workers policy plan) f g rest of_f of_g (parts_apart workers plan) same
