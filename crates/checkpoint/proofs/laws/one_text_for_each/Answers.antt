use Rattle.std.proofs.Common.{◌≡◌, Some, sym, ◌∙◌, ap}
use Rattle.frozen_state.proofs.Names.{parts_apart}
use Rattle.checkpoint.specs.declared.reading.ReadingStage.TheVariants.{Head, Ended}
use Rattle.checkpoint.specs.Form.{form_of}
use Rattle.checkpoint.specs.Steps.{State, standing, opening, reads}
use Rattle.checkpoint.proofs.Leading.{text_leads}
use Rattle.checkpoint.proofs.laws.one_text_for_each.Goals as goal

pub returns : goal.returns
returns c = λ query workers policy plan f g of_f of_g same.
    let form = form_of query workers policy plan in
    let apart = parts_apart workers plan in
    let both : Some (standing Ended f) ≡ Some (standing Ended g) =
    sym (text_leads form f of_f apart) ∙ ap (reads form (Some (standing (Head 0) (opening form)))) same ∙ text_leads form g of_g apart in
    let is : standing Ended f ≡ standing Ended g = cc in
    ap (λ (s : State). s.frozen) is
