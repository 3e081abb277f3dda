use Rattle.std.proofs.Common.{◌++◌, ◌∷◌, [], ap, sym, ◌∙◌, List, ℕ, arith}
use Rattle.csv.specs.Records.{fields_of}
use Rattle.row_reader.proofs.Records.{IsSplit-end}
use Rattle.row_reader.proofs.record.split.Goals as goal

pub returns : goal.returns
returns c =
    c.in_ok-push_field.ensures.fields
    ∙ ap (λ (p : List ℕ). fields_of c.loop-byte.fields ++ ((p ++ c.as_slice.result.now) ∷ [])) c.loop-byte.invariant.no_partial
    ∙ ap (λ (f : List ℕ). fields_of c.loop-byte.fields ++ (f ∷ [])) c.as_slice.ensures.value
    ∙ sym (IsSplit-end _ c.loop-byte.byte-index _ _ _ _ c.loop-byte.invariant (omega arith))
