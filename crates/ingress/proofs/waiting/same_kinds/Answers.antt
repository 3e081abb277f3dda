use Rattle.std.proofs.Common.{sym}
use Rattle.std.proofs.lemmas.Slice.Eq.{slice_eq-Decides}
use Rattle.tw_rows.proofs.CellEquality.{kind_eq-Decides}
use Rattle.ingress.proofs.waiting.same_kinds.Goals as goal

pub returns : goal.returns
returns c = λ t. sym ((slice_eq-Decides kind_eq-Decides _ _ _ c.eq.ensures).0 t)
