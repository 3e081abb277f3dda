use Rattle.std.specs.Prelude.{IfOk, Result, Ok, Err}
use Rattle.snapshot_agg.proofs.operating.GroupedOperator.step.Goals as goal

-- a fact of the answer that another one gives
if_ok : {A E : Type 0} (P Q : A → Type 0) (r : Result A E) → ((x : A) → P x → Q x) → IfOk r P → IfOk r Q
if_ok P Q (Ok x) step h = step x h
if_ok P Q (Err e) step h = tt

pub returns-clause-between : goal.returns-clause-between
returns-clause-between c = if_ok _ _ c.advance.result (λ answer h left right. h) c.advance.ensures.between
