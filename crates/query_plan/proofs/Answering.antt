-- Answers that depend on earlier answers.
use Rattle.std.specs.Prelude.{◌≡◌, Result, Ok, Err}
use Rattle.std.specs.Result.{IsErrAnd}
use Rattle.std.proofs.Common.{sym, ◌∙◌, ap, subst}
use Rattle.std.proofs.lemmas.Result.{err_from_is_err_and}
use Rattle.plan_model.specs.declared.fault.QueryError.{QueryError}
use Rattle.plan_model.specs.declared.fault.QueryError.TheVariants as E
use Rattle.plan_model.specs.declared.fault.QueryFault.{QueryFault}
use Rattle.query_plan.specs.Answer.{Is}
use Rattle.query_plan.specs.Draft.{and_then}

-- an answer is the same of what is equal
pub Is-along : {X Y : Type 0} (view : X → Y) (x : Result X QueryError) (r s : Result Y QueryFault) → r ≡ s → Is view x s → Is view x r
Is-along view x r s e h = let P = λ (q : Result _ QueryFault). Is view x q in subst P (sym e) h

-- a fault is passed on
pub passed : {X Y Z W : Type 0} (view : X → Y) (seen : Z → W) (e : QueryError) (r : Result Y QueryFault) (f : Y → Result W QueryFault) → Is view (Err e) r → Is seen (Err e) (and_then r f)
passed view seen (E.Fault fault) r f h = ap (λ q. and_then q f) h
passed view seen E.Memory r f h = tt

-- and behind a value it goes on
pub goes_on : {Y W : Type 0} (a : Y) (r : Result Y QueryFault) (f : Y → Result W QueryFault) → r ≡ Ok a → and_then r f ≡ f a
goes_on a r f h = ap (λ q. and_then q f) h

-- so it is with what `?` hands on
pub handed_on : {Y Z W : Type 0} (seen : Z → W) (e : QueryError) (r : Result Y QueryFault) (whole : Result W QueryFault) (f : Y → Result W QueryFault) (answer : Result Z QueryError) →
    IsErrAnd answer (λ y. y ≡ e) → whole ≡ and_then r f → Is {X = Y} (λ y. y) (Err e) r → Is seen answer whole
handed_on seen e r whole f answer err so h =
    let x = err_from_is_err_and answer err in
    let P = λ (a : Result _ QueryError). Is seen a (and_then r f) in
    Is-along seen answer whole (and_then r f) so (subst P (sym (x.1 ∙ ap Err x.2)) (passed (λ y. y) seen e r f h))
