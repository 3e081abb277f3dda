-- Faults that `?` hands on.
use Rattle.std.specs.Prelude.{◌≡◌, Result, Ok, Err}
use Rattle.std.specs.Result.{IsErrAnd, IfErr, OnOk}
use Rattle.std.proofs.Common.{sym, subst}
use Rattle.std.proofs.lemmas.Result.{err_from_is_err_and}
use Rattle.edge_stream.specs.declared.saved.StepFault.{StepFault}

-- what holds of a fault holds of what is handed on of it
pub handed_on : {T : Type 0} (e : StepFault) (r : Result T StepFault) (P : StepFault → Type 0) → IsErrAnd r (λ y. y ≡ e) → P e → IfErr r P
handed_on e r P is p = let x = err_from_is_err_and r is in subst (λ z. IfErr z P) (sym x.1) (subst P (sym x.2) p)

-- what follows of what is so on success, or of a fault
pub on_ok : {T E : Type 0} (r : Result T E) (P Q : Type 0) → (P → Q) → OnOk r P → OnOk r Q
on_ok (Ok x) P Q f h = f h
on_ok (Err e) P Q f h = tt

pub of_fault : {T E : Type 0} (r : Result T E) (P Q : E → Type 0) → ((e : E) → P e → Q e) → IfErr r P → IfErr r Q
of_fault (Ok x) P Q f h = tt
of_fault (Err e) P Q f h = f e h

pub on_both_ok : {T E : Type 0} (r : Result T E) (P Q R : Type 0) → (P → Q → R) → OnOk r P → OnOk r Q → OnOk r R
on_both_ok (Ok x) P Q R f h k = f h k
on_both_ok (Err e) P Q R f h k = tt

pub on_any : {T E : Type 0} (r : Result T E) (P : Type 0) → P → OnOk r P
on_any (Ok x) P h = h
on_any (Err e) P h = tt
