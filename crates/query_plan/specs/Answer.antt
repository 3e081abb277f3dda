-- What a function of the planner answers.
use Rattle.std.specs.Prelude.{◌≡◌, Result, Ok, Err}
use Rattle.plan_model.specs.declared.fault.QueryError.{QueryError}
use Rattle.plan_model.specs.declared.fault.QueryError.TheVariants as E
use Rattle.plan_model.specs.declared.fault.QueryFault.{QueryFault}

-- the answer is what a definition says, seen by `view`: its value, or its fault. Out of memory, nothing is said
abbrev pub Is : {X Y : Type 0} → (X → Y) → Result X QueryError → Result Y QueryFault → Type 0
Is view (Ok x) r = r ≡ Ok (view x)
Is view (Err (E.Fault fault)) r = r ≡ Err fault
Is view (Err E.Memory) r = Unit {0}
