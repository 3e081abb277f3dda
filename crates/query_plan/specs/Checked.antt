-- The checks of what an item puts behind a draft, but for how far its nodes reach.
use Rattle.std.specs.Prelude.{ℕ, ◌+◌, nat_lt, Bool, not, ◌||◌, Result, List, length}
use Rattle.std.specs.List.{list_any}
use Rattle.plan_model.specs.declared.fault.QueryFault.{QueryFault}
use Rattle.plan_model.specs.declared.fault.QueryFault.TheVariants as F
use Rattle.plan_model.specs.IsPlan.{most_nodes, most_columns}
use Rattle.query_plan.specs.Schemas.{name_twice}
use Rattle.query_plan.specs.Draft.{Planned, has_key_twice, and_then, needs}

-- one of the nodes has more columns than a node may have
abbrev pub is_wide : List Planned → Bool
is_wide ps = list_any (λ p. nat_lt most_columns (length p.schema)) ps

-- one of the nodes has two columns of one name, or names a column twice in a key
abbrev pub has_twice : List Planned → Bool
has_twice ps = list_any (λ p. name_twice p.schema || has_key_twice p.node) ps

-- nothing, or the first fault of these nodes behind n others
abbrev pub checked : ℕ → ℕ → List Planned → Result (Unit {0}) QueryFault
checked item n ps =
    and_then (needs (not (nat_lt most_nodes (n + length ps))) (F.TooManyNodes item)) (λ u.
    and_then (needs (not (is_wide ps)) (F.TooManyColumns item)) (λ u.
    needs (not (has_twice ps)) (F.NameTaken item)))
