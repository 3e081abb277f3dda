-- The overflow of an epoch that is worked through in slices.
use Rattle.std.specs.Prelude.{ℕ, Option, Some, None, List, is_some}
use Rattle.plan_model.specs.declared.node.Node.{Node}
use Rattle.plan_model.specs.Meaning.{Sources, closes}
use Rattle.plan_laws.specs.Undefined.{first_below, first_undefined, overflow_there, Overflow}

-- the lowest of the first n nodes that is undefined at an instant below its closing at the punctuation p, with its least such
-- instant. Where the nodes 1 and 3 are undefined at 8 and at 2, at 9: of the first two nodes 1 at 8, and of the first none
abbrev pub overflow_under : Sources → List Node → ℕ → ℕ → Option Overflow
overflow_under source nodes p n = overflow_there (λ i. first_undefined source nodes i (closes nodes i p))
    (first_below (λ i. is_some (first_undefined source nodes i (closes nodes i p))) n)

-- the first overflow, or the other where there is one. Of node 3 at 2, and of node 1 at 8: node 1 at 8
abbrev pub or_this : Overflow → Option Overflow → Overflow
or_this o None = o
or_this o (Some lower) = lower
