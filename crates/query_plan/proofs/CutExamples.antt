-- A few plans, worked out.
use Rattle.std.specs.Prelude.{◌≡◌, true, false, Some, List, [], ◌∷◌, refl}
use Rattle.tw_rows.specs.declared.kind.Kind.TheVariants.{Int as KindOfInts}
use Rattle.tw_rows.specs.declared.schema.ColumnDef.{ColumnDef}
use Rattle.tw_rows.specs.declared.schema.StreamDef.{StreamDef}
use Rattle.plan_model.specs.declared.agg.Agg.TheVariants.{Count}
use Rattle.plan_model.specs.declared.expr.ExprNode.TheVariants.{Column, Int}
use Rattle.std.specs.Prelude.{pos}
use Rattle.plan_model.specs.declared.node.Node.{Node}
use Rattle.plan_model.specs.declared.node.Node.TheVariants.{Source, Select, Union, Hop, Group, Join}
use Rattle.plan_model.specs.IsPlan.{PlanParts}
use Rattle.query_plan.specs.Cuts.{cut_places, first_uncut, may_be_cut}

-- a stream of three columns
three : StreamDef
three = (let column : ColumnDef = record { name = []; kind = KindOfInts } in record { name = []; schema = column ∷ column ∷ column ∷ [] })

of_nodes : List StreamDef → List Node → PlanParts
of_nodes streams nodes = record { streams = streams; nodes = nodes; schemas = []; root = 0 }

-- a count by the column 0
by_the_key : may_be_cut (of_nodes (three ∷ []) (Source 0 ∷ Group 0 (0 ∷ []) (Count ∷ []) ∷ [])) (0 ∷ []) ≡ true
unfolding three of_nodes
by_the_key = refl

by_another_column : first_uncut (of_nodes (three ∷ []) (Source 0 ∷ Group 0 (0 ∷ []) (Count ∷ []) ∷ [])) (1 ∷ []) ≡ Some 1
unfolding three of_nodes
by_another_column = refl

-- a count of all rows
by_no_column : first_uncut (of_nodes (three ∷ []) (Source 0 ∷ Hop 0 10 10 ∷ Group 1 [] (Count ∷ []) ∷ [])) (0 ∷ []) ≡ Some 2
unfolding three of_nodes
by_no_column = refl

-- a join of two streams, by the columns 0 and 1 of the left one and 1 and 2 of the right one
join : List Node
join = Source 0 ∷ Source 1 ∷ Join 0 1 (0 ∷ 1 ∷ []) (1 ∷ 2 ∷ []) ∷ []

by_both_keys : cut_places (of_nodes (three ∷ three ∷ []) join) (1 ∷ 2 ∷ []) 2 ≡ 1 ∷ []
unfolding three of_nodes join
by_both_keys = refl

by_columns_at_other_places : first_uncut (of_nodes (three ∷ three ∷ []) join) (0 ∷ 2 ∷ []) ≡ Some 2
unfolding three of_nodes join
by_columns_at_other_places = refl

-- two streams together
both_sides_alike : may_be_cut (of_nodes (three ∷ three ∷ []) (Source 0 ∷ Source 1 ∷ Union 0 1 ∷ [])) (1 ∷ 1 ∷ []) ≡ true
unfolding three of_nodes
both_sides_alike = refl

both_sides_otherwise : may_be_cut (of_nodes (three ∷ three ∷ []) (Source 0 ∷ Source 1 ∷ Union 0 1 ∷ [])) (0 ∷ 1 ∷ []) ≡ false
unfolding three of_nodes
both_sides_otherwise = refl

-- items, of which the second is the column 0 and the first is none
a_select_that_keeps_it : cut_places (of_nodes (three ∷ []) (Source 0 ∷ Select 0 ((Int (pos 5) ∷ []) ∷ (Column 0 ∷ []) ∷ []) ∷ [])) (0 ∷ []) 1 ≡ 1 ∷ []
unfolding three of_nodes
a_select_that_keeps_it = refl

a_select_that_drops_it : first_uncut (of_nodes (three ∷ []) (Source 0 ∷ Select 0 ((Column 1 ∷ []) ∷ []) ∷ [])) (0 ∷ []) ≡ Some 1
unfolding three of_nodes
a_select_that_drops_it = refl

-- a column that is not there, and one column more than there are streams
by_no_such_column : first_uncut (of_nodes (three ∷ []) (Source 0 ∷ [])) (3 ∷ []) ≡ Some 0
unfolding three of_nodes
by_no_such_column = refl

by_too_many_columns : may_be_cut (of_nodes (three ∷ []) (Source 0 ∷ [])) (0 ∷ 0 ∷ []) ≡ false
unfolding three of_nodes
by_too_many_columns = refl
