-- Plans, nodes of steps and faults of small queries, worked out.
use Rattle.std.specs.Prelude.{◌≡◌, ℕ, ℤ, pos, Option, Some, None, true, Result, Ok, Err, List, [], ◌∷◌, refl}
use Rattle.tw_rows.specs.declared.kind.Kind.TheVariants as K
use Rattle.tw_rows.specs.declared.schema.ColumnDef.{ColumnDef}
use Rattle.tw_rows.specs.declared.schema.StreamDef.{StreamDef}
use Rattle.plan_model.specs.declared.expr.CompareOp.TheVariants as C
use Rattle.plan_model.specs.declared.expr.ExprNode.TheVariants as E
use Rattle.plan_model.specs.declared.agg.Agg.TheVariants as A
use Rattle.plan_model.specs.declared.fault.QueryFault.{QueryFault}
use Rattle.plan_model.specs.declared.fault.QueryFault.TheVariants as F
use Rattle.plan_model.specs.declared.node.Node.TheVariants.{Source, Where, Select, Union, Delay, Hop, Duration, Extend, Session, Clip, Group, Join, Anti, Coalesce, Mean, Top, Follow}
use Rattle.plan_model.specs.IsPlan.{PlanParts, most_reach}
use Rattle.query_text.specs.declared.query.Let.{Let}
use Rattle.query_text.specs.declared.query.Item.{Item}
use Rattle.query_text.specs.declared.query.Pipe.{Pipe}
use Rattle.query_text.specs.declared.query.Query.{Query}
use Rattle.query_text.specs.declared.query.QueryAgg.{QueryAgg}
use Rattle.query_text.specs.declared.query.AggFun.TheVariants as G
use Rattle.query_text.specs.declared.query.QueryStep.{QueryStep}
use Rattle.query_text.specs.declared.query.QueryStep.TheVariants as S
use Rattle.query_text.specs.declared.tree.TreeNode.{TreeNode}
use Rattle.query_text.specs.declared.tree.TreeNode.TheVariants as N
use Rattle.query_plan.specs.Schemas.{count_column}
use Rattle.query_plan.specs.Planned.{planned, streams_planned}
use Rattle.query_plan.specs.Draft.{Draft, no_draft, with_nodes}
use Rattle.query_plan.specs.Steps.{step_nodes}

-- columns of one letter: an int, and a text
abbrev int_column : ℕ → ColumnDef
int_column x = record { name = x ∷ []; kind = K.Int }

abbrev text_column : ℕ → ColumnDef
text_column x = record { name = x ∷ []; kind = K.Text }

-- stream s(v int)
abbrev stream_s : StreamDef
stream_s = record { name = 115 ∷ []; schema = int_column 118 ∷ [] }

-- stream a(k text, v int); stream b(w int, k text)
abbrev stream_a : StreamDef
stream_a = record { name = 97 ∷ []; schema = text_column 107 ∷ int_column 118 ∷ [] }

abbrev stream_b : StreamDef
stream_b = record { name = 98 ∷ []; schema = int_column 119 ∷ text_column 107 ∷ [] }

-- v > 10
abbrev above_ten : List TreeNode
above_ten = N.Name (118 ∷ []) ∷ N.Int (pos 10) ∷ N.Compare C.Gt 0 1 ∷ []

-- s | where v > 10
abbrev filter_query : Query
filter_query = record { streams = stream_s ∷ []; lets = []; body = record { base = 115 ∷ []; steps = S.Where above_ten ∷ [] } }

-- the body q, which names nothing
abbrev unknown_query : Query
unknown_query = record { streams = stream_s ∷ []; lets = []; body = record { base = 113 ∷ []; steps = [] } }

a_source_and_a_filter : planned filter_query ≡ Ok (record {
  streams = stream_s ∷ [];
  nodes = Source 0 ∷ Where 0 (E.Column 0 ∷ E.Int (pos 10) ∷ E.Compare C.Gt 0 1 ∷ []) ∷ [];
  schemas = (int_column 118 ∷ []) ∷ (int_column 118 ∷ []) ∷ [];
  root = 1;
})
unfolding most_reach
a_source_and_a_filter = refl

an_unknown_base : planned unknown_query ≡ Err (F.UnknownName 1)
unfolding most_reach
an_unknown_base = refl

-- the streams a and b, and these steps over a
abbrev over_a : List QueryStep → Query
over_a steps = record { streams = stream_a ∷ stream_b ∷ []; lets = []; body = record { base = 97 ∷ []; steps = steps } }

-- both streams are planned
abbrev both_streams : Draft
both_streams = record { names = record { name = 97 ∷ []; node = 0 } ∷ record { name = 98 ∷ []; node = 1 } ∷ []; nodes = Source 0 ∷ Source 1 ∷ []; schemas = (text_column 107 ∷ int_column 118 ∷ []) ∷ (int_column 119 ∷ text_column 107 ∷ []) ∷ [] }

streams_are_sources : streams_planned 0 no_draft (stream_a ∷ stream_b ∷ []) ≡ Ok both_streams
unfolding most_reach
streams_are_sources = refl

-- anti b on k: a group of the keys of b, and the anti-join with it
anti : step_nodes 3 both_streams 0 (S.Anti (98 ∷ []) ((107 ∷ []) ∷ [])) ≡ Ok (record { node = Group 1 (1 ∷ []) []; schema = text_column 107 ∷ [] } ∷ record { node = Anti 0 2 (0 ∷ []) (0 ∷ []); schema = text_column 107 ∷ int_column 118 ∷ [] } ∷ [])
anti = refl

-- join b on k, whose right columns are w and k
join : step_nodes 3 both_streams 0 (S.Join (98 ∷ []) ((107 ∷ []) ∷ [])) ≡ Ok (record { node = Join 0 1 (0 ∷ []) (1 ∷ []); schema = text_column 107 ∷ int_column 118 ∷ int_column 119 ∷ [] } ∷ [])
join = refl

clip : step_nodes 3 both_streams 0 (S.Clip (98 ∷ []) ((107 ∷ []) ∷ [])) ≡ Ok (record { node = Clip 0 1 (0 ∷ []) (1 ∷ []); schema = text_column 107 ∷ int_column 118 ∷ [] } ∷ [])
clip = refl

-- b has an int where a has a text
union : step_nodes 3 both_streams 0 (S.Union (98 ∷ [])) ≡ Err (F.TypeClash 3)
union = refl

-- group by k : sum v as t
group : step_nodes 3 both_streams 0 (S.Group ((107 ∷ []) ∷ []) (record { fun = G.Sum; column = Some (118 ∷ []); name = 116 ∷ [] } ∷ [])) ≡ Ok (record { node = Group 0 (0 ∷ []) (A.Sum 1 ∷ []); schema = text_column 107 ∷ int_column 116 ∷ [] } ∷ [])
group = refl

a_sum_of_texts : step_nodes 3 both_streams 0 (S.Group [] (record { fun = G.Sum; column = Some (107 ∷ []); name = 116 ∷ [] } ∷ [])) ≡ Err (F.TypeClash 3)
a_sum_of_texts = refl

a_period_that_does_not_divide : planned (over_a (S.Hop 60 25 ∷ [])) ≡ Err (F.BadWindow 3)
unfolding most_reach
a_period_that_does_not_divide = refl

-- 2^60 and one more
too_far : planned (over_a (S.Delay 1152921504606846977 ∷ [])) ≡ Err (F.ReachTooLong 3)
unfolding most_reach
too_far = refl

not_too_far : planned (over_a (S.Delay 1152921504606846976 ∷ S.Hop 60 25 ∷ [])) ≡ Err (F.BadWindow 4)
unfolding most_reach
not_too_far = refl

-- a let that is named as a stream; a let that is used after it; a step after a let is numbered behind it
abbrev with_a_let : List QueryStep → Query
with_a_let steps = record { streams = stream_a ∷ stream_b ∷ []; lets = record { name = 99 ∷ []; pipe = record { base = 97 ∷ []; steps = S.Where above_ten ∷ S.Where above_ten ∷ [] } } ∷ []; body = record { base = 99 ∷ []; steps = steps } }

items_behind_a_let : planned (with_a_let (S.Union (120 ∷ []) ∷ [])) ≡ Err (F.UnknownName 6)
unfolding most_reach
items_behind_a_let = refl

a_let_named_as_a_stream : planned (record (with_a_let []) { streams = stream_a ∷ record stream_b { name = 99 ∷ [] } ∷ [] }) ≡ Err (F.NameTaken 2)
unfolding most_reach
a_let_named_as_a_stream = refl

two_streams_of_a_name : planned (record (with_a_let []) { streams = stream_a ∷ record stream_b { name = 97 ∷ [] } ∷ [] }) ≡ Err (F.NameTaken 1)
unfolding most_reach
two_streams_of_a_name = refl

no_items : step_nodes 3 both_streams 0 (S.Select []) ≡ Ok (record { node = Select 0 []; schema = [] } ∷ [])
no_items = refl

a_column_twice_in_a_join : planned (record (over_a (S.Join (98 ∷ []) ((107 ∷ []) ∷ []) ∷ [])) { streams = stream_a ∷ record stream_b { schema = int_column 118 ∷ text_column 107 ∷ [] } ∷ [] }) ≡ Err (F.NameTaken 3)
unfolding most_reach
a_column_twice_in_a_join = refl

a_window_over_a_group : planned (over_a (S.Group ((107 ∷ []) ∷ []) [] ∷ S.Hop 60 20 ∷ [])) ≡ Err (F.NotEventLevel 4)
unfolding most_reach
a_window_over_a_group = refl

-- a hop over a group, whose rows are no events
a_hop_over_a_group : step_nodes 4 (with_nodes both_streams (record { node = Group 0 (0 ∷ []) []; schema = text_column 107 ∷ [] } ∷ [])) 2 (S.Hop 60 20) ≡ Err (F.NotEventLevel 4)
a_hop_over_a_group = refl

-- coalesce over a group, and a hop over that
coalesced_are_events : step_nodes 5 (with_nodes both_streams (record { node = Group 0 (0 ∷ []) []; schema = text_column 107 ∷ [] } ∷ record { node = Coalesce 2; schema = text_column 107 ∷ [] } ∷ [])) 3 (S.Hop 60 20)
    ≡ Ok (record { node = Hop 3 60 20; schema = text_column 107 ∷ [] } ∷ [])
coalesced_are_events = refl

-- left b on k else -1: five nodes, behind the two streams
left : step_nodes 3 both_streams 0 (S.Left (98 ∷ []) ((107 ∷ []) ∷ []) ((N.Int (pos 1) ∷ N.Neg 0 ∷ []) ∷ [])) ≡ Ok (
    record { node = Join 0 1 (0 ∷ []) (1 ∷ []); schema = text_column 107 ∷ int_column 118 ∷ int_column 119 ∷ [] }
    ∷ record { node = Group 1 (1 ∷ []) []; schema = text_column 107 ∷ [] }
    ∷ record { node = Anti 0 3 (0 ∷ []) (0 ∷ []); schema = text_column 107 ∷ int_column 118 ∷ [] }
    ∷ record { node = Select 4 ((E.Column 0 ∷ []) ∷ (E.Column 1 ∷ []) ∷ (E.Int (pos 1) ∷ E.Neg 0 ∷ []) ∷ []); schema = text_column 107 ∷ int_column 118 ∷ int_column 119 ∷ [] }
    ∷ record { node = Union 2 5; schema = text_column 107 ∷ int_column 118 ∷ int_column 119 ∷ [] } ∷ [])
left = refl

a_literal_of_another_kind : step_nodes 3 both_streams 0 (S.Left (98 ∷ []) ((107 ∷ []) ∷ []) ((N.Bool true ∷ []) ∷ [])) ≡ Err (F.TypeClash 3)
a_literal_of_another_kind = refl

a_literal_too_many : step_nodes 3 both_streams 0 (S.Left (98 ∷ []) ((107 ∷ []) ∷ []) ((N.Int (pos 1) ∷ []) ∷ (N.Int (pos 1) ∷ []) ∷ [])) ≡ Err (F.TypeClash 3)
a_literal_too_many = refl

-- group by k : count as n, avg v as m: the sum and both counts, and the mean of column 2
average : step_nodes 3 both_streams 0 (S.Group ((107 ∷ []) ∷ []) (record { fun = G.Count; column = None; name = 110 ∷ [] } ∷ record { fun = G.Avg; column = Some (118 ∷ []); name = 109 ∷ [] } ∷ [])) ≡ Ok (
    record { node = Group 0 (0 ∷ []) (A.Count ∷ A.Sum 1 ∷ A.Count ∷ []); schema = text_column 107 ∷ int_column 110 ∷ int_column 109 ∷ count_column ∷ [] }
    ∷ record { node = Mean 2 (2 ∷ []); schema = text_column 107 ∷ int_column 110 ∷ int_column 109 ∷ [] } ∷ [])
average = refl

an_average_of_texts : step_nodes 3 both_streams 0 (S.Group [] (record { fun = G.Avg; column = Some (107 ∷ []); name = 109 ∷ [] } ∷ [])) ≡ Err (F.TypeClash 3)
an_average_of_texts = refl

-- top 1000 per k by v, one more, and by a text
top : step_nodes 3 both_streams 0 (S.Top 1000 ((107 ∷ []) ∷ []) (118 ∷ [])) ≡ Ok (record { node = Top 0 (0 ∷ []) 1 1000; schema = text_column 107 ∷ int_column 118 ∷ [] } ∷ [])
top = refl

a_top_of_too_many : step_nodes 3 both_streams 0 (S.Top 1001 [] (118 ∷ [])) ≡ Err (F.BadWindow 3)
a_top_of_too_many = refl

-- a text clashes before the number is too great, and a name is unknown before that
a_top_by_texts : step_nodes 3 both_streams 0 (S.Top 1001 [] (107 ∷ [])) ≡ Err (F.TypeClash 3)
a_top_by_texts = refl

a_top_by_nothing : step_nodes 3 both_streams 0 (S.Top 1001 ((107 ∷ []) ∷ []) (120 ∷ [])) ≡ Err (F.UnknownName 3)
a_top_by_nothing = refl

-- follow b on k within 5
follow : step_nodes 3 both_streams 0 (S.Follow (98 ∷ []) ((107 ∷ []) ∷ []) 5) ≡ Ok (record { node = Follow 0 1 (0 ∷ []) (1 ∷ []) 5; schema = text_column 107 ∷ int_column 118 ∷ int_column 119 ∷ [] } ∷ [])
follow = refl

a_follow_over_a_group : step_nodes 4 (with_nodes both_streams (record { node = Group 0 (0 ∷ []) []; schema = text_column 107 ∷ [] } ∷ [])) 2 (S.Follow (97 ∷ []) ((107 ∷ []) ∷ []) 5) ≡ Err (F.NotEventLevel 4)
a_follow_over_a_group = refl
