-- The text of a plan: a line for each node, and the number of the root.
use Rattle.std.specs.Prelude.{ℕ, suc, Bool, cond, option_to_list, List, [], ◌∷◌, ◌++◌, map, flat_map, slice_index_or, codes, decimal}
use Rattle.tw_rows.specs.declared.kind.Kind.{Kind}
use Rattle.tw_rows.specs.declared.kind.Kind.TheVariants as K
use Rattle.tw_rows.specs.declared.schema.ColumnDef.{ColumnDef}
use Rattle.plan_model.specs.declared.node.Node.{Node}
use Rattle.plan_model.specs.declared.node.Node.TheVariants.{Source, Where, Select, Union, Delay, Hop, Duration, Extend, Session, Clip, Group, Join, Anti, Coalesce, Mean, Top, Follow}
use Rattle.plan_model.specs.Meaning.{left_child, right_child}
use Rattle.plan_model.specs.Reach.{reach, event_level}
use Rattle.plan_model.specs.IsPlan.{PlanParts}

-- the word of a node
abbrev pub word_of : Node → List ℕ
word_of (Source stream) = codes "source"
word_of (Where of test) = codes "where"
word_of (Select of items) = codes "select"
word_of (Union left right) = codes "union"
word_of (Delay of by) = codes "delay"
word_of (Hop of size period) = codes "hop"
word_of (Duration of by) = codes "duration"
word_of (Extend of by) = codes "extend"
word_of (Session of timeout key) = codes "session"
word_of (Clip left right left_key right_key) = codes "clip"
word_of (Group of key aggs) = codes "group"
word_of (Join left right left_key right_key) = codes "join"
word_of (Anti left right left_key right_key) = codes "anti"
word_of (Coalesce of) = codes "coalesce"
word_of (Mean of at) = codes "mean"
word_of (Top of key by count) = codes "top"
word_of (Follow left right left_key right_key within) = codes "follow"

-- the name of a kind, as a stream declares it: of a decimal of two places dec(2)
abbrev pub kind_word : Kind → List ℕ
kind_word K.Int = codes "int"
kind_word K.Bool = codes "bool"
kind_word K.Text = codes "text"
kind_word (K.Dec places) = codes "dec(" ++ decimal places ++ codes ")"

-- the level of a node
abbrev pub level_word : Bool → List ℕ
level_word level = cond level (codes "event") (codes "snapshot")

-- the texts with commas between them, and a `-` where there are none
abbrev pub listed : List (List ℕ) → List ℕ
listed [] = codes "-"
listed (x ∷ xs) = x ++ flat_map (λ y. codes "," ++ y) xs

-- a column, as sym:text
abbrev pub column_text : ColumnDef → List ℕ
column_text c = c.name ++ codes ":" ++ kind_word c.kind

-- the numbers of the children
abbrev pub children : Node → List ℕ
children n = option_to_list (left_child n) ++ option_to_list (right_child n)

-- the line of the node n of number i: its number, word, children, level, reach and columns
abbrev pub node_line : PlanParts → ℕ → Node → List ℕ
node_line plan i n =
    decimal i ++ codes " " ++ word_of n ++ codes " " ++ listed (map decimal (children n)) ++ codes " "
    ++ level_word (event_level plan.nodes i) ++ codes " " ++ decimal (reach plan.nodes i) ++ codes " "
    ++ listed (map column_text (slice_index_or plan.schemas i [])) ++ codes "\n"

-- the lines of the nodes, of which the first has number i
abbrev pub node_lines : PlanParts → ℕ → List Node → List ℕ
node_lines plan i [] = []
node_lines plan i (n ∷ ns) = node_line plan i n ++ node_lines plan (suc i) ns

-- the text of a plan. Of a filter over a stream s(k text, v int):
-- 0 source - event 0 k:text,v:int
-- 1 where 0 event 0 k:text,v:int
-- root 1
abbrev pub explained : PlanParts → List ℕ
explained plan = node_lines plan 0 plan.nodes ++ codes "root " ++ decimal plan.root ++ codes "\n"
