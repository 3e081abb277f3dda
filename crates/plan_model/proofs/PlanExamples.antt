-- What is found of the nodes of a few plans, worked out.
use Rattle.std.specs.Prelude.{◌≡◌, true, false, List, [], ◌∷◌, map, refl}
use Rattle.tw_rows.specs.declared.kind.CellKind.TheVariants.{Whole, Bit, Place}
use Rattle.plan_model.specs.declared.agg.Agg.TheVariants.{Count, Sum}
use Rattle.plan_model.specs.declared.node.Node.{Node}
use Rattle.plan_model.specs.declared.node.Node.TheVariants.{Source, Union, Delay, Hop, Clip, Group, Join}
use Rattle.plan_model.specs.IsPlan.{node_kinds}
use Rattle.plan_model.specs.Reach.{reach, event_level}

-- a hop of 60, a group of it and a delay of that by 60
abbrev counted : List Node
counted = Source 0 ∷ Hop 0 60 60 ∷ Group 1 (0 ∷ []) (Count ∷ []) ∷ Delay 2 60 ∷ []

reaches_of_counted : map (reach counted) (0 ∷ 1 ∷ 2 ∷ 3 ∷ []) ≡ 0 ∷ 60 ∷ 60 ∷ 120 ∷ []
reaches_of_counted = refl

levels_of_counted : map (event_level counted) (0 ∷ 1 ∷ 2 ∷ 3 ∷ []) ≡ true ∷ true ∷ false ∷ false ∷ []
levels_of_counted = refl

-- two delays of one stream, and a union of both: it looks back as far as the greater
abbrev twice_delayed : List Node
twice_delayed = Source 0 ∷ Delay 0 5 ∷ Delay 0 8 ∷ Union 1 2 ∷ Clip 3 0 [] [] ∷ []

reaches_of_both : map (reach twice_delayed) (3 ∷ 4 ∷ []) ≡ 8 ∷ 8 ∷ []
reaches_of_both = refl

levels_of_both : map (event_level twice_delayed) (3 ∷ 4 ∷ []) ≡ true ∷ true ∷ []
levels_of_both = refl

-- the columns k, v and k, w, joined by k
kinds_of_join : node_kinds (Join 0 1 (0 ∷ []) (0 ∷ [])) (Place ∷ Whole ∷ []) (Place ∷ Whole ∷ []) ≡ Place ∷ Whole ∷ Whole ∷ []
kinds_of_join = refl

-- the key in its own order, then an int for each aggregate
kinds_of_group : node_kinds (Group 0 (2 ∷ 0 ∷ []) (Count ∷ Sum 1 ∷ [])) (Place ∷ Whole ∷ Bit ∷ []) [] ≡ Bit ∷ Place ∷ Whole ∷ Whole ∷ []
kinds_of_group = refl
