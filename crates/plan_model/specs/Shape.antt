-- The children of a node: it reads a stream, one child, or two.
use Rattle.std.specs.Prelude.{◌≡◌, ℕ, ◌<◌, Option, Some, None, List, slice_get}
use Rattle.plan_model.specs.declared.node.Node.{Node}
use Rattle.plan_model.specs.declared.node.Node.TheVariants.{Source, Where, Select, Union, Delay, Hop, Duration, Extend, Session, Clip, Group, Join, Anti, Coalesce, Mean, Top, Follow}
use Rattle.plan_model.specs.Fold.{result}

-- a node reads the stream of a number, the child of a number, or a left and a right child
pub data Shape : Type 0 where
  Stream : (stream : ℕ) → Shape
  One : (child : ℕ) → Shape
  Two : (left right : ℕ) → Shape

-- the shape of a node. Of a hop over node 4 it is `One 4`
abbrev pub shape : Node → Shape
shape (Source stream) = Stream stream
shape (Where of test) = One of
shape (Select of items) = One of
shape (Union left right) = Two left right
shape (Delay of by) = One of
shape (Hop of size period) = One of
shape (Duration of by) = One of
shape (Extend of by) = One of
shape (Session of timeout key) = One of
shape (Clip left right left_key right_key) = Two left right
shape (Group of key aggs) = One of
shape (Join left right left_key right_key) = Two left right
shape (Anti left right left_key right_key) = Two left right
shape (Coalesce of) = One of
shape (Mean of at) = One of
shape (Top of key by count) = One of
shape (Follow left right left_key right_key within) = Two left right

-- the number of the only or left child of a shape
abbrev pub left_in : Shape → Option ℕ
left_in (Stream stream) = None
left_in (One child) = Some child
left_in (Two left right) = Some left

-- and of its right child
abbrev pub right_in : Shape → Option ℕ
right_in (Stream stream) = None
right_in (One child) = None
right_in (Two left right) = Some right

-- the number of the only or left child
abbrev pub left_child : Node → Option ℕ
left_child n = left_in (shape n)

-- the number of the right child
abbrev pub right_child : Node → Option ℕ
right_child n = right_in (shape n)

-- what stands at a child's number, and `none` where there is no child
abbrev pub at_child : {R : Type 0} → R → (ℕ → R) → Option ℕ → R
at_child none at None = none
at_child none at (Some i) = at i

-- what a node of that shape reads on the left
abbrev pub read_left : {R : Type 0} → R → (ℕ → R) → (ℕ → R) → Shape → R
read_left none source at (Stream stream) = source stream
read_left none source at (One child) = at child
read_left none source at (Two left right) = at left

-- what a node reads on the left: a source its stream, every other node its child
abbrev pub left_of : {R : Type 0} → R → (ℕ → R) → (ℕ → R) → Node → R
left_of none source at n = read_left none source at (shape n)

-- what a node reads on the right
abbrev pub right_of : {R : Type 0} → R → (ℕ → R) → Node → R
right_of none at n = at_child none at (right_child n)

-- over a plan: the result of each node is made from what it reads on the left and on the right. `none` stands for a
-- child that is not there, and `source` gives what the sources read
abbrev pub over_nodes : {R : Type 0} → R → (ℕ → R) → (Node → R → R → R) → List Node → ℕ → R
over_nodes none source node = result none (λ n at. node n (left_of none source at n) (right_of none at n))

-- the child, if there is one, has a number below i
abbrev pub HasLower : ℕ → Option ℕ → Type 0
HasLower i None = Unit {0}
HasLower i (Some child) = child < i

-- children have lower numbers than their parents
abbrev pub IsOrdered : List Node → Type 0
IsOrdered nodes = (i : ℕ) (n : Node) → slice_get nodes i ≡ Some n → HasLower i (left_child n) × HasLower i (right_child n)
