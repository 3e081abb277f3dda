-- The equation of a plan, and the induction over its nodes.
use Rattle.std.specs.Prelude.{◌≡◌, ℕ, ◌<◌, Option, Some, None, List, [], ◌++◌, length, slice_get, slice_index_or, refl}
use Rattle.std.proofs.Common.{sym, ◌∙◌, ap, inl, inr}
use Rattle.std.proofs.lemmas.Bool.{cases_lt}
use Rattle.std.proofs.lemmas.Option.{slice_get-get_or}
use Rattle.plan_model.specs.declared.node.Node.{Node}
use Rattle.plan_model.specs.declared.node.Node.TheVariants.{Source}
use Rattle.plan_model.specs.Shape.{Shape, Stream, One, Two, shape, left_in, at_child, left_child, right_child, read_left, left_of, right_of, over_nodes, HasLower, IsOrdered}
use Rattle.plan_model.proofs.Folds.{result-is, result-past, by_lower}

-- a child's result is one of those below its parent
pub at_child_below : {R : Type 0} (none : R) (f g : ℕ → R) (i : ℕ) → ((j : ℕ) → j < i → f j ≡ g j) → (child : Option ℕ) → HasLower i child → at_child none f child ≡ at_child none g child
at_child_below none f g i same None h = refl
at_child_below none f g i same (Some j) h = same j h

read_left_below : {R : Type 0} (none : R) (source f g : ℕ → R) (i : ℕ) → ((j : ℕ) → j < i → f j ≡ g j) → (s : Shape) → HasLower i (left_in s) → read_left none source f s ≡ read_left none source g s
read_left_below none source f g i same (Stream stream) h = refl
read_left_below none source f g i same (One child) h = same child h
read_left_below none source f g i same (Two left right) h = same left h

pub left_of_below : {R : Type 0} (none : R) (source f g : ℕ → R) (i : ℕ) → ((j : ℕ) → j < i → f j ≡ g j) → (n : Node) → HasLower i (left_child n) → left_of none source f n ≡ left_of none source g n
left_of_below none source f g i same n h = read_left_below none source f g i same (shape n) h

-- the equation of a plan: the result of a node is made from the results that it reads
pub over_nodes-is : {R : Type 0} (none : R) (source : ℕ → R) (node : Node → R → R → R) (nodes : List Node) → IsOrdered nodes → (i : ℕ) (n : Node) → slice_get nodes i ≡ Some n →
    over_nodes none source node nodes i ≡ node n (left_of none source (over_nodes none source node nodes) n) (right_of none (over_nodes none source node nodes) n)
over_nodes-is none source node nodes ordered i n there =
    result-is none (λ n at. node n (left_of none source at n) (right_of none at n)) nodes i n there
    (λ f g same. ap (λ a. node n a (right_of none f n)) (left_of_below none source f g i same n (ordered i n there).0)
    ∙ ap (λ b. node n (left_of none source g n) b) (at_child_below none f g i same (right_child n) (ordered i n there).1))

-- and so from what stands for those of the nodes before it, where that is the same
pub over_nodes-from : {R : Type 0} (none : R) (source : ℕ → R) (node : Node → R → R → R) (nodes : List Node) → IsOrdered nodes → (i : ℕ) (n : Node) → slice_get nodes i ≡ Some n →
    (done : ℕ → R) → ((j : ℕ) → j < i → done j ≡ over_nodes none source node nodes j) →
    over_nodes none source node nodes i ≡ node n (left_of none source done n) (right_of none done n)
over_nodes-from none source node nodes ordered i n there done same =
    over_nodes-is none source node nodes ordered i n there
    ∙ sym (ap (λ a. node n a (right_of none done n)) (left_of_below none source done (over_nodes none source node nodes) i same n (ordered i n there).0)
    ∙ ap (λ b. node n (left_of none source (over_nodes none source node nodes) n) b) (at_child_below none done (over_nodes none source node nodes) i same (right_child n) (ordered i n there).1))

-- what holds of what the sources read and of what stands at lower numbers holds of what a node reads on the left
shape_all : {A B C : Type 0} (Q : A → B → C → Type 0) (a : A) (b : B) (c : C) (sa : ℕ → A) (sb : ℕ → B) (sc : ℕ → C) (fa : ℕ → A) (fb : ℕ → B) (fc : ℕ → C) (i : ℕ) (s : Shape) →
    HasLower i (left_in s) → ((k : ℕ) → Q (sa k) (sb k) (sc k)) → ((k : ℕ) → k < i → Q (fa k) (fb k) (fc k)) → Q (read_left a sa fa s) (read_left b sb fb s) (read_left c sc fc s)
shape_all Q a b c sa sb sc fa fb fc i (Stream stream) h source child = source stream
shape_all Q a b c sa sb sc fa fb fc i (One of) h source child = child of h
shape_all Q a b c sa sb sc fa fb fc i (Two left right) h source child = child left h

pub left_all : {A B C : Type 0} (Q : A → B → C → Type 0) (a : A) (b : B) (c : C) (sa : ℕ → A) (sb : ℕ → B) (sc : ℕ → C) (fa : ℕ → A) (fb : ℕ → B) (fc : ℕ → C) (i : ℕ) (n : Node) →
    HasLower i (left_child n) → ((s : ℕ) → Q (sa s) (sb s) (sc s)) → ((k : ℕ) → k < i → Q (fa k) (fb k) (fc k)) → Q (left_of a sa fa n) (left_of b sb fb n) (left_of c sc fc n)
left_all Q a b c sa sb sc fa fb fc i n = shape_all Q a b c sa sb sc fa fb fc i (shape n)

-- and on the right, where it holds of none
pub child_all : {A B C : Type 0} (Q : A → B → C → Type 0) (a : A) (b : B) (c : C) (fa : ℕ → A) (fb : ℕ → B) (fc : ℕ → C) (i : ℕ) (child : Option ℕ) →
    HasLower i child → Q a b c → ((k : ℕ) → k < i → Q (fa k) (fb k) (fc k)) → Q (at_child a fa child) (at_child b fb child) (at_child c fc child)
child_all Q a b c fa fb fc i None h none at = none
child_all Q a b c fa fb fc i (Some k) h none at = at k h

pub right_all : {A B C : Type 0} (Q : A → B → C → Type 0) (a : A) (b : B) (c : C) (fa : ℕ → A) (fb : ℕ → B) (fc : ℕ → C) (i : ℕ) (n : Node) →
    HasLower i (right_child n) → Q a b c → ((k : ℕ) → k < i → Q (fa k) (fb k) (fc k)) → Q (right_of a fa n) (right_of b fb n) (right_of c fc n)
right_all Q a b c fa fb fc i n = child_all Q a b c fa fb fc i (right_child n)

-- what a node reads of longer lists is what it read, followed by what it reads of the parts that are new
shape_longer : {X : Type 0} (g m f l : ℕ → List X) (s : Shape) → read_left [] (λ k. g k ++ m k) (λ k. f k ++ l k) s ≡ read_left [] g f s ++ read_left [] m l s
shape_longer g m f l (Stream stream) = refl
shape_longer g m f l (One child) = refl
shape_longer g m f l (Two left right) = refl

pub left_longer : {X : Type 0} (g m f l : ℕ → List X) (n : Node) → left_of [] (λ k. g k ++ m k) (λ k. f k ++ l k) n ≡ left_of [] g f n ++ left_of [] m l n
left_longer g m f l n = shape_longer g m f l (shape n)

child_longer : {X : Type 0} (f l : ℕ → List X) (child : Option ℕ) → at_child [] (λ k. f k ++ l k) child ≡ at_child [] f child ++ at_child [] l child
child_longer f l None = refl
child_longer f l (Some k) = refl

pub right_longer : {X : Type 0} (f l : ℕ → List X) (n : Node) → right_of [] (λ k. f k ++ l k) n ≡ right_of [] f n ++ right_of [] l n
right_longer f l n = child_longer f l (right_child n)

-- three results that are made over one plan, and a relation between them
module _ {R S T : Type 0} (rnone : R) (snone : S) (tnone : T) (rsource : ℕ → R) (ssource : ℕ → S) (tsource : ℕ → T)
    (rnode : Node → R → R → R) (snode : Node → S → S → S) (tnode : Node → T → T → T) (Q : R → S → T → Type 0) (nodes : List Node) where
  -- the relation holds of what stands at a number
  abbrev pub Holds : ℕ → Type 0
  Holds i = Q (over_nodes rnone rsource rnode nodes i) (over_nodes snone ssource snode nodes i) (over_nodes tnone tsource tnode nodes i)

  -- the relation holds of what a node reads on the left, and on the right
  abbrev pub HoldsLeft : Node → Type 0
  HoldsLeft n = Q (left_of rnone rsource (over_nodes rnone rsource rnode nodes) n) (left_of snone ssource (over_nodes snone ssource snode nodes) n) (left_of tnone tsource (over_nodes tnone tsource tnode nodes) n)

  abbrev pub HoldsRight : Node → Type 0
  HoldsRight n = Q (right_of rnone (over_nodes rnone rsource rnode nodes) n) (right_of snone (over_nodes snone ssource snode nodes) n) (right_of tnone (over_nodes tnone tsource tnode nodes) n)

  -- the relation holds of what a node makes of that
  abbrev pub HoldsMade : Node → Type 0
  HoldsMade n =
      Q (rnode n (left_of rnone rsource (over_nodes rnone rsource rnode nodes) n) (right_of rnone (over_nodes rnone rsource rnode nodes) n))
      (snode n (left_of snone ssource (over_nodes snone ssource snode nodes) n) (right_of snone (over_nodes snone ssource snode nodes) n))
      (tnode n (left_of tnone tsource (over_nodes tnone tsource tnode nodes) n) (right_of tnone (over_nodes tnone tsource tnode nodes) n))

  pub child_holds : Q rnone snone tnone → (i : ℕ) → ((j : ℕ) → j < i → Holds j) → (child : Option ℕ) → HasLower i child →
      Q (at_child rnone (over_nodes rnone rsource rnode nodes) child) (at_child snone (over_nodes snone ssource snode nodes) child) (at_child tnone (over_nodes tnone tsource tnode nodes) child)
  child_holds none i below child h = child_all Q rnone snone tnone (over_nodes rnone rsource rnode nodes) (over_nodes snone ssource snode nodes) (over_nodes tnone tsource tnode nodes) i child h none below

  pub left_holds : ((s : ℕ) → Q (rsource s) (ssource s) (tsource s)) → (i : ℕ) → ((j : ℕ) → j < i → Holds j) → (n : Node) → HasLower i (left_child n) → HoldsLeft n
  left_holds source i below n h = left_all Q rnone snone tnone rsource ssource tsource (over_nodes rnone rsource rnode nodes) (over_nodes snone ssource snode nodes) (over_nodes tnone tsource tnode nodes) i n h source below

  -- the induction over a plan: the relation holds at each number, if it holds where there is no node, of what sources
  -- read, and of each node where it holds of what the node reads
  pub by_nodes : IsOrdered nodes → Q rnone snone tnone → ((s : ℕ) → Q (rsource s) (ssource s) (tsource s)) →
      ((i : ℕ) (n : Node) → slice_get nodes i ≡ Some n → HoldsLeft n → HoldsRight n → HoldsMade n) → (i : ℕ) → Holds i
  by_nodes ordered none source step = by_lower Holds (λ i below. elim (cases_lt i (length nodes)) [
    | inl low ↦
        let n = slice_index_or nodes i (Source 0) in
        let there = slice_get-get_or nodes i (Source 0) low in
        rw (over_nodes-is rnone rsource rnode nodes ordered i n there, over_nodes-is snone ssource snode nodes ordered i n there, over_nodes-is tnone tsource tnode nodes ordered i n there)
        (step i n there (left_holds source i below n (ordered i n there).0) (child_holds none i below (right_child n) (ordered i n there).1))
    | inr past ↦
        rw (result-past rnone (λ n at. rnode n (left_of rnone rsource at n) (right_of rnone at n)) nodes i past, result-past snone (λ n at. snode n (left_of snone ssource at n) (right_of snone at n)) nodes i past, result-past tnone (λ n at. tnode n (left_of tnone tsource at n) (right_of tnone at n)) nodes i past) none
  ])
