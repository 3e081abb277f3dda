-- What a part of the parser reads.
use Rattle.std.specs.Prelude.{◌≡◌, ℕ, suc, ◌<◌, ◌≤◌, ◌^◌, ◌++◌, List, [], ◌∷◌, length, Bool, true, false, Option, Some, None, Result, Ok, Err}
use Rattle.plan_model.specs.IsExpr.{IsDivisor}
use Rattle.plan_model.specs.declared.expr.ArithOp.{ArithOp}
use Rattle.plan_model.specs.declared.expr.ArithOp.TheVariants as A
use Rattle.plan_model.specs.declared.expr.CompareOp.{CompareOp}
use Rattle.query_text.specs.declared.word.Sign.{Sign}
use Rattle.query_text.specs.declared.word.Sign.TheVariants as S
use Rattle.query_text.specs.Token.{Token, name, int, dec, fixed}
pub use Rattle.query_text.specs.Follows.{Lacks, ends_pipe, ends_step, ends_item, name_then, int_then, pos_then}
use Rattle.query_text.specs.Grammar as G
use Rattle.query_text.specs.Grammar.{atom_then, comparison_sign}
use Rattle.query_text.specs.declared.stop.Stop.{Stop}
use Rattle.query_text.specs.declared.stop.Stop.TheVariants.{Stuck, Memory}
use Rattle.query_text.specs.declared.tree.TreeNode.{TreeNode}
use Rattle.query_text.specs.Spelling.{compare_of, atom_onto}

-- whether the token stood first, and was taken
abbrev pub Takes : Bool → Token → List Token → List Token → Type 0
Takes true t old new = old ≡ t ∷ new
Takes false t old new = (new ≡ old) × Lacks t old

-- likewise a token that holds a value, for which P holds
abbrev pub TakesValue : {V : Type 0} → (V → Token) → (V → Type 0) → Option V → List Token → List Token → Type 0
TakesValue t P (Some v) old new = (old ≡ t v ∷ new) × P v
TakesValue t P None old new = (new ≡ old) × ((v : _) → Lacks (t v) old)

-- a number above 0
abbrev pub TakesPos : Option ℕ → List Token → List Token → Type 0
TakesPos (Some by) old new = (old ≡ int by ∷ new) × IsDivisor by
TakesPos None old new = (new ≡ old) × ((n : ℕ) → Lacks (int (suc n)) old)

abbrev pub Any : {V : Type 0} → V → Type 0
Any v = Unit {0}

-- an INT fits into 63 bits
abbrev pub IsSmall : ℕ → Type 0
IsSmall n = n < 2 ^ 63

-- a decimal has at most 63 bits and 18 places
abbrev pub IsSmallDec : ℕ × ℕ → Type 0
IsSmallDec d = (d.0 < 2 ^ 63) × (d.1 ≤ 18)

abbrev pub dec_of : ℕ × ℕ → Token
dec_of d = dec d.0 d.1

-- the name that stands first, or none
abbrev pub IsAhead : Option (List ℕ) → List Token → Type 0
IsAhead (Some n) ts = (z : List Token) × (ts ≡ name n ∷ z)
IsAhead None ts = (n : List ℕ) → Lacks (name n) ts

-- the sign of a comparison
abbrev pub TakesCompare : Option CompareOp → List Token → List Token → Type 0
TakesCompare (Some op) old new = (c : G.Comparison) × (old ≡ fixed (comparison_sign c) ∷ new) × (op ≡ compare_of c)
TakesCompare None old new = (new ≡ old) × ((c : G.Comparison) → Lacks (fixed (comparison_sign c)) old)

-- `+` or `-`
abbrev pub TakesTerm : Option ArithOp → List Token → List Token → Type 0
TakesTerm (Some A.Add) old new = old ≡ fixed S.Plus ∷ new
TakesTerm (Some A.Sub) old new = old ≡ fixed S.Minus ∷ new
TakesTerm (Some A.Mul) old new = ⊥
TakesTerm None old new = (new ≡ old) × Lacks (fixed S.Plus) old × Lacks (fixed S.Minus) old

abbrev pub IsParens : G.Atom → Type 0
IsParens a = (e : G.Expr) × (a ≡ G.parens e)

-- an atom of one token, as the node that it leaves
abbrev pub TakesLeaf : Option TreeNode → List Token → List Token → Type 0
TakesLeaf (Some node) old new = (a : G.Atom) (z : List Token) → old ≡ atom_then a z → (new ≡ z) × ((nodes : List TreeNode) → nodes ++ node ∷ [] ≡ atom_onto a nodes)
TakesLeaf None old new = (new ≡ old) × ((a : G.Atom) (z : List Token) → old ≡ atom_then a z → IsParens a)

-- P holds of what was read. `Stuck` does not come; out of memory nothing is owed.
abbrev pub Outcome : {V : Type 0} → Result V Stop → (V → Type 0) → Type 0
Outcome (Ok v) P = P v
Outcome (Err Stuck) P = ⊥
Outcome (Err Memory) P = Unit {0}

-- Where the tokens are those of one of the grammar's, and then such as may follow: it is read, and what follows is left.
abbrev pub Reads : {V A : Type 0} → Result V Stop → (A → List Token → List Token) → (List Token → Type 0) → (A → V → Type 0) → List Token → List Token → Type 0
Reads result a_then Ends Is old new = (a : _) (z : List Token) → Ends z → old ≡ a_then a z → Outcome result (λ v. (new ≡ z) × Is a v)

-- One more of a rest was read: what is left is a rest again, whose nodes onto these are those of the whole. Or there is no more.
abbrev pub Went : {R : Type 0} → Bool → (R → List Token → List Token) → (R → List TreeNode → List TreeNode) → R → List Token → List Token → List TreeNode → List TreeNode → Type 0
Went true r_then r_onto r z new old_nodes new_nodes = (s : _) × (new ≡ r_then s z) × (r_onto s new_nodes ≡ r_onto r old_nodes)
Went false r_then r_onto r z new old_nodes new_nodes = (new ≡ z) × (new_nodes ≡ r_onto r old_nodes)

abbrev pub ReadsOne : {R : Type 0} → Result Bool Stop → (R → List Token → List Token) → (List Token → Type 0) → (R → List TreeNode → List TreeNode) → List Token → List Token → List TreeNode → List TreeNode → Type 0
ReadsOne result r_then Ends r_onto old new old_nodes new_nodes = (r : _) (z : List Token) → Ends z → old ≡ r_then r z → Outcome result (λ more. Went more r_then r_onto r z new old_nodes new_nodes)

-- The first part is read and some of the rest: what is left is a rest, whose nodes onto these are those of the whole.
abbrev pub Going : {A R : Type 0} → (A → List Token → List Token) → (List Token → Type 0) → (A → List TreeNode → List TreeNode) → (R → List Token → List Token) → (R → List TreeNode → List TreeNode) → List Token → List Token → List TreeNode → List TreeNode → Type 0
Going a_then Ends a_onto r_then r_onto old now old_nodes now_nodes = (a : _) (z : List Token) → Ends z → old ≡ a_then a z → (s : _) × (now ≡ r_then s z) × (r_onto s now_nodes ≡ a_onto a old_nodes)

-- fewer tokens are left where one more was read, and else no more
abbrev pub Shrinks : Bool → List Token → List Token → Type 0
Shrinks true old new = length new < length old
Shrinks false old new = length new ≤ length old

-- A list is read so far: what is left are more of its elements, and these behind what was read are those of the whole.
abbrev pub Listing : {A X V : Type 0} → (A → List Token → List Token) → (List Token → Type 0) → (A → List V) → (List X → List Token → List Token) → (List X → List V) → List Token → List Token → List V → Type 0
Listing a_then Ends values x_then x_values old now items = (a : _) (z : List Token) → Ends z → old ≡ a_then a z → (xs : List _) × (now ≡ x_then xs z) × (values a ≡ items ++ x_values xs)

-- a sign, and no value
abbrev pub sign_then : Sign → Unit {0} → List Token → List Token
sign_then sign u z = fixed sign ∷ z

-- "as" NAME
abbrev pub as_then : List ℕ → List Token → List Token
as_then n z = fixed S.As ∷ name n ∷ z

-- NAME "as" NAME
abbrev pub computed_then : List ℕ × List ℕ → List Token → List Token
computed_then p z = name p.0 ∷ as_then p.1 z

-- INT INT
abbrev pub hop_then : ℕ × ℕ → List Token → List Token
hop_then p z = int p.0 ∷ int p.1 ∷ z

-- "(" POS ")", the number of places
abbrev pub places_then : G.Places → List Token → List Token
places_then p z = fixed S.Open ∷ int p.number ∷ fixed S.Close ∷ z

-- NAME [ "on" names ] [ "else" lit { "," lit } ]
abbrev pub left_then : List ℕ × G.On × G.Else → List Token → List Token
left_then p z = name p.0 ∷ G.on_then p.1 (G.else_then p.2 z)

-- POS [ "per" names ] "by" NAME
abbrev pub top_then : ℕ × G.Per × List ℕ → List Token → List Token
top_then p z = int (suc p.0) ∷ G.per_then p.1 (fixed S.By ∷ name p.2 ∷ z)

-- NAME [ "on" names ] "within" POS
abbrev pub follow_then : List ℕ × G.On × ℕ → List Token → List Token
follow_then p z = name p.0 ∷ G.on_then p.1 (fixed S.Within ∷ int (suc p.2) ∷ z)

-- lit { "," lit }
abbrev pub lit_list_then : G.Lit × List G.Lit → List Token → List Token
lit_list_then p z = G.lit_then p.0 (G.lits_then p.1 z)

-- INT [ "by" names ]
abbrev pub session_then : ℕ × G.By → List Token → List Token
session_then p z = int p.0 ∷ G.by_then p.1 z

-- NAME [ "on" names ]
abbrev pub operand_then : List ℕ × G.On → List Token → List Token
operand_then p z = name p.0 ∷ G.on_then p.1 z

-- [ "by" names ] ":" agg { "," agg }
abbrev pub group_then : G.By × G.Agg × List G.Agg → List Token → List Token
group_then p z = G.by_then p.0 (fixed S.Colon ∷ G.agg_then p.1 (G.aggs_then p.2 z))

-- item { "," item }
abbrev pub select_then : G.Item × List G.Item → List Token → List Token
select_then p z = G.item_then p.0 (G.items_then p.1 z)

-- agg { "," agg }
abbrev pub agg_list_then : G.Agg × List G.Agg → List Token → List Token
agg_list_then p z = G.agg_then p.0 (G.aggs_then p.1 z)

-- col { "," col }
abbrev pub col_list_then : G.Col × List G.Col → List Token → List Token
col_list_then p z = G.col_then p.0 (G.cols_then p.1 z)

-- a stream behind the word "stream"
abbrev pub stream_rest_then : G.Stream → List Token → List Token
stream_rest_then s z = name s.called ∷ fixed S.Open ∷ G.col_then s.first (G.cols_then s.more (fixed S.Close ∷ fixed S.Semicolon ∷ z))

-- stream { stream }
abbrev pub stream_list_then : G.Stream × List G.Stream → List Token → List Token
stream_list_then p z = G.stream_then p.0 (G.streams_then p.1 z)

-- a let behind the word "let"
abbrev pub let_rest_then : G.Let → List Token → List Token
let_rest_then l z = name l.called ∷ fixed S.Equal ∷ G.pipe_then l.pipe (fixed S.Semicolon ∷ z)

-- { let }
abbrev pub lets_list_then : List G.Let → List Token → List Token
lets_list_then ls z = G.lets_then ls z
