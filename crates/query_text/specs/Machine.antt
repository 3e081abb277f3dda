-- A machine that reads tokens with a stack of what is still to be read.
use Rattle.std.specs.Prelude.{ℕ, suc, if◌then◌else◌, List, [], ◌∷◌, ◌++◌, Option, Some, None, Bool, true, false, ◌&&◌, cond}
use denote.Enum.Bare.{sameb}
use Rattle.query_text.specs.declared.word.Sign.{Sign}
use Rattle.query_text.specs.declared.word.Sign.TheVariants as S
use Rattle.query_text.specs.contracts.word.Sign.{the_type}
use Rattle.query_text.specs.declared.kind.Kind.{Kind}
use Rattle.query_text.specs.declared.kind.Kind.TheVariants as K
use Rattle.query_text.specs.declared.symbol.Symbol.{Symbol}
use Rattle.query_text.specs.declared.symbol.Symbol.TheVariants as Y
use Rattle.query_text.specs.Token.{Token, kind}
use Rattle.query_text.specs.Grammar.{is_places}

-- take the token, and then these are to be read; leave the symbol out; or stop
pub data Choice : Type 0 where
  take : List Symbol → Choice
  skip : Choice
  no : Choice

-- the choice of a first part, and then more
abbrev pub before : Choice → List Symbol → Choice
before (take g) more = take (g ++ more)
before skip more = skip
before no more = no

-- the choice of a first part that may be left out, and then of the others
abbrev pub chosen : Choice → List Symbol → Choice → Choice
chosen (take g) more others = take (g ++ more)
chosen skip more others = others
chosen no more others = no

-- leave out what does not begin here
abbrev pub or_skip : Choice → Choice
or_skip (take g) = take g
or_skip skip = skip
or_skip no = skip

unfoldable pub at_atom : Kind → Choice
at_atom K.Name = take []
at_atom (K.Number n) = take []
at_atom K.Decimal = take []
at_atom K.Quoted = take []
at_atom (K.Fixed S.True) = take []
at_atom (K.Fixed S.False) = take []
at_atom (K.Fixed S.Open) = take (Y.Expr ∷ Y.Word S.Close ∷ [])
at_atom _ = no

unfoldable pub at_unary : Kind → Choice
at_unary (K.Fixed S.Minus) = take (Y.Unary ∷ [])
at_unary t = at_atom t

abbrev pub at_prod : Kind → Choice
at_prod t = before (at_unary t) (Y.Factors ∷ [])

abbrev pub at_sum : Kind → Choice
at_sum t = before (at_prod t) (Y.Terms ∷ [])

unfoldable pub at_neg : Kind → Choice
at_neg (K.Fixed S.Not) = take (Y.Neg ∷ [])
at_neg t = before (at_sum t) (Y.Test ∷ [])

abbrev pub at_conj : Kind → Choice
at_conj t = before (at_neg t) (Y.Ands ∷ [])

abbrev pub at_expr : Kind → Choice
at_expr t = before (at_conj t) (Y.Ors ∷ [])

unfoldable pub at_ors : Kind → Choice
at_ors (K.Fixed S.Or) = take (Y.Conj ∷ Y.Ors ∷ [])
at_ors _ = skip

unfoldable pub at_ands : Kind → Choice
at_ands (K.Fixed S.And) = take (Y.Neg ∷ Y.Ands ∷ [])
at_ands _ = skip

unfoldable pub at_test : Kind → Choice
at_test (K.Fixed S.Equal) = take (Y.Sum ∷ [])
at_test (K.Fixed S.Differs) = take (Y.Sum ∷ [])
at_test (K.Fixed S.Less) = take (Y.Sum ∷ [])
at_test (K.Fixed S.LessEqual) = take (Y.Sum ∷ [])
at_test (K.Fixed S.Greater) = take (Y.Sum ∷ [])
at_test (K.Fixed S.GreaterEqual) = take (Y.Sum ∷ [])
at_test _ = skip

unfoldable pub at_terms : Kind → Choice
at_terms (K.Fixed S.Plus) = take (Y.Prod ∷ Y.Terms ∷ [])
at_terms (K.Fixed S.Minus) = take (Y.Prod ∷ Y.Terms ∷ [])
at_terms _ = skip

unfoldable pub at_factors : Kind → Choice
at_factors (K.Fixed S.Star) = take (Y.Unary ∷ Y.Factors ∷ [])
at_factors (K.Fixed S.Div) = take (Y.Pos ∷ Y.Factors ∷ [])
at_factors (K.Fixed S.Mod) = take (Y.Pos ∷ Y.Factors ∷ [])
at_factors _ = skip

unfoldable pub at_named : Kind → Choice
at_named K.Name = take []
at_named _ = no

unfoldable pub at_int : Kind → Choice
at_int (K.Number n) = take []
at_int _ = no

unfoldable pub at_pos : Kind → Choice
at_pos (K.Number (suc n)) = take []
at_pos _ = no

unfoldable pub at_places : Kind → Choice
at_places (K.Number n) = if is_places n then take [] else no
at_places _ = no

-- whether two words are the same
abbrev pub same_sign : Sign → Sign → Bool
same_sign a b = sameb the_type a b

-- just this word
unfoldable pub at_word : Sign → Kind → Choice
at_word s (K.Fixed f) = if same_sign f s then take [] else no
at_word s _ = no

unfoldable pub at_names : Kind → Choice
at_names K.Name = take (Y.MoreNames ∷ [])
at_names _ = no

unfoldable pub at_more_names : Kind → Choice
at_more_names (K.Fixed S.Comma) = take (Y.Named ∷ Y.MoreNames ∷ [])
at_more_names _ = skip

unfoldable pub at_by : Kind → Choice
at_by (K.Fixed S.By) = take (Y.Names ∷ [])
at_by _ = skip

unfoldable pub at_on : Kind → Choice
at_on (K.Fixed S.On) = take (Y.Names ∷ [])
at_on _ = skip

unfoldable pub at_per : Kind → Choice
at_per (K.Fixed S.Per) = take (Y.Names ∷ [])
at_per _ = skip

unfoldable pub at_unsigned : Kind → Choice
at_unsigned (K.Number n) = take []
at_unsigned K.Decimal = take []
at_unsigned _ = no

unfoldable pub at_lit : Kind → Choice
at_lit (K.Fixed S.Minus) = take (Y.Unsigned ∷ [])
at_lit (K.Number n) = take []
at_lit K.Decimal = take []
at_lit K.Quoted = take []
at_lit (K.Fixed S.True) = take []
at_lit (K.Fixed S.False) = take []
at_lit _ = no

unfoldable pub at_lits : Kind → Choice
at_lits (K.Fixed S.Comma) = take (Y.Lit ∷ Y.Lits ∷ [])
at_lits _ = skip

unfoldable pub at_else : Kind → Choice
at_else (K.Fixed S.Else) = take (Y.Lit ∷ Y.Lits ∷ [])
at_else _ = skip

unfoldable pub at_agg : Kind → Choice
at_agg (K.Fixed S.Count) = take (Y.Word S.As ∷ Y.Named ∷ [])
at_agg (K.Fixed S.Sum) = take (Y.Named ∷ Y.Word S.As ∷ Y.Named ∷ [])
at_agg (K.Fixed S.Min) = take (Y.Named ∷ Y.Word S.As ∷ Y.Named ∷ [])
at_agg (K.Fixed S.Max) = take (Y.Named ∷ Y.Word S.As ∷ Y.Named ∷ [])
at_agg (K.Fixed S.Avg) = take (Y.Named ∷ Y.Word S.As ∷ Y.Named ∷ [])
at_agg _ = no

unfoldable pub at_aggs : Kind → Choice
at_aggs (K.Fixed S.Comma) = take (Y.Agg ∷ Y.Aggs ∷ [])
at_aggs _ = skip

-- After a name: what an expression goes on with that begins with it, and its own name; else the item is the name alone.
unfoldable pub at_item_rest : Kind → Choice
at_item_rest t =
    or_skip (chosen (at_factors t) (Y.Terms ∷ Y.Test ∷ Y.Ands ∷ Y.Ors ∷ Y.Word S.As ∷ Y.Named ∷ [])
    (chosen (at_terms t) (Y.Test ∷ Y.Ands ∷ Y.Ors ∷ Y.Word S.As ∷ Y.Named ∷ [])
    (chosen (at_test t) (Y.Ands ∷ Y.Ors ∷ Y.Word S.As ∷ Y.Named ∷ [])
    (chosen (at_ands t) (Y.Ors ∷ Y.Word S.As ∷ Y.Named ∷ [])
    (chosen (at_ors t) (Y.Word S.As ∷ Y.Named ∷ [])
    (before (at_word S.As t) (Y.Named ∷ [])))))))

unfoldable pub at_item : Kind → Choice
at_item K.Name = take (Y.ItemRest ∷ [])
at_item t = before (at_expr t) (Y.Word S.As ∷ Y.Named ∷ [])

unfoldable pub at_items : Kind → Choice
at_items (K.Fixed S.Comma) = take (Y.Item ∷ Y.Items ∷ [])
at_items _ = skip

unfoldable pub at_step : Kind → Choice
at_step (K.Fixed S.Where) = take (Y.Expr ∷ [])
at_step (K.Fixed S.Select) = take (Y.Item ∷ Y.Items ∷ [])
at_step (K.Fixed S.Union) = take (Y.Named ∷ [])
at_step (K.Fixed S.Delay) = take (Y.Int ∷ [])
at_step (K.Fixed S.Duration) = take (Y.Int ∷ [])
at_step (K.Fixed S.Extend) = take (Y.Int ∷ [])
at_step (K.Fixed S.Tumble) = take (Y.Int ∷ [])
at_step (K.Fixed S.Hop) = take (Y.Int ∷ Y.Int ∷ [])
at_step (K.Fixed S.Session) = take (Y.Int ∷ Y.By ∷ [])
at_step (K.Fixed S.Clip) = take (Y.Named ∷ Y.On ∷ [])
at_step (K.Fixed S.Join) = take (Y.Named ∷ Y.On ∷ [])
at_step (K.Fixed S.Anti) = take (Y.Named ∷ Y.On ∷ [])
at_step (K.Fixed S.Group) = take (Y.By ∷ Y.Word S.Colon ∷ Y.Agg ∷ Y.Aggs ∷ [])
at_step (K.Fixed S.Coalesce) = take []
at_step (K.Fixed S.Left) = take (Y.Named ∷ Y.On ∷ Y.Else ∷ [])
at_step (K.Fixed S.Top) = take (Y.Pos ∷ Y.Per ∷ Y.Word S.By ∷ Y.Named ∷ [])
at_step (K.Fixed S.Follow) = take (Y.Named ∷ Y.On ∷ Y.Word S.Within ∷ Y.Pos ∷ [])
at_step _ = no

unfoldable pub at_steps : Kind → Choice
at_steps (K.Fixed S.Bar) = take (Y.Step ∷ Y.Steps ∷ [])
at_steps _ = skip

unfoldable pub at_pipe : Kind → Choice
at_pipe K.Name = take (Y.Steps ∷ [])
at_pipe _ = no

unfoldable pub at_lets : Kind → Choice
at_lets (K.Fixed S.Let) = take (Y.Named ∷ Y.Word S.Equal ∷ Y.Pipe ∷ Y.Word S.Semicolon ∷ Y.Lets ∷ [])
at_lets _ = skip

unfoldable pub at_col : Kind → Choice
at_col K.Name = take (Y.ColKind ∷ [])
at_col _ = no

unfoldable pub at_col_kind : Kind → Choice
at_col_kind (K.Fixed S.IntKind) = take []
at_col_kind (K.Fixed S.BoolKind) = take []
at_col_kind (K.Fixed S.TextKind) = take []
at_col_kind (K.Fixed S.DecKind) = take (Y.Word S.Open ∷ Y.Places ∷ Y.Word S.Close ∷ [])
at_col_kind _ = no

unfoldable pub at_cols : Kind → Choice
at_cols (K.Fixed S.Comma) = take (Y.Col ∷ Y.Cols ∷ [])
at_cols _ = skip

unfoldable pub at_stream : Kind → Choice
at_stream (K.Fixed S.Stream) = take (Y.Named ∷ Y.Word S.Open ∷ Y.Col ∷ Y.Cols ∷ Y.Word S.Close ∷ Y.Word S.Semicolon ∷ [])
at_stream _ = no

unfoldable pub at_streams : Kind → Choice
at_streams (K.Fixed S.Stream) = take (Y.Named ∷ Y.Word S.Open ∷ Y.Col ∷ Y.Cols ∷ Y.Word S.Close ∷ Y.Word S.Semicolon ∷ Y.Streams ∷ [])
at_streams _ = skip

-- what to do at this symbol and token
abbrev pub choose : Symbol → Kind → Choice
choose Y.Stream t = at_stream t
choose Y.Streams t = at_streams t
choose Y.Col t = at_col t
choose Y.ColKind t = at_col_kind t
choose Y.Cols t = at_cols t
choose Y.Lets t = at_lets t
choose Y.Pipe t = at_pipe t
choose Y.Steps t = at_steps t
choose Y.Step t = at_step t
choose Y.Item t = at_item t
choose Y.ItemRest t = at_item_rest t
choose Y.Items t = at_items t
choose Y.Agg t = at_agg t
choose Y.Aggs t = at_aggs t
choose Y.By t = at_by t
choose Y.On t = at_on t
choose Y.Names t = at_names t
choose Y.MoreNames t = at_more_names t
choose Y.Expr t = at_expr t
choose Y.Ors t = at_ors t
choose Y.Conj t = at_conj t
choose Y.Ands t = at_ands t
choose Y.Neg t = at_neg t
choose Y.Test t = at_test t
choose Y.Sum t = at_sum t
choose Y.Terms t = at_terms t
choose Y.Prod t = at_prod t
choose Y.Factors t = at_factors t
choose Y.Unary t = at_unary t
choose Y.Atom t = at_atom t
choose Y.Named t = at_named t
choose Y.Int t = at_int t
choose Y.Pos t = at_pos t
choose Y.Places t = at_places t
choose Y.Per t = at_per t
choose Y.Else t = at_else t
choose Y.Lits t = at_lits t
choose Y.Lit t = at_lit t
choose Y.Unsigned t = at_unsigned t
choose (Y.Word s) t = at_word s t

-- whether nothing need be left to read
abbrev pub may_end : Symbol → Bool
may_end Y.Stream = false
may_end Y.Streams = true
may_end Y.Col = false
may_end Y.ColKind = false
may_end Y.Cols = true
may_end Y.Lets = true
may_end Y.Pipe = false
may_end Y.Steps = true
may_end Y.Step = false
may_end Y.Item = false
may_end Y.ItemRest = true
may_end Y.Items = true
may_end Y.Agg = false
may_end Y.Aggs = true
may_end Y.By = true
may_end Y.On = true
may_end Y.Names = false
may_end Y.MoreNames = true
may_end Y.Expr = false
may_end Y.Ors = true
may_end Y.Conj = false
may_end Y.Ands = true
may_end Y.Neg = false
may_end Y.Test = true
may_end Y.Sum = false
may_end Y.Terms = true
may_end Y.Prod = false
may_end Y.Factors = true
may_end Y.Unary = false
may_end Y.Atom = false
may_end Y.Named = false
may_end Y.Int = false
may_end Y.Pos = false
may_end Y.Places = false
may_end Y.Per = true
may_end Y.Else = true
may_end Y.Lits = true
may_end Y.Lit = false
may_end Y.Unsigned = false
may_end (Y.Word s) = false

abbrev pub pushed : Choice → List Symbol → Option (List Symbol) → Option (List Symbol)
pushed (take g) k skipped = Some (g ++ k)
pushed skip k skipped = skipped
pushed no k skipped = None

-- the stack after the token; none where the token can't come
unfoldable pub after : List Symbol → Kind → Option (List Symbol)
after [] t = None
after (s ∷ k) t = pushed (choose s t) k (after k t)

abbrev pub all_may_end : List Symbol → Bool
all_may_end [] = true
all_may_end (s ∷ k) = may_end s && all_may_end k

abbrev pub stuck_then : (List Symbol → Option (List Token)) → Option (List Symbol) → List Token → Option (List Token)
stuck_then go None ts = Some ts
stuck_then go (Some k) ts = go k

-- The tokens from the first that can't come on; none where all are read and nothing is missing.
unfoldable pub stuck : List Symbol → List Token → Option (List Token)
stuck k [] = cond (all_may_end k) None (Some [])
stuck k (t ∷ ts) = stuck_then (λ k'. stuck k' ts) (after k (kind t)) (t ∷ ts)

-- a query is still to be read
abbrev pub start : List Symbol
start = Y.Stream ∷ Y.Streams ∷ Y.Lets ∷ Y.Pipe ∷ []

-- How tightly the first token binds what is before it: 1 for or, 2 for and, 3 for a comparison, 4 for a sum, 5 for a product.
unfoldable pub binds : Kind → ℕ
binds (K.Fixed S.Or) = 1
binds (K.Fixed S.And) = 2
binds (K.Fixed S.Equal) = 3
binds (K.Fixed S.Differs) = 3
binds (K.Fixed S.Less) = 3
binds (K.Fixed S.LessEqual) = 3
binds (K.Fixed S.Greater) = 3
binds (K.Fixed S.GreaterEqual) = 3
binds (K.Fixed S.Plus) = 4
binds (K.Fixed S.Minus) = 4
binds (K.Fixed S.Star) = 5
binds (K.Fixed S.Div) = 5
binds (K.Fixed S.Mod) = 5
binds _ = 0

abbrev pub rank : List Token → ℕ
rank [] = 0
rank (t ∷ ts) = binds (kind t)
