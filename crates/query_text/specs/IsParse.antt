-- The query that a text spells, and the answer of the parser.
use Rattle.std.specs.Prelude.{◌≡◌, ◌<◌, ◌≤◌, ℕ, List, length, Some, Result, Ok, Err}
use Rattle.plan_model.specs.declared.fault.QueryFault.{QueryFault}
use Rattle.plan_model.specs.declared.fault.QueryFault.TheVariants.{Syntax, LongExpr, TooLarge}
use Rattle.plan_model.specs.declared.fault.QueryError.{QueryError}
use Rattle.plan_model.specs.declared.fault.QueryError.TheVariants as E
use Rattle.query_text.specs.Token.{tokens_of}
use Rattle.query_text.specs.Grammar as G
use Rattle.query_text.specs.Limit.{IsWithin}
use Rattle.query_text.specs.Answer.{IsAnswer}
use Rattle.query_text.specs.declared.fault.Fault.{Fault}
use Rattle.query_text.specs.declared.fault.Fault.TheVariants as F
use Rattle.query_text.specs.declared.query.Query.{Query}
use Rattle.query_text.specs.Spelling.{query_of}

-- The text spells the query: its tokens are those of a query of the grammar, whose expressions are within the limit,
-- and which means this one.
abbrev pub Spells : List ℕ → Query → Type 0
Spells text q = (c : G.Query) × (G.query_tokens c ≡ tokens_of text) × IsWithin c × (query_of c ≡ q)

-- the text is not too large
abbrev pub IsSmallText : List ℕ → Type 0
IsSmallText text = length text ≤ 65536

abbrev pub fault_of : Fault → QueryFault
fault_of (F.Syntax at) = Syntax at
fault_of (F.LongExpr at) = LongExpr at

-- This fault is the text's: it is too large, or it has the fault that the grammar finds. No other fault is a text's.
abbrev pub IsTextFault : List ℕ → QueryFault → Type 0
IsTextFault text TooLarge = 65536 < length text
IsTextFault text (Syntax at) = IsSmallText text × IsAnswer text (Some (F.Syntax at))
IsTextFault text (LongExpr at) = IsSmallText text × IsAnswer text (Some (F.LongExpr at))
IsTextFault text _ = ⊥

-- the answer for a text: the query that it spells, or its fault; or out of memory
abbrev pub IsParse : List ℕ → Result Query QueryError → Type 0
IsParse text (Ok q) = IsSmallText text × Spells text q
IsParse text (Err (E.Fault fault)) = IsTextFault text fault
IsParse text (Err E.Memory) = Unit {0}
