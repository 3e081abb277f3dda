-- A text spells at most one query.
use Rattle.std.proofs.Common.{◌≡◌, ℕ, List, ap, sym, ◌∙◌}
use Rattle.query_text.proofs.Unique.{query_unique}
use Rattle.query_text.specs.declared.query.Query.{Query}
use Rattle.query_text.specs.Spelling.{query_of}
use Rattle.query_text.specs.IsParse.{Spells}

pub one_query : (text : List ℕ) (a b : Query) → Spells text a → Spells text b → a ≡ b
one_query text a b h k = sym h.3 ∙ ap query_of (query_unique h.0 k.0 (h.1 ∙ sym k.1)) ∙ k.3
