use Rattle.std.proofs.Common.{◌≡◌, Option, Some, None, refl, sym, ◌∙◌}
use Rattle.row_reader.specs.declared.quotes.Place.{Place}
use Rattle.row_reader.proofs.OddQuotes.{odd_from-bad, odd_from-good}
use Rattle.row_reader.proofs.quotes.has_odd_quotes.Goals as goal

none_left : (o : Option Place) → ((p : Place) → o ≡ Some p → ⊥) → None ≡ o
none_left None h = refl
none_left (Some p) h = absurd (h p refl)

pub returns-in_default : goal.returns-in_default
returns-in_default c = sym (c.loop-byte.invariant ∙ odd_from-bad _ _ _ _ c.loop-byte-test.true refl (none_left c.next.result c.in_default.not-Some ∙ c.next.ensures))

pub loop-byte-preserved : goal.loop-byte-preserved
loop-byte-preserved c = c.loop-byte.invariant ∙ odd_from-good _ _ _ c.in-Some.after _ c.loop-byte-test.true refl (sym c.in-Some.is ∙ c.next.ensures)
