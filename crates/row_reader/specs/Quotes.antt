-- Where double quotes may stand.
use Rattle.std.specs.Prelude.{ℕ, Bool, true, false, List, [], ◌∷◌, Option, Some, None, if◌then◌else◌, ◌==◌}
use Rattle.row_reader.specs.declared.quotes.Place.{Place}
use Rattle.row_reader.specs.declared.quotes.Place.TheVariants.{Start, Plain, Quoted, Closed}

-- where the byte after this one stands, unless this one may not stand here. In a field that a quote opened a comma is a
-- byte like others, and after the quote that closes it only a comma may follow, or another quote, which opens it again
abbrev pub next_place : Place → ℕ → Option Place
next_place Start b = if b == 34 then Some Quoted else if b == 44 then Some Start else Some Plain
next_place Plain b = if b == 34 then None else if b == 44 then Some Start else Some Plain
next_place Quoted b = if b == 34 then Some Closed else Some Quoted
next_place Closed b = if b == 34 then Some Quoted else if b == 44 then Some Start else None

abbrev pub then_next : Option Place → ℕ → Option Place
then_next None b = None
then_next (Some place) b = next_place place b

-- whether a text may not end there
abbrev pub is_odd_end : Option Place → Bool
is_odd_end None = true
is_odd_end (Some Start) = false
is_odd_end (Some Plain) = false
is_odd_end (Some Quoted) = true
is_odd_end (Some Closed) = false

unfoldable pub odd_from : Option Place → List ℕ → Bool
odd_from place [] = is_odd_end place
odd_from place (b ∷ bs) = odd_from (then_next place b) bs

-- whether the quotes of a text are odd: of `"a""b",c` they are not, of `a"b"` and `"a` they are
abbrev pub odd_quotes : List ℕ → Bool
odd_quotes text = odd_from (Some Start) text
