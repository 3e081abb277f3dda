-- What lines say fits the streams.
use Rattle.std.specs.Prelude.{◌≡◌, ◌≢◌, ℕ, suc, ◌-◌, ◌<◌, ◌≤◌, Bool, true, false, if◌then◌else◌, IfSome, Option, Some, None, Ok, List, [], ◌∷◌, get_or, refl}
use Rattle.std.specs.List.{All}
use Rattle.std.proofs.Common.{sym, ◌∙◌, ap, subst, arith}
use Rattle.std.proofs.lemmas.List.{length-map}
use Rattle.tw_rows.specs.Rows.{Row}
use Rattle.tw_rows.specs.declared.kind.CellKind.{CellKind}
use Rattle.tw_rows.specs.declared.schema.ColumnDef.{ColumnDef}
use Rattle.tw_rows.specs.declared.schema.StreamDef.{StreamDef}
use Rattle.plan_model.specs.IsPlan.{kinds_of_schema}
use Rattle.row_reader.specs.Entry.{entry, named}
use Rattle.row_reader.specs.Number.{same_text}
use Rattle.row_reader.specs.Printed.{IsRowOf}
use Rattle.row_reader.proofs.Spells.{events_are_within, punctuations_are_within, lines_say_events}
use Rattle.row_reader.specs.declared.entry.Entry.{Entry}
use Rattle.row_reader.specs.declared.entry.Entry.TheVariants.{Skip, Punct, Event}
use Rattle.ingress.specs.Fits.{Fits, row_cells, stream_cells}

-- a row of the columns is stored as they are
row_fits : (columns : List ColumnDef) (row : Row) → IsRowOf columns row → row_cells row ≡ kinds_of_schema columns
row_fits [] [] h = refl
row_fits [] (v ∷ vs) h = absurd h
row_fits (c ∷ cs) [] h = absurd h
row_fits (c ∷ cs) (v ∷ vs) h = let a = h.0 in let b = row_fits cs vs h.2 in λ i. a i ∷ b i

abbrev number_in : Option (ℕ × StreamDef) → ℕ
number_in None = 0
number_in (Some p) = p.0

abbrev cells_in : Option (ℕ × StreamDef) → List CellKind
cells_in None = []
cells_in (Some p) = kinds_of_schema p.1.schema

-- the stream that is found is at its number
named_at : (streams : List StreamDef) (n : ℕ) (name : List ℕ) (k : ℕ) (def : StreamDef) → named n streams name ≡ Some (k, def) →
    (n ≤ k) × (get_or (stream_cells streams) (k - n) [] ≡ kinds_of_schema def.schema)
unfolding named
named_at [] n name k def is = absurd (cc)
named_at (s ∷ streams) n name k def is = go (same_text s.name name) is (named_at streams (suc n) name k def)
  where
    go : (b : Bool) → (if b then Some (n, s) else named (suc n) streams name) ≡ Some (k, def) →
        (named (suc n) streams name ≡ Some (k, def) → (suc n ≤ k) × (get_or (stream_cells streams) (k - suc n) [] ≡ kinds_of_schema def.schema)) →
        (n ≤ k) × (get_or (kinds_of_schema s.schema ∷ stream_cells streams) (k - n) [] ≡ kinds_of_schema def.schema)
    go true e rest =
        let same : n ≡ k = ap number_in e in
        let none : k - n ≡ 0 = omega (arith, same) in
        (omega (arith, same), ap (λ j. get_or (kinds_of_schema s.schema ∷ stream_cells streams) j []) none ∙ ap cells_in e)
    go false e rest =
        let r = rest e in
        let low : suc n ≤ k = r.0 in
        let one : k - n ≡ suc (k - suc n) = omega (arith, low) in
        (omega (arith, low), ap (λ j. get_or (kinds_of_schema s.schema ∷ stream_cells streams) j []) one ∙ r.1)

pub line_fits : (streams : List StreamDef) (first : Bool) (line : List ℕ) (e : Entry) → All (λ b. b ≢ 10) line → entry streams first line ≡ Ok e → Fits (stream_cells streams) e
line_fits streams first line Skip feed is = tt
line_fits streams first line (Punct stream time) feed is =
    subst (λ n. IfSome stream (λ s. s < n)) (sym (length-map streams _)) (punctuations_are_within streams first line stream time feed is).0
line_fits streams first line (Event stream form sync other row) feed is =
    let w = (events_are_within streams first line stream form sync other row feed is).0 in
    let l = length-map streams (λ (d : StreamDef). kinds_of_schema d.schema) in
    let s = (lines_say_events streams first line stream form sync other row feed).0 is in
    let at = (named_at streams 0 s.name stream s.definition s.named_is).1 in
    let none : stream - 0 ≡ stream = omega arith in
    (omega (arith, w, l), row_fits s.definition.schema row s.row_is ∙ sym (sym (ap (λ j. get_or (stream_cells streams) j []) none) ∙ at))
