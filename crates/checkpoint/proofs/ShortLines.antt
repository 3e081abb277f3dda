-- How long lines are.
use Rattle.std.proofs.Common.{◌≡◌, ◌<◌, ◌≤◌, ◌+◌, ◌*◌, ◌^◌, ℕ, ℤ, pos, negsuc, suc, List, [], ◌∷◌, length, map, Bool, true, false, cond, refl, ap, arith, length-append}
use Rattle.std.specs.Prelude.{nat_lt, codes, decimal}
use Rattle.std.proofs.lemmas.Bool.Decides.{Decides-ltb}
use Rattle.std.proofs.lemmas.Fmt.{length-decimal-le}
use Rattle.hex.specs.Hex.{encode_with, lower_digits}
use Rattle.tw_rows.specs.Instant.{inf}
use Rattle.tw_rows.specs.declared.cells.Datum.{Datum}
use Rattle.tw_rows.specs.declared.cells.Datum.TheVariants.{Int, Bool as Flag, Text}
use Rattle.tw_rows.specs.declared.kind.CellKind.{CellKind}
use Rattle.tw_rows.specs.declared.kind.CellKind.TheVariants.{Whole, Bit, Place}
use Rattle.row_reader.specs.FieldTexts.{time_text}
use Rattle.row_reader.specs.NumberTexts.{number_text}
use Rattle.row_reader.specs.Number.{fits_i64}
use Rattle.row_reader.proofs.ReadBack.{inf-is}
use Rattle.admission.specs.declared.policy.Lateness.{Lateness}
use Rattle.admission.specs.declared.policy.Lateness.TheVariants as late
use Rattle.admission.specs.declared.policy.Policy.{Policy}
use Rattle.frozen_state.specs.declared.owner.Owner.{Owner}
use Rattle.frozen_state.specs.declared.owner.Owner.TheVariants.{In, Node, Out}
use Rattle.checkpoint.specs.declared.entry.EntryLine.{EntryLine}
use Rattle.checkpoint.specs.Lines.{line_of, query_line, options_line, late_text, time_line, bound_line, input_line, output_line, text_line, owner_text, datum_text, entry_fields, line_of_entry, IsOwner, IsCell, AreCells, IsEntry}

-- each has 20 bytes at most
abbrev AreShort : List (List ℕ) → Type 0
AreShort [] = Unit {0}
AreShort (f ∷ fs) = (length f ≤ 20) × AreShort fs

line_short : (w : List ℕ) (fs : List (List ℕ)) → AreShort fs → length (line_of w fs) ≤ length w + 21 * length fs
line_short w [] h = omega (arith, length-append w [])
line_short w (f ∷ fs) h = omega (arith, length-append w (44 ∷ line_of f fs), line_short f fs h.1, h.0)

decimal_short : (n : ℕ) → n < 2 ^ 64 → length (decimal n) ≤ 20
decimal_short n h = length-decimal-le 20 n (omega arith) (omega (arith, h)) h

time_by : (b : Bool) (t : ℕ) → nat_lt t inf ≡ b → length (cond b (decimal t) (codes "inf")) ≤ 20
time_by true t e = let low : t < inf = (Decides-ltb t inf).0 e in decimal_short t (omega (arith, inf-is, low))
time_by false t e = omega arith

time_short : (t : ℕ) → length (time_text t) ≤ 20
time_short t = time_by (nat_lt t inf) t refl

number_short : (x : ℤ) → fits_i64 x ≡ true → length (number_text 0 x) ≤ 20
number_short (pos n) h = let low : n < 2 ^ 63 = (Decides-ltb n (2 ^ 63)).0 h in decimal_short n (omega (arith, low))
number_short (negsuc n) h =
    let low : n < 2 ^ 63 = (Decides-ltb n (2 ^ 63)).0 h in
    omega (arith, length-decimal-le 19 (suc n) (omega arith) (omega (arith, low)) (omega (arith, low)))

datum_short : (k : CellKind) (d : Datum) → IsCell k d → length (datum_text d) ≤ 20
datum_short Whole (Int x) h = number_short x h
datum_short Whole (Flag b) h = absurd h
datum_short Whole (Text p) h = absurd h
datum_short Bit (Int x) h = absurd h
datum_short Bit (Flag true) h = omega arith
datum_short Bit (Flag false) h = omega arith
datum_short Bit (Text p) h = absurd h
datum_short Place (Int x) h = absurd h
datum_short Place (Flag b) h = absurd h
datum_short Place (Text p) h = decimal_short p h

cells_short : (ks : List CellKind) (ds : List Datum) → AreCells ks ds → AreShort (map datum_text ds) × (length (map datum_text ds) ≡ length ks)
cells_short [] [] h = (tt, refl)
cells_short [] (d ∷ ds) h = absurd h
cells_short (k ∷ ks) [] h = absurd h
cells_short (k ∷ ks) (d ∷ ds) h = let r = cells_short ks ds h.1 in ((datum_short k d h.0, r.0), ap suc r.1)

owner_short : (o : Owner) → IsOwner o → length (owner_text o) ≤ 20
owner_short In h = omega arith
owner_short (Node n) h = decimal_short n h
owner_short Out h = omega arith

late_short : (l : Lateness) → length (late_text l) ≤ 20
late_short late.Refuse = omega arith
late_short late.Drop = omega arith
late_short late.Adjust = omega arith

length-hex : (bytes : List ℕ) → length (encode_with lower_digits bytes) ≡ 2 * length bytes
unfolding encode_with
length-hex [] = refl
length-hex (b ∷ bs) = omega (arith, length-hex bs)

pub query_short : (bytes : List ℕ) → length bytes ≤ 30000 → length (query_line bytes) ≤ 65536
query_short bytes h = omega (arith, length-append (codes "#query,") (encode_with lower_digits bytes), length-hex bytes, h)

pub options_short : (workers : ℕ) (p : Policy) → workers < 2 ^ 64 → p.lateness < 2 ^ 64 → p.period < 2 ^ 64 → length (options_line workers p) ≤ 65536
options_short workers p a b c = omega (
  arith,
  line_short (codes "#options") (decimal workers ∷ late_text p.late ∷ decimal p.lateness ∷ decimal p.period ∷ [])
      (decimal_short workers a, (late_short p.late, (decimal_short p.lateness b, (decimal_short p.period c, tt)))),
)

pub time_line_short : (lines last : ℕ) → lines ≤ 2 ^ 62 → length (time_line lines last) ≤ 65536
time_line_short lines last h = omega (arith, line_short (codes "#time") (decimal lines ∷ time_text last ∷ []) (decimal_short lines (omega (arith, h)), (time_short last, tt)))

pub bound_short : (bound mark : ℕ) → length (bound_line bound mark) ≤ 65536
bound_short bound mark = omega (arith, line_short (codes "#bound") (time_text bound ∷ time_text mark ∷ []) (time_short bound, (time_short mark, tt)))

pub input_short : (bytes : ℕ) → bytes < 2 ^ 64 → length (input_line bytes) ≤ 65536
input_short bytes h = omega (arith, line_short (codes "#input") (decimal bytes ∷ []) (decimal_short bytes h, tt))

pub output_short : (bytes : ℕ) → bytes < 2 ^ 64 → length (output_line bytes) ≤ 65536
output_short bytes h = omega (arith, line_short (codes "#output") (decimal bytes ∷ []) (decimal_short bytes h, tt))

pub text_short : (text : List ℕ) → length text ≤ 65530 → length (text_line text) ≤ 65536
text_short text h = omega (arith, length-append (codes "#text,") text, h)

pub entry_short : (kinds : List CellKind) (x : EntryLine) → IsEntry kinds x → length kinds ≤ 3000 → length (line_of_entry x) ≤ 65536
entry_short kinds x is few =
    let cells = cells_short kinds x.entry.cells is.cells in
    omega (
      arith,
      few,
      cells.1,
      line_short (codes "#entry") (entry_fields x.owner x.shard x.entry)
          (owner_short x.owner is.owner, (decimal_short x.shard is.shard, (decimal_short x.entry.part is.part, (time_short x.entry.sync, (time_short x.entry.other, cells.0))))),
    )
