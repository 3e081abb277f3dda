-- No line of a checkpoint has an LF, so what is kept is read back line by line.
use Rattle.std.proofs.Common.{◌≡◌, ◌≢◌, ◌<◌, ◌^◌, ◌/◌, ◌%◌, ◌++◌, ℕ, ℤ, pos, negsuc, zero, suc, List, [], ◌∷◌, length, map, get_or, slice_index, true, false, refl, sym, ◌∙◌, ap, subst, arith, append-nil}
use Rattle.std.specs.Prelude.{codes, decimal, flat_map, All}
use Rattle.std.specs.List.{list_any}
use Rattle.std.proofs.lemmas.List.Elements.{All-nil, All-cons, All-append, All-map}
use Rattle.std.proofs.lemmas.Bool.Decides.{Decides-ltb}
use Rattle.csv.specs.Writing.{default_writer, needs_byte}
use Rattle.hex.specs.Hex.{encode_with, lower_digits}
use Rattle.tw_rows.specs.declared.cells.Datum.{Datum}
use Rattle.tw_rows.specs.declared.cells.Datum.TheVariants.{Int, Bool as Flag, Text}
use Rattle.tw_rows.specs.declared.kind.CellKind.{CellKind}
use Rattle.tw_rows.specs.declared.kind.CellKind.TheVariants.{Whole, Bit, Place}
use Rattle.edge_stream.specs.declared.saved.SavedEntry.{SavedEntry}
use Rattle.row_reader.specs.FieldTexts.{time_text}
use Rattle.row_reader.specs.NumberTexts.{number_text}
use Rattle.row_reader.specs.Number.{fits_i64}
use Rattle.row_reader.proofs.Plain.{IsPlain, decimal_plain, number_plain, time_plain}
use Rattle.wire_lines.specs.Lines.{HasNoLf, whole, joined}
use Rattle.wire_lines.proofs.Cutting.{HasNoLf-one_line, whole-joined}
use Rattle.admission.specs.declared.policy.Lateness.{Lateness}
use Rattle.admission.specs.declared.policy.Lateness.TheVariants as late
use Rattle.admission.specs.declared.policy.Policy.{Policy}
use Rattle.frozen_state.specs.declared.owner.Owner.{Owner}
use Rattle.frozen_state.specs.declared.owner.Owner.TheVariants.{In, Node, Out}
use Rattle.frozen_state.specs.declared.frozen.FrozenPart.{FrozenPart}
use Rattle.frozen_state.specs.Frozen.{FrozenView}
use Rattle.frozen_state.specs.Forms.{PartFormView}
use Rattle.command_line.specs.Words.{AreWithin}
use Rattle.checkpoint.specs.Lines.{line_of, form_line, end_line, query_line, options_line, late_text, time_line, bound_line, input_line, output_line, text_line, entry_line, entry_fields, owner_text, datum_text, IsOwner, IsCell, AreCells, IsText}
use Rattle.checkpoint.proofs.Commas.{neither}
use Rattle.checkpoint.specs.Form.{FormView, pieces, query_lines, head_lines}
use Rattle.checkpoint.specs.Text.{bound_lines, part_lines, entry_lines, body_lines, checkpoint_lines, HasLine, ArePartsWith, IsOfForm}
use Rattle.tempo_cli.specs.Jobs.{form_asked}
use Rattle.tempo_cli.specs.Keeping.{Task, place_lines, StartsTask, IsStartOf}

abbrev feeds_not : ℕ → Type 0
feeds_not b = b ≢ 10

-- a word
word : (xs : List ℕ) → IsPlain xs → HasNoLf xs
word [] h = All-nil feeds_not
word (b ∷ bs) h =
    let n = neither (needs_byte default_writer b) (list_any (needs_byte default_writer) bs) h in
    All-cons feeds_not b bs (λ e. feed_needs (subst (λ x. needs_byte default_writer x ≡ false) e n.0)) (word bs n.1)
  where
    feed_needs : needs_byte default_writer 10 ≡ false → ⊥
    feed_needs e = absurd (cc)

-- fields, and a line of them
abbrev AreFree : List (List ℕ) → Type 0
AreFree [] = Unit {0}
AreFree (f ∷ fs) = HasNoLf f × AreFree fs

fields : (fs : List (List ℕ)) → AreFree fs → HasNoLf (flat_map (λ f. 44 ∷ f) fs)
fields [] h = All-nil feeds_not
fields (f ∷ fs) h = All-append feeds_not (44 ∷ f) (flat_map (λ f. 44 ∷ f) fs) (All-cons feeds_not 44 f (λ e. omega (arith, e)) h.0) (fields fs h.1)

line : (w : List ℕ) (fs : List (List ℕ)) → HasNoLf w → AreFree fs → HasNoLf (line_of w fs)
line w fs h hs = All-append feeds_not w (flat_map (λ f. 44 ∷ f) fs) h (fields fs hs)

number : (n : ℕ) → n < 2 ^ 64 → HasNoLf (decimal n)
number n low = word (decimal n) (decimal_plain n low)

-- hexadecimal digits
digit : (xs : List ℕ) (i : ℕ) → HasNoLf xs → slice_index xs i ≢ 10
digit [] i h e = omega (arith, e)
digit (x ∷ xs) zero h e = h 0 x (omega arith) e
digit (x ∷ xs) (suc i) h e = digit xs i (λ k d low. h (suc k) d (omega (arith, low))) e

digits : (bytes : List ℕ) → HasNoLf (encode_with lower_digits bytes)
unfolding encode_with
digits [] = All-nil feeds_not
digits (b ∷ bs) =
    let each = HasNoLf-one_line lower_digits refl in
    All-cons feeds_not (slice_index lower_digits (b / 16)) (slice_index lower_digits (b % 16) ∷ encode_with lower_digits bs) (digit lower_digits (b / 16) each)
    (All-cons feeds_not (slice_index lower_digits (b % 16)) (encode_with lower_digits bs) (digit lower_digits (b % 16) each) (digits bs))

-- the lines in front
query_free : (bytes : List ℕ) → HasNoLf (query_line bytes)
query_free bytes = All-append feeds_not (codes "#query,") (encode_with lower_digits bytes) (HasNoLf-one_line (codes "#query,") refl) (digits bytes)

late_free : (l : Lateness) → HasNoLf (late_text l)
late_free late.Refuse = HasNoLf-one_line (codes "refuse") refl
late_free late.Drop = HasNoLf-one_line (codes "drop") refl
late_free late.Adjust = HasNoLf-one_line (codes "adjust") refl

options_free : (workers : ℕ) (p : Policy) → workers < 2 ^ 64 → p.lateness < 2 ^ 64 → p.period < 2 ^ 64 → HasNoLf (options_line workers p)
options_free workers p a b c = line (codes "#options") (decimal workers ∷ late_text p.late ∷ decimal p.lateness ∷ decimal p.period ∷ []) (HasNoLf-one_line (codes "#options") refl)
    (number workers a, (late_free p.late, (number p.lateness b, (number p.period c, tt))))

one : (x : List ℕ) → HasNoLf x → All HasNoLf (x ∷ [])
one x h = All-cons HasNoLf x [] h (All-nil HasNoLf)

head_free : (query : List ℕ) (workers : ℕ) (p : Policy) → workers < 2 ^ 64 → p.lateness < 2 ^ 64 → p.period < 2 ^ 64 → All HasNoLf (head_lines query workers p)
head_free query workers p a b c = All-cons HasNoLf form_line (query_lines query ++ options_line workers p ∷ []) (HasNoLf-one_line form_line refl)
    (All-append HasNoLf (query_lines query) (options_line workers p ∷ []) (All-map HasNoLf query_line (pieces (length query) query) (λ n d low. query_free _)) (one (options_line workers p) (options_free workers p a b c)))

time_free : (lines last : ℕ) → lines < 2 ^ 64 → HasNoLf (time_line lines last)
time_free lines last low = line (codes "#time") (decimal lines ∷ time_text last ∷ []) (HasNoLf-one_line (codes "#time") refl) (number lines low, (word (time_text last) (time_plain last), tt))

bounds_free : (bs ms : List ℕ) → All HasNoLf (bound_lines bs ms)
bounds_free [] ms = All-nil HasNoLf
bounds_free (b ∷ bs) [] = All-nil HasNoLf
bounds_free (b ∷ bs) (m ∷ ms) = All-cons HasNoLf (bound_line b m) (bound_lines bs ms)
    (line (codes "#bound") (time_text b ∷ time_text m ∷ []) (HasNoLf-one_line (codes "#bound") refl) (word (time_text b) (time_plain b), (word (time_text m) (time_plain m), tt))) (bounds_free bs ms)

-- the lines of entries
owner_free : (o : Owner) → IsOwner o → HasNoLf (owner_text o)
owner_free In h = HasNoLf-one_line (codes "in") refl
owner_free (Node n) h = number n h
owner_free Out h = HasNoLf-one_line (codes "out") refl

int_free : (x : ℤ) → fits_i64 x ≡ true → HasNoLf (number_text 0 x)
int_free (pos n) h = let low : n < 2 ^ 63 = (Decides-ltb n (2 ^ 63)).0 h in word (number_text 0 (pos n)) (number_plain 0 (pos n) (omega (arith, low)))
int_free (negsuc n) h = let low : n < 2 ^ 63 = (Decides-ltb n (2 ^ 63)).0 h in word (number_text 0 (negsuc n)) (number_plain 0 (negsuc n) (omega (arith, low)))

datum_free : (k : CellKind) (d : Datum) → IsCell k d → HasNoLf (datum_text d)
datum_free Whole (Int x) h = int_free x h
datum_free Whole (Flag b) h = absurd h
datum_free Whole (Text p) h = absurd h
datum_free Bit (Int x) h = absurd h
datum_free Bit (Flag true) h = HasNoLf-one_line (codes "1") refl
datum_free Bit (Flag false) h = HasNoLf-one_line (codes "0") refl
datum_free Bit (Text p) h = absurd h
datum_free Place (Int x) h = absurd h
datum_free Place (Flag b) h = absurd h
datum_free Place (Text p) h = number p h

cells_free : (ks : List CellKind) (ds : List Datum) → AreCells ks ds → AreFree (map datum_text ds)
cells_free [] [] h = tt
cells_free [] (d ∷ ds) h = absurd h
cells_free (k ∷ ks) [] h = absurd h
cells_free (k ∷ ks) (d ∷ ds) h = (datum_free k d h.0, cells_free ks ds h.1)

entry_free : (g : PartFormView) (e : SavedEntry) → HasLine g e → HasNoLf (entry_line g.owner g.shard e)
entry_free g e h = line (codes "#entry") (entry_fields g.owner g.shard e) (HasNoLf-one_line (codes "#entry") refl)
    (owner_free g.owner h.entry.owner, (number g.shard h.entry.shard, (number e.part h.entry.part, (word (time_text e.sync) (time_plain e.sync), (word (time_text e.other) (time_plain e.other), cells_free h.kinds e.cells h.entry.cells)))))

part_free : (g : PartFormView) (owner : Owner) (shard : ℕ) (es : List SavedEntry) → owner ≡ g.owner → shard ≡ g.shard → All (HasLine g) es → All HasNoLf (map (entry_line owner shard) es)
part_free g owner shard es o s has = All-map HasNoLf (entry_line owner shard) es (λ n d low.
    subst (λ (x : ℕ). HasNoLf (entry_line owner x (get_or es n d))) (sym s) (subst (λ (x : Owner). HasNoLf (entry_line x g.shard (get_or es n d))) (sym o) (entry_free g _ (has n d low))))

entries_free : (gs : List PartFormView) (ps : List FrozenPart) → ArePartsWith gs ps → All HasNoLf (entry_lines ps)
entries_free [] [] are = All-nil HasNoLf
entries_free [] (p ∷ ps) are = absurd are
entries_free (g ∷ gs) [] are = absurd are
entries_free (g ∷ gs) (p ∷ ps) are = All-append HasNoLf (part_lines p) (entry_lines ps) (part_free g p.owner p.shard p.saved are.0.owner are.0.shard are.0.entries) (entries_free gs ps are.1)

text_free : (text : List ℕ) → IsText text → HasNoLf (text_line text)
text_free text is = All-append feeds_not (codes "#text,") text (HasNoLf-one_line (codes "#text,") refl) is.no_feed

-- all lines
lines_free : (head : List (List ℕ)) (form : FormView) (f : FrozenView) → All HasNoLf head → IsOfForm form f → All HasNoLf (checkpoint_lines head f)
lines_free head form f free of =
    let texts = All-map HasNoLf text_line f.texts (λ n d low. text_free _ (of.read.texts n d low)) in
    let entries = All-append HasNoLf (map text_line f.texts) (entry_lines f.parts) texts (entries_free form.parts f.parts of.read.parts) in
    let behind = All-append HasNoLf (bound_lines f.bounds f.marks) (map text_line f.texts ++ entry_lines f.parts) (bounds_free f.bounds f.marks) entries in
    let times = All-cons HasNoLf (time_line f.lines f.last) (bound_lines f.bounds f.marks ++ (map text_line f.texts ++ entry_lines f.parts)) (time_free f.lines f.last (omega (arith, of.read.times.0))) behind in
    All-append HasNoLf (body_lines head f) (end_line ∷ []) (All-append HasNoLf head _ free times) (one end_line (HasNoLf-one_line end_line refl))

places_free : (input output : ℕ) → input < 2 ^ 64 → output < 2 ^ 64 → All HasNoLf (place_lines (record { input = input; output = output }))
places_free input output a b = All-cons HasNoLf (input_line input) (output_line output ∷ []) (line (codes "#input") (decimal input ∷ []) (HasNoLf-one_line (codes "#input") refl) (number input a, tt))
    (one (output_line output) (line (codes "#output") (decimal output ∷ []) (HasNoLf-one_line (codes "#output") refl) (number output b, tt)))

-- what was kept is what a start reads
pub read_back : (t : Task) (bytes : List ℕ) → AreWithin t.asked → StartsTask t bytes → IsStartOf t bytes
read_back t bytes within s =
    let free : All HasNoLf (place_lines t.start ++ s.C) =
    All-append HasNoLf (place_lines t.start) s.C (places_free t.start.input t.start.output s.low.0 s.low.1)
    (subst (All HasNoLf) (sym s.froze.text) (lines_free (head_lines t.asked.query t.asked.workers t.asked.policy) (form_asked t.asked t.plan) s.froze.frozen
    (head_free t.asked.query t.asked.workers t.asked.policy (omega (arith, within.workers)) (omega (arith, within.lateness)) (omega (arith, within.period))) s.froze.of_form)) in
    record {
      C = s.C;
      froze = s.froze;
      low = s.low;
      lines_are = ap whole (s.text ∙ sym (append-nil (joined (place_lines t.start ++ s.C)))) ∙ whole-joined (place_lines t.start ++ s.C) [] free (All-nil feeds_not);
    }
