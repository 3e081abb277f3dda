-- A line is read exactly where it is what is written of what is read.
use Rattle.std.proofs.Common.{◌≡◌, ◌<◌, ◌≤◌, ◌+◌, ◌^◌, ℕ, zero, suc, List, [], ◌∷◌, ◌++◌, map, take, drop, Bool, true, false, cond, Option, Some, None, refl, sym, ◌∙◌, ap, subst, arith, inl, inr, length, get_or}
use Rattle.std.specs.Prelude.{◌↔◌, ◌≢◌, ◌==◌, ◌&&◌, not, codes, decimal}
use Rattle.std.proofs.lemmas.Bool.Decides.{eqb_tells}
use Rattle.std.proofs.lemmas.List.Folds.{list_any_none}
use Rattle.std.specs.List.{list_any}
use Rattle.std.specs.Str.{IsUtf8, is_utf8}
use Rattle.std.proofs.lemmas.Str.{IsUtf8-from_is_utf8, is_utf8-from_IsUtf8}
use Rattle.std.proofs.lemmas.List.{take-append-drop}
use Rattle.tw_rows.specs.Instant.{inf}
use Rattle.tw_rows.specs.declared.cells.Datum.{Datum}
use Rattle.tw_rows.specs.declared.kind.CellKind.{CellKind}
use Rattle.row_reader.specs.FieldTexts.{time_text}
use Rattle.row_reader.specs.Number.{number_of, same_text}
use Rattle.row_reader.specs.Fields.{commas}
use Rattle.row_reader.specs.Values.{both}
use Rattle.row_reader.proofs.Commas.{NoComma}
use Rattle.row_reader.proofs.Records.{other}
use Rattle.row_reader.proofs.Numbers.{number_of-spelled, number_of-is, same_text-Decides}
use Rattle.frozen_state.specs.declared.owner.Owner.{Owner}
use Rattle.checkpoint.specs.declared.owner.EntryPart.{EntryPart}
use Rattle.checkpoint.specs.declared.entry.EntryLine.{EntryLine}
use Rattle.checkpoint.specs.Lines.{line_of, time_line, bound_line, input_line, output_line, text_line, owner_text, datum_text, entry_fields, line_of_entry, part_of_entry, IsTimes, IsBound, IsText, IsOwner, IsEntry}
use Rattle.checkpoint.specs.Reading.{is_break, instant_of, pair_of, time_of, bound_of, single_of, input_of, output_of, text_of, owner_of, all_three, part_of, times_of, cells_of, all_parts, entry_by, entry_of}
use Rattle.checkpoint.proofs.Commas.{neither, bare_word, commas-line, line-commas}
use Rattle.checkpoint.proofs.Spelling.{number_back, decimal_bare, time_bare, instant_back, instant_is, owner_back, owner_is, owner_bare, cells_back, cells_bare, cells_are}

both_are : (o p : Option ℕ) (x : ℕ × ℕ) → both o p ≡ Some x → (o ≡ Some x.0) × (p ≡ Some x.1)
both_are None p x h = absurd (cc)
both_are (Some a) None x h = absurd (cc)
both_are (Some a) (Some b) x h = let is : (a, b) ≡ x = cc in (ap (λ (y : ℕ × ℕ). Some y.0) is, ap (λ (y : ℕ × ℕ). Some y.1) is)

-- LINES OF TWO FIELDS
record IsPair (word : List ℕ) (first : List ℕ → Option ℕ) (fs : List (List ℕ)) (x : ℕ × ℕ) : Type 0 where
  a : List ℕ
  b : List ℕ
  fields : fs ≡ word ∷ a ∷ b ∷ []
  one : first a ≡ Some x.0
  two : instant_of b ≡ Some x.1

pair_by : (word w a b : List ℕ) (first : List ℕ → Option ℕ) (q : Bool) (x : ℕ × ℕ) → same_text w word ≡ q → cond q (both (first a) (instant_of b)) None ≡ Some x → IsPair word first (w ∷ a ∷ b ∷ []) x
pair_by word w a b first true x e h =
    let p = both_are (first a) (instant_of b) x h in
    let is = (same_text-Decides w word).0 e in
    record { a = a; b = b; fields = λ i. is i ∷ a ∷ b ∷ []; one = p.0; two = p.1 }
pair_by word w a b first false x e h = absurd (cc)

pair_is : (word : List ℕ) (first : List ℕ → Option ℕ) (fs : List (List ℕ)) (x : ℕ × ℕ) → pair_of word first fs ≡ Some x → IsPair word first fs x
pair_is word first [] x h = absurd (cc)
pair_is word first (w ∷ []) x h = absurd (cc)
pair_is word first (w ∷ a ∷ []) x h = absurd (cc)
pair_is word first (w ∷ a ∷ b ∷ []) x h = pair_by word w a b first (same_text w word) x refl h
pair_is word first (w ∷ a ∷ b ∷ c ∷ fs) x h = absurd (cc)

pair_back : (word a b : List ℕ) (first : List ℕ → Option ℕ) (n p : ℕ) → NoComma word → NoComma a → NoComma b → first a ≡ Some n → instant_of b ≡ Some p →
    pair_of word first (commas (line_of word (a ∷ b ∷ []))) ≡ Some (n, p)
pair_back word a b first n p bare bare_a bare_b one two =
    let same : same_text word word ≡ true = (same_text-Decides word word).1 refl in
    ap (pair_of word first) (commas-line word (a ∷ b ∷ []) bare (bare_a, (bare_b, tt))) ∙ rw (same, one, two) refl

pub time_both : (line : List ℕ) (n p : ℕ) → (time_of line ≡ Some (n, p)) ↔ (IsTimes n p × (line ≡ time_line n p))
time_both line n p = (
  λ h. (
      let f = pair_is (codes "#time") (number_of (2 ^ 62 + 1)) (commas line) (n, p) h in
      let one = number_of-is (2 ^ 62 + 1) f.a n f.one in
      let two = instant_is f.b p f.two in
      ((omega (arith, one.0), two.0), line-commas line _ _ f.fields ∙ (λ i. line_of (codes "#time") (one.1 i ∷ two.1 i ∷ [])))
      ),
  λ h. ap time_of h.1 ∙ pair_back (codes "#time") (decimal n) (time_text p) (number_of (2 ^ 62 + 1)) n p (bare_word (codes "#time") refl) (decimal_bare n (omega (arith, h.0.0))) (time_bare p)
      (number_of-spelled (2 ^ 62 + 1) n (decimal n) (omega (arith, h.0.0)) (omega arith) refl) (instant_back p h.0.1),
)

pub bound_both : (line : List ℕ) (n p : ℕ) → (bound_of line ≡ Some (n, p)) ↔ (IsBound n p × (line ≡ bound_line n p))
bound_both line n p = (
  λ h. (
      let f = pair_is (codes "#bound") instant_of (commas line) (n, p) h in
      let one = instant_is f.a n f.one in
      let two = instant_is f.b p f.two in
      ((one.0, two.0), line-commas line _ _ f.fields ∙ (λ i. line_of (codes "#bound") (one.1 i ∷ two.1 i ∷ [])))
      ),
  λ h. ap bound_of h.1 ∙ pair_back (codes "#bound") (time_text n) (time_text p) instant_of n p (bare_word (codes "#bound") refl) (time_bare n) (time_bare p) (instant_back n h.0.0) (instant_back p h.0.1),
)

-- LINES OF ONE NUMBER
record IsSingle (word : List ℕ) (fs : List (List ℕ)) (n : ℕ) : Type 0 where
  a : List ℕ
  fields : fs ≡ word ∷ a ∷ []
  one : number_of (2 ^ 64) a ≡ Some n

single_by : (word w a : List ℕ) (q : Bool) (n : ℕ) → same_text w word ≡ q → cond q (number_of (2 ^ 64) a) None ≡ Some n → IsSingle word (w ∷ a ∷ []) n
single_by word w a true n e h = let is = (same_text-Decides w word).0 e in record { a = a; fields = λ i. is i ∷ a ∷ []; one = h }
single_by word w a false n e h = absurd (cc)

single_is : (word : List ℕ) (fs : List (List ℕ)) (n : ℕ) → single_of word fs ≡ Some n → IsSingle word fs n
single_is word [] n h = absurd (cc)
single_is word (w ∷ []) n h = absurd (cc)
single_is word (w ∷ a ∷ []) n h = single_by word w a (same_text w word) n refl h
single_is word (w ∷ a ∷ b ∷ fs) n h = absurd (cc)

single_back : (word : List ℕ) (n : ℕ) → NoComma word → n < 2 ^ 64 → single_of word (commas (line_of word (decimal n ∷ []))) ≡ Some n
single_back word n bare low =
    let same : same_text word word ≡ true = (same_text-Decides word word).1 refl in
    ap (single_of word) (commas-line word (decimal n ∷ []) bare (decimal_bare n low, tt)) ∙ rw (same, number_back n low) refl

single_both : (word line : List ℕ) (n : ℕ) → NoComma word → (single_of word (commas line) ≡ Some n) ↔ ((n < 2 ^ 64) × (line ≡ line_of word (decimal n ∷ [])))
single_both word line n bare = (
  λ h. (
      let f = single_is word (commas line) n h in
      let one = number_of-is (2 ^ 64) f.a n f.one in
      (one.0, line-commas line _ _ f.fields ∙ (λ i. line_of word (one.1 i ∷ [])))
      ),
  λ h. ap (λ (l : List ℕ). single_of word (commas l)) h.1 ∙ single_back word n bare h.0,
)

pub input_both : (line : List ℕ) (n : ℕ) → (input_of line ≡ Some n) ↔ ((n < 2 ^ 64) × (line ≡ input_line n))
input_both line n = single_both (codes "#input") line n (bare_word (codes "#input") refl)

pub output_both : (line : List ℕ) (n : ℕ) → (output_of line ≡ Some n) ↔ ((n < 2 ^ 64) × (line ≡ output_line n))
output_both line n = single_both (codes "#output") line n (bare_word (codes "#output") refl)

-- TEXTS
none_at : (xs : List ℕ) → list_any is_break xs ≡ false → (n d : ℕ) → n < length xs → is_break (get_or xs n d) ≡ false
none_at [] h n d low = absurd (omega (arith, low))
none_at (x ∷ xs) h zero d low = (neither (is_break x) (list_any is_break xs) h).0
none_at (x ∷ xs) h (suc n) d low = none_at xs (neither (is_break x) (list_any is_break xs) h).1 n d (omega (arith, low))

apart : (b k : ℕ) → (b == k) ≡ false → b ≢ k
apart b k h e = elim (eqb_tells b k) [ inl t ↦ absurd (let f = t.0 in cc) | inr t ↦ absurd (t.1 e) ]

text_by : (line t : List ℕ) (p q r : Bool) → same_text (take 6 line) (codes "#text,") ≡ p → list_any is_break (drop 6 line) ≡ q → is_utf8 (drop 6 line) ≡ r →
    cond (p && not q && r) (Some (drop 6 line)) None ≡ Some t → IsText t × (line ≡ text_line t)
text_by line t true false true e f g h =
    let is : drop 6 line ≡ t = cc in
    let none : list_any is_break t ≡ false = ap (list_any is_break) (sym is) ∙ f in (
      record {
        is_utf8 = subst IsUtf8 is (IsUtf8-from_is_utf8 _ g);
        no_return = λ n d low. apart _ 13 (neither (get_or t n d == 13) (get_or t n d == 10) (none_at t none n d low)).0;
        no_feed = λ n d low. apart _ 10 (neither (get_or t n d == 13) (get_or t n d == 10) (none_at t none n d low)).1;
      },
      sym (take-append-drop 6 line) ∙ (λ i. (same_text-Decides (take 6 line) (codes "#text,")).0 e i ++ is i),
    )
text_by line t true false false e f g h = absurd (cc)
text_by line t true true r e f g h = absurd (cc)
text_by line t false q r e f g h = absurd (cc)

no_break : (t : List ℕ) → IsText t → list_any is_break t ≡ false
no_break t is = list_any_none is_break t (λ n d low. rw (other _ 13 (is.no_return n d low), other _ 10 (is.no_feed n d low)) refl)

text_back : (t : List ℕ) → IsText t → text_of (text_line t) ≡ Some t
unfolding text_of
text_back t is = rw (no_break t is, is_utf8-from_IsUtf8 t is.is_utf8) refl

text_is : (line t : List ℕ) → text_of line ≡ Some t → IsText t × (line ≡ text_line t)
unfolding text_of
text_is line t h = text_by line t (same_text (take 6 line) (codes "#text,")) (list_any is_break (drop 6 line)) (is_utf8 (drop 6 line)) refl refl refl h

pub text_both : (line t : List ℕ) → (text_of line ≡ Some t) ↔ (IsText t × (line ≡ text_line t))
text_both line t = (text_is line t, λ h. ap text_of h.1 ∙ text_back t h.0)

-- ENTRIES
record IsPartOf (fs : List (List ℕ)) (p : EntryPart) : Type 0 where
  owner : IsOwner p.owner
  shard : p.shard < 2 ^ 64
  part : p.part < 2 ^ 64
  rest : List (List ℕ)
  fields : fs ≡ codes "#entry" ∷ owner_text p.owner ∷ decimal p.shard ∷ decimal p.part ∷ rest

three_are : (o : Option Owner) (s p : Option ℕ) (x : EntryPart) → all_three o s p ≡ Some x → (o ≡ Some x.owner) × (s ≡ Some x.shard) × (p ≡ Some x.part)
three_are None s p x h = absurd (cc)
three_are (Some o) None p x h = absurd (cc)
three_are (Some o) (Some s) None x h = absurd (cc)
three_are (Some o) (Some s) (Some p) x h =
    let is : record { owner = o; shard = s; part = p } ≡ x = cc in
    (ap (λ (y : EntryPart). Some y.owner) is, ap (λ (y : EntryPart). Some y.shard) is, ap (λ (y : EntryPart). Some y.part) is)

part_is_by : (w o s p : List ℕ) (rest : List (List ℕ)) (q : Bool) (x : EntryPart) → same_text w (codes "#entry") ≡ q →
    cond q (all_three (owner_of o) (number_of (2 ^ 64) s) (number_of (2 ^ 64) p)) None ≡ Some x → IsPartOf (w ∷ o ∷ s ∷ p ∷ rest) x
part_is_by w o s p rest true x e h =
    let t = three_are (owner_of o) (number_of (2 ^ 64) s) (number_of (2 ^ 64) p) x h in
    let word = (same_text-Decides w (codes "#entry")).0 e in
    let a = owner_is o x.owner t.0 in
    let b = number_of-is (2 ^ 64) s x.shard t.1 in
    let c = number_of-is (2 ^ 64) p x.part t.2 in
    record { owner = a.0; shard = b.0; part = c.0; rest = rest; fields = λ i. word i ∷ a.1 i ∷ b.1 i ∷ c.1 i ∷ rest }
part_is_by w o s p rest false x e h = absurd (cc)

part_is : (fs : List (List ℕ)) (x : EntryPart) → part_of fs ≡ Some x → IsPartOf fs x
part_is [] x h = absurd (cc)
part_is (w ∷ []) x h = absurd (cc)
part_is (w ∷ o ∷ []) x h = absurd (cc)
part_is (w ∷ o ∷ s ∷ []) x h = absurd (cc)
part_is (w ∷ o ∷ s ∷ p ∷ rest) x h = part_is_by w o s p rest (same_text w (codes "#entry")) x refl h

record AreTimesOf (fs : List (List ℕ)) (x : ℕ × ℕ) : Type 0 where
  sync : x.0 ≤ inf
  other : x.1 ≤ inf
  rest : List (List ℕ)
  fields : fs ≡ time_text x.0 ∷ time_text x.1 ∷ rest

times_are : (fs : List (List ℕ)) (x : ℕ × ℕ) → times_of fs ≡ Some x → AreTimesOf fs x
times_are [] x h = absurd (cc)
times_are (a ∷ []) x h = absurd (cc)
times_are (a ∷ b ∷ rest) x h =
    let t = both_are (instant_of a) (instant_of b) x h in
    let s = instant_is a x.0 t.0 in
    let o = instant_is b x.1 t.1 in
    record { sync = s.0; other = o.0; rest = rest; fields = λ i. s.1 i ∷ o.1 i ∷ rest }

record AreParts (p : Option EntryPart) (t : Option (ℕ × ℕ)) (cs : Option (List Datum)) (x : EntryLine) : Type 0 where
  part : p ≡ Some (part_of_entry x)
  times : t ≡ Some (x.entry.sync, x.entry.other)
  cells : cs ≡ Some x.entry.cells

parts_are : (p : Option EntryPart) (t : Option (ℕ × ℕ)) (cs : Option (List Datum)) (x : EntryLine) → all_parts p t cs ≡ Some x → AreParts p t cs x
parts_are None t cs x h = absurd (cc)
parts_are (Some p) None cs x h = absurd (cc)
parts_are (Some p) (Some t) None x h = absurd (cc)
parts_are (Some p) (Some t) (Some cs) x h =
    let is : record { owner = p.owner; shard = p.shard; entry = record { part = p.part; sync = t.0; other = t.1; cells = cs } } ≡ x = cc in
    record {
      part = ap (λ (y : EntryLine). Some (part_of_entry y)) is;
      times = ap (λ (y : EntryLine). Some (y.entry.sync, y.entry.other)) is;
      cells = ap (λ (y : EntryLine). Some y.entry.cells) is;
    }

entry_is : (kinds : List CellKind) (line : List ℕ) (x : EntryLine) → entry_of kinds line ≡ Some x → IsEntry kinds x × (line ≡ line_of_entry x)
entry_is kinds line x h =
    let all = parts_are (part_of (commas line)) (times_of (drop 4 (commas line))) (cells_of kinds (drop 6 (commas line))) x h in
    let p = part_is (commas line) (part_of_entry x) all.part in
    let t = times_are (drop 4 (commas line)) (x.entry.sync, x.entry.other) all.times in
    let c = cells_are kinds (drop 6 (commas line)) x.entry.cells all.cells in
    let rest : p.rest ≡ time_text x.entry.sync ∷ time_text x.entry.other ∷ t.rest = sym (ap (λ (l : List (List ℕ)). drop 4 l) p.fields) ∙ t.fields in
    let last : t.rest ≡ map datum_text x.entry.cells = sym (ap (λ (l : List (List ℕ)). drop 6 l) p.fields ∙ ap (λ (l : List (List ℕ)). drop 2 l) rest) ∙ c.1 in (
      record { owner = p.owner; shard = p.shard; part = p.part; sync = t.sync; other = t.other; cells = c.0 },
      line-commas line (codes "#entry") (entry_fields x.owner x.shard x.entry)
          (p.fields ∙ (λ i. codes "#entry" ∷ owner_text x.owner ∷ decimal x.shard ∷ decimal x.entry.part ∷ rest i)
          ∙ (λ i. codes "#entry" ∷ owner_text x.owner ∷ decimal x.shard ∷ decimal x.entry.part ∷ time_text x.entry.sync ∷ time_text x.entry.other ∷ last i)),
    )

entry_fields_are : (kinds : List CellKind) (x : EntryLine) → IsEntry kinds x → commas (line_of_entry x) ≡ codes "#entry" ∷ entry_fields x.owner x.shard x.entry
entry_fields_are kinds x is = commas-line (codes "#entry") (entry_fields x.owner x.shard x.entry) (bare_word (codes "#entry") refl)
    (owner_bare x.owner is.owner, (decimal_bare x.shard is.shard, (decimal_bare x.entry.part is.part, (time_bare x.entry.sync, (time_bare x.entry.other, cells_bare kinds x.entry.cells is.cells)))))

pub part_back : (kinds : List CellKind) (x : EntryLine) → IsEntry kinds x → part_of (commas (line_of_entry x)) ≡ Some (part_of_entry x)
part_back kinds x is = ap part_of (entry_fields_are kinds x is) ∙ rw (owner_back x.owner is.owner, number_back x.shard is.shard, number_back x.entry.part is.part) refl

entry_back : (kinds : List CellKind) (x : EntryLine) → IsEntry kinds x → entry_of kinds (line_of_entry x) ≡ Some x
entry_back kinds x is = ap (entry_by kinds) (entry_fields_are kinds x is)
    ∙ rw (owner_back x.owner is.owner, number_back x.shard is.shard, number_back x.entry.part is.part, instant_back x.entry.sync is.sync, instant_back x.entry.other is.other, cells_back kinds x.entry.cells is.cells) refl

pub entry_both : (kinds : List CellKind) (line : List ℕ) (x : EntryLine) → (entry_of kinds line ≡ Some x) ↔ (IsEntry kinds x × (line ≡ line_of_entry x))
entry_both kinds line x = (entry_is kinds line x, λ h. ap (entry_of kinds) h.1 ∙ entry_back kinds x h.0)
