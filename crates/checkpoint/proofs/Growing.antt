-- A step adds its line to those that lead to it.
use Rattle.std.proofs.Common.{◌≡◌, ◌<◌, ◌≤◌, ◌+◌, ℕ, zero, suc, Bool, true, false, cond, List, [], ◌∷◌, ◌++◌, length, map, take, drop, Option, Some, None, slice_get, refl, sym, ◌∙◌, ap, subst, arith, append_assoc, length-append}
use Rattle.std.specs.Prelude.{nat_lt, option_map, option_and_then}
use Rattle.std.proofs.lemmas.List.{append-nil, map-append, take_all}
use Rattle.std.proofs.lemmas.List.Elements.{All-append, All-nil}
use Rattle.std.proofs.lemmas.Bool.Decides.{Decides-ltb}
use Rattle.tw_rows.specs.Instant.{inf}
use Rattle.tw_rows.specs.declared.kind.CellKind.{CellKind}
use Rattle.row_reader.specs.Number.{same_text}
use Rattle.row_reader.specs.Fields.{commas}
use Rattle.row_reader.proofs.Numbers.{same_text-Decides}
use Rattle.frozen_state.specs.Frozen.{FrozenView, with_entry}
use Rattle.frozen_state.specs.Forms.{PartFormView, is_form_of}
use Rattle.checkpoint.specs.declared.owner.EntryPart.{EntryPart}
use Rattle.checkpoint.specs.declared.entry.EntryLine.{EntryLine}
use Rattle.checkpoint.specs.Lines.{end_line, time_line, bound_line, text_line, entry_line, part_of_entry, IsText, IsEntry}
use Rattle.checkpoint.specs.Reading.{time_of, bound_of, text_of, part_of, entry_of}
use Rattle.checkpoint.proofs.Both.{time_both, bound_both, text_both, entry_both, part_back}
use Rattle.checkpoint.specs.declared.reading.ReadingStage.{ReadingStage}
use Rattle.checkpoint.specs.declared.reading.ReadingStage.TheVariants.{Head, Texts, Entries, Ended}
use Rattle.checkpoint.specs.Form.{FormView}
use Rattle.checkpoint.specs.Text.{bound_lines, entry_lines, body_lines, HasLine, IsOfForm}
use Rattle.checkpoint.specs.Steps.{State, standing, opening, head_step, bound_step, kinds_in, place_of, entry_step, text_step, step_at}
use Rattle.checkpoint.specs.Taking.{lines_at, IsBeforeEntries, IsAmongEntries, IsAt}
use Rattle.checkpoint.proofs.Entries.{one, lines_with_entry, parts_with_entry, behind_entry, none_later, empty_lines, parts_empty, named, found_at}

-- a state is reached with that line
pub record Grows (form : FormView) (f : FrozenView) (stage : ReadingStage) (line : List ℕ) (s : State) : Type 0 where
  pub at : IsAt form s.frozen s.stage
  pub lines : lines_at form s.frozen s.stage ≡ lines_at form f stage ++ line ∷ []

bind_is : {X Y : Type 0} (f : X → Option Y) (o : Option X) (y : Y) → option_and_then f o ≡ Some y → (x : X) × ((o ≡ Some x) × (f x ≡ Some y))
bind_is f None y h = absurd (cc)
bind_is f (Some x) y h = (x, (refl, h))

map_is : {X Y : Type 0} (f : X → Y) (o : Option X) (y : Y) → option_map f o ≡ Some y → (x : X) × ((o ≡ Some x) × (f x ≡ y))
map_is f None y h = absurd (cc)
map_is f (Some x) y h = (x, (refl, let e : f x ≡ y = cc in e))

-- what is reached is that state
reached : (form : FormView) (f : FrozenView) (stage : ReadingStage) (line : List ℕ) (s t : State) → t ≡ s → Grows form f stage line t → Grows form f stage line s
reached form f stage line s t e g = subst (Grows form f stage line) e g

-- THE FIRST LINES
below : {X : Type 0} (xs : List X) (n : ℕ) (x : X) → slice_get xs n ≡ Some x → n < length xs
below [] n x h = absurd (cc)
below (y ∷ xs) zero x h = omega arith
below (y ∷ xs) (suc n) x h = let b = below xs n x h in omega (arith, b)

past : {X : Type 0} (xs : List X) (n : ℕ) → slice_get xs n ≡ None → length xs ≤ n
past [] n h = omega arith
past (y ∷ xs) zero h = absurd (cc)
past (y ∷ xs) (suc n) h = let b = past xs n h in omega (arith, b)

pub taken_more : {X : Type 0} (xs : List X) (n : ℕ) (x : X) → slice_get xs n ≡ Some x → take (n + 1) xs ≡ take n xs ++ x ∷ []
taken_more [] n x h = absurd (cc)
taken_more (y ∷ xs) zero x h = let e : y ≡ x = cc in ap (λ z. z ∷ []) e
taken_more (y ∷ xs) (suc n) x h = let k : suc n + 1 ≡ suc (n + 1) = omega arith in rw k (ap (λ l. y ∷ l) (taken_more xs n x h))

head_by : (form : FormView) (n : ℕ) (line : List ℕ) (s : State) (first : List ℕ) → slice_get form.head n ≡ Some first → (b : Bool) → same_text line first ≡ b →
    cond b (Some (standing (Head (n + 1)) (opening form))) None ≡ Some s → Grows form (opening form) (Head n) line s
head_by form n line s first at true same h =
    let is : standing (Head (n + 1)) (opening form) ≡ s = cc in
    let low = below form.head n first at in
    let line_is = (same_text-Decides line first).0 same in
    reached form (opening form) (Head n) line s _ is (record {
      at = (omega (arith, low), refl);
      lines = taken_more form.head n first at ∙ ap (λ (l : List ℕ). take n form.head ++ l ∷ []) (sym line_is);
    })
head_by form n line s first at false same h = absurd (cc)

times_by : (form : FormView) (n : ℕ) (line : List ℕ) (s : State) → n ≤ length form.head → slice_get form.head n ≡ None →
    option_map (λ t. standing Texts (record (opening form) { lines = t.0; last = t.1 })) (time_of line) ≡ Some s → Grows form (opening form) (Head n) line s
times_by form n line s low at h =
    let m = map_is _ (time_of line) s h in
    let lines = m.0.0 in
    let last = m.0.1 in
    let is = (time_both line lines last).0 m.1.0 in
    let all : take n form.head ≡ form.head = take_all n form.head (past form.head n at) in
    reached form (opening form) (Head n) line s _ m.1.1 (record {
      at = record {
        read = record {
          times = is.0;
          bounds = All-nil (λ t. t ≤ inf);
          marks = All-nil (λ t. t ≤ inf);
          paired = refl;
          few = omega arith;
          texts = All-nil IsText;
          parts = parts_empty form.parts;
        };
        no_text = λ _. refl;
        no_entry = refl;
      };
      lines = ap (λ (l : List (List ℕ)). form.head ++ time_line lines last ∷ l) (empty_lines form.parts) ∙ (λ i. sym all i ++ sym is.1 i ∷ []);
    })

head_grows : (form : FormView) (n : ℕ) (line : List ℕ) (s : State) → n ≤ length form.head → (o : Option (List ℕ)) → slice_get form.head n ≡ o →
    head_step (opening form) n line o ≡ Some s → Grows form (opening form) (Head n) line s
head_grows form n line s low (Some first) at h = head_by form n line s first at (same_text line first) refl h
head_grows form n line s low None at h = times_by form n line s low at h

-- STREAMS
pub bounds_more : (bs ms : List ℕ) (b m : ℕ) → length ms ≡ length bs → bound_lines (bs ++ b ∷ []) (ms ++ m ∷ []) ≡ bound_lines bs ms ++ bound_line b m ∷ []
bounds_more [] [] b m e = refl
bounds_more [] (y ∷ ms) b m e = absurd (omega (arith, e))
bounds_more (x ∷ bs) [] b m e = absurd (omega (arith, e))
bounds_more (x ∷ bs) (y ∷ ms) b m e = ap (λ l. bound_line x y ∷ l) (bounds_more bs ms b m (omega (arith, e)))

-- the lines end with the bounds, where there is no text and no entry
bounds_last : (head : List (List ℕ)) (t : List ℕ) (bs ts es : List (List ℕ)) → ts ≡ [] → es ≡ [] → head ++ t ∷ (bs ++ (ts ++ es)) ≡ head ++ t ∷ bs
bounds_last head t bs ts es a b = ap (λ (l : List (List ℕ)). head ++ t ∷ l) (ap (λ (l : List (List ℕ)). bs ++ l) (λ i. a i ++ b i) ∙ append-nil bs)

last_behind : (head : List (List ℕ)) (t : List ℕ) (bs more : List (List ℕ)) → head ++ t ∷ (bs ++ more) ≡ (head ++ t ∷ bs) ++ more
last_behind head t bs more = sym (append_assoc head (t ∷ bs) more)

bound_grows : (form : FormView) (f : FrozenView) (line : List ℕ) (s : State) → IsBeforeEntries form f → length f.bounds < form.streams →
    bound_step f line ≡ Some s → Grows form f Texts line s
bound_grows form f line s at low h =
    let m = map_is _ (bound_of line) s h in
    let b = m.0.0 in
    let k = m.0.1 in
    let is = (bound_both line b k).0 m.1.0 in
    let no_text = at.no_text low in
    let no_texts : map text_line f.texts ≡ [] = ap (map text_line) no_text in
    let no_entries : entry_lines f.parts ≡ [] = ap entry_lines at.no_entry ∙ empty_lines form.parts in
    let time = time_line f.lines f.last in
    let before = bounds_last form.head time (bound_lines f.bounds f.marks) _ _ no_texts no_entries in
    let after = bounds_last form.head time (bound_lines (f.bounds ++ b ∷ []) (f.marks ++ k ∷ [])) _ _ no_texts no_entries in
    let one_more = ap (λ (l : List (List ℕ)). form.head ++ time ∷ l) (bounds_more f.bounds f.marks b k at.read.paired) ∙ last_behind form.head time (bound_lines f.bounds f.marks) (bound_line b k ∷ []) in
    let line_is : bound_line b k ∷ [] ≡ line ∷ [] = λ i. sym is.1 i ∷ [] in
    reached form f Texts line s _ m.1.1 (record {
      at = record {
        read = record {
          times = at.read.times;
          bounds = All-append (λ t. t ≤ inf) f.bounds (b ∷ []) at.read.bounds (one (λ t. t ≤ inf) b is.0.0);
          marks = All-append (λ t. t ≤ inf) f.marks (k ∷ []) at.read.marks (one (λ t. t ≤ inf) k is.0.1);
          paired = omega (arith, length-append f.bounds (b ∷ []), length-append f.marks (k ∷ []), at.read.paired);
          few = omega (arith, length-append f.bounds (b ∷ []), low);
          texts = at.read.texts;
          parts = at.read.parts;
        };
        no_text = λ _. no_text;
        no_entry = at.no_entry;
      };
      lines = after ∙ one_more ∙ (λ i. sym before i ++ line_is i);
    })

-- ENTRIES
entry_by : (form : FormView) (f : FrozenView) (line : List ℕ) (k : ℕ) (g : PartFormView) (kinds : List CellKind) (p : EntryPart) (x : EntryLine) → IsOfForm form f →
    slice_get form.parts k ≡ Some g → g.owner ≡ p.owner → g.shard ≡ p.shard → slice_get g.rows p.part ≡ Some kinds → part_of (commas line) ≡ Some p → entry_of kinds line ≡ Some x →
    entry_lines (drop (k + 1) f.parts) ≡ [] →
    IsAmongEntries form (record f { parts = with_entry k x.entry f.parts }) k × (body_lines form.head (record f { parts = with_entry k x.entry f.parts }) ≡ body_lines form.head f ++ line ∷ [])
entry_by form f line k g kinds p x of at owner shard rows part entry none =
    let is = (entry_both kinds line x).0 entry in
    let named_so : Some p ≡ Some (part_of_entry x) = sym part ∙ ap (λ l. part_of (commas l)) is.1 ∙ part_back kinds x is.0 in
    let p_is : p ≡ part_of_entry x = cc in
    let o : x.owner ≡ g.owner = sym (owner ∙ ap (λ (q : EntryPart). q.owner) p_is) in
    let s : x.shard ≡ g.shard = sym (shard ∙ ap (λ (q : EntryPart). q.shard) p_is) in
    let has : HasLine g x.entry = record {
      kinds = kinds;
      known = ap (λ (n : ℕ). slice_get g.rows n) (sym (ap (λ (q : EntryPart). q.part) p_is)) ∙ rows;
      entry = subst (λ (y : EntryLine). IsEntry kinds y) (λ i. record { owner = o i; shard = s i; entry = x.entry }) is.0;
    } in
    let suc_is : k + 1 ≡ suc k = omega arith in
    let none_here = ap (λ (n : ℕ). entry_lines (drop n f.parts)) (sym suc_is) ∙ none in
    let line_is : entry_line g.owner g.shard x.entry ≡ line = (λ i. entry_line (sym o i) (sym s i) x.entry) ∙ sym is.1 in
    let lines = lines_with_entry form.parts f.parts k g x.entry of.read.parts at none_here ∙ ap (λ (l : List ℕ). entry_lines f.parts ++ l ∷ []) line_is in
    let time = time_line f.lines f.last in
    let bounds = bound_lines f.bounds f.marks in
    let texts = map text_line f.texts in (
      record {
        of_form = record {
          read = record {
            times = of.read.times;
            bounds = of.read.bounds;
            marks = of.read.marks;
            paired = of.read.paired;
            few = of.read.few;
            texts = of.read.texts;
            parts = parts_with_entry form.parts f.parts k g x.entry of.read.parts at has;
          };
          all = of.all;
        };
        none_behind = ap (λ (n : ℕ). entry_lines (drop n (with_entry k x.entry f.parts))) suc_is ∙ ap entry_lines (behind_entry f.parts k x.entry) ∙ none_here;
      },
      ap (λ (l : List (List ℕ)). form.head ++ time ∷ (bounds ++ (texts ++ l))) lines
          ∙ ap (λ (l : List (List ℕ)). form.head ++ time ∷ (bounds ++ l)) (sym (append_assoc texts (entry_lines f.parts) (line ∷ [])))
          ∙ ap (λ (l : List (List ℕ)). form.head ++ time ∷ l) (sym (append_assoc bounds (texts ++ entry_lines f.parts) (line ∷ [])))
          ∙ last_behind form.head time (bounds ++ (texts ++ entry_lines f.parts)) (line ∷ []),
    )

entry_grows : (form : FormView) (f : FrozenView) (from : ℕ) (line : List ℕ) (s : State) → IsOfForm form f → entry_lines (drop (from + 1) f.parts) ≡ [] →
    entry_step form f from line ≡ Some s → IsAt form s.frozen s.stage × (lines_at form s.frozen s.stage ≡ body_lines form.head f ++ line ∷ [])
entry_grows form f from line s of none h =
    let a = bind_is _ (part_of (commas line)) s h in
    let p = a.0 in
    let b = bind_is _ (place_of form.parts from p) s a.1.1 in
    let k = b.0 in
    let found = found_at (is_form_of p.owner p.shard) form.parts from k b.1.0 in
    let c = bind_is _ (kinds_in form.parts k p.part) s b.1.1 in
    let kinds = c.0 in
    let r = bind_is _ (slice_get form.parts k) kinds c.1.0 in
    let name = named p.owner p.shard found.found found.passes in
    let same : r.0 ≡ found.found = (let e : Some r.0 ≡ Some found.found = sym r.1.0 ∙ found.at in cc) in
    let rows = ap (λ (g : PartFormView). slice_get g.rows p.part) (sym same) ∙ r.1.1 in
    let d = map_is _ (entry_of kinds line) s c.1.1 in
    let low : from + 1 ≤ k + 1 = omega (arith, found.low) in
    let all = entry_by form f line k found.found kinds p d.0 of found.at name.0 name.1 rows a.1.0 d.1.0 (none_later f.parts (from + 1) (k + 1) low none) in
    subst (λ (t : State). IsAt form t.frozen t.stage × (lines_at form t.frozen t.stage ≡ body_lines form.head f ++ line ∷ [])) d.1.1 all

entries_grow : (form : FormView) (f : FrozenView) (stage : ReadingStage) (from : ℕ) (line : List ℕ) (s : State) → IsOfForm form f → entry_lines (drop (from + 1) f.parts) ≡ [] →
    lines_at form f stage ≡ body_lines form.head f → entry_step form f from line ≡ Some s → Grows form f stage line s
entries_grow form f stage from line s of none is h =
    let g = entry_grows form f from line s of none h in
    record { at = g.0; lines = g.1 ∙ ap (λ (l : List (List ℕ)). l ++ line ∷ []) (sym is) }

-- TEXTS
text_grows : (form : FormView) (f : FrozenView) (line : List ℕ) (s : State) → IsBeforeEntries form f → length f.bounds ≡ form.streams →
    (o : Option (List ℕ)) → text_of line ≡ o → text_step form f line o ≡ Some s → Grows form f Texts line s
text_grows form f line s at all (Some t) of h =
    let is = (text_both line t).0 of in
    let to : standing Texts (record f { texts = f.texts ++ t ∷ [] }) ≡ s = cc in
    let time = time_line f.lines f.last in
    let bounds = bound_lines f.bounds f.marks in
    let no_entries : entry_lines f.parts ≡ [] = ap entry_lines at.no_entry ∙ empty_lines form.parts in
    let before : body_lines form.head f ≡ form.head ++ time ∷ (bounds ++ map text_line f.texts) =
    ap (λ (l : List (List ℕ)). form.head ++ time ∷ (bounds ++ l)) (ap (λ (l : List (List ℕ)). map text_line f.texts ++ l) no_entries ∙ append-nil (map text_line f.texts)) in
    let after : body_lines form.head (record f { texts = f.texts ++ t ∷ [] }) ≡ form.head ++ time ∷ (bounds ++ map text_line (f.texts ++ t ∷ [])) =
    ap (λ (l : List (List ℕ)). form.head ++ time ∷ (bounds ++ l)) (ap (λ (l : List (List ℕ)). map text_line (f.texts ++ t ∷ []) ++ l) no_entries ∙ append-nil (map text_line (f.texts ++ t ∷ []))) in
    let more = map-append text_line f.texts (t ∷ []) ∙ ap (λ (l : List ℕ). map text_line f.texts ++ l ∷ []) (sym is.1) in
    reached form f Texts line s _ to (record {
      at = record {
        read = record {
          times = at.read.times;
          bounds = at.read.bounds;
          marks = at.read.marks;
          paired = at.read.paired;
          few = at.read.few;
          texts = All-append IsText f.texts (t ∷ []) at.read.texts (one IsText t is.0);
          parts = at.read.parts;
        };
        no_text = λ low. absurd (omega (arith, low, all));
        no_entry = at.no_entry;
      };
      lines = after ∙ ap (λ (l : List (List ℕ)). form.head ++ time ∷ (bounds ++ l)) more
          ∙ ap (λ (l : List (List ℕ)). form.head ++ time ∷ l) (sym (append_assoc bounds (map text_line f.texts) (line ∷ [])))
          ∙ last_behind form.head time (bounds ++ map text_line f.texts) (line ∷ [])
          ∙ ap (λ (l : List (List ℕ)). l ++ line ∷ []) (sym before);
    })
text_grows form f line s at all None of h =
    let none : entry_lines (drop 0 f.parts) ≡ [] = ap entry_lines at.no_entry ∙ empty_lines form.parts in
    entries_grow form f Texts 0 line s (record { read = at.read; all = all }) (none_later f.parts 0 (0 + 1) (omega arith) none) refl h

-- the end
ends : (form : FormView) (f : FrozenView) (stage : ReadingStage) (line : List ℕ) (s : State) → IsOfForm form f → lines_at form f stage ≡ body_lines form.head f → same_text line end_line ≡ true →
    Some (standing Ended f) ≡ Some s → Grows form f stage line s
ends form f stage line s of is same h =
    let to : standing Ended f ≡ s = cc in
    reached form f stage line s _ to (record {
      at = of;
      lines = λ i. sym is i ++ sym ((same_text-Decides line end_line).0 same) i ∷ [];
    })

end_or_text : (form : FormView) (f : FrozenView) (line : List ℕ) (s : State) → IsBeforeEntries form f → length f.bounds ≡ form.streams → (b : Bool) → same_text line end_line ≡ b →
    cond b (Some (standing Ended f)) (text_step form f line (text_of line)) ≡ Some s → Grows form f Texts line s
end_or_text form f line s at all true same h = ends form f Texts line s (record { read = at.read; all = all }) refl same h
end_or_text form f line s at all false same h = text_grows form f line s at all (text_of line) refl h

bound_or_more : (form : FormView) (f : FrozenView) (line : List ℕ) (s : State) → IsBeforeEntries form f → (b : Bool) → nat_lt (length f.bounds) form.streams ≡ b →
    cond b (bound_step f line) (cond (same_text line end_line) (Some (standing Ended f)) (text_step form f line (text_of line))) ≡ Some s → Grows form f Texts line s
bound_or_more form f line s at true lt h = bound_grows form f line s at ((Decides-ltb (length f.bounds) form.streams).0 lt) h
bound_or_more form f line s at false lt h =
    let not_low : length f.bounds < form.streams → ⊥ = λ low. (let e = (Decides-ltb (length f.bounds) form.streams).1 low in absurd (cc)) in
    let all : length f.bounds ≡ form.streams = omega (arith, at.read.few, not_low) in
    end_or_text form f line s at all (same_text line end_line) refl h

end_or_entry : (form : FormView) (f : FrozenView) (k : ℕ) (line : List ℕ) (s : State) → IsAmongEntries form f k → (b : Bool) → same_text line end_line ≡ b →
    cond b (Some (standing Ended f)) (entry_step form f k line) ≡ Some s → Grows form f (Entries k) line s
end_or_entry form f k line s at true same h = ends form f (Entries k) line s at.of_form refl same h
end_or_entry form f k line s at false same h = entries_grow form f (Entries k) k line s at.of_form at.none_behind refl h

pub grows : (form : FormView) (f : FrozenView) (stage : ReadingStage) (line : List ℕ) (s : State) → IsAt form f stage → step_at form f line stage ≡ Some s → Grows form f stage line s
grows form f (Head n) line s at h =
    subst (λ (g : FrozenView). step_at form g line (Head n) ≡ Some s → Grows form g (Head n) line s) (sym at.1) (head_grows form n line s at.0 (slice_get form.head n) refl) h
grows form f Texts line s at h = bound_or_more form f line s at (nat_lt (length f.bounds) form.streams) refl h
grows form f (Entries k) line s at h = end_or_entry form f k line s at (same_text line end_line) refl h
grows form f Ended line s at h = absurd (cc)
