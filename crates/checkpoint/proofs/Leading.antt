-- The lines of what was frozen lead a reader to it.
use Rattle.std.proofs.Common.{◌≡◌, ◌≤◌, ◌+◌, ℕ, Bool, true, false, cond, List, [], ◌∷◌, ◌++◌, length, map, Option, Some, None, slice_get, refl, sym, ◌∙◌, ap, subst, arith, append_assoc, length-append}
use Rattle.std.specs.Prelude.{All, nat_lt, option_map, option_and_then, ◌||◌}
use Rattle.std.proofs.lemmas.List.{append-nil}
use Rattle.std.proofs.lemmas.List.Elements.{All-append, All-nil}
use Rattle.std.proofs.lemmas.Bool.Decides.{Decides-ltb}
use Rattle.tw_rows.specs.Instant.{inf}
use Rattle.edge_stream.specs.declared.saved.SavedEntry.{SavedEntry}
use Rattle.row_reader.specs.Number.{same_text}
use Rattle.row_reader.specs.Fields.{commas}
use Rattle.row_reader.proofs.Numbers.{same_text-Decides}
use Rattle.frozen_state.specs.declared.owner.Owner.{Owner}
use Rattle.frozen_state.specs.declared.frozen.FrozenPart.{FrozenPart}
use Rattle.frozen_state.specs.Frozen.{FrozenView, with_entry}
use Rattle.frozen_state.specs.Forms.{PartFormView, is_form_of, is_named_in, AreApart}
use Rattle.checkpoint.specs.declared.entry.EntryLine.{EntryLine}
use Rattle.checkpoint.specs.Lines.{end_line, time_line, bound_line, text_line, entry_line, part_of_entry, IsTimes, IsText}
use Rattle.checkpoint.specs.Reading.{bound_of, text_of, part_of, entry_of}
use Rattle.checkpoint.proofs.Both.{time_both, bound_both, text_both, entry_both, part_back}
use Rattle.checkpoint.specs.declared.reading.ReadingStage.{ReadingStage}
use Rattle.checkpoint.specs.declared.reading.ReadingStage.TheVariants.{Head, Texts, Entries, Ended}
use Rattle.checkpoint.specs.Form.{FormView}
use Rattle.checkpoint.specs.Text.{bound_lines, part_lines, entry_lines, body_lines, checkpoint_lines, HasLine, ArePartsWith, IsOfForm}
use Rattle.checkpoint.specs.Steps.{State, standing, empty_parts, opening, head_step, bound_step, kinds_in, cells_step, placed_step, place_of, entry_step, text_step, step, reads}
use Rattle.checkpoint.proofs.Entries.{one, first_of, others_of, named, own_name, found_behind}

pub reads_append : (form : FormView) (s : Option State) (a b : List (List ℕ)) → reads form s (a ++ b) ≡ reads form (reads form s a) b
reads_append form s [] b = refl
reads_append form s (l ∷ a) b = reads_append form (option_and_then (step form l) s) a b

pub reads_none : (form : FormView) (a : List (List ℕ)) → reads form None a ≡ None
reads_none form [] = refl
reads_none form (l ∷ a) = reads_none form a

same_self : (a : List ℕ) → same_text a a ≡ true
same_self a = (same_text-Decides a a).1 refl

-- THE FIRST LINES
at_length : (done : List (List ℕ)) (h : List ℕ) (todo : List (List ℕ)) → slice_get (done ++ h ∷ todo) (length done) ≡ Some h
at_length [] h todo = refl
at_length (d ∷ done) h todo = at_length done h todo

heads_lead : (form : FormView) (f : FrozenView) (done todo : List (List ℕ)) → form.head ≡ done ++ todo →
    reads form (Some (standing (Head (length done)) f)) todo ≡ Some (standing (Head (length form.head)) f)
heads_lead form f done [] e = ap (λ (l : List (List ℕ)). Some (standing (Head (length l)) f)) (sym (e ∙ append-nil done))
heads_lead form f done (h ∷ todo) e =
    let at : slice_get form.head (length done) ≡ Some h = ap (λ (l : List (List ℕ)). slice_get l (length done)) e ∙ at_length done h todo in
    let more : length done + 1 ≡ length (done ++ h ∷ []) = omega (arith, length-append done (h ∷ [])) in
    let next : step form h (standing (Head (length done)) f) ≡ Some (standing (Head (length (done ++ h ∷ []))) f) =
    ap (head_step f (length done) h) at ∙ ap (λ (b : Bool). cond b (Some (standing (Head (length done + 1)) f)) None) (same_self h) ∙ ap (λ (n : ℕ). Some (standing (Head n) f)) more in
    ap (λ (s : Option State). reads form s todo) next ∙ heads_lead form f (done ++ h ∷ []) todo (e ∙ sym (append_assoc done (h ∷ []) todo))

past_end : (xs : List (List ℕ)) → slice_get xs (length xs) ≡ None
past_end [] = refl
past_end (x ∷ xs) = past_end xs

times_lead : (form : FormView) (f : FrozenView) (lines last : ℕ) → IsTimes lines last →
    step form (time_line lines last) (standing (Head (length form.head)) f) ≡ Some (standing Texts (record f { lines = lines; last = last }))
times_lead form f lines last is =
    ap (head_step f (length form.head) (time_line lines last)) (past_end form.head)
    ∙ ap (option_map (λ t. standing Texts (record f { lines = t.0; last = t.1 }))) ((time_both (time_line lines last) lines last).1 (is, refl))

-- STREAMS
bounds_lead : (form : FormView) (f : FrozenView) (bs ms : List ℕ) → length ms ≡ length bs → All (λ t. t ≤ inf) bs → All (λ t. t ≤ inf) ms → length f.bounds + length bs ≡ form.streams →
    reads form (Some (standing Texts f)) (bound_lines bs ms) ≡ Some (standing Texts (record f { bounds = f.bounds ++ bs; marks = f.marks ++ ms }))
bounds_lead form f [] [] e lb lm all = λ i. Some (standing Texts (record f { bounds = sym (append-nil f.bounds) i; marks = sym (append-nil f.marks) i }))
bounds_lead form f [] (m ∷ ms) e lb lm all = absurd (omega (arith, e))
bounds_lead form f (b ∷ bs) [] e lb lm all = absurd (omega (arith, e))
bounds_lead form f (b ∷ bs) (m ∷ ms) e lb lm all =
    let g : FrozenView = record f { bounds = f.bounds ++ b ∷ []; marks = f.marks ++ m ∷ [] } in
    let low : nat_lt (length f.bounds) form.streams ≡ true = (Decides-ltb (length f.bounds) form.streams).1 (omega (arith, all)) in
    let told : bound_of (bound_line b m) ≡ Some (b, m) = (bound_both (bound_line b m) b m).1 ((first_of (λ t. t ≤ inf) b bs lb, first_of (λ t. t ≤ inf) m ms lm), refl) in
    let next : step form (bound_line b m) (standing Texts f) ≡ Some (standing Texts g) =
    ap (λ (c : Bool). cond c (bound_step f (bound_line b m)) (cond (same_text (bound_line b m) end_line) (Some (standing Ended f)) (text_step form f (bound_line b m) (text_of (bound_line b m))))) low
    ∙ ap (option_map (λ t. standing Texts (record f { bounds = f.bounds ++ t.0 ∷ []; marks = f.marks ++ t.1 ∷ [] }))) told in
    ap (λ (s : Option State). reads form s (bound_lines bs ms)) next
    ∙ bounds_lead form g bs ms (omega (arith, e)) (others_of (λ t. t ≤ inf) b bs lb) (others_of (λ t. t ≤ inf) m ms lm) (omega (arith, all, length-append f.bounds (b ∷ [])))
    ∙ (λ i. Some (standing Texts (record f { bounds = append_assoc f.bounds (b ∷ []) bs i; marks = append_assoc f.marks (m ∷ []) ms i })))

-- TEXTS
no_lower : (a b : ℕ) → a ≡ b → nat_lt a b ≡ false
no_lower a b e = by (nat_lt a b) refl
  where
    by : (c : Bool) → nat_lt a b ≡ c → nat_lt a b ≡ false
    by true h = absurd (let l = (Decides-ltb a b).0 h in omega (arith, l, e))
    by false h = h

-- behind the streams a line that is not the last tells a text, or an entry
behind_streams : (form : FormView) (f : FrozenView) (line : List ℕ) → length f.bounds ≡ form.streams → same_text line end_line ≡ false →
    step form line (standing Texts f) ≡ text_step form f line (text_of line)
behind_streams form f line all other =
    ap (λ (c : Bool). cond c (bound_step f line) (cond (same_text line end_line) (Some (standing Ended f)) (text_step form f line (text_of line)))) (no_lower (length f.bounds) form.streams all)
    ∙ ap (λ (c : Bool). cond c (Some (standing Ended f)) (text_step form f line (text_of line))) other

texts_lead : (form : FormView) (f : FrozenView) (ts : List (List ℕ)) → All IsText ts → length f.bounds ≡ form.streams →
    reads form (Some (standing Texts f)) (map text_line ts) ≡ Some (standing Texts (record f { texts = f.texts ++ ts }))
texts_lead form f [] is all = λ i. Some (standing Texts (record f { texts = sym (append-nil f.texts) i }))
texts_lead form f (t ∷ ts) is all =
    let g : FrozenView = record f { texts = f.texts ++ t ∷ [] } in
    let next : step form (text_line t) (standing Texts f) ≡ Some (standing Texts g) =
    behind_streams form f (text_line t) all refl ∙ ap (text_step form f (text_line t)) ((text_both (text_line t) t).1 (first_of IsText t ts is, refl)) in
    ap (λ (s : Option State). reads form s (map text_line ts)) next
    ∙ texts_lead form g ts (others_of IsText t ts is) all
    ∙ (λ i. Some (standing Texts (record f { texts = append_assoc f.texts (t ∷ []) ts i })))

-- ENTRIES
-- a stage from which an entry of the part of number n may come
abbrev MayEnter : ℕ → ReadingStage → Type 0
MayEnter n (Head k) = ⊥
MayEnter n Texts = Unit {0}
MayEnter n (Entries k) = k ≤ n
MayEnter n Ended = ⊥

no_text : (owner : Owner) (shard : ℕ) (e : SavedEntry) → text_of (entry_line owner shard e) ≡ None
unfolding text_of
no_text owner shard e = refl

entry_told : (form : FormView) (f : FrozenView) (from k : ℕ) (g : PartFormView) (e : SavedEntry) → slice_get form.parts k ≡ Some g → HasLine g e →
    place_of form.parts from (record { owner = g.owner; shard = g.shard; part = e.part }) ≡ Some k →
    entry_step form f from (entry_line g.owner g.shard e) ≡ Some (standing (Entries k) (record f { parts = with_entry k e f.parts }))
entry_told form f from k g e at has placed =
    let x : EntryLine = record { owner = g.owner; shard = g.shard; entry = e } in
    let line = entry_line g.owner g.shard e in
    let part : part_of (commas line) ≡ Some (part_of_entry x) = part_back has.kinds x has.entry in
    let kinds : kinds_in form.parts k e.part ≡ Some has.kinds = ap (option_and_then (λ (h : PartFormView). slice_get h.rows e.part)) at ∙ has.known in
    let told : entry_of has.kinds line ≡ Some x = (entry_both has.kinds line x).1 (has.entry, refl) in
    ap (option_and_then (λ p. option_and_then (placed_step form f line p) (place_of form.parts from p))) part
    ∙ ap (option_and_then (placed_step form f line (part_of_entry x))) placed
    ∙ ap (option_and_then (cells_step f k line)) kinds
    ∙ ap (option_map (λ (y : EntryLine). standing (Entries k) (record f { parts = with_entry k y.entry f.parts }))) told

entry_leads : (form : FormView) (f : FrozenView) (stage : ReadingStage) (done : List PartFormView) (g : PartFormView) (rest : List PartFormView) (e : SavedEntry) → form.parts ≡ done ++ g ∷ rest →
    All (λ h. is_form_of g.owner g.shard h ≡ false) done → MayEnter (length done) stage → length f.bounds ≡ form.streams → HasLine g e →
    step form (entry_line g.owner g.shard e) (standing stage f) ≡ Some (standing (Entries (length done)) (record f { parts = with_entry (length done) e f.parts }))
entry_leads form f stage done g rest e parts others may all has = by stage may
  where
    at : slice_get form.parts (length done) ≡ Some g
    at = ap (λ (l : List PartFormView). slice_get l (length done)) parts ∙ here done
      where
        here : (ds : List PartFormView) → slice_get (ds ++ g ∷ rest) (length ds) ≡ Some g
        here [] = refl
        here (d ∷ ds) = here ds

    placed : (from : ℕ) → from ≤ length done → place_of form.parts from (record { owner = g.owner; shard = g.shard; part = e.part }) ≡ Some (length done)
    placed from low = ap (λ (l : List PartFormView). place_of l from (record { owner = g.owner; shard = g.shard; part = e.part })) parts
        ∙ found_behind (is_form_of g.owner g.shard) done g rest from low others (own_name g)

    line : List ℕ
    line = entry_line g.owner g.shard e

    by : (s : ReadingStage) → MayEnter (length done) s → step form line (standing s f) ≡ Some (standing (Entries (length done)) (record f { parts = with_entry (length done) e f.parts }))
    by (Head k) m = absurd m
    by Texts m = behind_streams form f line all refl ∙ ap (text_step form f line) (no_text g.owner g.shard e) ∙ entry_told form f 0 (length done) g e at has (placed 0 (omega arith))
    by (Entries k) m = entry_told form f k (length done) g e at has (placed k m)
    by Ended m = absurd m

-- lines lead to this, at some stage from which an entry of the part of number n may come
record Leads (form : FormView) (s : Option State) (lines : List (List ℕ)) (f : FrozenView) (n : ℕ) : Type 0 where
  stage : ReadingStage
  may : MayEnter n stage
  led : reads form s lines ≡ Some (standing stage f)

entry_put : (done : List FrozenPart) (p : FrozenPart) (rest : List FrozenPart) (e : SavedEntry) → with_entry (length done) e (done ++ p ∷ rest) ≡ done ++ record p { saved = p.saved ++ e ∷ [] } ∷ rest
entry_put [] p rest e = refl
entry_put (d ∷ done) p rest e = ap (λ (l : List FrozenPart). d ∷ l) (entry_put done p rest e)

-- the entries of one part
part_leads : (form : FormView) (f : FrozenView) (stage : ReadingStage) (done : List PartFormView) (g : PartFormView) (rest : List PartFormView) (before : List FrozenPart) (saved : List SavedEntry)
    (behind : List FrozenPart) (es : List SavedEntry) → form.parts ≡ done ++ g ∷ rest → All (λ h. is_form_of g.owner g.shard h ≡ false) done → MayEnter (length done) stage →
    length f.bounds ≡ form.streams → length before ≡ length done → All (HasLine g) es → f.parts ≡ before ++ record { owner = g.owner; shard = g.shard; saved = saved } ∷ behind →
    Leads form (Some (standing stage f)) (map (entry_line g.owner g.shard) es) (record f { parts = before ++ record { owner = g.owner; shard = g.shard; saved = saved ++ es } ∷ behind }) (length done)
part_leads form f stage done g rest before saved behind [] parts others may all same has is = record {
  stage = stage;
  may = may;
  led = λ i. Some (standing stage (record f { parts = (is ∙ (λ j. before ++ record { owner = g.owner; shard = g.shard; saved = sym (append-nil saved) j } ∷ behind)) i }));
}
part_leads form f stage done g rest before saved behind (e ∷ es) parts others may all same has is =
    let put : with_entry (length done) e f.parts ≡ before ++ record { owner = g.owner; shard = g.shard; saved = saved ++ e ∷ [] } ∷ behind =
    ap (with_entry (length done) e) is ∙ ap (λ (n : ℕ). with_entry n e (before ++ record { owner = g.owner; shard = g.shard; saved = saved } ∷ behind)) (sym same) ∙ entry_put before _ behind e in
    let h : FrozenView = record f { parts = with_entry (length done) e f.parts } in
    let next = entry_leads form f stage done g rest e parts others may all (first_of (HasLine g) e es has) in
    let more = part_leads form h (Entries (length done)) done g rest before (saved ++ e ∷ []) behind es parts others (omega arith) all same (others_of (HasLine g) e es has) put in
    record {
      stage = more.stage;
      may = more.may;
      led = ap (λ (s : Option State). reads form s (map (entry_line g.owner g.shard) es)) next ∙ more.led
          ∙ (λ i. Some (standing more.stage (record f { parts = before ++ record { owner = g.owner; shard = g.shard; saved = append_assoc saved (e ∷ []) es i } ∷ behind })));
    }

may_later : (a b : ℕ) (stage : ReadingStage) → a ≤ b → MayEnter a stage → MayEnter b stage
may_later a b (Head k) low m = absurd m
may_later a b Texts low m = tt
may_later a b (Entries k) low m = omega (arith, low, m)
may_later a b Ended low m = absurd m

-- NAMES
neither : (x y : Bool) → (x || y) ≡ false → (x ≡ false) × (y ≡ false)
neither true y h = absurd (cc)
neither false y h = (refl, h)

unnamed : (d : PartFormView) (gs : List PartFormView) (g : PartFormView) (rest : List PartFormView) → is_named_in d (gs ++ g ∷ rest) ≡ false → is_form_of d.owner d.shard g ≡ false
unnamed d [] g rest none = (neither (is_form_of d.owner d.shard g) (is_named_in d rest) none).0
unnamed d (h ∷ gs) g rest none = unnamed d gs g rest (neither (is_form_of d.owner d.shard h) (is_named_in d (gs ++ g ∷ rest)) none).1

turned : (d g : PartFormView) → is_form_of d.owner d.shard g ≡ false → is_form_of g.owner g.shard d ≡ false
turned d g h = by (is_form_of g.owner g.shard d) refl
  where
    by : (b : Bool) → is_form_of g.owner g.shard d ≡ b → is_form_of g.owner g.shard d ≡ false
    by true e =
        let n = named g.owner g.shard d e in
        let own : is_form_of d.owner d.shard g ≡ true = (λ i. is_form_of (n.0 i) (n.1 i) g) ∙ own_name g in
        absurd (cc)
    by false e = e

-- those before have other names
others_before : (done : List PartFormView) (g : PartFormView) (rest : List PartFormView) → AreApart (done ++ g ∷ rest) → All (λ h. is_form_of g.owner g.shard h ≡ false) done
others_before [] g rest apart = All-nil (λ h. is_form_of g.owner g.shard h ≡ false)
others_before (d ∷ done) g rest apart =
    All-append (λ h. is_form_of g.owner g.shard h ≡ false) (d ∷ []) done (one (λ h. is_form_of g.owner g.shard h ≡ false) d (turned d g (unnamed d done g rest apart.0))) (others_before done g rest apart.1)

-- the entries of all parts
parts_lead : (form : FormView) (f : FrozenView) (stage : ReadingStage) (done : List PartFormView) (todo : List PartFormView) (before : List FrozenPart) (ps : List FrozenPart) → form.parts ≡ done ++ todo →
    AreApart form.parts → MayEnter (length done) stage → length f.bounds ≡ form.streams → length before ≡ length done → ArePartsWith todo ps → f.parts ≡ before ++ empty_parts todo →
    Leads form (Some (standing stage f)) (entry_lines ps) (record f { parts = before ++ ps }) (length form.parts)
parts_lead form f stage done [] before [] parts apart may all same are is = record {
  stage = stage;
  may = may_later (length done) (length form.parts) stage (omega (arith, ap length parts, length-append done [])) may;
  led = λ i. Some (standing stage (record f { parts = is i }));
}
parts_lead form f stage done [] before (p ∷ ps) parts apart may all same are is = absurd are
parts_lead form f stage done (g ∷ todo) before [] parts apart may all same are is = absurd are
parts_lead form f stage done (g ∷ todo) before (p ∷ ps) parts apart may all same are is =
    let q : FrozenPart = record { owner = g.owner; shard = g.shard; saved = p.saved } in
    let others = others_before done g todo (subst AreApart parts apart) in
    let first = part_leads form f stage done g todo before [] (empty_parts todo) p.saved parts others may all same are.0.entries is in
    let h : FrozenView = record f { parts = before ++ q ∷ empty_parts todo } in
    let far : length done ≤ length (done ++ g ∷ []) = omega (arith, length-append done (g ∷ [])) in
    let rest = parts_lead form h first.stage (done ++ g ∷ []) todo (before ++ q ∷ []) ps (parts ∙ sym (append_assoc done (g ∷ []) todo)) apart (may_later (length done) (length (done ++ g ∷ [])) first.stage far first.may) all
    (omega (arith, length-append done (g ∷ []), length-append before (q ∷ []), same)) are.1 (sym (append_assoc before (q ∷ []) (empty_parts todo))) in
    let lines : part_lines p ≡ map (entry_line g.owner g.shard) p.saved = λ i. map (entry_line (are.0.owner i) (are.0.shard i)) p.saved in
    record {
      stage = rest.stage;
      may = rest.may;
      led = reads_append form (Some (standing stage f)) (part_lines p) (entry_lines ps)
          ∙ ap (λ (s : Option State). reads form s (entry_lines ps)) (ap (reads form (Some (standing stage f))) lines ∙ first.led)
          ∙ rest.led
          ∙ ap (λ (l : List FrozenPart). Some (standing rest.stage (record f { parts = l }))) (append_assoc before (q ∷ []) ps)
          ∙ (λ i. Some (standing rest.stage (record f { parts = before ++ record { owner = sym are.0.owner i; shard = sym are.0.shard i; saved = p.saved } ∷ ps })));
    }

-- the end
end_leads : (form : FormView) (f : FrozenView) (n : ℕ) (stage : ReadingStage) → MayEnter n stage → length f.bounds ≡ form.streams → step form end_line (standing stage f) ≡ Some (standing Ended f)
end_leads form f n (Head k) may all = absurd may
end_leads form f n Texts may all =
    ap (λ (c : Bool). cond c (bound_step f end_line) (cond (same_text end_line end_line) (Some (standing Ended f)) (text_step form f end_line (text_of end_line)))) (no_lower (length f.bounds) form.streams all)
    ∙ ap (λ (c : Bool). cond c (Some (standing Ended f)) (text_step form f end_line (text_of end_line))) (same_self end_line)
end_leads form f n (Entries k) may all = ap (λ (c : Bool). cond c (Some (standing Ended f)) (entry_step form f k end_line)) (same_self end_line)
end_leads form f n Ended may all = absurd may

-- the lines of what has this form lead to it
pub text_leads : (form : FormView) (f : FrozenView) → IsOfForm form f → AreApart form.parts → reads form (Some (standing (Head 0) (opening form))) (checkpoint_lines form.head f) ≡ Some (standing Ended f)
text_leads form f of apart =
    let start = Some (standing (Head 0) (opening form)) in
    let f1 : FrozenView = record (opening form) { lines = f.lines; last = f.last } in
    let f2 : FrozenView = record f1 { bounds = f.bounds; marks = f.marks } in
    let f3 : FrozenView = record f2 { texts = f.texts } in
    let bs = bound_lines f.bounds f.marks in
    let ts = map text_line f.texts in
    let es = entry_lines f.parts in
    let time = time_line f.lines f.last in
    let heads = heads_lead form (opening form) [] form.head refl in
    let times = times_lead form (opening form) f.lines f.last of.read.times in
    let bounds = bounds_lead form f1 f.bounds f.marks of.read.paired of.read.bounds of.read.marks (omega (arith, of.all)) in
    let texts = texts_lead form f2 f.texts of.read.texts of.all in
    let parts = parts_lead form f3 Texts [] form.parts [] f.parts refl apart tt of.all refl of.read.parts refl in
    reads_append form start (body_lines form.head f) (end_line ∷ [])
    ∙ ap (λ (s : Option State). reads form s (end_line ∷ []))
    (reads_append form start form.head (time ∷ (bs ++ (ts ++ es)))
    ∙ ap (λ (s : Option State). reads form s (time ∷ (bs ++ (ts ++ es)))) heads
    ∙ ap (λ (s : Option State). reads form s (bs ++ (ts ++ es))) times
    ∙ reads_append form (Some (standing Texts f1)) bs (ts ++ es)
    ∙ ap (λ (s : Option State). reads form s (ts ++ es)) bounds
    ∙ reads_append form (Some (standing Texts f2)) ts es
    ∙ ap (λ (s : Option State). reads form s es) texts
    ∙ parts.led)
    ∙ end_leads form f (length form.parts) parts.stage parts.may of.all
