-- Lines that a reader took can be gone on from.
use Rattle.std.proofs.Common.{◌≡◌, ◌<◌, ◌≤◌, ◌-◌, ℕ, Bool, true, false, List, [], ◌∷◌, ◌++◌, length, map, take, drop, replicate, refl, sym, ◌∙◌, ap, arith, append_assoc, length-append}
use Rattle.std.specs.Prelude.{All, nat_lt}
use Rattle.std.proofs.lemmas.List.{append-nil, take-append-drop, length-replicate, get_or-replicate}
use Rattle.std.proofs.lemmas.List.Elements.{All-append, All-nil}
use Rattle.std.proofs.lemmas.Bool.Decides.{Decides-ltb}
use Rattle.tw_rows.specs.Instant.{inf}
use Rattle.frozen_state.specs.Frozen.{FrozenView}
use Rattle.checkpoint.specs.Lines.{end_line, time_line, bound_line, text_line, IsText}
use Rattle.checkpoint.specs.declared.reading.ReadingStage.{ReadingStage}
use Rattle.checkpoint.specs.declared.reading.ReadingStage.TheVariants.{Head, Texts, Entries, Ended}
use Rattle.checkpoint.specs.Form.{FormView}
use Rattle.checkpoint.specs.Text.{bound_lines, entry_lines, body_lines, IsOfForm, BeginsText}
use Rattle.checkpoint.specs.Steps.{opening}
use Rattle.checkpoint.specs.Taking.{lines_at, IsBeforeEntries, IsAt}
use Rattle.checkpoint.proofs.Entries.{empty_lines, parts_empty}

zeros_low : (n : ℕ) → All (λ t. t ≤ inf) (replicate n 0)
zeros_low n i d low = let e = get_or-replicate n i 0 d (omega (arith, low, length-replicate {A = ℕ} n 0)) in omega (arith, e)

-- before the times: streams of which nothing is known yet
whole_of_none : (form : FormView) → IsOfForm form (record (opening form) { bounds = replicate form.streams 0; marks = replicate form.streams 0 })
whole_of_none form = record {
  read = record {
    times = (omega arith, omega arith);
    bounds = zeros_low form.streams;
    marks = zeros_low form.streams;
    paired = refl;
    few = omega (arith, length-replicate {A = ℕ} form.streams 0);
    texts = All-nil IsText;
    parts = parts_empty form.parts;
  };
  all = length-replicate {A = ℕ} form.streams 0;
}

head_goes_on : (form : FormView) (n : ℕ) → BeginsText form (take n form.head)
head_goes_on form n =
    let f : FrozenView = record (opening form) { bounds = replicate form.streams 0; marks = replicate form.streams 0 } in
    let rest = time_line f.lines f.last ∷ (bound_lines f.bounds f.marks ++ (map text_line f.texts ++ entry_lines f.parts)) ++ end_line ∷ [] in
    record {
      frozen = f;
      rest = drop n form.head ++ rest;
      of_form = whole_of_none form;
      text = append_assoc form.head _ _ ∙ ap (λ (l : List (List ℕ)). l ++ rest) (sym (take-append-drop n form.head)) ∙ append_assoc (take n form.head) (drop n form.head) rest;
    }

bounds_on : (bs ms : List ℕ) (n : ℕ) → length ms ≡ length bs → bound_lines (bs ++ replicate n 0) (ms ++ replicate n 0) ≡ bound_lines bs ms ++ bound_lines (replicate n 0) (replicate n 0)
bounds_on [] [] n e = refl
bounds_on [] (m ∷ ms) n e = absurd (omega (arith, e))
bounds_on (b ∷ bs) [] n e = absurd (omega (arith, e))
bounds_on (b ∷ bs) (m ∷ ms) n e = ap (λ l. bound_line b m ∷ l) (bounds_on bs ms n (omega (arith, e)))

-- with further streams, where some are wanting
streams_go_on : (form : FormView) (f : FrozenView) → IsBeforeEntries form f → length f.bounds < form.streams → BeginsText form (body_lines form.head f)
streams_go_on form f at low =
    let n = form.streams - length f.bounds in
    let zs = replicate n 0 in
    let g : FrozenView = record f { bounds = f.bounds ++ zs; marks = f.marks ++ zs } in
    let none : map text_line f.texts ++ entry_lines f.parts ≡ [] = (λ i. map text_line (at.no_text low i) ++ entry_lines (at.no_entry i)) ∙ empty_lines form.parts in
    let rest = bound_lines zs zs ++ end_line ∷ [] in
    let time = time_line f.lines f.last in
    let bs = bound_lines f.bounds f.marks in
    record {
      frozen = g;
      rest = rest;
      of_form = record {
        read = record {
          times = at.read.times;
          bounds = All-append (λ t. t ≤ inf) f.bounds zs at.read.bounds (zeros_low n);
          marks = All-append (λ t. t ≤ inf) f.marks zs at.read.marks (zeros_low n);
          paired = omega (arith, length-append f.bounds zs, length-append f.marks zs, at.read.paired);
          few = omega (arith, length-append f.bounds zs, length-replicate {A = ℕ} n 0, low);
          texts = at.read.texts;
          parts = at.read.parts;
        };
        all = omega (arith, length-append f.bounds zs, length-replicate {A = ℕ} n 0, low);
      };
      text =
          ap (λ (l : List (List ℕ)). (form.head ++ time ∷ (bound_lines g.bounds g.marks ++ l)) ++ end_line ∷ []) none
          ∙ ap (λ (l : List (List ℕ)). (form.head ++ time ∷ l) ++ end_line ∷ []) (append-nil (bound_lines g.bounds g.marks) ∙ bounds_on f.bounds f.marks n at.read.paired)
          ∙ append_assoc form.head (time ∷ (bs ++ bound_lines zs zs)) (end_line ∷ [])
          ∙ ap (λ (l : List (List ℕ)). form.head ++ time ∷ l) (append_assoc bs (bound_lines zs zs) (end_line ∷ []))
          ∙ sym (append_assoc form.head (time ∷ bs) rest)
          ∙ ap (λ (l : List (List ℕ)). (form.head ++ time ∷ l) ++ rest) (sym (append-nil bs))
          ∙ ap (λ (l : List (List ℕ)). (form.head ++ time ∷ (bs ++ l)) ++ rest) (sym none);
    }

-- what has all streams is whole
whole_goes_on : (form : FormView) (f : FrozenView) → IsOfForm form f → BeginsText form (body_lines form.head f)
whole_goes_on form f of = record { frozen = f; rest = end_line ∷ []; of_form = of; text = refl }

texts_go_on : (form : FormView) (f : FrozenView) → IsBeforeEntries form f → (b : Bool) → nat_lt (length f.bounds) form.streams ≡ b → BeginsText form (body_lines form.head f)
texts_go_on form f at true lt = streams_go_on form f at ((Decides-ltb (length f.bounds) form.streams).0 lt)
texts_go_on form f at false lt =
    let not_low : length f.bounds < form.streams → ⊥ = λ low. (let e = (Decides-ltb (length f.bounds) form.streams).1 low in absurd (cc)) in
    whole_goes_on form f (record { read = at.read; all = omega (arith, at.read.few, not_low) })

pub goes_on : (form : FormView) (f : FrozenView) (stage : ReadingStage) → (stage ≡ Ended → ⊥) → IsAt form f stage → BeginsText form (lines_at form f stage)
goes_on form f (Head n) going at = head_goes_on form n
goes_on form f Texts going at = texts_go_on form f at (nat_lt (length f.bounds) form.streams) refl
goes_on form f (Entries k) going at = whole_goes_on form f at.of_form
goes_on form f Ended going at = absurd (going refl)
