-- What was frozen, and what it fits.
use Rattle.std.specs.Prelude.{◌≡◌, ℕ, false, List, [], ◌∷◌, ◌++◌, length, map, fold, All, refl, Contains}
use Rattle.std.specs.Prelude.{Bool, true, Option, None, if◌then◌else◌}
use Rattle.std.specs.List.{list_any}
use Rattle.std.specs.Str.{bytes_eq}
use Rattle.std.proofs.Math.Seq.{get_or-append_seam}
use Rattle.std.proofs.lemmas.List.{length-append, get_or_append_left}
use Rattle.std.proofs.Common.{sym, ◌∙◌, ap, subst, suc, drop, arith}
use Rattle.tw_rows.specs.Cells.{with_row}
use Rattle.tw_rows.specs.Texts.{BeginsWith, interned}
use Rattle.tw_rows.specs.Bag.{total}
use Rattle.std.proofs.lemmas.List.Elements.{All-nil}
use Rattle.frozen_state.specs.declared.frozen.FrozenPart.{FrozenPart}
use Rattle.tw_rows.specs.declared.edge.Edge.{Edge}
use Rattle.tw_rows.proofs.CellReads.{BeginsWith-with_row}
use Rattle.tw_rows.proofs.TextTables.{BeginsWith-refl, BeginsWith-trans, BeginsWith-interned, interned-known, found_text}
use Rattle.plan_model.specs.declared.expr.ExprNode.{ExprNode}
use Rattle.plan_model.specs.declared.expr.ExprNode.TheVariants as nodes
use Rattle.plan_model.specs.IsPlan.{PlanParts}
use Rattle.plan_laws.specs.Places.{AreDistinct}
use Rattle.lane_expr.specs.Steps.{with_node, with_texts}
use Rattle.admission.specs.declared.policy.Policy.{Policy}
use Rattle.admission.specs.Entries.{Told}
use Rattle.admission.specs.Progress.{Progress, progress}
use Rattle.admission.proofs.Rising.{lines_going}
use Rattle.row_reader.specs.Interned.{row_read}
use Rattle.egress.specs.Saving.{EntriesArePlaced, IsSound as IsSoundOutput}
use Rattle.frozen_state.specs.Frozen.{FrozenView}
use Rattle.frozen_state.specs.Forms.{part_forms}
use Rattle.frozen_state.specs.Formed.{ArePartsOf, IsOneLine}
use Rattle.tempo_engine.specs.Kept.{KeptView, node_counts, parts_of, frozen_of, kept_of}
use Rattle.tempo_engine.specs.Named.{PartsArePlaced}
use Rattle.tempo_engine.proofs.InOrder.{never_falls, parts_in_order}
use Rattle.tempo_engine.proofs.Matching.{stored_named}
use Rattle.tempo_engine.proofs.Rows.{kept_back}
use Rattle.tempo_engine.proofs.Sharing.{first_all}
use Rattle.dataflow.specs.Held.{nodes_in_all}
use Rattle.dataflow.specs.Saving.{AreStates}
use Rattle.tempo_engine.specs.Fed.{FedBy}
use Rattle.tempo_engine.specs.Freezing.{WhateverWent, FitsParts, GoesOnFrom}
use Rattle.tempo_engine.specs.Frozen.{FitsProgress, FitsBy, IsState, closed_at}
use Rattle.tempo_engine.specs.Output.{result_kinds}
use Rattle.tempo_engine.specs.Texts.{texts_of}
use Rattle.tempo_engine.specs.declared.fault.EngineFault.{EngineFault}
use Rattle.tempo_engine.specs.declared.parts.Parts.{Parts}

-- the texts of expressions that a table has change nothing of it
node_begins : (texts : List (List ℕ)) (n : ExprNode) → BeginsWith (with_node texts n) texts
node_begins texts (nodes.Text t) = BeginsWith-interned texts t
node_begins texts (nodes.Column column) = BeginsWith-refl texts
node_begins texts (nodes.Int x) = BeginsWith-refl texts
node_begins texts (nodes.Bool b) = BeginsWith-refl texts
node_begins texts (nodes.Neg of) = BeginsWith-refl texts
node_begins texts (nodes.Not of) = BeginsWith-refl texts
node_begins texts (nodes.Arith op left right) = BeginsWith-refl texts
node_begins texts (nodes.Div of by) = BeginsWith-refl texts
node_begins texts (nodes.Mod of by) = BeginsWith-refl texts
node_begins texts (nodes.Compare op left right) = BeginsWith-refl texts
node_begins texts (nodes.And left right) = BeginsWith-refl texts
node_begins texts (nodes.Or left right) = BeginsWith-refl texts

texts_begin : (texts : List (List ℕ)) (ns : List ExprNode) → BeginsWith (with_texts texts ns) texts
texts_begin texts [] = BeginsWith-refl texts
texts_begin texts (n ∷ ns) = BeginsWith-trans texts (with_node texts n) (with_texts texts (n ∷ ns)) (texts_begin (with_node texts n) ns) (node_begins texts n)

interned_has : (old : List (List ℕ)) (t : List ℕ) → Contains (interned old t) t
interned_has old t = go (list_any (bytes_eq t) old) refl
  where
    go : (b : Bool) → list_any (bytes_eq t) old ≡ b → Contains (if b then old else old ++ t ∷ []) t
    go true is = found_text old t is
    go false is = (length old, (let n = length-append old (t ∷ []) in omega (arith, n)), get_or-append_seam old t [] t)

longer_has : (texts old : List (List ℕ)) (t : List ℕ) → BeginsWith texts old → Contains old t → Contains texts t
longer_has texts old t begins has =
    let low = has.1 in
    let n = length-append old begins.0 in
    subst (λ l. Contains l t) (sym begins.1) (has.0, (omega (arith, low, n)), get_or_append_left old begins.0 t has.0 low ∙ has.2)

node_known : (old texts : List (List ℕ)) (n : ExprNode) → BeginsWith texts (with_node old n) → with_node texts n ≡ texts
node_known old texts (nodes.Text t) begins = interned-known texts t (longer_has texts (interned old t) t begins (interned_has old t))
node_known old texts (nodes.Column column) begins = refl
node_known old texts (nodes.Int x) begins = refl
node_known old texts (nodes.Bool b) begins = refl
node_known old texts (nodes.Neg of) begins = refl
node_known old texts (nodes.Not of) begins = refl
node_known old texts (nodes.Arith op left right) begins = refl
node_known old texts (nodes.Div of by) begins = refl
node_known old texts (nodes.Mod of by) begins = refl
node_known old texts (nodes.Compare op left right) begins = refl
node_known old texts (nodes.And left right) begins = refl
node_known old texts (nodes.Or left right) begins = refl

texts_known : (old texts : List (List ℕ)) (ns : List ExprNode) → BeginsWith texts (with_texts old ns) → with_texts texts ns ≡ texts
texts_known old texts [] begins = refl
texts_known old texts (n ∷ ns) begins =
    let first = node_known old texts n (BeginsWith-trans (with_node old n) (with_texts old (n ∷ ns)) texts begins (texts_begin (with_node old n) ns)) in
    ap (λ t. with_texts t ns) first ∙ texts_known (with_node old n) texts ns begins

-- so it is of the table of lines
lines_begin : (texts : List (List ℕ)) (lines : List Told) → BeginsWith (fold (λ t line. with_row t (row_read line.read)) texts lines) texts
lines_begin texts [] = BeginsWith-refl texts
lines_begin texts (line ∷ lines) =
    BeginsWith-trans texts (with_row texts (row_read line.read)) _ (lines_begin (with_row texts (row_read line.read)) lines) (BeginsWith-with_row texts (row_read line.read))

pub texts_again : (plan : PlanParts) (lines : List Told) → with_texts (texts_of plan lines) (nodes_in_all plan.nodes) ≡ texts_of plan lines
texts_again plan lines = texts_known [] (texts_of plan lines) (nodes_in_all plan.nodes) (lines_begin (with_texts [] (nodes_in_all plan.nodes)) lines)

-- what fits is a state
pub fits_state : (workers : ℕ) (plan : PlanParts) (policy : Policy) (lines : List Told) (given lists : ℕ → List Edge) (f : FrozenView) → FitsBy workers plan policy lines given lists f → IsState workers plan f
fits_state workers plan policy lines given lists f by =
    let fits = by.fits in
    record {
      complete = record { named = stored_named (part_forms workers plan) f.parts by.formed.parts; bounds = by.formed.bounds; marks = by.formed.marks; placed = by.formed.placed };
      distinct = by.formed.distinct;
      sound = record {
        input = fits.input.sound;
        states = subst (λ l. AreStates workers plan l (kept_of workers plan f).nodes) (sym fits.last) fits.states;
        output = subst (λ l. IsSoundOutput (result_kinds plan) (kept_of workers plan f).output (closed_at plan l)) (sym fits.last) fits.output.sound;
      };
    }

-- the entries of the output are among those of the parts
pub output_placed : (workers : ℕ) (plan : PlanParts) (texts : List (List ℕ)) (f : FrozenView) → PartsArePlaced texts f.parts → EntriesArePlaced texts (kept_of workers plan f).output
output_placed workers plan texts f placed = first_all (EntriesArePlaced texts) (All-nil _) (total (λ n. n) (node_counts workers plan)) (drop 1 f.parts) (tail_placed f.parts placed)
  where
    tail_placed : (parts : List FrozenPart) → PartsArePlaced texts parts → PartsArePlaced texts (drop 1 parts)
    tail_placed [] all = all
    tail_placed (p ∷ ps) all = λ k d low. all (suc k) d (omega (arith, low))

-- what the parts keep, in a row, is of its form and fits what they went through
pub fits_parts : (workers : ℕ) (plan : PlanParts) (w : Progress) (given lists : ℕ → List Edge) (lines : ℕ) (texts : List (List ℕ)) (k : KeptView) (f : FrozenView) → f ≡ frozen_of lines texts k →
    map (λ shards. length shards) k.nodes ≡ node_counts workers plan → length k.bounds ≡ length plan.streams → length k.marks ≡ length plan.streams → AreDistinct texts →
    ArePartsOf (part_forms workers plan) f.parts → PartsArePlaced texts f.parts → All IsOneLine f.texts →
    (EntriesArePlaced texts k.output → FitsProgress workers plan w given lists texts k) → FitsParts workers plan w given lists f
fits_parts workers plan w given lists lines texts k f is counts bounds marks distinct parts placed one_line fits =
    subst (FitsParts workers plan w given lists) (sym is) (go (subst (λ v. ArePartsOf (part_forms workers plan) v.parts) is parts) (subst (λ v. PartsArePlaced texts v.parts) is placed) (subst (λ v. All IsOneLine v.texts) is one_line))
  where
    go : ArePartsOf (part_forms workers plan) (parts_of k) → PartsArePlaced texts (parts_of k) → All IsOneLine texts → FitsParts workers plan w given lists (frozen_of lines texts k)
    go parts placed one_line =
        let back = kept_back workers plan lines texts k counts in
        let shown : EntriesArePlaced texts k.output = subst (λ v. EntriesArePlaced texts v.output) back (output_placed workers plan texts (frozen_of lines texts k) placed) in
        let all = fits shown in
        record {
          formed = record {
            parts = parts;
            bounds = bounds;
            marks = marks;
            ordered = parts_in_order k (never_falls k.output all.output.sound.starts all.output.sound.others);
            distinct = distinct;
            one_line = one_line;
            placed = placed;
          };
          fits = subst (FitsProgress workers plan w given lists texts) (sym back) all;
        }

-- an engine of these parts that is frozen after a line of that number
pub frozen_fits : (e : Parts) (number : ℕ) (fault : Option EngineFault) (ended : Bool) (f : FrozenView) → WhateverWent e (λ plan policy w given lists. FitsParts e.dataflow.workers plan w given lists f) →
    f.lines ≡ number → f.texts ≡ e.texts → (plan : PlanParts) (policy : Policy) (lines : List Told) (given lists : ℕ → List Edge) →
    FedBy plan policy lines given lists (record { parts = e; lines = number; fault = fault; ended = ended }) → FitsBy e.dataflow.workers plan policy lines given lists f
frozen_fits e number fault ended f fits at texts plan policy lines given lists fed =
    let parts = fits plan policy (progress plan policy lines false) given lists fed.sound (lines_going plan fed.sound policy lines fed.read) fed.went in
    record { sound = fed.sound; read = fed.read; fine = fed.fine; formed = parts.formed; number = at ∙ fed.number; texts = texts ∙ fed.texts; fits = parts.fits }

-- an engine of parts that were made of it
pub thawed_fed : (workers : ℕ) (plan : PlanParts) (policy : Policy) (f : FrozenView) (e : Parts) → GoesOnFrom workers plan policy f.texts (kept_of workers plan f) e → e.texts ≡ with_texts f.texts (nodes_in_all plan.nodes) →
    (lines : List Told) (given lists : ℕ → List Edge) → FitsBy workers plan policy lines given lists f → FedBy plan policy lines given lists (record { parts = e; lines = f.lines; fault = None; ended = false })
thawed_fed workers plan policy f e goes texts lines given lists by = record {
  sound = by.sound;
  read = by.read;
  fine = by.fine;
  none = refl;
  going = refl;
  number = by.number;
  texts = texts ∙ ap (λ t. with_texts t (nodes_in_all plan.nodes)) by.texts ∙ texts_again plan lines;
  went = goes (progress plan policy lines false) given lists (lines_going plan by.sound policy lines by.read) by.fits;
}
