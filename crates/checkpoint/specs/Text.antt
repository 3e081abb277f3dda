-- The text of a checkpoint: one for each thing that can be frozen.
use Rattle.std.specs.Prelude.{◌≡◌, ◌≤◌, ℕ, Some, List, [], ◌∷◌, ◌++◌, length, map, flat_map, slice_get, All}
use Rattle.tw_rows.specs.Instant.{inf}
use Rattle.tw_rows.specs.declared.kind.CellKind.{CellKind}
use Rattle.edge_stream.specs.declared.saved.SavedEntry.{SavedEntry}
use Rattle.frozen_state.specs.declared.frozen.FrozenPart.{FrozenPart}
use Rattle.frozen_state.specs.Frozen.{FrozenView}
use Rattle.frozen_state.specs.Forms.{PartFormView}
use Rattle.checkpoint.specs.Lines.{end_line, time_line, bound_line, text_line, entry_line, IsTimes, IsText, IsEntry}
use Rattle.checkpoint.specs.Form.{FormView}

-- a line for each stream: its bound and its mark
abbrev pub bound_lines : List ℕ → List ℕ → List (List ℕ)
bound_lines [] marks = []
bound_lines (b ∷ bounds) [] = []
bound_lines (b ∷ bounds) (m ∷ marks) = bound_line b m ∷ bound_lines bounds marks

-- a line for each entry of the part
abbrev pub part_lines : FrozenPart → List (List ℕ)
part_lines p = map (entry_line p.owner p.shard) p.saved

abbrev pub entry_lines : List FrozenPart → List (List ℕ)
entry_lines parts = flat_map part_lines parts

-- all lines but the last one, behind these first ones
abbrev pub body_lines : List (List ℕ) → FrozenView → List (List ℕ)
body_lines head f = head ++ time_line f.lines f.last ∷ (bound_lines f.bounds f.marks ++ (map text_line f.texts ++ entry_lines f.parts))

-- the text, without line feeds. Of an open start at 1 of one stream, after a punctuation at 3 that is line 2: the first lines,
-- `#time,2,3`, `#bound,3,3`, `#text,a`, `#entry,in,0,1,1,1,0,1` and `#end`
abbrev pub checkpoint_lines : List (List ℕ) → FrozenView → List (List ℕ)
checkpoint_lines head f = body_lines head f ++ end_line ∷ []

-- the entry has a line behind which its cells are known, as one of a part of this form
pub record HasLine (form : PartFormView) (e : SavedEntry) : Type 0 where
  pub kinds : List CellKind
  pub known : slice_get form.rows e.part ≡ Some kinds
  pub entry : IsEntry kinds (record { owner = form.owner; shard = form.shard; entry = e })

-- the part has this form, and each of its entries a line
pub record IsPartWith (form : PartFormView) (p : FrozenPart) : Type 0 where
  pub owner : p.owner ≡ form.owner
  pub shard : p.shard ≡ form.shard
  pub entries : All (HasLine form) p.saved

-- a part for each form, in their order
abbrev pub ArePartsWith : List PartFormView → List FrozenPart → Type 0
ArePartsWith [] [] = Unit {0}
ArePartsWith [] (p ∷ ps) = ⊥
ArePartsWith (g ∷ gs) [] = ⊥
ArePartsWith (g ∷ gs) (p ∷ ps) = IsPartWith g p × ArePartsWith gs ps

-- it can be read from lines of this form, but that streams may be wanting
pub record IsReadSoFar (form : FormView) (f : FrozenView) : Type 0 where
  pub times : IsTimes f.lines f.last
  pub bounds : All (λ t. t ≤ inf) f.bounds
  pub marks : All (λ t. t ≤ inf) f.marks
  pub paired : length f.marks ≡ length f.bounds
  pub few : length f.bounds ≤ form.streams
  pub texts : All IsText f.texts
  pub parts : ArePartsWith form.parts f.parts

-- it has a text of this form
pub record IsOfForm (form : FormView) (f : FrozenView) : Type 0 where
  pub read : IsReadSoFar form f
  pub all : length f.bounds ≡ form.streams

-- the lines are a prefix of a text of this form
pub record BeginsText (form : FormView) (lines : List (List ℕ)) : Type 0 where
  pub frozen : FrozenView
  pub rest : List (List ℕ)
  pub of_form : IsOfForm form frozen
  pub text : checkpoint_lines form.head frozen ≡ lines ++ rest

-- and hold none that is whole
pub record IsUnfinished (form : FormView) (lines : List (List ℕ)) : Type 0 where
  pub begins : BeginsText form lines
  pub none_whole : (f : FrozenView) (rest : List (List ℕ)) → IsOfForm form f → lines ≡ checkpoint_lines form.head f ++ rest → ⊥
