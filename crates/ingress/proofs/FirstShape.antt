-- What is kept of no line at all.
use Rattle.std.specs.Prelude.{◌≡◌, ℕ, zero, suc, ◌≤◌, List, [], ◌∷◌, length, get_or, map, refl, All, Vec}
use Rattle.std.proofs.Common.{sym, ◌∙◌, ap, subst, arith}
use Rattle.std.proofs.lemmas.List.{length-map, get_or-map}
use Rattle.std.proofs.lemmas.List.Elements.{All-head, All-tail}
use Rattle.tw_rows.specs.Kinds.{cell_kind_of}
use Rattle.tw_rows.specs.declared.edge.Edge.{Edge}
use Rattle.tw_rows.specs.declared.kind.Kind.{Kind}
use Rattle.tw_rows.specs.declared.kind.Kind.TheVariants.{Int, Bool as Flag, Text, Dec}
use Rattle.tw_rows.specs.declared.schema.ColumnDef.{ColumnDef}
use Rattle.tw_rows.specs.declared.schema.StreamDef.{StreamDef}
use Rattle.edge_history.specs.Order.{failing}
use Rattle.plan_model.specs.IsPlan.{AreNarrow, kinds_of_schema}
use Rattle.ingress.specs.Fits.{plain, stream_kinds, stream_cells, is_fit, HasShape}

-- the plain kind is stored as the kind
plain_stored : (k : Kind) → cell_kind_of (plain k) ≡ cell_kind_of k
plain_stored Int = refl
plain_stored Flag = refl
plain_stored Text = refl
plain_stored (Dec places) = refl

plain_schema : (columns : List ColumnDef) → map cell_kind_of (map (λ c. plain c.kind) columns) ≡ kinds_of_schema columns
plain_schema [] = refl
plain_schema (c ∷ cs) = let a = plain_stored c.kind in let b = plain_schema cs in λ i. a i ∷ b i

pub plain_cells : (streams : List StreamDef) → map (λ k. map cell_kind_of k) (stream_kinds streams) ≡ stream_cells streams
plain_cells [] = refl
plain_cells (d ∷ ds) = let a = plain_schema d.schema in let b = plain_cells ds in λ i. a i ∷ b i

pub width_at : (streams : List StreamDef) (s : ℕ) → AreNarrow streams → length (get_or (stream_kinds streams) s []) ≤ 32
width_at [] s h = omega arith
width_at (d ∷ ds) zero h =
    let a = length-map d.schema (λ (c : ColumnDef). plain c.kind) in
    let b : length d.schema ≤ 32 = All-head (λ (x : StreamDef). length x.schema ≤ 32) d ds h in
    omega (arith, a, b)
width_at (d ∷ ds) (suc s) h = width_at ds s (All-tail (λ (x : StreamDef). length x.schema ≤ 32) d ds h)

-- each stream has few columns
pub all_narrow : {S : Type 0} (kinds : List (Vec Kind S)) → ((s : ℕ) → length (get_or (map (λ k. k.items) kinds) s []) ≤ 32) → All (λ k. length k.items ≤ 32) kinds
all_narrow kinds h i d lt = subst (λ l. length l ≤ 32) (get_or-map (λ k. k.items) kinds i d [] lt) (h i)

pub shape_first : (streams : List StreamDef) (kinds : List (List Kind)) (capacity count : ℕ) (held : List (List Edge)) → kinds ≡ stream_kinds streams → AreNarrow streams → 1 ≤ capacity →
    count ≡ length streams → length held ≡ length streams → ((s : ℕ) → get_or held s [] ≡ []) → HasShape kinds capacity count held
shape_first streams kinds capacity count held is narrow room marks long none =
    let l = ap length is ∙ length-map streams _ in
    record {
      marks = marks ∙ sym l;
      waiting = long ∙ sym l;
      room = room;
      width = λ s. subst (λ k. length (get_or k s []) ≤ 32) (sym is) (width_at streams s narrow);
      fit = λ s. ap (failing (is_fit (get_or (map (λ k. map cell_kind_of k) kinds) s []))) (none s);
    }
