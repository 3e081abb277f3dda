-- The lists that the ingress releases, as the plan takes them.
use Rattle.std.specs.Prelude.{◌≡◌, ℕ, zero, suc, Some, List, [], ◌∷◌, map, length, slice_get, refl}
use Rattle.std.specs.List.{All}
use Rattle.std.proofs.Common.{sym, ◌∙◌, ap, arith}
use Rattle.std.proofs.lemmas.List.{length-map}
use Rattle.tw_rows.specs.Kinds.{cell_kind_of}
use Rattle.tw_rows.specs.declared.kind.Kind.{Kind}
use Rattle.tw_rows.specs.declared.kind.Kind.TheVariants.{Int, Bool as Flag, Text, Dec}
use Rattle.tw_rows.specs.declared.schema.ColumnDef.{ColumnDef}
use Rattle.tw_rows.specs.declared.schema.StreamDef.{StreamDef}
use Rattle.edge_stream.specs.Listing.{EdgeListView, cells_of}
use Rattle.plan_model.specs.IsPlan.{PlanParts, kinds_of_schema, kinds_of_stream}
use Rattle.admission.specs.declared.policy.Policy.{Policy}
use Rattle.ingress.specs.Admits.{IsFor, SameFixed, AreListsOf}
use Rattle.ingress.specs.Fits.{plain, stream_kinds}
use Rattle.ingress.specs.declared.ingress.Ingress.{Ingress}
use Rattle.dataflow.specs.Lists.{AreOfStreams}

cell_of_plain : (kind : Kind) → cell_kind_of (plain kind) ≡ cell_kind_of kind
cell_of_plain Int = refl
cell_of_plain Flag = refl
cell_of_plain Text = refl
cell_of_plain (Dec places) = refl

cells_of_columns : (schema : List ColumnDef) → map cell_kind_of (map (λ c. plain c.kind) schema) ≡ kinds_of_schema schema
cells_of_columns [] = refl
cells_of_columns (c ∷ schema) = (let k = cell_of_plain c.kind in let r = cells_of_columns schema in cc)

-- the cells of the lists are those of the streams, one by one
cells_there : (lists : List EdgeListView) (streams : List StreamDef) → map (λ l. l.kinds) lists ≡ stream_kinds streams → (s : ℕ) (l : EdgeListView) → slice_get lists s ≡ Some l →
    cells_of l ≡ kinds_of_stream streams s
cells_there [] streams is s l there = absurd (let t = there in cc)
cells_there (x ∷ lists) [] is s l there = absurd (let t = is in cc)
cells_there (x ∷ lists) (d ∷ streams) is zero l there =
    let t = there in
    let k : x.kinds ≡ map (λ c. plain c.kind) d.schema = (let e = is in cc) in
    let m : x ≡ l = cc in
    ap cells_of (sym m) ∙ ap (map cell_kind_of) k ∙ cells_of_columns d.schema
cells_there (x ∷ lists) (d ∷ streams) is (suc s) l there = cells_there lists streams (let e = is in cc) s l there

capacity_there : (rows : ℕ) (lists : List EdgeListView) → All (λ l. l.capacity ≡ rows) lists → (s : ℕ) (l : EdgeListView) → slice_get lists s ≡ Some l → l.capacity ≡ rows
capacity_there rows [] all s l there = absurd (let t = there in cc)
capacity_there rows (x ∷ lists) all zero l there = (let m : x ≡ l = (let t = there in cc) in ap (λ y. y.capacity) (sym m) ∙ all 0 x (omega arith))
capacity_there rows (x ∷ lists) all (suc s) l there = capacity_there rows lists (λ k d h. all (suc k) d (omega (arith, h))) s l there

pub given_are : (plan : PlanParts) (policy : Policy) (rows : ℕ) (i : Ingress) (lists : List EdgeListView) → IsFor plan.streams policy rows i → AreListsOf i lists → AreOfStreams rows plan lists
given_are plan policy rows i lists fixed are = record {
  count = sym (length-map lists (λ l. l.kinds)) ∙ ap length (are.kinds ∙ fixed.kinds) ∙ length-map plan.streams _;
  cells = λ s l there. cells_there lists plan.streams (are.kinds ∙ fixed.kinds) s l there;
  rows = λ s l there. capacity_there i.capacity lists are.capacity s l there ∙ fixed.capacity;
}

-- what is fixed of an ingress stays
pub still_for : (plan : PlanParts) (policy : Policy) (rows : ℕ) (old new : Ingress) → IsFor plan.streams policy rows old → SameFixed old new → IsFor plan.streams policy rows new
still_for plan policy rows old new fixed same = record {
  policy = same.policy ∙ fixed.policy;
  kinds = ap (λ ks. map (λ k. k.items) ks.items) same.kinds ∙ fixed.kinds;
  cells = ap (λ ks. map (λ k. map cell_kind_of k) (map (λ k. k.items) ks.items)) same.kinds ∙ fixed.cells;
  count = ap (λ ks. length ks.items) same.kinds ∙ fixed.count;
  capacity = same.capacity ∙ fixed.capacity;
}
