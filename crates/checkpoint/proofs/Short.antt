-- No line is longer than a line of input may be.
use Rattle.std.proofs.Common.{◌≡◌, ◌<◌, ◌≤◌, ◌^◌, ℕ, zero, suc, List, [], ◌∷◌, ◌++◌, length, map, take, drop, get_or, Option, Some, None, slice_get, refl, sym, subst, arith, inl, inr, length-take}
use Rattle.std.specs.Prelude.{All}
use Rattle.std.proofs.lemmas.List.{length-map}
use Rattle.std.proofs.lemmas.List.Elements.{All-append, All-nil, All-map}
use Rattle.std.proofs.lemmas.Option.{slice_get_cases}
use Rattle.tw_rows.specs.declared.kind.CellKind.{CellKind}
use Rattle.tw_rows.specs.declared.schema.ColumnDef.{ColumnDef}
use Rattle.tw_rows.specs.declared.schema.StreamDef.{StreamDef}
use Rattle.tw_rows.specs.Kinds.{cell_kind_of}
use Rattle.edge_stream.specs.declared.saved.SavedEntry.{SavedEntry}
use Rattle.edge_stream.specs.declared.saved.PartRow.{PartRow}
use Rattle.edge_stream.specs.declared.saved.PartRow.TheVariants.{Left, Right, Own, KeyFirst}
use Rattle.plan_model.specs.declared.node.Node.{Node}
use Rattle.plan_model.specs.IsPlan.{PlanParts, IsPlan, kinds_of_schema, kinds_at}
use Rattle.plan_model.specs.Meaning.{left_child, right_child, at_child}
use Rattle.admission.specs.declared.policy.Policy.{Policy}
use Rattle.frozen_state.specs.declared.owner.Owner.{Owner}
use Rattle.frozen_state.specs.declared.owner.Owner.TheVariants as owners
use Rattle.frozen_state.specs.declared.frozen.FrozenPart.{FrozenPart}
use Rattle.frozen_state.specs.Frozen.{FrozenView}
use Rattle.frozen_state.specs.Forms.{PartFormView, part_rows, kinds_of_row, node_rows, stream_rows, shards_of, shard_forms, node_forms, part_forms}
use Rattle.checkpoint.specs.Lines.{end_line, form_line, query_line, options_line, time_line, bound_line, text_line, entry_line}
use Rattle.checkpoint.proofs.ShortLines.{query_short, options_short, time_line_short, bound_short, text_short, entry_short}
use Rattle.checkpoint.specs.Form.{pieces, query_lines, head_lines, form_of, most_of_query}
use Rattle.checkpoint.specs.Text.{bound_lines, part_lines, entry_lines, body_lines, checkpoint_lines, HasLine, ArePartsWith, IsOfForm}
use Rattle.checkpoint.proofs.Entries.{one, first_of, others_of}

abbrev IsShort : List ℕ → Type 0
IsShort line = length line ≤ 65536

-- HOW MANY COLUMNS
abbrev IsNarrow : List CellKind → Type 0
IsNarrow kinds = length kinds ≤ 3000

abbrev AreNarrow : List PartFormView → Type 0
AreNarrow forms = All (λ g. All IsNarrow g.rows) forms

cons : {X : Type 0} (P : X → Type 0) (x : X) (xs : List X) → P x → All P xs → All P (x ∷ xs)
cons P x xs h hs zero d low = h
cons P x xs h hs (suc n) d low = hs n d (omega (arith, low))

kinds_narrow : (schema : List ColumnDef) → length schema ≤ 32 → IsNarrow (kinds_of_schema schema)
kinds_narrow schema h = omega (arith, length-map schema (λ c. cell_kind_of c.kind), h)

at_narrow : (plan : PlanParts) (i : ℕ) → IsPlan plan → IsNarrow (kinds_at plan.schemas i)
at_narrow plan i is = elim ((slice_get_cases plan.nodes i).1) [
  | inl s ↦ kinds_narrow (get_or plan.schemas i []) (is.nodes_are.each i s.0 s.2).narrow
  | inr none ↦ (let past : get_or plan.schemas i [] ≡ [] = beyond plan.schemas i (omega (arith, none.0, is.nodes_are.one_each)) in
      subst (λ (schema : List ColumnDef). IsNarrow (kinds_of_schema schema)) (sym past) (omega arith))
]
  where
    beyond : (xs : List (List ColumnDef)) (n : ℕ) → length xs ≤ n → get_or xs n [] ≡ []
    beyond [] n low = refl
    beyond (x ∷ xs) zero low = absurd (omega (arith, low))
    beyond (x ∷ xs) (suc n) low = beyond xs n (omega (arith, low))

child_narrow : (plan : PlanParts) (child : Option ℕ) → IsPlan plan → IsNarrow (at_child [] (kinds_at plan.schemas) child)
child_narrow plan None is = omega arith
child_narrow plan (Some i) is = at_narrow plan i is

row_narrow : (plan : PlanParts) (i : ℕ) (n : Node) (row : PartRow) → IsPlan plan → IsNarrow (kinds_of_row plan i n row)
row_narrow plan i n Left is = child_narrow plan (left_child n) is
row_narrow plan i n Right is = child_narrow plan (right_child n) is
row_narrow plan i n Own is = at_narrow plan i is
row_narrow plan i n KeyFirst is = at_narrow plan i is

rows_narrow : (plan : PlanParts) (i : ℕ) (n : Node) → IsPlan plan → All IsNarrow (node_rows plan i n)
rows_narrow plan i n is = All-map IsNarrow (kinds_of_row plan i n) (part_rows n) (λ k d low. row_narrow plan i n _ is)

streams_narrow : (streams : List StreamDef) → All (λ (s : StreamDef). length s.schema ≤ 32) streams → All IsNarrow (stream_rows streams)
streams_narrow [] h = All-nil IsNarrow
streams_narrow (s ∷ streams) h =
    let k = kinds_narrow s.schema (first_of (λ (s : StreamDef). length s.schema ≤ 32) s streams h) in
    let rest = streams_narrow streams (others_of (λ (s : StreamDef). length s.schema ≤ 32) s streams h) in
    let one_kind = kinds_of_schema s.schema in
    let more = stream_rows streams in
    cons IsNarrow one_kind (one_kind ∷ one_kind ∷ more) k (cons IsNarrow one_kind (one_kind ∷ more) k (cons IsNarrow one_kind more k rest))

shards_narrow : (owner : Owner) (rows : List (List CellKind)) (first n : ℕ) → All IsNarrow rows → AreNarrow (shard_forms owner rows first n)
shards_narrow owner rows first zero h = All-nil (λ (g : PartFormView). All IsNarrow g.rows)
shards_narrow owner rows first (suc n) h = cons (λ (g : PartFormView). All IsNarrow g.rows) _ _ h (shards_narrow owner rows (suc first) n h)

nodes_narrow : (workers : ℕ) (plan : PlanParts) (i : ℕ) (ns : List Node) → IsPlan plan → AreNarrow (node_forms workers plan i ns)
nodes_narrow workers plan i [] is = All-nil (λ (g : PartFormView). All IsNarrow g.rows)
nodes_narrow workers plan i (n ∷ ns) is = All-append (λ (g : PartFormView). All IsNarrow g.rows) (shard_forms (owners.Node i) (node_rows plan i n) 0 (shards_of workers n)) _
    (shards_narrow (owners.Node i) (node_rows plan i n) 0 (shards_of workers n) (rows_narrow plan i n is)) (nodes_narrow workers plan (suc i) ns is)

forms_narrow : (workers : ℕ) (plan : PlanParts) → IsPlan plan → AreNarrow (part_forms workers plan)
forms_narrow workers plan is =
    let last = one (λ (g : PartFormView). All IsNarrow g.rows) (record { owner = owners.Out; shard = 0; rows = kinds_at plan.schemas plan.root ∷ [] })
    (one IsNarrow (kinds_at plan.schemas plan.root) (at_narrow plan plan.root is)) in
    cons (λ (g : PartFormView). All IsNarrow g.rows) _ _ (streams_narrow plan.streams is.nodes_are.narrow_streams)
    (All-append (λ (g : PartFormView). All IsNarrow g.rows) (node_forms workers plan 0 plan.nodes) _ (nodes_narrow workers plan 0 plan.nodes is) last)

got : {X : Type 0} (P : X → Type 0) (xs : List X) (n : ℕ) (x : X) → All P xs → slice_get xs n ≡ Some x → P x
got P [] n x h at = absurd (cc)
got P (y ∷ xs) zero x h at = let e : y ≡ x = cc in subst P e (first_of P y xs h)
got P (y ∷ xs) (suc n) x h at = got P xs n x (others_of P y xs h) at

-- LINES
pieces_short : (n : ℕ) (bytes : List ℕ) → All (λ p. length p ≤ 30000) (pieces n bytes)
pieces_short zero bytes = All-nil (λ p. length p ≤ 30000)
pieces_short (suc n) [] = All-nil (λ p. length p ≤ 30000)
pieces_short (suc n) (b ∷ bs) = cons (λ p. length p ≤ 30000) (take most_of_query (b ∷ bs)) _ (omega (arith, length-take most_of_query (b ∷ bs))) (pieces_short n (drop most_of_query (b ∷ bs)))

query_lines_short : (query : List ℕ) → All IsShort (query_lines query)
query_lines_short query = All-map IsShort query_line (pieces (length query) query) (λ n d low. query_short _ (pieces_short (length query) query n d low))

bounds_short : (bs ms : List ℕ) → All IsShort (bound_lines bs ms)
bounds_short [] ms = All-nil IsShort
bounds_short (b ∷ bs) [] = All-nil IsShort
bounds_short (b ∷ bs) (m ∷ ms) = cons IsShort (bound_line b m) _ (bound_short b m) (bounds_short bs ms)

part_short : (g : PartFormView) (owner : Owner) (shard : ℕ) (es : List SavedEntry) → owner ≡ g.owner → shard ≡ g.shard → All IsNarrow g.rows → All (HasLine g) es →
    All IsShort (map (entry_line owner shard) es)
part_short g owner shard es o s narrow has = All-map IsShort (entry_line owner shard) es (λ n d low.
    let h = has n d low in
    let short = entry_short h.kinds _ h.entry (got IsNarrow g.rows _ h.kinds narrow h.known) in
    subst (λ (l : List ℕ). IsShort l) (λ i. entry_line (sym o i) (sym s i) (get_or es n d)) short)

entries_short : (gs : List PartFormView) (ps : List FrozenPart) → AreNarrow gs → ArePartsWith gs ps → All IsShort (entry_lines ps)
entries_short [] [] narrow are = All-nil IsShort
entries_short [] (p ∷ ps) narrow are = absurd are
entries_short (g ∷ gs) [] narrow are = absurd are
entries_short (g ∷ gs) (p ∷ ps) narrow are = All-append IsShort (part_lines p) (entry_lines ps)
    (part_short g p.owner p.shard p.saved are.0.owner are.0.shard (first_of (λ (g : PartFormView). All IsNarrow g.rows) g gs narrow) are.0.entries)
    (entries_short gs ps (others_of (λ (g : PartFormView). All IsNarrow g.rows) g gs narrow) are.1)

pub text_is_short : (query : List ℕ) (workers : ℕ) (policy : Policy) (plan : PlanParts) (f : FrozenView) → IsPlan plan → workers < 2 ^ 64 → policy.lateness < 2 ^ 64 → policy.period < 2 ^ 64 →
    IsOfForm (form_of query workers policy plan) f → All (λ t. length t ≤ 65530) f.texts → All IsShort (checkpoint_lines (head_lines query workers policy) f)
text_is_short query workers policy plan f is a b c of texts =
    let head = cons IsShort form_line _ (omega arith) (All-append IsShort (query_lines query) _ (query_lines_short query) (one IsShort (options_line workers policy) (options_short workers policy a b c))) in
    let told = All-map IsShort text_line f.texts (λ n d low. text_short _ (texts n d low)) in
    let entries = entries_short (part_forms workers plan) f.parts (forms_narrow workers plan is) of.read.parts in
    let behind = All-append IsShort (bound_lines f.bounds f.marks) _ (bounds_short f.bounds f.marks) (All-append IsShort (map text_line f.texts) _ told entries) in
    let body = All-append IsShort (head_lines query workers policy) (time_line f.lines f.last ∷ (bound_lines f.bounds f.marks ++ (map text_line f.texts ++ entry_lines f.parts))) head (cons IsShort (time_line f.lines f.last) _ (time_line_short f.lines f.last of.read.times.0) behind) in
    All-append IsShort (body_lines (head_lines query workers policy) f) (end_line ∷ []) body (one IsShort end_line (omega arith))
