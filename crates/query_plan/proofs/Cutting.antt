-- The induction over a plan.
use Rattle.std.specs.Prelude.{◌≡◌, ℕ, ◌<◌, ◌⊎◌, nat_eq, nat_lt, Bool, true, false, cond, Option, Some, None, option_to_list, List, [], ◌∷◌, length, filter, slice_get, slice_index_or, All, refl}
use Rattle.std.proofs.Common.{inl, inr, sym, ◌∙◌, ap, subst, arith}
use Rattle.std.proofs.lemmas.Bool.{or_cases, eqb-true}
use Rattle.std.proofs.lemmas.List.{length-map}
use Rattle.std.proofs.lemmas.List.Elements.{All-head, All-tail}
use Rattle.std.proofs.lemmas.Option.{get_or_from_slice_get, slice_get_within}
use Rattle.tw_rows.specs.Kinds.{cell_kind_of}
use Rattle.tw_rows.specs.declared.row.Value.{Value}
use Rattle.tw_rows.specs.declared.schema.StreamDef.{StreamDef}
use Rattle.plan_model.specs.IsPlan.{kinds_of_stream, kinds_at, PlanParts, IsPlan}
use Rattle.plan_model.specs.Meaning.{Sources, events, node_events}
use Rattle.plan_model.specs.Shape.{Shape, Stream, One, Two, shape, left_in, read_left, HasLower}
use Rattle.plan_model.proofs.Each.{Each}
use Rattle.plan_model.proofs.Kept.{IsPlan-ordered}
use Rattle.plan_model.proofs.Plans.{by_nodes}
use Rattle.plan_laws.specs.Widths.{FitStreams}
use Rattle.plan_laws.proofs.RowsOf.{Rows}
use Rattle.plan_laws.proofs.Widths.{events_wide}
use Rattle.query_plan.specs.Cuts.{is_among, node_places, width_at, stream_widths, stream_places, cut_places}
use Rattle.query_plan.specs.Parts.{passing_events, passing_sources, IsCutBy}
use Rattle.query_plan.proofs.CutSteps.{IsCut, step}

-- the column of a stream is the one of the list
column_is : (streams : List StreamDef) (columns : List ℕ) (s c : ℕ) → is_among (stream_places streams columns s) c ≡ true → c ≡ slice_index_or columns s 0
column_is streams columns s c h = at (slice_get columns s) refl h
  where
    one : (x : ℕ) → slice_get columns s ≡ Some x → (nat_eq c x ≡ true) ⊎ (false ≡ true) → c ≡ slice_index_or columns s 0
    one x e (inl k) = eqb-true c x k ∙ sym (get_or_from_slice_get columns s x 0 e)
    one x e (inr k) = absurd (cc)

    kept : (x : ℕ) → slice_get columns s ≡ Some x → (b : Bool) → is_among (cond b (x ∷ []) []) c ≡ true → c ≡ slice_index_or columns s 0
    kept x e true k = one x e (or_cases (nat_eq c x) false k)
    kept x e false k = absurd (cc)

    at : (o : Option ℕ) → slice_get columns s ≡ o → is_among (filter (λ x. nat_lt x (slice_index_or (stream_widths streams) s 0)) (option_to_list o)) c ≡ true → c ≡ slice_index_or columns s 0
    at None e k = absurd (cc)
    at (Some x) e k = kept x e (nat_lt x (slice_index_or (stream_widths streams) s 0)) k

each_of_all : {X : Type 0} (P : X → Type 0) (xs : List X) → All P xs → Each P xs
each_of_all P [] h = tt
each_of_all P (x ∷ xs) h = (All-head P x xs h, each_of_all P xs (All-tail P x xs h))

module _ (test : Value → Bool) (plan : PlanParts) (kept : IsPlan plan) (source : Sources)
    (fits : FitStreams plan.streams source) (columns : List ℕ) where
  same_width : (s : Shape) (child : ℕ) → left_in s ≡ Some child →
      width_at plan.schemas child ≡ length (read_left [] (kinds_of_stream plan.streams) (kinds_at plan.schemas) s)
  same_width (Stream stream) child e = absurd (cc)
  same_width (One of) child e =
      let is : of ≡ child = cc in
      ap (width_at plan.schemas) (sym is) ∙ sym (length-map (slice_index_or plan.schemas of []) (λ c. cell_kind_of c.kind))
  same_width (Two left right) child e =
      let is : left ≡ child = cc in
      ap (width_at plan.schemas) (sym is) ∙ sym (length-map (slice_index_or plan.schemas left []) (λ c. cell_kind_of c.kind))

  child_wide : (child : ℕ) → child < length plan.nodes →
      Rows (λ row. length row ≡ length (kinds_at plan.schemas child)) (events source plan.nodes child)
  child_wide child low =
      subst (λ n. Rows (λ row. length row ≡ n) (events source plan.nodes child))
      (sym (length-map (slice_index_or plan.schemas child []) (λ c. cell_kind_of c.kind)))
      (each_of_all (λ e. length e.row ≡ width_at plan.schemas child) (events source plan.nodes child)
      (events_wide plan kept source fits child low))

  left_wide : (i : ℕ) → i < length plan.nodes → (s : Shape) → HasLower i (left_in s) →
      Rows (λ row. length row ≡ length (read_left [] (kinds_of_stream plan.streams) (kinds_at plan.schemas) s))
      (read_left [] source (events source plan.nodes) s)
  left_wide i low (Stream s) h =
      each_of_all (λ e. length e.row ≡ length (kinds_of_stream plan.streams s)) (source s) (fits s)
  left_wide i low (One child) h = child_wide child (omega (arith, h, low))
  left_wide i low (Two left right) h = child_wide left (omega (arith, h, low))

  pub events_cut : (i : ℕ) →
      IsCut test (events source plan.nodes i) (events (passing_sources test columns source) plan.nodes i)
      (cut_places plan columns i)
  events_cut =
      by_nodes [] [] [] source (passing_sources test columns source) (stream_places plan.streams columns) node_events
      node_events (node_places (width_at plan.schemas)) (IsCut test) plan.nodes (IsPlan-ordered plan kept) (λ c h. absurd (cc))
      (λ s c h. ap (λ k. passing_events test k (source s)) (sym (column_is plan.streams columns s c h)))
      (λ i n there left right.
      let is = kept.nodes_are.each i n there in
      step test (width_at plan.schemas) n _ _ _ _ _ _ _ _ is.sound (same_width (shape n))
      (left_wide i (slice_get_within plan.nodes i n there) (shape n) is.left_lower) left right)

-- a node that is cut by a column
pub parts_cut : (test : Value → Bool) (plan : PlanParts) (source : Sources) (columns : List ℕ) (i place : ℕ) →
    IsCutBy plan source columns i place →
    events (passing_sources test columns source) plan.nodes i ≡ passing_events test place (events source plan.nodes i)
parts_cut test plan source columns i place is = events_cut test plan is.kept source is.fits columns i place is.cut
