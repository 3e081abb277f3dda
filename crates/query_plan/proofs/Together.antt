-- What the parts of a plan have together.
use Rattle.std.specs.Prelude.{◌≡◌, ◌≢◌, ◌↔◌, ℕ, zero, suc, ◌<◌, nat_eq, Bool, true, false, cond, ◌||◌, is_none, Option, Some, None, List, [], ◌∷◌, length, filter, slice_get, slice_index_or, refl}
use Rattle.std.proofs.Common.{sym, ◌∙◌, ap, subst, arith}
use Rattle.std.proofs.lemmas.Bool.{and_parts, eqb-true, eq-eqb, false_from_ne_true}
use Rattle.std.proofs.lemmas.Option.{slice_get-get_or}
use Rattle.tw_rows.specs.Bag.{SameBag}
use Rattle.tw_rows.specs.Event.{alive}
use Rattle.tw_rows.specs.Instant.{inf}
use Rattle.tw_rows.specs.Rows.{Row}
use Rattle.tw_rows.specs.declared.row.Value.{Value}
use Rattle.tw_rows.proofs.Bags.{SameBag-sym, SameBag-trans, SameBag-filter, total-filter, total_same, total_zero}
use Rattle.key_nodes.specs.Shards.{over_shards}
use Rattle.key_nodes.proofs.Shards.{sum_same, split_sum, total-over_shards}
use Rattle.plan_model.specs.declared.agg.Agg.{Agg}
use Rattle.plan_model.specs.declared.node.Node.{Node}
use Rattle.plan_model.specs.declared.node.Node.TheVariants.{Source, Where, Select, Union, Delay, Hop, Duration, Extend, Session, Clip, Group, Join, Anti, Coalesce, Mean, Top, Follow}
use Rattle.plan_model.specs.Changes.{row_ends, row_starts}
use Rattle.plan_model.specs.Expr.{zero_value}
use Rattle.plan_model.specs.IsPlan.{PlanParts}
use Rattle.plan_model.specs.Keys.{rows_equal, value_ops, key_values}
use Rattle.plan_model.specs.Meaning.{Sources, events, snapshots}
use Rattle.plan_model.specs.Opens.{how_often, before}
use Rattle.plan_model.specs.RowOps.{is_undefined_in}
use Rattle.plan_model.proofs.Aggregates.{undefined_same}
use Rattle.plan_model.proofs.Counting.{no_row_starts, no_row_ends}
use Rattle.plan_model.proofs.InOrder.{rows_equal_tells}
use Rattle.plan_model.proofs.Kept.{IsPlan-ordered}
use Rattle.plan_model.proofs.Levels.{IsPlan-levelled}
use Rattle.plan_model.proofs.PlanLaws.{events_agree}
use Rattle.plan_model.proofs.Plans.{over_nodes-is}
use Rattle.plan_model.proofs.Steady.{often_same, row_ends_alike, row_starts_alike}
use Rattle.plan_laws.specs.Undefined.{undefined_at, undefined_node, first_below}
use Rattle.plan_laws.proofs.Undefinedness.{group_at, first_below_none}
use Rattle.plan_laws.specs.Shards.{any_shard}
use Rattle.plan_laws.proofs.Keys.{undefined_shards}
use Rattle.query_plan.specs.Cuts.{is_among, node_places, width_at, cut_places, is_uncut, first_uncut, may_be_cut}
use Rattle.query_plan.specs.Parts.{passes_at, passing_sources, in_part, part_of, part_at, IsCutBy}
use Rattle.query_plan.proofs.Past.{alive_past, often_past}
use Rattle.query_plan.proofs.CutColumns.{PassingAt, passing_at}
use Rattle.query_plan.proofs.CutSteps.{key_at}
use Rattle.query_plan.proofs.Cutting.{parts_cut}

-- a row that does not pass stands nowhere among those that do
none_often : (q : Row → Bool) (r : Row) → q r ≡ false → (rows : List Row) → how_often r (filter q rows) ≡ 0
none_often q r out rows =
    total-filter (λ x. cond (rows_equal r x) 1 0) q rows
    ∙ (total_same _ (λ x. 0) rows (λ x. one x (q x) (rows_equal r x) refl refl) ∙ total_zero rows)
  where
    one : (x : Row) (b c : Bool) → q x ≡ b → rows_equal r x ≡ c → cond {A = ℕ} b (cond c 1 0) 0 ≡ 0
    one x true true e f = absurd (let z = ap q ((rows_equal_tells r x).0 f) in cc)
    one x true false e f = refl
    one x false c e f = refl

module _ (test : Value → Bool) (plan : PlanParts) (source : Sources) (columns : List ℕ) (i place : ℕ)
    (is : IsCutBy plan source columns i place) where
  abbrev whole : ℕ → List Row
  whole = snapshots source plan.nodes i

  abbrev part : ℕ → List Row
  part = snapshots (passing_sources test columns source) plan.nodes i

  agree : (given : Sources) (t : ℕ) → t < inf → SameBag (alive (events given plan.nodes i) t) (snapshots given plan.nodes i t)
  agree given t low =
      (events_agree given plan.nodes (IsPlan-ordered plan is.kept) (IsPlan-levelled plan is.kept) i).same_rows t low

  pub rows_pass : (t : ℕ) → t < inf → SameBag (part t) (filter (passes_at test place) (whole t))
  rows_pass t low =
      SameBag-trans _ (filter (passes_at test place) (alive (events source plan.nodes i) t)) _
      (SameBag-sym _ _ (subst (λ l. SameBag l (part t))
      (ap (λ es. alive es t) (parts_cut test plan source columns i place is)
      ∙ alive_past (passes_at test place) (events source plan.nodes i) t)
      (agree (passing_sources test columns source) t low)))
      (SameBag-filter (passes_at test place) _ _ (agree source t low))

  -- a row that passes stands in the part as often as in the whole
  often_pass : (r : Row) → passes_at test place r ≡ true → (t : ℕ) → t < inf → how_often r (part t) ≡ how_often r (whole t)
  often_pass r pass t low =
      often_same r (part t) (filter (passes_at test place) (whole t)) (rows_pass t low)
      ∙ often_past rows_equal rows_equal_tells (passes_at test place) whole (λ u. filter (passes_at test place) (whole u))
      (λ u. refl) r pass t

  often_none : (r : Row) → passes_at test place r ≡ false → (t : ℕ) → t < inf → how_often r (part t) ≡ 0
  often_none r out t low =
      often_same r (part t) (filter (passes_at test place) (whole t)) (rows_pass t low)
      ∙ none_often (passes_at test place) r out (whole t)

  pub ends_pass : (r : Row) → passes_at test place r ≡ true → (t : ℕ) → t < inf → row_ends part t r ≡ row_ends whole t r
  ends_pass r pass = row_ends_alike part whole r inf (often_pass r pass)

  pub starts_pass : (r : Row) → passes_at test place r ≡ true → (t : ℕ) → t < inf → row_starts part t r ≡ row_starts whole t r
  starts_pass r pass = row_starts_alike part whole r inf (often_pass r pass)

  none_before : (r : Row) → passes_at test place r ≡ false → (t : ℕ) → t < inf → how_often r (before part t) ≡ 0
  none_before r out zero low = refl
  none_before r out (suc t) low = often_none r out t (omega (arith, low))

  pub no_ends : (r : Row) → passes_at test place r ≡ false → (t : ℕ) → t < inf → row_ends part t r ≡ []
  no_ends r out t low = no_row_ends part r t (let z = none_before r out t low in omega (arith, z))

  pub no_starts : (r : Row) → passes_at test place r ≡ false → (t : ℕ) → t < inf → row_starts part t r ≡ []
  no_starts r out t low = no_row_starts part r t (let z = often_none r out t low in omega (arith, z))

pub rows_together : (part : Value → ℕ) (count : ℕ) → ((v : Value) → part v < count) → (plan : PlanParts)
    (source : Sources) (columns : List ℕ) (i place : ℕ) → IsCutBy plan source columns i place → (t : ℕ) → t < inf →
    SameBag (snapshots source plan.nodes i t)
    (over_shards (λ k. snapshots (part_of part k columns source) plan.nodes i t) count)
rows_together part count low plan source columns i place is t now = record {
  weigh = λ w.
      split_sum (part_at part place) count (λ r. low (slice_index_or r place zero_value)) w (snapshots source plan.nodes i t)
      ∙ (sum_same _ _ count (λ k.
      sym ((rows_pass (in_part part k) plan source columns i place is t now).weigh w
      ∙ total-filter w (passes_at (in_part part k) place) (snapshots source plan.nodes i t)))
      ∙ sym (total-over_shards w (λ k. snapshots (part_of part k columns source) plan.nodes i t) count));
}

pub ends_of_part : (part : Value → ℕ) (plan : PlanParts) (source : Sources) (columns : List ℕ) (i place : ℕ) →
    IsCutBy plan source columns i place → (row : Row) (t : ℕ) → t < inf →
    row_ends (snapshots (part_of part (part_at part place row) columns source) plan.nodes i) t row
    ≡ row_ends (snapshots source plan.nodes i) t row
ends_of_part part plan source columns i place is row =
    ends_pass (in_part part (part_at part place row)) plan source columns i place is row
    (eq-eqb (part_at part place row) (part_at part place row) refl)

pub starts_of_part : (part : Value → ℕ) (plan : PlanParts) (source : Sources) (columns : List ℕ) (i place : ℕ) →
    IsCutBy plan source columns i place → (row : Row) (t : ℕ) → t < inf →
    row_starts (snapshots (part_of part (part_at part place row) columns source) plan.nodes i) t row
    ≡ row_starts (snapshots source plan.nodes i) t row
starts_of_part part plan source columns i place is row =
    starts_pass (in_part part (part_at part place row)) plan source columns i place is row
    (eq-eqb (part_at part place row) (part_at part place row) refl)

pub none_of_others : (part : Value → ℕ) (k : ℕ) (plan : PlanParts) (source : Sources) (columns : List ℕ) (i place : ℕ) →
    IsCutBy plan source columns i place → (row : Row) (t : ℕ) → t < inf → part_at part place row ≢ k →
    (row_ends (snapshots (part_of part k columns source) plan.nodes i) t row ≡ [])
    × (row_starts (snapshots (part_of part k columns source) plan.nodes i) t row ≡ [])
none_of_others part k plan source columns i place is row t low other =
    let out = false_from_ne_true (nat_eq (part_at part place row) k) (λ e. other (eqb-true (part_at part place row) k e)) in (
      no_ends (in_part part k) plan source columns i place is row out t low,
      no_starts (in_part part k) plan source columns i place is row out t low,
    )

-- undefined groups
module _ (part : Value → ℕ) (count : ℕ) (low : (v : Value) → part v < count) (plan : PlanParts) (source : Sources)
    (columns : List ℕ) where
  abbrev by_column : ℕ → List Value → ℕ
  by_column place values = part (slice_index_or values place zero_value)

  group_together : (i place child : ℕ) (key : List ℕ) (aggs : List Agg) → IsCutBy plan source columns i place →
      slice_get plan.nodes i ≡ Some (Group child key aggs) → PassingAt (is_among (cut_places plan columns child)) 0 place key →
      (t : ℕ) → t < inf →
      undefined_at source plan.nodes i t
      ≡ any_shard (λ k. undefined_at (part_of part k columns source) plan.nodes i t) count
  group_together i place child key aggs is there at t now =
      group_at source plan.nodes i child t key aggs there
      ∙ (undefined_shards value_ops rows_equal_tells (by_column place) count
      (λ values. low (slice_index_or values place zero_value)) key aggs (snapshots source plan.nodes child t)
      ∙ ap (λ p. any_shard p count) (λ j k. sym (one k) j))
    where
      child_is : IsCutBy plan source columns child at.item
      child_is = record {
        kept = is.kept;
        fits = is.fits;
        low = let z : child < i = (IsPlan-ordered plan is.kept i (Group child key aggs) there).0 in
            let y = is.low in omega (arith, y, z);
        cut = at.passes;
      }

      one : (k : ℕ) → undefined_at (part_of part k columns source) plan.nodes i t
          ≡ is_undefined_in value_ops key aggs (filter (λ r. nat_eq (by_column place (key_values key r)) k) (snapshots source plan.nodes child t))
      one k =
          group_at (part_of part k columns source) plan.nodes i child t key aggs there
          ∙ (undefined_same value_ops key aggs (snapshots (part_of part k columns source) plan.nodes child t)
          (filter (passes_at (in_part part k) at.item) (snapshots source plan.nodes child t))
          (rows_pass (in_part part k) plan source columns child at.item child_is t now)
          ∙ (λ j. is_undefined_in value_ops key aggs
          (filter (λ r. nat_eq (part (sym (key_at (in_part part k) key (cut_places plan columns child) place at r) j)) k)
          (snapshots source plan.nodes child t))))

  none_undefined : (n : ℕ) → false ≡ any_shard (λ k. false) n
  none_undefined zero = refl
  none_undefined (suc n) = ap (λ b. b || false) (none_undefined n)

  others_together : (i t : ℕ) (n : Node) → slice_get plan.nodes i ≡ Some n →
      ((given : Sources) → undefined_node given plan.nodes t (Some n) ≡ false) →
      undefined_at source plan.nodes i t
      ≡ any_shard (λ k. undefined_at (part_of part k columns source) plan.nodes i t) count
  others_together i t n there never =
      ap (undefined_node source plan.nodes t) there
      ∙ (never source ∙ (none_undefined count
      ∙ ap (λ p. any_shard p count)
      (λ j k. sym (ap (undefined_node (part_of part k columns source) plan.nodes t) there ∙ never (part_of part k columns source)) j)))

  node_together : (i place : ℕ) → IsCutBy plan source columns i place → (n : Node) → slice_get plan.nodes i ≡ Some n →
      (t : ℕ) → t < inf →
      undefined_at source plan.nodes i t
      ≡ any_shard (λ k. undefined_at (part_of part k columns source) plan.nodes i t) count
  node_together i place is (Group child key aggs) there t now =
      group_together i place child key aggs is there
      (passing_at (is_among (cut_places plan columns child)) 0 place key
      (subst (λ l. is_among l place ≡ true)
      (over_nodes-is _ _ (node_places (width_at plan.schemas)) plan.nodes (IsPlan-ordered plan is.kept) i (Group child key aggs) there)
      is.cut)) t now
  node_together i place is (Source stream) there t now = others_together i t (Source stream) there (λ given. refl)
  node_together i place is (Where of given) there t now = others_together i t (Where of given) there (λ given. refl)
  node_together i place is (Select of items) there t now = others_together i t (Select of items) there (λ given. refl)
  node_together i place is (Union left right) there t now = others_together i t (Union left right) there (λ given. refl)
  node_together i place is (Delay of by) there t now = others_together i t (Delay of by) there (λ given. refl)
  node_together i place is (Hop of size period) there t now = others_together i t (Hop of size period) there (λ given. refl)
  node_together i place is (Duration of by) there t now = others_together i t (Duration of by) there (λ given. refl)
  node_together i place is (Extend of by) there t now = others_together i t (Extend of by) there (λ given. refl)
  node_together i place is (Session of timeout key) there t now = others_together i t (Session of timeout key) there (λ given. refl)
  node_together i place is (Clip left right left_key right_key) there t now =
      others_together i t (Clip left right left_key right_key) there (λ given. refl)
  node_together i place is (Join left right left_key right_key) there t now =
      others_together i t (Join left right left_key right_key) there (λ given. refl)
  node_together i place is (Anti left right left_key right_key) there t now =
      others_together i t (Anti left right left_key right_key) there (λ given. refl)
  node_together i place is (Coalesce of) there t now = others_together i t (Coalesce of) there (λ given. refl)
  node_together i place is (Mean of at) there t now = others_together i t (Mean of at) there (λ given. refl)
  node_together i place is (Top of key by few) there t now = others_together i t (Top of key by few) there (λ given. refl)
  node_together i place is (Follow left right left_key right_key within) there t now =
      others_together i t (Follow left right left_key right_key within) there (λ given. refl)

  pub undefined_together : (i place : ℕ) → IsCutBy plan source columns i place → (t : ℕ) → t < inf →
      undefined_at source plan.nodes i t
      ≡ any_shard (λ k. undefined_at (part_of part k columns source) plan.nodes i t) count
  undefined_together i place is t now =
      node_together i place is (slice_index_or plan.nodes i (Source 0)) (slice_get-get_or plan.nodes i (Source 0) is.low) t now

-- a list that is not empty has an item
first_among : (places : List ℕ) → nat_eq (length places) 0 ≡ false → (place : ℕ) × (is_among places place ≡ true)
first_among [] h = absurd (cc)
first_among (place ∷ places) h = (place, ap (λ b. b || is_among places place) (eq-eqb place place refl))

not_empty : (places : List ℕ) (place : ℕ) → is_among places place ≡ true → nat_eq (length places) 0 ≡ false
not_empty [] place h = absurd (cc)
not_empty (x ∷ places) place h = false_from_ne_true (nat_eq (length (x ∷ places)) 0) (λ e. absurd (let z = eqb-true (length (x ∷ places)) 0 e in omega (arith, z)))

none_uncut : (p : ℕ → Bool) (n : ℕ) → ((i : ℕ) → i < n → p i ≡ false) → first_below p n ≡ None
none_uncut p zero h = refl
none_uncut p (suc n) h = rw (none_uncut p n (λ i low. h i (omega (arith, low))), h n (omega arith)) refl

pub nodes_cut : (plan : PlanParts) (columns : List ℕ) → (may_be_cut plan columns ≡ true) ↔
    ((length columns ≡ length plan.streams)
    × ((i : ℕ) → i < length plan.nodes → (place : ℕ) × (is_among (cut_places plan columns i) place ≡ true)))
nodes_cut plan columns = (
  λ h.
      let both = and_parts (nat_eq (length columns) (length plan.streams)) (is_none (first_uncut plan columns)) h in (
        eqb-true (length columns) (length plan.streams) both.0,
        λ i low. first_among (cut_places plan columns i)
            (first_below_none (is_uncut plan columns) (length plan.nodes) (is_None (first_uncut plan columns) both.1) i low),
      ),
  λ each.
      rw (eq-eqb (length columns) (length plan.streams) each.0)
      (ap is_none (none_uncut (is_uncut plan columns) (length plan.nodes)
      (λ i low. let at = each.1 i low in not_empty (cut_places plan columns i) at.0 at.1))),
)
  where
    is_None : (o : Option ℕ) → is_none o ≡ true → o ≡ None
    is_None None h = refl
    is_None (Some x) h = absurd (cc)
