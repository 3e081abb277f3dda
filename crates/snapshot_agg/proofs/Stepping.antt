-- A whole step of a group, in the form in which code has it.
use Rattle.std.specs.Prelude.{◌≡◌, ℕ, ◌+◌, ◌≤◌, cond, Option, Some, None, true, ◌&&◌, List, [], ◌∷◌, ◌++◌, map, All, refl}
use Rattle.std.proofs.Common.{sym, ◌∙◌, ap, subst, arith}
use Rattle.std.proofs.lemmas.Bool.{and_parts}
use Rattle.std.proofs.lemmas.List.Elements.{All-nil, All-cons}
use Rattle.tw_rows.specs.Cells.{datum_kind}
use Rattle.tw_rows.specs.Instant.{inf}
use Rattle.tw_rows.specs.declared.kind.CellKind.{CellKind}
use Rattle.tw_rows.specs.Bag.{total}
use Rattle.tw_rows.specs.Event.{alive}
use Rattle.tw_rows.specs.SameCells.{same_cells}
use Rattle.tw_rows.specs.declared.cells.Datum.{Datum}
use Rattle.tw_rows.specs.declared.edge.Edge.{Edge}
use Rattle.tw_rows.specs.declared.edge.HeldRow.{HeldRow}
use Rattle.tw_rows.proofs.Bags.{total-append}
use Rattle.edge_history.specs.Order.{failing, is_real, is_from, is_below, Rises, KeepsOrder, IsHistory}
use Rattle.edge_history.proofs.Agreeing.{same_order}
use Rattle.edge_history.proofs.Sums.{weaker}
use Rattle.edge_stream.specs.Steps.{ComeBetween}
use Rattle.snapshot_agg.specs.Answering.{group_kinds, is_stored, is_answered, AreRunsOf, IsSoFar}
use Rattle.sweep_laws.specs.Saving.{may_wait}
use Rattle.sweep_laws.proofs.Stored.{stored_kinds, new_wait, wait_parts}
use Rattle.snapshot_agg.proofs.Answering.{first_passes}
use Rattle.edge_history.specs.History.{CellEvent, of}
use Rattle.edge_history.specs.Opens.{singles}
use Rattle.edge_history.proofs.Telling.{told_nothing}
use Rattle.key_nodes.specs.Groups.{grouped}
use Rattle.plan_laws.specs.Keeping.{plain_cells}
use Rattle.plan_laws.specs.Undefined.{first_below}
use Rattle.plan_model.specs.declared.agg.Agg.{Agg}
use Rattle.plan_model.specs.RowOps.{is_undefined_in}
use Rattle.sweep_laws.specs.Sweeps.{IsDue, Tells}
use Rattle.sweep_laws.specs.Running.{Run}
use Rattle.sweep_laws.specs.Grouping.{GroupSweeping, IsDefined, IsFirstUndefined, GroupKeeps}
use Rattle.sweep_laws.proofs.GroupReaching.{group_step, group_step_undefined}
use Rattle.snapshot_agg.specs.Words.{key_data, tell, bad}
use Rattle.snapshot_agg.proofs.Totaling.{keys_tell, tell_is_group, bad_by_key, none_undefined}
use Rattle.snapshot_agg.proofs.Undefining.{all_defined, some_undefined, none_below, least_below}

abbrev pub Kept : List ℕ → List Agg → List HeldRow → (List Datum → Option Run) → List Edge → ℕ → List Edge → List Edge → Type 0
Kept key aggs rows run waiting to came out = GroupKeeps (key_data key) same_cells (tell key aggs) (bad key aggs) rows run waiting to came out

-- nothing came in
pub nothing_kept : (key : List ℕ) (aggs : List Agg) (rows : List HeldRow) (run : List Datum → Option Run) (waiting : List Edge) (to : ℕ) → rows ≡ [] → ((k : List Datum) → run k ≡ None) → waiting ≡ [] → to ≡ 0 →
    Kept key aggs rows run waiting to [] []
nothing_kept key aggs rows run waiting to no_rows no_run no_wait zero =
    subst (λ t. Kept key aggs rows run waiting t [] []) (sym zero) (subst (λ w. Kept key aggs rows run w 0 [] []) (sym no_wait) (subst (λ r. Kept key aggs r run [] 0 [] []) (sym no_rows) (record {
      history = record { order = tt; real = refl; paired = λ cells start. omega arith };
      waits = record { weigh = λ w. refl };
      now = record {
        swept = record { alive_rows = record { weigh = λ w. refl }; open_runs = no_run };
        steady = λ k. ap (λ x. row_of x) (no_run k);
        fine = λ k. none_undefined aggs;
      };
      told = told_nothing (grouped (key_data key) same_cells same_cells (tell key aggs) (of []));
      defined = λ k v low high. absurd (omega (arith, high));
    })))
  where
    row_of : Option Run → Option (List Datum)
    row_of None = None
    row_of (Some x) = Some x.row

module _ (key : List ℕ) (aggs : List Agg) (came new waiting due deref rest : List Edge) (c d : ℕ) (low : c ≤ d) (high : d ≤ inf) (whole : IsHistory (came ++ new)) (from : failing (is_from c) new ≡ 0)
    (same : deref ≡ due)
    (parts : (w : Edge → ℕ) → total w due + total w rest ≡ total w waiting + total w (singles new))
    (below : failing (is_below d) due ≡ 0) (later : failing (is_from d) rest ≡ 0) (up : Rises 0 due)
    (rows : List HeldRow) (run : List Datum → Option Run) (out : List Edge) (k : Kept key aggs rows run waiting c came out) where
  puts : (w : Edge → ℕ) → total w (waiting ++ singles new) ≡ total w waiting + total w (singles new)
  puts w = total-append w waiting (singles new)

  takes : (w : Edge → ℕ) → total w due + total w rest ≡ total w (waiting ++ singles new)
  takes w = parts w ∙ sym (puts w)

  pub step_keeps : (rows2 : List HeldRow) (run2 : List Datum → Option Run) (answer0 answer : List Edge) → answer0 ≡ [] →
      ((a : List CellEvent) (t : ℕ) → IsDue a c t deref → GroupSweeping (tell key aggs) (bad key aggs) a c rows run →
      GroupSweeping (tell key aggs) (bad key aggs) a t rows2 run2 × Tells (grouped (key_data key) same_cells same_cells (tell key aggs) a) c t answer0 answer × IsDefined (bad key aggs) a c t) →
      Kept key aggs rows2 run2 rest d (came ++ new) (out ++ answer)
  step_keeps rows2 run2 answer0 answer empty swept =
      group_step (key_data key) same_cells keys_tell (tell key aggs) (tell_is_group key aggs) (bad key aggs) (bad_by_key key aggs)
      came new waiting (waiting ++ singles new) due rest c d low high whole from puts takes below later up rows run out k rows2 run2 answer0 answer empty
      (λ due_is s. swept (of (came ++ new)) d (subst (IsDue (of (came ++ new)) c d) (sym same) due_is) s)

  pub step_stops : (t : ℕ) →
      ((a : List CellEvent) (u : ℕ) → IsDue a c u deref → GroupSweeping (tell key aggs) (bad key aggs) a c rows run → IsFirstUndefined (bad key aggs) a c u t) →
      first_below (λ v. is_undefined_in plain_cells key aggs (alive (of (came ++ new)) v)) d ≡ Some t
  step_stops t cause =
      let f = group_step_undefined (key_data key) same_cells keys_tell (tell key aggs) (tell_is_group key aggs) (bad key aggs) (bad_by_key key aggs)
      came new waiting (waiting ++ singles new) due rest c d low high whole from puts takes below later up rows run out k t
      (λ due_is s. cause (of (came ++ new)) d (subst (IsDue (of (came ++ new)) c d) (sym same) due_is) s) in
      least_below (λ v. is_undefined_in plain_cells key aggs (alive (of (came ++ new)) v)) d t f.high
      (some_undefined key aggs f.found.0 (alive (of (came ++ new)) t) f.found.1)
      (λ u before. all_defined key aggs (alive (of (came ++ new)) u) (λ q. f.first q u (omega arith) before))

pub kept_defined : (key : List ℕ) (aggs : List Agg) (rows : List HeldRow) (run : List Datum → Option Run) (waiting : List Edge) (d : ℕ) (came out : List Edge) →
    Kept key aggs rows run waiting d came out → first_below (λ v. is_undefined_in plain_cells key aggs (alive (of came) v)) d ≡ None
kept_defined key aggs rows run waiting d came out k =
    none_below (λ v. is_undefined_in plain_cells key aggs (alive (of came) v)) d (λ t low. all_defined key aggs (alive (of came) t) (λ q. k.defined q t (omega arith) low))

-- an answer with no edge yet
pub so_far_empty : (kinds : List CellKind) (from to : ℕ) (run : List Datum → Option Run) (answer : List Edge) → answer ≡ [] → AreRunsOf kinds from run → IsSoFar kinds from from to run answer
so_far_empty kinds from to run answer empty runs =
    subst (IsSoFar kinds from from to run) (sym empty) (record { runs = runs; order = record { rises = tt; below = refl }; answered = refl })

-- an answer up to a time is a list that its columns may hold, between the two times
pub so_far_whole : (kinds : List CellKind) (from to : ℕ) (run : List Datum → Option Run) (answer : List Edge) → IsSoFar kinds from to to run answer →
    KeepsOrder answer × All (λ e. map datum_kind e.cells ≡ kinds) answer × ComeBetween from to answer
so_far_whole kinds from to run answer s = (
  (same_order answer).1 (s.order.rises, weaker (is_answered kinds from to) is_real answer (λ e h. (parts e h).0) s.answered),
  all_kinds answer s.answered,
  record {
    from = weaker (is_answered kinds from to) (is_from from) answer (λ e h. (parts e h).1) s.answered;
    below = weaker (is_answered kinds from to) (is_below to) answer (λ e h. (parts e h).2) s.answered;
  },
)
  where
    parts : (e : Edge) → is_answered kinds from to e ≡ true → (is_real e ≡ true) × (is_from from e ≡ true) × (is_below to e ≡ true) × (is_stored kinds e ≡ true)
    parts e h =
        let a = and_parts (is_real e) (is_from from e && (is_below to e && is_stored kinds e)) h in
        let b = and_parts (is_from from e) (is_below to e && is_stored kinds e) a.1 in
        let c = and_parts (is_below to e) (is_stored kinds e) b.1 in
        (a.0, b.0, c.0, c.1)

    all_kinds : (es : List Edge) → failing (is_answered kinds from to) es ≡ 0 → All (λ e. map datum_kind e.cells ≡ kinds) es
    all_kinds [] h = All-nil (λ (e : Edge). map datum_kind e.cells ≡ kinds)
    all_kinds (e ∷ es) h =
        All-cons (λ (e : Edge). map datum_kind e.cells ≡ kinds) e es (stored_kinds kinds e.cells (parts e (first_passes (is_answered kinds from to e) _ h)).3) (all_kinds es (omega (arith, h)))

-- the same, where the kinds are told by those of the operator
pub so_far_in : (key : List ℕ) (aggs : List Agg) (left cells own : List CellKind) (from to : ℕ) (run run2 : List Datum → Option Run) (answer : List Edge) →
    own ≡ group_kinds key aggs left → cells ≡ left → AreRunsOf own from run →
    (AreRunsOf (group_kinds key aggs cells) from run → IsSoFar (group_kinds key aggs cells) from to to run2 answer) → IsSoFar own from to to run2 answer
so_far_in key aggs left cells own from to run run2 answer like same runs emitted =
    let e = like ∙ ap (group_kinds key aggs) (sym same) in
    subst (λ k. IsSoFar k from to to run2 answer) (sym e) (emitted (subst (λ k. AreRunsOf k from run) e runs))

-- the edges that are due are stored as those that wait and the new ones are
pub due_stored : (kinds : List CellKind) (from : ℕ) (waiting rest new due : List Edge) → failing (may_wait kinds from) waiting ≡ 0 → KeepsOrder new →
    All (λ e. map datum_kind e.cells ≡ kinds) new → ((w : Edge → ℕ) → total w due + total w rest ≡ total w waiting + total w (singles new)) → failing (is_stored kinds) due ≡ 0
due_stored kinds from waiting rest new due later order cells parts =
    let a = weaker (may_wait kinds from) (is_stored kinds) waiting (λ e h. (wait_parts kinds from e h).3) later in
    let b = weaker (may_wait kinds 0) (is_stored kinds) (singles new) (λ e h. (wait_parts kinds 0 e h).3) (new_wait kinds new order.real cells) in
    let c = parts (λ e. cond (is_stored kinds e) 0 1) in
    omega (arith, a, b, c)
