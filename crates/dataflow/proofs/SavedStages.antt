-- What a stage saves and takes up, from what its operators do.
use Rattle.std.specs.Prelude.{◌≡◌, ℕ, zero, suc, ◌<◌, ◌≤◌, true, false, Option, Some, List, [], ◌∷◌, length, map, slice_get, Result, Ok, Err, OnOk, IfOk, IfErr, Vec, All}
use Rattle.std.specs.List.{range_with_len}
use Rattle.std.proofs.Common.{refl, sym, ap, subst, ◌∙◌, arith, get_or}
use Rattle.std.proofs.lemmas.List.{length-map}
use Rattle.std.proofs.lemmas.List.Elements.{All-weaker, All-cons, All-nil}
use Rattle.tw_rows.specs.Cells.{datum_kind}
use Rattle.tw_rows.specs.declared.cells.Datum.{Datum}
use Rattle.tw_rows.specs.declared.edge.Edge.{Edge}
use Rattle.tw_rows.specs.declared.kind.CellKind.{CellKind}
use Rattle.tw_rows.specs.declared.memory.Memory.{Memory}
use Rattle.edge_history.specs.Order.{failing, is_below}
use Rattle.edge_stream.specs.Shards.{edges_in_shard}
use Rattle.edge_stream.specs.declared.saved.PartRow.{PartRow}
use Rattle.edge_stream.specs.declared.saved.PartRow.TheVariants.{Left, Right, Own, KeyFirst}
use Rattle.edge_stream.specs.declared.saved.SavedEntry.{SavedEntry}
use Rattle.edge_stream.specs.declared.saved.LoadFault.{LoadFault}
use Rattle.edge_stream.specs.declared.saved.LoadFault.TheVariants.{NotState}
use Rattle.plan_model.specs.declared.node.Node.{Node}
use Rattle.plan_model.specs.declared.node.Node.TheVariants as nodes
use Rattle.plan_model.specs.IsPlan.{node_kinds}
use Rattle.plan_laws.specs.Shards.{is_keyed, left_key_of, right_key_of}
use Rattle.frozen_state.specs.Forms.{part_rows, shards_of}
use Rattle.frozen_state.specs.Formed.{IsStoredIn}
use Rattle.where_select.specs.declared.row_stage.RowStage.{RowStage}
use Rattle.where_select.specs.Stages.{IsStageOf}
use Rattle.where_select.proofs.MadeEdges.{by_node}
use Rattle.edge_stream.specs.Standing.{Standing, Keeping, IsLike, Implies, kinds_of_row, IsStoredAs, AreStoredAs}
use Rattle.shard_apply.specs.Whole.{Whole, first_of, standing_in, AreInStep, ShardsKeep}
use Rattle.shard_apply.specs.Saving.{is_row_of, AreRowsOf, AreSound, AreOwn, ShardsResume}
use Rattle.shard_apply.proofs.WholeSteps.{stands_as}
use Rattle.dataflow.specs.declared.stage.Stage.{Stage}
use Rattle.dataflow.specs.declared.stage.Stage.TheVariants.{Rows}
use Rattle.dataflow.specs.Operating.{CanOperate, MeanAlike, over_two}
use Rattle.dataflow.specs.Shards.{is_variant_of, shards_in, RunsNode}
use Rattle.dataflow.specs.Stages.{IsReady, HasMade}
use Rattle.dataflow.specs.Saving.{NodeSound, NodeResumes, StandingSound, StandingResumes, IsSoundOf, IsKeptOf, row_in, IsSavedOf, IsResumedOf}
use Rattle.dataflow.specs.Saving.{StaysAt, SavesAlone, LoadsAlone, RefusesAlone, SavesShards, LoadsShards, RefusesShards, Saves, row_kinds, StoresRows, Loads, IsNoState}
use Rattle.dataflow.proofs.Variants.{IsVariant}
use Rattle.dataflow.proofs.Running.{runs_same}

-- a node over the children 0 and 1 has the same keys and the same parts
pub keyed_over : (n : Node) → is_keyed (over_two n) ≡ is_keyed n
keyed_over (nodes.Source stream) = refl
keyed_over (nodes.Where of test) = refl
keyed_over (nodes.Select of items) = refl
keyed_over (nodes.Union left right) = refl
keyed_over (nodes.Delay of by) = refl
keyed_over (nodes.Hop of size period) = refl
keyed_over (nodes.Duration of by) = refl
keyed_over (nodes.Extend of by) = refl
keyed_over (nodes.Session of timeout key) = refl
keyed_over (nodes.Clip left right left_key right_key) = refl
keyed_over (nodes.Group of key aggs) = refl
keyed_over (nodes.Join left right left_key right_key) = refl
keyed_over (nodes.Anti left right left_key right_key) = refl
keyed_over (nodes.Coalesce of) = refl
keyed_over (nodes.Mean of at) = refl
keyed_over (nodes.Top of key by count) = refl
keyed_over (nodes.Follow left right left_key right_key within) = refl

left_key_over : (n : Node) → left_key_of (over_two n) ≡ left_key_of n
left_key_over (nodes.Session of timeout key) = refl
left_key_over (nodes.Clip left right left_key right_key) = refl
left_key_over (nodes.Group of key aggs) = refl
left_key_over (nodes.Join left right left_key right_key) = refl
left_key_over (nodes.Anti left right left_key right_key) = refl
left_key_over n = refl

right_key_over : (n : Node) → right_key_of (over_two n) ≡ right_key_of n
right_key_over (nodes.Clip left right left_key right_key) = refl
right_key_over (nodes.Join left right left_key right_key) = refl
right_key_over (nodes.Anti left right left_key right_key) = refl
right_key_over n = refl

rows_over : (n : Node) → part_rows (over_two n) ≡ part_rows n
rows_over (nodes.Source stream) = refl
rows_over n = refl

pub shards_over : (workers : ℕ) (n : Node) → shards_of workers (over_two n) ≡ shards_of workers n
shards_over workers (nodes.Source stream) = refl
shards_over workers n = refl

-- what an operator says of its own node it says of the node of the plan, and back
module _ (capacity : ℕ) (left right : List CellKind) (n : Node) (s : Standing) (x y : ℕ) (can : CanOperate capacity left right n s x y) (saved : List SavedEntry) (u v : ℕ) where
  sound_out : StandingSound s saved u v → IsSoundOf left right n saved u v
  sound_out h =
      subst (λ m. NodeSound left right (node_kinds n left right) m saved u v) can.named
      (subst (λ k. NodeSound left right k s.node saved u v) can.own_kinds
      (subst (λ k. NodeSound left k s.own_kinds s.node saved u v) can.right_kinds
      (subst (λ k. NodeSound k s.right_kinds s.own_kinds s.node saved u v) can.left_kinds h)))

  sound_in : IsSoundOf left right n saved u v → StandingSound s saved u v
  sound_in h =
      subst (λ k. NodeSound k s.right_kinds s.own_kinds s.node saved u v) (sym can.left_kinds)
      (subst (λ k. NodeSound left k s.own_kinds s.node saved u v) (sym can.right_kinds)
      (subst (λ k. NodeSound left right k s.node saved u v) (sym can.own_kinds)
      (subst (λ m. NodeSound left right (node_kinds n left right) m saved u v) (sym can.named) h)))

  module _ (texts : List (List ℕ)) (hl hr out : List Edge) where
    resumes_out : StandingResumes s saved u v texts hl hr out → IsKeptOf left right n saved u v texts hl hr out
    resumes_out h =
        subst (λ m. NodeResumes texts left right (node_kinds n left right) m saved u v hl hr out) can.named
        (subst (λ k. NodeResumes texts left right k s.node saved u v hl hr out) can.own_kinds
        (subst (λ k. NodeResumes texts left k s.own_kinds s.node saved u v hl hr out) can.right_kinds
        (subst (λ k. NodeResumes texts k s.right_kinds s.own_kinds s.node saved u v hl hr out) can.left_kinds h)))

    resumes_in : IsKeptOf left right n saved u v texts hl hr out → StandingResumes s saved u v texts hl hr out
    resumes_in h =
        subst (λ k. NodeResumes texts k s.right_kinds s.own_kinds s.node saved u v hl hr out) (sym can.left_kinds)
        (subst (λ k. NodeResumes texts left k s.own_kinds s.node saved u v hl hr out) (sym can.right_kinds)
        (subst (λ k. NodeResumes texts left right k s.node saved u v hl hr out) (sym can.own_kinds)
        (subst (λ m. NodeResumes texts left right (node_kinds n left right) m saved u v hl hr out) (sym can.named) h)))

-- an operator that took up entries
pub stays_at : (old new : Standing) (u v : ℕ) → IsLike old new → new.has_failed ≡ false → new.left_closed ≡ u → new.right_closed ≡ v → StaysAt old new u v
stays_at old new u v like works left_to right_to = record {
  stays = λ capacity left right n x y can. record {
    node = subst (MeanAlike n) (sym like.node) can.node;
    named = like.node ∙ can.named;
    works = works;
    left_closed = left_to;
    right_closed = right_to;
    left_kinds = like.left_kinds ∙ can.left_kinds;
    right_kinds = like.right_kinds ∙ can.right_kinds;
    own_kinds = like.own_kinds ∙ can.own_kinds;
    batch_rows = like.batch_rows ∙ can.batch_rows;
  };
}

-- the only item
pub one_item : {X : Type 0} (xs : List X) (d : X) → length xs ≡ 1 → xs ≡ get_or xs 0 d ∷ []
one_item [] d one = absurd (omega (arith, one))
one_item (x ∷ []) d one = refl
one_item (x ∷ y ∷ xs) d one = absurd (omega (arith, one))

pub only_length : {X : Type 0} (xs : List X) (x : X) → xs ≡ x ∷ [] → length xs ≡ 1
only_length xs x is = ap length is

pub loads_alone : {T : Type 0} (r : Result T LoadFault) (old new : Standing) (keeps : Keeping) (sound : List SavedEntry → ℕ → ℕ → Type 0) (resumes : List SavedEntry → ℕ → ℕ → Keeping)
    (saved : List (List SavedEntry)) (entries : List SavedEntry) (u v : ℕ) → saved ≡ entries ∷ [] → IsLike old new → OnOk r (new.has_failed ≡ false) → OnOk r (new.left_closed ≡ u) → OnOk r (new.right_closed ≡ v) →
    OnOk r (sound entries u v) → OnOk r (Implies (resumes entries u v) keeps) → OnOk r (LoadsAlone old new keeps sound resumes saved u v)
loads_alone (Ok t) old new keeps sound resumes saved entries u v alone like works left_to right_to is_sound resumed = record {
  entries = entries;
  alone = alone;
  stays = stays_at old new u v like works left_to right_to;
  is_sound = is_sound;
  resumed = resumed;
}
loads_alone (Err e) old new keeps sound resumes saved entries u v alone like works left_to right_to is_sound resumed = tt

pub refuses_alone : {T : Type 0} (r : Result T LoadFault) (sound : List SavedEntry → ℕ → ℕ → Type 0) (saved : List (List SavedEntry)) (entries : List SavedEntry) (u v : ℕ) → saved ≡ entries ∷ [] →
    IfErr r (λ fault. fault ≡ NotState → sound entries u v → ⊥) → IfErr r (λ fault. fault ≡ NotState → RefusesAlone sound saved u v)
refuses_alone (Ok t) sound saved entries u v alone none = tt
refuses_alone (Err e) sound saved entries u v alone none = λ is other same h.
    let both : other ≡ entries = ap (λ l. get_or l 0 entries) (sym same ∙ alone) in
    none is (subst (λ z. sound z u v) both h)

-- what operators of this kind call sound and resumed is so of the node that they name
pub record IsSaving {O : Type 0} (standing : O → Standing) (sounding : O → List SavedEntry → ℕ → ℕ → Type 0)
    (resuming : O → List SavedEntry → ℕ → ℕ → List (List ℕ) → List Edge → List Edge → List Edge → Type 0) : Type 0 where
  pub sound : (o : O) (saved : List SavedEntry) (x y : ℕ) → sounding o saved x y → StandingSound (standing o) saved x y
  pub sounds : (o : O) (saved : List SavedEntry) (x y : ℕ) → StandingSound (standing o) saved x y → sounding o saved x y
  pub resumed : (o : O) (saved : List SavedEntry) (x y : ℕ) (texts : List (List ℕ)) (hl hr out : List Edge) → resuming o saved x y texts hl hr out → StandingResumes (standing o) saved x y texts hl hr out
  pub resumes : (o : O) (saved : List SavedEntry) (x y : ℕ) (texts : List (List ℕ)) (hl hr out : List Edge) → StandingResumes (standing o) saved x y texts hl hr out → resuming o saved x y texts hl hr out

-- stages of this kind save the only list of their operator, of a node that has no key
pub record SavesAsOne {O : Type 0} (stage : O → Stage) (standing : O → Standing) (sounding : O → List SavedEntry → ℕ → ℕ → Type 0)
    (resuming : O → List SavedEntry → ℕ → ℕ → List (List ℕ) → List Edge → List Edge → List Edge → Type 0) (row : ℕ → Option PartRow) : Type 0 where
  pub saving : IsSaving standing sounding resuming
  pub one : (o : O) → shards_in (stage o) ≡ 1
  pub rows : (o : O) (part : ℕ) → row part ≡ row_in (standing o).node part
  pub no_key : (o : O) → is_keyed (standing o).node ≡ false

-- stages of this kind save a list for each of their operators, with entries of these rows
pub record SavesApart {O : Type 0} (stage : Whole O → Stage) (standing : O → Standing) (sounding : O → List SavedEntry → ℕ → ℕ → Type 0)
    (resuming : O → List SavedEntry → ℕ → ℕ → List (List ℕ) → List Edge → List Edge → List Edge → Type 0) (row : ℕ → Option PartRow) : Type 0 where
  pub saving : IsSaving standing sounding resuming
  pub lists : (w : Whole O) → shards_in (stage w) ≡ length w.operators
  pub rows : (o : O) (part : ℕ) → row part ≡ row_in (standing o).node part

-- the only list of a node that has no key
module _ (left right : List CellKind) (n : Node) (plain : is_keyed n ≡ false) (e : List SavedEntry) (x y : ℕ) where
  saved_alone : IsSoundOf left right n e x y → IsSavedOf 1 left right n (e ∷ []) x y
  saved_alone h = record {
    many = refl;
    sound = λ s f low. (let first : 0 ≡ s = omega (arith, low) in subst (λ k. IsSoundOf left right n (get_or (e ∷ []) k f) x y) first h);
    own = λ keyed. absurd (cc);
  }

  module _ (texts : List (List ℕ)) (hl hr out : List Edge) where
    resumed_alone : IsKeptOf left right n e x y texts hl hr out → IsResumedOf texts 1 left right n (e ∷ []) x y hl hr out
    resumed_alone h = record { many = refl; whole = λ no. h; keyed = λ keyed. absurd (cc) }

-- entries that are stored as an operator says are stored so for the node of the plan
stored_entry : (rows : List PartRow) (part : ℕ) (f : PartRow → List CellKind) (s : Standing) → ((r : PartRow) → kinds_of_row s r ≡ f r) → (cells : List Datum) →
    IsStoredAs s (slice_get rows part) cells → slice_get (map f rows) part ≡ Some (map datum_kind cells)
stored_entry [] zero f s same cells h = absurd h
stored_entry [] (suc part) f s same cells h = absurd h
stored_entry (r ∷ rows) zero f s same cells h = ap Some (sym (h ∙ same r))
stored_entry (r ∷ rows) (suc part) f s same cells h = stored_entry rows part f s same cells h

kinds_same : (capacity : ℕ) (left right : List CellKind) (n : Node) (s : Standing) (x y : ℕ) → CanOperate capacity left right n s x y → (r : PartRow) → kinds_of_row s r ≡ row_kinds left right n r
kinds_same capacity left right n s x y can Left = can.left_kinds
kinds_same capacity left right n s x y can Right = can.right_kinds
kinds_same capacity left right n s x y can Own = can.own_kinds
kinds_same capacity left right n s x y can KeyFirst = can.own_kinds

pub stored_in : (row : ℕ → Option PartRow) (capacity : ℕ) (left right : List CellKind) (n : Node) (s : Standing) (x y : ℕ) → CanOperate capacity left right n s x y →
    ((part : ℕ) → row part ≡ row_in s.node part) → (saved : List SavedEntry) → AreStoredAs row s saved → All (IsStoredIn (map (row_kinds left right n) (part_rows n))) saved
stored_in row capacity left right n s x y can rows saved =
    All-weaker (λ e. IsStoredAs s (row e.part) e.cells) (IsStoredIn (map (row_kinds left right n) (part_rows n)))
    (λ e h. stored_entry (part_rows n) e.part (row_kinds left right n) s (kinds_same capacity left right n s x y can) e.cells
    (subst (λ o. IsStoredAs s o e.cells) (rows e.part ∙ ap (λ m. row_in m e.part) can.named ∙ ap (λ l. slice_get l e.part) (rows_over n)) h)) saved

-- stages that are whole operators
module _ {O : Type 0} (stage : O → Stage) (standing : O → Standing) (keeping : O → Keeping) (is : IsVariant stage standing keeping)
    (sounding : O → List SavedEntry → ℕ → ℕ → Type 0) (resuming : O → List SavedEntry → ℕ → ℕ → Keeping)
    (row : ℕ → Option PartRow) (saves : SavesAsOne stage standing sounding resuming row) (s : Stage) (o : O) (at : s ≡ stage o) where
  plain_node : (capacity : ℕ) (left right : List CellKind) (n : Node) (x y : ℕ) → CanOperate capacity left right n (standing o) x y → is_keyed n ≡ false
  plain_node capacity left right n x y can = sym (keyed_over n) ∙ ap is_keyed (sym can.named) ∙ saves.no_key o

  saves_out : (entries : List SavedEntry) → sounding o entries (standing o).left_closed (standing o).right_closed →
      Implies (keeping o) (resuming o entries (standing o).left_closed (standing o).right_closed) → Saves (stage o) (entries ∷ [])
  saves_out entries sound resumes texts capacity left right n x y ready =
      let can = is.can texts capacity left right n o x y ready in
      let plain = plain_node capacity left right n x y can in (
        subst (λ k. IsSavedOf k left right n (entries ∷ []) x y) (sym (saves.one o)) (saved_alone left right n plain entries x y
            (subst (λ v. IsSoundOf left right n entries x v) can.right_closed
            (subst (λ u. IsSoundOf left right n entries u (standing o).right_closed) can.left_closed
            (sound_out capacity left right n (standing o) x y can entries _ _ (saves.saving.sound o entries _ _ sound))))),
        λ more hl hr out kept. subst (λ k. IsResumedOf more k left right n (entries ∷ []) x y hl hr out) (sym (saves.one o)) (resumed_alone left right n plain entries x y more hl hr out
            (subst (λ v. IsKeptOf left right n entries x v more hl hr out) can.right_closed
            (subst (λ u. IsKeptOf left right n entries u (standing o).right_closed more hl hr out) can.left_closed
            (resumes_out capacity left right n (standing o) x y can entries _ _ more hl hr out (saves.saving.resumed o entries _ _ more hl hr out (resumes more hl hr out (is.kept more n o x y hl hr out kept))))))),
      )

  pub variant_saves : {S : Type 0} (r : Result (Vec (List SavedEntry) S) Memory) → IfOk r (λ saved. SavesAlone (standing o) (keeping o) (sounding o) (resuming o) row saved.items) → IfOk r (λ saved. Saves s saved.items)
  variant_saves (Ok saved) told = subst (λ z. Saves z saved.items) (sym at) (subst (Saves (stage o)) (sym told.alone) (saves_out told.entries told.is_sound told.resumed))
  variant_saves (Err e) told = tt

  pub variant_stores : {S : Type 0} (r : Result (Vec (List SavedEntry) S) Memory) → IfOk r (λ saved. SavesAlone (standing o) (keeping o) (sounding o) (resuming o) row saved.items) → IfOk r (λ saved. StoresRows s saved.items)
  variant_stores (Ok saved) told = subst (λ z. StoresRows z saved.items) (sym at) (λ texts capacity left right n x y ready.
      let can = is.can texts capacity left right n o x y ready in
      subst (All (All (IsStoredIn (map (row_kinds left right n) (part_rows n))))) (sym told.alone)
      (All-cons (All (IsStoredIn (map (row_kinds left right n) (part_rows n)))) told.entries []
      (stored_in row capacity left right n (standing o) x y can (saves.rows o) told.entries told.stored) (All-nil (All (IsStoredIn (map (row_kinds left right n) (part_rows n)))))))
  variant_stores (Err e) told = tt

  module _ (new : O) (saved : List (List SavedEntry)) (u v : ℕ) where
    loads_in : LoadsAlone (standing o) (standing new) (keeping new) (sounding o) (resuming o) saved u v → Loads (stage o) (stage new) saved u v
    loads_in told texts capacity left right n x y ready =
        let can = is.can texts capacity left right n o x y ready in
        let plain = plain_node capacity left right n x y can in
        let e = told.entries in (
          is.ready texts capacity left right n new u v (told.stays.stays capacity left right n x y can),
          subst (λ l. IsSavedOf (shards_in (stage o)) left right n l u v) (sym told.alone) (subst (λ k. IsSavedOf k left right n (e ∷ []) u v) (sym (saves.one o))
              (saved_alone left right n plain e u v (sound_out capacity left right n (standing o) x y can e u v (saves.saving.sound o e u v told.is_sound)))),
          λ more hl hr out h. is.keeps more n new u v hl hr out (told.resumed more hl hr out (saves.saving.resumes o e u v more hl hr out (resumes_in capacity left right n (standing o) x y can e u v more hl hr out
              (subst (λ l. IsKeptOf left right n (get_or l 0 []) u v more hl hr out) told.alone (h.whole plain))))),
        )

    pub variant_loads : {T : Type 0} (r : Result T LoadFault) → OnOk r (LoadsAlone (standing o) (standing new) (keeping new) (sounding o) (resuming o) saved u v) → OnOk r (Loads s (stage new) saved u v)
    variant_loads (Ok t) told = subst (λ z. Loads z (stage new) saved u v) (sym at) (loads_in told)
    variant_loads (Err e) told = tt

    no_state : RefusesAlone (sounding o) saved u v → IsNoState (stage o) saved u v
    no_state none texts capacity left right n x y ready h =
        let can = is.can texts capacity left right n o x y ready in
        let alone = one_item saved [] (h.many ∙ saves.one o) in
        none (get_or saved 0 []) alone (saves.saving.sounds o (get_or saved 0 []) u v (sound_in capacity left right n (standing o) x y can (get_or saved 0 []) u v (h.sound 0 [] (let k = saves.one o in omega (arith, k)))))

    pub variant_refused : {T : Type 0} (r : Result T LoadFault) → IfErr r (λ fault. fault ≡ NotState → RefusesAlone (sounding o) saved u v) → IfErr r (λ fault. fault ≡ NotState → IsNoState s saved u v)
    variant_refused (Ok t) none = tt
    variant_refused (Err e) none = λ is_not. subst (λ z. IsNoState z saved u v) (sym at) (no_state (none is_not))

-- that a stage is ready says that no step of it failed
pub variant_works : {O : Type 0} (stage : O → Stage) (standing : O → Standing) (keeping : O → Keeping) → IsVariant stage standing keeping → (s : Stage) (o : O) → s ≡ stage o →
    (texts : List (List ℕ)) (capacity : ℕ) (left right : List CellKind) (n : Node) (x y : ℕ) → IsReady texts capacity left right n s x y → (standing o).has_failed ≡ false
variant_works stage standing keeping is s o at texts capacity left right n x y ready =
    (is.can texts capacity left right n o x y (subst (λ z. IsReady texts capacity left right n z x y) at ready)).works

-- entries are of rows of a shard, however its keys and rows are named
rows_named : (row other : ℕ → Option PartRow) → ((part : ℕ) → row part ≡ other part) → (count : ℕ) (left right left_same right_same : List ℕ) → left ≡ left_same → right ≡ right_same → (number : ℕ) (saved : List SavedEntry) →
    AreRowsOf row count left right (range_with_len 0 (length left)) number saved → AreRowsOf other count left_same right_same (range_with_len 0 (length left_same)) number saved
rows_named row other same count left right left_same right_same l r number saved h =
    subst (λ k. AreRowsOf other count left_same k (range_with_len 0 (length left_same)) number saved) r
    (subst (λ k. AreRowsOf other count k right (range_with_len 0 (length k)) number saved) l
    (All-weaker (λ e. is_row_of count left right (range_with_len 0 (length left)) number e.cells (row e.part) ≡ true)
    (λ e. is_row_of count left right (range_with_len 0 (length left)) number e.cells (other e.part) ≡ true)
    (λ e is. subst (λ o. is_row_of count left right (range_with_len 0 (length left)) number e.cells o ≡ true) (same e.part) is) saved h))

-- an item of a list that has one
some_item : {X : Type 0} (xs : List X) → 1 ≤ length xs → X
some_item [] some = absurd (omega (arith, some))
some_item (x ∷ xs) some = x

-- operators side by side, of a node of the plan
module _ {O : Type 0} (standing : O → Standing) (sounding : O → List SavedEntry → ℕ → ℕ → Type 0) (resuming : O → List SavedEntry → ℕ → ℕ → Keeping)
    (saving : IsSaving standing sounding resuming) (row : ℕ → Option PartRow) (rows : (o : O) (part : ℕ) → row part ≡ row_in (standing o).node part)
    (w : Whole O) (in_step : AreInStep (map standing w.operators) w.left_key w.right_key)
    (capacity : ℕ) (left right : List CellKind) (n : Node) (x y : ℕ) (can : CanOperate capacity left right n (standing_in standing w) x y) where
  abbrev f : Standing
  f = first_of (map standing w.operators)

  abbrev many : ℕ
  many = length w.operators

  there : 1 ≤ many
  there = (let some = in_step.some in omega (arith, some, length-map w.operators standing))

  item : O
  item = some_item w.operators there

  can_first : CanOperate capacity left right n f x y
  can_first = record {
    node = can.node;
    named = can.named;
    works = in_step.works;
    left_closed = can.left_closed;
    right_closed = can.right_closed;
    left_kinds = can.left_kinds;
    right_kinds = can.right_kinds;
    own_kinds = can.own_kinds;
    batch_rows = can.batch_rows;
  }

  can_each : (s : ℕ) (d : O) → s < many → CanOperate capacity left right n (standing (get_or w.operators s d)) x y
  can_each s d low = subst (λ z. CanOperate capacity left right n z x y) (sym (stands_as standing w.operators f in_step.alike s d low)) can_first

  pub keyed_node : is_keyed n ≡ true
  keyed_node = sym (keyed_over n) ∙ ap is_keyed (sym can.named) ∙ in_step.keyed

  left_is : w.left_key ≡ left_key_of n
  left_is = in_step.left_key_is ∙ ap left_key_of can.named ∙ left_key_over n

  right_is : w.right_key ≡ right_key_of n
  right_is = in_step.right_key_is ∙ ap right_key_of can.named ∙ right_key_over n

  row_is : (part : ℕ) → row part ≡ row_in n part
  row_is part =
      rows (get_or w.operators 0 item) part ∙ ap (λ m. row_in m part) ((can_each 0 item there).named)
      ∙ ap (λ l. slice_get l part) (rows_over n)

  module _ (saved : List (List SavedEntry)) (u v : ℕ) where
    shards_saved : length saved ≡ many → AreSound sounding w saved u v → AreOwn row w saved → IsSavedOf many left right n saved u v
    shards_saved count sound own = record {
      many = count;
      sound = λ s e low. sound_out capacity left right n (standing (get_or w.operators s item)) x y (can_each s item low) (get_or saved s e) u v (saving.sound (get_or w.operators s item) (get_or saved s e) u v (sound s item e low));
      own = λ keyed s e low. rows_named row (row_in n) row_is many w.left_key w.right_key (left_key_of n) (right_key_of n) left_is right_is s (get_or saved s e) (own s e low);
    }

    sound_back : IsSavedOf many left right n saved u v → AreSound sounding w saved u v
    sound_back h s d e low = saving.sounds (get_or w.operators s d) (get_or saved s e) u v (sound_in capacity left right n (standing (get_or w.operators s d)) x y (can_each s d low) (get_or saved s e) u v (h.sound s e low))

    own_back : IsSavedOf many left right n saved u v → AreOwn row w saved
    own_back h s e low = rows_named (row_in n) row (λ part. sym (row_is part)) many (left_key_of n) (right_key_of n) w.left_key w.right_key (sym left_is) (sym right_is) s (get_or saved s e) (h.own keyed_node s e low)

    module _ (texts : List (List ℕ)) (hl hr out : List Edge) where
      shards_resumed : length saved ≡ many → ShardsResume standing resuming w saved u v texts hl hr out → IsResumedOf texts many left right n saved u v hl hr out
      shards_resumed count h = record {
        many = count;
        whole = λ no. absurd (let yes = keyed_node in cc);
        keyed = λ yes. record {
          left_history = h.left_history;
          right_history = h.right_history;
          left_placed = h.left_placed;
          right_placed = h.right_placed;
          outs = h.outs;
          shards = λ s e low.
              subst (λ k. IsKeptOf left right n (get_or saved s e) u v texts (edges_in_shard many (left_key_of n) s hl) (edges_in_shard many k s hr) (h.outs s)) right_is
              (subst (λ k. IsKeptOf left right n (get_or saved s e) u v texts (edges_in_shard many k s hl) (edges_in_shard many w.right_key s hr) (h.outs s)) left_is
              (resumes_out capacity left right n (standing (get_or w.operators s item)) x y (can_each s item low) (get_or saved s e) u v texts _ _ (h.outs s)
              (saving.resumed (get_or w.operators s item) (get_or saved s e) u v texts _ _ (h.outs s) (h.shards s item e low))));
          below = λ s low. subst (λ c. failing (is_below c) (h.outs s) ≡ 0) (can.node.closes u v) (h.below s low);
          order = h.order;
          same = h.same;
        };
      }

      resumed_back : IsResumedOf texts many left right n saved u v hl hr out → ShardsResume standing resuming w saved u v texts hl hr out
      resumed_back all =
          let h = all.keyed keyed_node in
          record {
            left_history = h.left_history;
            right_history = h.right_history;
            left_placed = h.left_placed;
            right_placed = h.right_placed;
            outs = h.outs;
            shards = λ s d e low.
                saving.resumes (get_or w.operators s d) (get_or saved s e) u v texts _ _ (h.outs s)
                (resumes_in capacity left right n (standing (get_or w.operators s d)) x y (can_each s d low) (get_or saved s e) u v texts _ _ (h.outs s)
                (subst (λ k. IsKeptOf left right n (get_or saved s e) u v texts (edges_in_shard many w.left_key s hl) (edges_in_shard many k s hr) (h.outs s)) (sym right_is)
                (subst (λ k. IsKeptOf left right n (get_or saved s e) u v texts (edges_in_shard many k s hl) (edges_in_shard many (right_key_of n) s hr) (h.outs s)) (sym left_is) (h.shards s e low))));
            below = λ s low. subst (λ c. failing (is_below c) (h.outs s) ≡ 0) (sym (can.node.closes u v)) (h.below s low);
            order = h.order;
            same = h.same;
          }

-- stages in shards
module _ {O : Type 0} (stage : Whole O → Stage) (standing : O → Standing) (keeping : O → Keeping) (is : IsVariant stage (standing_in standing) (ShardsKeep standing keeping))
    (sounding : O → List SavedEntry → ℕ → ℕ → Type 0) (resuming : O → List SavedEntry → ℕ → ℕ → Keeping)
    (row : ℕ → Option PartRow) (saves : SavesApart stage standing sounding resuming row) (s : Stage) (w : Whole O) (at : s ≡ stage w) where
  abbrev lc : ℕ
  lc = (standing_in standing w).left_closed

  abbrev rc : ℕ
  rc = (standing_in standing w).right_closed

  sharded_out : (saved : List (List SavedEntry)) → SavesShards standing keeping sounding resuming row w saved → Saves (stage w) saved
  sharded_out saved told texts capacity left right n x y ready =
      let can = is.can texts capacity left right n w x y ready in (
        subst (λ k. IsSavedOf k left right n saved x y) (sym (saves.lists w))
            (subst (λ v. IsSavedOf (length w.operators) left right n saved x v) can.right_closed
            (subst (λ u. IsSavedOf (length w.operators) left right n saved u rc) can.left_closed
            (shards_saved standing sounding resuming saves.saving row saves.rows w told.in_step capacity left right n x y can saved lc rc told.many told.are_sound told.are_own))),
        λ more hl hr out kept. subst (λ k. IsResumedOf more k left right n saved x y hl hr out) (sym (saves.lists w))
            (subst (λ v. IsResumedOf more (length w.operators) left right n saved x v hl hr out) can.right_closed
            (subst (λ u. IsResumedOf more (length w.operators) left right n saved u rc hl hr out) can.left_closed
            (shards_resumed standing sounding resuming saves.saving row saves.rows w told.in_step capacity left right n x y can saved lc rc more hl hr out told.many (told.resumed more hl hr out (is.kept more n w x y hl hr out kept))))),
      )

  pub sharded_saves : {S : Type 0} (r : Result (Vec (List SavedEntry) S) Memory) → IfOk r (λ saved. SavesShards standing keeping sounding resuming row w saved.items) → IfOk r (λ saved. Saves s saved.items)
  sharded_saves (Ok saved) told = subst (λ z. Saves z saved.items) (sym at) (sharded_out saved.items told)
  sharded_saves (Err e) told = tt

  stores_out : (saved : List (List SavedEntry)) → SavesShards standing keeping sounding resuming row w saved → StoresRows (stage w) saved
  stores_out saved told texts capacity left right n x y ready i d low =
      let can = is.can texts capacity left right n w x y ready in
      let within : i < length w.operators = (let m = told.many in omega (arith, low, m)) in
      let o = get_or w.operators i (some_item w.operators (omega (arith, within))) in
      stored_in row capacity left right n (standing o) x y (can_each standing sounding resuming saves.saving row saves.rows w told.in_step capacity left right n x y can i _ within) (saves.rows o) (get_or saved i d) (told.stored i _ d within)

  pub sharded_stores : {S : Type 0} (r : Result (Vec (List SavedEntry) S) Memory) → IfOk r (λ saved. SavesShards standing keeping sounding resuming row w saved.items) → IfOk r (λ saved. StoresRows s saved.items)
  sharded_stores (Ok saved) told = subst (λ z. StoresRows z saved.items) (sym at) (stores_out saved.items told)
  sharded_stores (Err e) told = tt

  module _ (new : Whole O) (saved : List (List SavedEntry)) (u v : ℕ) where
    sharded_in : LoadsShards standing keeping sounding resuming row w new saved u v → Loads (stage w) (stage new) saved u v
    sharded_in told texts capacity left right n x y ready =
        let can = is.can texts capacity left right n w x y ready in (
          is.ready texts capacity left right n new u v (told.stays.stays capacity left right n x y can),
          subst (λ k. IsSavedOf k left right n saved u v) (sym (saves.lists w))
              (shards_saved standing sounding resuming saves.saving row saves.rows w told.in_step capacity left right n x y can saved u v told.many told.are_sound told.are_own),
          λ more hl hr out h. is.keeps more n new u v hl hr out (told.resumed more hl hr out
              (resumed_back standing sounding resuming saves.saving row saves.rows w told.in_step capacity left right n x y can saved u v more hl hr out
              (subst (λ k. IsResumedOf more k left right n saved u v hl hr out) (saves.lists w) h))),
        )

    pub sharded_loads : {T : Type 0} (r : Result T LoadFault) → OnOk r (LoadsShards standing keeping sounding resuming row w new saved u v) → OnOk r (Loads s (stage new) saved u v)
    sharded_loads (Ok t) told = subst (λ z. Loads z (stage new) saved u v) (sym at) (sharded_in told)
    sharded_loads (Err e) told = tt

    no_shards : RefusesShards standing sounding row w saved u v → IsNoState (stage w) saved u v
    no_shards none texts capacity left right n x y ready all =
        let can = is.can texts capacity left right n w x y ready in
        let h = subst (λ k. IsSavedOf k left right n saved u v) (saves.lists w) all in
        none.refused h.many
        (sound_back standing sounding resuming saves.saving row saves.rows w none.in_step capacity left right n x y can saved u v h)
        (own_back standing sounding resuming saves.saving row saves.rows w none.in_step capacity left right n x y can saved u v h)

    pub sharded_refused : {T : Type 0} (r : Result T LoadFault) → IfErr r (λ fault. fault ≡ NotState → RefusesShards standing sounding row w saved u v) → IfErr r (λ fault. fault ≡ NotState → IsNoState s saved u v)
    sharded_refused (Ok t) none = tt
    sharded_refused (Err e) none = λ is_not. subst (λ z. IsNoState z saved u v) (sym at) (no_shards (none is_not))

-- a Source, a Where and a Select keep nothing
module _ (texts : List (List ℕ)) (capacity : ℕ) (kinds : List CellKind) (n : Node) (rows : RowStage) (is : IsStageOf texts capacity kinds n rows) where
  rows_plain : is_keyed n ≡ false
  rows_plain = by_node texts capacity kinds n rows is (λ m. is_keyed m ≡ false) (λ stream. refl) (λ of test. refl) (λ of items. refl)

  rows_made : (more : List (List ℕ)) (left right own : List CellKind) (x y : ℕ) (hl hr out : List Edge) → HasMade more n x hl out → NodeResumes more left right own (over_two n) [] x y hl hr out
  rows_made more left right own x y hl hr out = by_node texts capacity kinds n rows is (λ m. HasMade more m x hl out → NodeResumes more left right own (over_two m) [] x y hl hr out)
      (λ stream h. (refl, h)) (λ of test h. (refl, h)) (λ of items h. (refl, h))

  made_rows : (more : List (List ℕ)) (left right own : List CellKind) (x y : ℕ) (hl hr out : List Edge) → NodeResumes more left right own (over_two n) [] x y hl hr out → HasMade more n x hl out
  made_rows more left right own x y hl hr out = by_node texts capacity kinds n rows is (λ m. NodeResumes more left right own (over_two m) [] x y hl hr out → HasMade more m x hl out)
      (λ stream h. h.1) (λ of test h. h.1) (λ of items h. h.1)

none_saved : (left right : List CellKind) (n : Node) (x y : ℕ) → is_keyed n ≡ false → IsSavedOf 0 left right n [] x y
none_saved left right n x y plain = record { many = refl; sound = λ s e low. absurd (omega (arith, low)); own = λ keyed. absurd (cc) }

pub rows_save : (s : Stage) (rows : RowStage) → s ≡ Rows rows → Saves s []
rows_save s rows at = subst (λ z. Saves z []) (sym at)
    (λ texts capacity left right n x y ready.
    let plain = rows_plain texts capacity left n rows ready in (
      none_saved left right n x y plain,
      λ more hl hr out kept. record {
        many = refl;
        whole = λ no. rows_made texts capacity left n rows ready more left right (node_kinds n left right) x y hl hr out kept;
        keyed = λ keyed. absurd (cc);
      },
    ))

pub rows_stored : (s : Stage) → StoresRows s []
rows_stored s texts capacity left right n x y ready = All-nil (All (IsStoredIn (map (row_kinds left right n) (part_rows n))))

rows_load : (s : Stage) (rows : RowStage) → s ≡ Rows rows → (u v : ℕ) → Loads s s [] u v
rows_load s rows at u v = subst (λ z. Loads z z [] u v) (sym at)
    (λ texts capacity left right n x y ready.
    let plain = rows_plain texts capacity left n rows ready in (
      ready,
      none_saved left right n u v plain,
      λ more hl hr out h. made_rows texts capacity left n rows ready more left right (node_kinds n left right) u v hl hr out (h.whole plain),
    ))

no_items : {X : Type 0} (xs : List X) → length xs ≡ 0 → xs ≡ []
no_items [] none = refl
no_items (x ∷ xs) none = absurd (omega (arith, none))

rows_refuse : (s : Stage) (rows : RowStage) → s ≡ Rows rows → (saved : List (List SavedEntry)) → (saved ≡ [] → ⊥) → (u v : ℕ) → IsNoState s saved u v
rows_refuse s rows at saved some u v = subst (λ z. IsNoState z saved u v) (sym at) (λ texts capacity left right n x y ready h. some (no_items saved h.many))

pub rows_loaded : {T : Type 0} (s : Stage) (rows : RowStage) → s ≡ Rows rows → (saved : List (List SavedEntry)) (u v : ℕ) (r : Result T LoadFault) → OnOk r (saved ≡ []) → OnOk r (Loads s s saved u v)
rows_loaded s rows at saved u v (Ok t) none = subst (λ l. Loads s s l u v) (sym none) (rows_load s rows at u v)
rows_loaded s rows at saved u v (Err e) none = tt

pub rows_refused : {T : Type 0} (s : Stage) (rows : RowStage) → s ≡ Rows rows → (saved : List (List SavedEntry)) (u v : ℕ) (r : Result T LoadFault) → IfErr r (λ fault. saved ≡ [] → ⊥) → IfErr r (λ fault. fault ≡ NotState → IsNoState s saved u v)
rows_refused s rows at saved u v (Ok t) some = tt
rows_refused s rows at saved u v (Err e) some = λ is_not. rows_refuse s rows at saved some u v

-- a stage that took up entries runs the same node
pub runs_on : (s t u : Stage) → s ≡ t → ((n : Node) → is_variant_of t n ≡ is_variant_of u n) → shards_in t ≡ shards_in u → (workers : ℕ) (n : Node) → RunsNode workers n s → RunsNode workers n u
runs_on s t u at variant shards workers n runs = runs_same t u variant shards workers n (subst (RunsNode workers n) at runs)
