use Rattle.std.proofs.Common.{◌≡◌, ◌<◌, ◌≤◌, ◌∙◌, ◌++◌, ℕ, false, List, take, drop, map, length, get_or, ap, sym, subst, arith}
use Rattle.std.specs.Prelude.{All, OnOk, IfErr}
use Rattle.std.specs.List.{range_with_len}
use Rattle.std.proofs.lemmas.Result.{IfErr-weaker}
use Rattle.edge_stream.specs.declared.saved.SavedEntry.{SavedEntry}
use Rattle.edge_stream.specs.declared.saved.LoadFault.TheVariants.{NotState}
use Rattle.edge_stream.specs.Standing.{IsLike, Implies}
use Rattle.shard_apply.specs.Whole.{Whole, side_by_side, first_of, standing_in, AreInStep, ShardsKeep}
use Rattle.shard_apply.specs.Saving.{AreRowsOf, AreSound, AreOwn, ShardsResume}
use Rattle.shard_apply.proofs.Apart.{whole_goes_on, written_back}
use Rattle.shard_apply.proofs.Faults.{with_item}
use Rattle.shard_apply.proofs.Loads.{on_ok_with, on_ok_there, named, LoadedAll, refused_together, keeps_loaded, sound_loaded, own_loaded, first_loaded, like_together, in_step_loaded}
use Rattle.std.proofs.lemmas.List.{get_or-map, length-map}
use Rattle.shard_apply.specs.declared.shard.Shard.{Shard}
use Rattle.shard_apply.proofs.sharded.Sharded.load.Goals as goal

pub load_shards-loaded-requires-clause-opening : goal.load_shards-loaded-requires-clause-opening
load_shards-loaded-requires-clause-opening g c κs within k d low =
    let shards = c.self.inside.shards.items in
    let value = c.deref_mut.ensures.value in
    let here : k < length shards = omega (arith, low, ap length value) in
    let all = subst (λ w. All g.O.Operator.is_opening w.operators) (sym c.self.view_is) c.requires.opening.opening in
    subst (λ l. g.O.Operator.is_opening (get_or l k d).operator) (sym value)
    (subst g.O.Operator.is_opening (get_or-map (λ z. z.operator) shards k d d.operator here) (all k d.operator (omega (arith, here, length-map shards (λ z. z.operator)))))

pub returns-clause-resumed : goal.returns-clause-resumed
returns-clause-resumed g c =
    let o = g.O.Operator in
    let standing = o.standing in
    let inside = c.self.inside in
    let shards = inside.shards.items in
    let operator : Shard g.row.O.Denot → g.row.O.Denot = λ z. z.operator in
    let now = c.load_shards-loaded.new.shards in
    let saved = c.args.saved.now in
    let r = c.load_shards-loaded.result in
    let view = c.self.view_is in
    let value = c.deref_mut.ensures.value in
    let lk = inside.left_key.items in
    let rk = inside.right_key.items in
    let in_step : AreInStep (map standing (map operator shards)) lk rk =
    subst (λ w. AreInStep (map standing w.operators) w.left_key w.right_key) (sym view) c.requires.opening.in_step in
    let some : 1 ≤ length shards = omega (arith, in_step.some, length-map shards operator, length-map (map operator shards) standing) in
    let long : length now ≡ length shards = c.load_shards-loaded.auto.shards ∙ ap length value in
    let back = written_back inside.shards.len now (drop (length now) shards) (inside.shards.ok.0 ∙ sym long) in
    let like = subst (λ l. (i : ℕ) (d : Shard g.row.O.Denot) → i < length l → IsLike (standing (get_or l i d).operator) (standing (get_or now i d).operator)) value c.load_shards-loaded.ensures.like in
    let loaded = named (λ (l : List (Shard g.row.O.Denot)) (p q : List ℕ). OnOk r (LoadedAll standing o.keeps o.resumes o.sound o.row_of_part operator l now saved p q c.args.left_to c.args.right_to))
    c.deref_mut.result.now shards c.deref.result.now lk c.deref-2.result.now rk value c.deref.ensures.value c.deref-2.ensures.value c.load_shards-loaded.ensures.loaded in
    on_ok_with r loaded (λ fine all. with_item shards some (λ s.
    let written : Whole g.row.O.Denot = side_by_side (map operator (take inside.shards.len (now ++ drop (length now) shards))) lk rk c.is_err-self-inside.result in
    let new : side_by_side (map operator now) lk rk false ≡ written = λ j. side_by_side (map operator (sym back j)) lk rk ((sym fine ∙ sym c.is_err-self-inside.ensures.value) j) in
    subst (λ w. Implies (ShardsResume standing o.resumes w saved c.args.left_to c.args.right_to) (ShardsKeep standing o.keeps written)) view
    (subst (λ (w : Whole g.row.O.Denot). Implies (ShardsResume standing o.resumes (side_by_side (map operator shards) lk rk inside.failed) saved c.args.left_to c.args.right_to) (ShardsKeep standing o.keeps w))
    new (keeps_loaded standing o.keeps o.resumes o.sound o.row_of_part operator shards now saved lk rk c.args.left_to c.args.right_to in_step long like s all inside.failed))))

pub returns-clause-sound : goal.returns-clause-sound
returns-clause-sound g c =
    let o = g.O.Operator in
    let standing = o.standing in
    let inside = c.self.inside in
    let shards = inside.shards.items in
    let operator : Shard g.row.O.Denot → g.row.O.Denot = λ z. z.operator in
    let now = c.load_shards-loaded.new.shards in
    let saved = c.args.saved.now in
    let r = c.load_shards-loaded.result in
    let view = c.self.view_is in
    let value = c.deref_mut.ensures.value in
    let lk = inside.left_key.items in
    let rk = inside.right_key.items in
    let in_step : AreInStep (map standing (map operator shards)) lk rk =
    subst (λ w. AreInStep (map standing w.operators) w.left_key w.right_key) (sym view) c.requires.opening.in_step in
    let some : 1 ≤ length shards = omega (arith, in_step.some, length-map shards operator, length-map (map operator shards) standing) in
    let long : length now ≡ length shards = c.load_shards-loaded.auto.shards ∙ ap length value in
    let back = written_back inside.shards.len now (drop (length now) shards) (inside.shards.ok.0 ∙ sym long) in
    let like = subst (λ l. (i : ℕ) (d : Shard g.row.O.Denot) → i < length l → IsLike (standing (get_or l i d).operator) (standing (get_or now i d).operator)) value c.load_shards-loaded.ensures.like in
    let loaded = named (λ (l : List (Shard g.row.O.Denot)) (p q : List ℕ). OnOk r (LoadedAll standing o.keeps o.resumes o.sound o.row_of_part operator l now saved p q c.args.left_to c.args.right_to))
    c.deref_mut.result.now shards c.deref.result.now lk c.deref-2.result.now rk value c.deref.ensures.value c.deref-2.ensures.value c.load_shards-loaded.ensures.loaded in
    on_ok_with r loaded (λ fine all. with_item shards some (λ s.
    subst (λ w. AreSound o.sound w saved c.args.left_to c.args.right_to) view (sound_loaded standing o.keeps o.resumes o.sound o.row_of_part operator shards now saved lk rk c.args.left_to c.args.right_to in_step long like s all inside.failed)))

pub returns-clause-own : goal.returns-clause-own
returns-clause-own g c =
    let o = g.O.Operator in
    let standing = o.standing in
    let inside = c.self.inside in
    let shards = inside.shards.items in
    let operator : Shard g.row.O.Denot → g.row.O.Denot = λ z. z.operator in
    let now = c.load_shards-loaded.new.shards in
    let saved = c.args.saved.now in
    let r = c.load_shards-loaded.result in
    let view = c.self.view_is in
    let value = c.deref_mut.ensures.value in
    let lk = inside.left_key.items in
    let rk = inside.right_key.items in
    let in_step : AreInStep (map standing (map operator shards)) lk rk =
    subst (λ w. AreInStep (map standing w.operators) w.left_key w.right_key) (sym view) c.requires.opening.in_step in
    let some : 1 ≤ length shards = omega (arith, in_step.some, length-map shards operator, length-map (map operator shards) standing) in
    let long : length now ≡ length shards = c.load_shards-loaded.auto.shards ∙ ap length value in
    let back = written_back inside.shards.len now (drop (length now) shards) (inside.shards.ok.0 ∙ sym long) in
    let like = subst (λ l. (i : ℕ) (d : Shard g.row.O.Denot) → i < length l → IsLike (standing (get_or l i d).operator) (standing (get_or now i d).operator)) value c.load_shards-loaded.ensures.like in
    let loaded = named (λ (l : List (Shard g.row.O.Denot)) (p q : List ℕ). OnOk r (LoadedAll standing o.keeps o.resumes o.sound o.row_of_part operator l now saved p q c.args.left_to c.args.right_to))
    c.deref_mut.result.now shards c.deref.result.now lk c.deref-2.result.now rk value c.deref.ensures.value c.deref-2.ensures.value c.load_shards-loaded.ensures.loaded in
    on_ok_with r loaded (λ fine all. with_item shards some (λ s.
    subst (λ w. AreOwn o.row_of_part w saved) view (own_loaded standing o.keeps o.resumes o.sound o.row_of_part operator shards now saved lk rk c.args.left_to c.args.right_to in_step long like s all inside.failed)))

pub returns-clause-refused : goal.returns-clause-refused
returns-clause-refused g c =
    let o = g.O.Operator in
    let inside = c.self.inside in
    let shards = inside.shards.items in
    let operator : Shard g.row.O.Denot → g.row.O.Denot = λ z. z.operator in
    let saved = c.args.saved.now in
    let r = c.load_shards-loaded.result in
    let lk = inside.left_key.items in
    let rk = inside.right_key.items in
    let refused = named (λ (l : List (Shard g.row.O.Denot)) (p q : List ℕ). IfErr r (λ fault. fault ≡ NotState →
    ((i : ℕ) (d : Shard g.row.O.Denot) (e : List SavedEntry) → i < length l → o.sound (get_or l i d).operator (get_or saved i e) c.args.left_to c.args.right_to) →
    ((i : ℕ) (e : List SavedEntry) → i < length l → AreRowsOf o.row_of_part (length l) p q (range_with_len 0 (length p)) i (get_or saved i e)) → ⊥))
    c.deref_mut.result.now shards c.deref.result.now lk c.deref-2.result.now rk c.deref_mut.ensures.value c.deref.ensures.value c.deref-2.ensures.value c.load_shards-loaded.ensures.refused in
    subst (λ (w : Whole g.row.O.Denot). IfErr r (λ fault. fault ≡ NotState → AreSound o.sound w saved c.args.left_to c.args.right_to → AreOwn o.row_of_part w saved → ⊥)) c.self.view_is
    (IfErr-weaker r _ _ (λ fault h is. refused_together o.sound o.row_of_part operator shards saved lk rk inside.failed c.args.left_to c.args.right_to (h is)) refused)

pub returns-clause-left_to : goal.returns-clause-left_to
returns-clause-left_to g c =
    let o = g.O.Operator in
    let standing = o.standing in
    let inside = c.self.inside in
    let shards = inside.shards.items in
    let operator : Shard g.row.O.Denot → g.row.O.Denot = λ z. z.operator in
    let now = c.load_shards-loaded.new.shards in
    let saved = c.args.saved.now in
    let r = c.load_shards-loaded.result in
    let view = c.self.view_is in
    let value = c.deref_mut.ensures.value in
    let lk = inside.left_key.items in
    let rk = inside.right_key.items in
    let in_step : AreInStep (map standing (map operator shards)) lk rk =
    subst (λ w. AreInStep (map standing w.operators) w.left_key w.right_key) (sym view) c.requires.opening.in_step in
    let some : 1 ≤ length shards = omega (arith, in_step.some, length-map shards operator, length-map (map operator shards) standing) in
    let long : length now ≡ length shards = c.load_shards-loaded.auto.shards ∙ ap length value in
    let back = written_back inside.shards.len now (drop (length now) shards) (inside.shards.ok.0 ∙ sym long) in
    let like = subst (λ l. (i : ℕ) (d : Shard g.row.O.Denot) → i < length l → IsLike (standing (get_or l i d).operator) (standing (get_or now i d).operator)) value c.load_shards-loaded.ensures.like in
    let loaded = named (λ (l : List (Shard g.row.O.Denot)) (p q : List ℕ). OnOk r (LoadedAll standing o.keeps o.resumes o.sound o.row_of_part operator l now saved p q c.args.left_to c.args.right_to))
    c.deref_mut.result.now shards c.deref.result.now lk c.deref-2.result.now rk value c.deref.ensures.value c.deref-2.ensures.value c.load_shards-loaded.ensures.loaded in
    on_ok_with r loaded (λ fine all. with_item shards some (λ s.
    ap (λ l. (first_of (map standing (map operator l))).left_closed) back ∙ ap (λ z. z.left_closed) (first_loaded standing o.keeps o.resumes o.sound o.row_of_part operator shards now saved lk rk c.args.left_to c.args.right_to in_step long like s all)))

pub returns-clause-right_to : goal.returns-clause-right_to
returns-clause-right_to g c =
    let o = g.O.Operator in
    let standing = o.standing in
    let inside = c.self.inside in
    let shards = inside.shards.items in
    let operator : Shard g.row.O.Denot → g.row.O.Denot = λ z. z.operator in
    let now = c.load_shards-loaded.new.shards in
    let saved = c.args.saved.now in
    let r = c.load_shards-loaded.result in
    let view = c.self.view_is in
    let value = c.deref_mut.ensures.value in
    let lk = inside.left_key.items in
    let rk = inside.right_key.items in
    let in_step : AreInStep (map standing (map operator shards)) lk rk =
    subst (λ w. AreInStep (map standing w.operators) w.left_key w.right_key) (sym view) c.requires.opening.in_step in
    let some : 1 ≤ length shards = omega (arith, in_step.some, length-map shards operator, length-map (map operator shards) standing) in
    let long : length now ≡ length shards = c.load_shards-loaded.auto.shards ∙ ap length value in
    let back = written_back inside.shards.len now (drop (length now) shards) (inside.shards.ok.0 ∙ sym long) in
    let like = subst (λ l. (i : ℕ) (d : Shard g.row.O.Denot) → i < length l → IsLike (standing (get_or l i d).operator) (standing (get_or now i d).operator)) value c.load_shards-loaded.ensures.like in
    let loaded = named (λ (l : List (Shard g.row.O.Denot)) (p q : List ℕ). OnOk r (LoadedAll standing o.keeps o.resumes o.sound o.row_of_part operator l now saved p q c.args.left_to c.args.right_to))
    c.deref_mut.result.now shards c.deref.result.now lk c.deref-2.result.now rk value c.deref.ensures.value c.deref-2.ensures.value c.load_shards-loaded.ensures.loaded in
    on_ok_with r loaded (λ fine all. with_item shards some (λ s.
    ap (λ l. (first_of (map standing (map operator l))).right_closed) back ∙ ap (λ z. z.right_closed) (first_loaded standing o.keeps o.resumes o.sound o.row_of_part operator shards now saved lk rk c.args.left_to c.args.right_to in_step long like s all)))

pub returns-clause-like : goal.returns-clause-like
returns-clause-like g c =
    let o = g.O.Operator in
    let standing = o.standing in
    let inside = c.self.inside in
    let shards = inside.shards.items in
    let operator : Shard g.row.O.Denot → g.row.O.Denot = λ z. z.operator in
    let now = c.load_shards-loaded.new.shards in
    let saved = c.args.saved.now in
    let r = c.load_shards-loaded.result in
    let view = c.self.view_is in
    let value = c.deref_mut.ensures.value in
    let lk = inside.left_key.items in
    let rk = inside.right_key.items in
    let in_step : AreInStep (map standing (map operator shards)) lk rk =
    subst (λ w. AreInStep (map standing w.operators) w.left_key w.right_key) (sym view) c.requires.opening.in_step in
    let some : 1 ≤ length shards = omega (arith, in_step.some, length-map shards operator, length-map (map operator shards) standing) in
    let long : length now ≡ length shards = c.load_shards-loaded.auto.shards ∙ ap length value in
    let back = written_back inside.shards.len now (drop (length now) shards) (inside.shards.ok.0 ∙ sym long) in
    let like = subst (λ l. (i : ℕ) (d : Shard g.row.O.Denot) → i < length l → IsLike (standing (get_or l i d).operator) (standing (get_or now i d).operator)) value c.load_shards-loaded.ensures.like in
    with_item shards some (λ s.
    subst (λ w. IsLike (standing_in standing w) (standing_in standing (side_by_side (map operator (take inside.shards.len (now ++ drop (length now) shards))) lk rk c.is_err-self-inside.result))) view
    (subst (λ (l : List (Shard g.row.O.Denot)). IsLike (standing_in standing (side_by_side (map operator shards) lk rk inside.failed))
    (standing_in standing (side_by_side (map operator l) lk rk c.is_err-self-inside.result))) (sym back)
    (like_together standing o.keeps o.resumes o.sound o.row_of_part operator shards now saved lk rk c.args.left_to c.args.right_to in_step long like s inside.failed c.is_err-self-inside.result)))

pub invariant_of-self : goal.invariant_of-self
invariant_of-self g c =
    let o = g.O.Operator in
    let standing = o.standing in
    let inside = c.self.inside in
    let shards = inside.shards.items in
    let operator : Shard g.row.O.Denot → g.row.O.Denot = λ z. z.operator in
    let now = c.load_shards-loaded.new.shards in
    let saved = c.args.saved.now in
    let r = c.load_shards-loaded.result in
    let view = c.self.view_is in
    let value = c.deref_mut.ensures.value in
    let lk = inside.left_key.items in
    let rk = inside.right_key.items in
    let in_step : AreInStep (map standing (map operator shards)) lk rk =
    subst (λ w. AreInStep (map standing w.operators) w.left_key w.right_key) (sym view) c.requires.opening.in_step in
    let some : 1 ≤ length shards = omega (arith, in_step.some, length-map shards operator, length-map (map operator shards) standing) in
    let long : length now ≡ length shards = c.load_shards-loaded.auto.shards ∙ ap length value in
    let back = written_back inside.shards.len now (drop (length now) shards) (inside.shards.ok.0 ∙ sym long) in
    let like = subst (λ l. (i : ℕ) (d : Shard g.row.O.Denot) → i < length l → IsLike (standing (get_or l i d).operator) (standing (get_or now i d).operator)) value c.load_shards-loaded.ensures.like in
    let loaded = named (λ (l : List (Shard g.row.O.Denot)) (p q : List ℕ). OnOk r (LoadedAll standing o.keeps o.resumes o.sound o.row_of_part operator l now saved p q c.args.left_to c.args.right_to))
    c.deref_mut.result.now shards c.deref.result.now lk c.deref-2.result.now rk value c.deref.ensures.value c.deref-2.ensures.value c.load_shards-loaded.ensures.loaded in
    let works = ap (λ w. w.failed) view ∙ c.requires.opening.works in
    with_item shards some (λ s.
    whole_goes_on standing (map operator shards) _ (map (λ z. z.pools.capacity) shards) _ lk rk inside.failed c.is_err-self-inside.result c.self.invariant works
    (length-map _ operator ∙ ap length back ∙ long ∙ sym (length-map shards operator))
    (ap (map (λ z. z.pools.capacity)) back ∙ c.load_shards-loaded.ensures.capacities ∙ ap (map (λ z. z.pools.capacity)) value)
    (λ fine. subst (λ (l : List (Shard g.row.O.Denot)). AreInStep (map standing (map operator l)) lk rk) (sym back)
    (in_step_loaded standing o.keeps o.resumes o.sound o.row_of_part operator shards now saved lk rk c.args.left_to c.args.right_to in_step long like s (on_ok_there r loaded (sym c.is_err-self-inside.ensures.value ∙ fine))))
    (ap (λ l. (first_of (map standing (map operator l))).batch_rows) back ∙ (like_together standing o.keeps o.resumes o.sound o.row_of_part operator shards now saved lk rk c.args.left_to c.args.right_to in_step long like s inside.failed false).batch_rows))
