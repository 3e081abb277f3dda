use Rattle.std.specs.Prelude.{◌≡◌, ℕ, ◌<◌, ◌≤◌, length, get_or, All, Vec, List}
use Rattle.std.proofs.Common.{refl, ap, sym, subst, ◌∙◌, arith}
use Rattle.std.proofs.lemmas.List.{length-map}
use Rattle.std.proofs.lemmas.List.Elements.{All-weaker}
use Rattle.std.proofs.lemmas.Result.{err_from_is_err_and}
use Rattle.tw_rows.specs.declared.kind.Kind.{Kind}
use Rattle.edge_stream.specs.declared.saved.SavedEntry.{SavedEntry}
use Rattle.ingress.specs.OpenKeys.{starts_in}
use Rattle.ingress.specs.Admits.{cells_of}
use Rattle.ingress.specs.Saving.{stream_of, IsSoundEntry}
use Rattle.ingress.specs.Loaded.{Loads, LoadsAll, cells_of_kinds}
use Rattle.ingress.specs.declared.held_streams.HeldStreams.{HeldStreams}
use Rattle.ingress.proofs.FirstShape.{all_narrow}
use Rattle.ingress.proofs.Timed.{end_within}
use Rattle.ingress.proofs.LoadedAll.{loaded_admits, loaded_above, loaded_shape, state_of, marks_of, kinds_long}
use Rattle.ingress.proofs.ingress.Ingress.load.Goals as goal

module _ {S : Type 0} (kinds ks : List (Vec Kind S)) (same : ks ≡ kinds) (saved es : List SavedEntry) (is : es ≡ saved) (last : ℕ) where
  -- the entries, as they were tested and as they are saved
  each_saved : All (IsSoundEntry (cells_of_kinds ks) last) es → All (IsSoundEntry (cells_of_kinds kinds) last) saved
  each_saved all = subst (λ x. All (IsSoundEntry (cells_of_kinds x) last) saved) same (subst (All (IsSoundEntry (cells_of_kinds ks) last)) is all)

  each_tested : All (IsSoundEntry (cells_of_kinds kinds) last) saved → All (IsSoundEntry (cells_of_kinds ks) last) es
  each_tested all = subst (λ x. All (IsSoundEntry (cells_of_kinds x) last) es) (sym same) (subst (All (IsSoundEntry (cells_of_kinds kinds) last)) (sym is) all)

  -- so each is of a stream
  each_declared : All (IsSoundEntry (cells_of_kinds ks) last) es → (n : ℕ) → n ≡ length kinds → All (λ e. stream_of e < n) es
  each_declared all n long = All-weaker (IsSoundEntry (cells_of_kinds ks) last) (λ e. stream_of e < n) (λ e h. let d = h.declared in omega (arith, d, long, kinds_long ks, ap_length)) es all
    where
      ap_length : length ks ≡ length kinds
      ap_length = subst (λ x. length ks ≡ length x) same refl

  loaded : (n : ℕ) → n ≡ length kinds → (h : HeldStreams) → LoadsAll n es es h → All (IsSoundEntry (cells_of_kinds kinds) last) saved → Loads (cells_of_kinds kinds) last saved h.waiting.items (starts_in h.opens.starts)
  loaded n long h loads all =
      subst (λ x. Loads (cells_of_kinds kinds) last x h.waiting.items (starts_in h.opens.starts)) is
      (loads (cells_of_kinds kinds) last (kinds_long kinds ∙ sym long) (subst (All (IsSoundEntry (cells_of_kinds kinds) last)) (sym is) all))

pub load_entries-requires-clause-streams : goal.load_entries-requires-clause-streams
load_entries-requires-clause-streams c =
    each_declared c.args.self.now.kinds.items c.deref.result.now c.deref.ensures.value c.args.saved.now c.entries-entries.result.now c.entries-entries.ensures c.args.last
    (c.are_sound_entries.ensures.0 c.if-not-are_sound_entries.false) (length c.deref-2.result.now) (ap length c.deref-2.ensures.value)

pub load_entries-requires-clause-width : goal.load_entries-requires-clause-width
load_entries-requires-clause-width c =
    subst (λ ks. All (λ k. length k.items ≤ 32) ks) (sym c.deref-2.ensures.value) (all_narrow c.args.self.now.kinds.items c.args.self.now.shape.width)

pub invariant_of-self : goal.invariant_of-self
invariant_of-self c =
    let i = c.args.self.now in
    let long : length c.args.bounds.now ≡ length (cells_of i) = c.requires.bounds ∙ sym (kinds_long i.kinds.items) in
    let marks = c.are_sound_marks.ensures.0 c.if-not-are_sound_marks.false in
    let each = each_saved i.kinds.items c.deref.result.now c.deref.ensures.value c.args.saved.now c.entries-entries.result.now c.entries-entries.ensures c.args.last (c.are_sound_entries.ensures.0 c.if-not-are_sound_entries.false) in
    let state = state_of (cells_of i) c.args.saved.now c.args.bounds.now c.args.marks.now c.args.last long marks.0 marks.1 each in
    let l : Loads (cells_of i) c.args.last c.args.saved.now c.in_ok-held.held.waiting.items (starts_in c.in_ok-held.held.opens.starts) =
    loaded i.kinds.items c.deref.result.now c.deref.ensures.value c.args.saved.now c.entries-entries.result.now c.entries-entries.ensures c.args.last (length c.deref-2.result.now) (ap length c.deref-2.ensures.value) c.in_ok-held.held c.in_ok-held.ensures each in
    let n = kinds_long i.kinds.items in
    let n2 = length-map i.kinds.items (λ k. k.items) in
    let b = c.requires.bounds in
    let w = c.in_ok-watermarks.ensures.len in
    let held = l.long in
    record {
      shape = loaded_shape _ i.capacity _ _ i.held.waiting.items c.in_ok-held.held.waiting.items i.shape (omega (arith, w, b, n2)) (omega (arith, held, n, n2)) l.fit;
      above = loaded_above (length c.args.bounds.now) c.in_ok-watermarks.watermarks.streams.items (λ s. get_or c.args.bounds.now s 0) (λ s. get_or c.args.marks.now s 0) w
          c.in_ok-watermarks.ensures.bounds c.in_ok-watermarks.ensures.marks (λ s less. (marks.1 s less).3);
    }

pub returns-then-not-are_sound_marks-clause-state : goal.returns-then-not-are_sound_marks-clause-state
returns-then-not-are_sound_marks-clause-state c =
    let i = c.args.self.now in
    let long : length c.args.bounds.now ≡ length (cells_of i) = c.requires.bounds ∙ sym (kinds_long i.kinds.items) in (
      λ is state.
          let t = c.are_sound_marks.ensures.1 (marks_of (cells_of i) c.args.saved.now c.args.bounds.now c.args.marks.now c.args.last long state) in
          let f = c.if-not-are_sound_marks.true in
          absurd (cc),
      λ no. refl,
    )

pub returns-then-not-are_sound_entries-clause-state : goal.returns-then-not-are_sound_entries-clause-state
returns-then-not-are_sound_entries-clause-state c = (
  λ is state.
      let i = c.args.self.now in
      let t = c.are_sound_entries.ensures.1 (each_tested i.kinds.items c.deref.result.now c.deref.ensures.value c.args.saved.now c.entries-entries.result.now c.entries-entries.ensures c.args.last state.each) in
      let f = c.if-not-are_sound_entries.true in
      absurd (cc),
  λ no. refl,
)

pub returns-in_err-watermarks-clause-state : goal.returns-in_err-watermarks-clause-state
returns-in_err-watermarks-clause-state c =
    let i = c.args.self.now in
    let long : length c.args.bounds.now ≡ length (cells_of i) = c.requires.bounds ∙ sym (kinds_long i.kinds.items) in
    let marks = c.are_sound_marks.ensures.0 c.if-not-are_sound_marks.false in
    let each = each_saved i.kinds.items c.deref.result.now c.deref.ensures.value c.args.saved.now c.entries-entries.result.now c.entries-entries.ensures c.args.last (c.are_sound_entries.ensures.0 c.if-not-are_sound_entries.false) in
    let state = state_of (cells_of i) c.args.saved.now c.args.bounds.now c.args.marks.now c.args.last long marks.0 marks.1 each in
    let p = err_from_is_err_and c.from_residual.result c.from_residual.ensures.1 in
    (λ e. let a = p.1 in let b = p.2 in absurd (cc), λ no. absurd (no state))

pub returns-in_err-held-clause-state : goal.returns-in_err-held-clause-state
returns-in_err-held-clause-state c =
    let i = c.args.self.now in
    let long : length c.args.bounds.now ≡ length (cells_of i) = c.requires.bounds ∙ sym (kinds_long i.kinds.items) in
    let marks = c.are_sound_marks.ensures.0 c.if-not-are_sound_marks.false in
    let each = each_saved i.kinds.items c.deref.result.now c.deref.ensures.value c.args.saved.now c.entries-entries.result.now c.entries-entries.ensures c.args.last (c.are_sound_entries.ensures.0 c.if-not-are_sound_entries.false) in
    let state = state_of (cells_of i) c.args.saved.now c.args.bounds.now c.args.marks.now c.args.last long marks.0 marks.1 each in
    let p = err_from_is_err_and c.from_residual-in_err-held.result c.from_residual-in_err-held.ensures.1 in
    (λ e. let a = p.1 in let b = p.2 in absurd (cc), λ no. absurd (no state))

pub returns-clause-state : goal.returns-clause-state
returns-clause-state c =
    let i = c.args.self.now in
    let long : length c.args.bounds.now ≡ length (cells_of i) = c.requires.bounds ∙ sym (kinds_long i.kinds.items) in
    let marks = c.are_sound_marks.ensures.0 c.if-not-are_sound_marks.false in
    let each = each_saved i.kinds.items c.deref.result.now c.deref.ensures.value c.args.saved.now c.entries-entries.result.now c.entries-entries.ensures c.args.last (c.are_sound_entries.ensures.0 c.if-not-are_sound_entries.false) in
    let state = state_of (cells_of i) c.args.saved.now c.args.bounds.now c.args.marks.now c.args.last long marks.0 marks.1 each in
    (λ e. absurd (cc), λ no. absurd (no state))

pub returns-clause-admits : goal.returns-clause-admits
returns-clause-admits c = λ texts a given r.
    let i = c.args.self.now in
    let long : length c.args.bounds.now ≡ length (cells_of i) = c.requires.bounds ∙ sym (kinds_long i.kinds.items) in
    let marks = c.are_sound_marks.ensures.0 c.if-not-are_sound_marks.false in
    let each = each_saved i.kinds.items c.deref.result.now c.deref.ensures.value c.args.saved.now c.entries-entries.result.now c.entries-entries.ensures c.args.last (c.are_sound_entries.ensures.0 c.if-not-are_sound_entries.false) in
    let state = state_of (cells_of i) c.args.saved.now c.args.bounds.now c.args.marks.now c.args.last long marks.0 marks.1 each in
    let l : Loads (cells_of i) c.args.last c.args.saved.now c.in_ok-held.held.waiting.items (starts_in c.in_ok-held.held.opens.starts) =
    loaded i.kinds.items c.deref.result.now c.deref.ensures.value c.args.saved.now c.entries-entries.result.now c.entries-entries.ensures c.args.last (length c.deref-2.result.now) (ap length c.deref-2.ensures.value) c.in_ok-held.held c.in_ok-held.ensures each in
    let b = c.requires.bounds in
    loaded_admits i c.args.saved.now (λ s. get_or c.args.bounds.now s 0) (λ s. get_or c.args.marks.now s 0) c.args.last texts a given r _ refl refl (end_within c.args.last marks.0) l
    (λ s less. c.in_ok-watermarks.ensures.bounds s (omega (arith, less, b))) (λ s less. c.in_ok-watermarks.ensures.marks s (omega (arith, less, b))) (λ s less. (marks.1 s (omega (arith, less, b))).2)

pub returns-clause-sound : goal.returns-clause-sound
returns-clause-sound c =
    let i = c.args.self.now in
    let long : length c.args.bounds.now ≡ length (cells_of i) = c.requires.bounds ∙ sym (kinds_long i.kinds.items) in
    let marks = c.are_sound_marks.ensures.0 c.if-not-are_sound_marks.false in
    let each = each_saved i.kinds.items c.deref.result.now c.deref.ensures.value c.args.saved.now c.entries-entries.result.now c.entries-entries.ensures c.args.last (c.are_sound_entries.ensures.0 c.if-not-are_sound_entries.false) in
    let state = state_of (cells_of i) c.args.saved.now c.args.bounds.now c.args.marks.now c.args.last long marks.0 marks.1 each in
    state
