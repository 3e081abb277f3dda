-- What is left to be written.
use Rattle.std.proofs.Common.{◌≡◌, ◌<◌, ◌≤◌, ◌+◌, ℕ, zero, suc, List, [], ◌∷◌, ◌++◌, length, map, drop, get_or, Some, slice_get, refl, sym, ◌∙◌, ap, arith, append_assoc, subst}
use Rattle.std.specs.Prelude.{Vec, vec_len, vec_capacity}
use Rattle.std.proofs.lemmas.List.{drop_more, length-append}
use Rattle.std.proofs.lemmas.Option.{slice_get_read}
use Rattle.edge_stream.specs.declared.saved.SavedEntry.{SavedEntry}
use Rattle.frozen_state.specs.declared.frozen.FrozenPart.{FrozenPart}
use Rattle.frozen_state.specs.Frozen.{FrozenView}
use Rattle.checkpoint.specs.Lines.{end_line, time_line, text_line, entry_line}
use Rattle.checkpoint.specs.declared.writing.Place.TheVariants.{Head, Entries}
use Rattle.checkpoint.specs.Form.{FormView}
use Rattle.checkpoint.specs.Text.{bound_lines, entry_lines, checkpoint_lines}
use Rattle.checkpoint.specs.Writing.{entries_left, ends_left, lines_left, bytes_of, Appends, IsPast, LacksRoomFor, LacksRoomToFeed}

pub dropped_all : {X : Type 0} (xs : List X) (n : ℕ) → length xs ≤ n → drop n xs ≡ []
dropped_all [] zero low = refl
dropped_all [] (suc n) low = refl
dropped_all (x ∷ xs) zero low = absurd (omega (arith, low))
dropped_all (x ∷ xs) (suc n) low = dropped_all xs n (omega (arith, low))

pub dropped_more : {X : Type 0} (xs : List X) (n : ℕ) (x : X) → slice_get xs n ≡ Some x → drop n xs ≡ x ∷ drop (n + 1) xs
dropped_more [] n x h = absurd (cc)
dropped_more (y ∷ xs) zero x h = let e : y ≡ x = cc in ap (λ z. z ∷ xs) e
dropped_more {X = X} (y ∷ xs) (suc n) x h = let e : suc (n + 1) ≡ suc n + 1 = omega arith in dropped_more xs n x h ∙ ap (λ (k : ℕ). x ∷ drop k (y ∷ xs)) e

pub entries_start : (ps : List FrozenPart) → entries_left ps 0 ≡ entry_lines ps
entries_start [] = refl
entries_start (p ∷ ps) = refl

-- all entries of a part were written
pub past_part : (ps : List FrozenPart) (i : ℕ) (p : FrozenPart) (from : ℕ) → i < length ps → p ≡ get_or ps i p → length p.saved ≤ from →
    entries_left (drop i ps) from ≡ entries_left (drop (i + 1) ps) 0
past_part ps i p from low is long =
    let there : drop i ps ≡ p ∷ drop (i + 1) ps = drop_more ps i p low ∙ ap (λ (q : FrozenPart). q ∷ drop (i + 1) ps) (sym is) in
    ap (λ (l : List FrozenPart). entries_left l from) there
    ∙ ap (λ (l : List SavedEntry). map (entry_line p.owner p.shard) l ++ entry_lines (drop (i + 1) ps)) (dropped_all p.saved from long)
    ∙ sym (entries_start (drop (i + 1) ps))

-- and of these the next one is written
pub next_of_part : (ps : List FrozenPart) (i : ℕ) (p : FrozenPart) (n : ℕ) (e : SavedEntry) → slice_get ps i ≡ Some p → slice_get p.saved n ≡ Some e →
    entries_left (drop i ps) n ≡ entry_line p.owner p.shard e ∷ entries_left (drop i ps) (n + 1)
next_of_part ps i p n e at is =
    let there = dropped_more ps i p at in
    ap (λ (l : List FrozenPart). entries_left l n) there
    ∙ ap (λ (l : List SavedEntry). map (entry_line p.owner p.shard) l ++ entry_lines (drop (i + 1) ps)) (dropped_more p.saved n e is)
    ∙ ap (λ (l : List FrozenPart). entry_line p.owner p.shard e ∷ entries_left l (n + 1)) (sym there)

-- of the entries behind a place, the next one is this of that part, and then those behind it
pub entry_is_next : (fs ps : List FrozenPart) (part entry n k : ℕ) (p : FrozenPart) (es : List SavedEntry) (e : SavedEntry) → ps ≡ fs → es ≡ p.saved → n < length ps → p ≡ get_or ps n p →
    ((q : FrozenPart) → slice_get ps n ≡ Some q → k < length q.saved) → e ≡ get_or es k e → entries_left (drop part ps) entry ≡ entries_left (drop n ps) k →
    entries_left (drop part fs) entry ++ end_line ∷ [] ≡ entry_line p.owner p.shard e ∷ (entries_left (drop n fs) (k + 1) ++ end_line ∷ [])
entry_is_next fs ps part entry n k p es e same saved low is within there left =
    let at : slice_get ps n ≡ Some p = slice_get_read ps _ n p refl low is in
    let e_low : k < length es = omega (arith, within p at, ap length saved) in
    let e_at : slice_get p.saved k ≡ Some e = subst (λ (l : List SavedEntry). slice_get l k ≡ Some e) saved (slice_get_read es _ k e refl e_low there) in
    ap (λ (l : List (List ℕ)). l ++ end_line ∷ [])
    (subst (λ (l : List FrozenPart). entries_left (drop part l) entry ≡ entry_line p.owner p.shard e ∷ entries_left (drop n l) (k + 1)) same (left ∙ next_of_part ps n p k e at e_at))

pub bounds_end : (bs ms : List ℕ) (n : ℕ) → length ms ≤ n → bound_lines (drop n bs) (drop n ms) ≡ []
bounds_end bs ms n low = ap (bound_lines (drop n bs)) (dropped_all ms n low) ∙ none (drop n bs)
  where
    none : (xs : List ℕ) → bound_lines xs [] ≡ []
    none [] = refl
    none (x ∷ xs) = refl

-- from the first place on all is left
pub whole_left : (form : FormView) (f : FrozenView) → lines_left form f (Head 0) ≡ checkpoint_lines form.head f
whole_left form f =
    let time = time_line f.lines f.last in
    let bs = bound_lines f.bounds f.marks in
    let ts = map text_line f.texts in
    let es = entry_lines f.parts in
    let last = end_line ∷ [] in
    ap (λ (l : List (List ℕ)). form.head ++ time ∷ (bs ++ l)) (sym (append_assoc ts es last))
    ∙ ap (λ (l : List (List ℕ)). form.head ++ time ∷ l) (sym (append_assoc bs (ts ++ es) last))
    ∙ sym (append_assoc form.head (time ∷ (bs ++ (ts ++ es))) last)

-- a line with its line feed
pub fed : (left rest : List (List ℕ)) (old mid new : List ℕ) → Appends left rest old mid → new ≡ mid ++ 10 ∷ [] →
    (line : List ℕ) × ((left ≡ line ∷ rest) × (new ≡ old ++ (line ++ 10 ∷ [])))
fed left rest old mid new a e = (a.line, (a.next, e ∙ ap (λ (l : List ℕ). l ++ 10 ∷ []) a.bytes ∙ append_assoc old a.line (10 ∷ [])))

pub bytes_more : (left rest : List (List ℕ)) (old new line : List ℕ) → left ≡ line ∷ rest → new ≡ old ++ (line ++ 10 ∷ []) → new ++ bytes_of rest ≡ old ++ bytes_of left
bytes_more left rest old new line a b =
    ap (λ (l : List ℕ). l ++ bytes_of rest) b ∙ append_assoc old (line ++ 10 ∷ []) (bytes_of rest) ∙ ap (λ (l : List (List ℕ)). old ++ bytes_of l) (sym a)

-- where the buffer has no room for a line, it has none for it and a line feed
pub lacks_feed : {Z : Type 0} (left : List (List ℕ)) (v : Vec ℕ Z) → LacksRoomFor left v → LacksRoomToFeed left v
lacks_feed left v l = record { line = l.line; rest = l.rest; next = l.next; lacks = omega (arith, l.lacks, length-append l.line (10 ∷ [])) }

-- nor where there is none for the line feed alone
pub lacks_last : {Z : Type 0} (left rest : List (List ℕ)) (old mid : Vec ℕ Z) → Appends left rest old.items mid.items → vec_capacity old ≤ vec_capacity mid → vec_capacity mid ≤ vec_len mid → LacksRoomToFeed left old
lacks_last left rest old mid a room full = record {
  line = a.line;
  rest = rest;
  next = a.next;
  lacks = omega (arith, room, full, mid.ok.0, ap length a.bytes, length-append old.items a.line, length-append a.line (10 ∷ []));
}

-- a line of an entry was appended with its line feed, and those behind it are left
pub entry_fed : (f : FrozenView) (ps : List FrozenPart) (es : List SavedEntry) (part at : ℕ) (p : FrozenPart) (e : SavedEntry) (old mid new : List ℕ) → ps ≡ f.parts → es ≡ p.saved →
    part < length ps → p ≡ get_or ps part p → at < length es → e ≡ get_or es at e → mid ≡ old ++ entry_line p.owner p.shard e → new ≡ mid ++ 10 ∷ [] →
    (new ++ bytes_of (ends_left f part (at + 1)) ≡ old ++ bytes_of (ends_left f part at)) × (length (ends_left f part (at + 1)) ≤ length (ends_left f part at))
entry_fed f ps es part at p e old mid new parts saved low is e_low e_is line feed =
    let there : slice_get f.parts part ≡ Some p = subst (λ (l : List FrozenPart). slice_get l part ≡ Some p) parts (slice_get_read ps _ part p refl low is) in
    let here : slice_get p.saved at ≡ Some e = subst (λ (l : List SavedEntry). slice_get l at ≡ Some e) saved (slice_get_read es _ at e refl e_low e_is) in
    let next : ends_left f part at ≡ entry_line p.owner p.shard e ∷ ends_left f part (at + 1) = ap (λ (l : List (List ℕ)). l ++ end_line ∷ []) (next_of_part f.parts part p at e there here) in (
      bytes_more (ends_left f part at) (ends_left f part (at + 1)) old new (entry_line p.owner p.shard e) next
          (feed ∙ ap (λ (l : List ℕ). l ++ 10 ∷ []) line ∙ append_assoc old (entry_line p.owner p.shard e) (10 ∷ [])),
      omega (arith, ap length next),
    )

-- behind all entries of this part
pub past_all : (f : FrozenView) (ps : List FrozenPart) (es : List SavedEntry) (part entry at : ℕ) (p : FrozenPart) → ps ≡ f.parts → es ≡ p.saved → part < length ps → p ≡ get_or ps part p → length es ≤ at →
    IsPast f (Entries part entry) (Entries part at)
past_all f ps es part entry at p parts saved low is long = λ part' entry' e q there.
    let same : part ≡ part' = cc in
    let here : slice_get f.parts part ≡ Some p = subst (λ (l : List FrozenPart). slice_get l part ≡ Some p) parts (slice_get_read ps _ part p refl low is) in
    let found : Some q ≡ Some p = sym there ∙ (ap (slice_get f.parts) (sym same) ∙ here) in
    let one : q ≡ p = cc in
    (at, ap (λ (n : ℕ). Entries n at) same, subst (λ (x : FrozenPart). length x.saved ≤ at) (sym one) (subst (λ (l : List SavedEntry). length l ≤ at) saved long))
