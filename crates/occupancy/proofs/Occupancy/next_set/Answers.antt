use Rattle.std.proofs.Common.{◌≡◌, ◌≤◌, ◌<◌, ◌≢◌, ◌+◌, ◌*◌, ◌/◌, ◌%◌, ℕ, false, List, length, get_or, sym, ap, ◌∙◌, subst, arith, rules, w64, Fits}
use Rattle.std.proofs.lemmas.List.{get_or_read, get_or_past}
use lib.Count.{count_trailing_zeros}
use Rattle.occupancy.specs.Bits.{test, IsNextSet}
use Rattle.occupancy.proofs.Places.{seen_length, test-zero}
use Rattle.occupancy.proofs.Found.{IsLowest, AreClear, high, lowest, lowest_from, none_from, clear_more, found_in, set_within, none_set}
use Rattle.occupancy.proofs.Occupancy.next_set.Goals as goal

-- no place is below the first one
none_yet : (words : List ℕ) (from : ℕ) → AreClear words from (64 * (from / 64) + from % 64)
none_yet words from = record { clear = λ k a b. absurd (omega arith) }

pub returns-then-from-self-clause-none : goal.returns-then-from-self-clause-none
returns-then-from-self-clause-none c j le =
    let v = c.self.inside in
    let h = seen_length v.words.items v.len v.capacity _ c.self.view_is in
    let i = c.self.invariant.0 in
    let k = v.words.ok.0 in
    get_or_past c.args.self.now.items j false (omega arith)

ne_pos : (n : ℕ) → n ≢ 0 → 0 < n
ne_pos n ne = omega arith

pub returns-then-low-ne0-clause-found : goal.returns-then-low-ne0-clause-found
returns-then-low-ne0-clause-found c =
    let v = c.self.inside in
    let h = seen_length v.words.items v.len v.capacity _ c.self.view_is in
    let i = c.self.invariant.0 in
    let k = v.words.ok.0 in
    let w : ℕ = get_or v.words.items (c.args.from / 64) 0 in
    let p : c.args.from / 64 < length v.words.items = omega (arith, i.enough) in
    let f : Fits w64 c.index.result.now = search rules in
    let e : c.index.result.now ≡ w = get_or_read v.words.items (c.args.from / 64) c.index.result.now p c.index.ensures 0 in
    let r : ℕ = c.args.from % 64 in
    let join : 64 * (c.args.from / 64) + r ≡ c.args.from = omega arith in
    let l : IsLowest w r (count_trailing_zeros 64 (high w r)) = lowest_from w r (omega (arith, f.fits)) (omega arith) (ne_pos (high w r) (subst (λ x. high x r ≢ 0) e c.if-low-ne0.true)) in
    subst (λ x. IsNextSet c.args.self.now.items c.args.from (64 * (c.args.from / 64) + count_trailing_zeros 64 (high x r))) (sym e)
    (found_in v.words.items v.len c.args.from (c.args.from / 64) r _ c.args.self.now.items (ap (λ b. b.items) c.self.view_is) c.self.invariant.1 (omega arith) (none_yet v.words.items c.args.from) l)

pub returns-then-low-ne0-clause-within : goal.returns-then-low-ne0-clause-within
returns-then-low-ne0-clause-within c =
    let v = c.self.inside in
    let h = seen_length v.words.items v.len v.capacity _ c.self.view_is in
    let i = c.self.invariant.0 in
    let k = v.words.ok.0 in
    let w : ℕ = get_or v.words.items (c.args.from / 64) 0 in
    let p : c.args.from / 64 < length v.words.items = omega (arith, i.enough) in
    let f : Fits w64 c.index.result.now = search rules in
    let e : c.index.result.now ≡ w = get_or_read v.words.items (c.args.from / 64) c.index.result.now p c.index.ensures 0 in
    let r : ℕ = c.args.from % 64 in
    let join : 64 * (c.args.from / 64) + r ≡ c.args.from = omega arith in
    let l : IsLowest w r (count_trailing_zeros 64 (high w r)) = lowest_from w r (omega (arith, f.fits)) (omega arith) (ne_pos (high w r) (subst (λ x. high x r ≢ 0) e c.if-low-ne0.true)) in
    let below = set_within v.words.items v.len (c.args.from / 64) _ c.self.invariant.1 l.within l.set in
    subst (λ x. 64 * (c.args.from / 64) + count_trailing_zeros 64 (high x r) < length c.args.self.now.items) (sym e) (omega (arith, below))

pub loop-w-init : goal.loop-w-init
loop-w-init c =
    let v = c.self.inside in
    let h = seen_length v.words.items v.len v.capacity _ c.self.view_is in
    let i = c.self.invariant.0 in
    let k = v.words.ok.0 in
    let w : ℕ = get_or v.words.items (c.args.from / 64) 0 in
    let p : c.args.from / 64 < length v.words.items = omega (arith, i.enough) in
    let f : Fits w64 c.index.result.now = search rules in
    let e : c.index.result.now ≡ w = get_or_read v.words.items (c.args.from / 64) c.index.result.now p c.index.ensures 0 in
    let r : ℕ = c.args.from % 64 in
    let join : 64 * (c.args.from / 64) + r ≡ c.args.from = omega arith in
    clear_more v.words.items c.args.from (c.args.from / 64) r (omega arith) (none_yet v.words.items c.args.from) (λ j a b. none_from w r j a b (subst (λ x. high x r ≡ 0) e c.if-low-ne0.false))

pub returns-then-word-ne0-clause-found : goal.returns-then-word-ne0-clause-found
returns-then-word-ne0-clause-found c =
    let v = c.self.inside in
    let h = seen_length v.words.items v.len v.capacity _ c.self.view_is in
    let i = c.self.invariant.0 in
    let k = v.words.ok.0 in
    let w : ℕ = get_or v.words.items c.loop-w.w 0 in
    let p : c.loop-w.w < length v.words.items = omega (arith, c.len-w-end.ensures) in
    let f : Fits w64 c.index-word.result.now = search rules in
    let e : c.index-word.result.now ≡ w = get_or_read v.words.items c.loop-w.w c.index-word.result.now p c.index-word.ensures 0 in
    let join : 64 * c.loop-w.w + 0 ≡ 64 * c.loop-w.w = omega arith in
    let before : AreClear v.words.items c.args.from (64 * c.loop-w.w + 0) = subst (AreClear v.words.items c.args.from) (sym join) c.loop-w.invariant in
    let up : c.args.from ≤ 64 * c.loop-w.w + 0 = omega (arith, c.loop-w.auto.w) in
    let l : IsLowest w 0 (count_trailing_zeros 64 w) = lowest w (ne_pos w (subst (λ x. x ≢ 0) e c.if-word-ne0.true)) (omega (arith, f.fits)) in
    subst (λ x. IsNextSet c.args.self.now.items c.args.from (64 * c.loop-w.w + count_trailing_zeros 64 x)) (sym e)
    (found_in v.words.items v.len c.args.from c.loop-w.w 0 _ c.args.self.now.items (ap (λ b. b.items) c.self.view_is) c.self.invariant.1 up before l)

pub returns-then-word-ne0-clause-within : goal.returns-then-word-ne0-clause-within
returns-then-word-ne0-clause-within c =
    let v = c.self.inside in
    let h = seen_length v.words.items v.len v.capacity _ c.self.view_is in
    let i = c.self.invariant.0 in
    let k = v.words.ok.0 in
    let w : ℕ = get_or v.words.items c.loop-w.w 0 in
    let p : c.loop-w.w < length v.words.items = omega (arith, c.len-w-end.ensures) in
    let f : Fits w64 c.index-word.result.now = search rules in
    let e : c.index-word.result.now ≡ w = get_or_read v.words.items c.loop-w.w c.index-word.result.now p c.index-word.ensures 0 in
    let join : 64 * c.loop-w.w + 0 ≡ 64 * c.loop-w.w = omega arith in
    let before : AreClear v.words.items c.args.from (64 * c.loop-w.w + 0) = subst (AreClear v.words.items c.args.from) (sym join) c.loop-w.invariant in
    let up : c.args.from ≤ 64 * c.loop-w.w + 0 = omega (arith, c.loop-w.auto.w) in
    let l : IsLowest w 0 (count_trailing_zeros 64 w) = lowest w (ne_pos w (subst (λ x. x ≢ 0) e c.if-word-ne0.true)) (omega (arith, f.fits)) in
    let below = set_within v.words.items v.len c.loop-w.w _ c.self.invariant.1 l.within l.set in
    subst (λ x. 64 * c.loop-w.w + count_trailing_zeros 64 x < length c.args.self.now.items) (sym e) (omega (arith, below))

pub loop-w-preserved : goal.loop-w-preserved
loop-w-preserved c =
    let v = c.self.inside in
    let h = seen_length v.words.items v.len v.capacity _ c.self.view_is in
    let i = c.self.invariant.0 in
    let k = v.words.ok.0 in
    let w : ℕ = get_or v.words.items c.loop-w.w 0 in
    let p : c.loop-w.w < length v.words.items = omega (arith, c.len-w-end.ensures) in
    let f : Fits w64 c.index-word.result.now = search rules in
    let e : c.index-word.result.now ≡ w = get_or_read v.words.items c.loop-w.w c.index-word.result.now p c.index-word.ensures 0 in
    let join : 64 * c.loop-w.w + 0 ≡ 64 * c.loop-w.w = omega arith in
    let before : AreClear v.words.items c.args.from (64 * c.loop-w.w + 0) = subst (AreClear v.words.items c.args.from) (sym join) c.loop-w.invariant in
    let up : c.args.from ≤ 64 * c.loop-w.w + 0 = omega (arith, c.loop-w.auto.w) in
    clear_more v.words.items c.args.from c.loop-w.w 0 up before (λ j a b. ap (λ x. test x j) (sym e ∙ c.if-word-ne0.false) ∙ test-zero j)

pub returns-clause-none : goal.returns-clause-none
returns-clause-none c =
    let v = c.self.inside in
    let h = seen_length v.words.items v.len v.capacity _ c.self.view_is in
    let i = c.self.invariant.0 in
    let k = v.words.ok.0 in
    none_set v.words.items v.len c.args.from (64 * c.loop-w.w) c.args.self.now.items (ap (λ b. b.items) c.self.view_is) c.self.invariant.1 (omega (arith, i.enough)) c.loop-w.invariant
