-- Every query that the grammar spells, the machine reads.
use Rattle.std.proofs.Common.{◌≡◌, ℕ, suc, ◌<◌, Bool, true, false, List, [], ◌∷◌, None, refl, ap, sym, ◌∙◌, true≢false, lit<}
use Rattle.query_text.specs.declared.word.Sign.{Sign}
use Rattle.query_text.specs.declared.word.Sign.TheVariants as S
use Rattle.query_text.specs.declared.kind.Kind.{Kind}
use Rattle.query_text.specs.declared.kind.Kind.TheVariants as K
use Rattle.query_text.specs.declared.symbol.Symbol.{Symbol}
use Rattle.query_text.specs.declared.symbol.Symbol.TheVariants as Y
use Rattle.query_text.specs.Token.{Token, name, int, dec, str, fixed, kind}
use Rattle.query_text.specs.Follows.{ends_step, ends_item}
use Rattle.query_text.specs.Grammar as G
use Rattle.query_text.specs.Grammar.{expr_then, ors_then, conj_then, ands_then, neg_then, test_then, sum_then, terms_then, prod_then, factors_then, unary_then, atom_then, more_names_then, names_then, item_then, items_then, agg_then, aggs_then, by_then, on_then, per_then, lit_then, lits_then, else_then, step_then, steps_then, pipe_then, lets_then, col_then, cols_then, stream_then, streams_then, query_tokens}
use Rattle.query_text.specs.Machine.{skip, before, choose, may_end, after, stuck, stuck_then, start, binds, rank, at_stream, at_streams, at_col, at_col_kind, at_cols, at_lets, at_pipe, at_steps, at_step, at_item, at_item_rest, at_items, at_agg, at_aggs, at_by, at_on, at_names, at_more_names, at_expr, at_ors, at_ands, at_test, at_terms, at_factors, at_named, at_int, at_pos, at_places, at_per, at_else, at_lits, at_lit, at_unsigned, at_word}
use Rattle.query_text.proofs.Sound.{expr_decides}
use Rattle.query_text.proofs.Complete.{expands, skips, low_ors, low_ands, low_test, low_terms, low_as, expr_read, ors_read, ands_read, test_read, terms_read, factors_read, close_next}

holds_is : (b : Bool) → G.Holds b → b ≡ true
holds_is true h = refl
holds_is false h = absurd h

places_read : (p : G.Places) (k : List Symbol) (z : List Token) → stuck (Y.Places ∷ k) (int p.number ∷ z) ≡ stuck k z
unfolding stuck after at_places
places_read p k z = let e : G.is_places p.number ≡ true = holds_is (G.is_places p.number) p.few in rw e refl

col_read : (c : G.Col) (k : List Symbol) (z : List Token) → stuck (Y.Col ∷ k) (col_then c z) ≡ stuck k z
unfolding stuck after at_col at_col_kind at_word
col_read (G.int_col n) k z = refl
col_read (G.bool_col n) k z = refl
col_read (G.text_col n) k z = refl
col_read (G.dec_col n p) k z = places_read p (Y.Word S.Close ∷ k) (fixed S.Close ∷ z) ∙ close_next k z

cols_next : (k : List Symbol) (z : List Token) → stuck (Y.Cols ∷ k) (fixed S.Comma ∷ z) ≡ stuck (Y.Col ∷ Y.Cols ∷ k) z
unfolding stuck after at_cols
cols_next k z = refl

cols_read : (cs : List G.Col) (k : List Symbol) (z : List Token) → stuck (Y.Cols ∷ k) (cols_then cs z) ≡ stuck (Y.Cols ∷ k) z
cols_read [] k z = refl
cols_read (c ∷ cs) k z = cols_next k _ ∙ col_read c (Y.Cols ∷ k) _ ∙ cols_read cs k z

cols_end : (k : List Symbol) (z : List Token) → stuck (Y.Cols ∷ Y.Word S.Close ∷ Y.Word S.Semicolon ∷ k) (fixed S.Close ∷ fixed S.Semicolon ∷ z) ≡ stuck k z
unfolding stuck after at_cols at_word
cols_end k z = refl

stream_next : (n : List ℕ) (k : List Symbol) (z : List Token) → stuck (Y.Stream ∷ k) (fixed S.Stream ∷ name n ∷ fixed S.Open ∷ z) ≡ stuck (Y.Col ∷ Y.Cols ∷ Y.Word S.Close ∷ Y.Word S.Semicolon ∷ k) z
unfolding stuck after at_stream at_named at_word
stream_next n k z = refl

stream_read : (s : G.Stream) (k : List Symbol) (z : List Token) → stuck (Y.Stream ∷ k) (stream_then s z) ≡ stuck k z
stream_read s k z = stream_next s.called k _ ∙ col_read s.first (Y.Cols ∷ Y.Word S.Close ∷ Y.Word S.Semicolon ∷ k) _ ∙ cols_read s.more (Y.Word S.Close ∷ Y.Word S.Semicolon ∷ k) _ ∙ cols_end k z

streams_next : (n : List ℕ) (k : List Symbol) (z : List Token) → stuck (Y.Streams ∷ k) (fixed S.Stream ∷ name n ∷ fixed S.Open ∷ z) ≡ stuck (Y.Col ∷ Y.Cols ∷ Y.Word S.Close ∷ Y.Word S.Semicolon ∷ Y.Streams ∷ k) z
unfolding stuck after at_streams at_named at_word
streams_next n k z = refl

streams_read : (ss : List G.Stream) (k : List Symbol) (z : List Token) → stuck (Y.Streams ∷ k) (streams_then ss z) ≡ stuck (Y.Streams ∷ k) z
streams_read [] k z = refl
streams_read (s ∷ ss) k z = streams_next s.called k _ ∙ col_read s.first (Y.Cols ∷ Y.Word S.Close ∷ Y.Word S.Semicolon ∷ Y.Streams ∷ k) _ ∙ cols_read s.more (Y.Word S.Close ∷ Y.Word S.Semicolon ∷ Y.Streams ∷ k) _ ∙ cols_end (Y.Streams ∷ k) _ ∙ streams_read ss k z

more_names_next : (n : List ℕ) (k : List Symbol) (z : List Token) → stuck (Y.MoreNames ∷ k) (fixed S.Comma ∷ name n ∷ z) ≡ stuck (Y.MoreNames ∷ k) z
unfolding stuck after at_more_names at_named
more_names_next n k z = refl

more_names_read : (ns : List (List ℕ)) (k : List Symbol) (z : List Token) → stuck (Y.MoreNames ∷ k) (more_names_then ns z) ≡ stuck (Y.MoreNames ∷ k) z
more_names_read [] k z = refl
more_names_read (n ∷ ns) k z = more_names_next n k _ ∙ more_names_read ns k z

names_next : (n : List ℕ) (k : List Symbol) (z : List Token) → stuck (Y.Names ∷ k) (name n ∷ z) ≡ stuck (Y.MoreNames ∷ k) z
unfolding stuck after at_names
names_next n k z = refl

names_read : (ns : G.Names) (k : List Symbol) (z : List Token) → stuck (Y.Names ∷ k) (names_then ns z) ≡ stuck (Y.MoreNames ∷ k) z
names_read ns k z = names_next ns.first k _ ∙ more_names_read ns.more k z

end_skips : (s : Symbol) (k : List Symbol) (z : List Token) → ends_step z ≡ true → may_end s ≡ true → choose s (K.Fixed S.Bar) ≡ skip → choose s (K.Fixed S.Semicolon) ≡ skip → stuck (s ∷ k) z ≡ stuck k z
end_skips s k [] h e b c = skips s k [] e tt
end_skips s k (fixed S.Bar ∷ ts) h e b c = skips s k (fixed S.Bar ∷ ts) e b
end_skips s k (fixed S.Semicolon ∷ ts) h e b c = skips s k (fixed S.Semicolon ∷ ts) e c
end_skips s k (_ ∷ ts) h e b c = absurd (true≢false (sym h))

pub low_end : (z : List Token) → ends_step z ≡ true → rank z < 1
unfolding binds
low_end [] h = lit< tt
low_end (fixed S.Bar ∷ ts) h = lit< tt
low_end (fixed S.Semicolon ∷ ts) h = lit< tt
low_end (_ ∷ ts) h = absurd (true≢false (sym h))

-- what may follow the names of a key
abbrev pub ends_key : List Token → Bool
ends_key (fixed S.Else ∷ ts) = true
ends_key (fixed S.Within ∷ ts) = true
ends_key (fixed S.By ∷ ts) = true
ends_key z = ends_step z

pub key_ends : (z : List Token) → ends_step z ≡ true → ends_key z ≡ true
key_ends [] h = refl
key_ends (fixed S.Bar ∷ ts) h = refl
key_ends (fixed S.Semicolon ∷ ts) h = refl
key_ends (_ ∷ ts) h = absurd (true≢false (sym h))

key_skips : (s : Symbol) (k : List Symbol) (z : List Token) → ends_key z ≡ true → may_end s ≡ true → choose s (K.Fixed S.Else) ≡ skip → choose s (K.Fixed S.Within) ≡ skip → choose s (K.Fixed S.By) ≡ skip
    → choose s (K.Fixed S.Bar) ≡ skip → choose s (K.Fixed S.Semicolon) ≡ skip → stuck (s ∷ k) z ≡ stuck k z
key_skips s k [] h e a b c d f = skips s k [] e tt
key_skips s k (fixed S.Else ∷ ts) h e a b c d f = skips s k (fixed S.Else ∷ ts) e a
key_skips s k (fixed S.Within ∷ ts) h e a b c d f = skips s k (fixed S.Within ∷ ts) e b
key_skips s k (fixed S.By ∷ ts) h e a b c d f = skips s k (fixed S.By ∷ ts) e c
key_skips s k (fixed S.Bar ∷ ts) h e a b c d f = skips s k (fixed S.Bar ∷ ts) e d
key_skips s k (fixed S.Semicolon ∷ ts) h e a b c d f = skips s k (fixed S.Semicolon ∷ ts) e f
key_skips s k (_ ∷ ts) h e a b c d f = absurd (true≢false (sym h))

more_names_end : (k : List Symbol) (z : List Token) → ends_key z ≡ true → stuck (Y.MoreNames ∷ k) z ≡ stuck k z
unfolding at_more_names
more_names_end k z h = key_skips Y.MoreNames k z h refl refl refl refl refl refl

by_end : (k : List Symbol) (z : List Token) → ends_step z ≡ true → stuck (Y.By ∷ k) z ≡ stuck k z
unfolding at_by
by_end k z h = end_skips Y.By k z h refl refl refl

on_end : (k : List Symbol) (z : List Token) → ends_key z ≡ true → stuck (Y.On ∷ k) z ≡ stuck k z
unfolding at_on
on_end k z h = key_skips Y.On k z h refl refl refl refl refl refl

aggs_end : (k : List Symbol) (z : List Token) → ends_step z ≡ true → stuck (Y.Aggs ∷ k) z ≡ stuck k z
unfolding at_aggs
aggs_end k z h = end_skips Y.Aggs k z h refl refl refl

items_end : (k : List Symbol) (z : List Token) → ends_step z ≡ true → stuck (Y.Items ∷ k) z ≡ stuck k z
unfolding at_items
items_end k z h = end_skips Y.Items k z h refl refl refl

by_next : (k : List Symbol) (z : List Token) → stuck (Y.By ∷ k) (fixed S.By ∷ z) ≡ stuck (Y.Names ∷ k) z
unfolding stuck after at_by
by_next k z = refl

on_next : (k : List Symbol) (z : List Token) → stuck (Y.On ∷ k) (fixed S.On ∷ z) ≡ stuck (Y.Names ∷ k) z
unfolding stuck after at_on
on_next k z = refl

by_read : (b : G.By) (k : List Symbol) (z : List Token) → ends_step z ≡ true → stuck (Y.By ∷ k) (by_then b z) ≡ stuck k z
by_read G.no_by k z h = by_end k z h
by_read (G.by_names ns) k z h = by_next k _ ∙ names_read ns k z ∙ more_names_end k z (key_ends z h)

on_read : (o : G.On) (k : List Symbol) (z : List Token) → ends_key z ≡ true → stuck (Y.On ∷ k) (on_then o z) ≡ stuck k z
on_read G.no_on k z h = on_end k z h
on_read (G.on_names ns) k z h = on_next k _ ∙ names_read ns k z ∙ more_names_end k z h

by_colon : (k : List Symbol) (z : List Token) → stuck (Y.By ∷ Y.Word S.Colon ∷ k) (fixed S.Colon ∷ z) ≡ stuck k z
unfolding stuck after at_by at_word
by_colon k z = refl

names_colon : (k : List Symbol) (z : List Token) → stuck (Y.MoreNames ∷ Y.Word S.Colon ∷ k) (fixed S.Colon ∷ z) ≡ stuck k z
unfolding stuck after at_more_names at_word
names_colon k z = refl

by_colon_read : (b : G.By) (k : List Symbol) (z : List Token) → stuck (Y.By ∷ Y.Word S.Colon ∷ k) (by_then b (fixed S.Colon ∷ z)) ≡ stuck k z
by_colon_read G.no_by k z = by_colon k z
by_colon_read (G.by_names ns) k z = by_next (Y.Word S.Colon ∷ k) _ ∙ names_read ns (Y.Word S.Colon ∷ k) _ ∙ names_colon k z

agg_read : (a : G.Agg) (k : List Symbol) (z : List Token) → stuck (Y.Agg ∷ k) (agg_then a z) ≡ stuck k z
unfolding stuck after at_agg at_word at_named
agg_read (G.count n) k z = refl
agg_read (G.of_column G.sum_ c n) k z = refl
agg_read (G.of_column G.min_ c n) k z = refl
agg_read (G.of_column G.max_ c n) k z = refl
agg_read (G.of_column G.avg_ c n) k z = refl

aggs_next : (k : List Symbol) (z : List Token) → stuck (Y.Aggs ∷ k) (fixed S.Comma ∷ z) ≡ stuck (Y.Agg ∷ Y.Aggs ∷ k) z
unfolding stuck after at_aggs
aggs_next k z = refl

aggs_read : (as_ : List G.Agg) (k : List Symbol) (z : List Token) → stuck (Y.Aggs ∷ k) (aggs_then as_ z) ≡ stuck (Y.Aggs ∷ k) z
aggs_read [] k z = refl
aggs_read (a ∷ as_) k z = aggs_next k _ ∙ agg_read a (Y.Aggs ∷ k) _ ∙ aggs_read as_ k z

-- what goes on with an expression, or names it
abbrev pub goes : Kind → Bool
goes (K.Fixed S.Star) = true
goes (K.Fixed S.Div) = true
goes (K.Fixed S.Mod) = true
goes (K.Fixed S.Plus) = true
goes (K.Fixed S.Minus) = true
goes (K.Fixed S.Equal) = true
goes (K.Fixed S.Differs) = true
goes (K.Fixed S.Less) = true
goes (K.Fixed S.LessEqual) = true
goes (K.Fixed S.Greater) = true
goes (K.Fixed S.GreaterEqual) = true
goes (K.Fixed S.And) = true
goes (K.Fixed S.Or) = true
goes (K.Fixed S.As) = true
goes _ = false

abbrev pub begins_on : List Token → Bool
begins_on [] = false
begins_on (t ∷ ts) = goes (kind t)

pub on_ors : (os : G.Ors) (z : List Token) → begins_on z ≡ true → begins_on (ors_then os z) ≡ true
on_ors G.no_or z h = h
on_ors (G.or_ c os) z h = refl

pub on_ands : (as_ : G.Ands) (z : List Token) → begins_on z ≡ true → begins_on (ands_then as_ z) ≡ true
on_ands G.no_and z h = h
on_ands (G.and_ n as_) z h = refl

pub on_test : (t : G.Test) (z : List Token) → begins_on z ≡ true → begins_on (test_then t z) ≡ true
on_test G.no_test z h = h
on_test (G.test G.equal s) z h = refl
on_test (G.test G.differs s) z h = refl
on_test (G.test G.less s) z h = refl
on_test (G.test G.less_equal s) z h = refl
on_test (G.test G.greater s) z h = refl
on_test (G.test G.greater_equal s) z h = refl

pub on_terms : (ts : G.Terms) (z : List Token) → begins_on z ≡ true → begins_on (terms_then ts z) ≡ true
on_terms G.no_term z h = h
on_terms (G.plus p ts) z h = refl
on_terms (G.minus p ts) z h = refl

pub on_factors : (fs : G.Factors) (z : List Token) → begins_on z ≡ true → begins_on (factors_then fs z) ≡ true
on_factors G.no_factor z h = h
on_factors (G.times u fs) z h = refl
on_factors (G.div_ n fs) z h = refl
on_factors (G.mod_ n fs) z h = refl

tail_after : (t : Kind) (k : List Symbol) → goes t ≡ true → after (Y.ItemRest ∷ k) t ≡ after (Y.Factors ∷ Y.Terms ∷ Y.Test ∷ Y.Ands ∷ Y.Ors ∷ Y.Word S.As ∷ Y.Named ∷ k) t
unfolding after at_item_rest at_factors at_terms at_test at_ands at_ors at_word
tail_after (K.Fixed S.Star) k h = refl
tail_after (K.Fixed S.Div) k h = refl
tail_after (K.Fixed S.Mod) k h = refl
tail_after (K.Fixed S.Plus) k h = refl
tail_after (K.Fixed S.Minus) k h = refl
tail_after (K.Fixed S.Equal) k h = refl
tail_after (K.Fixed S.Differs) k h = refl
tail_after (K.Fixed S.Less) k h = refl
tail_after (K.Fixed S.LessEqual) k h = refl
tail_after (K.Fixed S.Greater) k h = refl
tail_after (K.Fixed S.GreaterEqual) k h = refl
tail_after (K.Fixed S.And) k h = refl
tail_after (K.Fixed S.Or) k h = refl
tail_after (K.Fixed S.As) k h = refl
tail_after _ k h = absurd (true≢false (sym h))

tail_next : (k : List Symbol) (z : List Token) → begins_on z ≡ true → stuck (Y.ItemRest ∷ k) z ≡ stuck (Y.Factors ∷ Y.Terms ∷ Y.Test ∷ Y.Ands ∷ Y.Ors ∷ Y.Word S.As ∷ Y.Named ∷ k) z
unfolding stuck
tail_next k [] h = absurd (true≢false (sym h))
tail_next k (t ∷ ts) h = ap (λ a. stuck_then (λ k'. stuck k' ts) a (t ∷ ts)) (tail_after (kind t) k h)

item_name : (n : List ℕ) (k : List Symbol) (z : List Token) → stuck (Y.Item ∷ k) (name n ∷ z) ≡ stuck (Y.ItemRest ∷ k) z
unfolding stuck after at_item
item_name n k z = refl

as_next : (n : List ℕ) (k : List Symbol) (z : List Token) → stuck (Y.Word S.As ∷ Y.Named ∷ k) (fixed S.As ∷ name n ∷ z) ≡ stuck k z
unfolding stuck after at_word at_named
as_next n k z = refl

item_is : (t : Kind) → (t ≡ K.Name → ⊥) → at_item t ≡ before (at_expr t) (Y.Word S.As ∷ Y.Named ∷ [])
unfolding at_item
item_is K.Name h = absurd (h refl)
item_is t h = refl

-- an expression that begins with no name
item_expr : (e : G.Expr) (n : List ℕ) (k : List Symbol) (z : List Token) → ((t : Token) (rest : List Token) → expr_then e (fixed S.As ∷ name n ∷ z) ≡ t ∷ rest → kind t ≡ K.Name → ⊥)
    → stuck (Y.Item ∷ k) (item_then (G.named e n) z) ≡ stuck k z
item_expr e n k z h = expands Y.Item Y.Expr (Y.Word S.As ∷ Y.Named ∷ []) k (expr_then e (fixed S.As ∷ name n ∷ z)) refl refl (λ t rest f. item_is (kind t) (h t rest f)) (λ t. expr_decides (kind t))
    ∙ expr_read e (Y.Word S.As ∷ Y.Named ∷ k) (fixed S.As ∷ name n ∷ z) (low_as (name n ∷ z)) ∙ as_next n k z

no_name : (x : Token) (t : Token) (a b : List Token) → (kind x ≡ K.Name → ⊥) → x ∷ a ≡ t ∷ b → kind t ≡ K.Name → ⊥
no_name x t a b h e f = let g : x ≡ t = cc in h (ap kind g ∙ f)

fixed_no_name : (s : Sign) → kind (fixed s) ≡ K.Name → ⊥
fixed_no_name s e = cc

item_named : (e : G.Expr) (n : List ℕ) (k : List Symbol) (z : List Token) → stuck (Y.Item ∷ k) (item_then (G.named e n) z) ≡ stuck k z
item_named (G.expr (G.conj (G.not_ m) as_) os) n k z = item_expr (G.expr (G.conj (G.not_ m) as_) os) n k z (λ t rest f. no_name (fixed S.Not) t _ rest (fixed_no_name S.Not) f)
item_named (G.expr (G.conj (G.cmp (G.sum (G.prod (G.negative u) fs) ts) te) as_) os) n k z = item_expr (G.expr (G.conj (G.cmp (G.sum (G.prod (G.negative u) fs) ts) te) as_) os) n k z (λ t rest f. no_name (fixed S.Minus) t _ rest (fixed_no_name S.Minus) f)
item_named (G.expr (G.conj (G.cmp (G.sum (G.prod (G.atom (G.number m)) fs) ts) te) as_) os) n k z = item_expr (G.expr (G.conj (G.cmp (G.sum (G.prod (G.atom (G.number m)) fs) ts) te) as_) os) n k z (λ t rest f. no_name (int m) t _ rest (λ g. cc) f)
item_named (G.expr (G.conj (G.cmp (G.sum (G.prod (G.atom (G.decimal u p)) fs) ts) te) as_) os) n k z = item_expr (G.expr (G.conj (G.cmp (G.sum (G.prod (G.atom (G.decimal u p)) fs) ts) te) as_) os) n k z (λ t rest f. no_name (dec u p) t _ rest (λ g. cc) f)
item_named (G.expr (G.conj (G.cmp (G.sum (G.prod (G.atom (G.text s)) fs) ts) te) as_) os) n k z = item_expr (G.expr (G.conj (G.cmp (G.sum (G.prod (G.atom (G.text s)) fs) ts) te) as_) os) n k z (λ t rest f. no_name (str s) t _ rest (λ g. cc) f)
item_named (G.expr (G.conj (G.cmp (G.sum (G.prod (G.atom G.true_) fs) ts) te) as_) os) n k z = item_expr (G.expr (G.conj (G.cmp (G.sum (G.prod (G.atom G.true_) fs) ts) te) as_) os) n k z (λ t rest f. no_name (fixed S.True) t _ rest (fixed_no_name S.True) f)
item_named (G.expr (G.conj (G.cmp (G.sum (G.prod (G.atom G.false_) fs) ts) te) as_) os) n k z = item_expr (G.expr (G.conj (G.cmp (G.sum (G.prod (G.atom G.false_) fs) ts) te) as_) os) n k z (λ t rest f. no_name (fixed S.False) t _ rest (fixed_no_name S.False) f)
item_named (G.expr (G.conj (G.cmp (G.sum (G.prod (G.atom (G.parens x)) fs) ts) te) as_) os) n k z = item_expr (G.expr (G.conj (G.cmp (G.sum (G.prod (G.atom (G.parens x)) fs) ts) te) as_) os) n k z (λ t rest f. no_name (fixed S.Open) t _ rest (fixed_no_name S.Open) f)
item_named (G.expr (G.conj (G.cmp (G.sum (G.prod (G.atom (G.column m)) fs) ts) te) as_) os) n k z =
    let z0 = fixed S.As ∷ name n ∷ z in
    let l1 = low_ors os z0 (low_as (name n ∷ z)) in
    let l2 = low_ands as_ (ors_then os z0) l1 in
    let l3 = low_test te (ands_then as_ (ors_then os z0)) l2 in
    let l4 = low_terms ts (test_then te (ands_then as_ (ors_then os z0))) l3 in
    item_name m k _
    ∙ tail_next k _ (on_factors fs _ (on_terms ts _ (on_test te _ (on_ands as_ _ (on_ors os z0 refl)))))
    ∙ factors_read fs (Y.Terms ∷ Y.Test ∷ Y.Ands ∷ Y.Ors ∷ Y.Word S.As ∷ Y.Named ∷ k) _ l4
    ∙ terms_read ts (Y.Test ∷ Y.Ands ∷ Y.Ors ∷ Y.Word S.As ∷ Y.Named ∷ k) _ l3
    ∙ test_read te (Y.Ands ∷ Y.Ors ∷ Y.Word S.As ∷ Y.Named ∷ k) _ l2
    ∙ ands_read as_ (Y.Ors ∷ Y.Word S.As ∷ Y.Named ∷ k) _ l1
    ∙ ors_read os (Y.Word S.As ∷ Y.Named ∷ k) z0 (low_as (name n ∷ z))
    ∙ as_next n k z

item_rest_bar : choose Y.ItemRest (K.Fixed S.Bar) ≡ skip
unfolding at_item_rest at_factors at_terms at_test at_ands at_ors at_word
item_rest_bar = refl

item_rest_semicolon : choose Y.ItemRest (K.Fixed S.Semicolon) ≡ skip
unfolding at_item_rest at_factors at_terms at_test at_ands at_ors at_word
item_rest_semicolon = refl

item_rest_comma : choose Y.ItemRest (K.Fixed S.Comma) ≡ skip
unfolding at_item_rest at_factors at_terms at_test at_ands at_ors at_word
item_rest_comma = refl

item_rest_end : (k : List Symbol) (z : List Token) → ends_item z ≡ true → stuck (Y.ItemRest ∷ k) z ≡ stuck k z
item_rest_end k [] h = end_skips Y.ItemRest k [] h refl item_rest_bar item_rest_semicolon
item_rest_end k (fixed S.Comma ∷ ts) h = skips Y.ItemRest k (fixed S.Comma ∷ ts) refl item_rest_comma
item_rest_end k (t ∷ ts) h = end_skips Y.ItemRest k (t ∷ ts) h refl item_rest_bar item_rest_semicolon

item_read : (i : G.Item) (k : List Symbol) (z : List Token) → ends_item z ≡ true → stuck (Y.Item ∷ k) (item_then i z) ≡ stuck k z
item_read (G.alone n) k z h = item_name n k z ∙ item_rest_end k z h
item_read (G.named e n) k z h = item_named e n k z

items_next : (k : List Symbol) (z : List Token) → stuck (Y.Items ∷ k) (fixed S.Comma ∷ z) ≡ stuck (Y.Item ∷ Y.Items ∷ k) z
unfolding stuck after at_items
items_next k z = refl

pub ends_both : (z : List Token) → ends_step z ≡ true → ends_item z ≡ true
ends_both [] h = refl
ends_both (fixed S.Bar ∷ ts) h = refl
ends_both (fixed S.Semicolon ∷ ts) h = refl
ends_both (_ ∷ ts) h = absurd (true≢false (sym h))

pub ends_items : (is : List G.Item) (z : List Token) → ends_step z ≡ true → ends_item (items_then is z) ≡ true
ends_items [] z h = ends_both z h
ends_items (i ∷ is) z h = refl

items_read : (is : List G.Item) (k : List Symbol) (z : List Token) → ends_step z ≡ true → stuck (Y.Items ∷ k) (items_then is z) ≡ stuck k z
items_read [] k z h = items_end k z h
items_read (i ∷ is) k z h = items_next k _ ∙ item_read i (Y.Items ∷ k) _ (ends_items is z h) ∙ items_read is k z h

where_next : (k : List Symbol) (z : List Token) → stuck (Y.Step ∷ k) (fixed S.Where ∷ z) ≡ stuck (Y.Expr ∷ k) z
unfolding stuck after at_step
where_next k z = refl

select_next : (k : List Symbol) (z : List Token) → stuck (Y.Step ∷ k) (fixed S.Select ∷ z) ≡ stuck (Y.Item ∷ Y.Items ∷ k) z
unfolding stuck after at_step
select_next k z = refl

union_next : (n : List ℕ) (k : List Symbol) (z : List Token) → stuck (Y.Step ∷ k) (fixed S.Union ∷ name n ∷ z) ≡ stuck (k) z
unfolding stuck after at_step at_named
union_next n k z = refl

clip_next : (n : List ℕ) (k : List Symbol) (z : List Token) → stuck (Y.Step ∷ k) (fixed S.Clip ∷ name n ∷ z) ≡ stuck (Y.On ∷ k) z
unfolding stuck after at_step at_named
clip_next n k z = refl

join_next : (n : List ℕ) (k : List Symbol) (z : List Token) → stuck (Y.Step ∷ k) (fixed S.Join ∷ name n ∷ z) ≡ stuck (Y.On ∷ k) z
unfolding stuck after at_step at_named
join_next n k z = refl

anti_next : (n : List ℕ) (k : List Symbol) (z : List Token) → stuck (Y.Step ∷ k) (fixed S.Anti ∷ name n ∷ z) ≡ stuck (Y.On ∷ k) z
unfolding stuck after at_step at_named
anti_next n k z = refl

group_next : (k : List Symbol) (z : List Token) → stuck (Y.Step ∷ k) (fixed S.Group ∷ z) ≡ stuck (Y.By ∷ Y.Word S.Colon ∷ Y.Agg ∷ Y.Aggs ∷ k) z
unfolding stuck after at_step
group_next k z = refl

delay_next : (n : ℕ) (k : List Symbol) (z : List Token) → stuck (Y.Step ∷ k) (fixed S.Delay ∷ int n ∷ z) ≡ stuck k z
unfolding stuck after at_step at_int
delay_next n k z = refl

duration_next : (n : ℕ) (k : List Symbol) (z : List Token) → stuck (Y.Step ∷ k) (fixed S.Duration ∷ int n ∷ z) ≡ stuck k z
unfolding stuck after at_step at_int
duration_next n k z = refl

extend_next : (n : ℕ) (k : List Symbol) (z : List Token) → stuck (Y.Step ∷ k) (fixed S.Extend ∷ int n ∷ z) ≡ stuck k z
unfolding stuck after at_step at_int
extend_next n k z = refl

tumble_next : (n : ℕ) (k : List Symbol) (z : List Token) → stuck (Y.Step ∷ k) (fixed S.Tumble ∷ int n ∷ z) ≡ stuck k z
unfolding stuck after at_step at_int
tumble_next n k z = refl

session_next : (n : ℕ) (k : List Symbol) (z : List Token) → stuck (Y.Step ∷ k) (fixed S.Session ∷ int n ∷ z) ≡ stuck (Y.By ∷ k) z
unfolding stuck after at_step at_int
session_next n k z = refl

hop_next : (n m : ℕ) (k : List Symbol) (z : List Token) → stuck (Y.Step ∷ k) (fixed S.Hop ∷ int n ∷ int m ∷ z) ≡ stuck k z
unfolding stuck after at_step at_int
hop_next n m k z = refl

coalesce_next : (k : List Symbol) (z : List Token) → stuck (Y.Step ∷ k) (fixed S.Coalesce ∷ z) ≡ stuck k z
unfolding stuck after at_step
coalesce_next k z = refl

left_next : (n : List ℕ) (k : List Symbol) (z : List Token) → stuck (Y.Step ∷ k) (fixed S.Left ∷ name n ∷ z) ≡ stuck (Y.On ∷ Y.Else ∷ k) z
unfolding stuck after at_step at_named
left_next n k z = refl

top_next : (n : ℕ) (k : List Symbol) (z : List Token) → stuck (Y.Step ∷ k) (fixed S.Top ∷ int (suc n) ∷ z) ≡ stuck (Y.Per ∷ Y.Word S.By ∷ Y.Named ∷ k) z
unfolding stuck after at_step at_pos
top_next n k z = refl

follow_next : (n : List ℕ) (k : List Symbol) (z : List Token) → stuck (Y.Step ∷ k) (fixed S.Follow ∷ name n ∷ z) ≡ stuck (Y.On ∷ Y.Word S.Within ∷ Y.Pos ∷ k) z
unfolding stuck after at_step at_named
follow_next n k z = refl

within_next : (n : ℕ) (k : List Symbol) (z : List Token) → stuck (Y.Word S.Within ∷ Y.Pos ∷ k) (fixed S.Within ∷ int (suc n) ∷ z) ≡ stuck k z
unfolding stuck after at_word at_pos
within_next n k z = refl

by_named : (n : List ℕ) (k : List Symbol) (z : List Token) → stuck (Y.Word S.By ∷ Y.Named ∷ k) (fixed S.By ∷ name n ∷ z) ≡ stuck k z
unfolding stuck after at_word at_named
by_named n k z = refl

per_by : (k : List Symbol) (z : List Token) → stuck (Y.Per ∷ k) (fixed S.By ∷ z) ≡ stuck k (fixed S.By ∷ z)
unfolding stuck after at_per
per_by k z = refl

per_next : (k : List Symbol) (z : List Token) → stuck (Y.Per ∷ k) (fixed S.Per ∷ z) ≡ stuck (Y.Names ∷ k) z
unfolding stuck after at_per
per_next k z = refl

per_read : (p : G.Per) (k : List Symbol) (z : List Token) → stuck (Y.Per ∷ k) (per_then p (fixed S.By ∷ z)) ≡ stuck k (fixed S.By ∷ z)
per_read G.no_per k z = per_by k z
per_read (G.per_names ns) k z = per_next k _ ∙ names_read ns k _ ∙ more_names_end k (fixed S.By ∷ z) refl

lit_read : (l : G.Lit) (k : List Symbol) (z : List Token) → stuck (Y.Lit ∷ k) (lit_then l z) ≡ stuck k z
unfolding stuck after at_lit at_unsigned
lit_read (G.int_lit n) k z = refl
lit_read (G.minus_int n) k z = refl
lit_read (G.dec_lit u p) k z = refl
lit_read (G.minus_dec u p) k z = refl
lit_read (G.text_lit s) k z = refl
lit_read G.true_lit k z = refl
lit_read G.false_lit k z = refl

lits_next : (k : List Symbol) (z : List Token) → stuck (Y.Lits ∷ k) (fixed S.Comma ∷ z) ≡ stuck (Y.Lit ∷ Y.Lits ∷ k) z
unfolding stuck after at_lits
lits_next k z = refl

lits_end : (k : List Symbol) (z : List Token) → ends_step z ≡ true → stuck (Y.Lits ∷ k) z ≡ stuck k z
unfolding at_lits
lits_end k z h = end_skips Y.Lits k z h refl refl refl

lits_read : (ls : List G.Lit) (k : List Symbol) (z : List Token) → ends_step z ≡ true → stuck (Y.Lits ∷ k) (lits_then ls z) ≡ stuck k z
lits_read [] k z h = lits_end k z h
lits_read (l ∷ ls) k z h = lits_next k _ ∙ lit_read l (Y.Lits ∷ k) _ ∙ lits_read ls k z h

else_next : (k : List Symbol) (z : List Token) → stuck (Y.Else ∷ k) (fixed S.Else ∷ z) ≡ stuck (Y.Lit ∷ Y.Lits ∷ k) z
unfolding stuck after at_else
else_next k z = refl

else_end : (k : List Symbol) (z : List Token) → ends_step z ≡ true → stuck (Y.Else ∷ k) z ≡ stuck k z
unfolding at_else
else_end k z h = end_skips Y.Else k z h refl refl refl

else_read : (e : G.Else) (k : List Symbol) (z : List Token) → ends_step z ≡ true → stuck (Y.Else ∷ k) (else_then e z) ≡ stuck k z
else_read G.no_else k z h = else_end k z h
else_read (G.else_ l ls) k z h = else_next k _ ∙ lit_read l (Y.Lits ∷ k) _ ∙ lits_read ls k z h

pub ends_else : (e : G.Else) (z : List Token) → ends_step z ≡ true → ends_key (else_then e z) ≡ true
ends_else G.no_else z h = key_ends z h
ends_else (G.else_ l ls) z h = refl

step_read : (s : G.Step) (k : List Symbol) (z : List Token) → ends_step z ≡ true → stuck (Y.Step ∷ k) (step_then s z) ≡ stuck k z
step_read (G.where_ e) k z h = where_next k _ ∙ expr_read e k z (low_end z h)
step_read (G.select i is) k z h = select_next k _ ∙ item_read i (Y.Items ∷ k) _ (ends_items is z h) ∙ items_read is k z h
step_read (G.union n) k z h = union_next n k z
step_read (G.delay n) k z h = delay_next n k z
step_read (G.duration n) k z h = duration_next n k z
step_read (G.extend n) k z h = extend_next n k z
step_read (G.tumble n) k z h = tumble_next n k z
step_read (G.hop n p) k z h = hop_next n p k z
step_read (G.session n b) k z h = session_next n k _ ∙ by_read b k z h
step_read (G.clip n o) k z h = clip_next n k _ ∙ on_read o k z (key_ends z h)
step_read (G.join n o) k z h = join_next n k _ ∙ on_read o k z (key_ends z h)
step_read (G.anti n o) k z h = anti_next n k _ ∙ on_read o k z (key_ends z h)
step_read (G.group b a as_) k z h = group_next k _ ∙ by_colon_read b (Y.Agg ∷ Y.Aggs ∷ k) _ ∙ agg_read a (Y.Aggs ∷ k) _ ∙ aggs_read as_ k z ∙ aggs_end k z h
step_read G.coalesce k z h = coalesce_next k z
step_read (G.left n o e) k z h = left_next n k _ ∙ on_read o (Y.Else ∷ k) _ (ends_else e z h) ∙ else_read e k z h
step_read (G.top n p c) k z h = top_next n k _ ∙ per_read p (Y.Word S.By ∷ Y.Named ∷ k) _ ∙ by_named c k z
step_read (G.follow n o m) k z h = follow_next n k _ ∙ on_read o (Y.Word S.Within ∷ Y.Pos ∷ k) _ refl ∙ within_next m k z

steps_next : (k : List Symbol) (z : List Token) → stuck (Y.Steps ∷ k) (fixed S.Bar ∷ z) ≡ stuck (Y.Step ∷ Y.Steps ∷ k) z
unfolding stuck after at_steps
steps_next k z = refl

pub ends_steps : (ss : List G.Step) (z : List Token) → ends_step z ≡ true → ends_step (steps_then ss z) ≡ true
ends_steps [] z h = h
ends_steps (s ∷ ss) z h = refl

steps_read : (ss : List G.Step) (k : List Symbol) (z : List Token) → ends_step z ≡ true → stuck (Y.Steps ∷ k) (steps_then ss z) ≡ stuck (Y.Steps ∷ k) z
steps_read [] k z h = refl
steps_read (s ∷ ss) k z h = steps_next k _ ∙ step_read s (Y.Steps ∷ k) _ (ends_steps ss z h) ∙ steps_read ss k z h

pipe_next : (n : List ℕ) (k : List Symbol) (z : List Token) → stuck (Y.Pipe ∷ k) (name n ∷ z) ≡ stuck (Y.Steps ∷ k) z
unfolding stuck after at_pipe
pipe_next n k z = refl

pipe_read : (p : G.Pipe) (k : List Symbol) (z : List Token) → ends_step z ≡ true → stuck (Y.Pipe ∷ k) (pipe_then p z) ≡ stuck (Y.Steps ∷ k) z
pipe_read p k z h = pipe_next p.base k _ ∙ steps_read p.steps k z h

let_next : (n : List ℕ) (k : List Symbol) (z : List Token) → stuck (Y.Lets ∷ k) (fixed S.Let ∷ name n ∷ fixed S.Equal ∷ z) ≡ stuck (Y.Pipe ∷ Y.Word S.Semicolon ∷ Y.Lets ∷ k) z
unfolding stuck after at_lets at_named at_word
let_next n k z = refl

semicolon_next : (k : List Symbol) (z : List Token) → stuck (Y.Steps ∷ Y.Word S.Semicolon ∷ k) (fixed S.Semicolon ∷ z) ≡ stuck k z
unfolding stuck after at_steps at_word
semicolon_next k z = refl

lets_read : (ls : List G.Let) (k : List Symbol) (z : List Token) → stuck (Y.Lets ∷ k) (lets_then ls z) ≡ stuck (Y.Lets ∷ k) z
lets_read [] k z = refl
lets_read (l ∷ ls) k z = let_next l.called k _ ∙ pipe_read l.pipe (Y.Word S.Semicolon ∷ Y.Lets ∷ k) _ refl ∙ semicolon_next (Y.Lets ∷ k) _ ∙ lets_read ls k z

streams_end : (ls : List G.Let) (p : G.Pipe) (k : List Symbol) → stuck (Y.Streams ∷ k) (lets_then ls (pipe_then p [])) ≡ stuck k (lets_then ls (pipe_then p []))
unfolding stuck after at_streams
streams_end [] p k = refl
streams_end (l ∷ ls) p k = refl

lets_end : (p : G.Pipe) (k : List Symbol) → stuck (Y.Lets ∷ k) (pipe_then p []) ≡ stuck k (pipe_then p [])
unfolding stuck after at_lets
lets_end p k = refl

steps_end : stuck (Y.Steps ∷ []) [] ≡ None
unfolding stuck
steps_end = refl

pub query_read : (q : G.Query) → stuck start (query_tokens q) ≡ None
query_read q = stream_read q.stream (Y.Streams ∷ Y.Lets ∷ Y.Pipe ∷ []) _ ∙ streams_read q.streams (Y.Lets ∷ Y.Pipe ∷ []) _ ∙ streams_end q.lets q.body (Y.Lets ∷ Y.Pipe ∷ [])
    ∙ lets_read q.lets (Y.Pipe ∷ []) _ ∙ lets_end q.body (Y.Pipe ∷ []) ∙ pipe_read q.body [] [] refl ∙ steps_end
