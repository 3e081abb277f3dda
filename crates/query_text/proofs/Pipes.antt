-- The steps of the parser of names, items, steps and pipes.
use Rattle.std.proofs.Common.{◌≡◌, ℕ, ◌<◌, ◌≤◌, suc, length, true, false, Some, None, List, [], ◌∷◌, ◌++◌, refl, ap, sym, subst, ◌∙◌, append_assoc, append-nil, arith, true≢false, lit<}
use Rattle.query_text.specs.declared.word.Sign.{Sign}
use Rattle.query_text.specs.declared.word.Sign.TheVariants as S
use Rattle.query_text.specs.Token.{Token, name, fixed}
use Rattle.query_text.specs.Grammar as G
use Rattle.query_text.specs.Grammar.{fun_sign, expr_then, unary_then, item_then, items_then, agg_then, lit_then, else_then, step_then, steps_then, pipe_then, lets_then}
use Rattle.query_text.specs.Machine.{rank, binds}
use Rattle.query_text.proofs.Queries.{low_end, ends_steps as steps_end}
use Rattle.query_text.proofs.Unique.{one_fun, no_count, step_at, no_other_step}
use Rattle.query_text.proofs.Complete.{low_as}
use Rattle.query_text.specs.declared.tree.TreeNode.{TreeNode}
use Rattle.query_text.specs.Spelling.{tree_of, item_of, unary_of}
use Rattle.query_text.specs.Reading.{Lacks, IsAhead, Listing, ends_pipe, ends_step, ends_item, name_then, int_then, as_then, computed_then, hop_then, session_then, operand_then, group_then, left_then, top_then, follow_then, lit_list_then, select_then}

-- what may follow

pub step_from_pipe : (z : List Token) → ends_pipe z ≡ true → ends_step z ≡ true
step_from_pipe [] h = refl
step_from_pipe (fixed S.Semicolon ∷ ts) h = refl
step_from_pipe (_ ∷ ts) h = absurd (true≢false (sym h))

pub low_item : (z : List Token) → ends_item z ≡ true → rank z < 1
unfolding binds
low_item [] h = lit< tt
low_item (fixed S.Comma ∷ ts) h = lit< tt
low_item (fixed S.Semicolon ∷ ts) h = lit< tt
low_item (fixed S.Bar ∷ ts) h = lit< tt
low_item (_ ∷ ts) h = absurd (true≢false (sym h))

pub low_step : (z : List Token) → ends_step z ≡ true → rank z < 1
low_step z h = low_end z h

pub no_comma : (z : List Token) → ends_step z ≡ true → Lacks (fixed S.Comma) z
no_comma z h = λ w e. let q : false ≡ true = sym (ap ends_step e) ∙ h in cc

pub no_by : (z : List Token) → ends_step z ≡ true → Lacks (fixed S.By) z
no_by z h = λ w e. let q : false ≡ true = sym (ap ends_step e) ∙ h in cc

pub no_on : (z : List Token) → ends_step z ≡ true → Lacks (fixed S.On) z
no_on z h = λ w e. let q : false ≡ true = sym (ap ends_step e) ∙ h in cc

pub no_as : (z : List Token) → ends_item z ≡ true → Lacks (fixed S.As) z
no_as z h = λ w e. let q : false ≡ true = sym (ap ends_item e) ∙ h in cc

pub no_bar : (z : List Token) → ends_pipe z ≡ true → Lacks (fixed S.Bar) z
no_bar z h = λ w e. let q : false ≡ true = sym (ap ends_pipe e) ∙ h in cc

pub ends_steps : (ss : List G.Step) (z : List Token) → ends_pipe z ≡ true → ends_step (steps_then ss z) ≡ true
ends_steps ss z h = steps_end ss z (step_from_pipe z h)

pub no_by_colon : (z : List Token) → Lacks (fixed S.By) (fixed S.Colon ∷ z)
no_by_colon z = λ w e. cc

pub no_comma_colon : (z : List Token) → Lacks (fixed S.Comma) (fixed S.Colon ∷ z)
no_comma_colon z = λ w e. cc

pub no_comma_close : (z : List Token) → Lacks (fixed S.Comma) (fixed S.Close ∷ z)
no_comma_close z = λ w e. cc

pub no_let : (n : List ℕ) (z : List Token) → Lacks (fixed S.Let) (name n ∷ z)
no_let n z = λ w e. cc

pub no_stream : (ls : List G.Let) (p : G.Pipe) (z : List Token) → Lacks (fixed S.Stream) (lets_then ls (pipe_then p z))
no_stream [] p z = λ w e. cc
no_stream (l ∷ ls) p z = λ w e. cc

-- lists

pub list_begins : {A X V B : Type 0} (a_then : A → List Token → List Token) (Ends : List Token → Type 0) (values : A → List V) (x_then : List X → List Token → List Token) (x_values : List X → List V)
    (b_then : B → List Token → List Token) (EndsB : List Token → Type 0) (of : B → V) (first : A → B) (rest : A → List X)
    → ((a : A) (z : List Token) → a_then a z ≡ b_then (first a) (x_then (rest a) z)) → ((a : A) → values a ≡ of (first a) ∷ x_values (rest a)) → ((a : A) (z : List Token) → Ends z → EndsB (x_then (rest a) z))
    → (old now : List Token) (items : List V) (v : V) → ((b : B) (w : List Token) → EndsB w → old ≡ b_then b w → (now ≡ w) × (v ≡ of b)) → items ≡ v ∷ [] → Listing a_then Ends values x_then x_values old now items
list_begins a_then Ends values x_then x_values b_then EndsB of first rest spelled valued ends old now items v reads is = λ a z end e.
    let u = reads (first a) (x_then (rest a) z) (ends a z end) (e ∙ spelled a z) in
    (rest a, u.0, valued a ∙ ap (λ x. x ∷ x_values (rest a)) (sym u.1) ∙ ap (λ xs. xs ++ x_values (rest a)) (sym is))

list_step : {X V : Type 0} (x_then : List X → List Token → List Token) (x_values : List X → List V) (one_then : X → List Token → List Token) (EndsX : List Token → Type 0) (of : X → V) (sep : Sign)
    → ((z : List Token) → x_then [] z ≡ z) → ((x : X) (xs : List X) (z : List Token) → x_then (x ∷ xs) z ≡ fixed sep ∷ one_then x (x_then xs z)) → ((x : X) (xs : List X) → x_values (x ∷ xs) ≡ of x ∷ x_values xs)
    → (z : List Token) → Lacks (fixed sep) z → ((xs : List X) → EndsX (x_then xs z)) → (now mid new : List Token) (all items more : List V) (v : V) → now ≡ fixed sep ∷ mid
    → ((x : X) (w : List Token) → EndsX w → mid ≡ one_then x w → (new ≡ w) × (v ≡ of x)) → more ≡ items ++ v ∷ []
    → (xs : List X) → now ≡ x_then xs z → all ≡ items ++ x_values xs → (ys : List X) × (new ≡ x_then ys z) × (all ≡ more ++ x_values ys)
list_step x_then x_values one_then EndsX of sep nil cons vcons z lacks ends now mid new all items more v takes reads is [] here so = absurd (lacks mid (sym (here ∙ nil z) ∙ takes))
list_step x_then x_values one_then EndsX of sep nil cons vcons z lacks ends now mid new all items more v takes reads is (x ∷ xs) here so =
    let f : now ≡ fixed sep ∷ one_then x (x_then xs z) = here ∙ cons x xs z in
    let s : mid ≡ one_then x (x_then xs z) = cc in
    let u = reads x (x_then xs z) (ends xs) s in
    (xs, u.0, so ∙ ap (λ t. items ++ t) (vcons x xs ∙ ap (λ y. y ∷ x_values xs) (sym u.1)) ∙ sym (append_assoc items (v ∷ []) (x_values xs)) ∙ ap (λ t. t ++ x_values xs) (sym is))

pub list_more : {A X V : Type 0} (a_then : A → List Token → List Token) (Ends : List Token → Type 0) (values : A → List V) (x_then : List X → List Token → List Token) (x_values : List X → List V) (one_then : X → List Token → List Token) (EndsX : List Token → Type 0) (of : X → V) (sep : Sign)
    → ((z : List Token) → x_then [] z ≡ z) → ((x : X) (xs : List X) (z : List Token) → x_then (x ∷ xs) z ≡ fixed sep ∷ one_then x (x_then xs z)) → ((x : X) (xs : List X) → x_values (x ∷ xs) ≡ of x ∷ x_values xs)
    → ((z : List Token) → Ends z → Lacks (fixed sep) z) → ((xs : List X) (z : List Token) → Ends z → EndsX (x_then xs z)) → (old now mid new : List Token) (items more : List V) (v : V) → Listing a_then Ends values x_then x_values old now items → now ≡ fixed sep ∷ mid
    → ((x : X) (w : List Token) → EndsX w → mid ≡ one_then x w → (new ≡ w) × (v ≡ of x)) → more ≡ items ++ v ∷ [] → Listing a_then Ends values x_then x_values old new more
list_more a_then Ends values x_then x_values one_then EndsX of sep nil cons vcons lacks ends old now mid new items more v listing takes reads is = λ a z end e.
    let g = listing a z end e in
    list_step x_then x_values one_then EndsX of sep nil cons vcons z (lacks z end) (λ xs. ends xs z end) now mid new (values a) items more v takes reads is g.0 g.1 g.2

one_free : {X Y : Type 0} (x_then : List X → List Token → List Token) (one_then : X → List Token → List Token) (EndsX : List Token → Type 0) (sep : Sign)
    → ((z : List Token) → x_then [] z ≡ z) → ((x : X) (xs : List X) (z : List Token) → x_then (x ∷ xs) z ≡ fixed sep ∷ one_then x (x_then xs z)) → (z : List Token) → Lacks (fixed sep) z → ((xs : List X) → EndsX (x_then xs z)) → (now mid : List Token) → now ≡ fixed sep ∷ mid
    → ((x : X) (w : List Token) → EndsX w → mid ≡ one_then x w → Y) → (xs : List X) → now ≡ x_then xs z → Y
one_free x_then one_then EndsX sep nil cons z lacks ends now mid takes f [] here = absurd (lacks mid (sym (here ∙ nil z) ∙ takes))
one_free x_then one_then EndsX sep nil cons z lacks ends now mid takes f (x ∷ xs) here =
    let g : now ≡ fixed sep ∷ one_then x (x_then xs z) = here ∙ cons x xs z in
    let s : mid ≡ one_then x (x_then xs z) = cc in
    f x (x_then xs z) (ends xs) s

pub list_free : {A X V Y : Type 0} (a_then : A → List Token → List Token) (Ends : List Token → Type 0) (values : A → List V) (x_then : List X → List Token → List Token) (x_values : List X → List V) (one_then : X → List Token → List Token) (EndsX : List Token → Type 0) (sep : Sign)
    → ((z : List Token) → x_then [] z ≡ z) → ((x : X) (xs : List X) (z : List Token) → x_then (x ∷ xs) z ≡ fixed sep ∷ one_then x (x_then xs z))
    → ((z : List Token) → Ends z → Lacks (fixed sep) z) → ((xs : List X) (z : List Token) → Ends z → EndsX (x_then xs z)) → (old now mid : List Token) (items : List V) → Listing a_then Ends values x_then x_values old now items → now ≡ fixed sep ∷ mid
    → ((x : X) (w : List Token) → EndsX w → mid ≡ one_then x w → Y) → (a : A) (z : List Token) → Ends z → old ≡ a_then a z → Y
list_free a_then Ends values x_then x_values one_then EndsX sep nil cons lacks ends old now mid items listing takes f a z end e =
    let g = listing a z end e in one_free x_then one_then EndsX sep nil cons z (lacks z end) (λ xs. ends xs z end) now mid takes f g.0 g.1

all_read : {X V : Type 0} (x_then : List X → List Token → List Token) (x_values : List X → List V) (one_then : X → List Token → List Token) (sep : Sign)
    → ((z : List Token) → x_then [] z ≡ z) → ((x : X) (xs : List X) (z : List Token) → x_then (x ∷ xs) z ≡ fixed sep ∷ one_then x (x_then xs z)) → x_values [] ≡ [] → (z now new : List Token) (all items v : List V) → (new ≡ now) × Lacks (fixed sep) now → v ≡ items
    → (xs : List X) → now ≡ x_then xs z → all ≡ items ++ x_values xs → (new ≡ z) × (v ≡ all)
all_read x_then x_values one_then sep nil cons vnil z now new all items v left is [] here so = (left.0 ∙ here ∙ nil z, is ∙ sym (so ∙ ap (λ t. items ++ t) vnil ∙ append-nil items))
all_read x_then x_values one_then sep nil cons vnil z now new all items v left is (x ∷ xs) here so = absurd (left.1 _ (here ∙ cons x xs z))

pub list_end : {A X V : Type 0} (a_then : A → List Token → List Token) (Ends : List Token → Type 0) (values : A → List V) (x_then : List X → List Token → List Token) (x_values : List X → List V) (one_then : X → List Token → List Token) (sep : Sign)
    → ((z : List Token) → x_then [] z ≡ z) → ((x : X) (xs : List X) (z : List Token) → x_then (x ∷ xs) z ≡ fixed sep ∷ one_then x (x_then xs z)) → x_values [] ≡ [] → (old now new : List Token) (items v : List V) → Listing a_then Ends values x_then x_values old now items
    → (new ≡ now) × Lacks (fixed sep) now → v ≡ items → (a : A) (z : List Token) → Ends z → old ≡ a_then a z → (new ≡ z) × (v ≡ values a)
list_end a_then Ends values x_then x_values one_then sep nil cons vnil old now new items v listing left is a z end e =
    let g = listing a z end e in all_read x_then x_values one_then sep nil cons vnil z now new (values a) items v left is g.0 g.1 g.2

-- an item

abbrev only : List ℕ → G.Expr
only n = G.expr (G.conj (G.cmp (G.sum (G.prod (G.atom (G.column n)) G.no_factor) G.no_term) G.no_test) G.no_and) G.no_or

pub item_free : {X : Type 0} (old : List Token) → ((x : G.Expr) (w : List Token) → rank w < 1 → old ≡ expr_then x w → X) → (i : G.Item) (z : List Token) → ends_item z ≡ true → old ≡ item_then i z → X
item_free old f (G.alone n) z ends e = f (only n) z (low_item z ends) e
item_free old f (G.named x n) z ends e = f x (fixed S.As ∷ name n ∷ z) (low_as (name n ∷ z)) e

pub item_name_free : {X : Type 0} (old mid now : List Token) (tree : List TreeNode) → ((x : G.Expr) (w : List Token) → rank w < 1 → old ≡ expr_then x w → (mid ≡ w) × (tree ≡ tree_of x)) → mid ≡ fixed S.As ∷ now
    → ((n : List ℕ) (w : List Token) → Unit {0} → now ≡ name_then n w → X) → (i : G.Item) (z : List Token) → ends_item z ≡ true → old ≡ item_then i z → X
item_name_free old mid now tree f takes g (G.alone n) z ends e = let u = f (only n) z (low_item z ends) e in absurd (no_as z ends now (sym u.0 ∙ takes))
item_name_free old mid now tree f takes g (G.named x n) z ends e =
    let u = f x (fixed S.As ∷ name n ∷ z) (low_as (name n ∷ z)) e in
    let s : now ≡ name n ∷ z = let v = u.0 in cc in g n z tt s

pub item_named : (old mid now new : List Token) (tree : List TreeNode) (v : List ℕ) → ((x : G.Expr) (w : List Token) → rank w < 1 → old ≡ expr_then x w → (mid ≡ w) × (tree ≡ tree_of x)) → mid ≡ fixed S.As ∷ now
    → ((n : List ℕ) (w : List Token) → Unit {0} → now ≡ name_then n w → (new ≡ w) × (v ≡ n)) → (i : G.Item) (z : List Token) → ends_item z ≡ true → old ≡ item_then i z → (new ≡ z) × (record { name = v; tree = tree } ≡ item_of i)
item_named old mid now new tree v f takes g (G.alone n) z ends e = let u = f (only n) z (low_item z ends) e in absurd (no_as z ends now (sym u.0 ∙ takes))
item_named old mid now new tree v f takes g (G.named x n) z ends e =
    let u = f x (fixed S.As ∷ name n ∷ z) (low_as (name n ∷ z)) e in
    let s : now ≡ name n ∷ z = let q = u.0 in cc in
    let w = g n z tt s in (w.0, rw (w.1, u.1) refl)

pub item_alone : (old mid new : List Token) (tree : List TreeNode) (v : List ℕ) → IsAhead (Some v) old → ((x : G.Expr) (w : List Token) → rank w < 1 → old ≡ expr_then x w → (mid ≡ w) × (tree ≡ tree_of x)) → (new ≡ mid) × Lacks (fixed S.As) mid
    → (i : G.Item) (z : List Token) → ends_item z ≡ true → old ≡ item_then i z → (new ≡ z) × (record { name = v; tree = tree } ≡ item_of i)
item_alone old mid new tree v ahead f left (G.alone n) z ends e =
    let u = f (only n) z (low_item z ends) e in
    let s : v ≡ n = let q = ahead.1 in cc in
    (left.0 ∙ u.0, rw (s, u.1) refl)
item_alone old mid new tree v ahead f left (G.named x n) z ends e = let u = f x (fixed S.As ∷ name n ∷ z) (low_as (name n ∷ z)) e in absurd (left.1 _ u.0)

pub item_lost : (old mid : List Token) (tree : List TreeNode) → IsAhead None old → ((x : G.Expr) (w : List Token) → rank w < 1 → old ≡ expr_then x w → (mid ≡ w) × (tree ≡ tree_of x)) → Lacks (fixed S.As) mid
    → (i : G.Item) (z : List Token) → ends_item z ≡ true → old ≡ item_then i z → ⊥
item_lost old mid tree ahead f left (G.alone n) z ends e = ahead n z e
item_lost old mid tree ahead f left (G.named x n) z ends e = let u = f x (fixed S.As ∷ name n ∷ z) (low_as (name n ∷ z)) e in left _ u.0

-- an aggregate, by its first word

pub agg_count : (P : G.Agg → List Token → Type 0) (old mid : List Token) → old ≡ fixed S.Count ∷ mid → ((n : List ℕ) (z : List Token) → mid ≡ as_then n z → P (G.count n) z) → (a : G.Agg) (z : List Token) → Unit {0} → old ≡ agg_then a z → P a z
agg_count P old mid takes f (G.count n) z end e = let s : mid ≡ as_then n z = cc in f n z s
agg_count P old mid takes f (G.of_column g c n) z end e = let t : S.Count ≡ fun_sign g = cc in absurd (no_count g t)

pub agg_column : (g : G.Fun) (P : G.Agg → List Token → Type 0) (old mid : List Token) → old ≡ fixed (fun_sign g) ∷ mid → ((c n : List ℕ) (z : List Token) → mid ≡ computed_then (c, n) z → P (G.of_column g c n) z) → (a : G.Agg) (z : List Token) → Unit {0} → old ≡ agg_then a z → P a z
agg_column g P old mid takes f (G.of_column h c n) z end e =
    let t : fun_sign g ≡ fun_sign h = cc in
    let s : mid ≡ computed_then (c, n) z = cc in
    subst (λ k. P (G.of_column k c n) z) (one_fun g h t) (f c n z s)
agg_column g P old mid takes f (G.count n) z end e = let t : S.Count ≡ fun_sign g = cc in absurd (no_count g t)

-- a step, by its first word

pub step_where : (P : G.Step → List Token → Type 0) (old mid : List Token) → old ≡ fixed S.Where ∷ mid → ((x : G.Expr) (z : List Token) → ends_step z ≡ true → mid ≡ expr_then x z → P (G.where_ x) z) → (s : G.Step) (z : List Token) → ends_step z ≡ true → old ≡ step_then s z → P s z
step_where P old mid takes f (G.where_ x) z end e = let s : mid ≡ expr_then x z = cc in f x z end s
step_where P old mid takes f s z end e = absurd (no_other_step s z old 0 (ap step_at takes) e refl)

pub step_select : (P : G.Step → List Token → Type 0) (old mid : List Token) → old ≡ fixed S.Select ∷ mid → ((i : G.Item) (is : List G.Item) (z : List Token) → ends_step z ≡ true → mid ≡ select_then (i, is) z → P (G.select i is) z) → (s : G.Step) (z : List Token) → ends_step z ≡ true → old ≡ step_then s z → P s z
step_select P old mid takes f (G.select i is) z end e = let s : mid ≡ select_then (i, is) z = cc in f i is z end s
step_select P old mid takes f s z end e = absurd (no_other_step s z old 1 (ap step_at takes) e refl)

pub step_union : (P : G.Step → List Token → Type 0) (old mid : List Token) → old ≡ fixed S.Union ∷ mid → ((n : List ℕ) (z : List Token) → ends_step z ≡ true → mid ≡ name_then n z → P (G.union n) z) → (s : G.Step) (z : List Token) → ends_step z ≡ true → old ≡ step_then s z → P s z
step_union P old mid takes f (G.union n) z end e = let s : mid ≡ name_then n z = cc in f n z end s
step_union P old mid takes f s z end e = absurd (no_other_step s z old 2 (ap step_at takes) e refl)

pub step_delay : (P : G.Step → List Token → Type 0) (old mid : List Token) → old ≡ fixed S.Delay ∷ mid → ((n : ℕ) (z : List Token) → ends_step z ≡ true → mid ≡ int_then n z → P (G.delay n) z) → (s : G.Step) (z : List Token) → ends_step z ≡ true → old ≡ step_then s z → P s z
step_delay P old mid takes f (G.delay n) z end e = let s : mid ≡ int_then n z = cc in f n z end s
step_delay P old mid takes f s z end e = absurd (no_other_step s z old 3 (ap step_at takes) e refl)

pub step_duration : (P : G.Step → List Token → Type 0) (old mid : List Token) → old ≡ fixed S.Duration ∷ mid → ((n : ℕ) (z : List Token) → ends_step z ≡ true → mid ≡ int_then n z → P (G.duration n) z) → (s : G.Step) (z : List Token) → ends_step z ≡ true → old ≡ step_then s z → P s z
step_duration P old mid takes f (G.duration n) z end e = let s : mid ≡ int_then n z = cc in f n z end s
step_duration P old mid takes f s z end e = absurd (no_other_step s z old 4 (ap step_at takes) e refl)

pub step_extend : (P : G.Step → List Token → Type 0) (old mid : List Token) → old ≡ fixed S.Extend ∷ mid → ((n : ℕ) (z : List Token) → ends_step z ≡ true → mid ≡ int_then n z → P (G.extend n) z) → (s : G.Step) (z : List Token) → ends_step z ≡ true → old ≡ step_then s z → P s z
step_extend P old mid takes f (G.extend n) z end e = let s : mid ≡ int_then n z = cc in f n z end s
step_extend P old mid takes f s z end e = absurd (no_other_step s z old 5 (ap step_at takes) e refl)

pub step_tumble : (P : G.Step → List Token → Type 0) (old mid : List Token) → old ≡ fixed S.Tumble ∷ mid → ((n : ℕ) (z : List Token) → ends_step z ≡ true → mid ≡ int_then n z → P (G.tumble n) z) → (s : G.Step) (z : List Token) → ends_step z ≡ true → old ≡ step_then s z → P s z
step_tumble P old mid takes f (G.tumble n) z end e = let s : mid ≡ int_then n z = cc in f n z end s
step_tumble P old mid takes f s z end e = absurd (no_other_step s z old 6 (ap step_at takes) e refl)

pub step_hop : (P : G.Step → List Token → Type 0) (old mid : List Token) → old ≡ fixed S.Hop ∷ mid → ((n p : ℕ) (z : List Token) → ends_step z ≡ true → mid ≡ hop_then (n, p) z → P (G.hop n p) z) → (s : G.Step) (z : List Token) → ends_step z ≡ true → old ≡ step_then s z → P s z
step_hop P old mid takes f (G.hop n p) z end e = let s : mid ≡ hop_then (n, p) z = cc in f n p z end s
step_hop P old mid takes f s z end e = absurd (no_other_step s z old 7 (ap step_at takes) e refl)

pub step_session : (P : G.Step → List Token → Type 0) (old mid : List Token) → old ≡ fixed S.Session ∷ mid → ((n : ℕ) (b : G.By) (z : List Token) → ends_step z ≡ true → mid ≡ session_then (n, b) z → P (G.session n b) z) → (s : G.Step) (z : List Token) → ends_step z ≡ true → old ≡ step_then s z → P s z
step_session P old mid takes f (G.session n b) z end e = let s : mid ≡ session_then (n, b) z = cc in f n b z end s
step_session P old mid takes f s z end e = absurd (no_other_step s z old 8 (ap step_at takes) e refl)

pub step_clip : (P : G.Step → List Token → Type 0) (old mid : List Token) → old ≡ fixed S.Clip ∷ mid → ((n : List ℕ) (o : G.On) (z : List Token) → ends_step z ≡ true → mid ≡ operand_then (n, o) z → P (G.clip n o) z) → (s : G.Step) (z : List Token) → ends_step z ≡ true → old ≡ step_then s z → P s z
step_clip P old mid takes f (G.clip n o) z end e = let s : mid ≡ operand_then (n, o) z = cc in f n o z end s
step_clip P old mid takes f s z end e = absurd (no_other_step s z old 9 (ap step_at takes) e refl)

pub step_join : (P : G.Step → List Token → Type 0) (old mid : List Token) → old ≡ fixed S.Join ∷ mid → ((n : List ℕ) (o : G.On) (z : List Token) → ends_step z ≡ true → mid ≡ operand_then (n, o) z → P (G.join n o) z) → (s : G.Step) (z : List Token) → ends_step z ≡ true → old ≡ step_then s z → P s z
step_join P old mid takes f (G.join n o) z end e = let s : mid ≡ operand_then (n, o) z = cc in f n o z end s
step_join P old mid takes f s z end e = absurd (no_other_step s z old 10 (ap step_at takes) e refl)

pub step_anti : (P : G.Step → List Token → Type 0) (old mid : List Token) → old ≡ fixed S.Anti ∷ mid → ((n : List ℕ) (o : G.On) (z : List Token) → ends_step z ≡ true → mid ≡ operand_then (n, o) z → P (G.anti n o) z) → (s : G.Step) (z : List Token) → ends_step z ≡ true → old ≡ step_then s z → P s z
step_anti P old mid takes f (G.anti n o) z end e = let s : mid ≡ operand_then (n, o) z = cc in f n o z end s
step_anti P old mid takes f s z end e = absurd (no_other_step s z old 11 (ap step_at takes) e refl)

pub step_group : (P : G.Step → List Token → Type 0) (old mid : List Token) → old ≡ fixed S.Group ∷ mid → ((b : G.By) (a : G.Agg) (as_ : List G.Agg) (z : List Token) → ends_step z ≡ true → mid ≡ group_then (b, a, as_) z → P (G.group b a as_) z) → (s : G.Step) (z : List Token) → ends_step z ≡ true → old ≡ step_then s z → P s z
step_group P old mid takes f (G.group b a as_) z end e = let s : mid ≡ group_then (b, a, as_) z = cc in f b a as_ z end s
step_group P old mid takes f s z end e = absurd (no_other_step s z old 12 (ap step_at takes) e refl)

pub step_coalesce : (P : G.Step → List Token → Type 0) (old mid : List Token) → old ≡ fixed S.Coalesce ∷ mid → ((z : List Token) → ends_step z ≡ true → mid ≡ z → P G.coalesce z) → (s : G.Step) (z : List Token) → ends_step z ≡ true → old ≡ step_then s z → P s z
step_coalesce P old mid takes f G.coalesce z end e = let s : mid ≡ z = cc in f z end s
step_coalesce P old mid takes f s z end e = absurd (no_other_step s z old 13 (ap step_at takes) e refl)

pub step_left : (P : G.Step → List Token → Type 0) (old mid : List Token) → old ≡ fixed S.Left ∷ mid → ((n : List ℕ) (o : G.On) (x : G.Else) (z : List Token) → ends_step z ≡ true → mid ≡ left_then (n, o, x) z → P (G.left n o x) z) → (s : G.Step) (z : List Token) → ends_step z ≡ true → old ≡ step_then s z → P s z
step_left P old mid takes f (G.left n o x) z end e = let s : mid ≡ left_then (n, o, x) z = cc in f n o x z end s
step_left P old mid takes f s z end e = absurd (no_other_step s z old 14 (ap step_at takes) e refl)

pub step_top : (P : G.Step → List Token → Type 0) (old mid : List Token) → old ≡ fixed S.Top ∷ mid → ((n : ℕ) (p : G.Per) (c : List ℕ) (z : List Token) → ends_step z ≡ true → mid ≡ top_then (n, p, c) z → P (G.top n p c) z) → (s : G.Step) (z : List Token) → ends_step z ≡ true → old ≡ step_then s z → P s z
step_top P old mid takes f (G.top n p c) z end e = let s : mid ≡ top_then (n, p, c) z = cc in f n p c z end s
step_top P old mid takes f s z end e = absurd (no_other_step s z old 15 (ap step_at takes) e refl)

pub step_follow : (P : G.Step → List Token → Type 0) (old mid : List Token) → old ≡ fixed S.Follow ∷ mid → ((n : List ℕ) (o : G.On) (m : ℕ) (z : List Token) → ends_step z ≡ true → mid ≡ follow_then (n, o, m) z → P (G.follow n o m) z) → (s : G.Step) (z : List Token) → ends_step z ≡ true → old ≡ step_then s z → P s z
step_follow P old mid takes f (G.follow n o m) z end e = let s : mid ≡ follow_then (n, o, m) z = cc in f n o m z end s
step_follow P old mid takes f s z end e = absurd (no_other_step s z old 16 (ap step_at takes) e refl)

-- what stands behind a key

pub no_on_else : (x : G.Else) (z : List Token) → ends_step z ≡ true → Lacks (fixed S.On) (else_then x z)
no_on_else G.no_else z h = no_on z h
no_on_else (G.else_ l ls) z h = λ w e. cc

pub no_comma_else : (x : G.Else) (z : List Token) → ends_step z ≡ true → Lacks (fixed S.Comma) (else_then x z)
no_comma_else G.no_else z h = no_comma z h
no_comma_else (G.else_ l ls) z h = λ w e. cc

pub no_else : (z : List Token) → ends_step z ≡ true → Lacks (fixed S.Else) z
no_else z h = λ w e. let q : false ≡ true = sym (ap ends_step e) ∙ h in cc

pub no_per_by : (z : List Token) → Lacks (fixed S.Per) (fixed S.By ∷ z)
no_per_by z = λ w e. cc

pub no_comma_by : (z : List Token) → Lacks (fixed S.Comma) (fixed S.By ∷ z)
no_comma_by z = λ w e. cc

pub no_on_within : (z : List Token) → Lacks (fixed S.On) (fixed S.Within ∷ z)
no_on_within z = λ w e. cc

pub no_comma_within : (z : List Token) → Lacks (fixed S.Comma) (fixed S.Within ∷ z)
no_comma_within z = λ w e. cc

pub else_some : (P : G.Else → List Token → Type 0) (old mid : List Token) → old ≡ fixed S.Else ∷ mid → ((l : G.Lit) (ls : List G.Lit) (z : List Token) → Lacks (fixed S.Comma) z → mid ≡ lit_list_then (l, ls) z → P (G.else_ l ls) z)
    → (x : G.Else) (z : List Token) → Lacks (fixed S.Else) z × Lacks (fixed S.Comma) z → old ≡ else_then x z → P x z
else_some P old mid takes f G.no_else z end e = absurd (end.0 mid (sym e ∙ takes))
else_some P old mid takes f (G.else_ l ls) z end e = let s : mid ≡ lit_list_then (l, ls) z = cc in f l ls z end.1 s

-- a literal is spelled as in an expression
pub lit_spelled : (l : G.Lit) (z : List Token) → lit_then l z ≡ unary_then (unary_of l) z
lit_spelled (G.int_lit n) z = refl
lit_spelled (G.minus_int n) z = refl
lit_spelled (G.dec_lit u p) z = refl
lit_spelled (G.minus_dec u p) z = refl
lit_spelled (G.text_lit s) z = refl
lit_spelled G.true_lit z = refl
lit_spelled G.false_lit z = refl

-- how many tokens are left

pub fewer_two : (old mid new : List Token) → length new ≤ length mid → length mid ≤ length old → length new ≤ length old
fewer_two old mid new h k = omega arith

pub fewer_step : (t : Token) (old now mid new : List Token) → now ≡ t ∷ mid → length new ≤ length mid → length now ≤ length old → length new ≤ length old
fewer_step t old now mid new e h k = let f : length now ≡ suc (length mid) = ap length e in omega arith
