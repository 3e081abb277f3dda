use Rattle.std.proofs.Common.{◌≡◌, ◌∷◌, ◌++◌, [], true, map, refl, ap, ◌∙◌}
use Rattle.query_text.specs.declared.word.Sign.TheVariants as S
use Rattle.query_text.specs.Grammar as G
use Rattle.query_text.specs.Spelling as M
use Rattle.query_text.specs.Reading as R
use Rattle.query_text.specs.Reading.{Lacks, Any, ends_step, ends_item, ends_pipe}
use Rattle.query_text.proofs.Steps as P
use Rattle.query_text.proofs.Queries.{ends_items}
use Rattle.query_text.proofs.Pipes as Q
use Rattle.query_text.proofs.expression.Parser.items.Goals as goal

pub returns-in_err-first-clause-reads : goal.returns-in_err-first-clause-reads
returns-in_err-first-clause-reads c = λ a z end e. P.failed c.in_err-first.field-0.0 _ _ c.from_residual.ensures.1 (P.not_stuck c.in_err-first.field-0.0 _ (c.in_err-first.ensures.reads a.0 _ (ends_items a.1 z end) e))

pub more-init : goal.more-init
more-init c = record { listing = Q.list_begins R.select_then (λ z. ends_step z ≡ true) (λ p. M.item_of p.0 ∷ map M.item_of p.1) G.items_then (map M.item_of) G.item_then (λ z. ends_item z ≡ true) M.item_of (λ p. p.0) (λ p. p.1) (λ a z. refl) (λ a. refl) (λ p z end. ends_items p.1 z end) _ _ _ _ c.in_ok-first.ensures.reads (c.in_ok-push.ensures.items ∙ ap (λ xs. xs ++ c.in_ok-first.first ∷ []) c.new-items.ensures.items); fewer = c.in_ok-first.ensures.fewer }

pub returns-in_err-next-clause-reads : goal.returns-in_err-next-clause-reads
returns-in_err-next-clause-reads c = λ a z end e. P.failed c.in_err-next.field-0.0 _ _ c.from_residual-in_err-next.ensures.1 (Q.list_free R.select_then (λ z. ends_step z ≡ true) (λ p. M.item_of p.0 ∷ map M.item_of p.1) G.items_then (map M.item_of) G.item_then (λ z. ends_item z ≡ true) S.Comma (λ z. refl) (λ x xs z. refl) Q.no_comma ends_items _ _ _ _ c.more.invariant.listing c.more-test.ensures (λ x w t s. P.not_stuck c.in_err-next.field-0.0 _ (c.in_err-next.ensures.reads x w t s)) a z end e)

pub more-preserved : goal.more-preserved
more-preserved c = record { listing = Q.list_more R.select_then (λ z. ends_step z ≡ true) (λ p. M.item_of p.0 ∷ map M.item_of p.1) G.items_then (map M.item_of) G.item_then (λ z. ends_item z ≡ true) M.item_of S.Comma (λ z. refl) (λ x xs z. refl) (λ x xs. refl) Q.no_comma ends_items _ _ _ _ _ _ _ c.more.invariant.listing c.more-test.ensures c.in_ok-next.ensures.reads c.in_ok-push-2.ensures.items; fewer = Q.fewer_step _ _ _ _ _ c.more-test.ensures c.in_ok-next.ensures.fewer c.more.invariant.fewer }

pub returns-clause-reads : goal.returns-clause-reads
returns-clause-reads c = Q.list_end R.select_then (λ z. ends_step z ≡ true) (λ p. M.item_of p.0 ∷ map M.item_of p.1) G.items_then (map M.item_of) G.item_then S.Comma (λ z. refl) (λ x xs z. refl) refl _ _ _ _ _ c.more.invariant.listing c.more-test.ensures c.from_vec.ensures
