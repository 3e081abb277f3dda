use Rattle.std.proofs.Common.{◌++◌, ◌∷◌, [], List, ℕ, map, take, ◌∙◌, sym, ap, subst}
use Rattle.std.proofs.lemmas.List.{map-append}
use Rattle.checkpoint.specs.Lines.{query_line}
use Rattle.checkpoint.specs.Form.{most_of_query, query_lines}
use Rattle.checkpoint.proofs.Pieces.{IsCut, cut_more, cut_all, cut_rest, is_nothing, is_something}
use Rattle.checkpoint.proofs.form.push_query.Goals as goal

pub loop-rest-preserved : goal.loop-rest-preserved
loop-rest-preserved c =
    let rest = c.loop-rest.rest.now in
    let cut = cut_rest c.min.result most_of_query rest c.min.ensures in
    let line = c.in_ok-push_query_line.ensures ∙ ap (λ (l : List ℕ). l ++ query_line c.split_at.result.0.now) c.new-line.ensures.items
    ∙ ap query_line (c.split_at.ensures.front ∙ cut.0) in
    let head = ap (map (λ line. line.items)) c.in_ok-push.ensures.items ∙ map-append (λ line. line.items) c.loop-rest.head.items (c.push_query_line.new.out ∷ [])
    ∙ ap (λ (l : List ℕ). map (λ line. line.items) c.loop-rest.head.items ++ l ∷ []) line in
    let all = map (λ line. line.items) c.args.head.now.items ++ query_lines c.args.query.now in
    let more = cut_more (map (λ line. line.items) c.loop-rest.head.items) rest all (is_something rest (sym c.loop-rest-test.ensures)) c.loop-rest.invariant in
    subst (λ (h : List (List ℕ)). IsCut h c.split_at.result.1.now all) (sym head)
    (subst (λ (r : List ℕ). IsCut (map (λ line. line.items) c.loop-rest.head.items ++ query_line (take most_of_query rest) ∷ []) r all) (sym (c.split_at.ensures.back ∙ cut.1)) more)

pub returns : goal.returns
returns c = cut_all _ c.loop-rest.rest.now _ (is_nothing c.loop-rest.rest.now (sym c.loop-rest-test.ensures)) c.loop-rest.invariant
