use Rattle.std.proofs.Common.{◌≡◌, ◌+◌, ◌-◌, take, drop, filter, sym, ap, subst, ◌∙◌, arith}
use Rattle.synopsis.specs.Held.{is_of_key}
use Rattle.synopsis.specs.Few.{FewRows, AllPass, IsOver, AreTogether}
use Rattle.synopsis.proofs.Together.{rows_of_key, rest_all}
use Rattle.synopsis.proofs.few.Few.rows_with.Goals as goal

pub returns : goal.returns
returns c =
    let columns = c.as_slice-columns.result.now in
    let rows = c.as_slice-rows.result.now in
    let key = c.args.key.now in
    let p = is_of_key columns key in
    let a = c.first_with-first.result in
    let n = c.count_with-count.result in
    let same : a + n - a ≡ n = omega arith in
    let all : AllPass p (take n (drop a rows)) = subst (λ l. AllPass p (take n l)) (rest_all rows a) c.count_with-count.ensures.all in
    let over : IsOver p (drop n (drop a rows)) = subst (λ l. IsOver p (drop n l)) (rest_all rows a) c.count_with-count.ensures.next in
    let together : AreTogether columns rows = subst (λ k. AreTogether k rows) (sym c.as_slice-columns.ensures.value) (subst (AreTogether c.self.inside.columns.items) (sym c.as_slice-rows.ensures.value) c.self.invariant.together) in
    ap (λ k. take k (drop a rows)) same ∙ rows_of_key columns key rows a n c.first_with-first.ensures.before c.first_with-first.ensures.here all over together
    ∙ ap (λ k. filter (is_of_key k key) rows) c.as_slice-columns.ensures.value ∙ ap (filter (is_of_key c.self.inside.columns.items key)) c.as_slice-rows.ensures.value
    ∙ ap (λ (v : FewRows). filter (is_of_key v.columns key) v.rows) c.self.view_is
