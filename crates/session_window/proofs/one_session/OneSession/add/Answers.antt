use Rattle.std.proofs.Common.{◌≡◌, max, sym, subst, refl, rules}
use Rattle.tw_rows.specs.declared.edge.HeldRow.{HeldRow}
use Rattle.session_window.specs.Lasts.{IsLastStart}
use Rattle.session_window.proofs.OpenKeys.{last_more}
use Rattle.session_window.proofs.one_session.OneSession.add.Goals as goal

pub invariant_of-self-2 : goal.invariant_of-self-2
invariant_of-self-2 c =
    let r : HeldRow = record { cells = c.args.cells; start = c.args.start } in
    subst (λ n. IsLastStart n c.push.new.self.items) (sym (let g : c.max-self-inside.result ≡ max c.self.inside.last c.args.start = search rules in g))
    (subst (IsLastStart _) (sym c.in_ok-push.ensures.items) (last_more c.self.inside.last c.args.start c.self.inside.rows.items r refl c.self.invariant))
