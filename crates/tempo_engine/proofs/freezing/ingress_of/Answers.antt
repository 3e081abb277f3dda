use Rattle.std.specs.Prelude.{◌≤◌, ℕ}
use Rattle.std.proofs.Common.{sym, subst, inl, inr, arith}
use Rattle.tw_rows.specs.Instant.{inf}
use Rattle.row_reader.proofs.ReadBack.{inf-is}
use Rattle.row_reader.specs.Printed.{IsEnd}
use Rattle.ingress.specs.Saving.{Resumes}
use Rattle.tempo_engine.specs.Frozen.{time_at}
use Rattle.tempo_engine.proofs.freezing.ingress_of.Goals as goal

end_within : (t : ℕ) → IsEnd t → t ≤ inf
end_within t (inl h) = omega (arith, inf-is, h)
end_within t (inr h) = omega (arith, h)

pub new-requires-clause-capacity : goal.new-requires-clause-capacity
new-requires-clause-capacity c = c.requires.batch

pub returns-in-Ok-clause-admits : goal.returns-in-Ok-clause-admits
returns-in-Ok-clause-admits c = λ texts a given resumes.
    let fixed = (rw c.streams.ensures.streams at c.in_ok-ingress.ensures.fixed) in
    c.in-Ok.ensures.admits texts a given
    (subst (λ x. Resumes x c.args.input.now (time_at c.args.bounds.now) (time_at c.args.marks.now) c.args.last texts a given) (sym fixed.cells) resumes)

pub returns-in-Ok-clause-low : goal.returns-in-Ok-clause-low
returns-in-Ok-clause-low c = subst (λ t. t ≤ inf) (sym c.in-Ok.ensures.released) (end_within c.args.last c.in-Ok.ensures.sound.time)
