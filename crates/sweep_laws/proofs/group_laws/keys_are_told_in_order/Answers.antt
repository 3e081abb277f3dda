use Rattle.sweep_laws.specs.Running.{end_part, kept, start_part, begun_at}
use Rattle.sweep_laws.proofs.RunOrder.{ends_order, starts_order}
use Rattle.sweep_laws.proofs.Passing.{told_nothing, fine_more}
use Rattle.sweep_laws.proofs.group_laws.keys_are_told_in_order.Goals as goal

pub returns : goal.returns
returns g c = record {
  ends = ends_order;
  starts = starts_order;
  none = λ key same t o run answer. (told_nothing key same (λ k x. kept (o k) x) (λ k x. end_part t (o k) x) run answer, told_nothing key same (λ k x. begun_at t (o k) x) (λ k x. start_part t (o k) x) run answer);
  all = fine_more;
}
