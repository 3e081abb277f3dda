use Rattle.shard_apply.proofs.Stepped.{works_where_ok, stepped_with}
use Rattle.shard_apply.proofs.shard.Shard.take.Goals as goal

pub returns-clause-stepped : goal.returns-clause-stepped
returns-clause-stepped g c =
    let s = c.step.ensures in
    stepped_with (g.O.Operator.standing c.args.self.now.operator) (g.O.Operator.standing c.step.new.self)
    (g.O.Operator.keeps c.args.self.now.operator) (g.O.Operator.keeps c.step.new.self)
    _ c.in_ok-left.left.edges _ c.in_ok-right.right.edges c.args.news.now.left_to c.args.news.now.right_to c.step.result
    c.in_ok-left.ensures.edges c.in_ok-right.ensures.edges (record {
      kept = s.kept;
      between = s.between;
      defined = s.defined;
      overflow = s.overflow;
      group = s.group;
      kinds = s.kinds;
      capacity = s.capacity;
      left_to = s.left_to;
      right_to = s.right_to;
      works = works_where_ok c.step.result (g.O.Operator.standing c.step.new.self).has_failed s.failed;
      like = s.like;
    })
