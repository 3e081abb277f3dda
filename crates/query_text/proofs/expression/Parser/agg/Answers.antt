use Rattle.query_text.specs.Grammar as G
use Rattle.query_text.proofs.Pipes as Q
use Rattle.query_text.proofs.expression.Parser.agg.Goals as goal

pub returns-in-Some-Count-clause-reads : goal.returns-in-Some-Count-clause-reads
returns-in-Some-Count-clause-reads c = Q.agg_count _ _ _ (rw c.in-Some-Count.field-0-is at c.in-Some-Count.ensures).0 (λ n z s. c.counted.ensures.reads n z tt s)

pub returns-in-Some-Sum-clause-reads : goal.returns-in-Some-Sum-clause-reads
returns-in-Some-Sum-clause-reads c = Q.agg_column G.sum_ _ _ _ (rw c.in-Some-Sum.field-0-is at c.in-Some-Sum.ensures).0 (λ m n z s. c.computed.ensures.reads (m, n) z tt s)

pub returns-in-Some-Min-clause-reads : goal.returns-in-Some-Min-clause-reads
returns-in-Some-Min-clause-reads c = Q.agg_column G.min_ _ _ _ (rw c.in-Some-Min.field-0-is at c.in-Some-Min.ensures).0 (λ m n z s. c.computed-in-Some-Min.ensures.reads (m, n) z tt s)

pub returns-in-Some-Max-clause-reads : goal.returns-in-Some-Max-clause-reads
returns-in-Some-Max-clause-reads c = Q.agg_column G.max_ _ _ _ (rw c.in-Some-Max.field-0-is at c.in-Some-Max.ensures).0 (λ m n z s. c.computed-in-Some-Max.ensures.reads (m, n) z tt s)

pub returns-in-Some-Avg-clause-reads : goal.returns-in-Some-Avg-clause-reads
returns-in-Some-Avg-clause-reads c = Q.agg_column G.avg_ _ _ _ (rw c.in-Some-Avg.field-0-is at c.in-Some-Avg.ensures).0 (λ m n z s. c.computed-in-Some-Avg.ensures.reads (m, n) z tt s)
