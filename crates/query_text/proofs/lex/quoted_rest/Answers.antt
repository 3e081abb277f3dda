use Rattle.std.proofs.Common.{arith, inl, inr, rules}
use Rattle.query_text.proofs.Quoted.{at_end, at_line, at_other, at_last, at_closing, at_both}
use Rattle.query_text.proofs.lex.quoted_rest.Goals as goal

pub returns-then-b-eq10-clause-which : goal.returns-then-b-eq10-clause-which
returns-then-b-eq10-clause-which c = at_line c.bytes.at 0 c.args.bytes.now c.bytes-test.true (inl c.if-b-eq10.true) c.bytes.invariant.whole

pub returns-then-b-eq13-clause-which : goal.returns-then-b-eq13-clause-which
returns-then-b-eq13-clause-which c = at_line c.bytes.at 0 c.args.bytes.now c.bytes-test.true (inr c.if-b-eq13.true) c.bytes.invariant.whole

pub bytes-preserved-then-b-ne39 : goal.bytes-preserved-then-b-ne39
bytes-preserved-then-b-ne39 c = record { within = omega arith; whole = at_other c.bytes.at 0 c.args.bytes.now c.bytes-test.true (search rules) (search rules) (search rules) c.bytes.invariant.whole }

pub returns-then-at-bytes-clause-which : goal.returns-then-at-bytes-clause-which
returns-then-at-bytes-clause-which c = at_last c.bytes.at 0 c.args.bytes.now c.bytes-test.true (search rules) (omega arith) c.bytes.invariant.whole

pub returns-then-bytes-at-ne39-clause-which : goal.returns-then-bytes-at-ne39-clause-which
returns-then-bytes-at-ne39-clause-which c = at_closing c.bytes.at 0 c.args.bytes.now (omega arith) (search rules) (search rules) c.bytes.invariant.whole

pub bytes-preserved : goal.bytes-preserved
bytes-preserved c = record { within = omega arith; whole = at_both c.bytes.at 0 c.args.bytes.now (omega arith) (search rules) (search rules) c.bytes.invariant.whole }

pub returns-clause-which : goal.returns-clause-which
returns-clause-which c = at_end c.bytes.at c.args.bytes.now (omega arith) c.bytes.invariant.whole
