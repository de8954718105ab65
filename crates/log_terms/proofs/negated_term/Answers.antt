-- `log_terms::negated_term` meets its contract.
use borrow.Author.Rules.{rules}
use native.Mathlib.Omega.{arith}
use Rattle.log_gather.proofs.Steps.{shl_more}
use Rattle.log_terms.proofs.Gathering.{negated_is}
use Rattle.log_terms.proofs.negated_term.Goals as goal

pub overflow_sub-result : goal.overflow_sub-result
overflow_sub-result c =
    let t = c.args.t.now in
    let m = shl_more 0 t.bits.len t.coef (omega arith) in
    let e = c.doubled.ensures in
    search rules

pub returns-then-t : goal.returns-then-t
returns-then-t c =
    let t = c.args.t.now in
    let e = c.doubled.ensures in
    let n = negated_is t.coef t.bits.len in
    (rw c.if-t.true (omega (arith, e, n)), omega (arith, e, c.requires))
