-- `encoder_env::lits_fit` meets its contract.
use mathlib.Core.Path.{refl, sym}
use Rattle.encoder_env.specs.WellFormed.{all_below, lit_fits}
use Rattle.encoder_env.proofs.Tests.{all_more, all_fail, tests}
use native.Mathlib.Omega.{arith}
use borrow.Author.Rules.{rules}
use Rattle.encoder_env.proofs.lits_fit.Goals as goal
use Rattle.encoder_env.proofs.lits_fit.Goals.{then-i-len+else-variables-l, else-i-len+else-l-ne0}

pub loop-i-init : goal.loop-i-init
unfolding all_below
loop-i-init c = refl

pub returns-then-variables-l : goal.returns-then-variables-l
returns-then-variables-l c =
    let l = c.loop-i in let a = c.args in
    sym (all_fail (lit_fits a.variables a.len a.lits) 12 l.i (omega arith) (search (tests, rules)))

pub returns-then-l-ne0 : goal.returns-then-l-ne0
returns-then-l-ne0 c =
    let l = c.loop-i in let a = c.args in
    sym (all_fail (lit_fits a.variables a.len a.lits) 12 l.i (omega arith) (search (tests, rules)))

pub loop-i-preserved : goal.loop-i-preserved
loop-i-preserved c =
    let l = c.loop-i in let a = c.args in
    all_more (lit_fits a.variables a.len a.lits) l.i l.invariant (elim c.if-i-len.branch [ then-i-len+else-variables-l w ↦ search (tests, rules) | else-i-len+else-l-ne0 w ↦ search (tests, rules) ])
