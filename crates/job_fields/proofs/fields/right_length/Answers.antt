-- `job_fields::fields::right_length` meets its contract.
use native.Mathlib.Omega.{arith}
use Prim.Native.Nat.{◌%◌}
use borrow.Author.Tests.{le-leb, lt-leb}
use lib.Dec.{eqb}
use mathlib.Core.Bool.{false}
use mathlib.Core.Path.{◌∙◌, ◌≡◌}
use Rattle.job_fields.specs.Fields.{right_length}
use Rattle.job_fields.proofs.Places.{at_tag, no_tag}
use Rattle.job_fields.proofs.fields.right_length.Goals as goal

pub returns-then-n-lt5 : goal.returns-then-n-lt5
unfolding right_length
returns-then-n-lt5 c =
    let a = c.args in
    let e : false ≡ right_length 5 a.n = rw (lt-leb 5 a.n c.if-n-lt5.true) in
    e ∙ at_tag a.tag 5 a.n c.in-5.is

pub returns-in-1 : goal.returns-in-1
unfolding right_length
returns-in-1 c = let a = c.args in at_tag a.tag 1 a.n c.in-1.is

pub returns-in-2 : goal.returns-in-2
unfolding right_length
returns-in-2 c = let a = c.args in at_tag a.tag 2 a.n c.in-2.is

pub returns-in-3 : goal.returns-in-3
unfolding right_length
returns-in-3 c = let a = c.args in at_tag a.tag 3 a.n c.in-3.is

pub returns-in-4 : goal.returns-in-4
unfolding right_length
returns-in-4 c = let a = c.args in at_tag a.tag 4 a.n c.in-4.is

pub returns-else-n-lt5 : goal.returns-else-n-lt5
unfolding right_length
returns-else-n-lt5 c =
    let a = c.args in
    let e : eqb (a.n % 3) 2 ≡ right_length 5 a.n = rw (le-leb 5 a.n c.if-n-lt5.false) in
    e ∙ at_tag a.tag 5 a.n c.in-5.is

pub returns-in-6 : goal.returns-in-6
unfolding right_length
returns-in-6 c = let a = c.args in at_tag a.tag 6 a.n c.in-6.is

pub returns-in_default : goal.returns-in_default
returns-in_default c = no_tag _ _ (omega arith) (omega arith) (omega arith) (omega arith) (omega arith) (omega arith)
