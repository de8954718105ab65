-- `job_file::calls::call` meets its contract.
use Prim.Native.Nat.{◌%◌}
use borrow.Author.Tests.{eqb-true, leb-true}
use native.Mathlib.Omega.{arith}
use lib.Dec.{eqb, leb}
use lib.ListN.{length}
use mathlib.Core.Bool.{and-eq-true_iff}
use mathlib.Core.Path.{◌∙◌}
use Rattle.job_fields.specs.Fields.{right_length}
use Rattle.job_fields.proofs.Places.{at_tag, tag_6}
use Rattle.job_file.proofs.Called.{leaves, open_called, tag_called}
use Rattle.job_file.proofs.calls.call.Goals as goal

pub open-requires : goal.open-requires
unfolding right_length
open-requires c = let a = c.args in eqb-true _ 1 (at_tag a.tag 1 (length a.s.now) c.in-1.is ∙ c.requires)

pub range-requires : goal.range-requires
unfolding right_length
range-requires c = let a = c.args in eqb-true _ 4 (at_tag a.tag 2 (length a.s.now) c.in-2.is ∙ c.requires)

pub binary-requires : goal.binary-requires
unfolding right_length
binary-requires c = let a = c.args in eqb-true _ 6 (at_tag a.tag 4 (length a.s.now) c.in-4.is ∙ c.requires)

pub linear-requires : goal.linear-requires
unfolding right_length
linear-requires c =
    let a = c.args in
    let n = length a.s.now in
    let h = (and-eq-true_iff (leb 5 n) (eqb (n % 3) 2)).0 (at_tag a.tag 5 n c.in-5.is ∙ c.requires) in
    leb-true 5 n h.0

pub mul-requires : goal.mul-requires
mul-requires c = (tag_6 c.args.tag (length c.args.s.now) (omega arith) (omega arith) (omega arith) (omega arith) (omega arith) c.requires).1

pub returns-in-1 : goal.returns-in-1
returns-in-1 c =
    let a = c.args in
    leaves _ _ _ (tag_called a.env a.lits.now a.ends.now a.s.now a.tag 1 c.in-1.is (open_called a.env a.lits.now a.ends.now a.s.now c.«open».ensures))

pub returns-in-2 : goal.returns-in-2
returns-in-2 c = let a = c.args in leaves _ _ _ (tag_called a.env a.lits.now a.ends.now a.s.now a.tag 2 c.in-2.is c.range.ensures)

pub returns-in-3 : goal.returns-in-3
returns-in-3 c = let a = c.args in leaves _ _ _ (tag_called a.env a.lits.now a.ends.now a.s.now a.tag 3 c.in-3.is c.list.ensures)

pub returns-in-4 : goal.returns-in-4
returns-in-4 c = let a = c.args in leaves _ _ _ (tag_called a.env a.lits.now a.ends.now a.s.now a.tag 4 c.in-4.is c.binary.ensures)

pub returns-in-5 : goal.returns-in-5
returns-in-5 c = let a = c.args in leaves _ _ _ (tag_called a.env a.lits.now a.ends.now a.s.now a.tag 5 c.in-5.is c.linear.ensures)

pub returns-in_default : goal.returns-in_default
returns-in_default c =
    let a = c.args in
    let e = tag_6 a.tag (length a.s.now) (omega arith) (omega arith) (omega arith) (omega arith) (omega arith) c.requires in
    leaves _ _ _ (tag_called a.env a.lits.now a.ends.now a.s.now a.tag 6 e.0 c.mul.ensures)
