-- `job_file::calls::linear` meets its contract.
use lib.Dec.{lit<}
use lib.IntN.{pos}
use lib.ListN.{length-drop, replicate}
use mathlib.Core.Path.{◌∙◌}
use mir.Syntax.{w32}
use mir.ValLaws.{to_z-of_z}
use Rattle.job_file.proofs.Called.{behind_five, linear_called, linear_many}
use Rattle.job_file.proofs.calls.linear.Goals as goal

pub returns-in-Some : goal.returns-in-Some
returns-in-Some c =
    let a = c.args in
    linear_called a.env a.lits.now a.ends.now a.s.now c.from-op.ensures (to_z-of_z w32 _ (record { sfits = c.signed_long-constant.type_inv }) ∙ c.signed_long-constant.ensures)
    (rw (behind_five a.s.now) at c.in-Some.ensures.2) c.encode_linear.ensures

pub returns-in-None : goal.returns-in-None
returns-in-None c =
    let a = c.args in
    linear_many a.env a.lits.now a.ends.now a.s.now (replicate 14 (pos 0)) c.from-op.ensures (to_z-of_z w32 _ (record { sfits = c.signed_long-constant.type_inv }) ∙ c.signed_long-constant.ensures) (lit< tt)
    (rw (behind_five a.s.now, length-drop 5 a.s.now) at c.in-None.ensures) c.encode_linear-in-None.ensures
