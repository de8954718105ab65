-- `job_file::calls::range` meets its contract.
use mathlib.Core.Path.{◌∙◌}
use mir.Syntax.{w32}
use mir.ValLaws.{to_z-of_z}
use Rattle.job_file.proofs.Called.{range_called}
use Rattle.job_file.proofs.calls.range.Goals as goal

pub returns : goal.returns
returns c =
    let a = c.args in
    range_called a.env a.lits.now a.ends.now a.s.now (to_z-of_z w32 _ (record { sfits = c.signed_word-low.type_inv }) ∙ c.signed_word-low.ensures) (to_z-of_z w32 _ (record { sfits = c.signed_word-high.type_inv }) ∙ c.signed_word-high.ensures) c.encode_range.ensures
