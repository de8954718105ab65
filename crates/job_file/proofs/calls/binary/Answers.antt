-- `job_file::calls::binary` meets its contract.
use mathlib.Core.Path.{◌∙◌}
use mir.Syntax.{w32}
use mir.ValLaws.{to_z-of_z}
use Rattle.job_file.proofs.Called.{binary_called}
use Rattle.job_file.proofs.calls.binary.Goals as goal

pub returns : goal.returns
returns c =
    let a = c.args in
    binary_called a.env a.lits.now a.ends.now a.s.now c.word-cond.ensures.0 (to_z-of_z w32 _ (record { sfits = c.signed_word-f.type_inv }) ∙ c.signed_word-f.ensures) (to_z-of_z w32 _ (record { sfits = c.signed_word-t.type_inv }) ∙ c.signed_word-t.ensures) c.encode_binary.ensures
