-- `job_file::calls::mul` meets its contract.
use Rattle.job_file.proofs.Called.{mul_called}
use Rattle.job_file.proofs.calls.mul.Goals as goal

pub returns : goal.returns
returns c = let a = c.args in mul_called a.env a.lits.now a.ends.now a.s.now c.from-x.ensures c.from-y.ensures c.from-m.ensures c.encode_mul.ensures
