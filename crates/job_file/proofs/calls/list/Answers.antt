-- `job_file::calls::list` meets its contract.
use lib.Dec.{lit<}
use lib.IntN.{pos}
use lib.ListN.{replicate}
use Rattle.job_file.proofs.Called.{list_called, list_many}
use Rattle.job_file.proofs.calls.list.Goals as goal

pub returns-in-Some : goal.returns-in-Some
returns-in-Some c =
    let a = c.args in
    list_called a.env a.lits.now a.ends.now a.s.now c.in-Some.ensures.2 c.encode_list.ensures

pub returns-in-None : goal.returns-in-None
returns-in-None c =
    let a = c.args in
    list_many a.env a.lits.now a.ends.now a.s.now (replicate 65 (pos 0)) (lit< tt) c.in-None.ensures c.encode_list-in-None.ensures
