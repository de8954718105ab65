-- `job_print::print_job` meets its contract.
use native.Mathlib.Omega.{arith}
use Rattle.job_print.proofs.Whole.{job_printed}
use borrow.Author.Rules.{rules}
use Rattle.job_print.proofs.print_job.Goals as goal

pub returns : goal.returns
returns c =
    let f = c.print_file in
    job_printed _ c.args.out.now _ f.result (omega (arith, c.requires)) (search rules) f.ensures
