-- `job_values::put_none` meets its contract.
use borrow.Author.Rules.{rules}
use Rattle.text.proofs.Laws.{written_by}
use Rattle.job_values.specs.Values.{none_line}
use Rattle.job_values.proofs.put_none.Goals as goal

pub returns : goal.returns
returns c = written_by none_line c.args.out.now c.new-w.ensures.text c.put_bytes.ensures (search rules)
