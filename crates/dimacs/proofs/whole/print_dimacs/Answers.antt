-- `dimacs::whole::print_dimacs` meets its contract.
use Rattle.std.proofs.Common.{rules}
use Rattle.text.proofs.Laws.{not_printed, printed_by}
use Rattle.dimacs.proofs.whole.print_dimacs.Goals as goal

pub returns-then-size-out : goal.returns-then-size-out
returns-then-size-out c =
    printed_by _ _ c.dimacs_length-size.ensures c.if-size-out.true c.new.ensures.text c.put_dimacs.ensures (search rules)

pub returns-else-size-out : goal.returns-else-size-out
returns-else-size-out c = not_printed _ _ c.dimacs_length-size.ensures c.if-size-out.false
