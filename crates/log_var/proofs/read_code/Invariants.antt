-- `log_var::read_code` meets its contract.
use Rattle.std.specs.Iterator.Adapters.{rev_source}
use Rattle.std.specs.Slice.Iter.{iter_rest}
use Rattle.log_var.proofs.Reading.{Read}
use Rattle.log_var.proofs.read_code.Given as goal

abbrev pub invariant-loop-l : goal.invariant-loop-l
invariant-loop-l l = Read l.assignment l.lits (iter_rest (rev_source l.l-iterator)) l.k
