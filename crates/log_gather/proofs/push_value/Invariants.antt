-- `log_gather::push_value` meets its contract.
use Rattle.sat.specs.LitArray.{first_lits}
use Rattle.log_encoding.specs.Gather.{push_value}
use Rattle.log_gather.specs.Arrays.{Pushed}
use Rattle.log_gather.proofs.push_value.Given as goal

abbrev pub invariant-loop-j : goal.invariant-loop-j
invariant-loop-j l = Pushed l.j l.initial.cols (push_value l.from (first_lits l.lits l.j)) l.cols
