-- `encoder_read::clause` meets its contract.
use mathlib.Core.Path.{sym}
use native.Mathlib.Omega.{arith}
use lib.ListN.{length}
use Rattle.encoder_read.proofs.Known.{clause_within}
use Rattle.encoder_read.proofs.clause.Goals as goal

pub slice_bounds-result-end : goal.slice_bounds-result-end
slice_bounds-result-end c =
    let a = c.args in
    let f = c.in_ok-begin.ensures in
    let w = clause_within a.env (length a.lits.now) a.ends.now a.k (sym f.number) in
    omega (arith, w, f.places)
