-- `log_domain::add_against` meets its contract.
use mathlib.Core.Path.{refl, sym, ◌∙◌}
use native.Mathlib.Omega.{arith}
use Rattle.sat.specs.Fresh.{fresh}
use Rattle.clause_set.proofs.Writing.{closed_clause}
use Rattle.log_encoding.specs.Domain.{against}
use Rattle.log_domain.proofs.Steps.{against_long, against_start, against_stored, against_turn}
use Rattle.log_domain.proofs.add_against.Goals as goal

pub loop-i-init : goal.loop-i-init
loop-i-init c = let a = c.args in let s = a.set.now in against_start s.lits.now s.used.lits a.n a.first.0 a.k

pub loop-i-preserved : goal.loop-i-preserved
loop-i-preserved c =
    let a = c.args in
    let l = c.loop-i in
    l.invariant ∙ against_turn l.lits a.set.now.used.lits a.n a.first.0 l.i l.x c.loop-i-test.true c.as_lit-l.ensures c.put.ensures

pub close-requires : goal.close-requires
close-requires c =
    let a = c.args in
    let f = c.requires.fits in
    (omega (arith, f.lits, against_long a.n a.first.0 a.k), omega (arith, f.clauses))

pub returns : goal.returns
returns c =
    let a = c.args in
    let l = c.loop-i in
    let s = a.set.now in
    closed_clause (against (fresh a.n a.first.0) a.k) c.close.ensures (sym (against_long a.n a.first.0 a.k)) refl
    (against_stored s.lits.now l.lits s.used.lits a.n a.first.0 l.i a.k l.x c.loop-i-test.false l.invariant)
    refl refl refl refl
