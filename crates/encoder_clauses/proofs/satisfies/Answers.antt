-- `encoder_clauses::satisfies` meets its contract. The loop's invariant: the clauses passed hold, so what is left decides.
use Prim.Native.Nat.{◌+◌}
use lib.ListN.{length}
use mathlib.Core.Path.{◌∙◌, sym}
use native.Mathlib.Omega.{arith}
use Rattle.encoder_env.specs.Bounds.{WellFormed}
use Rattle.encoder_clauses.specs.Readable.{Readable}
use Rattle.encoder_clauses.proofs.Reading.{readable_is}
use Rattle.encoder_clauses.proofs.Walking.{clause_passes}
use Rattle.encoder_clauses.proofs.satisfies.Goals as goal
use Rattle.encoder_clauses.proofs.satisfies.Goals.{Start}

-- the job is well formed, and its clauses can be read
formed : (c : Start) → WellFormed c.args.env (length c.args.lits.now) (length c.args.ends.now) × Readable c.args.env c.args.lits.now c.args.ends.now
formed c = (readable_is c.args.env c.args.lits.now c.args.ends.now).0 c.requires

pub bounds-ends-k : goal.bounds-ends-k
bounds-ends-k c = let w = (formed (goal.at.bounds-ends-k c).Start).0 in omega (arith, w.clauses_in)

pub bounds-ends-k-in-loop-k : goal.bounds-ends-k-in-loop-k
bounds-ends-k-in-loop-k c = let w = (formed (goal.at.bounds-ends-k-in-loop-k c).Start).0 in omega (arith, w.clauses_in)

pub evaluate_part-requires : goal.evaluate_part-requires
evaluate_part-requires c =
    let f = formed (goal.at.evaluate_part-requires c).Start in
    let r = f.1.rising c.loop-k.k (omega arith) in
    (r, omega (arith, f.1.inside (c.loop-k.k + 1) (omega arith), f.0.literals_in))

pub loop-k-preserved : goal.loop-k-preserved
loop-k-preserved c =
    let l = c.loop-k in
    let e = c.evaluate_part in
    (omega arith, l.invariant.1 ∙ clause_passes c.args.assignment.now c.args.lits.now c.args.ends.now l.k c.args.env.clauses (omega arith) (sym e.ensures ∙ c.if-not-evaluate_part.false))
