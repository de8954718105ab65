-- `encoder_clauses::clauses_readable` meets its contract. The loop's invariant: the clauses passed can be read.
use Prim.Native.Nat.{◌+◌}
use lib.ListN.{length}
use mathlib.Core.Path.{◌∙◌, sym}
use native.Mathlib.Omega.{arith}
use Rattle.encoder_env.proofs.Kept.{Kept, kept}
use Rattle.encoder_clauses.proofs.Walking.{end_falls, literal_unknown, passed_all, passed_next, passed_none, passes_end}
use Rattle.encoder_clauses.proofs.clauses_readable.Goals as goal
use Rattle.encoder_clauses.proofs.clauses_readable.Goals.{Start}

-- the job is well formed
job : (c : Start) → Kept c.args.env (length c.args.lits.now) (length c.args.ends.now)
job c = kept c.args.env (length c.args.lits.now) (length c.args.ends.now) c.requires

pub overflow_mul-limit : goal.overflow_mul-limit
overflow_mul-limit c = record { fits = omega (arith, (job (goal.at.overflow_mul-limit c).Start).variables_max) }

pub bounds-ends-0 : goal.bounds-ends-0
bounds-ends-0 c = omega (arith, (job (goal.at.bounds-ends-0 c).Start).clauses_in)

pub returns-then-literals-ends : goal.returns-then-literals-ends
returns-then-literals-ends c = let a = c.args in passes_end a.env a.lits.now a.ends.now 0 (omega arith) c.if-literals-ends.true

pub loop-k-init : goal.loop-k-init
loop-k-init c = let a = c.args in passed_none a.env a.lits.now a.ends.now c.if-literals-ends.false

pub bounds-ends-k : goal.bounds-ends-k
bounds-ends-k c = omega (arith, (job (goal.at.bounds-ends-k c).Start).clauses_in)

pub bounds-ends-k-in-loop-k : goal.bounds-ends-k-in-loop-k
bounds-ends-k-in-loop-k c = omega (arith, (job (goal.at.bounds-ends-k-in-loop-k c).Start).clauses_in)

pub returns-then-end-begin : goal.returns-then-end-begin
returns-then-end-begin c = let a = c.args in end_falls a.env a.lits.now a.ends.now c.loop-k.k (omega arith) c.if-end-begin.true

pub returns-then-literals-end : goal.returns-then-literals-end
returns-then-literals-end c =
    let a = c.args in
    passes_end a.env a.lits.now a.ends.now (c.loop-k.k + 1) (omega arith) c.if-literals-end.true

pub returns-then-not-lits_below : goal.returns-then-not-lits_below
returns-then-not-lits_below c =
    let a = c.args in
    let f = c.lits_below in
    literal_unknown a.env a.lits.now a.ends.now c.loop-k.k (omega arith) (sym f.ensures ∙ c.if-not-lits_below.true)

pub loop-k-preserved : goal.loop-k-preserved
loop-k-preserved c =
    let a = c.args in
    let l = c.loop-k in
    let f = c.lits_below in
    passed_next a.env a.lits.now a.ends.now l.k (omega arith) l.invariant c.if-end-begin.false c.if-literals-end.false (sym f.ensures ∙ c.if-not-lits_below.false)

pub returns : goal.returns
returns c =
    let a = c.args in
    passed_all a.env a.lits.now a.ends.now c.loop-k.k (omega arith) c.loop-k.invariant

pub slice_bounds-lits_below-end : goal.slice_bounds-lits_below-end
slice_bounds-lits_below-end c = omega (arith, (job (goal.at.slice_bounds-lits_below-end c).Start).literals_in)
