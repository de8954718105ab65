-- `script_state::is_job` meets its contract.
use Rattle.script_state.proofs.Tables.{job_short, job_tested}
use Rattle.script_state.specs.Job.{fits}
use Rattle.encoder_env.proofs.Tests.{all_more, all_fail}
use Rattle.encoder_env.specs.WellFormed.{all_below}
use native.Mathlib.Omega.{arith}
use Prim.Native.Nat.{ℕ}
use mathlib.Core.Path.{◌≡◌, refl, sym, ap, ◌∙◌}
use Rattle.script_state.proofs.is_job.Goals as goal

pub returns-then-nums-ne517 : goal.returns-then-nums-ne517
returns-then-nums-ne517 c = job_short c.args.nums.now c.if-nums-ne517.true

pub loop-i-init : goal.loop-i-init
unfolding all_below
loop-i-init c = refl

pub returns-then-not-fits : goal.returns-then-not-fits
returns-then-not-fits c = let n = c.args.nums.now in let l = c.loop-i in job_tested n c.if-nums-ne517.false (all_fail (fits n) 517 l.i c.loop-i-test.true (sym c.fits.ensures ∙ c.if-not-fits.true))

pub loop-i-preserved : goal.loop-i-preserved
loop-i-preserved c = let n = c.args.nums.now in let l = c.loop-i in all_more (fits n) l.i l.invariant (sym c.fits.ensures ∙ c.if-not-fits.false)

pub returns : goal.returns
returns c =
    let n = c.args.nums.now in
    let e : c.loop-i.i ≡ 517 = omega arith in
    job_tested n c.if-nums-ne517.false (ap (λ (k : ℕ). all_below k (fits n)) (sym e) ∙ c.loop-i.invariant)
