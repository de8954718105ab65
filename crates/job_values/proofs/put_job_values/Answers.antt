-- `job_values::put_job_values` meets its contract.
use native.Mathlib.Omega.{arith}
use mathlib.Core.Path.{sym}
use lib.Seq.{length-take-le}
use Rattle.encoder_env.proofs.Kept.{kept}
use Rattle.job_values.proofs.put_job_values.Goals as goal

pub slice_bounds-assignment-end : goal.slice_bounds-assignment-end
slice_bounds-assignment-end c = omega (arith, (kept c.args.env _ _ c.requires.0).variables_max)

pub slice_bounds-put_answer_values-end : goal.slice_bounds-put_answer_values-end
slice_bounds-put_answer_values-end c = sym (length-take-le _ _ (omega (arith, (kept c.args.env _ _ c.requires.0).variables_max)))

pub put_answer_values-requires : goal.put_answer_values-requires
put_answer_values-requires c = (c.requires.0, length-take-le _ _ (omega (arith, (kept c.args.env _ _ c.requires.0).variables_max)), c.requires.1)
