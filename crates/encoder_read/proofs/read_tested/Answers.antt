-- `encoder_read::read_tested` meets its contract.
-- the job is well formed
use lib.ListN.{length}
use native.Mathlib.Omega.{arith}
use Rattle.encoder_env.proofs.Kept.{Kept, in_use}
use Rattle.encoder_read.proofs.Tested.{tested_job}
use Rattle.encoder_read.proofs.read_tested.Goals as goal
use Rattle.encoder_read.proofs.read_tested.Goals.{Start}

job : (c : Start) → Kept c.args.env (length c.args.lits.now) (length c.args.ends.now)
job c = let a = c.args in tested_job a.env a.lits.now a.ends.now a.x a.assignment.now c.requires

pub bounds-env-x : goal.bounds-env-x
bounds-env-x c = omega (arith, c.if-env-x.false, (job (goal.at.bounds-env-x c).Start).count_max)

pub get_int_value-requires : goal.get_int_value-requires
get_int_value-requires c =
    let a = c.args in
    let u = in_use a.env (length a.lits.now) (length a.ends.now) a.x (job (goal.at.get_int_value-requires c).Start) c.if-env-x.false in
    (u.len_max, u.offset_up, u.offset_down)
