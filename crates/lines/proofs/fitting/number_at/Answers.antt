-- `lines::fitting::number_at` meets its contract.
use Rattle.std.proofs.Common.{rules}
use mir.ValLaws.{to_z-of_z}
use mir.Syntax.{w64}
use Rattle.lines.proofs.Lists.{number_known}
use Rattle.lines.proofs.fitting.number_at.Goals as goal

pub returns : goal.returns
returns g c =
    number_known _ c.args.nums.now c.args.i _ c.in_ok-get.ensures.lookup.3.0 (c.in_ok-get.ensures.lookup.3.1 _)
    (to_z-of_z w64 _ (search rules)) c.try_from.ensures c.ok.ensures.value
