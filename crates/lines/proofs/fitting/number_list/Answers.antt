-- `lines::fitting::number_list` meets its contract.
use Rattle.std.proofs.Common.{get_or, pos, rules}
use mir.ValLaws.{to_z-of_z}
use mir.Syntax.{w64}
use Rattle.lines.proofs.Lists.{converted_more, converted_none, conversion}
use Rattle.lines.proofs.fitting.number_list.Goals as goal

pub loop-i-init : goal.loop-i-init
loop-i-init g c = (search rules, converted_none _)

pub loop-i-preserved : goal.loop-i-preserved
loop-i-preserved g c =
    let l = c.loop-i in (
      search rules,
      converted_more _ c.args.nums.now l.out l.i c.in_ok-out.field-0 l.invariant.0 c.loop-i-test.true l.invariant.1
          (conversion g.T.TryFrom.try_from_gives _ _ c.try_from.result (to_z-of_z w64 (get_or c.args.nums.now l.i (pos 0)) (search rules)) c.try_from.ensures c.in_ok-out.ensures.value),
    )
