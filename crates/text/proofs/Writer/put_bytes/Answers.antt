-- `text::Writer::put_bytes` meets its contract.
use Rattle.text.proofs.Laws.{wrote_more, wrote_none}
use Rattle.text.proofs.Writer.put_bytes.Goals as goal

pub loop-b-init : goal.loop-b-init
loop-b-init c = wrote_none c.args.self.now

pub loop-b-preserved : goal.loop-b-preserved
loop-b-preserved c = wrote_more c.args.s.now c.loop-b.b-index c.loop-b-test.true c.loop-b.invariant c.put.ensures
