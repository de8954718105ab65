-- `text::Writer::put` meets its contract.
use Rattle.std.proofs.Common.{refl}
use Rattle.text.proofs.Laws.{put_within, put_past_end}
use Rattle.text.proofs.Writer.put.Goals as goal

pub returns-then-self : goal.returns-then-self
returns-then-self c = let s = c.args.self.now in record { same = refl; text = put_within s.out.now s.at c.args.b c.if-self.true }

pub returns-else-self : goal.returns-else-self
returns-else-self c = let s = c.args.self.now in record { same = refl; text = put_past_end s.out.now s.at c.args.b c.if-self.false }
