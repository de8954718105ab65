-- `encoder_answer::write_into` meets its contract.
use mathlib.Core.Path.{refl}
use Rattle.encoder_answer.proofs.Answering.{stores_wrote}
use Rattle.encoder_answer.proofs.write_into.Goals as goal

pub write-setting-requires-clause-job : goal.write-setting-requires-clause-job
write-setting-requires-clause-job g c = record { base = refl; vars = refl; used = c.counts_of.ensures }

pub returns : goal.returns
returns g c =
    let a = c.args in
    stores_wrote a.env (g.A.AddingCall.gives a.call.now a.env) c.write-setting.ensures (record { base = refl; vars = refl; used = c.counts_of.ensures }) c.lits-1.given.1.1 c.ends-1.given.1.1
