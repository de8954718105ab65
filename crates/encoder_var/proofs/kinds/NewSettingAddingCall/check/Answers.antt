-- `encoder_var::kinds::NewSetting::check` meets its contract.
use Rattle.encoder_var.proofs.Settings.{setting_settles}
use Rattle.encoder_var.proofs.kinds.NewSettingAddingCall.check.Goals as goal

pub returns-clause-settles : goal.returns-clause-settles
returns-clause-settles g c = let a = c.args in setting_settles a.env a.lits a.ends (g.S.Setting.repr a.self.now.0)
