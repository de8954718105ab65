-- `encoder_var::kinds::NewSetting::write` meets its contract.
use Rattle.encoder_var.proofs.Settings.{admitted, admitted_ready, setting_wrote}
use Rattle.encoder_var.proofs.kinds.NewSettingAddingCall.write.Goals as goal

pub encode-requires : goal.encode-requires
encode-requires g c =
    let p = c.requires.passed in
    admitted_ready (admitted c.args._env p.0 p.1 (g.S.Setting.repr c.args.self.now.0) p.2) c.requires.job

pub returns : goal.returns
returns g c = setting_wrote c.args._env (g.S.Setting.repr c.args.self.now.0) c.requires.job c.encode.ensures
