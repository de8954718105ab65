-- What the checks of a product settle for the leaf functions.
use mathlib.Core.Path.{◌≡◌}
use Prim.Native.Nat.{◌<◌, ℕ}
use native.Mathlib.Omega.{arith}
use Rattle.log_product.specs.Ready.{ProductsReady}
use Rattle.encoder_env.specs.declared.EncoderEnv.{EncoderEnv}
use Rattle.encoder_env.proofs.Kept.{Kept, well_formed_of}
use Rattle.encoder_mul.specs.Products.{argument_checks, mul_checks, product_encoded}
use Rattle.encoder_answer.specs.Call.{Settles, rule}
use Rattle.encoder_answer.specs.Outcome.{status_of}
use Rattle.encoder_mul.proofs.Added.{ProductKnown, factors_known, numbered, product_known}
use Rattle.encoder_answer.proofs.Ready.{setting_ready}

pub settings_ready : (env : EncoderEnv) (lits ends x y m : ℕ) → Kept env lits ends → x < env.count → y < env.count → m < env.count
    → ProductsReady env.encodings x y m
settings_ready env lits ends x y m k a b c =
    record {
      settings = setting_ready env lits ends k;
      x_known = omega (arith, a, k.count_max);
      y_known = omega (arith, b, k.count_max);
      m_known = omega (arith, c, k.count_max);
    }

pub factors_ready : (env : EncoderEnv) (lits ends x y m : ℕ) → status_of (argument_checks env lits ends x y m) ≡ 0 → ProductsReady env.encodings x y m
factors_ready env lits ends x y m h =
    let f = factors_known env lits ends x y m h in
    settings_ready env lits ends x y m f.holds f.x_known f.y_known f.m_known

pub known_ready : (env : EncoderEnv) (lits ends x y m : ℕ) → ProductKnown env lits ends x y m → ProductsReady env.encodings x y m
known_ready env lits ends x y m p = settings_ready env lits ends x y m p.holds p.x_known p.y_known p.m_known

-- what the checks settle of the call
pub mul_settles : (env : EncoderEnv) (lits ends x y m : ℕ) → Settles env lits ends (mul_checks env lits ends x y m) (rule (product_encoded env x y m))
mul_settles env lits ends x y m =
    record {
      numbered = numbered env lits ends x y m;
      formed = λ h. well_formed_of env lits ends (product_known env lits ends x y m h).holds;
      free = λ h e none. cc;
    }
