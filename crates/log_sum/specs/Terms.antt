-- What a call's checks settle of a sum over the settings' records.
use Rattle.std.specs.Prelude.{◌*◌, ◌+◌, ◌<◌, ◌≤◌, ℕ, pos, ℤ, get_or, length, List, ◌≡◌}
use Rattle.arithmetic.specs.Integers.{down, up}
use Rattle.log_var.specs.Record.{record_at}
use Rattle.log_var.specs.Settings.{SettingReady}
use Rattle.log_var.specs.declared.LogEncoding.{LogEncoding as Encoding}

-- one of 32 settings, and a coefficient within bounds
pub record TermReady (x k : ℤ) : Type 0 where
  pub setting : up x < 32
  pub natural : down x ≡ 0
  pub coef_up : up k ≤ 255
  pub coef_down : down k ≤ 255

-- at most six terms over records within bounds; the list has setting, coefficient, in turn
pub record TermsReady (es : List Encoding) (zs : List ℤ) : Type 0 where
  pub settings : (i : ℕ) → i < 32 → SettingReady (record_at es i)
  pub few : length zs ≤ 12
  pub terms : (i : ℕ) → 2 * i + 1 < length zs → TermReady (get_or zs (2 * i) (pos 0)) (get_or zs (2 * i + 1) (pos 0))
