-- What each place of the code adds to the text.
use Prim.Native.Nat.{◌+◌, ◌-◌, ◌<◌, ◌≤◌, suc, ℕ}
use lib.Dec.{eqb}
use lib.IntN.{ℤ}
use mathlib.Core.Bool.{cond}
use mathlib.Core.List.{List, [], ◌++◌, ◌∷◌}
use mathlib.Core.Path.{◌≡◌}
use native.Mathlib.Numerals.{add-one}
use native.Mathlib.Omega.{arith}
use Rattle.std.proofs.Common.{Result, Ok, Err, pos, refl}
use Rattle.std.specs.Result.{result_unwrap_or}
use Rattle.refusal.specs.declared.Refusal.{Refusal}
use Rattle.encoder_env.specs.declared.EncoderEnv.{EncoderEnv}
use Rattle.encoder_answer.specs.Outcome.{reads}
use Rattle.text.specs.declared.Writer.{Writer}
use Rattle.text.specs.Bytes.{Wrote}
use Rattle.text.specs.Decimal.{decimal, integer}
use Rattle.text.proofs.Laws.{Writing, writing_end, writing_more, wrote_both}
use Rattle.values_text.specs.Values.{lines_from, no_end, setting_line, setting_word, switch_line, switch_word, yes_end}

-- A line -------------------------------------------------------------------------------------------------------------

-- y is the value as the code hands it over
pub wrote_setting : {s t u v w x : Writer} (i : ℕ) (z : ℤ) {y : ℤ} → y ≡ z → Wrote s setting_word t → Wrote t (decimal i) u
    → Wrote u (32 ∷ []) v → Wrote v (integer y) w → Wrote w (10 ∷ []) x → Wrote s (setting_line i z) x
unfolding setting_line
wrote_setting i z e a b c d f =
    wrote_both setting_word (decimal i ++ (32 ∷ (integer z ++ (10 ∷ [])))) a
    (wrote_both (decimal i) (32 ∷ (integer z ++ (10 ∷ []))) b
    (wrote_both (32 ∷ []) (integer z ++ (10 ∷ [])) c
    (wrote_both (integer z) (10 ∷ []) (rw e at d) f)))

-- a setting's line, of the value that the code read
pub setting_read : {s u : Writer} (i : ℕ) {y z : ℤ} → y ≡ z → Wrote s (setting_line i y) u → Wrote s (setting_line i z) u
setting_read i e w = rw e at w

pub read_value : (env : EncoderEnv) (r : Result ℤ Refusal) → result_unwrap_or r (pos 0) ≡ (reads env r).value
read_value env (Ok z) = refl
read_value env (Err e) = refl

-- e is the end as the code hands it over
pub wrote_switch : {s t u v : Writer} (n b : ℕ) {e : List ℕ} → e ≡ cond (eqb b 1) yes_end no_end → Wrote s switch_word t
    → Wrote t (decimal n) u → Wrote u e v → Wrote s (switch_line n b) v
unfolding switch_line
wrote_switch n b q a c d = wrote_both switch_word (decimal n ++ cond (eqb b 1) yes_end no_end) a (wrote_both (decimal n) (cond (eqb b 1) yes_end no_end) c (rw q at d))

-- Lines one after the other ------------------------------------------------------------------------------------------

module _ (line : ℕ → List ℕ) (k n : ℕ) {s t : Writer} {all : List ℕ} where
  pub lines_turn : {u : Writer} → k < n → Writing s all t (lines_from line k (n - k)) → Wrote t (line k) u → Writing s all u (lines_from line (k + 1) (n - (k + 1)))
  unfolding lines_from
  lines_turn h q a =
      let e : n - k ≡ suc (n - suc k) = omega arith in
      rw add-one (writing_more (line k) (lines_from line (suc k) (n - suc k)) (rw e at q) a)

  pub lines_end : n ≤ k → Writing s all t (lines_from line k (n - k)) → Wrote s all t
  unfolding lines_from
  lines_end h q = let e : n - k ≡ 0 = omega arith in writing_end (rw e at q)
