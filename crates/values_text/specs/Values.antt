-- The values of a job's settings and switches under an assignment, a line each, in ASCII.
use Rattle.std.specs.Prelude.{suc, zero, ℕ, eqb, ℤ, get_or, cond, List, [], ◌++◌, ◌∷◌}
use Rattle.encoder_env.specs.declared.EncoderEnv.{EncoderEnv}
use Rattle.encoder_read.specs.Calls.{read_outcome}
use Rattle.text.specs.Decimal.{decimal, integer}

-- `setting ` and `switch `
abbrev pub setting_word : List ℕ
setting_word = 115 ∷ 101 ∷ 116 ∷ 116 ∷ 105 ∷ 110 ∷ 103 ∷ 32 ∷ []

abbrev pub switch_word : List ℕ
switch_word = 115 ∷ 119 ∷ 105 ∷ 116 ∷ 99 ∷ 104 ∷ 32 ∷ []

-- ` yes` and ` no`, each with a line feed
abbrev pub yes_end : List ℕ
yes_end = 32 ∷ 121 ∷ 101 ∷ 115 ∷ 10 ∷ []

abbrev pub no_end : List ℕ
no_end = 32 ∷ 110 ∷ 111 ∷ 10 ∷ []

-- `setting I VALUE` and a line feed
unfoldable pub setting_line : ℕ → ℤ → List ℕ
setting_line i z = setting_word ++ (decimal i ++ (32 ∷ (integer z ++ (10 ∷ []))))

-- `switch S yes` where byte b is 1, else `switch S no`, and a line feed
unfoldable pub switch_line : ℕ → ℕ → List ℕ
switch_line s b = switch_word ++ (decimal s ++ cond (eqb b 1) yes_end no_end)

-- the lines of the k numbers from i on
unfoldable pub lines_from : (ℕ → List ℕ) → ℕ → ℕ → List ℕ
lines_from line i zero = []
lines_from line i (suc k) = line i ++ lines_from line (suc i) k

-- a setting's line, with the value that a reading of it answers
abbrev pub setting_at : EncoderEnv → List ℕ → List ℕ → List ℕ → ℕ → List ℕ
setting_at env lits ends bytes i = setting_line i (read_outcome env lits ends i bytes).value

-- a switch's line; switch s is variable s
abbrev pub switch_at : List ℕ → ℕ → List ℕ
switch_at bytes s = switch_line s (get_or bytes s 0)

-- the lines of the k settings from i on
unfoldable pub settings_from : EncoderEnv → List ℕ → List ℕ → List ℕ → ℕ → ℕ → List ℕ
settings_from env lits ends bytes i k = lines_from (setting_at env lits ends bytes) i k

-- the lines of the k switches from s on
unfoldable pub switches_from : List ℕ → ℕ → ℕ → List ℕ
switches_from bytes s k = lines_from (switch_at bytes) s k

-- all settings, then all switches
unfoldable pub values_text : EncoderEnv → List ℕ → List ℕ → List ℕ → List ℕ
values_text env lits ends bytes = settings_from env lits ends bytes 0 env.count ++ switches_from bytes 0 env.switches
