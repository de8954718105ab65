-- Numbers of several bytes, high byte first; signed ones as two's complement (document 01: the job file).
use Rattle.std.specs.Prelude.{◌*◌, ◌+◌, ℕ, ltb, ◌-ℤ◌, pos, ℤ, get_or, cond, List, [], ◌∷◌}

-- two's complement in a width whose numbers number 2 × half: from half on, n stands for n − 2 × half
unfoldable pub signed : ℕ → ℕ → ℤ
signed half n = cond (ltb n half) (pos n) (pos n -ℤ pos (2 * half))

-- two bytes
unfoldable pub word : ℕ → ℕ → ℕ
word high low = 256 * high + low

-- two bytes and four, from byte i on
unfoldable pub word_at : List ℕ → ℕ → ℕ
word_at s i = word (get_or s i 0) (get_or s (i + 1) 0)

unfoldable pub long_at : List ℕ → ℕ → ℕ
long_at s i = 65536 * word_at s i + word_at s (i + 2)

unfoldable pub signed_word : List ℕ → ℕ → ℤ
signed_word s i = signed 32768 (word_at s i)

unfoldable pub signed_long : List ℕ → ℕ → ℤ
signed_long s i = signed 2147483648 (long_at s i)

-- values: two bytes each, signed
unfoldable pub values : List ℕ → List ℤ
values [] = []
values (a ∷ []) = []
values (a ∷ b ∷ s) = signed 32768 (word a b) ∷ values s

-- terms: a setting of one byte and a coefficient of two, signed; one list, setting and coefficient in turn
unfoldable pub terms : List ℕ → List ℤ
terms [] = []
terms (x ∷ []) = []
terms (x ∷ a ∷ []) = []
terms (x ∷ a ∷ b ∷ s) = pos x ∷ signed 32768 (word a b) ∷ terms s
