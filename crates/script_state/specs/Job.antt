-- The job that the integers of a line say: counts of switches, variables, clauses, literals and settings, then 32 records, each of 12
-- literals, length, low, high and offset.
use Rattle.std.specs.Prelude.{ℕ, zero, suc, ◌+◌, ◌-◌, ◌*◌, ◌%◌, Bool, ◌&&◌, cond, List, [], ◌∷◌, ◌++◌, leb, ltb, eqb, ℤ, pos, length, is_some, unwrap_or}
use Rattle.lines.specs.Fitting.{signed_at, unsigned_at}
use Rattle.sat.specs.declared.Lit.{Lit}
use Rattle.log_var.specs.declared.LogEncoding.{LogEncoding}
use Rattle.encoder_env.specs.declared.EncoderEnv.{EncoderEnv}
use Rattle.encoder_env.specs.WellFormed.{all_below}

-- a number that fits, or 0
abbrev pub unsigned_or_0 : List ℤ → ℕ → ℕ
unsigned_or_0 nums k = unwrap_or (unsigned_at nums k) 0

abbrev pub signed_or_0 : List ℤ → ℕ → ℤ
signed_or_0 nums k = unwrap_or (signed_at nums k) (pos 0)

-- number k is one of low, high and offset
unfoldable pub signed_place : ℕ → Bool
signed_place k = leb 5 k && ltb 12 ((k - 5) % 16)

-- number k fits the type of its place: i32 for low, high and offset, u32 for all others
unfoldable pub fits : List ℤ → ℕ → Bool
fits nums k = cond (signed_place k) (is_some (signed_at nums k)) (is_some (unsigned_at nums k))

unfoldable pub is_job : List ℤ → Bool
is_job nums = eqb (length nums) 517 && all_below 517 (fits nums)

-- f at each number below n
unfoldable pub table : {A : Type 0} → ℕ → (ℕ → A) → List A
table zero f = []
table (suc n) f = table n f ++ (f n ∷ [])

abbrev pub lit_from : List ℤ → ℕ → ℕ → Lit
lit_from nums at k = record { 0 = unsigned_or_0 nums (at + k) }

unfoldable pub lits_from : List ℤ → ℕ → List Lit
lits_from nums at = table 12 (lit_from nums at)

unfoldable pub record_from : List ℤ → ℕ → LogEncoding
record_from nums at =
    record {
      lits = lits_from nums at;
      len = unsigned_or_0 nums (at + 12);
      low = signed_or_0 nums (at + 13);
      high = signed_or_0 nums (at + 14);
      offset = signed_or_0 nums (at + 15);
    }

unfoldable pub records_from : List ℤ → List LogEncoding
records_from nums = table 32 (λ k. record_from nums (5 + 16 * k))

unfoldable pub job_of : List ℤ → EncoderEnv
job_of nums =
    record {
      switches = unsigned_or_0 nums 0;
      variables = unsigned_or_0 nums 1;
      clauses = unsigned_or_0 nums 2;
      literals = unsigned_or_0 nums 3;
      count = unsigned_or_0 nums 4;
      encodings = records_from nums;
    }
