-- What the program prints for a job file (document 01: the job file and its print).
use Rattle.std.specs.Prelude.{◌≤◌, ℕ, eqb, length, replicate, cond, List, ◌≡◌}
use Rattle.text.specs.Bytes.{Printed}
use Rattle.dimacs.specs.Dimacs.{print_of, refused}
use Rattle.job_file.specs.Run.{JobRun, run_file}

-- accepted, the print of the job and its stores; else `refused F N`
unfoldable pub answer_of : JobRun → List ℕ
answer_of r = cond (eqb r.status 0) (print_of r.env r.lits r.ends) (refused r.field r.status)

-- the text of a job file, where these stores are lent
abbrev pub file_print : List ℕ → List ℕ → List ℕ → List ℕ
file_print bytes lits ends = answer_of (run_file bytes lits ends)

-- The text is written whole or not at all, and the stores are as the run left them. Over stores no longer than the program's it has at
-- most 65,551 bytes.
pub record FilePrinted (bytes lits ends out : List ℕ) (r : ℕ) (lits-after ends-after out-after : List ℕ) : Type 0 where
  pub printed : Printed (file_print bytes lits ends) out r out-after
  pub lits_are : lits-after ≡ (run_file bytes lits ends).lits
  pub ends_are : ends-after ≡ (run_file bytes lits ends).ends
  pub short : length lits ≤ 8192 → length ends ≤ 4096 → r ≤ 65551

-- what the program prints: the text on its own stores of 8,192 literals and 4,096 ends
unfoldable pub program_print : List ℕ → List ℕ
program_print bytes = file_print bytes (replicate 8192 0) (replicate 4096 0)
