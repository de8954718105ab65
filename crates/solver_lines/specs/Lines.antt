-- What a line is before its numbers are read.
use Rattle.std.specs.Prelude.{ℕ, Bool, cond, false, true, List, [], ◌∷◌}
use Rattle.lines.specs.Reading.{split}
use Rattle.solver_answer.specs.Lines.{same, satisfiable_line, unsatisfiable_line}
use Rattle.solver_lines.specs.declared.Line.{Line}
use Rattle.solver_lines.specs.declared.Line.TheVariants.{Comment, Verdict, Values, Broken}

-- a `c` line; the `s` line, satisfiable or not; a `v` line with its pieces, one at least; any other line
pub data Worded : Type 0 where
  remark : Worded
  verdict : Bool → Worded
  pieces : List (List ℕ) → Worded
  other : Worded

unfoldable pub values_word : List (List ℕ) → Worded
values_word [] = other
values_word (t ∷ ts) = pieces (t ∷ ts)

unfoldable pub by_first : List (List ℕ) → Worded
by_first [] = other
by_first (w ∷ ts) = cond (same w (99 ∷ [])) remark (cond (same w (118 ∷ [])) (values_word ts) other)

unfoldable pub worded : List ℕ → Worded
worded l =
    cond (same l satisfiable_line) (verdict true)
    (cond (same l unsatisfiable_line) (verdict false)
    (by_first (split 32 l)))

-- as the code holds it
abbrev pub line_read : Line → Worded
line_read Comment = remark
line_read (Verdict b) = verdict b
line_read (Values numbers) = pieces (split 32 numbers.now)
line_read Broken = other
