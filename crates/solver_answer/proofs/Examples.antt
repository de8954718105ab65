-- Answers computed: one table of texts, with number, word and slice after the reading, and one test that the checker computes over it.
use Prim.Native.Nat.{ℕ}
use lib.Dec.{eqb}
use lib.ListN.{replicate}
use mathlib.Core.Bool.{Bool, ◌&&◌, true}
use mathlib.Core.List.{List, [], ◌∷◌}
use mathlib.Core.Path.{◌≡◌, refl}
use Rattle.lines.specs.Integers.{all_digits}
use Rattle.lines.specs.Reading.{split}
use Rattle.text.specs.Decimal.{decimal, digits, digits_value}
use Rattle.solver_answer.specs.Lines.{all_numbers, by_word, is_number, is_positive, kind, kinds, kinds_of, number, numbers_in, same, values_line}
use Rattle.solver_answer.specs.Answer.{Said, assignment, by_verdict, bytes_from, each_given, each_once, ended, is_true, kinds_solution, known, numbers, readable, said, satisfiable, says_satisfiable, solution, some_values, times, values_first, verdicts, whole}
use Rattle.solver_answer.specs.Print.{print, signed, values_from}

-- a text read over that many variables into a slice of `room` bytes, each 7 before, and what is said
record Row : Type 0 where
  variables : ℕ
  text : List ℕ
  room : ℕ
  status : ℕ
  value : ℕ
  slice : List ℕ

abbrev row : ℕ → List ℕ → ℕ → ℕ → ℕ → List ℕ → Row
row n text room status value slice =
    record { variables = n; text = text; room = room; status = status; value = value; slice = slice }

abbrev table : List Row
table =
    -- s SATISFIABLE\nv 1 -2 3 0\n: numbers in one line
    row 3 (115 ∷ 32 ∷ 83 ∷ 65 ∷ 84 ∷ 73 ∷ 83 ∷ 70 ∷ 73 ∷ 65 ∷ 66 ∷ 76 ∷ 69 ∷ 10 ∷ 118 ∷ 32 ∷ 49 ∷ 32 ∷ 45 ∷ 50 ∷ 32 ∷ 51 ∷ 32 ∷ 48 ∷ 10 ∷ []) 3 0 1 (1 ∷ 0 ∷ 1 ∷ [])
    -- c hi\ns SATISFIABLE\nv 3\nc\nv -2 1\nv 0\n: comments anywhere, numbers in three lines and in any order
    ∷ row 3 (99 ∷ 32 ∷ 104 ∷ 105 ∷ 10 ∷ 115 ∷ 32 ∷ 83 ∷ 65 ∷ 84 ∷ 73 ∷ 83 ∷ 70 ∷ 73 ∷ 65 ∷ 66 ∷ 76 ∷ 69 ∷ 10 ∷ 118 ∷ 32 ∷ 51 ∷ 10 ∷ 99 ∷ 10 ∷ 118 ∷ 32 ∷ 45 ∷ 50 ∷ 32 ∷ 49 ∷ 10 ∷ 118 ∷ 32 ∷ 48 ∷ 10 ∷ []) 3 0 1 (1 ∷ 0 ∷ 1 ∷ [])
    -- c\nc \ns UNSATISFIABLE\nc x\n: an unsatisfiable answer leaves the slice
    ∷ row 3 (99 ∷ 10 ∷ 99 ∷ 32 ∷ 10 ∷ 115 ∷ 32 ∷ 85 ∷ 78 ∷ 83 ∷ 65 ∷ 84 ∷ 73 ∷ 83 ∷ 70 ∷ 73 ∷ 65 ∷ 66 ∷ 76 ∷ 69 ∷ 10 ∷ 99 ∷ 32 ∷ 120 ∷ 10 ∷ []) 3 0 0 (7 ∷ 7 ∷ 7 ∷ [])
    -- s UNSATISFIABLE\n: its slice is of another length
    ∷ row 3 (115 ∷ 32 ∷ 85 ∷ 78 ∷ 83 ∷ 65 ∷ 84 ∷ 73 ∷ 83 ∷ 70 ∷ 73 ∷ 65 ∷ 66 ∷ 76 ∷ 69 ∷ 10 ∷ []) 2 16 0 (7 ∷ 7 ∷ [])
    -- s SATISFIABLE\nv 0\n: a job without variables
    ∷ row 0 (115 ∷ 32 ∷ 83 ∷ 65 ∷ 84 ∷ 73 ∷ 83 ∷ 70 ∷ 73 ∷ 65 ∷ 66 ∷ 76 ∷ 69 ∷ 10 ∷ 118 ∷ 32 ∷ 48 ∷ 10 ∷ []) 0 0 1 ([])
    -- s SATISFIABLE\n: no list
    ∷ row 0 (115 ∷ 32 ∷ 83 ∷ 65 ∷ 84 ∷ 73 ∷ 83 ∷ 70 ∷ 73 ∷ 65 ∷ 66 ∷ 76 ∷ 69 ∷ 10 ∷ []) 0 19 0 ([])
    -- : an empty text
    ∷ row 0 ([]) 0 19 0 ([])
    -- \ns SATISFIABLE\nv 0\n: an empty line
    ∷ row 0 (10 ∷ 115 ∷ 32 ∷ 83 ∷ 65 ∷ 84 ∷ 73 ∷ 83 ∷ 70 ∷ 73 ∷ 65 ∷ 66 ∷ 76 ∷ 69 ∷ 10 ∷ 118 ∷ 32 ∷ 48 ∷ 10 ∷ []) 0 19 0 ([])
    -- s SATISFIABLE\nv 0: the last line feed is missing
    ∷ row 0 (115 ∷ 32 ∷ 83 ∷ 65 ∷ 84 ∷ 73 ∷ 83 ∷ 70 ∷ 73 ∷ 65 ∷ 66 ∷ 76 ∷ 69 ∷ 10 ∷ 118 ∷ 32 ∷ 48 ∷ []) 0 19 0 ([])
    -- cx\ns SATISFIABLE\nv 0\n: c before neither a space nor the end
    ∷ row 0 (99 ∷ 120 ∷ 10 ∷ 115 ∷ 32 ∷ 83 ∷ 65 ∷ 84 ∷ 73 ∷ 83 ∷ 70 ∷ 73 ∷ 65 ∷ 66 ∷ 76 ∷ 69 ∷ 10 ∷ 118 ∷ 32 ∷ 48 ∷ 10 ∷ []) 0 19 0 ([])
    -- s SATISFIABLE\nv 0 \n: a space at a line's end
    ∷ row 0 (115 ∷ 32 ∷ 83 ∷ 65 ∷ 84 ∷ 73 ∷ 83 ∷ 70 ∷ 73 ∷ 65 ∷ 66 ∷ 76 ∷ 69 ∷ 10 ∷ 118 ∷ 32 ∷ 48 ∷ 32 ∷ 10 ∷ []) 0 19 0 ([])
    -- s SATISFIABLE\nv 1  0\n: two spaces
    ∷ row 1 (115 ∷ 32 ∷ 83 ∷ 65 ∷ 84 ∷ 73 ∷ 83 ∷ 70 ∷ 73 ∷ 65 ∷ 66 ∷ 76 ∷ 69 ∷ 10 ∷ 118 ∷ 32 ∷ 49 ∷ 32 ∷ 32 ∷ 48 ∷ 10 ∷ []) 1 19 0 (7 ∷ [])
    -- s SATISFIABLE\nv +1 0\n: a plus
    ∷ row 1 (115 ∷ 32 ∷ 83 ∷ 65 ∷ 84 ∷ 73 ∷ 83 ∷ 70 ∷ 73 ∷ 65 ∷ 66 ∷ 76 ∷ 69 ∷ 10 ∷ 118 ∷ 32 ∷ 43 ∷ 49 ∷ 32 ∷ 48 ∷ 10 ∷ []) 1 19 0 (7 ∷ [])
    -- s SATISFIABLE\nv 01 0\n: a leading zero
    ∷ row 1 (115 ∷ 32 ∷ 83 ∷ 65 ∷ 84 ∷ 73 ∷ 83 ∷ 70 ∷ 73 ∷ 65 ∷ 66 ∷ 76 ∷ 69 ∷ 10 ∷ 118 ∷ 32 ∷ 48 ∷ 49 ∷ 32 ∷ 48 ∷ 10 ∷ []) 1 19 0 (7 ∷ [])
    -- s SATISFIABLE\nv -0\n: minus 0
    ∷ row 0 (115 ∷ 32 ∷ 83 ∷ 65 ∷ 84 ∷ 73 ∷ 83 ∷ 70 ∷ 73 ∷ 65 ∷ 66 ∷ 76 ∷ 69 ∷ 10 ∷ 118 ∷ 32 ∷ 45 ∷ 48 ∷ 10 ∷ []) 0 19 0 ([])
    -- s SATISFIABLE\ns SATISFIABLE\nv 0\n: two s lines
    ∷ row 0 (115 ∷ 32 ∷ 83 ∷ 65 ∷ 84 ∷ 73 ∷ 83 ∷ 70 ∷ 73 ∷ 65 ∷ 66 ∷ 76 ∷ 69 ∷ 10 ∷ 115 ∷ 32 ∷ 83 ∷ 65 ∷ 84 ∷ 73 ∷ 83 ∷ 70 ∷ 73 ∷ 65 ∷ 66 ∷ 76 ∷ 69 ∷ 10 ∷ 118 ∷ 32 ∷ 48 ∷ 10 ∷ []) 0 19 0 ([])
    -- v 0\ns SATISFIABLE\n: a v line before the s line
    ∷ row 0 (118 ∷ 32 ∷ 48 ∷ 10 ∷ 115 ∷ 32 ∷ 83 ∷ 65 ∷ 84 ∷ 73 ∷ 83 ∷ 70 ∷ 73 ∷ 65 ∷ 66 ∷ 76 ∷ 69 ∷ 10 ∷ []) 0 19 0 ([])
    -- s UNSATISFIABLE\nv 0\n: a v line behind the unsatisfiable one
    ∷ row 0 (115 ∷ 32 ∷ 85 ∷ 78 ∷ 83 ∷ 65 ∷ 84 ∷ 73 ∷ 83 ∷ 70 ∷ 73 ∷ 65 ∷ 66 ∷ 76 ∷ 69 ∷ 10 ∷ 118 ∷ 32 ∷ 48 ∷ 10 ∷ []) 0 19 0 ([])
    -- s SATISFIABLE\nv 0 1\n: a number behind the 0
    ∷ row 1 (115 ∷ 32 ∷ 83 ∷ 65 ∷ 84 ∷ 73 ∷ 83 ∷ 70 ∷ 73 ∷ 65 ∷ 66 ∷ 76 ∷ 69 ∷ 10 ∷ 118 ∷ 32 ∷ 48 ∷ 32 ∷ 49 ∷ 10 ∷ []) 1 19 0 (7 ∷ [])
    -- s SATISFIABLE\nv 2\n: the 0 is missing, though 20 and 16 would follow
    ∷ row 1 (115 ∷ 32 ∷ 83 ∷ 65 ∷ 84 ∷ 73 ∷ 83 ∷ 70 ∷ 73 ∷ 65 ∷ 66 ∷ 76 ∷ 69 ∷ 10 ∷ 118 ∷ 32 ∷ 50 ∷ 10 ∷ []) 3 19 0 (7 ∷ 7 ∷ 7 ∷ [])
    -- s SATISFIABLE\nv 1 2 0\n: a variable unknown, though 16 would follow
    ∷ row 1 (115 ∷ 32 ∷ 83 ∷ 65 ∷ 84 ∷ 73 ∷ 83 ∷ 70 ∷ 73 ∷ 65 ∷ 66 ∷ 76 ∷ 69 ∷ 10 ∷ 118 ∷ 32 ∷ 49 ∷ 32 ∷ 50 ∷ 32 ∷ 48 ∷ 10 ∷ []) 3 20 0 (7 ∷ 7 ∷ 7 ∷ [])
    -- s SATISFIABLE\nv 4294967297 0\n: 4294967297 is no 1
    ∷ row 1 (115 ∷ 32 ∷ 83 ∷ 65 ∷ 84 ∷ 73 ∷ 83 ∷ 70 ∷ 73 ∷ 65 ∷ 66 ∷ 76 ∷ 69 ∷ 10 ∷ 118 ∷ 32 ∷ 52 ∷ 50 ∷ 57 ∷ 52 ∷ 57 ∷ 54 ∷ 55 ∷ 50 ∷ 57 ∷ 55 ∷ 32 ∷ 48 ∷ 10 ∷ []) 1 20 0 (7 ∷ [])
    -- s SATISFIABLE\nv 1 -1 0\n: a variable doubled
    ∷ row 1 (115 ∷ 32 ∷ 83 ∷ 65 ∷ 84 ∷ 73 ∷ 83 ∷ 70 ∷ 73 ∷ 65 ∷ 66 ∷ 76 ∷ 69 ∷ 10 ∷ 118 ∷ 32 ∷ 49 ∷ 32 ∷ 45 ∷ 49 ∷ 32 ∷ 48 ∷ 10 ∷ []) 1 20 0 (7 ∷ [])
    -- s SATISFIABLE\nv 1 0\n: a variable missing
    ∷ row 2 (115 ∷ 32 ∷ 83 ∷ 65 ∷ 84 ∷ 73 ∷ 83 ∷ 70 ∷ 73 ∷ 65 ∷ 66 ∷ 76 ∷ 69 ∷ 10 ∷ 118 ∷ 32 ∷ 49 ∷ 32 ∷ 48 ∷ 10 ∷ []) 2 20 0 (7 ∷ 7 ∷ [])
    -- s SATISFIABLE\nv 1 0\n: the slice is of another length
    ∷ row 1 (115 ∷ 32 ∷ 83 ∷ 65 ∷ 84 ∷ 73 ∷ 83 ∷ 70 ∷ 73 ∷ 65 ∷ 66 ∷ 76 ∷ 69 ∷ 10 ∷ 118 ∷ 32 ∷ 49 ∷ 32 ∷ 48 ∷ 10 ∷ []) 2 16 0 (7 ∷ 7 ∷ [])
    ∷ []

abbrev answered : Row → Said
answered r = said (solution r.variables r.text r.room) (assignment r.variables r.text) (replicate r.room 7)

abbrev row_test : Row → Bool
row_test r = eqb (answered r).status r.status && (eqb (answered r).value r.value && same (answered r).slice r.slice)

abbrev table_test : List Row → Bool
table_test [] = true
table_test (r ∷ rs) = row_test r && table_test rs

table_holds : table_test table ≡ true
unfolding said solution assignment by_verdict bytes_from each_given each_once ended is_true kinds_solution known numbers readable satisfiable says_satisfiable some_values times values_first verdicts whole all_numbers by_word is_number is_positive kind kinds kinds_of number numbers_in same split values_line all_digits digits_value
table_holds = refl

-- the print of 1, 0, 1 and of no bytes
printed : print (1 ∷ 0 ∷ 1 ∷ []) ≡ 115 ∷ 32 ∷ 83 ∷ 65 ∷ 84 ∷ 73 ∷ 83 ∷ 70 ∷ 73 ∷ 65 ∷ 66 ∷ 76 ∷ 69 ∷ 10 ∷ 118 ∷ 32 ∷ 49 ∷ 32 ∷ 45 ∷ 50 ∷ 32 ∷ 51 ∷ 32 ∷ 48 ∷ 10 ∷ []
unfolding print signed values_from decimal digits
printed = refl

printed_none : print [] ≡ 115 ∷ 32 ∷ 83 ∷ 65 ∷ 84 ∷ 73 ∷ 83 ∷ 70 ∷ 73 ∷ 65 ∷ 66 ∷ 76 ∷ 69 ∷ 10 ∷ 118 ∷ 32 ∷ 48 ∷ 10 ∷ []
unfolding print values_from
printed_none = refl
