-- The print of an assignment as a solver's answer (document 02, #103).
use Rattle.std.specs.Prelude.{suc, ℕ, eqb, drop, cond, List, [], ◌++◌, ◌∷◌, Result, Ok, Err}
use Rattle.text.specs.Decimal.{decimal}
use Rattle.refusal.specs.Number.{number}
use Rattle.refusal.specs.declared.Refusal.{Refusal}
use Rattle.solver_answer.specs.Lines.{satisfiable_line}
use Rattle.solver_answer.specs.Answer.{Said}

-- a variable's number, with a minus where its byte is 0
unfoldable pub signed : ℕ → ℕ → List ℕ
signed x b = cond (eqb b 0) (45 ∷ decimal x) (decimal x)

-- a space and a number for each byte, from number x on, then ` 0` and a line feed
unfoldable pub values_from : ℕ → List ℕ → List ℕ
values_from x [] = 32 ∷ 48 ∷ 10 ∷ []
values_from x (b ∷ bs) = 32 ∷ (signed x b ++ values_from (suc x) bs)

-- the `s` line and one `v` line, variables rising
unfoldable pub print : List ℕ → List ℕ
print bytes = satisfiable_line ++ (10 ∷ 118 ∷ values_from 1 bytes)

-- What each case says: its number, its value (the length of the text, 0 if refused), and the slice after it, where this is the text. A refusal
-- leaves the slice as it was, and a print the bytes behind the text.
unfoldable pub print_said : Result ℕ Refusal → List ℕ → List ℕ → Said
print_said (Ok size) text slice = record { status = 0; value = size; slice = text ++ drop size slice }
print_said (Err refusal) text slice = record { status = number refusal; value = 0; slice = slice }
