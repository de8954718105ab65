-- The numbers answered (document 01: operation by operation; document 02, #103 and #104: 19 to 21): a refusal's own, and 0 for acceptance.
use Rattle.std.specs.Prelude.{ℕ, Result, Ok, Err}
use Rattle.refusal.specs.declared.Refusal.{Refusal}
use Rattle.refusal.specs.declared.Refusal.TheVariants.{IllFormed, TooManySwitches, OutOfBounds, BadList, NotRising, UnknownSwitch, TableFull, UnknownSetting, BadTerms, BadCoefficient, BadConstant, UnknownOperation, ColumnTooTall, TooManyVariables, NoSpace, NoAssignment, UnknownClause, BadField, NotWhole, NotGivenOnce, Unsatisfied}

abbrev pub number : Refusal → ℕ
number IllFormed = 1
number TooManySwitches = 2
number OutOfBounds = 3
number BadList = 4
number NotRising = 5
number UnknownSwitch = 6
number TableFull = 7
number UnknownSetting = 8
number BadTerms = 9
number BadCoefficient = 10
number BadConstant = 11
number UnknownOperation = 12
number ColumnTooTall = 13
number TooManyVariables = 14
number NoSpace = 15
number NoAssignment = 16
number UnknownClause = 17
number BadField = 18
number NotWhole = 19
number NotGivenOnce = 20
number Unsatisfied = 21

-- the number that a call answers
abbrev pub status : {A : Type 0} → Result A Refusal → ℕ
status (Ok x) = 0
status (Err e) = number e
