-- What the code reads at a place of the input: tag, contents and where they end; and what each case of it says in document 01.
use Rattle.std.specs.Prelude.{◌+◌, ◌-◌, ℕ, eqb, leb, ltb, drop, get_or, length, take, cond, List, [], ◌∷◌, Option, None, Some, Result, Ok, Err}
use Rattle.job_fields.specs.Fields.{Field, broken, field, fields}
use Rattle.job_fields.specs.Numbers.{word_at}
use Rattle.job_fields.specs.declared.fields.Field.{Field as Read}
use Rattle.refusal.specs.declared.Refusal.{Refusal}

-- tag, contents and where they end; or the end of the input; or a length that is broken
pub data FieldAt : Type 0 where
  Contents : ℕ → List ℕ → ℕ → FieldAt
  End : FieldAt
  Broken : FieldAt

unfoldable pub field_at : List ℕ → ℕ → FieldAt
field_at s at =
    cond (ltb at (length s))
    (cond (leb 3 (length s - at))
    (cond (leb (word_at s (at + 1)) (length s - (at + 3)))
    (Contents (get_or s at 0) (take (word_at s (at + 1)) (drop (at + 3) s)) (at + 3 + word_at s (at + 1)))
    Broken)
    Broken)
    End

-- the number of each case, at field `index`: 18 where a length is broken or where the file ends before tag 01; contents and a later end 0
abbrev pub number_at : ℕ → FieldAt → ℕ
number_at index (Contents tag contents end) = 0
number_at index End = cond (eqb index 0) 18 0
number_at index Broken = 18

-- the fields that each case stands for: a field as the code reads it, and n of those behind it at most
abbrev pub fields_from : ℕ → List ℕ → FieldAt → List Field
fields_from n s End = []
fields_from n s Broken = broken ∷ []
fields_from n s (Contents tag contents end) = field tag contents ∷ fields n (drop end s)

-- what the code answers
abbrev pub place_of : Result (Option Read) Refusal → FieldAt
place_of (Ok None) = End
place_of (Ok (Some f)) = Contents f.tag f.contents.now f.end
place_of (Err e) = Broken
