-- The fields of a job file, over the bytes themselves (document 01: the job file).
use Rattle.std.specs.Prelude.{◌%◌, suc, zero, ℕ, eqb, leb, drop, length, take, Bool, ◌&&◌, cond, false, not, List, [], ◌∷◌}
use Rattle.job_fields.specs.Numbers.{word}

-- tag and contents; or a head or contents that are cut off
pub data Field : Type 0 where
  field : ℕ → List ℕ → Field
  broken : Field

-- field after field: one-byte tag, two-byte length, contents. The bound n on their number lets the definition end.
unfoldable pub fields : ℕ → List ℕ → List Field
fields zero s = []
fields (suc n) [] = []
fields (suc n) (tag ∷ []) = broken ∷ []
fields (suc n) (tag ∷ a ∷ []) = broken ∷ []
fields (suc n) (tag ∷ a ∷ b ∷ s) =
    cond (leb (word a b) (length s)) (field tag (take (word a b) s) ∷ fields n (drop (word a b) s)) (broken ∷ [])

-- all fields of a file: there are fewer of them than bytes
unfoldable pub fields_of : List ℕ → List Field
fields_of s = fields (length s) s

-- the lengths of the tags; an unknown tag has none
unfoldable pub right_length : ℕ → ℕ → Bool
right_length tag n =
    cond (eqb tag 1) (eqb n 1)
    (cond (eqb tag 2) (eqb n 4)
    (cond (eqb tag 3) (eqb (n % 2) 0)
    (cond (eqb tag 4) (eqb n 6)
    (cond (eqb tag 5) (leb 5 n && eqb (n % 3) 2)
    (cond (eqb tag 6) (eqb n 3)
    false)))))

-- tag 01 is first and only once
unfoldable pub right_place : ℕ → ℕ → Bool
right_place index tag = cond (eqb index 0) (eqb tag 1) (not (eqb tag 1))
