-- The numbers of a line, as the types that a call takes.
use Rattle.std.specs.Prelude.{ℕ, ◌<◌, ◌≤◌, ◌≡◌, Bool, true, false, ◌&&◌, ◌⊎◌, cond, List, [], ◌∷◌, map, leb, ltb, ℤ, pos, negsuc, length, get_or, slice_get, Option, Some, None, MatchOption, IfSome, is_some, Result, Ok, Err, ⊤}
use Rattle.std.specs.Result.{result_ok}

-- a number of a line as a type, where `gives` is what the type's conversion gives: there is none where the line ends before it or it does not fit
abbrev pub NumberAt : {A E : Type 0} → (ℤ → Result A E → Type 0) → List ℤ → ℕ → Option A → Type 0
NumberAt {A} {E} gives nums k r = MatchOption (slice_get nums k) (r ≡ None) (λ z. (t : Result A E) × gives z t × (r ≡ result_ok t))

-- each number converts to the entry in its place
unfoldable pub AllConverted : {A E : Type 0} → (ℤ → Result A E → Type 0) → List ℤ → List A → Type 0
AllConverted gives [] [] = ⊤
AllConverted gives [] (x ∷ xs) = ⊥
AllConverted gives (z ∷ zs) [] = ⊥
AllConverted gives (z ∷ zs) (x ∷ xs) = gives z (Ok x) × AllConverted gives zs xs

-- there are more than the room, or one does not convert
abbrev pub NotConverted : {A E : Type 0} → (ℤ → Result A E → Type 0) → List ℤ → ℕ → Type 0
NotConverted {A} {E} gives nums room = (room < length nums) ⊎ ((k : ℕ) × (e : E) × (k < length nums) × gives (get_or nums k (pos 0)) (Err e))

-- r is there if all numbers convert and there is room for so many; if so, `entries r` has them
abbrev pub ListOf : {A E R : Type 0} → (ℤ → Result A E → Type 0) → (R → List A) → List ℤ → ℕ → Option R → Type 0
ListOf gives entries nums room r = MatchOption r (NotConverted gives nums room) (λ xs. (length nums ≤ room) × AllConverted gives nums (entries xs))

-- z as a u32, and as an i32
unfoldable pub unsigned_of : ℤ → Option ℕ
unsigned_of (pos n) = cond (ltb n 4294967296) (Some n) None
unsigned_of (negsuc n) = None

unfoldable pub signed_of : ℤ → Option ℤ
signed_of (pos n) = cond (ltb n 2147483648) (Some (pos n)) None
signed_of (negsuc n) = cond (ltb n 2147483648) (Some (negsuc n)) None

-- number k of a line, if the line has it and it fits
abbrev pub unsigned_at : List ℤ → ℕ → Option ℕ
unsigned_at nums k = cond (ltb k (length nums)) (unsigned_of (get_or nums k (pos 0))) None

abbrev pub signed_at : List ℤ → ℕ → Option ℤ
signed_at nums k = cond (ltb k (length nums)) (signed_of (get_or nums k (pos 0))) None

unfoldable pub is_i32 : ℤ → Bool
is_i32 (pos n) = ltb n 2147483648
is_i32 (negsuc n) = ltb n 2147483648

unfoldable pub is_u8 : ℤ → Bool
is_u8 (pos n) = ltb n 256
is_u8 (negsuc n) = false

unfoldable pub all_of : (ℤ → Bool) → List ℤ → Bool
all_of f [] = true
all_of f (z ∷ zs) = f z && all_of f zs

-- an i32's integer
abbrev pub itself : ℤ → ℤ
itself z = z

-- r is there if all numbers are as f asks and there is room for so many; if so, they are `entries r`
pub record Listed {A R : Type 0} (f : ℤ → Bool) (as-integer : A → ℤ) (entries : R → List A) (nums : List ℤ) (room : ℕ) (r : Option R) : Type 0 where
  pub fit : is_some r ≡ (leb (length nums) room && all_of f nums)
  pub are : IfSome r (λ xs. map as-integer (entries xs) ≡ nums)
