-- What holds at every place of a list, and past its end.
use Prim.Native.Nat.{suc, zero, ℕ}
use lib.ListN.{get_or, replicate, set}
use mathlib.Core.List.{List, [], ◌∷◌}

-- what holds at every place still does after a store
pub every_set : {A : Type 0} (d : A) (P : A → Type 0) (xs : List A) (i : ℕ) (x : A) → ((k : ℕ) → P (get_or xs k d)) → P x → (k : ℕ) → P (get_or (set xs i x) k d)
every_set d P [] i x h p k = h k
every_set d P (y ∷ xs) zero x h p zero = p
every_set d P (y ∷ xs) zero x h p (suc k) = h (suc k)
every_set d P (y ∷ xs) (suc i) x h p zero = h zero
every_set d P (y ∷ xs) (suc i) x h p (suc k) = every_set d P xs i x (λ j. h (suc j)) p k

pub every_replicate : {A : Type 0} (d : A) (P : A → Type 0) (n : ℕ) → P d → (k : ℕ) → P (get_or (replicate n d) k d)
every_replicate d P zero p k = p
every_replicate d P (suc n) p zero = p
every_replicate d P (suc n) p (suc k) = every_replicate d P n p k
