-- Numbers of a line converted one after the other.
use Rattle.std.proofs.Common.{ℕ, ◌+◌, ◌<◌, ◌≤◌, ◌≡◌, List, [], ◌∷◌, ◌++◌, ℤ, pos, length, get_or, set, take, Result, Ok, Err, arith, Option, Some}
use Rattle.std.proofs.lemmas.Option.{slice_get-get_or}
use Rattle.std.specs.Result.{result_ok}
use Rattle.std.proofs.lemmas.List.{take_more, take_more_set}
use Rattle.lines.specs.Fitting.{AllConverted, NumberAt}

module _ {A E : Type 0} (gives : ℤ → Result A E → Type 0) where
  pub converted_none : AllConverted gives [] []
  unfolding AllConverted
  converted_none = tt

  converted_last : (zs : List ℤ) (xs : List A) (z : ℤ) (x : A) → AllConverted gives zs xs → gives z (Ok x) → AllConverted gives (zs ++ (z ∷ [])) (xs ++ (x ∷ []))
  unfolding AllConverted
  converted_last [] [] z x a g = (g, tt)
  converted_last [] (y ∷ ys) z x a g = absurd a
  converted_last (w ∷ ws) [] z x a g = absurd a
  converted_last (w ∷ ws) (y ∷ ys) z x a g = (a.0, converted_last ws ys z x a.1 g)

  pub converted_more : (zs : List ℤ) (xs : List A) (i : ℕ) (x : A) → length zs ≤ length xs → i < length zs → AllConverted gives (take i zs) (take i xs)
      → gives (get_or zs i (pos 0)) (Ok x) → AllConverted gives (take (i + 1) zs) (take (i + 1) (set xs i x))
  converted_more zs xs i x e h a g =
      let k : i < length xs = omega (arith, e) in
      rw (take_more zs i (pos 0) h, take_more_set xs i x k) (converted_last (take i zs) (take i xs) (get_or zs i (pos 0)) x a g)

  -- y is z as the code hands it over
  pub conversion : (z : ℤ) {y : ℤ} (x : A) (t : Result A E) → y ≡ z → gives y t → Some x ≡ result_ok t → gives z (Ok x)
  conversion z x (Ok w) e g q =
      let same : x ≡ w = cc in
      rw (same, ← e) g
  conversion z x (Err w) e g q = let o : ◌≡◌ {A = ℕ} 0 1 = cc in absurd (omega arith)

  pub number_known : (zs : List ℤ) (i : ℕ) (z : ℤ) {y : ℤ} {t : Result A E} {r : Option A} → i < length zs → z ≡ get_or zs i (pos 0) → y ≡ z → gives y t
      → r ≡ result_ok t → NumberAt gives zs i r
  number_known zs i z {t = t} h e q g a = rw (slice_get-get_or zs i (pos 0) h, ← e) (t, rw q at g, a)
