-- What columns of gathered literals add up to.
use Prim.Native.Nat.{◌%◌, ◌*◌, ◌+◌, ◌/◌, ◌<◌, ◌^◌, ◌≤◌, suc, zero, ℕ}
use borrow.Author.Tests.{eqb-false, eqb-true}
use lib.Dec.{eqb}
use lib.ListN.{length}
use mathlib.Core.Bool.{Bool, cond, false, true}
use mathlib.Core.List.{List, [], ◌∷◌}
use mathlib.Core.Path.{◌∙◌, ◌≡◌, ap, refl, sym}
use native.Mathlib.Omega.{arith}
use Rattle.arithmetic.specs.Bits.{shl}
use Rattle.sat.specs.Clause.{Assignment}
use Rattle.sat.specs.Encodes.{LitsBelow}
use Rattle.sat.specs.Number.{code_of}
use Rattle.sat.proofs.Counts.{count_append}
use Rattle.sat.proofs.Extend.{lits_below_append, lits_below_more}
use Rattle.log_encoding.specs.Adder.{ColumnsBelow, columns_value}
use Rattle.log_encoding.specs.Gather.{Grid, GridBelow, grid_value, pad_columns, push_scaled, push_value}

pub push_value_value : (α : Assignment) (o : ℕ) (ls : List ℕ) (cols : Grid) → grid_value α (push_value o ls cols) ≡ grid_value α cols + shl o (code_of α ls)
push_value_value α zero [] cols = omega arith
push_value_value α zero (l ∷ ls) [] = omega (arith, push_value_value α zero ls [])
push_value_value α zero (l ∷ ls) (c ∷ cols) = omega (arith, push_value_value α zero ls cols, count_append α c (l ∷ []))
push_value_value α (suc o) ls [] = omega (arith, push_value_value α o ls [])
push_value_value α (suc o) ls (c ∷ cols) = omega (arith, push_value_value α o ls cols)

pub push_value_below : (v o : ℕ) (ls : List ℕ) (cols : Grid) → LitsBelow v ls → GridBelow v cols → GridBelow v (push_value o ls cols)
push_value_below v zero [] cols b g = g
push_value_below v zero (l ∷ ls) [] b g = ((b.0, tt), push_value_below v zero ls [] b.1 tt)
push_value_below v zero (l ∷ ls) (c ∷ cols) b g = (lits_below_append v c (l ∷ []) g.0 (b.0, tt), push_value_below v zero ls cols b.1 g.1)
push_value_below v (suc o) ls [] b g = (tt, push_value_below v o ls [] b tt)
push_value_below v (suc o) ls (c ∷ cols) b g = (g.0, push_value_below v o ls cols b g.1)

pub push_scaled_value : (α : Assignment) (f k o : ℕ) (ls : List ℕ) (cols : Grid) → k < 2 ^ f
    → grid_value α (push_scaled f k o ls cols) ≡ grid_value α cols + k * shl o (code_of α ls)
push_scaled_value α zero k o ls cols h = let e : k ≡ 0 = omega arith in rw e (omega arith)
push_scaled_value α (suc f) k o ls cols h =
    go (eqb (k % 2) 1) refl (λ grid. push_scaled_value α f (k / 2) (suc o) ls grid (omega arith))
    ∙ sym (ap (λ t. grid_value α cols + t * shl o (code_of α ls)) whole)
  where
    whole : k ≡ 2 * (k / 2) + k % 2
    whole = omega arith

    go : (t : Bool) → eqb (k % 2) 1 ≡ t
        → ((grid : Grid) → grid_value α (push_scaled f (k / 2) (suc o) ls grid) ≡ grid_value α grid + k / 2 * (2 * shl o (code_of α ls)))
        → grid_value α (push_scaled f (k / 2) (suc o) ls (cond t (push_value o ls cols) cols)) ≡ grid_value α cols + (2 * (k / 2) + k % 2) * shl o (code_of α ls)
    go true q ih = let e : k % 2 ≡ 1 = eqb-true (k % 2) 1 q in rw (ih, push_value_value, e) (omega arith)
    go false q ih =
        let no_one : ¬ (k % 2 ≡ 1) = eqb-false (k % 2) 1 q in
        let e : k % 2 ≡ 0 = omega arith in
        rw (ih, e) (omega arith)

pub pad_columns_value : (α : Assignment) (n : ℕ) (cols : Grid) → columns_value α (pad_columns n cols) ≡ grid_value α cols
pad_columns_value α zero [] = refl
pad_columns_value α (suc n) [] = omega (arith, pad_columns_value α n [])
pad_columns_value α zero (c ∷ cols) = omega (arith, pad_columns_value α zero cols)
pad_columns_value α (suc n) (c ∷ cols) = omega (arith, pad_columns_value α n cols)

pub pad_columns_below : (v n : ℕ) (cols : Grid) → GridBelow v cols → ColumnsBelow v (pad_columns n cols)
pad_columns_below v zero [] g = tt
pad_columns_below v (suc n) [] g = (tt, pad_columns_below v n [] tt)
pad_columns_below v zero (c ∷ cols) g = (g.0, pad_columns_below v zero cols g.1)
pad_columns_below v (suc n) (c ∷ cols) g = (g.0, pad_columns_below v n cols g.1)

pub pad_columns_length : (n : ℕ) (cols : Grid) → n ≤ length (pad_columns n cols)
pad_columns_length zero cols = omega arith
pad_columns_length (suc n) [] = omega (arith, pad_columns_length n [])
pad_columns_length (suc n) (c ∷ cols) = omega (arith, pad_columns_length n cols)

pub grid_below_more : (v v' : ℕ) (cols : Grid) → v ≤ v' → GridBelow v cols → GridBelow v' cols
grid_below_more v v' [] h g = tt
grid_below_more v v' (c ∷ cols) h g = (lits_below_more v v' c h g.0, grid_below_more v v' cols h g.1)

-- a sum has at least one bit
push_value_length : (o : ℕ) (ls : List ℕ) (grid : Grid) → length grid ≤ length (push_value o ls grid)
push_value_length zero [] grid = omega arith
push_value_length zero (l ∷ ls) [] = omega arith
push_value_length zero (l ∷ ls) (c ∷ cols) = omega (arith, push_value_length zero ls cols)
push_value_length (suc o) ls [] = omega arith
push_value_length (suc o) ls (c ∷ cols) = omega (arith, push_value_length o ls cols)

pub push_scaled_below : (v f k o : ℕ) (ls : List ℕ) (grid : Grid) → LitsBelow v ls → GridBelow v grid → GridBelow v (push_scaled f k o ls grid)
push_scaled_below v zero k o ls grid b g = g
push_scaled_below v (suc f) k o ls grid b g = push_scaled_below v f (k / 2) (suc o) ls _ b (go (eqb (k % 2) 1))
  where
    go : (t : Bool) → GridBelow v (cond t (push_value o ls grid) grid)
    go true = push_value_below v o ls grid b g
    go false = g

pub push_scaled_length : (f k o : ℕ) (ls : List ℕ) (grid : Grid) → length grid ≤ length (push_scaled f k o ls grid)
push_scaled_length zero k o ls grid = omega arith
push_scaled_length (suc f) k o ls grid = go (eqb (k % 2) 1) (push_scaled_length f (k / 2) (suc o) ls)
  where
    go : (t : Bool) → ((g : Grid) → length g ≤ length (push_scaled f (k / 2) (suc o) ls g))
        → length grid ≤ length (push_scaled f (k / 2) (suc o) ls (cond t (push_value o ls grid) grid))
    go true ih = omega (arith, ih (push_value o ls grid), push_value_length o ls grid)
    go false ih = ih grid
