-- The literals of the benchmark's columns are within bounds.
use Prim.Native.Nat.{ℕ, zero, suc, ◌^◌, ◌≤◌, ◌<◌}
use mathlib.Core.List.{List, [], ◌∷◌, map}
use lib.Dec.{lit<}
use Rattle.log_adder.specs.ColumnInfo.{AllLow}
use Rattle.log_adder.proofs.AdderLoops.{take_low}
use lib.ListN.{length, take}
use lib.Seq.{length-take-le}
use mathlib.Core.Path.{◌≡◌}
use Rattle.sat.specs.declared.Lit.{Lit}
use Rattle.sat.specs.LitArray.{lit}
use Rattle.column_bench.specs.BenchColumn.{bench_own}

-- numbers below 2 ^ 31, place by place
abbrev Below : List ℕ → Type 0
Below [] = 0 < 2 ^ 31
Below (x ∷ xs) = (x < 2 ^ 31) × Below xs

low : (xs : List ℕ) → Below xs → AllLow (map lit xs)
low [] b k = b
low (x ∷ xs) b zero = b.0
low (x ∷ xs) b (suc k) = low xs b.1 k

bench_low : AllLow bench_own
bench_low =
    low (0 ∷ 2 ∷ 4 ∷ 6 ∷ 8 ∷ 10 ∷ 12 ∷ 14 ∷ 16 ∷ 18 ∷ 20 ∷ 22 ∷ [])
    (lit< tt, (lit< tt, (lit< tt, (lit< tt, (lit< tt, (lit< tt, (lit< tt, (lit< tt, (lit< tt, (lit< tt, (lit< tt, (lit< tt, lit< tt))))))))))))

-- the own literals of a column
pub own_sized : (h : ℕ) (own : List Lit) → own ≡ bench_own → h ≤ 12 → (length (take h own) ≡ h) × AllLow (take h own)
own_sized h own e p = rw e (length-take-le h bench_own p, take_low h bench_own bench_low)
