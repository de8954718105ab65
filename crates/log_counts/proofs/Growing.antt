-- Counts that grow step by step: what is left to do gives the whole.
use mathlib.Core.Path.{◌≡◌, refl, sym, ◌∙◌}
use mathlib.Core.Bool.{Bool, cond, false, true}
use mathlib.Core.List.{List}
use Prim.Native.Nat.{ℕ, ◌+◌, ◌≤◌}
use native.Mathlib.Omega.{arith}
use lib.ListN.{get_or, length-replicate, replicate}
use Rattle.sat.proofs.Every.{every_replicate}
use Rattle.log_counts.specs.Counted.{CountsUpTo}
use Rattle.log_counts.specs.Growth.{Counted, Grown}
use Rattle.log_counts.specs.declared.ColumnCounts.{ColumnCounts}

-- a greater bound
up_to : {m n : ℕ} {hs : List ℕ} {c : ColumnCounts} → m ≤ n → CountsUpTo m hs c → CountsUpTo n hs c
up_to e h =
    record { count = h.count; width_is = h.width_is; narrow = h.narrow; few = λ i. let r = h.few i in omega arith; long = h.long }

-- nothing is pushed
grown_none : (k : ℕ) {c : ColumnCounts} → Grown k (λ hs. hs) c c
grown_none k = record { holds = λ m hs h. up_to (omega arith) h }

-- what is counted after a step, whichever list that is
pub counted_more : {m k n : ℕ} {f : List ℕ → List ℕ} {c r : ColumnCounts} → Counted m c → Grown k f c r → m + k ≤ n → Counted n r
counted_more {m} {k} {n} {f} h g e = record { list = f h.list; holds = up_to e (g.holds m h.list h.holds) }

pub counted_same : {m n : ℕ} {c : ColumnCounts} → Counted m c → m ≤ n → Counted n c
counted_same h e = record { list = h.list; holds = up_to e h.holds }

-- pushed where a test holds
pub grown_where : {k : ℕ} {t : Bool} {c r : ColumnCounts} (f : List ℕ → List ℕ) → t ≡ true → Grown k f c r → Grown k (λ hs. cond t (f hs) hs) c r
grown_where f e p = rw e p

pub grown_else : (k : ℕ) {t : Bool} {c : ColumnCounts} (f : List ℕ → List ℕ) → t ≡ false → Grown k (λ hs. cond t (f hs) hs) c c
grown_else k f e = rw e (grown_none k)

-- from c₀ to c so far, where the rest gives what all gives
pub record Growing (k : ℕ) (all rest : List ℕ → List ℕ) (c₀ c : ColumnCounts) : Type 0 where
  pub so_far : List ℕ → List ℕ
  pub grown : Grown k so_far c₀ c
  pub same : (hs : List ℕ) → all hs ≡ rest (so_far hs)

pub growing_start : (all rest : List ℕ → List ℕ) (c : ColumnCounts) → ((hs : List ℕ) → all hs ≡ rest hs) → Growing 0 all rest c c
growing_start all rest c e = record { so_far = λ hs. hs; grown = grown_none 0; same = e }

module _ {k : ℕ} {all rest : List ℕ → List ℕ} {c₀ c : ColumnCounts} (g : Growing k all rest c₀ c) where
  pub growing_turn : {j n : ℕ} (step rest₁ : List ℕ → List ℕ) (c₁ : ColumnCounts) → ((hs : List ℕ) → rest hs ≡ rest₁ (step hs)) → k + j ≤ n → Grown j step c c₁
      → Growing n all rest₁ c₀ c₁
  growing_turn step rest₁ c₁ e most p =
      record {
        so_far = λ hs. step (g.so_far hs);
        grown = record { holds = λ m hs h. up_to (omega arith) (p.holds (m + k) (g.so_far hs) (g.grown.holds m hs h)) };
        same = λ hs. g.same hs ∙ e (g.so_far hs);
      }

  pub growing_end : {n : ℕ} → ((hs : List ℕ) → rest hs ≡ hs) → k ≤ n → Grown n all c₀ c
  growing_end e most = record { holds = λ m hs h. rw (g.same hs ∙ e (g.so_far hs)) (up_to (omega arith) (g.grown.holds m hs h)) }

  pub growing_counted : {m n : ℕ} → Counted m c₀ → m + k ≤ n → Counted n c
  growing_counted {m} h most = record { list = g.so_far h.list; holds = up_to most (g.grown.holds m h.list h.holds) }

-- No literals yet ----------------------------------------------------------------------------------------------------

zero_at : (n i : ℕ) → ◌≡◌ {A = ℕ} (get_or (replicate n 0) i 0) 0
zero_at n i = every_replicate 0 (λ (x : ℕ). x ≡ 0) n refl i

-- w columns of none
pub none_counted : (w : ℕ) → w ≤ 25 → CountsUpTo 0 (replicate w 0) (record { counts = replicate 32 0; width = w })
none_counted w h =
    record {
      count = λ i k. zero_at 32 i ∙ sym (zero_at w i);
      width_is = sym (length-replicate w 0);
      narrow = h;
      few = λ i. omega (arith, zero_at 32 i);
      long = refl;
    }
