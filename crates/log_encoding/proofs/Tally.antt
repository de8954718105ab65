-- How many clauses and literal entries an inequality has follows from its numbers (`enumerate_tally`).
use Prim.Native.Nat.{◌*◌, ◌+◌, ◌-◌, ◌/◌, suc, ℕ}
use lib.Dec.{leb}
use lib.ListN.{get_or, length, length-append}
use mathlib.Core.Bool.{Bool, cond, false, true}
use mathlib.Core.List.{List, [], ◌++◌, ◌∷◌}
use mathlib.Core.Path.{◌∙◌, ◌≡◌, ap, ap₂, refl}
use native.Mathlib.Omega.{arith}
use Rattle.sat.specs.Clause.{Clauses}
use Rattle.sat.specs.Size.{weight_of}
use Rattle.sat.proofs.Size.{weight_append}
use Rattle.log_encoding.specs.Enumerate.{branch, enumerate, missed}
use Rattle.log_encoding.specs.Tally.{shapes, tally, tally_branch}
use Rattle.log_encoding.specs.Terms.{Term}

module _ (weigh : ℕ → ℕ) where
  snoc : (p : List ℕ) (l : ℕ) → weigh (length (p ++ (l ∷ []))) + 0 ≡ weigh (length p + 1)
  snoc p l = rw length-append (omega arith)

  branch_tally : (more : ℕ → List ℕ → Clauses) (count : ℕ → ℕ → ℕ) → ((s : ℕ) (p : List ℕ) → weight_of weigh (more s p) ≡ count s (length p))
      → (w : ℕ) (ls : List ℕ) (s : ℕ) (p : List ℕ)
      → weight_of weigh (branch more w ls s p) ≡ tally_branch weigh count w (length ls) s (length p)
  branch_tally more count ih w [] s p = ih s p
  branch_tally more count ih w (l ∷ ls) s p =
      weight_append weigh (missed more c l s p) (branch more w ls s p) ∙ ap₂ (λ x y. x + y) (go (leb c s)) (branch_tally more count ih w ls s p)
    where
      c : ℕ
      c = w * suc (length ls)

      go : (t : Bool) → weight_of weigh (cond t (more (s - c) (p ++ (l ∷ []))) ((p ++ (l ∷ [])) ∷ []))
          ≡ cond t (count (s - c) (length p + 1)) (weigh (length p + 1))
      go true = ih (s - c) (p ++ (l ∷ [])) ∙ ap (count (s - c)) (length-append p (l ∷ []))
      go false = snoc p l

  pub enumerate_tally : (ts : List Term) (s : ℕ) (p : List ℕ) → weight_of weigh (enumerate ts s p) ≡ tally weigh (shapes ts) s (length p)
  unfolding enumerate
  enumerate_tally [] s p = refl
  enumerate_tally (t ∷ []) s p = go (leb (t.weight * length t.lits) s)
    where
      l : ℕ
      l = get_or t.lits (length t.lits - s / t.weight - 1) 0

      go : (b : Bool) → weight_of weigh (cond b [] ((p ++ (l ∷ [])) ∷ [])) ≡ cond b 0 (weigh (length p + 1))
      go true = refl
      go false = snoc p l
  enumerate_tally (t ∷ u ∷ ts) s p =
      branch_tally (enumerate (u ∷ ts)) (tally weigh (shapes (u ∷ ts))) (enumerate_tally (u ∷ ts)) t.weight t.lits s p
