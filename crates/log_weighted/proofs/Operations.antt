-- Ne and Ge: the columns they reach.
use mathlib.Core.Path.{◌≡◌, ap, refl, sym, ◌∙◌}
use mathlib.Core.Bool.{false, true}
use mathlib.Core.List.{List, ◌++◌}
use mathlib.Core.Logic.{◌⊎◌, inl, inr}
use Prim.Native.Nat.{ℕ, max}
use Rattle.norm_csp.specs.declared.NormOp.{NormOp}
use Rattle.norm_csp.specs.declared.NormOp.TheVariants.{Ge, Ne}
use Rattle.norm_csp.specs.Operations.{normalized}
use Rattle.log_encoding.specs.AdderSize.{greatest_height}
use Rattle.log_encoding.specs.LinearSize.{WeightedShape, linear_reached, sign_reached}
use Rattle.log_weighted.proofs.Compared.{height_append}

module _ {op : NormOp} (ps : List WeightedShape) (a b : ℕ) where
  -- those of both parts
  pub reached_parts : (op ≡ Ne) ⊎ (op ≡ Ge) → linear_reached (normalized op) ps a b ≡ sign_reached false ps a ++ sign_reached true ps b
  reached_parts (inl e) = rw e refl
  reached_parts (inr e) = rw e refl

  -- the higher part decides
  pub higher_part : (op ≡ Ne) ⊎ (op ≡ Ge)
      → max (greatest_height (sign_reached false ps a)) (greatest_height (sign_reached true ps b)) ≡ greatest_height (linear_reached (normalized op) ps a b)
  higher_part e = sym (ap greatest_height (reached_parts e) ∙ height_append (sign_reached false ps a) (sign_reached true ps b))
