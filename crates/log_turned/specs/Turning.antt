-- A turned sum in code: its terms are one list, as a call has them.
use Rattle.std.specs.Prelude.{◌%◌, ◌*◌, ◌+◌, ◌<◌, ◌≤◌, ℕ, eqb, neg_ℤ, pos, ℤ, get_or, length, take, Bool, ◌&&◌, cond, false, true, List, [], ◌∷◌, ◌≡◌}
use Rattle.arithmetic.specs.Integers.{down, up}
use Rattle.norm_csp.specs.Operations.{normalized}
use Rattle.norm_csp.specs.declared.NormOp.{NormOp}
use Rattle.norm_csp.specs.Rules.{CmpOp, terms_of}
use Rattle.norm_csp.specs.Turned.{turned}
use Rattle.log_var.specs.declared.LogEncoding.{LogEncoding as Encoding}
use Rattle.log_sum.specs.Terms.{TermsReady}
use Rattle.log_turned.specs.declared.LinearLit.{LinearLit}

-- every coefficient of a call's terms negated
abbrev pub coefs_negated : List ℤ → List ℤ
coefs_negated [] = []
coefs_negated (x ∷ []) = x ∷ []
coefs_negated (x ∷ k ∷ zs) = x ∷ neg_ℤ k ∷ coefs_negated zs

-- or none
abbrev pub signed_terms : Bool → List ℤ → List ℤ
signed_terms true zs = coefs_negated zs
signed_terms false zs = zs

-- entry i of them
abbrev pub entry_of : Bool → ℕ → ℤ → ℤ
entry_of negate i z = cond (negate && eqb (i % 2) 1) (neg_ℤ z) z

-- at most six terms, with coefficients within bounds
pub record CoefsSmall (zs : List ℤ) : Type 0 where
  pub few : length zs ≤ 12
  pub coefs : (i : ℕ) → 2 * i + 1 < length zs → (up (get_or zs (2 * i + 1) (pos 0)) ≤ 255) × (down (get_or zs (2 * i + 1) (pos 0)) ≤ 255)

-- r is a sum over a call's terms, the coefficients negated or not, in twelve places
pub record Summed (op : NormOp) (constant : ℤ) (negate : Bool) (terms : List ℤ) (r : LinearLit) : Type 0 where
  pub op_is : r.op ≡ op
  pub constant_is : r.constant ≡ constant
  pub terms_are : take (length terms) r.terms ≡ signed_terms negate terms
  pub long : length r.terms ≡ 12

-- r is the turned sum; its terms stand in twelve places, and are within bounds where those as given are
pub record Turns (op : CmpOp) (constant : ℤ) (terms : List ℤ) (r : LinearLit) : Type 0 where
  pub op_is : normalized r.op ≡ (turned op constant (terms_of terms)).op
  pub constant_is : r.constant ≡ (turned op constant (terms_of terms)).constant
  pub terms_are : terms_of (take (length terms) r.terms) ≡ (turned op constant (terms_of terms)).terms
  pub long : length r.terms ≡ 12
  pub ready : (es : List Encoding) → TermsReady es terms → TermsReady es (take (length terms) r.terms)
