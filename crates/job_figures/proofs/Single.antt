-- What the code reads at the start of the bytes, and whether that is their only field.
use Prim.Native.Nat.{◌-◌, ◌<◌, ◌≤◌, suc, zero, ℕ}
use native.Mathlib.Omega.{arith}
use lib.Dec.{leb}
use lib.ListN.{drop, drop_of_length-le, length, length-drop, take}
use mathlib.Core.Bool.{Bool, cond, false, true}
use mathlib.Core.List.{List, [], ◌∷◌}
use mathlib.Core.Path.{◌∙◌, ◌≡◌, ap, refl, sym}
use Rattle.encoder_env.specs.declared.EncoderEnv.{EncoderEnv}
use Rattle.job_fields.specs.Fields.{broken, field, fields, fields_of}
use Rattle.job_fields.specs.Numbers.{word}
use Rattle.job_fields.specs.Places.{Broken, Contents, End, FieldAt, field_at, fields_from}
use Rattle.job_fields.proofs.Places.{Within, field_within, fields_at}
use Rattle.job_figures.specs.FieldFigures.{field_figures, no_figures, one_field_figures}

-- no byte is left: no field
none_left : (n : ℕ) → fields n [] ≡ []
unfolding fields
none_left zero = refl
none_left (suc n) = refl

-- some are left: there is a second field, broken or not
second : (env : EncoderEnv) (tag : ℕ) (c : List ℕ) (n : ℕ) (s : List ℕ) → 0 < n → 0 < length s
    → no_figures 18 ≡ field_figures env (field tag c ∷ fields n s)
unfolding fields field_figures
second env tag c zero s h g = absurd (omega arith)
second env tag c (suc n) [] h g = absurd (omega arith)
second env tag c (suc n) (x ∷ []) h g = refl
second env tag c (suc n) (x ∷ y ∷ []) h g = refl
second env tag c (suc n) (x ∷ y ∷ z ∷ s) h g = go (leb (word y z) (length s))
  where
    go : (b : Bool)
        → no_figures 18 ≡ field_figures env (field tag c ∷ cond b (field x (take (word y z) s) ∷ fields n (drop (word y z) s)) (broken ∷ []))
    go true = refl
    go false = refl

-- what the code reads at place 0 stands for all fields
module _ (env : EncoderEnv) (s : List ℕ) where
  read : (x : FieldAt) → x ≡ field_at s 0 → fields_of s ≡ fields_from (length s - 1) s x
  unfolding fields_of
  read x p = fields_at (length s) s 0 (omega arith) ∙ ap (fields_from (length s - 1) s) (sym p)

  -- none is there, or a broken one
  pub no_field : End ≡ field_at s 0 → no_figures 18 ≡ field_figures env (fields_of s)
  unfolding field_figures
  no_field p = rw (read End p)

  pub broken_field : Broken ≡ field_at s 0 → no_figures 18 ≡ field_figures env (fields_of s)
  unfolding field_figures
  broken_field p = rw (read Broken p)

  module _ (tag : ℕ) (c : List ℕ) (end : ℕ) (p : Contents tag c end ≡ field_at s 0) where
    inside : Within s 0 end
    inside = field_within s 0 tag c end (sym p)

    -- bytes stand behind it
    pub more_behind : (end ≡ length s → ⊥) → no_figures 18 ≡ field_figures env (fields_of s)
    more_behind d =
        let a : 0 < length s - 1 = omega (arith, inside.from, inside.inside, d) in
        let b : 0 < length (drop end s) = rw length-drop (omega (arith, inside.inside, d)) in
        rw (read (Contents tag c end) p) (second env tag c (length s - 1) (drop end s) a b)

    -- it ends with the bytes
    pub only_field : end ≡ length s → one_field_figures env tag c ≡ field_figures env (fields_of s)
    unfolding field_figures
    only_field e =
        let h : length s ≤ end = omega (arith, e) in
        rw (read (Contents tag c end) p, drop_of_length-le s h, none_left (length s - 1))
