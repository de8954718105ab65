-- What each place of the code adds to the print.
use Prim.Native.Nat.{◌+◌, ◌<◌, ◌≤◌, suc, ℕ}
use borrow.Author.Tests.{ne_eqb}
use lib.ListN.{drop, drop_of_length-le, get_or, length}
use lib.Seq.{drop-cons}
use mathlib.Core.List.{List, [], ◌++◌, ◌∷◌}
use mathlib.Core.Path.{◌≡◌}
use native.Mathlib.Numerals.{add-one}
use Rattle.text.specs.declared.Writer.{Writer}
use Rattle.text.specs.Bytes.{Wrote}
use Rattle.text.specs.Decimal.{decimal}
use Rattle.text.proofs.Laws.{Writing, writing_end, writing_more, wrote_both}
use Rattle.solver_answer.specs.Lines.{satisfiable_line}
use Rattle.solver_answer.specs.Print.{print, signed, values_from}

-- A number, by its byte ----------------------------------------------------------------------------------------------

module _ (x b : ℕ) where
  pub signed_true : (b ≡ 0 → ⊥) → signed x b ≡ decimal x
  unfolding signed
  signed_true h = rw (ne_eqb b 0 h)

  pub signed_false : b ≡ 0 → signed x b ≡ 45 ∷ decimal x
  unfolding signed
  signed_false h = rw h

-- what `put_signed` writes: m is the writer as the number finds it
module _ {s m u : Writer} (x b : ℕ) (w : Wrote m (decimal x) u) where
  pub wrote_true : (b ≡ 0 → ⊥) → m ≡ s → Wrote s (signed x b) u
  wrote_true h g = rw (signed_true x b h) (rw g at w)

  pub wrote_false : {t : Writer} → b ≡ 0 → m ≡ t → Wrote s (45 ∷ []) t → Wrote s (signed x b) u
  wrote_false h g p = rw (signed_false x b h) (wrote_both (45 ∷ []) (decimal x) p (rw g at w))

-- The values from i on -----------------------------------------------------------------------------------------------

module _ (bytes : List ℕ) (i : ℕ) where
  pub next_value : i < length bytes → values_from (i + 1) (drop i bytes) ≡ 32 ∷ (signed (i + 1) (get_or bytes i 0) ++ values_from (i + 1 + 1) (drop (i + 1) bytes))
  unfolding values_from
  next_value h = rw (drop-cons bytes i 0 h, add-one i, add-one (suc i))

  pub no_value : length bytes ≤ i → values_from (i + 1) (drop i bytes) ≡ 32 ∷ 48 ∷ 10 ∷ []
  unfolding values_from
  no_value h = rw (drop_of_length-le bytes h)

  module _ {s t : Writer} {all : List ℕ} where
    pub values_turn : {u w : Writer} → i < length bytes → Writing s all t (values_from (i + 1) (drop i bytes)) → Wrote t (32 ∷ []) u
        → Wrote u (signed (i + 1) (get_or bytes i 0)) w → Writing s all w (values_from (i + 1 + 1) (drop (i + 1) bytes))
    values_turn h p a b =
        let rest = values_from (i + 1 + 1) (drop (i + 1) bytes) in
        let number = signed (i + 1) (get_or bytes i 0) in
        writing_more number rest (writing_more (32 ∷ []) (number ++ rest) (rw (next_value h) at p) a) b

    pub values_end : {u : Writer} → length bytes ≤ i → Writing s all t (values_from (i + 1) (drop i bytes)) → Wrote t (32 ∷ 48 ∷ 10 ∷ []) u → Wrote s all u
    values_end h p a = writing_end (writing_more (32 ∷ 48 ∷ 10 ∷ []) [] (rw (no_value h) at p) a)

-- The whole ----------------------------------------------------------------------------------------------------------

pub wrote_print : {s t u : Writer} (bytes : List ℕ) → Wrote s (satisfiable_line ++ (10 ∷ 118 ∷ [])) t → Wrote t (values_from 1 bytes) u
    → Wrote s (print bytes) u
unfolding print
wrote_print bytes a b = wrote_both (satisfiable_line ++ (10 ∷ 118 ∷ [])) (values_from 1 bytes) a b
