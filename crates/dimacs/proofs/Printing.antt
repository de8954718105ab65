-- What each place of the code adds to the print.
use Prim.Native.Nat.{◌+◌, ◌-◌, ◌<◌, ◌≤◌, suc, ℕ}
use lib.ListN.{drop, drop_of_length-le, get_or, length}
use lib.Seq.{drop-cons}
use mathlib.Core.Bool.{false, true}
use mathlib.Core.List.{List, [], ◌++◌, ◌∷◌}
use mathlib.Core.Path.{◌≡◌}
use native.Mathlib.Numerals.{add-one}
use Rattle.sat.specs.Lit.{is_negated}
use Rattle.clause_set.specs.Stores.{clause_at, clauses_from}
use Rattle.encoder_env.specs.declared.EncoderEnv.{EncoderEnv}
use Rattle.text.specs.declared.Writer.{Writer}
use Rattle.text.specs.Bytes.{Wrote}
use Rattle.text.specs.Decimal.{decimal}
use Rattle.text.proofs.Laws.{Writing, writing_end, writing_more, wrote_both}
use Rattle.dimacs.specs.Dimacs.{clause, clauses, dimacs, header, line, literal, number, print_of, refused}
use Rattle.dimacs.proofs.Parts.{from_none, from_some}

-- A literal and a clause ---------------------------------------------------------------------------------------------

-- m is the writer as the variable's number finds it
module _ {s m u : Writer} (l : ℕ) {n : ℕ} (e : n ≡ number l) (w : Wrote m (decimal n) u) where
  pub wrote_positive : is_negated l ≡ false → m ≡ s → Wrote s (literal l) u
  unfolding literal
  wrote_positive h g = rw h (rw (e, g) at w)

  pub wrote_negated : {t : Writer} → is_negated l ≡ true → m ≡ t → Wrote s (45 ∷ []) t → Wrote s (literal l) u
  unfolding literal
  wrote_negated h g a = rw h (wrote_both (45 ∷ []) (decimal (number l)) a (rw (e, g) at w))

module _ {s t : Writer} {all : List ℕ} (p : List ℕ) (i : ℕ) where
  pub clause_turn : {u w : Writer} → i < length p → Writing s all t (clause (drop i p)) → Wrote t (literal (get_or p i 0)) u → Wrote u (32 ∷ []) w
      → Writing s all w (clause (drop (i + 1) p))
  unfolding clause
  clause_turn h q a b =
      let rest = clause (drop (suc i) p) in
      rw add-one (writing_more (32 ∷ []) rest (writing_more (literal (get_or p i 0)) (32 ∷ rest) (rw (drop-cons p i 0 h) at q) a) b)

  pub clause_end : {u : Writer} → length p ≤ i → Writing s all t (clause (drop i p)) → Wrote t (48 ∷ 10 ∷ []) u → Wrote s all u
  unfolding clause
  clause_end h q a = writing_end (writing_more (48 ∷ 10 ∷ []) [] (rw (drop_of_length-le p h) at q) a)

-- All clauses ---------------------------------------------------------------------------------------------------------

module _ (lits ends : List ℕ) (k n : ℕ) {s t : Writer} {all : List ℕ} where
  pub clauses_turn : {r : List ℕ} {u : Writer} → k < n → Writing s all t (clauses (clauses_from lits ends k (n - k))) → r ≡ clause_at lits ends k
      → Wrote t (clause r) u → Writing s all u (clauses (clauses_from lits ends (k + 1) (n - (k + 1))))
  unfolding clauses
  clauses_turn {r} h q e a =
      writing_more (clause r) (clauses (clauses_from lits ends (k + 1) (n - (k + 1)))) (rw e (rw (from_some lits ends k n h) at q)) a

  pub clauses_end : n ≤ k → Writing s all t (clauses (clauses_from lits ends k (n - k))) → Wrote s all t
  unfolding clauses
  clauses_end h q = writing_end (rw (from_none lits ends k n h) at q)

-- Lines, and the whole -------------------------------------------------------------------------------------------------

pub wrote_line : {s t u v w x : Writer} (word : List ℕ) (a b : ℕ)
    → Wrote s word t → Wrote t (decimal a) u → Wrote u (32 ∷ []) v → Wrote v (decimal b) w → Wrote w (10 ∷ []) x
    → Wrote s (line word a b) x
wrote_line word a b p q r y z =
    wrote_both word (decimal a ++ (32 ∷ (decimal b ++ (10 ∷ [])))) p
    (wrote_both (decimal a) (32 ∷ (decimal b ++ (10 ∷ []))) q
    (wrote_both (32 ∷ []) (decimal b ++ (10 ∷ [])) r
    (wrote_both (decimal b) (10 ∷ []) y z)))

-- `p cnf ` and `refused ` as the code has them
pub wrote_refused : {s u : Writer} (f n : ℕ) → Wrote s (line (114 ∷ 101 ∷ 102 ∷ 117 ∷ 115 ∷ 101 ∷ 100 ∷ 32 ∷ []) f n) u → Wrote s (refused f n) u
unfolding refused
wrote_refused f n w = w

pub wrote_print : {s t u : Writer} (env : EncoderEnv) (lits ends : List ℕ)
    → Wrote s (line (112 ∷ 32 ∷ 99 ∷ 110 ∷ 102 ∷ 32 ∷ []) env.variables env.clauses) t
    → Wrote t (clauses (clauses_from lits ends 0 env.clauses)) u → Wrote s (print_of env lits ends) u
unfolding print_of dimacs header
wrote_print env lits ends a b = wrote_both (header env.variables env.clauses) (clauses (clauses_from lits ends 0 env.clauses)) a b
