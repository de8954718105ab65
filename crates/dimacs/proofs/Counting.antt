-- How long each part of the print is, as the code adds it up.
use Prim.Native.Nat.{◌+◌, ◌-◌, ◌<◌, ◌≤◌, ℕ}
use lib.ListN.{drop, drop_of_length-le, get_or, length, length-append, length-drop, length-take}
use lib.Seq.{drop-cons}
use mathlib.Core.Bool.{Bool, cond, false, true}
use mir.Val.{bool_byte}
use mathlib.Core.List.{List, ◌∷◌, []}
use mathlib.Core.Path.{◌∙◌, ◌≡◌, ap}
use native.Mathlib.Numerals.{add-one}
use native.Mathlib.Omega.{arith}
use Rattle.sat.specs.Lit.{is_negated}
use Rattle.clause_set.specs.Stores.{clause_at, clauses_from}
use Rattle.encoder_env.specs.declared.EncoderEnv.{EncoderEnv}
use Rattle.text.specs.Decimal.{decimal}
use Rattle.dimacs.specs.Dimacs.{clause, clauses, dimacs, header, line, literal, number, print_of, refused}
use Rattle.dimacs.proofs.Parts.{from_none, from_some}

-- a literal's number and its minus
pub literal_long : (l : ℕ) {n d m : ℕ} → n ≡ number l → (d ≡ length (decimal n)) × (d ≤ 10) → m ≡ bool_byte (is_negated l)
    → (d + m ≡ length (literal l)) × (d + m ≤ 11)
unfolding literal
literal_long l {n} {d} {m} e h p = by (is_negated l) p
  where
    k : d ≡ length (decimal (number l))
    k = h.0 ∙ ap (λ x. length (decimal x)) e

    by : (t : Bool) → m ≡ bool_byte t → (d + m ≡ length (cond t (45 ∷ decimal (number l)) (decimal (number l)))) × (d + m ≤ 11)
    by true q = (omega (arith, k, q), omega (arith, h.1, q))
    by false q = (omega (arith, k, q), omega (arith, h.1, q))

-- a clause, where m bytes are counted and the literals from i on are left
module _ (p : List ℕ) (i m : ℕ) {g : ℕ} where
  pub clause_longer : {d : ℕ} → i < length p → d ≡ length (literal (get_or p i 0)) → m + length (clause (drop i p)) ≡ g
      → m + (d + 1) + length (clause (drop (i + 1) p)) ≡ g
  unfolding clause
  clause_longer {d} h e q = rw (add-one i) (omega (arith, e, rw (drop-cons p i 0 h, length-append) at q))

  pub clause_long : length p ≤ i → m + length (clause (drop i p)) ≡ g + 2 → m ≡ g
  unfolding clause
  clause_long h q = omega (arith, rw (drop_of_length-le p h) at q)

-- clauses, where m bytes are counted and those from k on are left
module _ (lits ends : List ℕ) (k n m : ℕ) {g : ℕ} where
  pub clauses_longer : {d : ℕ} {r : List ℕ} → k < n → r ≡ clause_at lits ends k → d ≡ length (clause r)
      → m + length (clauses (clauses_from lits ends k (n - k))) ≡ g → m + d + length (clauses (clauses_from lits ends (k + 1) (n - (k + 1)))) ≡ g
  unfolding clauses
  clauses_longer h a e q = omega (arith, e ∙ ap (λ x. length (clause x)) a, rw (from_some lits ends k n h, length-append) at q)

  pub clauses_long : n ≤ k → m + length (clauses (clauses_from lits ends k (n - k))) ≡ g → m ≡ g
  unfolding clauses
  clauses_long h q = omega (arith, rw (from_none lits ends k n h) at q)

-- a clause is no longer than the store
pub clause_within : (lits ends : List ℕ) (k most : ℕ) {r : List ℕ} → length lits ≤ most → r ≡ clause_at lits ends k → length r ≤ most
clause_within lits ends k most h e = rw (e, length-take, length-drop) (omega arith)

pub line_long : (word : List ℕ) (a b : ℕ) {d f : ℕ} → length word ≤ 8 → (d ≡ length (decimal a)) × (d ≤ 10) → (f ≡ length (decimal b)) × (f ≤ 10)
    → (length word + d + f + 2 ≡ length (line word a b)) × (length word + d + f + 2 ≤ 30)
line_long word a b h p q = (simp length-append (omega (arith, p.0, q.0)), omega arith)

pub print_long : (env : EncoderEnv) (lits ends : List ℕ) {a b : ℕ}
    → a ≡ length (line (112 ∷ 32 ∷ 99 ∷ 110 ∷ 102 ∷ 32 ∷ []) env.variables env.clauses)
    → b ≡ length (clauses (clauses_from lits ends 0 env.clauses)) → a + b ≡ length (print_of env lits ends)
unfolding print_of dimacs header
print_long env lits ends p q = rw length-append (omega (arith, p, q))

pub refusal_long : (f n : ℕ) {a : ℕ} → a ≡ length (line (114 ∷ 101 ∷ 102 ∷ 117 ∷ 115 ∷ 101 ∷ 100 ∷ 32 ∷ []) f n) → a ≡ length (refused f n)
unfolding refused
refusal_long f n e = e
