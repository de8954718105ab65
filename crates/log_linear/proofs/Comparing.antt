-- Ne and Ge bit by bit.
use mathlib.Core.Path.{◌≡◌, refl, ap, sym, ◌∙◌}
use mathlib.Core.List.{List, [], ◌∷◌, ◌++◌, append-nil, map}
use Prim.Native.Nat.{ℕ, min, ◌+◌, ◌-◌, ◌*◌, ◌≤◌, ◌<◌, zero, suc}
use native.Mathlib.Nat.{not-suc-le-zero}
use native.Mathlib.Numerals.{add-one}
use native.Mathlib.Omega.{arith}
use lib.ListN.{drop, get_or, length, length-drop, take}
use lib.Seq.{take_all}
use Rattle.std.specs.Prelude.{Option, None, Some}
use Rattle.sat.specs.declared.Lit.{Lit}
use Rattle.sat.specs.Clause.{Clauses}
use Rattle.sat.specs.Encoded.{EncodedRule, after_clauses}
use Rattle.sat.specs.LitArray.{lit, num}
use Rattle.sat.specs.Size.{entries}
use Rattle.clause_set.specs.declared.ClauseSet.{ClauseSet}
use Rattle.clause_set.specs.Stores.{AddedRule, Wrote, add_clauses, stores_of}
use Rattle.clause_set.proofs.Adding.{add_append}
use Rattle.clause_set.proofs.Writing.{wrote_clauses, wrote_lits}
use Rattle.log_encoding.specs.Compare.{ne_bits, none_of, xor_gate}
use Rattle.log_linear.specs.SubLit.{ge_end, ge_gate, ge_left}

-- What is left to do: s is to get the rule `all`, t has its clauses of n gates, and is to get `rest`.
pub record RuleLeft (s : ClauseSet) (all : EncodedRule) (t : ClauseSet) (rest : EncodedRule) (n : ℕ) : Type 0 where
  pub same_lits : t.lits.ghost_name ≡ s.lits.ghost_name
  pub same_ends : t.ends.ghost_name ≡ s.ends.ghost_name
  pub same_base : t.base ≡ s.base
  pub vars : rest.vars ≡ all.vars
  pub same : add_clauses s.base rest.clauses (stores_of t) ≡ add_clauses s.base all.clauses (stores_of s)
  pub lits : t.used.lits ≤ s.used.lits + 20 * n
  pub clauses : t.used.clauses ≤ s.used.clauses + 6 * n

pub rule_start : (s : ClauseSet) (all : EncodedRule) → RuleLeft s all s all 0
rule_start s all =
    record { same_lits = refl; same_ends = refl; same_base = refl; vars = refl; same = refl; lits = omega arith; clauses = omega arith }

-- one gate
pub rule_turn : {s : ClauseSet} {all : EncodedRule} {t : ClauseSet} {now : EncodedRule} {n v m : ℕ} {u : ClauseSet} (cs : Clauses) (rest : EncodedRule)
    → now ≡ after_clauses cs rest → m ≡ n + 1 → entries cs ≤ 20 → length cs ≤ 6 → RuleLeft s all t now n → Wrote t v cs u → RuleLeft s all u rest m
rule_turn {s} {t = t} cs rest e k few fewer g w =
    record {
      same_lits = w.same_lits ∙ g.same_lits;
      same_ends = w.same_ends ∙ g.same_ends;
      same_base = w.same_base ∙ g.same_base;
      vars = sym (ap (λ (x : EncodedRule). x.vars) e) ∙ g.vars;
      same =
          ap (add_clauses s.base rest.clauses) (w.stores_are ∙ ap (λ b. add_clauses b cs (stores_of t)) g.same_base)
          ∙ sym (add_append s.base cs rest.clauses (stores_of t)) ∙ sym (ap (λ (x : EncodedRule). add_clauses s.base x.clauses (stores_of t)) e) ∙ g.same;
      lits = omega (arith, g.lits, wrote_lits w);
      clauses = omega (arith, g.clauses, wrote_clauses w);
    }

-- the last clauses
pub rule_end : {s : ClauseSet} {all : EncodedRule} {t : ClauseSet} {now : EncodedRule} {n : ℕ} {u : ClauseSet} (cs : Clauses)
    → now ≡ record { clauses = cs; vars = t.vars } → RuleLeft s all t now n → Wrote t t.vars cs u → AddedRule s all u
rule_end {s} {t = t} cs e g w =
    record {
      same_lits = w.same_lits ∙ g.same_lits;
      same_ends = w.same_ends ∙ g.same_ends;
      same_base = w.same_base ∙ g.same_base;
      vars_are = w.vars_are ∙ sym (ap (λ (x : EncodedRule). x.vars) e) ∙ g.vars;
      stores_are =
          w.stores_are ∙ ap (λ b. add_clauses b cs (stores_of t)) g.same_base
          ∙ sym (ap (λ (x : EncodedRule). add_clauses s.base x.clauses (stores_of t)) e) ∙ g.same;
    }

-- the numbers of a slice's literals from a place on
pub nums_next : (xs : List Lit) (i : ℕ) → i < length xs → drop i (map num xs) ≡ (get_or xs i (lit 0)).0 ∷ drop (i + 1) (map num xs)
nums_next xs i h = rw (add-one i) (go xs i h)
  where
    go : (xs : List Lit) (i : ℕ) → i < length xs → drop i (map num xs) ≡ (get_or xs i (lit 0)).0 ∷ drop (suc i) (map num xs)
    go [] i h = absurd (not-suc-le-zero h)
    go (x ∷ xs) zero h = refl
    go (x ∷ xs) (suc i) h = go xs i (omega arith)

-- those of the part of a slice from k on
pub nums_from : (xs : List Lit) (k i : ℕ) → k ≡ i → map num (take (length xs - k) (drop k xs)) ≡ drop i (map num xs)
nums_from xs k i e = rw (take_all (length xs - k) (drop k xs) (rw length-drop (omega arith)), e) (go xs i)
  where
    go : (xs : List Lit) (i : ℕ) → map num (drop i xs) ≡ drop i (map num xs)
    go xs zero = refl
    go [] (suc i) = refl
    go (x ∷ xs) (suc i) = go xs i

-- Ne ------------------------------------------------------------------------------------------------------------------

pub ne_step : {xs ys : List ℕ} (p n : ℕ) (ps ns front : List ℕ) (v : ℕ) → xs ≡ p ∷ ps → ys ≡ n ∷ ns
    → ne_bits xs ys front v ≡ after_clauses (xor_gate (2 * v) p n) (ne_bits ps ns (front ++ (2 * v ∷ [])) (v + 1))
ne_step p n ps ns front v a b = rw (a, b, add-one v)

-- one of the two sums has no more bits
pub ne_end : (xs ys front : List ℕ) (v : ℕ) → min (length xs) (length ys) ≡ 0
    → ne_bits xs ys front v ≡ record { clauses = ((front ++ xs) ++ ys) ∷ []; vars = v }
ne_end [] ys front v h = rw (append-nil front)
ne_end (x ∷ xs) [] front v h = rw (append-nil (front ++ (x ∷ xs)))
ne_end (x ∷ xs) (y ∷ ys) front v h = absurd (omega arith)

-- Ge ------------------------------------------------------------------------------------------------------------------

pub ge_step : {xs ys : List ℕ} (sub : Option ℕ) (p n : ℕ) (ps ns : List ℕ) (v : ℕ) → xs ≡ p ∷ ps → ys ≡ n ∷ ns
    → ge_left sub xs ys v ≡ after_clauses (ge_gate sub (2 * v) p n) (ge_left (Some (2 * v)) ps ns (v + 1))
ge_step None p n ps ns v a b = rw (a, b, add-one v)
ge_step (Some l) p n ps ns v a b = rw (a, b, add-one v)

pub ge_gate_size : (sub : Option ℕ) (next p n : ℕ) → (entries (ge_gate sub next p n) ≤ 20) × (length (ge_gate sub next p n) ≤ 6)
ge_gate_size None next p n = (omega arith, omega arith)
ge_gate_size (Some l) next p n = (omega arith, omega arith)

pub ge_end_is : (sub : Option ℕ) (xs ys : List ℕ) (v : ℕ) → min (length xs) (length ys) ≡ 0
    → ge_left sub xs ys v ≡ record { clauses = ge_end sub xs ys; vars = v }
ge_end_is None [] ys v h = refl
ge_end_is None (x ∷ xs) [] v h = refl
ge_end_is (Some l) [] ys v h = refl
ge_end_is (Some l) (x ∷ xs) [] v h = refl
ge_end_is None (x ∷ xs) (y ∷ ys) v h = absurd (omega arith)
ge_end_is (Some l) (x ∷ xs) (y ∷ ys) v h = absurd (omega arith)

pub none_of_size : (ns : List ℕ) → (length (none_of ns) ≡ length ns) × (entries (none_of ns) ≡ length ns)
none_of_size [] = (refl, refl)
none_of_size (n ∷ ns) = let r = none_of_size ns in (omega arith, omega arith)
