-- The columns counted and the columns left make all: a column more, and each way out.
use Prim.Native.Nat.{◌*◌, ◌+◌, ◌-◌, ◌<◌, ◌≤◌, ℕ}
use mathlib.Core.List.{List, [], ◌∷◌}
use mathlib.Core.Path.{◌∙◌, ◌≡◌, sym}
use native.Mathlib.Omega.{arith}
use Rattle.clause_set.specs.declared.Counts.{Counts}
use Rattle.log_linear.specs.declared.RuleCounts.{RuleCounts}
use Rattle.log_encoding.specs.AdderSize.{carry_vars, eq_column_count, eq_count, eq_reached}
use Rattle.eq_size.specs.declared.CountedColumns.{CountedColumns}
use Rattle.eq_size.specs.Counted.{ColumnCounted, Grown, InBounds, both, new_carry, odd_bit}
use Rattle.eq_size.specs.Sized.{EqSized}
use Rattle.eq_size.proofs.Steps.{clauses_dead, clauses_last, clauses_turn, clauses_with, vars_dead, vars_turn, vars_with}

module _ (all : List ℕ) (x₀ y₀ : ℕ) where
  -- with the columns hs, the clauses counted make all
  abbrev CountedBy : (ℕ → ℕ) → (Counts → ℕ) → List ℕ → CountedColumns → Type 0
  CountedBy weigh pick hs s = clauses_with weigh hs s.x s.y s.carry (pick s.sent) (pick s.returned) ≡ eq_count weigh all x₀ y₀

  -- s has counted all but the columns hs
  pub record Left (hs : List ℕ) (s : CountedColumns) : Type 0 where
    pub vars : vars_with hs s.x s.y s.carry s.vars ≡ carry_vars (eq_reached all x₀ y₀ 0)
    pub clauses : CountedBy (λ d. 1) (λ u. u.clauses) hs s
    pub lits : CountedBy (λ d. d) (λ u. u.lits) hs s

  module _ (h k : ℕ) (hs : List ℕ) (s : CountedColumns) (l : Left (h ∷ k ∷ hs) s) where
    module _ (r : CountedColumns) (o : odd_bit s ≤ h + s.carry) (a : ColumnCounted h s r) where
      counted_turn : (weigh : ℕ → ℕ) (pick : Counts → ℕ) → pick r.sent ≡ pick s.sent + (new_carry h s - 1) * weigh 2
          → pick r.returned ≡ pick s.returned + eq_column_count weigh h s.carry 0 (new_carry h s) (odd_bit s)
          → CountedBy weigh pick (h ∷ k ∷ hs) s → CountedBy weigh pick (k ∷ hs) r
      counted_turn weigh pick p q c =
          (λ j. clauses_with weigh (k ∷ hs) (a.x j) (a.y j) (a.carry j) (p j) (q j))
          ∙ sym (clauses_turn h k hs s.x s.y s.carry o weigh (pick s.sent) (pick s.returned))
          ∙ c

      pub left_turn : Left (k ∷ hs) r
      left_turn =
          record {
            vars = (λ j. vars_with (k ∷ hs) (a.x j) (a.y j) (a.carry j) (a.vars j))
                ∙ sym (vars_turn h k hs s.x s.y s.carry o s.vars)
                ∙ l.vars;
            clauses = counted_turn (λ d. 1) (λ u. u.clauses) a.sent.clauses_are a.returned.clauses_are l.clauses;
            lits = counted_turn (λ d. d) (λ u. u.lits) a.sent.lits_are a.returned.lits_are l.lits;
          }

    pub left_dead : (r : RuleCounts) → InBounds 26 s → h + s.carry < odd_bit s → r.vars ≡ s.vars → Grown (λ weigh. weigh 0) s.sent r.used
        → EqSized all x₀ y₀ r
    left_dead r b o v g =
        record {
          sized =
              record {
                vars_are = v ∙ sym (vars_dead h k hs s.x s.y s.carry o s.vars) ∙ l.vars;
                clauses_are = g.clauses_are ∙ dead (λ d. 1) (λ u. u.clauses) l.clauses;
                lits_are = g.lits_are ∙ dead (λ d. d) (λ u. u.lits) l.lits;
              };
          few_vars = omega (arith, b.vars);
          few_clauses = omega (arith, b.sent_clauses, g.few_clauses);
          few_lits = omega (arith, b.sent_lits, g.few_lits);
        }
      where
        dead : (weigh : ℕ → ℕ) (pick : Counts → ℕ) → CountedBy weigh pick (h ∷ k ∷ hs) s → pick s.sent + weigh 0 ≡ eq_count weigh all x₀ y₀
        dead weigh pick c = sym (clauses_dead h k hs s.x s.y s.carry o weigh (pick s.sent) (pick s.returned)) ∙ c

  pub left_last : (h : ℕ) (s : CountedColumns) (r : RuleCounts) → Left (h ∷ []) s → InBounds 25 s → r.vars ≡ s.vars
      → Grown (λ weigh. eq_column_count weigh h s.carry s.x 0 s.y) (both s) r.used → EqSized all x₀ y₀ r
  left_last h s r l b v g =
      record {
        sized =
            record {
              vars_are = omega (arith, v, l.vars);
              clauses_are = g.clauses_are ∙ end (λ d. 1) (λ u. u.clauses) l.clauses;
              lits_are = g.lits_are ∙ end (λ d. d) (λ u. u.lits) l.lits;
            };
        few_vars = omega (arith, b.vars);
        few_clauses = omega (arith, b.sent_clauses, b.returned_clauses, g.few_clauses);
        few_lits = omega (arith, b.sent_lits, b.returned_lits, g.few_lits);
      }
    where
      end : (weigh : ℕ → ℕ) (pick : Counts → ℕ) → CountedBy weigh pick (h ∷ []) s
          → pick s.sent + pick s.returned + eq_column_count weigh h s.carry s.x 0 s.y ≡ eq_count weigh all x₀ y₀
      end weigh pick c = sym (clauses_last weigh h s.x s.y s.carry (pick s.sent) (pick s.returned)) ∙ c
