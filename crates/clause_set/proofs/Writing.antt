-- What writing leaves in a set of clauses: one list of clauses after another; a loop that writes.
use mathlib.Core.Path.{◌≡◌, refl, ap, sym, ◌∙◌}
use mathlib.Core.List.{List, [], ◌++◌, ◌∷◌}
use Prim.Native.Nat.{ℕ, ◌+◌}
use native.Mathlib.Omega.{arith}
use lib.ListN.{length, length-append, set}
use lib.Seq.{sets}
use Rattle.sat.specs.Clause.{Clauses}
use Rattle.sat.specs.Size.{entries}
use Rattle.sat.proofs.Size.{entries_append}
use Rattle.clause_set.specs.declared.ClauseSet.{ClauseSet}
use Rattle.clause_set.specs.declared.Counts.{Counts}
use Rattle.clause_set.specs.Stores.{Closed, Fits, Stores, Wrote, add_clauses, after, stores, stores_of}
use Rattle.clause_set.proofs.Adding.{add_append, count_after, one_added, used_after}

pub wrote_nothing : (s : ClauseSet) → Wrote s s.vars [] s
wrote_nothing s = record { same_lits = refl; same_ends = refl; same_base = refl; vars_are = refl; stores_are = refl }

module _ {s : ClauseSet} {v : ℕ} {cs : Clauses} {t : ClauseSet} (p : Wrote s v cs t) where
  pub wrote_lits : t.used.lits ≡ s.used.lits + entries cs
  wrote_lits = ap (λ (x : Stores). x.used) p.stores_are ∙ used_after s.base cs (stores_of s)

  pub wrote_clauses : t.used.clauses ≡ s.used.clauses + length cs
  wrote_clauses = ap (λ (x : Stores). x.count) p.stores_are ∙ count_after s.base cs (stores_of s)

  -- more behind it
  pub wrote_then : {w : ℕ} {ds : Clauses} {u : ClauseSet} → Wrote t w ds u → Wrote s w (cs ++ ds) u
  wrote_then {ds = ds} q =
      record {
        same_lits = q.same_lits ∙ p.same_lits;
        same_ends = q.same_ends ∙ p.same_ends;
        same_base = q.same_base ∙ p.same_base;
        vars_are = q.vars_are;
        stores_are =
            q.stores_are ∙ ap (λ b. add_clauses b ds (stores_of t)) p.same_base ∙ ap (add_clauses s.base ds) p.stores_are
            ∙ sym (add_append s.base cs ds (stores_of s));
      }

  -- with a variable count and clauses that are the same
  pub wrote_as : {w : ℕ} {ds : Clauses} → v ≡ w → cs ≡ ds → Wrote s w ds t
  wrote_as e f =
      record {
        same_lits = p.same_lits;
        same_ends = p.same_ends;
        same_base = p.same_base;
        vars_are = p.vars_are ∙ e;
        stores_are = p.stores_are ∙ ap (λ xs. add_clauses s.base xs (stores_of s)) f;
      }

  -- what has to fit behind it
  pub fits_behind : {ds : Clauses} → Fits s.base s.used (cs ++ ds) → Fits t.base t.used ds
  fits_behind {ds} f =
      record {
        lits = omega (arith, f.lits, entries_append cs ds, wrote_lits, p.same_base);
        clauses = omega (arith, f.clauses, length-append cs ds, wrote_clauses);
      }

-- One clause whose literals were stored, and which was closed.
pub closed_clause : {s t u : ClauseSet} {n : ℕ} (c : List ℕ) → Closed t n u → n ≡ length c
    → t.lits.ghost_name ≡ s.lits.ghost_name → t.lits.now ≡ sets s.lits.now s.used.lits c
    → t.ends ≡ s.ends → t.base ≡ s.base → t.vars ≡ s.vars → t.used ≡ s.used → Wrote s s.vars (c ∷ []) u
closed_clause {s} {t} {u} {n} c w long name lits ends base vars used =
    let at : t.used.lits ≡ s.used.lits = ap (λ (a : Counts). a.lits) used in
    let k : t.used.clauses ≡ s.used.clauses = ap (λ (a : Counts). a.clauses) used in
    let end : u.used.lits ≡ s.used.lits + n = w.lits_used ∙ ap (λ x. x + n) at in
    let count : u.used.clauses ≡ s.used.clauses + 1 = w.clauses_used ∙ ap (λ x. x + 1) k in
    record {
      same_lits = w.same_lits ∙ name;
      same_ends = w.same_ends ∙ (λ i. (ends i).ghost_name);
      same_base = w.same_base ∙ base;
      vars_are = w.same_vars ∙ vars;
      stores_are =
          (λ i. stores (u.lits.now) (u.ends.now) (end i) (count i))
          ∙ one_added s.base (stores_of s) c u.lits.now u.ends.now (s.used.lits + n) (w.lits_are ∙ lits) (ap (λ x. s.used.lits + x) long)
          (w.ends_are ∙ (λ i. set ((ends i).now) (k i + 1) (base i + (at i + n))));
    }

-- Where a set is made of two slices and given up, the slices have what was written: each is what the reference of its name holds.
pub given_back : {s : ClauseSet} {v : ℕ} {cs : Clauses} {t : ClauseSet} {d e : List ℕ} → Wrote s v cs t
    → (s.lits.ghost_name ≡ t.lits.ghost_name → d ≡ t.lits.now) → (s.ends.ghost_name ≡ t.ends.ghost_name → e ≡ t.ends.now)
    → after d e t.used ≡ add_clauses s.base cs (stores_of s)
given_back {t = t} w f g =
    (λ i. after (f (sym w.same_lits) i) (g (sym w.same_ends) i) t.used) ∙ w.stores_are

-- the same clauses written otherwise
pub fits_as : {b : ℕ} {a : Counts} {cs ds : Clauses} → Fits b a cs → cs ≡ ds → Fits b a ds
fits_as f e = record { lits = omega (arith, f.lits, ap entries e); clauses = omega (arith, f.clauses, ap length e) }

-- A loop that writes -------------------------------------------------------------------------------------------------

-- What is left to do: s is to get all these clauses, t has some of them, and is to get the rest.
pub record Left (s : ClauseSet) (all : Clauses) (t : ClauseSet) (rest : Clauses) : Type 0 where
  pub same_lits : t.lits.ghost_name ≡ s.lits.ghost_name
  pub same_ends : t.ends.ghost_name ≡ s.ends.ghost_name
  pub same_base : t.base ≡ s.base
  pub same : add_clauses s.base rest (stores_of t) ≡ add_clauses s.base all (stores_of s)
  pub fits : Fits t.base t.used rest

pub left_start : (s : ClauseSet) (all : Clauses) → Fits s.base s.used all → Left s all s all
left_start s all f = record { same_lits = refl; same_ends = refl; same_base = refl; same = refl; fits = f }

-- the same where what is left is written otherwise
pub left_as : {s : ClauseSet} {all : Clauses} {t : ClauseSet} {rest others : Clauses} → Left s all t rest → rest ≡ others → Left s all t others
left_as {s} {t = t} g e =
    record {
      same_lits = g.same_lits;
      same_ends = g.same_ends;
      same_base = g.same_base;
      same = ap (λ xs. add_clauses s.base xs (stores_of t)) (sym e) ∙ g.same;
      fits = fits_as g.fits e;
    }

module _ {s : ClauseSet} {all : Clauses} {t : ClauseSet} (cs rest : Clauses) (g : Left s all t (cs ++ rest)) where
  pub left_fits : Fits t.base t.used cs
  left_fits =
      record { lits = omega (arith, g.fits.lits, entries_append cs rest); clauses = omega (arith, g.fits.clauses, length-append cs rest) }

  pub left_turn : {v : ℕ} {u : ClauseSet} → Wrote t v cs u → Left s all u rest
  left_turn {u = u} p =
      record {
        same_lits = p.same_lits ∙ g.same_lits;
        same_ends = p.same_ends ∙ g.same_ends;
        same_base = p.same_base ∙ g.same_base;
        same =
            ap (add_clauses s.base rest) (p.stores_are ∙ ap (λ b. add_clauses b cs (stores_of t)) g.same_base)
            ∙ sym (add_append s.base cs rest (stores_of t)) ∙ g.same;
        fits = fits_behind p g.fits;
      }

-- nothing is left
pub left_end : {s : ClauseSet} {all : Clauses} {t : ClauseSet} → Left s all t [] → Wrote s t.vars all t
left_end g = record { same_lits = g.same_lits; same_ends = g.same_ends; same_base = g.same_base; vars_are = refl; stores_are = g.same }
