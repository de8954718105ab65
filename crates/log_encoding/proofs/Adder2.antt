-- The clauses of Eq's adder hold exactly where its columns reach their number, dead ends included (`adder2_encodes`,
-- `eq_adder_encodes`).
use Prim.Native.Nat.{◌%◌, ◌*◌, ◌+◌, ◌-◌, ◌/◌, ◌≤◌, min, ℕ}
use borrow.Author.Tests.{eqb-false, eqb-true, leb-false, leb-true}
use lib.Dec.{eqb, leb, ltb}
use lib.ListN.{length}
use mathlib.Core.Bool.{Bool, So, ◌&&◌, cond, false, true}
use mathlib.Core.List.{List, [], ◌++◌, ◌∷◌, map}
use mathlib.Core.Logic.Iff
use mathlib.Core.Logic.{◌↔◌}
use mathlib.Core.Option.{Option, none, some}
use mathlib.Core.Path.{◌∙◌, ◌≡◌, refl, sym}
use native.Mathlib.Omega.{arith}
use Rattle.arithmetic.proofs.Tests.{never}
use Rattle.sat.specs.Clause.{Assignment, Clauses, sat}
use Rattle.sat.specs.Count.{Monotone, count}
use Rattle.sat.specs.Encodes.{Agree, Any, ClausesBelow, Encodes, LitsBelow}
use Rattle.sat.specs.Fresh.{fresh}
use Rattle.sat.specs.Lit.{neg}
use Rattle.sat.proofs.Clauses.{sat_append, sat_both}
use Rattle.sat.proofs.Counts.{count_le}
use Rattle.sat.proofs.Extend.{clauses_below_append, clauses_below_split, compose, count_agree, freely, lits_below_more, means, monotone_agree, over, over_agree, over_new, relist}
use Rattle.sat.proofs.Fresh.{fresh_agree, fresh_below, fresh_lead}
use Rattle.sat.proofs.Gate.{check}
use Rattle.sat.proofs.Lits.{neg_below, negs_below}
use Rattle.log_encoding.proofs.Below.{Terms, bounded_below, singles_below}
use Rattle.log_encoding.proofs.Flip.{flip_below}
use Rattle.log_encoding.specs.Adder2.{Adder2Output, EqColumn, LastColumn, NewCarry, adder2, adder2_clauses, column_and_rest, eq_adder, eq_column, eq_column_ge, eq_column_le, eq_columns, eq_ge_terms, eq_le_terms, eq_target, eq_value, last_column, ordering, prepend, returned_set, unless_dead}
use Rattle.log_encoding.specs.Gather.{Grid, GridBelow, grid_value}
use Rattle.log_encoding.proofs.EqColumn.{eq_column_sat, ordering_sat}

eq_column_below : (v : ℕ) (own carry next : List ℕ) (x y : ℕ) → LitsBelow v own → LitsBelow v carry → LitsBelow v next → ClausesBelow v (eq_column own carry x next y)
unfolding eq_column
eq_column_below v own carry next x y o k n =
    let up : Terms v (eq_ge_terms own carry next) = singles_below v own _ o (k, (flip_below v next n, tt)) in
    let down : Terms v (eq_le_terms own carry next) = singles_below v (map neg own) _ (negs_below v own o) (flip_below v carry k, (n, tt)) in
    clauses_below_append
    v
    (eq_column_ge own carry x next y)
    (eq_column_le own carry x next y)
    (bounded_below v (eq_ge_terms own carry next) (x + length own + length carry) y up)
    (bounded_below v (eq_le_terms own carry next) (y + 2 * length next) x down)

ordering_below : (v : ℕ) (ls : List ℕ) → LitsBelow v ls → ClausesBelow v (ordering ls)
ordering_below v [] b = tt
ordering_below v (l ∷ []) b = tt
ordering_below v (l ∷ m ∷ ls) b = ((b.0, (neg_below v m b.1.0, tt)), ordering_below v (m ∷ ls) b.1)

-- how many variables the outgoing carry has
abbrev eq_carry_size : EqColumn → List ℕ → ℕ
eq_carry_size col carry = (length col.own + length carry - col.target) / 2

module _ (col : EqColumn) (carry : List ℕ) (v : ℕ) (o : LitsBelow v col.own) (k : LitsBelow v carry)
    (bit_ok : col.target ≤ 1) (alive : col.target ≤ length col.own + length carry) where
  abbrev n : ℕ
  n = eq_carry_size col carry

  abbrev entries : Assignment → ℕ
  entries α = count α col.own + count α carry

  abbrev clauses : Clauses
  clauses = ordering (fresh n v) ++ eq_column col.own carry 0 (fresh n v) col.target

  meaning : (α : Assignment) → Monotone α carry → So (sat α clauses) ↔ (Monotone α (fresh n v) × (entries α ≡ 2 * count α (fresh n v) + col.target))
  meaning α f =
      Iff.trans
      (sat_both α (ordering (fresh n v)) (eq_column col.own carry 0 (fresh n v) col.target)) (
        λ h.
            let ordered = (ordering_sat α (fresh n v)).0 h.0 in
            (ordered, omega (arith, (eq_column_sat α col.own carry (fresh n v) 0 col.target f ordered).0 h.1)),
        λ h. ((ordering_sat α (fresh n v)).1 h.0, (eq_column_sat α col.own carry (fresh n v) 0 col.target f h.0).1 (omega arith)),
      )

  total_agree : (α β : Assignment) → Agree v α β → entries α ≡ entries β
  total_agree α β g = omega (arith, count_agree v α β g col.own o, count_agree v α β g carry k)

  chosen : Assignment → Assignment
  chosen α = over v (λ i. ltb i (entries α / 2)) α

  eq_column_encodes : Encodes v (v + n) (λ α. Monotone α carry) (λ α. entries α % 2 ≡ col.target) clauses
  unfolding chosen
  eq_column_encodes =
      record {
        grows = omega arith;
        below = clauses_below_append (v + n) (ordering (fresh n v)) (eq_column col.own carry 0 (fresh n v) col.target)
            (ordering_below (v + n) (fresh n v) (fresh_below n v (v + n) (omega arith)))
            (eq_column_below (v + n) col.own carry (fresh n v) 0 col.target
            (lits_below_more v _ col.own (omega arith) o) (lits_below_more v _ carry (omega arith) k) (fresh_below n v (v + n) (omega arith)));
        sound = λ α f h. let a = (meaning α f).0 h in omega arith;
        complete = λ α f e.
            let g : Agree v α (chosen α) = over_agree v (λ i. ltb i (entries α / 2)) α in
            let fill = fresh_lead (chosen α) n v (entries α / 2) (omega (arith, count_le α col.own, count_le α carry))
            (λ i h. over_new v (λ i. ltb i (entries α / 2)) α i) in (
              chosen α,
              g,
              (meaning (chosen α) (monotone_agree v α (chosen α) g carry k f)).1
                  (fill.0 ∙ sym fill.1, omega (arith, total_agree α (chosen α) g)),
            );
        unique = λ α β f g h h'.
            let a = (meaning α f).0 h in
            let b = (meaning β (monotone_agree v α β g carry k f)).0 h' in
            fresh_agree α β n v a.0 b.0 (omega (arith, total_agree α β g)) g;
      }

-- the sent clauses go in front
module _ (o b s : Clauses) where
  shuffle_sat : (m : Option Clauses) (α : Assignment) → sat α ((o ++ b) ++ (s ++ returned_set m)) ≡ sat α ((o ++ s) ++ returned_set (prepend b m))
  shuffle_sat none α = simp sat_append (never_both (sat α o) (sat α b) (sat α s))
    where
      never_both : (O B S : Bool) → ((O && B) && (S && false)) ≡ ((O && S) && false)
      never_both true true true = refl
      never_both true true false = refl
      never_both true false true = refl
      never_both true false false = refl
      never_both false B S = refl
  shuffle_sat (some m) α = simp sat_append (swap (sat α o) (sat α b) (sat α s) (sat α m))
    where
      swap : (O B S M : Bool) → ((O && B) && (S && M)) ≡ ((O && S) && (B && M))
      swap true true true M = refl
      swap true true false M = refl
      swap true false true M = refl
      swap true false false M = refl
      swap false B S M = refl

  shuffle_below : (v : ℕ) (m : Option Clauses) → ClausesBelow v ((o ++ b) ++ (s ++ returned_set m)) → ClausesBelow v ((o ++ s) ++ returned_set (prepend b m))
  shuffle_below v none h =
      let (p, q) = clauses_below_split v (o ++ b) (s ++ returned_set none) h in
      clauses_below_append v (o ++ s) _ (clauses_below_append v o s (clauses_below_split v o b p).0 (clauses_below_split v s (returned_set none) q).0) (tt, tt)
  shuffle_below v (some m) h =
      let (p, q) = clauses_below_split v (o ++ b) (s ++ m) h in
      clauses_below_append v (o ++ s) (b ++ m)
      (clauses_below_append v o s (clauses_below_split v o b p).0 (clauses_below_split v s m q).0)
      (clauses_below_append v b m (clauses_below_split v o b p).1 (clauses_below_split v s m q).1)

abbrev pub EqColumnsBelow : ℕ → List EqColumn → Type 0
EqColumnsBelow v [] = Unit
EqColumnsBelow v (col ∷ cols) = (LitsBelow v col.own × (col.target ≤ 1)) × EqColumnsBelow v cols

eq_columns_below_more : (v v' : ℕ) (cols : List EqColumn) → v ≤ v' → EqColumnsBelow v cols → EqColumnsBelow v' cols
eq_columns_below_more v v' [] h b = tt
eq_columns_below_more v v' (col ∷ cols) h b = ((lits_below_more v v' col.own h b.0.0, b.0.1), eq_columns_below_more v v' cols h b.1)

eq_value_agree : (v : ℕ) (α β : Assignment) → Agree v α β → (cols : List EqColumn) (last : LastColumn) → EqColumnsBelow v cols → LitsBelow v last.own
    → eq_value α cols last ≡ eq_value β cols last
eq_value_agree v α β g [] last b e = omega (arith, count_agree v α β g last.own e)
eq_value_agree v α β g (col ∷ cols) last b e =
    omega (arith, count_agree v α β g col.own b.0.0, eq_value_agree v α β g cols last b.1 e)

pub adder2_encodes : (cols : List EqColumn) (last : LastColumn) (carry : List ℕ) (v : ℕ) → EqColumnsBelow v cols → LitsBelow v last.own → LitsBelow v carry
    → Encodes
    v
    (adder2 cols last carry v).vars
    (λ α. Monotone α carry)
    (λ α. count α carry + eq_value α cols last ≡ eq_target cols last)
    (adder2_clauses (adder2 cols last carry v))
adder2_encodes [] last carry v b e k =
    record {
      grows = omega arith;
      below = eq_column_below v last.own carry [] last.plus last.target e k tt;
      sound = λ α f h. omega (arith, (eq_column_sat α last.own carry [] last.plus last.target f refl).0 h);
      complete = λ α f h. (α, (λ x h. refl), (eq_column_sat α last.own carry [] last.plus last.target f refl).1 (omega arith));
      unique = λ α β f g h h'. g;
    }
adder2_encodes (col ∷ cols) last carry v b e k =
    go (leb col.target (length col.own + length carry)) refl
    (adder2_encodes cols last (fresh n' v) (v + n') (eq_columns_below_more v _ cols (omega arith) b.1) (lits_below_more v _ last.own (omega arith) e)
    (fresh_below n' v _ (omega arith)))
  where
    n' : ℕ
    n' = eq_carry_size col carry

    rest : Adder2Output
    rest = adder2 cols last (fresh n' v) (v + n')

    S : Assignment → Type 0
    S α = count α carry + (count α col.own + 2 * eq_value α cols last) ≡ col.target + 2 * eq_target cols last

    next : NewCarry
    next = record { lits = fresh n' v; vars = v + n' }

    here : NewCarry → Adder2Output
    here c = column_and_rest c.lits (eq_column col.own carry 0 c.lits col.target) (adder2 cols last c.lits c.vars)

    out : Bool → Adder2Output
    out t = unless_dead (cond t (some next) none) v here

    go : (t : Bool) → leb col.target (length col.own + length carry) ≡ t
        → Encodes (v + n') rest.vars (λ α. Monotone α (fresh n' v)) (λ α. count α (fresh n' v) + eq_value α cols last ≡ eq_target cols last) (adder2_clauses rest)
        → Encodes v (out t).vars (λ α. Monotone α carry) S (adder2_clauses (out t))
    go true q ih =
        let alive : col.target ≤ length col.own + length carry = leb-true _ _ q in
        let whole : Encodes v rest.vars (λ α. Monotone α carry) S
        ((ordering (fresh n' v) ++ eq_column col.own carry 0 (fresh n' v) col.target) ++ adder2_clauses rest) =
        compose S (eq_column_encodes col carry v b.0.0 k b.0.1 alive) ih
        (λ α β g f. monotone_agree v α β g carry k f)
        (λ α β g s. omega (arith, total_agree col carry v b.0.0 k b.0.1 alive α β g, eq_value_agree v α β g cols last b.1 e))
        (λ α f s. omega (arith, b.0.1))
        (λ α f h. let a = (meaning col carry v b.0.0 k b.0.1 alive α f).0 h in (a.0, omega arith)) in
        relist (adder2_clauses (here next)) (shuffle_sat (ordering (fresh n' v)) (eq_column col.own carry 0 (fresh n' v) col.target) rest.sent rest.returned)
        (shuffle_below (ordering (fresh n' v)) (eq_column col.own carry 0 (fresh n' v) col.target) rest.sent rest.vars rest.returned whole.below)
        whole
    go false q ih =
        record {
          grows = omega arith;
          below = (tt, tt);
          sound = λ α f h. never h;
          complete = λ α f s. absurd (omega (arith, leb-false col.target (length col.own + length carry) q, b.0.1, count_le α col.own, count_le α carry));
          unique = λ α β f g h h'. never h;
        }

eq_columns_value : (α : Assignment) (c : List ℕ) (cols : Grid) (x y : ℕ) → min x y ≡ 0
    → eq_value α (eq_columns (c ∷ cols) x y) (last_column (c ∷ cols) x y) + y
    ≡ eq_target (eq_columns (c ∷ cols) x y) (last_column (c ∷ cols) x y) + (grid_value α (c ∷ cols) + x)
eq_columns_value α c [] x y h = omega arith
eq_columns_value α c (d ∷ cols) x y h = omega (arith, eq_columns_value α d cols ((x + 1) / 2) (y / 2) (omega arith))

eq_columns_below : (v : ℕ) (c : List ℕ) (cols : Grid) (x y : ℕ) → GridBelow v (c ∷ cols)
    → EqColumnsBelow v (eq_columns (c ∷ cols) x y) × LitsBelow v (last_column (c ∷ cols) x y).own
eq_columns_below v c [] x y g = (tt, g.0)
eq_columns_below v c (d ∷ cols) x y g =
    let (p, q) = eq_columns_below v d cols ((x + 1) / 2) (y / 2) g.1 in
    (((g.0, omega arith), p), q)

pub eq_adder_encodes : (grid : Grid) (x y v : ℕ) → min x y ≡ 0 → GridBelow v grid
    → Encodes v (eq_adder grid x y v).vars Any (λ α. grid_value α grid + x ≡ y) ((eq_adder grid x y v).sent ++ (eq_adder grid x y v).returned)
eq_adder_encodes [] x y v h g = go (eqb x y) refl
  where
    go : (t : Bool) → eqb x y ≡ t → Encodes v v Any (λ α. 0 + x ≡ y) (cond t [] ([] ∷ []))
    go true q = check v Any (λ α. 0 + x ≡ y) [] tt (λ α. (λ s. omega (arith, eqb-true x y q), λ e. refl))
    go false q = check v Any (λ α. 0 + x ≡ y) ([] ∷ []) (tt, tt) (λ α. (never, λ e. absurd (eqb-false x y q (omega arith))))
eq_adder_encodes (c ∷ cols) x y v h g =
    let low = eq_columns_below v c cols x y g in
    means
    (λ α. omega (arith, eq_columns_value α c cols x y h))
    (freely (λ α. refl) (adder2_encodes (eq_columns (c ∷ cols) x y) (last_column (c ∷ cols) x y) [] v low.0 low.1 tt))
