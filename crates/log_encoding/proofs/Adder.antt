-- The adder spells what its columns add up to (`adder_value`), ties each new variable in one way (`adder_encodes`), and keeps the
-- result literals that are given (`adder_keeps`).
use Prim.Native.Nat.{◌%◌, ◌*◌, ◌+◌, ◌/◌, ◌<◌, ◌≤◌, suc, zero, ℕ}
use borrow.Author.Tests.{eqb-false, eqb-true, le-ltb, lt-ltb}
use lib.Dec.{eqb, ltb}
use lib.ListN.{drop, length}
use mathlib.Core.Bool.{Bool, So, cond, false, true}
use mathlib.Core.List.{List, [], ◌++◌, ◌∷◌}
use mathlib.Core.Logic.{◌↔◌, by_cases}
use mathlib.Core.Path.{◌∙◌, ◌≡◌, ap, refl, sym}
use native.Mathlib.Decide.{dec_lt}
use native.Mathlib.Omega.{arith}
use Rattle.sat.specs.Clause.{Assignment, bit, sat}
use Rattle.sat.specs.Count.{Monotone, count}
use Rattle.sat.specs.Encoded.{EncodedBits}
use Rattle.sat.specs.Encodes.{Agree, Encodes, LitsBelow}
use Rattle.sat.specs.Fresh.{fresh}
use Rattle.sat.specs.Number.{code_of}
use Rattle.sat.proofs.Clauses.{sat_both}
use Rattle.sat.proofs.Counts.{count_le}
use Rattle.sat.proofs.Extend.{bit_agree, compose, count_agree, lits_below_more, monotone_agree, nothing, over, over_agree, over_new}
use Rattle.sat.proofs.Fresh.{fresh_agree, fresh_below, fresh_lead, length_fresh}
use Rattle.sat.proofs.Lits.{bit_holds, bit_le, holds_plain}
use Rattle.log_encoding.specs.Adder.{AdderColumn, ColumnsBelow, MatchesCode, adder, carry_size, columns_value, empty_column, extend, result, result_vars, tail}
use Rattle.log_encoding.specs.Column.{column}
use Rattle.log_encoding.proofs.Column.{column_below, column_sat}

-- where the result literal is given, it has to be the low bit
abbrev pub First : Assignment → List ℕ → ℕ → Type 0
First α [] x = Unit
First α (r ∷ rs) x = bit α r ≡ x % 2

pub matches_agree : (v : ℕ) (α β : Assignment) → Agree v α β → (rs : List ℕ) → LitsBelow v rs → (x y : ℕ) → x ≡ y → MatchesCode α rs x → MatchesCode β rs y
matches_agree v α β g [] b x y e m = tt
matches_agree v α β g (r ∷ rs) b x y e m =
    (omega (arith, bit_agree v α β g r b.0), matches_agree v α β g rs b.1 (x / 2) (y / 2) (omega arith) m.1)

module _ (col : AdderColumn) (carry : List ℕ) (v : ℕ) (o : LitsBelow v col.own) (k : LitsBelow v carry) where
  abbrev n : ℕ
  n = carry_size col carry

  abbrev entries : Assignment → ℕ
  entries α = col.constant + count α col.own + count α carry

  abbrev clauses : ℕ → List (List ℕ)
  clauses r = column col.own carry col.constant (fresh n v) r

  pub meaning : (α : Assignment) (r : ℕ) → Monotone α carry
      → So (sat α (clauses r)) ↔ (Monotone α (fresh n v) × (entries α ≡ 2 * count α (fresh n v) + bit α r))
  meaning α r f = column_sat α col.own carry (fresh n v) r col.constant f (omega (arith, length_fresh n v))

  total_agree : (α β : Assignment) → Agree v α β → entries α ≡ entries β
  total_agree α β g = omega (arith, count_agree v α β g col.own o, count_agree v α β g carry k)

  column_only : (α β : Assignment) (r : ℕ) → Monotone α carry → Agree v α β → So (sat α (clauses r)) → So (sat β (clauses r))
      → Agree (v + n) α β × (bit α r ≡ bit β r)
  column_only α β r f g h h' =
      let a = (meaning α r f).0 h in
      let b = (meaning β r (monotone_agree v α β g carry k f)).0 h' in (
        fresh_agree α β n v a.0 b.0 (omega (arith, total_agree α β g, bit_le α r, bit_le β r)) g,
        omega (arith, total_agree α β g, bit_le α r, bit_le β r),
      )

  -- the new variables: the carry's first, then the result's
  new : ℕ → ℕ → Bool
  new x i = cond (ltb i n) (ltb i (x / 2)) (eqb (x % 2) 1)

  chosen : Assignment → Assignment
  chosen α = over v (new (entries α)) α

  chosen_agree : (α : Assignment) → Agree v α (chosen α)
  unfolding chosen
  chosen_agree α = over_agree v (new (entries α)) α

  chosen_carry : (α : Assignment) (i : ℕ) → i < n → chosen α (v + i) ≡ ltb i (entries α / 2)
  unfolding chosen new
  chosen_carry α i h = over_new v (new (entries α)) α i ∙ rw (lt-ltb i n h)

  chosen_result : (α : Assignment) → bit (chosen α) (2 * (v + n)) ≡ entries α % 2
  unfolding chosen new
  chosen_result α = rw (holds_plain, over_new, le-ltb n n (omega arith)) (go (eqb (entries α % 2) 1) refl)
    where
      go : (t : Bool) → eqb (entries α % 2) 1 ≡ t → cond t 1 0 ≡ entries α % 2
      go true q = omega (arith, eqb-true (entries α % 2) 1 q)
      go false q = let no_one : ¬ (entries α % 2 ≡ 1) = eqb-false (entries α % 2) 1 q in omega arith

  column_one : (α : Assignment) (r : ℕ) → Monotone α carry → bit (chosen α) r ≡ entries α % 2 → So (sat (chosen α) (clauses r))
  column_one α r f e =
      let fill = fresh_lead (chosen α) n v (entries α / 2) (omega (arith, count_le α col.own, count_le α carry)) (chosen_carry α) in
      (meaning (chosen α) r (monotone_agree v α (chosen α) (chosen_agree α) carry k f)).1
      (fill.0 ∙ sym fill.1, omega (arith, total_agree α (chosen α) (chosen_agree α)))

  pub column_encodes : (rs : List ℕ) → LitsBelow v rs
      → Encodes v (result_vars rs (v + n)) (λ α. Monotone α carry) (λ α. First α rs (entries α)) (clauses (result rs (v + n)))
  column_encodes [] b =
      record {
        grows = omega arith;
        below = column_below (suc (v + n)) col.own carry (fresh n v) (2 * (v + n)) col.constant
            (lits_below_more v _ col.own (omega arith) o) (lits_below_more v _ carry (omega arith) k) (fresh_below n v _ (omega arith)) (omega arith);
        sound = λ α f h. tt;
        complete = λ α f _. (chosen α, chosen_agree α, column_one α (2 * (v + n)) f (chosen_result α));
        unique = λ α β f g h h'.
            let both = column_only α β (2 * (v + n)) f g h h' in
            λ x b. by_cases (dec_lt x (v + n)) (both.0 x) (λ high. last α β x (omega arith) both.1);
      }
    where
      last : (α β : Assignment) (x : ℕ) → x ≡ v + n → bit α (2 * (v + n)) ≡ bit β (2 * (v + n)) → α x ≡ β x
      last α β x e b = rw e (sym (holds_plain α (v + n)) ∙ bit_holds α β (2 * (v + n)) b ∙ holds_plain β (v + n))
  column_encodes (r ∷ rs) b =
      record {
        grows = omega arith;
        below = column_below (v + n) col.own carry (fresh n v) r col.constant
            (lits_below_more v _ col.own (omega arith) o) (lits_below_more v _ carry (omega arith) k) (fresh_below n v _ (omega arith)) (omega arith);
        sound = λ α f h. let a = (meaning α r f).0 h in omega (arith, bit_le α r);
        complete = λ α f e. (chosen α, chosen_agree α, column_one α r f (sym (bit_agree v α (chosen α) (chosen_agree α) r b.0) ∙ e));
        unique = λ α β f g h h'. (column_only α β r f g h h').0;
      }

  -- a column, and what follows it: `rest` adds its carry to U
  module _ (rs : List ℕ) (b : LitsBelow v rs) (U : Assignment → ℕ) (rest : EncodedBits) where
    abbrev w : ℕ
    w = result_vars rs (v + n)

    add_column_value : (α : Assignment) → Monotone α carry → So (sat α (clauses (result rs (v + n)) ++ rest.clauses))
        → (Monotone α (fresh n v) → So (sat α rest.clauses) → code_of α rest.bits ≡ count α (fresh n v) + U α)
        → bit α (result rs (v + n)) + 2 * code_of α rest.bits ≡ count α carry + (col.constant + count α col.own + 2 * U α)
    add_column_value α f h ih =
        let parts = (sat_both α (clauses (result rs (v + n))) rest.clauses).0 h in
        let a = (meaning α (result rs (v + n)) f).0 parts.0 in
        omega (arith, ih a.0 parts.1)

    add_column_encodes : ((α β : Assignment) → Agree v α β → U α ≡ U β)
        → Encodes w rest.vars (λ α. Monotone α (fresh n v)) (λ α. MatchesCode α (tail rs) (count α (fresh n v) + U α)) rest.clauses
        → Encodes
        v
        rest.vars
        (λ α. Monotone α carry)
        (λ α. MatchesCode α rs (count α carry + (col.constant + count α col.own + 2 * U α)))
        (clauses (result rs (v + n)) ++ rest.clauses)
    add_column_encodes same more =
        compose
        (λ α. MatchesCode α rs (count α carry + (col.constant + count α col.own + 2 * U α)))
        (column_encodes rs b)
        more
        (λ α β g f. monotone_agree v α β g carry k f)
        (λ α β g m. matches_agree v α β g rs b _ _ (omega (arith, total_agree α β g, same α β g)) m)
        (λ α f m. first α rs m)
        (λ α f h. let a = (meaning α (result rs (v + n)) f).0 h in (a.0, link α rs a.1))
      where
        first : (α : Assignment) (rs : List ℕ) → MatchesCode α rs (count α carry + (col.constant + count α col.own + 2 * U α)) → First α rs (entries α)
        first α [] m = tt
        first α (r ∷ rs) m = omega arith

        link : (α : Assignment) (rs : List ℕ) → entries α ≡ 2 * count α (fresh n v) + bit α (result rs (v + n))
            → MatchesCode α rs (count α carry + (col.constant + count α col.own + 2 * U α)) ↔ MatchesCode α (tail rs) (count α (fresh n v) + U α)
        link α [] e = (λ m. tt, λ m. tt)
        link α (r ∷ rs) e =
            let half : (count α carry + (col.constant + count α col.own + 2 * U α)) / 2 ≡ count α (fresh n v) + U α = omega (arith, bit_le α r) in
            (λ m. rw half at m.1, λ m. (omega (arith, bit_le α r), rw half m))

-- past the columns
pub extend_value : (f : ℕ) (carry : List ℕ) (v : ℕ) → length carry ≤ f → LitsBelow v carry → (α : Assignment) → Monotone α carry
    → So (sat α (extend f carry v).clauses) → code_of α (extend f carry v).bits ≡ count α carry
extend_value zero [] v h k α g s = refl
extend_value zero (c ∷ cs) v h k α g s = absurd (omega arith)
extend_value (suc f) [] v h k α g s = refl
extend_value (suc f) (c ∷ cs) v h k α g s =
    add_column_value empty_column (c ∷ cs) v tt k [] tt (λ _. 0) (extend f (fresh size v) (suc (v + size))) α g s
    (λ g' s'.
    extend_value f (fresh size v) (suc (v + size)) (omega (arith, length_fresh size v)) (fresh_below size v _ (omega arith)) α g' s'
    ∙ omega arith)
    ∙ omega arith
  where
    size : ℕ
    size = carry_size empty_column (c ∷ cs)

pub extend_encodes : (f : ℕ) (carry : List ℕ) (v : ℕ) → LitsBelow v carry
    → Encodes v (extend f carry v).vars (λ α. Monotone α carry) (λ α. Unit {0}) (extend f carry v).clauses
extend_encodes zero carry v k = nothing v (λ α. Monotone α carry)
extend_encodes (suc f) [] v k = nothing v (λ α. Monotone α [])
extend_encodes (suc f) (c ∷ cs) v k =
    add_column_encodes empty_column (c ∷ cs) v tt k [] tt (λ _. 0) (extend f (fresh size v) (suc (v + size))) (λ α β g. refl)
    (extend_encodes f (fresh size v) (suc (v + size)) (fresh_below size v _ (omega arith)))
  where
    size : ℕ
    size = carry_size empty_column (c ∷ cs)

columns_below_more : (v v' : ℕ) (cols : List AdderColumn) → v ≤ v' → ColumnsBelow v cols → ColumnsBelow v' cols
columns_below_more v v' [] h b = tt
columns_below_more v v' (col ∷ cols) h b = (lits_below_more v v' col.own h b.0, columns_below_more v v' cols h b.1)

pub columns_value_agree : (v : ℕ) (α β : Assignment) → Agree v α β → (cols : List AdderColumn) → ColumnsBelow v cols → columns_value α cols ≡ columns_value β cols
columns_value_agree v α β g [] b = refl
columns_value_agree v α β g (col ∷ cols) b = omega (arith, count_agree v α β g col.own b.0, columns_value_agree v α β g cols b.1)

result_grows : (rs : List ℕ) (x : ℕ) → x ≤ result_vars rs x
result_grows [] x = omega arith
result_grows (r ∷ rs) x = omega arith

tail_below : (v : ℕ) (rs : List ℕ) → LitsBelow v rs → LitsBelow v (tail rs)
tail_below v [] b = tt
tail_below v (r ∷ rs) b = b.1

tail_short : (rs : List ℕ) (n : ℕ) → length rs ≤ suc n → length (tail rs) ≤ n
tail_short [] n h = omega arith
tail_short (r ∷ rs) n h = omega arith

pub adder_value : (cols : List AdderColumn) (carry rs : List ℕ) (v : ℕ) → ColumnsBelow v cols → LitsBelow v carry → LitsBelow v rs → (α : Assignment)
    → Monotone α carry → So (sat α (adder cols carry rs v).clauses) → code_of α (adder cols carry rs v).bits ≡ count α carry + columns_value α cols
adder_value [] carry rs v c k b α g s = extend_value (length carry) carry v (omega arith) k α g s ∙ omega arith
adder_value (col ∷ cols) carry rs v c k b α g s =
    let size = carry_size col carry in
    let w = result_vars rs (v + size) in
    let up = result_grows rs (v + size) in
    add_column_value col carry v c.0 k rs b (λ β. columns_value β cols) (adder cols (fresh size v) (tail rs) w) α g s
    (λ g' s'.
    adder_value
    cols
    (fresh size v)
    (tail rs)
    w
    (columns_below_more v w cols (omega arith) c.1)
    (fresh_below size v w up)
    (lits_below_more v w (tail rs) (omega arith) (tail_below v rs b))
    α
    g'
    s')

pub adder_encodes : (cols : List AdderColumn) (carry rs : List ℕ) (v : ℕ) → ColumnsBelow v cols → LitsBelow v carry → LitsBelow v rs → length rs ≤ length cols
    → Encodes
    v
    (adder cols carry rs v).vars
    (λ α. Monotone α carry)
    (λ α. MatchesCode α rs (count α carry + columns_value α cols))
    (adder cols carry rs v).clauses
adder_encodes [] carry [] v c k b short = extend_encodes (length carry) carry v k
adder_encodes [] carry (r ∷ rs) v c k b short = absurd (omega arith)
adder_encodes (col ∷ cols) carry rs v c k b short =
    let size = carry_size col carry in
    let w = result_vars rs (v + size) in
    let up = result_grows rs (v + size) in
    add_column_encodes col carry v c.0 k rs b (λ β. columns_value β cols) (adder cols (fresh size v) (tail rs) w)
    (λ α β g. columns_value_agree v α β g cols c.1)
    (adder_encodes
    cols
    (fresh size v)
    (tail rs)
    w
    (columns_below_more v w cols (omega arith) c.1)
    (fresh_below size v w up)
    (lits_below_more v w (tail rs) (omega arith) (tail_below v rs b))
    (tail_short rs (length cols) short))

-- the bits of the sum: the given literals first, then those of new variables
extend_grows : (f : ℕ) (carry : List ℕ) (v : ℕ) → v ≤ (extend f carry v).vars
extend_grows zero carry v = omega arith
extend_grows (suc f) [] v = omega arith
extend_grows (suc f) (c ∷ cs) v = omega (arith, extend_grows f (fresh (carry_size empty_column (c ∷ cs)) v) (suc (v + carry_size empty_column (c ∷ cs))))

adder_grows : (cols : List AdderColumn) (carry rs : List ℕ) (v : ℕ) → v ≤ (adder cols carry rs v).vars
adder_grows [] carry rs v = extend_grows (length carry) carry v
adder_grows (col ∷ cols) carry rs v =
    let size = carry_size col carry in
    omega (arith, result_grows rs (v + size), adder_grows cols (fresh size v) (tail rs) (result_vars rs (v + size)))

extend_bits : (f : ℕ) (carry : List ℕ) (v : ℕ) → LitsBelow (extend f carry v).vars (extend f carry v).bits
extend_bits zero carry v = tt
extend_bits (suc f) [] v = tt
extend_bits (suc f) (c ∷ cs) v =
    let size = carry_size empty_column (c ∷ cs) in
    (omega (arith, extend_grows f (fresh size v) (suc (v + size))), extend_bits f (fresh size v) (suc (v + size)))

result_below : (v x : ℕ) (rs : List ℕ) → v ≤ x → LitsBelow v rs → result rs x < 2 * result_vars rs x
result_below v x [] h b = omega arith
result_below v x (r ∷ rs) h b = omega arith

pub adder_bits : (cols : List AdderColumn) (carry rs : List ℕ) (v : ℕ) → LitsBelow v rs → LitsBelow (adder cols carry rs v).vars (adder cols carry rs v).bits
adder_bits [] carry rs v b = extend_bits (length carry) carry v
adder_bits (col ∷ cols) carry rs v b =
    let size = carry_size col carry in
    let w = result_vars rs (v + size) in (
      omega (arith, result_below v (v + size) rs (omega arith) b, adder_grows cols (fresh size v) (tail rs) w),
      adder_bits cols (fresh size v) (tail rs) w (lits_below_more v w (tail rs) (omega (arith, result_grows rs (v + size))) (tail_below v rs b)),
    )

pub adder_keeps : (cols : List AdderColumn) (carry rs : List ℕ) (v : ℕ) → length rs ≤ length cols
    → rs ++ drop (length rs) (adder cols carry rs v).bits ≡ (adder cols carry rs v).bits
adder_keeps cols carry [] v h = refl
adder_keeps [] carry (r ∷ rs) v h = absurd (omega arith)
adder_keeps (col ∷ cols) carry (r ∷ rs) v h =
    ap {B = List ℕ} (λ t. r ∷ t) (adder_keeps cols (fresh (carry_size col carry) v) rs (v + carry_size col carry) (omega arith))

pub adder_length : (cols : List AdderColumn) (carry rs : List ℕ) (v : ℕ) → length cols ≤ length (adder cols carry rs v).bits
adder_length [] carry rs v = omega arith
adder_length (col ∷ cols) carry rs v = omega (arith, adder_length cols (fresh (carry_size col carry) v) (tail rs) (result_vars rs (v + carry_size col carry)))
