-- The literals of a product's bits, numbered from the columns reached; and how many bits there are at most.
use mathlib.Core.Path.{◌≡◌, refl, ap, sym, ◌∙◌}
use mathlib.Core.List.{List, [], ◌∷◌, ◌++◌, append_assoc, append-nil, map}
use Prim.Native.Nat.{ℕ, suc, zero, ◌+◌, ◌-◌, ◌*◌, ◌/◌, ◌≤◌, ◌<◌}
use native.Mathlib.Nat.{not-suc-le-zero, sub-zero}
use native.Mathlib.Numerals.{sub-one}
use native.Mathlib.Omega.{arith}
use lib.ListN.{length, get_or}
use Rattle.log_linear.specs.Added.{bits_of}
use Rattle.arithmetic.specs.Bits.{shl}
use Rattle.sat.specs.Encoded.{EncodedBits}
use Rattle.sat.specs.Fresh.{fresh}
use Rattle.sat.proofs.Fresh.{length_fresh}
use Rattle.log_encoding.specs.Adder.{AdderColumn, adder, carry_size, empty_column, extend}
use Rattle.log_encoding.specs.Gather.{pad_columns}
use Rattle.log_encoding.specs.AdderSize.{ColumnShape, Reached, column_shape, input_shapes, pad_shapes, push_counts, reached, reached_column, reached_past}
use Rattle.log_encoding.proofs.AdderSize.{pad_columns_shapes}
use Rattle.log_gather.specs.Arrays.{AllSmall}
use Rattle.sat.specs.declared.Lit.{Lit}
use Rattle.log_gather.proofs.Steps.{shl_more}
use Rattle.log_mul.specs.Bits.{BitAdded, BitsLeft, ProductNumbered, numbered, numbered_vars}
use Rattle.log_encoding.specs.Multiply.{multiplier, rows_grid, rows_vars}
use Rattle.log_encoding.specs.MulSize.{multiplier_reached, rows_counts}
use Rattle.log_mul.specs.declared.BitsState.{BitsState}
use Rattle.log_mul.proofs.RowColumns.{pad_length, rows_most}
use Rattle.log_mul.proofs.Rows.{gates_most}
use Rattle.log_encoding.proofs.MulSize.{rows_grid_counts, rows_vars_are}

-- How many columns are reached ----------------------------------------------------------------------------------------

-- what columns come to where every literal holds
abbrev most_value : List ColumnShape → ℕ
most_value [] = 0
most_value (c ∷ cs) = c.constant + c.own + 2 * most_value cs

past_few : (f c w : ℕ) → c < shl w 1 → length (reached_past f c) ≤ w
past_few zero c w h = omega arith
past_few (suc f) zero w h = omega arith
past_few (suc f) (suc k) zero h = absurd (omega arith)
past_few (suc f) (suc k) (suc w) h = let r = past_few f ((0 + 0 + suc k) / 2) w (omega arith) in omega arith

-- a number of w bits reaches no more than w columns
reached_few : (cs : List ColumnShape) (c w : ℕ) → length cs ≤ w → c + most_value cs < shl w 1 → length (reached cs c) ≤ w
reached_few [] c w l h = past_few c c w (omega arith)
reached_few (s ∷ cs) c zero l h = absurd (omega arith)
reached_few (s ∷ cs) c (suc w) l h = let r = reached_few cs ((s.constant + s.own + c) / 2) w (omega arith) (omega arith) in omega arith

-- of counts
abbrev counts_value : List ℕ → ℕ
counts_value [] = 0
counts_value (h ∷ hs) = h + 2 * counts_value hs

pad_value : (n : ℕ) (hs : List ℕ) → most_value (pad_shapes n hs) ≡ counts_value hs
pad_value zero [] = refl
pad_value (suc n) [] = omega (arith, pad_value n [])
pad_value zero (h ∷ hs) = omega (arith, pad_value zero hs)
pad_value (suc n) (h ∷ hs) = omega (arith, pad_value n hs)

push_value_is : (o n : ℕ) (hs : List ℕ) → counts_value (push_counts o n hs) + shl o 1 ≡ counts_value hs + shl (o + n) 1
push_value_is zero zero hs = refl
push_value_is zero (suc n) [] =
    let e : 0 + suc n ≡ suc (0 + n) = omega arith in
    let r = push_value_is zero n [] in
    rw e (omega arith)
push_value_is zero (suc n) (h ∷ hs) =
    let e : 0 + suc n ≡ suc (0 + n) = omega arith in
    let r = push_value_is zero n hs in
    rw e (omega arith)
push_value_is (suc o) n [] =
    let e : suc o + n ≡ suc (o + n) = omega arith in
    let r = push_value_is o n [] in
    rw e (omega arith)
push_value_is (suc o) n (h ∷ hs) =
    let e : suc o + n ≡ suc (o + n) = omega arith in
    let r = push_value_is o n hs in
    rw e (omega arith)

rows_value : (x y o : ℕ) (hs : List ℕ) → counts_value (rows_counts x y o hs) + shl (o + y) 1 ≤ counts_value hs + shl (o + y + x) 1
rows_value zero y o hs = let e : o + y + 0 ≡ o + y = omega arith in rw e (omega arith)
rows_value (suc x) y o hs =
    let e : o + y + suc x ≡ suc (o + y + x) = omega arith in
    let a : suc o + y ≡ suc (o + y) = omega arith in
    let b : suc o + y + x ≡ suc (o + y + x) = omega arith in
    let r : counts_value (rows_counts x y (suc o) (push_counts o y hs)) + 2 * shl (o + y) 1 ≤ counts_value (push_counts o y hs) + 2 * shl (o + y + x) 1 =
    rw (b, a) at (rows_value x y (suc o) (push_counts o y hs)) in
    let p = push_value_is o y hs in
    rw e (omega arith)

shl_some : (n : ℕ) → 1 ≤ shl n 1
shl_some zero = omega arith
shl_some (suc n) = let r = shl_some n in omega arith

-- a product of two numbers of at most 12 bits has at most 24
pub multiplier_few : (x y : ℕ) → x ≤ 12 → y ≤ 12 → length (multiplier_reached x y 0) ≤ 24
multiplier_few x y h k =
    let v = rows_value x y 0 [] in
    let s = shl_some (0 + y) in
    let m : shl (0 + y + x) 1 ≤ shl 24 1 = shl_more (0 + y + x) 24 1 (omega arith) in
    let p = pad_value 0 (rows_counts x y 0 []) in
    let l = pad_length 0 (rows_counts x y 0 []) in
    let n = rows_most x y h k in
    reached_few (pad_shapes 0 (rows_counts x y 0 [])) 0 24 (omega arith) (omega arith)

-- The bits of an adder -------------------------------------------------------------------------------------------------

-- clauses aside, what an adder makes
record Numbered (out : EncodedBits) (rs : List Reached) (v : ℕ) : Type 0 where
  bits : out.bits ≡ numbered rs v
  vars : out.vars ≡ numbered_vars rs v

column_numbered : (n v : ℕ) (more : List ℕ → ℕ → EncodedBits) (rest : ℕ → List Reached) → ((next : List ℕ) (w : ℕ) → Numbered (more next w) (rest (length next)) w)
    → Numbered (more (fresh n v) (suc (v + n))) (rest n) (suc (v + n))
column_numbered n v more rest ih = rw (length_fresh n v) at (ih (fresh n v) (suc (v + n)))

extend_numbered : (f : ℕ) (carry : List ℕ) (v : ℕ) → Numbered (extend f carry v) (reached_past f (length carry)) v
extend_numbered zero carry v = record { bits = refl; vars = refl }
extend_numbered (suc f) [] v = record { bits = refl; vars = refl }
extend_numbered (suc f) (k ∷ ks) v =
    let n = carry_size empty_column (k ∷ ks) in
    let r = column_numbered n v (λ next w. extend f next w) (reached_past f) (extend_numbered f) in
    record { bits = ap (λ (bs : List ℕ). 2 * (v + n) ∷ bs) r.bits; vars = r.vars }

adder_numbered : (cols : List AdderColumn) (carry : List ℕ) (v : ℕ) → Numbered (adder cols carry [] v) (reached (map column_shape cols) (length carry)) v
adder_numbered [] carry v = extend_numbered (length carry) carry v
adder_numbered (col ∷ cols) carry v =
    let n = carry_size col carry in
    let r = column_numbered n v (λ next w. adder cols next [] w) (reached (map column_shape cols)) (adder_numbered cols) in
    record { bits = ap (λ (bs : List ℕ). 2 * (v + n) ∷ bs) r.bits; vars = r.vars }

multiplier_numbered : (xs ys : List ℕ) (v : ℕ) → Numbered (multiplier xs ys [] v) (multiplier_reached (length xs) (length ys) 0) (v + length xs * length ys)
multiplier_numbered xs ys v =
    let grid = rows_grid xs ys 0 v [] in
    let s : map column_shape (pad_columns 0 grid) ≡ pad_shapes 0 (rows_counts (length xs) (length ys) 0 []) =
    pad_columns_shapes 0 grid ∙ ap (pad_shapes 0) (rows_grid_counts xs ys 0 v []) in
    let r = rw (s, rows_vars_are xs ys v) at (adder_numbered (pad_columns 0 grid) [] (rows_vars xs ys v)) in
    record { bits = ap (λ (w : ℕ). (adder (pad_columns 0 grid) [] [] w).bits) (rows_vars_are xs ys v) ∙ r.bits; vars = ap (λ (w : ℕ). (adder (pad_columns 0 grid) [] [] w).vars) (rows_vars_are xs ys v) ∙ r.vars }

-- One bit ----------------------------------------------------------------------------------------------------------------

-- The loops --------------------------------------------------------------------------------------------------------------

left_as : {all : List Reached} {v : ℕ} {s : BitsState} {a b : List Reached} → a ≡ b → BitsLeft all v a s → BitsLeft all v b s
left_as e l = rw (← e) l

module _ {all : List Reached} {v : ℕ} where
  -- a bit more
  pub bits_turn : (r : Reached) (left : List Reached) (own : ℕ) (s t : BitsState) → own ≤ 144 → r.next ≡ (own + s.carry) / 2 → BitsLeft all v (r ∷ left) s → BitAdded own s t → BitsLeft all v left t
  bits_turn r left own s t h e l a =
      let n : ℕ = (own + s.carry) / 2 in
      let so_far : List ℕ = bits_of s.bits in
      let c = l.carry in
      record {
        bits = l.bits ∙ (λ i. so_far ++ (2 * (s.vars + e i) ∷ numbered left (suc (s.vars + e i))))
            ∙ sym (append_assoc so_far (2 * (s.vars + n) ∷ []) (numbered left (suc (s.vars + n))))
            ∙ (λ i. sym a.bits i ++ numbered left (sym a.vars i));
        same_vars = l.same_vars ∙ ap (λ (m : ℕ). numbered_vars left (suc (s.vars + m))) e ∙ ap (numbered_vars left) (sym a.vars);
        len = omega (arith, l.len, a.len);
        vars = omega (arith, l.vars, a.vars, a.len);
        carry = omega (arith, a.carry);
        long = a.long;
        small = a.small l.small;
      }

  -- a bit past the columns
  pub past_turn : (f : ℕ) (s t : BitsState) → 0 < s.carry → s.carry ≤ f → BitsLeft all v (reached_past f s.carry) s → BitAdded 0 s t
      → BitsLeft all v (reached_past (f - 1) t.carry) t
  past_turn f s t z h l a = go f s.carry refl h z l
    where
      go : (f c : ℕ) → s.carry ≡ c → c ≤ f → 0 < c → BitsLeft all v (reached_past f c) s → BitsLeft all v (reached_past (f - 1) t.carry) t
      go zero c e h z l = absurd (omega arith)
      go (suc f) zero e h z l = absurd (omega arith)
      go (suc f) (suc k) e h z l =
          let r = reached_column record { own = 0; constant = 0 } (suc k) in
          let n : (0 + s.carry) / 2 ≡ (0 + 0 + suc k) / 2 = ap (λ (x : ℕ). x / 2) (omega arith) in
          let w : t.carry ≡ r.next = a.carry ∙ n in
          left_as (λ i. reached_past (sym (sub-one (suc f)) i) (sym w i)) (bits_turn r (reached_past f r.next) 0 s t (omega arith) (sym n) l a)

  -- some column is left where there is a carry
  pub past_some : (f : ℕ) (s : BitsState) → 0 < s.carry → s.carry ≤ f → BitsLeft all v (reached_past f s.carry) s → s.bits.len < length all
  past_some f s z h l = go f s.carry h z l.len
    where
      go : (f c : ℕ) → c ≤ f → 0 < c → s.bits.len + length (reached_past f c) ≡ length all → s.bits.len < length all
      go zero c h z e = absurd (omega arith)
      go (suc f) zero h z e = absurd (omega arith)
      go (suc f) (suc k) h z e = omega arith

  pub past_end : (f : ℕ) (s : BitsState) → s.carry ≤ 0 → BitsLeft all v (reached_past f s.carry) s → BitsLeft all v [] s
  past_end f s z l = go f s.carry z l
    where
      go : (f c : ℕ) → c ≤ 0 → BitsLeft all v (reached_past f c) s → BitsLeft all v [] s
      go zero c z l = l
      go (suc f) zero z l = l
      go (suc f) (suc k) z l = absurd (not-suc-le-zero z)

-- the columns are passed; those past them are left
pub record PastLeft (all : List Reached) (v : ℕ) (s : BitsState) : Type 0 where
  pub fuel : ℕ
  pub enough : s.carry ≤ fuel
  pub left : BitsLeft all v (reached_past fuel s.carry) s

pub past_again : {all : List Reached} {v : ℕ} (s t : BitsState) → 0 < s.carry → PastLeft all v s → BitAdded 0 s t → PastLeft all v t
past_again s t z l a =
    record { fuel = l.fuel - 1; enough = omega (arith, l.enough, a.carry); left = past_turn l.fuel s t z l.enough l.left a }

module _ (counts : List ℕ) (v : ℕ) where
  abbrev width : ℕ
  width = length counts

  abbrev all· : List Reached
  all· = reached (input_shapes width 0 counts 0) 0

  -- the columns from the i-th on are left
  pub record ColumnsLeft (s : BitsState) (i : ℕ) : Type 0 where
    pub within : i ≤ width
    pub left : BitsLeft all· v (reached (input_shapes (width - i) i counts 0) s.carry) s

  shapes_step : (w i c : ℕ) → 0 < w
      → let r = reached_column record { own = get_or counts i 0; constant = 0 } c in
      reached (input_shapes w i counts 0) c ≡ r ∷ reached (input_shapes (w - 1) (i + 1) counts 0) r.next
  shapes_step zero i c h = absurd (not-suc-le-zero h)
  shapes_step (suc w) i c h = rw (sub-one (suc w))

  pub columns_start : (lits : List Lit) → length lits ≡ 32 → AllSmall lits → ColumnsLeft (record { bits = record { lits = lits; len = 0 }; vars = v; carry = 0 }) 0
  columns_start lits l z =
      record {
        within = omega arith;
        left =
            record { bits = rw (sub-zero width); same_vars = rw (sub-zero width); len = rw (sub-zero width) (omega arith); vars = omega arith; carry = omega arith; long = l; small = z };
      }

  pub columns_turn : (s t : BitsState) (i : ℕ) → i < width → get_or counts i 0 ≤ 144 → ColumnsLeft s i → BitAdded (get_or counts i 0) s t → ColumnsLeft t (i + 1)
  columns_turn s t i h few l a =
      let own : ℕ = get_or counts i 0 in
      let r : Reached = reached_column record { own = own; constant = 0 } s.carry in
      let j : width - i - 1 ≡ width - (i + 1) = omega arith in
      let n : r.next ≡ (own + s.carry) / 2 = ap (λ (x : ℕ). x / 2) (omega arith) in
      let e = shapes_step (width - i) i s.carry (omega arith) ∙ ap (λ (w : ℕ). r ∷ reached (input_shapes w (i + 1) counts 0) r.next) j in
      record {
        within = omega arith;
        left = left_as (ap (λ (c : ℕ). reached (input_shapes (width - (i + 1)) (i + 1) counts 0) c) (n ∙ sym a.carry))
            (bits_turn r (reached (input_shapes (width - (i + 1)) (i + 1) counts 0) r.next) own s t few n (left_as e l.left) a);
      }

  pub columns_end : (s : BitsState) (i : ℕ) → width ≤ i → ColumnsLeft s i → PastLeft all· v s
  columns_end s i h l =
      let n : width - i ≡ 0 = omega arith in
      record { fuel = s.carry; enough = omega arith; left = left_as (ap (λ (w : ℕ). reached (input_shapes w i counts 0) s.carry) n) l.left }

-- The product's bits -----------------------------------------------------------------------------------------------------

pub product_numbered : (x y v : ℕ) → x ≤ 12 → y ≤ 12 → (s : BitsState) (all : List Reached) → all ≡ multiplier_reached x y 0 → BitsLeft all (v + x * y) [] s
    → ProductNumbered x y v (record { bits = s.bits; vars = s.vars })
product_numbered x y v h k s all e l =
    let few = multiplier_few x y h k in
    let n = ap length e in
    let g = gates_most x y k h in
    record {
      bits = λ xs ys p q. sym (append-nil (bits_of s.bits)) ∙ sym l.bits ∙ (λ i. numbered (e i) (v + x * y)) ∙ (λ i. numbered (multiplier_reached (sym p i) (sym q i) 0) (v + sym p i * sym q i))
          ∙ sym (multiplier_numbered xs ys v).bits;
      vars = λ xs ys p q. sym l.same_vars ∙ (λ i. numbered_vars (e i) (v + x * y)) ∙ (λ i. numbered_vars (multiplier_reached (sym p i) (sym q i) 0) (v + sym p i * sym q i))
          ∙ sym (multiplier_numbered xs ys v).vars;
      len = omega (arith, l.len);
      few = omega (arith, l.len);
      few_vars = omega (arith, l.vars, l.len);
      long = l.long;
      small = l.small;
    }
