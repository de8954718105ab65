-- How much an adder adds at most, for each bit of its sum.
use mathlib.Core.Path.{◌≡◌}
use mathlib.Core.Bool.{false}
use mathlib.Core.List.{List, [], ◌∷◌, map}
use Prim.Native.Nat.{ℕ, zero, suc, ◌+◌, ◌*◌, ◌/◌, ◌≤◌}
use native.Mathlib.Omega.{arith}
use lib.ListN.{length, length-append}
use Rattle.sat.specs.Encoded.{EncodedBits}
use Rattle.sat.specs.Fresh.{fresh}
use Rattle.sat.specs.Size.{entries}
use Rattle.sat.proofs.Fresh.{length_fresh}
use Rattle.sat.proofs.Size.{entries_append}
use Rattle.log_encoding.specs.Adder.{AdderColumn, add_column, adder, carry_size, empty_column, extend, result, result_vars, tail}
use Rattle.log_encoding.specs.Column.{column}
use Rattle.log_encoding.specs.Gather.{Grid, with_constant}
use Rattle.log_encoding.specs.AdderSize.{column_shape, reached, reached_column, too_tall}
use Rattle.log_encoding.proofs.ColumnMost.{column_most}
use Rattle.log_encoding.proofs.Heights.{reached_fits}

-- An adder ------------------------------------------------------------------------------------------------------------

pub record AdderMost (v : ℕ) (out : EncodedBits) : Type 0 where
  pub lits : entries out.clauses ≤ 15728640 * length out.bits
  pub clauses : length out.clauses ≤ 1048576 * length out.bits
  pub vars : out.vars ≤ v + 7 * length out.bits

result_most : (rs : List ℕ) (v : ℕ) → result_vars rs v ≤ suc v
result_most [] v = omega arith
result_most (r ∷ rs) v = omega arith

add_column_most : (col : AdderColumn) (carry rs : List ℕ) (v : ℕ) (more : List ℕ → ℕ → EncodedBits) → length col.own + length carry ≤ 12 → col.constant ≤ 1
    → let n = carry_size col carry in AdderMost (result_vars rs (v + n)) (more (fresh n v) (result_vars rs (v + n)))
    → AdderMost v (add_column col carry n rs v more)
add_column_most col carry rs v more h k m =
    let n = carry_size col carry in
    let f = length_fresh n v in
    let cs = column col.own carry col.constant (fresh n v) (result rs (v + n)) in
    let rest = more (fresh n v) (result_vars rs (v + n)) in
    let z = column_most col.own carry (fresh n v) h (omega arith) col.constant (result rs (v + n)) in
    let w = result_most rs (v + n) in
    record {
      lits = rw (entries_append cs rest.clauses) (omega (arith, m.lits));
      clauses = rw (length-append cs rest.clauses) (omega (arith, m.clauses));
      vars = omega (arith, m.vars);
    }

extend_most : (f : ℕ) (carry : List ℕ) (v : ℕ) → length carry ≤ 12 → AdderMost v (extend f carry v)
extend_most zero carry v h = record { lits = omega arith; clauses = omega arith; vars = omega arith }
extend_most (suc f) [] v h = record { lits = omega arith; clauses = omega arith; vars = omega arith }
extend_most (suc f) (k ∷ ks) v h =
    let n = carry_size empty_column (k ∷ ks) in
    let z = length_fresh n v in
    add_column_most empty_column (k ∷ ks) [] v (λ next w. extend f next w) (omega arith) (omega arith)
    (extend_most f (fresh n v) (result_vars [] (v + n)) (omega arith))

-- columns whose constants are bits
abbrev pub ConstantBits : List AdderColumn → Type 0
ConstantBits [] = Unit
ConstantBits (col ∷ cols) = (col.constant ≤ 1) × ConstantBits cols

pub constant_bits : (f : ℕ) (grid : Grid) (k : ℕ) → ConstantBits (with_constant f grid k)
constant_bits f (c ∷ grid) k = (omega arith, constant_bits f grid (k / 2))
constant_bits zero [] k = tt
constant_bits (suc f) [] zero = tt
constant_bits (suc f) [] (suc k) = (omega arith, constant_bits f [] (suc k / 2))

pub adder_most : (cols : List AdderColumn) (carry rs : List ℕ) (v : ℕ) → ConstantBits cols → length carry ≤ 12
    → too_tall (reached (map column_shape cols) (length carry)) ≡ false → AdderMost v (adder cols carry rs v)
adder_most [] carry rs v b h t = extend_most (length carry) carry v h
adder_most (col ∷ cols) carry rs v b h t =
    let n = carry_size col carry in
    let r = reached_column (column_shape col) (length carry) in
    let z = length_fresh n v in
    let fits = reached_fits r (reached (map column_shape cols) r.next) t in
    add_column_most col carry rs v (λ next w. adder cols next (tail rs) w) fits.0 b.0
    (adder_most cols (fresh n v) (tail rs) (result_vars rs (v + n)) b.1 (omega (arith, fits.0)) (rw z fits.1))
