-- The record and the clauses of a setting, after `encode_var_log` of log.rs.
use Rattle.std.specs.Prelude.{◌*◌, ◌+◌, ◌<◌, ℕ, ℤ, ◌<ℤ◌, ◌≤ℤ◌, List, [], ◌∷◌, map}
use Rattle.arithmetic.specs.Bits.{bit_length}
use Rattle.arithmetic.specs.Offset.{code, offset_of}
use Rattle.sat.specs.Clause.{Clauses}
use Rattle.sat.specs.Fresh.{fresh}
use Rattle.norm_csp.specs.Domain.{IntVarRepresentation, RisingFrom, binary, last_from, list, range}
use Rattle.log_encoding.specs.Binary.{binary_bits}
use Rattle.log_encoding.specs.Domain.{domain_clauses}
use Rattle.log_encoding.specs.LogEncoding.{LogEncoding, no_encoding}

-- the record, the clauses and the variable count after them
pub record EncodedVar : Type 0 where
  pub encoding : LogEncoding
  pub clauses : Clauses
  pub vars : ℕ

-- values low, ks.. up to high, over new variables from v on; a range has no ks
abbrev pub encode_domain : ℤ → List ℤ → ℤ → ℕ → EncodedVar
encode_domain low ks high v =
    let offset = offset_of low in
    let bits = bit_length (code offset high) in
    let lits = fresh bits v in
    record {
      encoding = record { lits = lits; low = low; high = high; offset = offset };
      clauses = domain_clauses lits (code offset low) (map (code offset) ks) (code offset high);
      vars = v + bits;
    }

-- t where the switch literal c holds, else f
abbrev pub encode_binary : ℕ → ℤ → ℤ → ℕ → EncodedVar
encode_binary c f t v =
    let offset = offset_of f in
    let out = binary_bits (bit_length (code offset t)) (code offset f) (code offset t) c v in
    record {
      encoding = record { lits = out.bits; low = f; high = t; offset = offset };
      clauses = out.clauses;
      vars = out.vars;
    }

-- v variables are there before; an empty list, which is always refused, makes nothing
abbrev pub encode_var_log : IntVarRepresentation → ℕ → EncodedVar
encode_var_log (range low high) v = encode_domain low [] high v
encode_var_log (list []) v = record { encoding = no_encoding; clauses = []; vars = v }
encode_var_log (list (k ∷ ks)) v = encode_domain k ks (last_from k ks) v
encode_var_log (binary c f t) v = encode_binary c f t v

-- what document 01's checks of a setting call make sure of, as far as the clauses need it
abbrev pub Encodable : ℕ → IntVarRepresentation → Type 0
Encodable v (range low high) = (low ≤ℤ high) × (code (offset_of low) high < 4096)
Encodable v (list []) = ⊥
Encodable v (list (k ∷ ks)) = RisingFrom k ks × (code (offset_of k) (last_from k ks) < 4096)
Encodable v (binary c f t) = (c < 2 * v) × (f <ℤ t) × (code (offset_of f) t < 4096)
