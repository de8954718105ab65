-- The two lent stores and what adding clauses leaves in them (document 01: the clause stores). What would lie past a store's end is
-- dropped, and counted all the same.
use Rattle.std.specs.Prelude.{◌+◌, ◌-◌, ◌<◌, ◌^◌, ◌≤◌, suc, zero, ℕ, drop, get_or, length, set, take, List, [], ◌∷◌, ◌⊎◌, ◌≡◌}
use Rattle.std.proofs.lemmas.List.Edits.{sets}
use Rattle.sat.specs.Clause.{Clauses}
use Rattle.sat.specs.Encoded.{EncodedRule}
use Rattle.sat.specs.Size.{entries}
use Rattle.clause_set.specs.declared.ClauseSet.{ClauseSet}
use Rattle.clause_set.specs.declared.Counts.{Counts}

-- literals, clause ends, and how many literals and clauses are in use
pub record Stores : Type 0 where
  pub lits : List ℕ
  pub ends : List ℕ
  pub used : ℕ
  pub count : ℕ

abbrev pub stores : List ℕ → List ℕ → ℕ → ℕ → Stores
stores lits ends used count = record { lits = lits; ends = ends; used = used; count = count }

-- the stores as the code has them
abbrev pub after : List ℕ → List ℕ → Counts → Stores
after lits ends at = stores lits ends at.lits at.clauses

-- those of a set of clauses
abbrev pub stores_of : ClauseSet → Stores
stores_of s = after s.lits.now s.ends.now s.used

-- one clause: its literals behind those in use, its end behind the ends in use; ends count from b
unfoldable pub add_clause : ℕ → List ℕ → Stores → Stores
add_clause b c s =
    stores
    (sets s.lits s.used c)
    (set s.ends (s.count + 1) (b + (s.used + length c)))
    (s.used + length c)
    (s.count + 1)

-- clause after clause
abbrev pub add_clauses : ℕ → Clauses → Stores → Stores
add_clauses b [] s = s
add_clauses b (c ∷ cs) s = add_clauses b cs (add_clause b c s)

-- The set t is s with the clauses behind its own and that many variables: the stores lent are the same, and hold them.
pub record Wrote (s : ClauseSet) (vars : ℕ) (cs : Clauses) (t : ClauseSet) : Type 0 where
  pub same_lits : t.lits.ghost_name ≡ s.lits.ghost_name
  pub same_ends : t.ends.ghost_name ≡ s.ends.ghost_name
  pub same_base : t.base ≡ s.base
  pub vars_are : t.vars ≡ vars
  pub stores_are : stores_of t ≡ add_clauses s.base cs (stores_of s)

-- with no new variable
abbrev pub Added : ClauseSet → Clauses → ClauseSet → Type 0
Added s = Wrote s s.vars

-- the clauses and the variables of a rule
abbrev pub AddedRule : ClauseSet → EncodedRule → ClauseSet → Type 0
AddedRule s rule = Wrote s rule.vars rule.clauses

-- The set u is s with one clause more, of the n literals that stand behind those in use.
pub record Closed (s : ClauseSet) (n : ℕ) (u : ClauseSet) : Type 0 where
  pub same_lits : u.lits.ghost_name ≡ s.lits.ghost_name
  pub same_ends : u.ends.ghost_name ≡ s.ends.ghost_name
  pub same_base : u.base ≡ s.base
  pub same_vars : u.vars ≡ s.vars
  pub lits_are : u.lits.now ≡ s.lits.now
  pub ends_are : u.ends.now ≡ set s.ends.now (s.used.clauses + 1) (s.base + (s.used.lits + n))
  pub lits_used : u.used.lits ≡ s.used.lits + n
  pub clauses_used : u.used.clauses ≡ s.used.clauses + 1

-- fewer than m clauses, and ends below m
abbrev pub Below : ℕ → ClauseSet → Type 0
Below m s = (s.base + s.used.lits < m) × (s.used.clauses < m)

-- the counts after the clauses, and the ends, which count from b, are numbers of a u32
pub record Fits (b : ℕ) (at : Counts) (cs : Clauses) : Type 0 where
  pub lits : b + (at.lits + entries cs) < 2 ^ 32
  pub clauses : at.clauses + length cs + 1 < 2 ^ 32

-- r is n, or the store's end where it does not reach so far
pub record Within (n long r : ℕ) : Type 0 where
  pub place : ((n ≤ long) × (r ≡ n)) ⊎ ((long < n) × (r ≡ long))

-- Reading back -------------------------------------------------------------------------------------------------------

-- the part `&store[begin..end]`
abbrev pub part : ℕ → ℕ → List ℕ → List ℕ
part begin end store = take (end - begin) (drop begin store)

-- clause k: from the end before it to its own
abbrev pub clause_at : List ℕ → List ℕ → ℕ → List ℕ
clause_at lits ends k = part (get_or ends k 0) (get_or ends (k + 1) 0) lits

-- the clauses from k on, n of them
abbrev pub clauses_from : List ℕ → List ℕ → ℕ → ℕ → Clauses
clauses_from lits ends k zero = []
clauses_from lits ends k (suc n) = clause_at lits ends k ∷ clauses_from lits ends (suc k) n

-- n clauses whose ends stand behind end k, the first of them from `begin` on; where end k is `begin`, these are the clauses from k on
abbrev pub clauses_after : List ℕ → List ℕ → ℕ → ℕ → ℕ → Clauses
clauses_after lits ends begin k zero = []
clauses_after lits ends begin k (suc n) =
    part begin (get_or ends (k + 1) 0) lits ∷ clauses_after lits ends (get_or ends (k + 1) 0) (suc k) n

-- all clauses of the stores
abbrev pub clauses_of : Stores → Clauses
clauses_of s = clauses_from s.lits s.ends 0 s.count

-- the last end is the literal count, no end falls or passes it, and the counts are within the stores
pub record Sound (s : Stores) : Type 0 where
  pub last_end : get_or s.ends s.count 0 ≡ s.used
  pub rising : (k : ℕ) → k < s.count → get_or s.ends k 0 ≤ get_or s.ends (k + 1) 0
  pub ends_in : (k : ℕ) → k ≤ s.count → get_or s.ends k 0 ≤ s.used
  pub lits_in : s.used ≤ length s.lits
  pub ends_long : s.count < length s.ends
