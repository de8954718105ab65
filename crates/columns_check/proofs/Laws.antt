-- Reading terms and rows: what holds of those read so far.
use mathlib.Core.Path.{◌≡◌, refl, sym, ◌∙◌}
use mathlib.Core.List.{List, [], ◌∷◌, ◌++◌, map, map-append}
use Prim.Native.Nat.{ℕ, ◌+◌, ◌-◌, ◌*◌, ◌≤◌, ◌<◌}
use native.Mathlib.Nat.{mul-le-mul_right}
use native.Mathlib.Numerals.{add-one}
use native.Mathlib.Omega.{arith}
use lib.Dec.{lit<}
use lib.ListN.{length, replicate, set, take, length-map, length-set, length-take}
use lib.Seq.{take-suc-set}
use Rattle.mixed.specs.declared.LinearInfo.{LinearInfo}
use Rattle.log_encoding.specs.Enumerate.{bounded}
use Rattle.log_encoding.specs.Terms.{Term}
use Rattle.mixed.proofs.Infos.{last_append, length_thresholds}
use Rattle.mixed.specs.Infos.{AllSmall, InTable, Small, info_term, last_loss, loss, no_info, thresholds_before}
use Rattle.log_encoding.proofs.Bound.{bounded_count, bounded_total, sizes}
use Rattle.clause_set.specs.declared.Counts.{Counts}
use Rattle.clause_set.specs.Stores.{Fits}
use Rattle.sat.proofs.Every.{every_replicate, every_set}
use Rattle.log_encoding.specs.Gather.{Grid}
use Rattle.log_adder.specs.declared.Columns.{Columns}
use Rattle.log_gather.specs.Arrays.{Arrays, Few, Pushed}
use Rattle.columns_check.specs.declared.Terms.{Terms}
use Rattle.columns_check.specs.Input.{Gathered, TermsRead}

-- Terms ---------------------------------------------------------------------------------------------------------------

-- n terms read, so many literals left of 19, and what the last term can lose
pub record TermsGoing (ts : List LinearInfo) (left last n : ℕ) : Type 0 where
  pub long : length ts ≡ 15
  pub small : AllSmall ts
  pub few : sizes (map info_term (take n ts)) + left ≡ 19
  pub all : loss (take n ts) + 134217728 * left ≤ 134217728 * 19
  pub last_is : last ≡ last_loss (take n ts)

sizes_append : (ts us : List Term) → sizes (ts ++ us) ≡ sizes ts + sizes us
sizes_append [] us = omega arith
sizes_append (t ∷ ts) us = let e = sizes_append ts us in omega arith

loss_append : (ts us : List LinearInfo) → loss (ts ++ us) ≡ loss ts + loss us
unfolding loss
loss_append [] us = omega arith
loss_append (t ∷ ts) us = let e = loss_append ts us in omega arith

pub terms_none : TermsGoing (replicate 15 no_info) 19 0 0
unfolding loss last_loss
terms_none =
    record { long = refl; small = every_replicate no_info Small 15 (record { top = lit< tt }); few = refl; all = omega arith; last_is = refl }

-- a term of these bounds
abbrev pub Light : ℕ → LinearInfo → Type 0
Light left t = Small t × (t.count ≤ left) × (t.weight ≤ 134217728)

pub light_loss : {left : ℕ} (t : LinearInfo) → Light left t → t.weight * t.count ≤ 134217728 * t.count
light_loss t p = mul-le-mul_right t.count p.2

sizes_more : (ts : List LinearInfo) (n : ℕ) (t : LinearInfo) → n < length ts
    → sizes (map info_term (take (n + 1) (set ts n t))) ≡ sizes (map info_term (take n ts)) + t.count
sizes_more ts n t h =
    rw (add-one n, take-suc-set ts n t h, map-append info_term (take n ts) (t ∷ []), sizes_append (map info_term (take n ts)) (info_term t ∷ []))
    (let e = length_thresholds t t.count in omega arith)

pub terms_more : (ts : List LinearInfo) (left last n : ℕ) (t : LinearInfo) → n < 15 → Light left t → TermsGoing ts left last n
    → TermsGoing (set ts n t) (left - t.count) (t.weight * t.count) (n + 1)
unfolding loss last_loss
terms_more ts left last n t h p g =
    let k : n < length ts = omega (arith, g.long) in
    let one : take (n + 1) (set ts n t) ≡ take n ts ++ (t ∷ []) = rw (add-one n) (take-suc-set ts n t k) in
    record {
      long = length-set ts n t ∙ g.long;
      small = every_set no_info Small ts n t g.small p.0;
      few = let e = sizes_more ts n t k in omega (arith, g.few, p.1);
      all = rw one (omega (arith, loss_append (take n ts) (t ∷ []), light_loss t p, g.all, p.1));
      last_is = rw one (sym (last_append (take n ts) t []));
    }

pub terms_end : {r : Terms} {left : ℕ} → r.len ≤ 15 → TermsGoing r.terms left r.last r.len → TermsRead r
terms_end h g = record { small = g.small; few = omega (arith, g.few); all = omega (arith, g.all); last = g.last_is; len = h }

before_sizes : (ts : List LinearInfo) → thresholds_before ts ≤ sizes (map info_term ts)
unfolding thresholds_before
before_sizes [] = omega arith
before_sizes (t ∷ []) = omega arith
before_sizes (t ∷ u ∷ us) = let e = before_sizes (u ∷ us) in omega (arith, length_thresholds t t.count)

-- they fit into a table
pub terms_in_table : (r : Terms) → TermsRead r → r.last ≤ 24 → InTable (take r.len r.terms)
terms_in_table r t h =
    record { few = omega (arith, before_sizes (take r.len r.terms), t.few); last = omega (arith, t.last); all = t.all }

-- the clauses of an inequality over them fit
pub terms_fit : (r : Terms) (a b : ℕ) (at : Counts) → (at.clauses ≡ 0) × (at.lits ≡ 0) → TermsRead r
    → Fits 0 at (bounded (map info_term (take r.len r.terms)) a b)
terms_fit r a b at z t =
    let ts : List Term = map info_term (take r.len r.terms) in
    let n : length ts ≤ 15 = rw (length-map (take r.len r.terms) info_term, length-take r.len r.terms) (omega (arith, t.len)) in
    let k = bounded_count ts a b t.few n in
    let l = bounded_total ts a b t.few n in
    record { lits = omega arith; clauses = omega arith }

-- Columns -------------------------------------------------------------------------------------------------------------

few_more : {a b : ℕ} (cols : Columns) → a ≤ b → Few a cols → Few b cols
few_more cols h f i = let k = f i in omega arith

pub gathered_none : {cols : Columns} (at : ℕ) → Arrays cols × Few 0 cols → Gathered (384 * at) cols
gathered_none {cols} at a = record { arrays = a.0; few = few_more cols (omega arith) a.1 }

pub gathered_more : {cols next : Columns} {f : Grid → Grid} {k : ℕ} → k ≤ 384 → (at end : ℕ) → at < end → Gathered (384 * at) cols → Pushed k cols f next → Gathered (384 * end) next
gathered_more {next = next} l at end h g p = record { arrays = p.arrays; few = few_more next (omega arith) (p.few (384 * at) g.few) }
