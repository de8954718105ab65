-- `log_adder::push_equation` meets its contract.
use mathlib.Core.Path.{◌≡◌, ap, refl, ◌∙◌}
use Prim.Native.Nat.{◌+◌}
use native.Mathlib.Omega.{arith}
use lib.ListN.{length}
use Rattle.sat.specs.Size.{entries}
use Rattle.clause_set.specs.Stores.{Stores, stores}
use Rattle.clause_set.proofs.Adding.{count_after, used_after}
use Rattle.clause_set.proofs.Tails.{lent_added, tail}
use Rattle.mixed.specs.Infos.{equated}
use Rattle.log_adder.proofs.push_equation.Goals as goal
use Rattle.log_adder.proofs.push_equation.Goals.{After-write_part-wrote}

-- what was lent
abbrev lent : After-write_part-wrote → Stores
lent c = let s = c.args.set.now in stores (tail s.lits.now c.within-from.result) (tail s.ends.now c.within-at.result) 0 0

-- how much was written
wrote-clauses : (c : After-write_part-wrote) → let a = c.args in c.write_part-wrote.result.clauses ≡ 0 + length (equated a.ts.now a.above a.below a.total)
wrote-clauses c =
    let a = c.args in
    ap (λ (s : Stores). s.count) c.write_part-wrote.ensures ∙ count_after (c.args.set.now.base + c.args.set.now.used.lits) (equated a.ts.now a.above a.below a.total) (lent c)

wrote-lits : (c : After-write_part-wrote) → let a = c.args in c.write_part-wrote.result.lits ≡ 0 + entries (equated a.ts.now a.above a.below a.total)
wrote-lits c =
    let a = c.args in
    ap (λ (s : Stores). s.used) c.write_part-wrote.ensures ∙ used_after (c.args.set.now.base + c.args.set.now.used.lits) (equated a.ts.now a.above a.below a.total) (lent c)

pub overflow_add-set : goal.overflow_add-set
overflow_add-set c = omega (arith, c.requires.fits, wrote-clauses (goal.at.overflow_add-set c).After-write_part-wrote)

pub overflow_add-set-2 : goal.overflow_add-set-2
overflow_add-set-2 c = omega (arith, c.requires.fits, wrote-lits (goal.at.overflow_add-set-2 c).After-write_part-wrote)

pub returns : goal.returns
returns c =
    let s = c.args.set.now in
    record {
      same_lits = refl;
      same_ends = refl;
      same_base = refl;
      vars_are = refl;
      stores_are =
          lent_added s.lits.now s.ends.now s.used s.base c.within-from.result c.within-at.result c.within-from.ensures.1 c.within-at.ensures.1
          (equated c.args.ts.now c.args.above c.args.below c.args.total) (s.base + s.used.lits) c.write_part-wrote.new.lits c.write_part-wrote.new.ends c.write_part-wrote.result refl c.write_part-wrote.ensures;
    }
