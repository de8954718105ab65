-- `mixed::encode_linear_ge_mixed_from_info` meets its contract: by the table, or one empty clause.
use mathlib.Core.List.{[], map}
use mathlib.Core.Path.{◌≡◌, refl, sym, ◌∙◌}
use Prim.Native.Nat.{◌-◌}
use Rattle.clause_set.proofs.Writing.{fits_as, wrote_as}
use Rattle.log_encoding.specs.Enumerate.{bounded}
use Rattle.mixed.specs.Infos.{info_term}
use Rattle.mixed.proofs.Infos.{bounded_dead, bounded_live}
use Rattle.mixed_table.specs.Table.{walk}
use Rattle.mixed.proofs.encode_linear_ge_mixed_from_info.Goals as goal
use Rattle.mixed.proofs.encode_linear_ge_mixed_from_info.Goals.{After-fill_table-left}

-- the clauses of the terms, as the table tells them
told : (c : After-fill_table-left)
    → (let a = c.args in
    bounded (map info_term a.ts.now) a.above a.below
    ≡ walk c.fill_table-left.new.tab c.fill_table-left.result (a.above - a.below) [])
told c =
    let a = c.args in
    bounded_live a.ts.now a.above a.below c.if-above-below.false ∙ sym (c.fill_table-left.ensures.same (a.above - a.below) [])

pub push-requires : goal.push-requires
push-requires c =
    let a = c.args in record { fits = fits_as c.requires.fits (bounded_dead a.ts.now a.above a.below c.if-above-below.true) }

pub returns-then-above-below : goal.returns-then-above-below
returns-then-above-below c =
    let a = c.args in wrote_as c.push.ensures.added refl (sym (bounded_dead a.ts.now a.above a.below c.if-above-below.true))

pub encode_table-requires-clause-fits : goal.encode_table-requires-clause-fits
encode_table-requires-clause-fits c = fits_as c.requires.fits (told (goal.at.encode_table-requires-clause-fits c).After-fill_table-left)

pub returns : goal.returns
returns c = wrote_as c.encode_table.ensures refl (sym (told (goal.at.returns c).After-fill_table-left))
