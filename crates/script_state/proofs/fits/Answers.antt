-- `script_state::fits` meets its contract.
use Rattle.script_state.proofs.Tables.{fits_signed, fits_unsigned}
use mathlib.Core.Path.{sym, ◌∙◌}
use Rattle.script_state.proofs.fits.Goals as goal

pub returns-then-is_signed_place : goal.returns-then-is_signed_place
returns-then-is_signed_place c =
    c.is_some.ensures ∙ fits_signed c.args.nums.now c.args.i _ (sym c.is_signed_place.ensures ∙ c.if-is_signed_place.true) c.number_at.ensures

pub returns-else-is_signed_place : goal.returns-else-is_signed_place
returns-else-is_signed_place c =
    c.is_some-else-is_signed_place.ensures
    ∙ fits_unsigned c.args.nums.now c.args.i _ (sym c.is_signed_place.ensures ∙ c.if-is_signed_place.false) c.number_at-else-is_signed_place.ensures
