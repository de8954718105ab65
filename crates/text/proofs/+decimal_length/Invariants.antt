-- `text::decimal_length`: each call divides the number by 10.
use Rattle.text.proofs.+decimal_length.Given as goal

abbrev pub decreases-decimal_length : goal.decreases-decimal_length
decreases-decimal_length l = l.n
