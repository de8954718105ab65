-- The terms of a column of Eq as the code holds them.
use mathlib.Core.Path.{◌≡◌, ap, sym, ◌∙◌}
use mathlib.Core.Bool.{true}
use mathlib.Core.List.{List, [], ◌∷◌}
use Prim.Native.Nat.{ℕ, ◌+◌}
use native.Mathlib.Omega.{arith}
use lib.ListN.{length, take, length-append, length-map}
use lib.Seq.{take-take, take_at}
use Rattle.mixed.specs.declared.LinearInfo.{LinearInfo}
use Rattle.log_adder.specs.declared.ColumnInfo.{ColumnInfo}
use Rattle.log_adder.specs.ColumnInfo.{column_infos, eq_infos, lit_info}

-- all the terms but the result
pub two_terms : (c : ColumnInfo) (ts : List LinearInfo) → take (length c.own.now + 3) ts ≡ column_infos c → take (length c.own.now + 2) ts ≡ eq_infos c
two_terms c ts h =
    let n : ℕ = length c.own.now in
    let m : length (eq_infos c) ≡ n + 2 = rw (length-append, length-map) (omega arith) in
    sym (take-take (n + 2) (n + 3) ts (omega arith)) ∙ ap (take (n + 2)) h ∙ take_at (eq_infos c) (lit_info true c.result ∷ []) (n + 2) m
