-- `lines::Word::text` meets its contract.
use Rattle.std.proofs.Common.{Option, Some, None, ℕ, length, ◌≡◌, ◌<◌, ◌⊎◌, inl, inr, arith, ap, ◌∙◌, take, rules}
use Rattle.std.specs.Option.{MatchOption}
use Rattle.lines.proofs.Words.{bytes_are_word}
use Rattle.lines.proofs.Word.text.Goals as goal

map_option : {R : Type 0} {P U : Type 0} {Q V : R → Type 0} (r : Option R) → (P → U) → ((x : R) → Q x → V x) → MatchOption r P Q → MatchOption r U V
map_option None f g h = f h
map_option (Some x) f g h = g x h

shorter : {n m : ℕ} → (n < 0) ⊎ (m < n) → m ≡ 8 → 8 < n
shorter (inl h) e = omega (arith, h)
shorter (inr h) e = omega (arith, h, e)

pub returns : goal.returns
returns c =
    let w = c.args.self.now in
    let long : length w.bytes ≡ 8 = search rules in
    map_option c.get.result (λ h. shorter h long) (λ x h. bytes_are_word w x.now (omega (arith, h.1, long)) h.1 (h.2 ∙ ap (λ n. take n w.bytes) (omega arith))) c.get.ensures.lookup.0
