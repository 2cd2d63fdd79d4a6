use Rattle.std.proofs.Common.{◌≡◌, ◌≤◌, ◌-◌, ℕ, zero, suc, List, [], ◌∷◌, Bool, length, nat_eq, slice_index_or, refl, arith}
use Rattle.dg_lex.specs.Tokens.{at_first}
use Rattle.dg_lex.proofs.cutting.at_first.Goals as goal

-- a line begins behind a gap that ends with a newline
by_last : (start : Bool) (gap : List ℕ) (i : ℕ) → length gap ≡ suc i → nat_eq (slice_index_or gap i 0) 10 ≡ at_first start gap
by_last start [] i e = absurd (omega arith)
by_last start (c ∷ []) zero e = refl
by_last start (c ∷ []) (suc i) e = absurd (omega arith)
by_last start (c ∷ d ∷ ds) zero e = absurd (omega arith)
by_last start (c ∷ d ∷ ds) (suc i) e = by_last (nat_eq c 10) (d ∷ ds) i (omega arith)

pub returns-in-len1-up : goal.returns-in-len1-up
returns-in-len1-up c =
    let some : 1 ≤ length c.args.gap.now = c.in-len1-up.len_at_least in
    by_last c.args.start c.args.gap.now (length c.args.gap.now - 1) (omega arith)
