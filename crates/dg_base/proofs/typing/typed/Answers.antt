use Rattle.std.proofs.Common.{◌≡◌, ℕ, ◌<◌, None, refl, sym, arith}
use Rattle.std.proofs.lemmas.Bool.{le-ltb, lt-ltb, ne_eqb}
use Rattle.dg_base.specs.Typed.{extra, typed}
use Rattle.dg_base.proofs.Places.{place_past, extra_small}
use Rattle.dg_base.proofs.typing.typed.Goals as goal

large_dropped : (c : ℕ) → 65535 < c → typed c ≡ None
large_dropped c lt = rw (ne_eqb c 9 (λ e. absurd (omega arith)), lt-ltb 31 c (omega arith), le-ltb c 127 (omega arith), place_past c 65536 extra 0 extra_small (omega arith)) refl

pub returns-then-c-gt65535 : goal.returns-then-c-gt65535
returns-then-c-gt65535 c = sym (large_dropped c.args.c c.if-c-gt65535.true)
