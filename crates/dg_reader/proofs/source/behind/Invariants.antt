use Rattle.std.proofs.Common.{◌≡◌, true, take, map}
use Rattle.dg_lex.specs.Tokens.{seen}
use Rattle.dg_reader.specs.Read.{all_behind}
use Rattle.dg_reader.proofs.source.behind.Given as goal

abbrev pub invariant-loop-token : goal.invariant-loop-token
invariant-loop-token l = (l.len ≡ l.token-index) × (all_behind (map seen (take l.token-index l.tokens)) ≡ true)
