use Rattle.std.proofs.Common.{map, ap}
use Rattle.dg_lex.specs.Tokens.{seen}
use Rattle.dg_compile.proofs.SourceLemmas.{lexed_of, unlexed, read_trees, unread_trees}
use Rattle.dg_compile.proofs.source.tree_of.Goals as goal

pub returns-in-Err-clause-refused : goal.returns-in-Err-clause-refused
returns-in-Err-clause-refused c = unlexed c.args.source.now c.in-Err.fault (lexed_of c.args.source.now c.in-Err.fault c.in-Err.ensures.refused)

pub returns-in-Ok-clause-tree : goal.returns-in-Ok-clause-tree
returns-in-Ok-clause-tree c =
    read_trees c.args.source.now (map seen c.deref.result.now) c.read.result (c.in-Ok.ensures.accepted, c.in-Ok.tokens.items, c.in-Ok.ensures.tokens, ap (map seen) c.deref.ensures.value) c.read.ensures.tree

pub returns-in-Ok-clause-refused : goal.returns-in-Ok-clause-refused
returns-in-Ok-clause-refused c =
    unread_trees c.args.source.now (map seen c.deref.result.now) c.read.result (c.in-Ok.ensures.accepted, c.in-Ok.tokens.items, c.in-Ok.ensures.tokens, ap (map seen) c.deref.ensures.value) c.read.ensures.refused
