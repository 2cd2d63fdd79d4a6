use Rattle.std.proofs.Common.{Some, ◌%◌}
use Rattle.std.proofs.lemmas.List.Elements.{All-set}
use Rattle.dg_unify.specs.inside.Seen.{is_free}
use Rattle.dg_unify.proofs.seen.Seen.note.Goals as goal

pub returns-then-takes : goal.returns-then-takes
returns-then-takes c = λ finds h e. c.keep.ensures finds (record {
  placed = All-set (is_free finds) c.args.self.now.refs (c.args.at.0 % 64) (Some c.args.at) e h.placed;
  beside = h.beside;
}) e
