use Rattle.dg_texts.proofs.SpellLemmas.{names_spelled}
use Rattle.dg_machine.proofs.tables.Tables.of.Goals as goal

pub invariant_of-result : goal.invariant_of-result
invariant_of-result c = record {
  spelled = names_spelled c.args.words c.requires.names;
  few = c.requires.few;
  few_objects = c.requires.few_objects;
  few_captured = c.requires.few_captured;
}
