use Rattle.dg_compile.proofs.GivenLemmas.{tree_given, names_room, names_narrow}
use Rattle.dg_compile.proofs.source.trees_are_given.Goals as goal

pub returns-clause-given : goal.returns-clause-given
returns-clause-given c = tree_given (record {
  spelled = c.tokens_are_spelled.ensures;
  readable = c.items_are_readable.ensures;
  printable = c.names_are_printable.ensures;
  among = c.mentions_are_among.ensures;
  few = c.names_are_few.ensures;
  small = c.mentions_are_small.ensures;
  firsts = c.firsts_are_names.ensures;
  come = c.mentions_come_from_the_source.ensures;
  plain = c.nothing_is_left.ensures;
  small_few = c.small_items_have_few_variables.ensures;
  put = c.mentions_are_put.ensures;
  keeps = record { plain = c.plain_heads_keep_names.ensures; stay = c.declared_heads_keep_names.ensures };
  declared = c.declarations_are_kept.ensures;
  changes = c.none_is_closed.ensures;
  variables = c.variables_are_few.ensures;
  closures = c.closures_are_few.ensures;
  places = c.names_tell_places.ensures;
  prelude = c.prelude_names_are_printable.ensures;
})

pub returns-clause-room : goal.returns-clause-room
returns-clause-room c = names_room (record {
  spelled = c.tokens_are_spelled.ensures;
  readable = c.items_are_readable.ensures;
  printable = c.names_are_printable.ensures;
  among = c.mentions_are_among.ensures;
  few = c.names_are_few.ensures;
  small = c.mentions_are_small.ensures;
  firsts = c.firsts_are_names.ensures;
  come = c.mentions_come_from_the_source.ensures;
  plain = c.nothing_is_left.ensures;
  small_few = c.small_items_have_few_variables.ensures;
  put = c.mentions_are_put.ensures;
  keeps = record { plain = c.plain_heads_keep_names.ensures; stay = c.declared_heads_keep_names.ensures };
  declared = c.declarations_are_kept.ensures;
  changes = c.none_is_closed.ensures;
  variables = c.variables_are_few.ensures;
  closures = c.closures_are_few.ensures;
  places = c.names_tell_places.ensures;
  prelude = c.prelude_names_are_printable.ensures;
})

pub returns-clause-narrow : goal.returns-clause-narrow
returns-clause-narrow c = names_narrow (record {
  spelled = c.tokens_are_spelled.ensures;
  readable = c.items_are_readable.ensures;
  printable = c.names_are_printable.ensures;
  among = c.mentions_are_among.ensures;
  few = c.names_are_few.ensures;
  small = c.mentions_are_small.ensures;
  firsts = c.firsts_are_names.ensures;
  come = c.mentions_come_from_the_source.ensures;
  plain = c.nothing_is_left.ensures;
  small_few = c.small_items_have_few_variables.ensures;
  put = c.mentions_are_put.ensures;
  keeps = record { plain = c.plain_heads_keep_names.ensures; stay = c.declared_heads_keep_names.ensures };
  declared = c.declarations_are_kept.ensures;
  changes = c.none_is_closed.ensures;
  variables = c.variables_are_few.ensures;
  closures = c.closures_are_few.ensures;
  places = c.names_tell_places.ensures;
  prelude = c.prelude_names_are_printable.ensures;
})
