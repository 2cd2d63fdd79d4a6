use Rattle.std.proofs.Common.{rules, ap, ◌∙◌}
use Rattle.std.specs.Prelude.{encode_utf8}
use Rattle.dg_texts.proofs.PrintLemmas.{letter_more, letters_end, room_left}
use Rattle.dg_texts.proofs.printing.text_into.Goals as goal

pub letters-preserved : goal.letters-preserved
letters-preserved g c = record {
  text = λ spelling at.
      letter_more spelling c.letters.buffer c.append.new.buffer c.as_bytes-text.result.now c.letters.at c.letters.len c.in-Some.letter (c.letters.invariant.text spelling at) (search rules)
      (c.as_bytes-text.ensures.value ∙ c.encode_utf8.ensures.value ∙ ap encode_utf8 c.letter_of.ensures) (search rules) c.append.ensures.written;
  room = c.append.ensures.len ∙ c.letters.invariant.room;
}

pub returns : goal.returns
returns g c = λ spelling at. letters_end spelling c.letters.buffer c.letters.at c.letters.len (c.letters.invariant.text spelling at) (search rules) at.short c.letters.invariant.room

pub append-requires : goal.append-requires
append-requires g c =
    let spelling = c.requires.0 in
    room_left spelling c.letters.buffer c.letters.at c.letters.len c.in-Some.letter _ (c.letters.invariant.text spelling c.requires.1) (search rules) c.requires.1.short c.letters.invariant.room (search rules)
