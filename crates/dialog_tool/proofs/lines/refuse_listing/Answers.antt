use Rattle.dialog_tool.proofs.lines.refuse_listing.Goals as goal

pub returns : goal.returns
returns g c = rw (c.as_bytes.ensures.value, c.as_bytes-line.ensures.value, c.format.ensures.text) at c.say_refusal.ensures
