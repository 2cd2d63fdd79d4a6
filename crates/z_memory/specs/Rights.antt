-- What may be written, by the static base alone (Z-Machine Standard 1.1, section 1.1).
use Rattle.std.specs.Prelude.{ℕ, true}
use Rattle.z_model.specs.declared.story.Layout.{Layout}

-- a layout with this static base
abbrev pub based : ℕ → Layout
based base = record { globals = 64; base = base; checksum_right = true }
