-- What the routine does that splits a word into its letters. Hold it against docs/LANGUAGE.md, "Built-in queries" on splitting words, and `splits` of
-- dg_meaning/specs/Moves.antt.
use Rattle.std.specs.Prelude.{◌+◌, ◌*◌, [], ◌∷◌}
use Rattle.dg_meaning.specs.Substitutions.{walk, links}
use Rattle.dg_meaning.specs.Words.{letters_in_word, each_alone, spelled_list}
use Rattle.dg_rt.specs.declared.splitting.TheConstants.{SPLIT_ACTS}
use Rattle.dg_rt.specs.Making.{MakesOfLetters}

-- Of the letters of a value, looked up, the list of what each of them spells is made, in 5 instructions a link and 40 beside those for letters.
abbrev pub SplitWorks : Type 0
SplitWorks = MakesOfLetters SPLIT_ACTS (0 ∷ []) 5 22 (λ S v. Unit {0}) (λ words S v. letters_in_word words (walk S v))
    (λ words letters. spelled_list words (each_alone letters)) (λ S v. 5 * links S v + 40)
