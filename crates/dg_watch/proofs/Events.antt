-- Events that are told one behind the other.
use Rattle.std.proofs.Common.{◌≡◌, ℕ, List, [], ◌∷◌, ◌++◌, refl, sym, ap, ◌∙◌, append_assoc}
use Rattle.std.proofs.lemmas.List.{append-nil}
use Rattle.dg_meaning.specs.World.{Print, Event, Prints, Asked, Answered, Retried, HasFailed, prints}
use Rattle.dg_meaning.specs.Render.{Met, nothing_met, met_behind, met_from}
use Rattle.dg_meaning.specs.Trace.{Entry, Asks, Answers, Retries, Fails, entries, written_entries}
use Rattle.dg_meaning.proofs.Dropping.{prints_append}
use Rattle.dg_watch.specs.Told.{Told, told_of, all_told, told_events, told_growth, told_behind}

pub all_told_on : (es fs : List Entry) → all_told (es ++ fs) ≡ all_told es ++ all_told fs
all_told_on [] fs = refl
all_told_on (e ∷ es) fs = ap (λ l. told_of e ++ l) (all_told_on es fs) ∙ sym (append_assoc (told_of e) (all_told es) (all_told fs))

entries_on : (m : Met) (es fs : List Event) → entries m (es ++ fs) ≡ entries m es ++ entries (met_from m (prints es)) fs
entries_on m [] fs = refl
entries_on m (Prints e ∷ es) fs =
    ap (λ l. written_entries m e ++ l) (entries_on (met_behind m e) es fs)
    ∙ sym (append_assoc (written_entries m e) (entries (met_behind m e) es) (entries (met_from (met_behind m e) (prints es)) fs))
entries_on m (Asked pred ∷ es) fs = ap (λ l. Asks pred ∷ l) (entries_on m es fs)
entries_on m (Answered pred ∷ es) fs = ap (λ l. Answers pred ∷ l) (entries_on m es fs)
entries_on m (Retried pred ∷ es) fs = ap (λ l. Retries pred ∷ l) (entries_on m es fs)
entries_on m (HasFailed pred ∷ es) fs = ap (λ l. Fails pred ∷ l) (entries_on m es fs)

met_on : (m : Met) (es fs : List Print) → met_from m (es ++ fs) ≡ met_from (met_from m es) fs
met_on m [] fs = refl
met_on m (e ∷ es) fs = met_on (met_behind m e) es fs

pub events_told_on : (es fs : List Event) → told_events (es ++ fs) ≡ told_events es ++ told_behind (prints es) fs
events_told_on es fs = ap all_told (entries_on nothing_met es fs) ∙ all_told_on (entries nothing_met es) (entries (met_from nothing_met (prints es)) fs)

pub told_behind_on : (es : List Print) (fs gs : List Event) → told_behind es (fs ++ gs) ≡ told_behind es fs ++ told_behind (es ++ prints fs) gs
told_behind_on es fs gs =
    let m = met_from nothing_met es in
    ap all_told (entries_on m fs gs ∙ ap (λ n. entries m fs ++ entries n gs) (sym (met_on nothing_met es (prints fs))))
    ∙ all_told_on (entries m fs) (entries (met_from nothing_met (es ++ prints fs)) gs)

-- one more thing alone
pub growth_behind : (es : List Print) (e : Print) → told_behind es (Prints e ∷ []) ≡ told_growth es e
growth_behind es e = ap all_told (append-nil (written_entries (met_from nothing_met es) e))
